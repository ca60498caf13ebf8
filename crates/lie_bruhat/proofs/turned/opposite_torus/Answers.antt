use Rattle.std.proofs.Common.{◌≡◌, ◌∷◌, [], neg_ℤ, pos, refl, sym, ap, subst, ◌∙◌}
use Rattle.lie_datum.specs.RootDatum.{covector}
use Rattle.lie_datum.specs.RootList.{root_of}
use Rattle.lie_field.specs.Quotient.{neg, inv}
use Rattle.lie_letters.specs.Entries.{cocharacter}
use Rattle.lie_letters.specs.GroupSpelled.{JoinedInGroup}
use Rattle.lie_letters.specs.SignedFrames.{unsigned}
use Rattle.lie_letters.specs.Spelled.{IsWordOver}
use Rattle.lie_letters.specs.declared.letter.Letter.TheVariants.{X, H, N}
use Rattle.lie_letters.proofs.CallerLemmas.{JoinedInGroup-over}
use Rattle.lie_bruhat.proofs.OppositeLemmas.{opposite_joined, minus_inverse_apart}
use Rattle.lie_bruhat.proofs.turned.opposite_torus.Goals as goal

pub coroot-requires-clause-not_zero : goal.coroot-requires-clause-not_zero
coroot-requires-clause-not_zero c = λ e.
    let f = c.args.frame.now in
    minus_inverse_apart f c.lawful.ensures c.args.c c.requires.below c.requires.nonzero
    (subst (λ z. neg z.field.given (inv z.field.given c.args.c) ≡ 0) c.frame.view_is (sym (c.neg.ensures.value ∙ ap (neg c.frame.inside.field.given) c.inv-a.ensures.value) ∙ e))

whole : (c : goal.After-coroot) → JoinedInGroup c.args.frame.now (X (neg_ℤ (pos c.args.i)) c.args.c ∷ [])
    (X (pos c.args.i) (inv c.args.frame.now.field.given c.args.c) ∷ H c.coroot.result ∷ N c.args.i ∷ X (pos c.args.i) (inv c.args.frame.now.field.given c.args.c) ∷ [])
whole c =
    let f = c.args.frame.now in
    let r = c.simple-r.result in
    let a = inv f.field.given c.args.c in
    subst (λ k. JoinedInGroup f (X (neg_ℤ (pos c.args.i)) c.args.c ∷ []) (X k a ∷ H c.coroot.result ∷ N c.args.i ∷ X k a ∷ [])) c.simple-r.ensures.value
    (opposite_joined f c.lawful.ensures c.args.i r c.args.c a c.neg.result c.coroot.result c.requires.index c.requires.below c.requires.nonzero c.simple-r.ensures.value refl
    (subst (λ z. c.neg.result ≡ neg z.field.given (inv z.field.given c.args.c)) c.frame.view_is (c.neg.ensures.value ∙ ap (neg c.frame.inside.field.given) c.inv-a.ensures.value))
    (subst (λ z. c.coroot.result ≡ cocharacter z.field z.datum.base.dim (covector z.datum.base (root_of z.datum r)) c.neg.result) c.frame.view_is c.coroot.ensures))

over : (c : goal.After-coroot) → IsWordOver (unsigned c.args.frame.now)
    (X (pos c.args.i) (inv c.args.frame.now.field.given c.args.c) ∷ H c.coroot.result ∷ N c.args.i ∷ X (pos c.args.i) (inv c.args.frame.now.field.given c.args.c) ∷ [])
over c =
    let a = inv c.args.frame.now.field.given c.args.c in
    JoinedInGroup-over c.args.frame.now (X (neg_ℤ (pos c.args.i)) c.args.c ∷ []) (X (pos c.args.i) a ∷ H c.coroot.result ∷ N c.args.i ∷ X (pos c.args.i) a ∷ []) (whole c)

pub returns-clause-units : goal.returns-clause-units
returns-clause-units c = (over c).1.0.1

pub returns-clause-long : goal.returns-clause-long
returns-clause-long c = (over c).1.0.0

pub returns-clause-joined : goal.returns-clause-joined
returns-clause-joined c = whole c
