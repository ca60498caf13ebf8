use Rattle.std.proofs.Common.{◌≡◌, ◌+◌, ◌<◌, ◌≤◌, ◌∷◌, [], length, take, get_or, pos, ap, sym, subst, ◌∙◌}
use Rattle.lie_datum.proofs.VectorLemmas.{take_whole}
use Rattle.lie_datum.specs.Numbers.{number_at}
use Rattle.lie_letters.specs.Entries.{inverses}
use Rattle.lie_letters.specs.GroupSpelled.{JoinedInGroup}
use Rattle.lie_letters.specs.SignedFrames.{SignedFrame}
use Rattle.lie_letters.specs.declared.letter.Letter.TheVariants.{X, H}
use Rattle.lie_bruhat.proofs.ListLemmas.{AreScaled, scaled_none, scaled_more, scaled_entries, scaled_zeros, scaled_passes, inverse_torus, at_place, place_number, read_within}
use Rattle.lie_bruhat.proofs.product.scaled.Goals as goal

pub loop-k-init : goal.loop-k-init
loop-k-init c =
    let f = c.args.frame.now in
    let is = subst (λ z. c.inv-back.result ≡ inverses z.field c.args.t.now) c.frame.view_is c.inv-back.ensures.entries in
    let back = inverse_torus f c.lawful.ensures c.args.t.now c.inv-back.result c.requires.long c.requires.units is in
    subst (λ v. AreScaled f c.inv-back.result [] v) (sym c.new-scaled.ensures.items) (scaled_none f c.lawful.ensures c.inv-back.result c.args.v.now back.0 back.1)

pub past_torus-requires-clause-units : goal.past_torus-requires-clause-units
past_torus-requires-clause-units c =
    let f = c.args.frame.now in
    let is = subst (λ z. c.inv-back.result ≡ inverses z.field c.args.t.now) c.frame.view_is c.inv-back.ensures.entries in
    (inverse_torus f c.lawful.ensures c.args.t.now c.inv-back.result c.requires.long c.requires.units is).1

pub past_torus-requires-clause-root : goal.past_torus-requires-clause-root
past_torus-requires-clause-root c =
    let f = c.args.frame.now in
    let k = c.loop-k.k in
    let inside = subst (λ v. k < length v) c.entries-entries.ensures c.loop-k-test.true in
    place_number f c.lawful.ensures k c.at.result (subst (λ n. k < n) c.requires.entries.count inside)
    (c.at.ensures ∙ ap (λ i. number_at i k) (c.m-m.ensures.value ∙ ap (λ (z : SignedFrame). length z.datum.positive) c.frame.view_is))

pub loop-k-preserved : goal.loop-k-preserved
loop-k-preserved c =
    let f = c.args.frame.now in
    let u = c.args.v.now in
    let k = c.loop-k.k in
    let t = c.inv-back.result in
    let a = c.index-entries-k.result in
    let new = c.past_torus in
    let b = new.result.a in
    let inside : k < length u = subst (λ v. k < length v) c.entries-entries.ensures c.loop-k-test.true in
    let value = c.index-entries-k.is ∙ ap (λ v. get_or v k a) c.entries-entries.ensures ∙ read_within u k a 0 inside in
    let place : c.at.result ≡ pos (k + 1) =
    c.at.ensures ∙ ap (λ i. number_at i k) (c.m-m.ensures.value ∙ ap (λ (z : SignedFrame). length z.datum.positive) c.frame.view_is)
    ∙ at_place f c.lawful.ensures k (subst (λ n. k < n) c.requires.entries.count inside) in
    let passes =
    subst (λ r. JoinedInGroup f (H t ∷ X r a ∷ []) (X r b ∷ H t ∷ [])) place
    (subst (λ r. JoinedInGroup f (H t ∷ X c.at.result a ∷ []) (X r b ∷ H t ∷ [])) new.ensures.root new.ensures.joined) in
    subst (λ v. AreScaled f t (take (k + 1) u) v) (sym c.in_ok-push.ensures.items)
    (scaled_more f c.lawful.ensures t u k a b c.loop-k.scaled.items inside value new.ensures.below new.ensures.zero passes c.loop-k.invariant)

-- the whole list
whole : (c : goal.After-of) → AreScaled c.args.frame.now c.inv-back.result c.args.v.now c.of.result
whole c =
    let f = c.args.frame.now in
    let k = c.loop-k.k in
    let all = take_whole k c.args.v.now (subst (λ v. length v ≤ k) c.entries-entries.ensures c.loop-k-test.false) in
    subst (λ v. AreScaled f c.inv-back.result c.args.v.now v) (sym c.of.ensures) (subst (λ u. AreScaled f c.inv-back.result u c.loop-k.scaled.items) all c.loop-k.invariant)

pub returns-clause-entries : goal.returns-clause-entries
returns-clause-entries c = scaled_entries c.args.frame.now c.lawful.ensures c.inv-back.result c.args.v.now c.of.result c.requires.entries (whole c)

pub returns-clause-zeros : goal.returns-clause-zeros
returns-clause-zeros c = scaled_zeros c.args.frame.now c.lawful.ensures c.inv-back.result c.args.v.now c.of.result (whole c)

pub returns-clause-joined : goal.returns-clause-joined
returns-clause-joined c =
    scaled_passes c.args.frame.now c.lawful.ensures c.args.t.now c.inv-back.result c.args.v.now c.of.result c.requires.long c.requires.units
    (subst (λ z. c.inv-back.result ≡ inverses z.field c.args.t.now) c.frame.view_is c.inv-back.ensures.entries) c.requires.entries (whole c)
