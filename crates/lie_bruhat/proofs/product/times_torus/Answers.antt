use Rattle.std.proofs.Common.{◌≡◌, ◌++◌, ◌∷◌, [], map, ap, sym, subst, ◌∙◌}
use Rattle.std.specs.Prelude.{ℕ, slice_index_or}
use Rattle.lie_letters.specs.declared.letter.Letter.TheVariants.{H, N}
use Rattle.lie_letters.specs.GroupSpelled.{JoinedInGroup}
use Rattle.lie_letters.specs.SignedFrames.{SignedFrame}
use Rattle.lie_unip.specs.Forms.{IsForm}
use Rattle.lie_weyl.specs.WeylElement.{IsLeastWord}
use Rattle.lie_bruhat.specs.Products.{IsTimes}
use Rattle.lie_bruhat.proofs.ListLemmas.{letters}
use Rattle.lie_bruhat.proofs.SettledLemmas.{torus_product, torus_form, torus_times}
use Rattle.lie_bruhat.proofs.product.times_torus.Goals as goal

pub new-requires : goal.new-requires
new-requires c =
    let f = c.args.frame.now in
    let x = c.args.f.now in
    let product = torus_product f c.lawful.ensures c.frame.inside.field c.h.result.now x.torus c.torus_past_word.result c.mul-h.result (ap (λ (z : SignedFrame). z.field) c.frame.view_is) c.h.ensures c.requires.form.long c.mul-h.ensures.joined in
    let form =
    torus_form f c.lawful.ensures x c.torus_past_word.result c.mul-h.result c.in_ok-v.v c.requires.form product c.in_ok-v.ensures.entries
    (subst (λ v. (k : ℕ) → slice_index_or v k 0 ≡ 0 → slice_index_or c.in_ok-v.v k 0 ≡ 0) c.v.ensures c.in_ok-v.ensures.zeros) in
    subst (λ i. IsForm f (record { first = i; torus = c.mul-h.result; weyl = c.w-2.result.now; second = c.in_ok-v.v })) (sym (c.in_ok-u.ensures ∙ c.u.ensures))
    (subst (λ i. IsForm f (record { first = x.first; torus = c.mul-h.result; weyl = i; second = c.in_ok-v.v })) (sym c.w-2.ensures) form)

pub returns-clause-times : goal.returns-clause-times
returns-clause-times c =
    let f = c.args.frame.now in
    let x = c.args.f.now in
    let t = c.args.t.now in
    let product = torus_product f c.lawful.ensures c.frame.inside.field c.h.result.now x.torus c.torus_past_word.result c.mul-h.result (ap (λ (z : SignedFrame). z.field) c.frame.view_is) c.h.ensures c.requires.form.long c.mul-h.ensures.joined in
    let form =
    torus_form f c.lawful.ensures x c.torus_past_word.result c.mul-h.result c.in_ok-v.v c.requires.form product c.in_ok-v.ensures.entries
    (subst (λ v. (k : ℕ) → slice_index_or v k 0 ≡ 0 → slice_index_or c.in_ok-v.v k 0 ≡ 0) c.v.ensures c.in_ok-v.ensures.zeros) in
    let p = c.in_ok-word.word.items in
    let least = subst (λ w. IsLeastWord f.datum p w) c.w.ensures (subst (λ z. IsLeastWord z.datum p c.w.result.now) c.frame.view_is c.in_ok-word.ensures) in
    let passes = subst (λ w. JoinedInGroup f (map N w ++ H t ∷ []) (H c.torus_past_word.result ∷ map N w)) c.deref.ensures.value c.torus_past_word.ensures.joined in
    let behind = subst (λ v. JoinedInGroup f (letters v ++ H t ∷ []) (H t ∷ letters c.in_ok-v.v)) c.v.ensures c.in_ok-v.ensures.joined in
    subst (IsTimes f x (H t ∷ [])) (sym c.new.ensures)
    (subst (λ i. IsTimes f x (H t ∷ []) (record { first = i; torus = c.mul-h.result; weyl = c.w-2.result.now; second = c.in_ok-v.v })) (sym (c.in_ok-u.ensures ∙ c.u.ensures))
    (subst (λ i. IsTimes f x (H t ∷ []) (record { first = x.first; torus = c.mul-h.result; weyl = i; second = c.in_ok-v.v })) (sym c.w-2.ensures)
    (torus_times f c.lawful.ensures x t c.torus_past_word.result c.mul-h.result c.in_ok-v.v p form (least.spells, least.shortest) passes product behind)))
