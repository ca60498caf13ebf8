use Rattle.std.proofs.Common.{◌≡◌, ◌<◌, pos, suc, length, get_or, drop, sym, ap, ◌∙◌, subst, arith, add-one}
use Rattle.std.proofs.lemmas.Int.{to_z-of_z}
use Rattle.std.proofs.lemmas.List.{get_or_default}
use Rattle.lie_field.specs.Quotient.{order, mul, power_int}
use Rattle.lie_field.specs.Elements.{order_large}
use Rattle.lie_letters.specs.Entries.{IsUnit, AreUnits, character}
use Rattle.lie_letters.proofs.CharacterLemmas.{IsUnit-character, character_step, character_end, one_times, times_one}
use Rattle.lie_letters.proofs.torus.Torus.char_of.Goals as goal

pub loop-j-init : goal.loop-j-init
loop-j-init c =
    let f = c.args.field.now in
    let t = c.entries-entries.result.now in
    let below : character f t c.args.v.now < order f.given = (IsUnit-character f t c.args.v.now (subst (AreUnits f) (sym c.entries-entries.ensures.entries) c.requires)).1 in (
      ap (λ a. mul f.given a (character f t c.args.v.now)) c.one_of-value.ensures ∙ one_times f (character f t c.args.v.now) below,
      (let e = c.one_of-value.ensures in let l = order_large f in omega (arith, e, l)),
    )

pub loop-j-preserved : goal.loop-j-preserved
loop-j-preserved c =
    let f = c.args.field.now in
    let t = c.entries-entries.result.now in
    let v = c.args.v.now in
    let j = c.loop-j.j in
    let exponent : c.pow.result ≡ power_int f.given c.index-entries-j.result (get_or v j (pos 0)) = grind (arith, to_z-of_z) in
    let entry : c.index-entries-j.result ≡ get_or t j 0 = c.index-entries-j.is ∙ get_or_default t j c.index-entries-j.result 0 c.loop-j-test.true in
    let factor : c.mul-value.result ≡ mul f.given c.loop-j.value (power_int f.given (get_or t j 0) (get_or v j (pos 0))) =
    c.mul-value.ensures.value ∙ ap (mul f.given c.loop-j.value) (exponent ∙ ap (λ a. power_int f.given a (get_or v j (pos 0))) entry) in
    let within : j < 8 = let a = c.loop-j-test.true in let b = c.entries-entries.ensures.at_most_eight in let d = ap length c.entries-entries.ensures.entries in omega (arith, a, b, d) in
    let step = character_step f c.loop-j.value t v j c.loop-j-test.true (let l = c.told-v in omega (arith, l, within)) in
    rw add-one (ap (λ a. mul f.given a (character f (drop (suc j) t) (drop (suc j) v))) factor ∙ step ∙ c.loop-j.invariant.0, c.mul-value.ensures.below)

pub returns-clause-value : goal.returns-clause-value
returns-clause-value c =
    let f = c.args.field.now in
    let t = c.entries-entries.result.now in
    sym (times_one f c.loop-j.value c.loop-j.invariant.1)
    ∙ ap (mul f.given c.loop-j.value) (sym (character_end f t c.args.v.now c.loop-j.j c.loop-j-test.false))
    ∙ c.loop-j.invariant.0
    ∙ ap (λ s. character f s c.args.v.now) c.entries-entries.ensures.entries

pub returns-clause-unit : goal.returns-clause-unit
returns-clause-unit c =
    subst (IsUnit c.args.field.now) (sym (returns-clause-value c)) (IsUnit-character c.args.field.now c.args.self.now c.args.v.now c.requires)
