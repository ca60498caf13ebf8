use Rattle.std.proofs.Common.{◌≡◌, ℕ, ◌-◌, ◌<◌, sym, arith}
use mathlib.Core.Logic.{⊎_elim}
use Rattle.std.proofs.lemmas.Bool.{cases_eq, cases_lt}
use Rattle.lie_field.specs.Quotient.{FieldData, order, power, IsFieldData}
use Rattle.lie_field.specs.Algebra.FieldTest.{is_lawful}
use Rattle.lie_field.specs.Algebra.Powers.{power_below, power_of_g}
use Rattle.lie_field.proofs.Exponents.{power_not_zero}
use Rattle.lie_field.proofs.laws.generators_generate.Goals as goal

once : (f : FieldData) (d : IsFieldData f) (i j : ℕ) → i < order f - 1 → j < order f - 1 → power f f.g i ≡ power f f.g j → i ≡ j
once f d i j l m e =
    ⊎_elim (λ same. same) (λ apart.
    ⊎_elim
    (λ low. absurd ((d.powers_new j m).1 i low e))
    (λ high. absurd ((d.powers_new i l).1 j (omega (arith, apart, high)) (sym e)))
    (cases_lt i j))
    (cases_eq i j)

pub returns : goal.returns
returns c f =
    let d = is_lawful f in
    record {
      not_zero = power_not_zero f.given d;
      below = power_below f.given d.ring f.given.g;
      all = λ a small not_zero. power_of_g f.given d a (let above : 0 < a = omega (arith, not_zero) in above) small;
      once = once f.given d;
    }
