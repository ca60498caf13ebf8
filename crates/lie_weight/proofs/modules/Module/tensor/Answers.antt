-- The tensor product, or why there is none.
use Rattle.std.proofs.Common.{ℕ, ◌+◌, ◌*◌, ◌<◌, ℤ, List, ap₂, subst, ◌∙◌, arith}
use Rattle.std.specs.Prelude.{MatchOption}
use Rattle.lie_datum.specs.Vectors.{Vector}
use Rattle.lie_weight.specs.OrbitFaults.{IsHeavyAt}
use Rattle.lie_weight.specs.Tensors.{IsHugeTensor, IsFirstHugeTensor}
use Rattle.lie_weight.proofs.TensorPlaces.{light_all}
use Rattle.lie_weight.proofs.modules.Module.tensor.Goals as goal

pub returns-in-Some : goal.returns-in-Some
returns-in-Some c =
    let n = ap₂ (λ x y. x * y) c.dim.ensures.value c.dim-2.ensures.value in
    let f = c.if-count-gt-LIMIT.false in
    let same = c.deref.ensures.value ∙ c.in_ok-weights.ensures in (
      omega (arith, f, n),
      record {
        heavy = subst (λ (t : List Vector). IsHeavyAt t (c.in-Some.at + 1)) same c.in-Some.ensures.here;
        before = subst (λ (t : List Vector). (b : ℕ) → b < c.in-Some.at + 1 → ¬ IsHeavyAt t b) same c.in-Some.ensures.before;
      },
    )

pub product-requires-clause-light : goal.product-requires-clause-light
product-requires-clause-light c = light_all c.in_ok-weights.weights.items (subst (λ (t : List Vector). (a : ℕ) → ¬ IsHeavyAt t a) c.deref.ensures.value c.in_default.ensures.here)

pub returns-in-Some-2 : goal.returns-in-Some-2
returns-in-Some-2 c =
    let d = c.args.datum.now in
    let v = c.args.a.now in
    let w = c.args.b.now in
    let n = ap₂ (λ x y. x * y) c.dim.ensures.value c.dim-2.ensures.value in
    let f = c.if-count-gt-LIMIT.false in (
      omega (arith, f, n),
      subst (λ (t : List Vector). (a : ℕ) → ¬ IsHeavyAt t a) (c.deref.ensures.value ∙ c.in_ok-weights.ensures) c.in_default.ensures.here,
      subst (λ o. MatchOption o ((r : ℤ) (k : ℕ) → ¬ IsHugeTensor d v w r k) (λ p. IsFirstHugeTensor d v w p.0 p.1)) c.in-Some-2.is c.in_ok-place.ensures,
    )
