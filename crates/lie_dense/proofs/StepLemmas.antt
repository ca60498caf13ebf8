-- The places of a table of sums.
use Rattle.std.proofs.Common.{◌≡◌, ℕ, ◌+◌, ◌*◌, ◌/◌, ◌%◌, ◌<◌, List, get_or, ap₂, ◌∙◌, arith}
use Rattle.std.proofs.lemmas.Nat.{mul-add-lt, div-mul-add, mod-mul-add}
use Rattle.lie_field.specs.FiniteField.{FiniteField}
use Rattle.lie_field.specs.Quotient.{order, add, mul}
use Rattle.lie_field.specs.Algebra.FieldTest.{is_lawful}
use Rattle.lie_field.specs.Algebra.Laws.{add_below}
use Rattle.lie_dense.specs.Steps.{step, HasSteps}

-- a place is below q^3
pub place_below : (q a x y : ℕ) → a < q → x < q → y < q → (a * q + x) * q + y < q * q * q
place_below q a x y i j k = let p = mul-add-lt (a * q + x) q y (q * q) (mul-add-lt a q x q i j) k in omega (arith, p)

-- the sum in a place
pub step-at : (f : FiniteField) (a x y : ℕ) → (let q = order f.given in a < q → x < q → y < q → step f ((a * q + x) * q + y) ≡ add f.given x (mul f.given a y))
step-at f a x y i j k =
    let q = order f.given in
    let front = div-mul-add (a * q + x) q y k in
    ap₂ (λ r s. add f.given (r % q) (mul f.given (r / q) s)) front (mod-mul-add (a * q + x) q y k)
    ∙ ap₂ (λ r s. add f.given r (mul f.given s y)) (mod-mul-add a q x j) (div-mul-add a q x j)

-- what is read from the table
pub step-read : (f : FiniteField) (steps : List ℕ) → HasSteps f steps → (a x y : ℕ) → (let q = order f.given in a < q → x < q → y < q → get_or steps ((a * q + x) * q + y) 0 ≡ add f.given x (mul f.given a y))
step-read f steps has a x y i j k =
    let p = place_below (order f.given) a x y i j k in
    has.each ((a * order f.given + x) * order f.given + y) (omega (arith, p, has.count)) ∙ step-at f a x y i j k

-- a sum is below q
pub step-below : (f : FiniteField) (a x y : ℕ) → add f.given x (mul f.given a y) < order f.given
step-below f a x y = add_below f.given (is_lawful f).ring x (mul f.given a y)
