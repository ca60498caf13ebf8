use Rattle.std.proofs.Common.{◌*ℤ◌, ap₂, ◌∙◌, lit<}
use Rattle.lie_datum.proofs.VectorLemmas.{abs_mul, fits, plain}
use Rattle.lie_audit.proofs.braids.cartan_product.Goals as goal

pub overflow_mul-result : goal.overflow_mul-result
overflow_mul-result c =
    let x = c.cartan_integer in
    let y = c.cartan_integer-2 in
    rw (plain x.result 80000 x.ensures.bound (lit< tt), plain y.result 80000 y.ensures.bound (lit< tt)) (fits (x.result *ℤ y.result) 6400000000 (abs_mul x.result y.result 80000 80000 x.ensures.bound y.ensures.bound) (lit< tt))

pub returns : goal.returns
returns c =
    let x = c.cartan_integer in
    let y = c.cartan_integer-2 in
    rw (plain x.result 80000 x.ensures.bound (lit< tt), plain y.result 80000 y.ensures.bound (lit< tt))
    (plain (x.result *ℤ y.result) 6400000000 (abs_mul x.result y.result 80000 80000 x.ensures.bound y.ensures.bound) (lit< tt)
    ∙ ap₂ (λ a b. a *ℤ b) x.ensures.value y.ensures.value)
