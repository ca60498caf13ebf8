use Rattle.std.proofs.Common.{◌≡◌, ℕ, ◌+◌, ◌^◌, ◌≤◌, ℤ, ap, subst, sym, ◌∙◌, arith, lit<, unsigned_abs}
use Rattle.lie_const.specs.Filling.{table_in}
use Rattle.lie_const.specs.TermFilling.{IsWalked}
use Rattle.lie_const.proofs.ChainLemmas.{small_power, walk_start, walk_on, walk_stops}
use Rattle.lie_datum.specs.Vectors.{plus}
use Rattle.lie_datum.specs.RootList.{NamesRoot}
use Rattle.lie_const.specs.StructureConstants.{coeffs_of}
use Rattle.lie_const.specs.CommutatorTerms.{string_product}
use mir.Val.{to_z}
use mir.Syntax.{w128}
use Rattle.lie_const.proofs.Kept.{right_fits, right_kept}
use Rattle.lie_const.proofs.SpecialLemmas.{abs_number}
use Rattle.lie_const.proofs.terms.string_product.Goals as goal

pub loop-init : goal.loop-init
loop-init c = (walk_start c.args.datum.now c.loaded.ensures (table_in c.args.values.now) c.args.r c.args.s c.requires.r c.requires.s, omega arith)

pub sum-requires-clause-s : goal.sum-requires-clause-s
sum-requires-clause-s c = c.loop.invariant.0.number

pub returns-in_default-clause-value : goal.returns-in_default-clause-value
returns-in_default-clause-value c =
    let d = c.args.datum.now in
    walk_stops d c.loaded.ensures (table_in c.args.values.now) c.args.r c.args.s c.loop.counter c.args.count (to_z w128 c.loop.product-bits) c.loop.last c.requires.signs c.requires.r c.loop.invariant.0
    (subst (NamesRoot d (λ t. t.coeffs ≡ plus (coeffs_of d c.args.r) (coeffs_of d c.loop.last))) c.in_default.is c.sum.ensures) c.loop-test.true

pub n-product-requires-clause-r : goal.n-product-requires-clause-r
n-product-requires-clause-r c = abs_number c.args.datum.now c.args.values.now.positive c.args.r c.requires.values c.requires.r

pub n-product-requires-clause-s : goal.n-product-requires-clause-s
n-product-requires-clause-s c = abs_number c.args.datum.now c.args.values.now.positive c.loop.last c.requires.values c.loop.invariant.0.number

-- the product so far
small : (i : ℕ) (z : ℤ) → i ≤ 3 → unsigned_abs z ≤ 128 ^ i → unsigned_abs z ≤ 2097152
small i z l p = let h = small_power i l in omega (arith, p, h)

pub overflow_mul-product : goal.overflow_mul-product
overflow_mul-product c =
    right_fits (to_z w128 c.loop.product-bits) c.n-product.result 2097152 128 (small c.loop.counter (to_z w128 c.loop.product-bits) (let l = c.loop.invariant.1 in omega (arith, l)) c.loop.invariant.0.bound) c.n-product.ensures.bound (lit< tt) (lit< tt)

pub loop-preserved : goal.loop-preserved
loop-preserved c =
    let d = c.args.datum.now in
    let n = table_in c.args.values.now in
    let p = to_z w128 c.loop.product-bits in
    let kept = right_kept p c.n-product.result 2097152 128 (small c.loop.counter p (let l = c.loop.invariant.1 in omega (arith, l)) c.loop.invariant.0.bound) c.n-product.ensures.bound (lit< tt) (lit< tt) in (
      subst (λ t. IsWalked d n c.args.r c.args.s (c.loop.counter + 1) t c.in-Some.next) (sym kept)
          (walk_on d c.loaded.ensures n c.args.r c.args.s c.loop.counter p c.loop.last c.in-Some.next c.n-product.result c.requires.r c.requires.s c.loop.invariant.0 c.in-Some.ensures c.n-product.ensures.value c.n-product.ensures.bound),
      (let l = c.loop-test.true in omega (arith, l)),
    )

pub returns-clause-value : goal.returns-clause-value
returns-clause-value c =
    let d = c.args.datum.now in
    let n = table_in c.args.values.now in
    let l = c.loop-test.false in
    let e : c.loop.counter ≡ c.args.count = let m = c.loop.invariant.1 in omega (arith, l, m) in
    c.loop.invariant.0.value ∙ ap (string_product d n (coeffs_of d c.args.r) (coeffs_of d c.args.s)) e

pub returns-clause-bound : goal.returns-clause-bound
returns-clause-bound c = small c.loop.counter (to_z w128 c.loop.product-bits) (let l = c.loop.invariant.1 in let m = c.requires.count in omega (arith, l, m)) c.loop.invariant.0.bound
