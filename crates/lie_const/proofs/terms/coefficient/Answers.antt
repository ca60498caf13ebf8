use Rattle.std.proofs.Common.{◌*◌, ◌^◌, ◌≤◌, pos, negsuc, ◌*ℤ◌, ap, subst, sym, ◌∙◌, arith, lit<, lit≤, unsigned_abs}
use Rattle.lie_datum.proofs.VectorLemmas.{abs_mul, plain}
use Rattle.lie_const.specs.StructureConstants.{coeffs_of}
use Rattle.lie_const.specs.CommutatorTerms.{coefficient, sign, string_product}
use Rattle.lie_const.specs.Filling.{table_in}
use Rattle.lie_const.proofs.ChainLemmas.{plus-comm}
use Rattle.lie_const.proofs.Kept.{product_fits, product_kept, right_kept, kept_bounds}
use Rattle.lie_const.proofs.TermLemmas.{coefficient-one}
use Rattle.lie_const.proofs.terms.coefficient.Goals as goal

pub overflow_mul-result : goal.overflow_mul-result
overflow_mul-result c = product_fits c.sign.result c.string_product-then-i-eq1.result 1 2097152 c.sign.ensures.bound c.string_product-then-i-eq1.ensures.bound (lit< tt) (lit< tt) (lit< tt)

pub returns-then-j-eq1-clause-bound : goal.returns-then-j-eq1-clause-bound
returns-then-j-eq1-clause-bound c = kept_bounds c.string_product.result c.factorial.result 2097152 c.string_product.ensures.bound (lit≤ tt) c.factorial.ensures.bound

pub returns-then-i-eq1-clause-above : goal.returns-then-i-eq1-clause-above
returns-then-i-eq1-clause-above c =
    let d = c.args.datum.now in
    let n = table_in c.args.values.now in
    let r = coeffs_of d c.args.r in
    let s = coeffs_of d c.args.s in
    product_kept c.sign.result c.string_product-then-i-eq1.result 1 2097152 c.sign.ensures.bound c.string_product-then-i-eq1.ensures.bound (lit< tt) (lit< tt) (lit< tt)
    ∙ ap (λ t. t *ℤ c.string_product-then-i-eq1.result) c.sign.ensures.value ∙ ap (λ t. sign c.args.j *ℤ t) c.string_product-then-i-eq1.ensures.value
    ∙ sym (ap (λ t. t.above) (ap (λ i. coefficient d n r s i c.args.j) c.if-i-eq1.true ∙ coefficient-one d n r s c.args.j c.if-j-eq1.false))

pub returns-then-i-eq1-clause-bound : goal.returns-then-i-eq1-clause-bound
returns-then-i-eq1-clause-bound c =
    let kept = product_kept c.sign.result c.string_product-then-i-eq1.result 1 2097152 c.sign.ensures.bound c.string_product-then-i-eq1.ensures.bound (lit< tt) (lit< tt) (lit< tt) in
    let l = abs_mul c.sign.result c.string_product-then-i-eq1.result 1 2097152 c.sign.ensures.bound c.string_product-then-i-eq1.ensures.bound in
    let b = kept_bounds (c.sign.result *ℤ c.string_product-then-i-eq1.result) c.factorial-then-i-eq1.result (1 * 2097152) l (lit≤ tt) c.factorial-then-i-eq1.ensures.bound in
    (subst (λ t. unsigned_abs t ≤ 2 ^ 40) (sym kept) (omega (arith, l)), b.1, b.2)

pub returns-then-j-eq3-clause-above : goal.returns-then-j-eq3-clause-above
returns-then-j-eq3-clause-above c =
    let d = c.args.datum.now in
    let n = table_in c.args.values.now in
    let r = coeffs_of d c.args.r in
    let s = coeffs_of d c.args.s in
    right_kept (negsuc 1) c.string_product-then-j-eq3.result 2 2097152 (lit≤ tt) c.string_product-then-j-eq3.ensures.bound (lit< tt) (lit< tt)
    ∙ ap (λ t. negsuc 1 *ℤ t) (c.string_product-then-j-eq3.ensures.value ∙ ap (λ v. string_product d n v s 2) (c.requires.sum.is ∙ plus-comm r s))
    ∙ sym (ap (λ i. (coefficient d n r s i c.args.j).above) c.if-i-eq2.true ∙ ap (λ j. (coefficient d n r s 2 j).above) c.if-j-eq3.true)

pub returns-then-i-eq1-clause-below : goal.returns-then-i-eq1-clause-below
returns-then-i-eq1-clause-below c =
    let d = c.args.datum.now in
    let n = table_in c.args.values.now in
    let r = coeffs_of d c.args.r in
    let s = coeffs_of d c.args.s in
    plain c.factorial-then-i-eq1.result 6 c.factorial-then-i-eq1.ensures.bound.1 (lit< tt) ∙ c.factorial-then-i-eq1.ensures.value
    ∙ sym (ap (λ t. pos t.below) (ap (λ i. coefficient d n r s i c.args.j) c.if-i-eq1.true ∙ coefficient-one d n r s c.args.j c.if-j-eq1.false))
