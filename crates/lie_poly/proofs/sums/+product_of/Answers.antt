use Rattle.std.proofs.Common.{rules, length, ◌<◌, ◌≡◌, ◌++◌, subst, sym, ap, ap₂, ◌∙◌, arith, T}
use Rattle.std.specs.Prelude.{pos, IfOk}
use Rattle.lie_poly.specs.Terms.{Terms, term, is_canonical, size_of, collect, products}
use Rattle.lie_poly.specs.Canonical.{canonical-collect}
use Rattle.lie_poly.proofs.TermLemmas.{only_term}
use Rattle.lie_poly.proofs.ProductLemmas.{collect-times, collect-products, halves}
use Rattle.lie_poly.proofs.sums.+product_of.Goals as goal

pub returns-then-xs-eq1 : goal.returns-then-xs-eq1
returns-then-xs-eq1 t c =
    let xs = c.args.xs.now in
    let ys = c.args.ys.now in
    let d = term (pos 0, pos 0) (pos 0) in
    let only = only_term xs d c.if-xs-eq1.true in
    let value = collect-times _ ys (subst (λ zs. T (is_canonical zs)) only c.requires.xs) c.requires.ys ∙ ap (λ zs. collect (products zs ys)) (sym only) in
    subst (λ zs. IfOk c.multiples_of.result (λ m. m.items ≡ zs)) value c.multiples_of.ensures

pub product_of-requires : goal.product_of-requires
product_of-requires t c =
    let half = halves c.args.xs.now c.split_at.result.0.now c.split_at.result.1.now c.args.ys.now c.split_at.ensures.by_index.0 c.requires.xs c.requires.small c.requires.degree in
    let some : 0 < length c.args.xs.now = search rules in
    let shorter = c.split_at.ensures.front_len in
    (omega (arith, shorter, some, c.if-xs-eq1.false, c.decreases), (half.front_canonical, (c.requires.ys, (half.front_small, half.front_degree))))

pub product_of-requires-2 : goal.product_of-requires-2
product_of-requires-2 t c =
    let half = halves c.args.xs.now c.split_at.result.0.now c.split_at.result.1.now c.args.ys.now c.split_at.ensures.by_index.0 c.requires.xs c.requires.small c.requires.degree in
    let some : 0 < length c.args.xs.now = search rules in
    let shorter = c.split_at.ensures.back_len in
    (omega (arith, shorter, some, c.if-xs-eq1.false, c.decreases), (half.back_canonical, (c.requires.ys, (half.back_small, half.back_degree))))

pub sum_of-requires : goal.sum_of-requires
sum_of-requires t c =
    let ys = c.args.ys.now in
    let vs = c.split_at.result.0.now in
    let ws = c.split_at.result.1.now in
    let half = halves c.args.xs.now vs ws ys c.split_at.ensures.by_index.0 c.requires.xs c.requires.small c.requires.degree in
    let front = c.deref.ensures.value ∙ c.in_ok-left.ensures in
    let back = c.deref-2.ensures.value ∙ c.in_ok-right.ensures in
    record {
      xs = subst (λ zs. T (is_canonical zs)) (sym front) (canonical-collect (products vs ys));
      ys = subst (λ zs. T (is_canonical zs)) (sym back) (canonical-collect (products ws ys));
      small = omega (arith, half.sum_small, ap size_of front, ap size_of back);
    }

pub returns : goal.returns
returns t c =
    let ys = c.args.ys.now in
    let vs = c.split_at.result.0.now in
    let ws = c.split_at.result.1.now in
    let front = c.deref.ensures.value ∙ c.in_ok-left.ensures in
    let back = c.deref-2.ensures.value ∙ c.in_ok-right.ensures in
    let value = ap₂ (λ (a b : Terms). collect (a ++ b)) front back ∙ collect-products vs ws ys ∙ ap (λ zs. collect (products zs ys)) (sym c.split_at.ensures.by_index.0) in
    subst (λ zs. IfOk c.sum_of.result (λ sum. sum.items ≡ zs)) value c.sum_of.ensures
