-- X_i(1) X_-i(-1) X_i(1) e_s, in the row of e_(s_i s).
use Rattle.std.proofs.Common.{◌≡◌, ◌≤◌, unsigned_abs, pos, negsuc, neg_ℤ, ◌*ℤ◌, sym, ap, ap₂, subst, ◌∙◌, arith, lit<}
use Rattle.lie_datum.proofs.VectorLemmas.{plain}
use Rattle.lie_ring.specs.Rings.{sum_below}
use Rattle.lie_ring.specs.Integers.{integers}
use Rattle.lie_ring.specs.Matrices.{entry}
use Rattle.lie_datum.specs.RootDatum.{reflected}
use Rattle.lie_datum.specs.RootList.{root_of}
use Rattle.lie_const.specs.Modules.{dimension, root_element_entry, weyl_element}
use Rattle.lie_const.specs.Adjoint.{basis_place}
use Rattle.lie_const.specs.Signs.{image}
use Rattle.lie_weight.proofs.NumberOf.{number_of-root}
use Rattle.lie_audit.specs.SignParts.{Lists, IsWithinList, row_value, entry_bound}
use Rattle.lie_audit.proofs.EntrySums.{weyl-entry}
use Rattle.lie_audit.proofs.ListLemmas.{lists-within, double-row}
use Rattle.lie_audit.proofs.entries.weyl_entry.Goals as goal

pub row_product-requires-clause-within : goal.row_product-requires-clause-within
row_product-requires-clause-within c =
    subst (IsWithinList 100000000) (sym c.deref-2.ensures.value)
    (lists-within (dimension c.args.adjoint.now) (λ i. row_value c.args.adjoint.now c.opposite.result (negsuc 0) i c.deref.result.now) 100000000 c.in_ok-second.second.items c.in_ok-second.ensures)

pub returns-clause-value : goal.returns-clause-value
returns-clause-value c =
    let d = c.args.datum.now in
    let v = c.args.adjoint.now in
    let i = c.args.i in
    let s = c.args.s in
    let up = c.simple-up.result in
    let down = c.opposite.result in
    let xs = c.deref.result.now in
    let ys = c.deref-2.result.now in
    let n = dimension v in
    let row = c.place_in_basis-row in
    let col = c.place_in_basis in
    let dim = c.requires.dimension in
    let first = subst (Lists n (λ j. root_element_entry integers v up (pos 1) j col.result) 601) (sym c.deref.ensures.value) c.in_ok-first.ensures in
    let second = subst (Lists n (λ j. row_value v down (negsuc 0) j xs) 100000000) (sym c.deref-2.ensures.value) c.in_ok-second.ensures in
    let image_is : image d i s ≡ c.reflect.result = number_of-root d c.loaded.ensures (reflected d.base i (root_of d s)).coeffs c.reflect.result c.reflect.ensures.number (ap (λ r. r.coeffs) c.reflect.ensures.root) in
    let up_is = c.simple-up.ensures.value in
    let down_is : down ≡ neg_ℤ (pos i) = c.opposite.ensures ∙ ap neg_ℤ up_is in
    plain c.row_product.result entry_bound c.row_product.ensures.size (lit< tt)
    ∙ c.row_product.ensures.value ∙ double-row v up down row.result col.result xs ys first second
    ∙ ap₂ (λ a b. sum_below integers n (λ p. root_element_entry integers v a (pos 1) row.result p *ℤ
    sum_below integers n (λ q. root_element_entry integers v b (negsuc 0) p q *ℤ root_element_entry integers v a (pos 1) q col.result))) up_is down_is
    ∙ sym (weyl-entry v i row.result col.result (let w = row.ensures.within in omega (arith, w, dim)) (let w = col.ensures.within in omega (arith, w, dim)))
    ∙ ap₂ (entry (pos 0) (weyl_element integers v i)) (row.ensures.value ∙ ap (basis_place d) (sym image_is)) col.ensures.value

pub returns-clause-size : goal.returns-clause-size
returns-clause-size c = subst (λ z. unsigned_abs z ≤ entry_bound) (sym (plain c.row_product.result entry_bound c.row_product.ensures.size (lit< tt))) c.row_product.ensures.size
