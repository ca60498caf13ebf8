use Rattle.std.proofs.Common.{◌≡◌, ◌∙◌, ◌+◌, ◌*◌, ℕ, List, sym, ap, ap₂, subst, length, get_or}
use Rattle.std.proofs.lemmas.List.{with_items_is}
use Rattle.std.specs.Vec.{with_items}
use Rattle.lie_ring.specs.Rings.{sum_below}
use Rattle.lie_ring.specs.Matrices.{AllElem, EachElem, product}
use Rattle.lie_field.specs.Quotient.{mul}
use Rattle.lie_field.specs.FieldRing.{field_ring}
use Rattle.lie_dense.specs.Flat.{square_of}
use Rattle.lie_dense.proofs.FlatLemmas.{square-each, square-all, square-product}
use Rattle.lie_dense.proofs.matrices.Dense.mul.Goals.{After-drop-steps}
use Rattle.lie_dense.proofs.matrices.Dense.mul.Goals as goal

pub multiply_rows-requires-clause-a_elem : goal.multiply_rows-requires-clause-a_elem
multiply_rows-requires-clause-a_elem c =
    let f = c.args.field.now in
    subst (EachElem (field_ring f)) (sym c.deref-2.ensures.value) (square-each f c.self.inside.dim _ c.self.invariant.0 (subst (AllElem (field_ring f)) (sym c.self.view_is) c.requires.elem))

pub multiply_rows-requires-clause-b_elem : goal.multiply_rows-requires-clause-b_elem
multiply_rows-requires-clause-b_elem c =
    let f = c.args.field.now in
    subst (EachElem (field_ring f)) (sym c.deref-3.ensures.value) (square-each f c.b.inside.dim _ c.b.invariant.0 (subst (AllElem (field_ring f)) (sym c.b.view_is) c.requires.b_elem))

-- the array that was written
written : (c : After-drop-steps) → (with_items c.in_ok-entries.entries c.multiply_rows.new.answer).items ≡ c.multiply_rows.new.answer
written c = with_items_is c.in_ok-entries.entries c.multiply_rows.new.answer (c.multiply_rows.auto.answer ∙ c.deref_mut.ensures.len)

-- both matrices have the same dimension
same_dim : (c : After-drop-steps) → c.self.inside.dim ≡ c.b.inside.dim
same_dim c = ap (λ M. M.width) c.self.view_is ∙ c.requires.shape ∙ sym (ap (λ M. M.height) c.b.view_is)

pub returns-clause-value : goal.returns-clause-value
returns-clause-value c =
    let f = c.args.field.now in
    let n = c.self.inside.dim in
    let sums = λ (xs ys : List ℕ) (i j : ℕ). sum_below (field_ring f) n (λ k. mul f.given (get_or xs (i * n + k) 0) (get_or ys (k * n + j) 0)) in
    ap (square_of n) (written c)
    ∙ square-product f n c.self.inside.entries.items c.b.inside.entries.items c.multiply_rows.new.answer
    (λ i j p q. c.multiply_rows.ensures.products i j p q ∙ ap₂ (λ xs ys. sums xs ys i j) c.deref-2.ensures.value c.deref-3.ensures.value)
    ∙ ap₂ (product (field_ring f)) c.self.view_is (ap (λ m. square_of m c.b.inside.entries.items) (same_dim c) ∙ c.b.view_is)

pub returns-clause-elem : goal.returns-clause-elem
returns-clause-elem c =
    let f = c.args.field.now in
    let n = c.self.inside.dim in
    let whole : length c.multiply_rows.new.answer ≡ n * n = c.multiply_rows.auto.answer ∙ c.deref_mut.ensures.len ∙ c.in_ok-entries.ensures.len in
    subst (λ xs. AllElem (field_ring f) (square_of n xs)) (sym (written c)) (square-all f n c.multiply_rows.new.answer whole c.multiply_rows.ensures.answer_elem)
