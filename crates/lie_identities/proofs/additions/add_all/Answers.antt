use Rattle.std.proofs.Common.{◌<◌, ◌+◌, ◌^◌, ◌∷◌, ℕ, drop, refl, sym, ap, subst, ◌∙◌}
use Rattle.lie_ring.specs.Matrices.{entry, IsShaped}
use Rattle.lie_ring.specs.MatrixLemmas.{table-shaped}
use Rattle.lie_poly.specs.Polynomials.{laurent, plus, size, Polynomial}
use Rattle.lie_poly.specs.LaurentLaws.{laurent_ring}
use Rattle.lie_identities.specs.Additions.{added_in, size_in, AreAdditions}
use Rattle.lie_identities.proofs.AdditionLemmas.{rest-next, rest-end, value-left, size-left}
use Rattle.lie_identities.proofs.additions.add_all.Goals as goal

pub loop-addition-preserved : goal.loop-addition-preserved
loop-addition-preserved c =
    let xs = c.args.additions.now in
    let k = c.loop-addition.addition-index in
    let h = c.args.column.now.height in
    let old = c.loop-addition.column in
    let now = c.add.new.column in
    let i = c.loop-addition.invariant in
    let x : ℕ × Polynomial = c.addition-item.result in
    let next = rest-next xs k x c.loop-addition-test.true ∙ ap (λ z. z ∷ drop (k + 1) xs) (sym c.addition-item.is) in
    let list : AreAdditions laurent h (x ∷ drop (k + 1) xs) = subst (AreAdditions laurent h) next i.rest in
    let new = c.in_ok-add.ensures.value in
    record {
      column = record {
        height = ap (λ M. M.height) new ∙ i.column.height;
        width = ap (λ M. M.width) new ∙ i.column.width;
        shaped = subst (IsShaped laurent.zero) (sym new) (table-shaped laurent.zero old.height old.width _);
        fit = c.in_ok-add.ensures.fit;
      };
      rest = list.2;
      small = λ a l. size-left laurent laurent_ring h old now x (drop (k + 1) xs) i.column.height i.column.width i.column.fit list new a l (subst (λ ys. size (entry laurent.zero old a 0) + size_in laurent a ys < 2 ^ 126) next (i.small a l));
      value = λ a l. value-left laurent laurent_ring h old now x (drop (k + 1) xs) i.column.height i.column.width i.column.fit list new a l ∙ ap (λ ys. plus (entry laurent.zero old a 0) (added_in laurent a ys)) (sym next) ∙ i.value a l;
    }

pub returns-clause-value : goal.returns-clause-value
returns-clause-value c = λ a l.
    let xs = c.args.additions.now in
    let k = c.loop-addition.addition-index in
    let old = c.loop-addition.column in
    let none = rest-end xs k c.loop-addition-test.false in
    sym (laurent_ring.laws.add_zero (entry laurent.zero old a 0) refl)
    ∙ ap (λ ys. plus (entry laurent.zero old a 0) (added_in laurent a ys)) (sym none)
    ∙ c.loop-addition.invariant.value a l
