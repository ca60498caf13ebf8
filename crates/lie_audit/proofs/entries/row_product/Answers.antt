-- One product more, which is 0 where it is left out.
use Rattle.std.proofs.Common.{◌≡◌, ℕ, ◌+◌, ◌≤◌, ◌<◌, ℤ, pos, ◌+ℤ◌, ◌*ℤ◌, unsigned_abs, length, get_or, sym, ap, ap₂, subst, ◌∙◌, arith, lit<}
use Rattle.std.proofs.Math.IntN.{*ℤ-zero, +ℤ_idr}
use mir.Val.{to_z}
use mir.Syntax.{w128}
use Rattle.lie_ring.specs.Integers.{integers}
use Rattle.lie_const.specs.Modules.{root_element_entry}
use Rattle.lie_datum.proofs.VectorLemmas.{plain, abs_add, abs_mul}
use Rattle.lie_audit.specs.SignParts.{unit, IsWithinList}
use Rattle.lie_audit.proofs.ListLemmas.{sum-more}
use Rattle.lie_audit.proofs.entries.row_product.Goals as goal
use Rattle.lie_audit.proofs.entries.row_product.Goals.{then-column-j-ne0, else-column-j-ne0}

-- what is known of the sum with one more
record IsNext (s f new : ℤ) (P : Type 0) : Type 0 where
  value : new ≡ s +ℤ f
  small : unsigned_abs new ≤ unsigned_abs s + 60100000000
  smaller : P → unsigned_abs new ≤ unsigned_abs s + 361201

-- a product that is added
next : (s a x new : ℤ) (P : Type 0) → new ≡ s +ℤ a *ℤ x → unsigned_abs a ≤ 601 → unsigned_abs x ≤ 100000000 → (P → unsigned_abs x ≤ 601) → IsNext s (a *ℤ x) new P
next s a x new P e l m h = record {
  value = e;
  small = subst (λ z. unsigned_abs z ≤ unsigned_abs s + 60100000000) (sym e) (let p = abs_add s (a *ℤ x) in let q = abs_mul a x 601 100000000 l m in omega (arith, p, q));
  smaller = λ o. subst (λ z. unsigned_abs z ≤ unsigned_abs s + 361201) (sym e) (let p = abs_add s (a *ℤ x) in let q = abs_mul a x 601 601 l (h o) in omega (arith, p, q));
}

-- a product with 0 that is left out
next-none : (s a x new : ℤ) (P : Type 0) → new ≡ s → x ≡ pos 0 → IsNext s (a *ℤ x) new P
next-none s a x new P e z = record {
  value = e ∙ sym (ap (λ y. s +ℤ a *ℤ y) z ∙ ap (λ y. s +ℤ y) (*ℤ-zero a) ∙ +ℤ_idr s);
  small = subst (λ z. unsigned_abs z ≤ unsigned_abs s + 60100000000) (sym e) (omega arith);
  smaller = λ _. subst (λ z. unsigned_abs z ≤ unsigned_abs s + 361201) (sym e) (omega arith);
}

pub loop-j-preserved : goal.loop-j-preserved
loop-j-preserved c =
    let v = c.args.adjoint.now in
    let xs = c.args.column.now in
    let a = λ (j : ℕ). root_element_entry integers v c.args.r (unit c.args.minus) c.args.row j in
    let j = c.loop-j.j in
    let s = to_z w128 c.loop-j.sum-bits in
    let new = to_z w128 c.if-column-j-ne0.sum-bits in
    let x = get_or xs j (pos 0) in
    let P = IsWithinList 601 xs in
    let l : j < length xs = c.loop-j-test.true in
    let bound = c.requires.within j l in
    let same = plain x 100000000 bound (lit< tt) in
    let next_is : IsNext s (a j *ℤ x) new P =
    elim c.if-column-j-ne0.branch [
      | then-column-j-ne0 w ↦
          let e = w.element_entry-factor in
          let sum = w.add_product-sum in
          next s (a j) x new P
          (w.sum-is ∙ plain sum.result 20060100000000 sum.ensures.bound (lit< tt) ∙ sum.ensures.value
          ∙ ap₂ (λ y z. s +ℤ y *ℤ z) (plain e.result 601 e.ensures.bound (lit< tt) ∙ e.ensures.value) same)
          (subst (λ z. unsigned_abs z ≤ 601) e.ensures.value e.ensures.bound) bound (λ p. p j l)
      | else-column-j-ne0 w ↦ next-none s (a j) x new P w.sum-is (sym same ∙ ap (to_z w128) w.if-column-j-ne0.false)
    ] in
    record {
      sum_is = sum-more (λ j. a j *ℤ get_or xs j (pos 0)) j s new c.loop-j.invariant.sum_is next_is.value;
      small = let p = c.loop-j.invariant.small in let q = next_is.small in omega (arith, p, q);
      smaller = λ o. (let p = c.loop-j.invariant.smaller o in let q = next_is.smaller o in omega (arith, p, q));
    }
