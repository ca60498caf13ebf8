use Rattle.std.proofs.Common.{◌≡◌, ◌≢◌, ◌<◌, ◌⊎◌, ℕ, ◌∙◌, sym, ap, subst, arith, length, inl, false, Ok, Err, Result, Some, None, cond, eqb}
use Rattle.std.specs.Result.{OnOk, OnErr}
use Rattle.std.proofs.lemmas.Result.{on_ok_weaker, on_err_weaker}
use Rattle.std.specs.Map.{lookup}
use Rattle.std.specs.BTreeMap.{is_at}
use Rattle.std.specs.Ordering.{nat_cmp}
use Rattle.std.proofs.lemmas.Bool.{false≢true}
use Rattle.lie_mat.specs.Columns.{stored}
use Rattle.lie_ring.specs.Matrices.{with_entry, AllFit}
use Rattle.lie_mat.specs.PartLemmas.{with_entry-fit}
use Rattle.lie_mat.specs.ColumnLemmas.{stored-read}
use Rattle.lie_mat.specs.WriteLemmas.{kept-set, matrix-unchanged, matrix-written, changed-put}
use Rattle.lie_mat.proofs.mats.Mat.set.Given.{Over}
use Rattle.lie_mat.proofs.mats.Mat.set.Goals.{After-drop-zero}
use Rattle.lie_mat.proofs.mats.Mat.set.Goals as goal

low : (g : Over) (c : After-drop-zero g) → (c.args.row < c.self.inside.height) × (c.args.col < length c.self.inside.columns.items)
low g c = (omega (arith, c.requires.row, ap (λ M. M.height) c.self.view_is), omega (arith, c.requires.col, ap (λ M. M.width) c.self.view_is))

read : (g : Over) (c : After-drop-zero g) (i : ℕ) → stored c.self.inside.columns.items i c.args.col ≡ lookup (is_at (nat_cmp i)) c.index_mut.result.now.entries
read g c i = stored-read c.self.inside.columns.items i c.args.col c.index_mut.result.now (low g c).1 c.index_mut.ensures.value

by_result : {T E : Type 0} (r : Result T E) (P Q G : Type 0) → OnOk r P → OnErr r Q → (P → G) → (Q → G) → G
by_result (Ok x) P Q G p q f g = f p
by_result (Err e) P Q G p q f g = g q

-- zero, as it was made, is the type's
is_zero : (g : Over) (c : After-drop-zero g) → c.in-Ok.zero ≡ g.R.Ring.zero
is_zero g c = c.in-Ok.ensures.value ∙ g.met.R.Ring.one_zero c.args.ring.now

pub invariant_of-self : goal.invariant_of-self
invariant_of-self g c =
    let new = c.put.new.column.entries in
    let nonzero : c.same-is_zero.result ≡ false → c.args.e ≢ g.R.Ring.zero = λ f p. false≢true (sym f ∙ c.same-is_zero.ensures.1 (p ∙ sym (is_zero g c))) in
    kept-set g.R.Ring.zero c.self.inside.height c.self.inside.columns.items c.self.invariant c.args.row c.args.col c.put.new.column (low g c).0 (low g c).1
    (by_result c.put.result _ _ _ c.put.ensures.ok c.put.ensures.err
    (λ h i. subst (λ o. (lookup (is_at (nat_cmp i)) new ≡ o) ⊎ ((i ≡ c.args.row) × ((y : g.row.R-Elem.Denot) → lookup (is_at (nat_cmp i)) new ≡ Some y → y ≢ g.R.Ring.zero))) (sym (read g c i))
    (changed-put g.R.Ring.zero c.args.e c.same-is_zero.result c.args.row new c.index_mut.result.now.entries nonzero h i))
    (λ same i. inl (ap (lookup (is_at (nat_cmp i))) same ∙ sym (read g c i))))

pub returns-clause-ok : goal.returns-clause-ok
returns-clause-ok g c =
    on_ok_weaker c.put.result (λ h.
    matrix-written g.R.Ring.zero c.self.inside.height c.self.inside.columns.items c.self.invariant c.args.row c.args.col c.put.new.column (low g c).0 (low g c).1
    c.args.e c.same-is_zero.result (λ t. c.same-is_zero.ensures.0 t ∙ is_zero g c)
    (λ i. h i ∙ ap (cond (eqb i c.args.row) (cond c.same-is_zero.result None (Some c.args.e))) (sym (read g c i)))
    ∙ ap (λ M. with_entry g.R.Ring.zero M c.args.row c.args.col c.args.e) c.self.view_is) c.put.ensures.ok

pub returns-clause-err : goal.returns-clause-err
returns-clause-err g c =
    on_err_weaker c.put.result (λ same.
    matrix-unchanged g.R.Ring.zero c.self.inside.height c.self.inside.columns.items c.self.invariant c.args.row c.args.col c.put.new.column (low g c).0 (low g c).1
    (λ i. ap (lookup (is_at (nat_cmp i))) same ∙ sym (read g c i))
    ∙ c.self.view_is) c.put.ensures.err

pub returns-clause-fit : goal.returns-clause-fit
returns-clause-fit g c =
    let R = g.R.Ring.ring c.args.ring.now in
    on_ok_weaker c.put.result (λ ok all. subst (AllFit R) (sym ok) (with_entry-fit R (g.met.R.Ring.is_ring c.args.ring.now) g.R.Ring.zero (sym (g.met.R.Ring.one_zero c.args.ring.now)) c.args.self.now c.args.row c.args.col c.args.e c.requires.fits all)) (returns-clause-ok g c)
