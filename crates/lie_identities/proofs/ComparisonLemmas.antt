-- Two columns that are compared from above.
use Rattle.std.proofs.Common.{◌≡◌, ◌≢◌, ℕ, ◌+◌, ◌<◌, ◌≤◌, List, sym, ◌∙◌, subst, arith, inl, inr}
use Rattle.std.proofs.lemmas.Bool.{cases_lt, cases_eq}
use Rattle.lie_ring.specs.Matrices.{Matrix, entry}
use Rattle.lie_ring.specs.MatrixLemmas.{matrix-same}
use Rattle.lie_mat.specs.Kept.{AreZeros, IsNextKept}
use Rattle.lie_datum.specs.RootList.{RootDatum}
use Rattle.lie_const.specs.Modules.{Module, dimension}
use Rattle.lie_poly.specs.Polynomials.{Polynomial, laurent}
use Rattle.lie_identities.specs.declared.relations.Rel.{Rel}
use Rattle.lie_identities.specs.declared.faults.AuditFault.{AuditFault}
use Rattle.lie_identities.specs.declared.faults.AuditFault.TheVariants.{NoMemory, Graded, Large, Relation}
use Rattle.lie_identities.specs.AuditRelations.{Factor, side_matrix}
use Rattle.lie_identities.specs.Audit.{laurent_variables, IsFirstDifferentEntry}
use Rattle.lie_identities.specs.Columns.{side_column, IsColumn}
use Rattle.lie_identities.specs.Comparison.{IsNextRow, IsColumnDifference, IsDifference}
use Rattle.lie_identities.proofs.DifferenceLemmas.{difference-by_columns}
use Rattle.lie_identities.proofs.ReadyLemmas.{column-tall}

-- columns with equal entries are equal
pub same-entries : (n : ℕ) (V W : Matrix Polynomial) → IsColumn n V → IsColumn n W → ((a : ℕ) → a < n → entry laurent.zero V a 0 ≡ entry laurent.zero W a 0) → V ≡ W
same-entries n V W p q same =
    let h = p.height in
    let w = p.width in
    matrix-same laurent.zero V W p.shaped q.shaped (p.height ∙ sym q.height) (p.width ∙ sym q.width) (λ i j k l.
    let e : j ≡ 0 = omega (arith, l, w) in
    subst (λ m. entry laurent.zero V i m ≡ entry laurent.zero W i m) (sym e) (same i (omega (arith, k, h))))

module _ (V W : Matrix Polynomial) (left : IsColumn V.height V) (right : IsColumn V.height W) (from : ℕ) where
  -- zeros of both are equal
  pub both-zeros : AreZeros laurent.zero V 0 from V.height → AreZeros laurent.zero W 0 from W.height → (b : ℕ) → from ≤ b → b < V.height → entry laurent.zero V b 0 ≡ entry laurent.zero W b 0
  both-zeros p q b l m = let h = right.height in p b l m ∙ sym (q b l (omega (arith, m, h)))

  -- the first row of V that is not 0, where W has zeros up to it
  pub next-left : (a : ℕ) (x : Polynomial) → IsNextKept laurent.zero V 0 from a x → ((b : ℕ) → from ≤ b → b < a → entry laurent.zero W b 0 ≡ laurent.zero) → IsNextRow V W from a
  next-left a x next zeros = record { after = next.after; within = next.within; before = λ b l m. next.before b l m ∙ sym (zeros b l m) }

  -- the first row of W, where V has zeros up to it
  pub next-right : (a : ℕ) (x : Polynomial) → IsNextKept laurent.zero W 0 from a x → ((b : ℕ) → from ≤ b → b < a → entry laurent.zero V b 0 ≡ laurent.zero) → IsNextRow V W from a
  next-right a x next zeros = record { after = next.after; within = let w = next.within in let h = right.height in omega (arith, w, h); before = λ b l m. zeros b l m ∙ sym (next.before b l m) }

-- two entries, of which one alone is 0
pub one-zero : (x y : Polynomial) → x ≢ laurent.zero → y ≡ laurent.zero → x ≢ y
one-zero x y nonzero none same = nonzero (same ∙ none)

-- equal before a row, and in the rows from there on before the next
pub before-next : (V W : Matrix Polynomial) (from a : ℕ) → ((b : ℕ) → b < from → entry laurent.zero V b 0 ≡ entry laurent.zero W b 0) → IsNextRow V W from a → (b : ℕ) → b < a → entry laurent.zero V b 0 ≡ entry laurent.zero W b 0
before-next V W from a same next b l = elim (cases_lt b from) [
  | inl h ↦ same b h
  | inr g ↦ next.before b g l
]

-- equal in one row more
pub same-next : (V W : Matrix Polynomial) (from a : ℕ) → ((b : ℕ) → b < from → entry laurent.zero V b 0 ≡ entry laurent.zero W b 0) → IsNextRow V W from a → entry laurent.zero V a 0 ≡ entry laurent.zero W a 0 → (b : ℕ) → b < a + 1 → entry laurent.zero V b 0 ≡ entry laurent.zero W b 0
same-next V W from a same next here b l = elim (cases_eq b a) [
  | inl e ↦ subst (λ k. entry laurent.zero V k 0 ≡ entry laurent.zero W k 0) (sym e) here
  | inr g ↦ before-next V W from a same next b (omega (arith, l, g))
]

-- the fault of the first column that differs is that of the sides
pub fault-of_column : (d : RootDatum) (v : Module) (q : Rel) (ls rs : List (Factor Polynomial)) (col : ℕ) (fault : AuditFault) → col < dimension v
    → ((b : ℕ) → b < col → side_column laurent_variables d v ls b ≡ side_column laurent_variables d v rs b)
    → IsColumnDifference q (side_column laurent_variables d v ls col) (side_column laurent_variables d v rs col) col fault
    → IsDifference q (side_matrix laurent_variables d v ls) (side_matrix laurent_variables d v rs) fault
fault-of_column d v q ls rs col NoMemory l same h = h
fault-of_column d v q ls rs col (Graded r k a b) l same h = h
fault-of_column d v q ls rs col (Large p) l same h = h
fault-of_column d v q ls rs col (Relation p row c et eu x y) l same h =
    let f = h.1 in
    let tall = column-tall d v col ls in
    let w = f.within in (
      h.0,
      subst (λ i. IsFirstDifferentEntry (side_matrix laurent_variables d v ls) (side_matrix laurent_variables d v rs) i c et eu x y) (sym f.row_is)
          (subst (λ j. IsFirstDifferentEntry (side_matrix laurent_variables d v ls) (side_matrix laurent_variables d v rs) (f.place + 1) j et eu x y) (sym f.col_is)
          (difference-by_columns d v ls rs f.place col et eu x y (omega (arith, w, tall)) l same f.before f.here)),
    )
