-- What is read from a matrix that is kept by its columns.
-- For proofs: no public clause cites it.
use Rattle.std.proofs.Common.{◌≡◌, ℕ, zero, suc, ◌<◌, List, [], ◌∷◌, length, get_or, refl, sym, ap, ◌∙◌, arith}
use Rattle.std.specs.Prelude.{Some, None, Option, IfSome, ◌↔◌, ◌≢◌}
use Rattle.std.specs.Borrow.{Bor}
use Rattle.std.specs.Option.{unwrap_or, option_copied}
use Rattle.std.specs.BTreeMap.{BTreeMap, is_at}
use Rattle.std.specs.Map.{lookup}
use Rattle.std.specs.Ordering.{nat_cmp}
use Rattle.lie_ring.specs.Matrices.{entry}
use Rattle.lie_ring.specs.MatrixLemmas.{entry-table}
use Rattle.lie_mat.specs.Columns.{stored, matrix_of}

-- the entry of the matrix that is kept
pub entry-matrix_of : {A : Type 0} (z : A) (h : ℕ) (columns : List (BTreeMap ℕ A)) (i j : ℕ) → i < h → j < length columns → entry z (matrix_of z h columns) i j ≡ unwrap_or (stored columns i j) z
entry-matrix_of z h columns i j p q = entry-table z h (length columns) (λ k l. unwrap_or (stored columns k l) z) i j p q

-- a read of a column
pub stored-read : {A : Type 0} (columns : List (BTreeMap ℕ A)) (i j : ℕ) (c : BTreeMap ℕ A) → j < length columns → c ≡ get_or columns j c → stored columns i j ≡ lookup (is_at (nat_cmp i)) c.entries
stored-read [] i j c q e = absurd (omega arith)
stored-read (d ∷ ds) i zero c q e = ap (λ m. lookup (is_at (nat_cmp i)) m.entries) (sym e)
stored-read (d ∷ ds) i (suc j) c q e = stored-read ds i j c (omega arith) e

-- what a look-up that finds an entry says of its place
pub found : {A : Type 0} (o : Option (Bor A)) (l : Option A) (z x : A) → option_copied o ≡ l → x ≡ unwrap_or l z → IfSome o (λ e. e.now ≡ x)
found None l z x e h = tt
found (Some r) l z x e h = sym (h ∙ ap (λ k. unwrap_or k z) (sym e))

-- a look-up finds nothing exactly where the entry is zero, if no zero is kept
pub not_found : {A : Type 0} (o : Option (Bor A)) (l : Option A) (z x : A) → ((y : A) → l ≡ Some y → y ≢ z) → option_copied o ≡ l → x ≡ unwrap_or l z → o ≡ None ↔ x ≡ z
not_found None l z x nonzero e h = (λ _. h ∙ ap (λ k. unwrap_or k z) (sym e), λ _. refl)
not_found (Some r) l z x nonzero e h = (λ p. absurd (cc p), λ p. absurd (nonzero r.now (sym e) (sym (h ∙ ap (λ k. unwrap_or k z) (sym e)) ∙ p)))
