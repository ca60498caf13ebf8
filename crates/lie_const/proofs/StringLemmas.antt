-- Strings: at most three steps down.
use Rattle.std.proofs.Common.{◌≡◌, ℕ, zero, suc, ◌≤◌, ℤ, pos, sym, arith}
use Rattle.lie_datum.specs.Vectors.{plus, times, minus}
use Rattle.lie_datum.specs.RootDatum.{IsRoot, opposite}
use Rattle.lie_datum.specs.RootList.{RootDatum, IsLoaded, IsNumber, IsString, IsRootVector, root_of}
use Rattle.lie_datum.proofs.Roots.{root_lengths}
use Rattle.lie_datum.proofs.LoadedLaws.{short, second, opposite_root}
use Rattle.lie_datum.proofs.SignedRoots.{root_is}
use Rattle.lie_datum.proofs.RunLemmas.{times_none, run_short}

module _ (d : RootDatum) (loaded : IsLoaded d) where
  pub string_short : (r s : ℤ) (p q : ℕ) → IsNumber d r → IsNumber d s → IsString d (root_of d r) (root_of d s) p q → p ≤ 3
  string_short r s p q m n t = run_short d (second d loaded) (opposite (root_of d r)) (root_of d s) p o members
    where
      o : IsRoot d.base (opposite (root_of d r))
      o = opposite_root d loaded (root_of d r) (root_is d loaded r m)

      none : plus (root_of d s).coeffs (times (pos 0) (minus (root_of d r).coeffs)) ≡ (root_of d s).coeffs
      none = times_none (root_of d s).coeffs (minus (root_of d r).coeffs) (root_lengths d.base (short d loaded) loaded.axioms.input.corank (root_of d s) (root_is d loaded s n)).0
          (root_lengths d.base (short d loaded) loaded.axioms.input.corank (opposite (root_of d r)) o).0

      members : (k : ℕ) → k ≤ p → IsRootVector d (plus (root_of d s).coeffs (times (pos k) (minus (root_of d r).coeffs)))
      members zero l = (root_of d s, root_is d loaded s n, sym none)
      members (suc k) l = t.0.roots (suc k) (omega arith) l
