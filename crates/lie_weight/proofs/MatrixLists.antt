-- The lists of matrices of the roots.
use Rattle.std.proofs.Common.{◌≡◌, ◌≢◌, ℕ, zero, suc, ◌+◌, ◌<◌, ◌≤◌, ℤ, pos, negsuc, neg_ℤ, ◌*ℤ◌, List, [], ◌∷◌, ◌++◌, length, get_or, refl, sym, ap, subst, ◌∙◌, arith, ⊎_elim}
use Rattle.std.proofs.Math.IntN.{*ℤ-zero}
use Rattle.std.specs.List.{All}
use Rattle.std.proofs.lemmas.List.{get_or_append_left, get_or-append-add, get_or_past}
use Rattle.std.proofs.lemmas.List.Elements.{All-from_get_or}
use Rattle.lie_ring.specs.Matrices.{Matrix, entry, zero_matrix}
use Rattle.lie_ring.specs.MatrixLemmas.{entry-table}
use Rattle.lie_datum.specs.RootList.{RootDatum, IsLoaded, IsNumber}
use Rattle.lie_datum.specs.Numbers.{number_at}
use Rattle.lie_datum.proofs.Entries.{within_or_past}
use Rattle.lie_const.specs.StructureConstants.{Table}
use Rattle.lie_const.specs.CommutatorTerms.{factorial}
use Rattle.lie_const.specs.Adjoint.{adjoint_dimension, basis_place}
use Rattle.lie_const.proofs.SumLemmas.{neg_number}
use Rattle.lie_weight.specs.Kept.{IsSquare}
use Rattle.lie_weight.specs.AdjointParts.{IsDivided, IsDividedMatrix, AreFirstDivided, AreDivided, AreAllDivided}
use Rattle.lie_weight.proofs.BasisLemmas.{root_within}
use Rattle.lie_weight.proofs.SpecialColumns.{opposite_column-second_on}
use Rattle.lie_weight.proofs.EndLemmas.{high_power}

-- the last of a list that is one longer
pub get_or-last : {A : Type 0} (xs : List A) (x d : A) (k : ℕ) → k ≡ length xs → get_or (xs ++ x ∷ []) k d ≡ x
get_or-last xs x d k e = let f : k ≡ length xs + 0 = omega (arith, e) in ap (λ j. get_or (xs ++ x ∷ []) j d) f ∙ get_or-append-add xs (x ∷ []) 0 d

pub length-push : {A : Type 0} (xs : List A) (x : A) → length (xs ++ x ∷ []) ≡ length xs + 1
length-push [] x = refl
length-push (y ∷ xs) x = let e = length-push xs x in omega (arith, e)

module _ (d : RootDatum) (n : Table) (r : ℤ) where
  abbrev none : Matrix ℤ
  none = zero_matrix (pos 0) (adjoint_dimension d) (adjoint_dimension d)

  -- no matrix yet
  pub first-none : (Ms : List (Matrix ℤ)) → Ms ≡ [] → AreFirstDivided d n r 0 Ms
  first-none Ms e = record { count = ap length e; each = λ k l. absurd (omega (arith, l)) }

  -- one matrix more
  pub first-push : (c : ℕ) (Ms Ns : List (Matrix ℤ)) (M : Matrix ℤ) → AreFirstDivided d n r c Ms → IsDividedMatrix d n r (suc c) M → Ns ≡ Ms ++ M ∷ [] → AreFirstDivided d n r (suc c) Ns
  first-push c Ms Ns M p q e =
      let count = p.count in
      subst (AreFirstDivided d n r (suc c)) (sym e) (record {
        count = let l = length-push Ms M in omega (arith, l, count);
        each = λ k l. ⊎_elim
            (λ m. subst (IsDividedMatrix d n r (suc k)) (sym (get_or_append_left Ms (M ∷ []) none k (omega (arith, m, count)))) (p.each k m))
            (λ m. (let f : k ≡ c = omega (arith, l, m) in subst (λ j. IsDividedMatrix d n r (suc j) (get_or (Ms ++ M ∷ []) j none)) (sym f)
            (subst (IsDividedMatrix d n r (suc c)) (sym (get_or-last Ms M none c (sym count))) q)))
            (within_or_past k c);
      })

  module _ (loaded : IsLoaded d) (number : IsNumber d r) where
    none-entry : (i j : ℕ) → i < adjoint_dimension d → j < adjoint_dimension d → entry (pos 0) none i j ≡ pos 0
    none-entry i j a b = entry-table (pos 0) (adjoint_dimension d) (adjoint_dimension d) (λ _ _. pos 0) i j a b

    -- the second matrix is not 0
    second_some : (M : Matrix ℤ) → IsDividedMatrix d n r 2 M → M ≢ none
    second_some M p e =
        let i = basis_place d r in
        let j = basis_place d (neg_ℤ r) in
        let a = root_within d r number in
        let b = root_within d (neg_ℤ r) (neg_number d loaded r number) in
        let zero = ap (λ N. pos 2 *ℤ entry (pos 0) N i j) e ∙ ap (λ x. pos 2 *ℤ x) (none-entry i j a b) in
        let two = p.entries i j a b ∙ opposite_column-second_on d loaded n r number in
        apart (sym zero ∙ two)
      where
        apart : pos 0 ≡ negsuc 1 → ⊥
        apart e = cc

    past_entries : (Ms : List (Matrix ℤ)) (k i j : ℕ) → length Ms ≤ k → 3 ≤ k → i < adjoint_dimension d → j < adjoint_dimension d → IsDivided d n r (suc k) (entry (pos 0) (get_or Ms k none) i j) i j
    past_entries Ms k i j l h a b =
        ap (λ M. pos (factorial (suc k)) *ℤ entry (pos 0) M i j) (get_or_past Ms k none l) ∙ ap (λ x. pos (factorial (suc k)) *ℤ x) (none-entry i j a b) ∙ *ℤ-zero (pos (factorial (suc k)))
        ∙ sym (high_power d loaded n r number (suc k) i j (omega (arith, h)) a b)

    first-squares : (c : ℕ) (Ms : List (Matrix ℤ)) → AreFirstDivided d n r c Ms → All (IsSquare (adjoint_dimension d)) Ms
    first-squares c Ms p = All-from_get_or (IsSquare (adjoint_dimension d)) Ms none (λ k l. (p.each k (let count = p.count in omega (arith, l, count))).square)

    -- two matrices, where the third is 0
    pub two_divided : (Ms : List (Matrix ℤ)) (M : Matrix ℤ) → AreFirstDivided d n r 2 Ms → IsDividedMatrix d n r 3 M → M ≡ none → AreDivided d n r Ms
    two_divided Ms M p q e =
        let count = p.count in
        record {
          few = omega (arith, count);
          squares = first-squares 2 Ms p;
          entries = entries;
          last = λ k h. (let f : k ≡ 1 = omega (arith, h, count) in subst (λ j. get_or Ms j none ≢ none) (sym f) (second_some (get_or Ms 1 none) (p.each 1 (omega arith))));
        }
      where
        entries : (k i j : ℕ) → i < adjoint_dimension d → j < adjoint_dimension d → IsDivided d n r (suc k) (entry (pos 0) (get_or Ms k none) i j) i j
        entries zero i j a b = (p.each 0 (omega arith)).entries i j a b
        entries (suc zero) i j a b = (p.each 1 (omega arith)).entries i j a b
        entries (suc (suc zero)) i j a b = ap (λ N. pos (factorial 3) *ℤ entry (pos 0) N i j) (get_or_past Ms 2 none (let count = p.count in omega (arith, count)) ∙ sym e) ∙ q.entries i j a b
        entries (suc (suc (suc k))) i j a b = past_entries Ms (suc (suc (suc k))) i j (let count = p.count in omega (arith, count)) (omega arith) a b

    -- three matrices, of which the last is not 0
    pub three_divided : (Ms Ns : List (Matrix ℤ)) (M : Matrix ℤ) → AreFirstDivided d n r 2 Ms → IsDividedMatrix d n r 3 M → M ≢ none → Ns ≡ Ms ++ M ∷ [] → AreDivided d n r Ns
    three_divided Ms Ns M p q o e =
        let all = first-push 2 Ms Ns M p q e in
        let count = all.count in
        let before = p.count in
        record {
          few = omega (arith, count);
          squares = first-squares 3 Ns all;
          entries = λ k i j a b. ⊎_elim (λ l. (all.each k l).entries i j a b) (λ l. past_entries Ns k i j (omega (arith, count, l)) l a b) (within_or_past k 3);
          last = λ k h. (let f : k ≡ 2 = omega (arith, h, count) in subst (λ j. get_or Ns j none ≢ none) (sym f)
              (λ g. o (sym (get_or-last Ms M none 2 (sym before)) ∙ ap (λ xs. get_or xs 2 none) (sym e) ∙ g)));
        }

module _ (d : RootDatum) (n : Table) where
  -- no root yet
  pub all-none : (Mss : List (List (Matrix ℤ))) → Mss ≡ [] → AreAllDivided d n 0 Mss
  all-none Mss e = record { count = ap length e; each = λ i l. absurd (omega (arith, l)) }

  -- one root more
  pub all-push : (c : ℕ) (Mss Nss : List (List (Matrix ℤ))) (Ms : List (Matrix ℤ)) → AreAllDivided d n c Mss → AreDivided d n (number_at (length d.positive) c) Ms → Nss ≡ Mss ++ Ms ∷ [] → AreAllDivided d n (c + 1) Nss
  all-push c Mss Nss Ms p q e =
      let count = p.count in
      subst (AreAllDivided d n (c + 1)) (sym e) (record {
        count = let l = length-push Mss Ms in omega (arith, l, count);
        each = λ i l. ⊎_elim
            (λ m. subst (AreDivided d n (number_at (length d.positive) i)) (sym (get_or_append_left Mss (Ms ∷ []) [] i (omega (arith, m, count)))) (p.each i m))
            (λ m. (let f : i ≡ c = omega (arith, l, m) in subst (λ j. AreDivided d n (number_at (length d.positive) j) (get_or (Mss ++ Ms ∷ []) j [])) (sym f)
            (subst (AreDivided d n (number_at (length d.positive) c)) (sym (get_or-last Mss Ms [] c (sym count))) q)))
            (within_or_past i c);
      })
