-- The places whose roots have terms with a root, in order.
use Rattle.std.proofs.Common.{◌≡◌, ℕ, suc, zero, ◌<◌, ◌≤◌, ◌+◌, ◌⊎◌, inl, inr, List, [], ◌∷◌, ◌++◌, length, drop, get_or, refl, sym, subst, arith}
use Rattle.std.proofs.lemmas.List.{drop_more, get_or_push, get_or_append_left, length_push}
use Rattle.lie_ring.specs.Rings.{RingOn}
use Rattle.lie_letters.specs.RingLetters.{CommutatorTerm}
use Rattle.lie_unip.specs.Placing.{terms_between, IdleBetween, IsRow, AreRows}

module _ (terms : ℕ → ℕ → List CommutatorTerm) (r : ℕ) (ks : List ℕ) where
  side : (j n : ℕ) → j < n + 1 → (j ≡ n) ⊎ (j < n)
  side j n b = grind (arith, b)

  -- a row with one more place, whose root has no terms
  pub row_without : (i n : ℕ) (row : List ℕ) → IsRow terms r ks i n row → terms_between terms r (get_or ks n 0) ≡ [] → IsRow terms r ks i (n + 1) row
  row_without i n [] h e = λ j l b. go j l (side j n b)
    where
      go : (j : ℕ) → i ≤ j → (j ≡ n) ⊎ (j < n) → terms_between terms r (get_or ks j 0) ≡ []
      go j l (inl s) = subst (λ k. terms_between terms r (get_or ks k 0) ≡ []) (sym s) e
      go j l (inr s) = h j l s
  row_without i n (q ∷ row) h e = let b = h.1 in (h.0, omega (arith, b), h.2, row_without (q + 1) n row h.3 e)

  -- a row with one more place, whose root has terms
  pub row_with : (i n : ℕ) (row : List ℕ) → i ≤ n → IsRow terms r ks i n row → IsRow terms r ks i (n + 1) (row ++ n ∷ [])
  row_with i n [] l h = (l, omega arith, h, λ j a b. absurd (omega (arith, a, b)))
  row_with i n (q ∷ row) l h = let b = h.1 in (h.0, omega (arith, b), h.2, row_with (q + 1) n row (omega (arith, b)) h.3)

  -- no place yet
  pub row_start : (i : ℕ) → IsRow terms r ks i i []
  row_start i = λ j l b. absurd (omega (arith, l, b))

  module _ {A : Type 0} (R : RingOn A) (c : List A) where
    -- the row from its i-th place on, and all places in front of these are idle
    pub record IsWalked (row : List ℕ) (first n i : ℕ) : Type 0 where
      pub from : ℕ
      pub above : first ≤ from
      pub idle : IdleBetween R terms r ks first from c
      pub rest : IsRow terms r ks from n (drop i row)

    idle_on : (first b q : ℕ) → IdleBetween R terms r ks first b c → ((j : ℕ) → b ≤ j → j < q → terms_between terms r (get_or ks j 0) ≡ []) → IdleBetween R terms r ks first q c
    idle_on first b q idle none j l h = go (two j b)
      where
        two : (j b : ℕ) → (j < b) ⊎ (b ≤ j)
        two j b = grind arith

        go : (j < b) ⊎ (b ≤ j) → (get_or c j R.zero ≡ R.zero) ⊎ (terms_between terms r (get_or ks j 0) ≡ [])
        go (inl s) = idle j l s
        go (inr s) = inr (none j s h)

    -- the row is cut at its next place
    walked_cut : (row : List ℕ) (n i b : ℕ) → i < length row → IsRow terms r ks b n (drop i row)
        → IsRow terms r ks b n (get_or row i 0 ∷ drop (i + 1) row)
    walked_cut row n i b h w = subst (IsRow terms r ks b n) (drop_more row i 0 h) w

    -- the next place of the row is within the list
    pub walked_within : (row : List ℕ) (first n i : ℕ) → i < length row → IsWalked row first n i → (first ≤ get_or row i 0) × (get_or row i 0 < n)
    walked_within row first n i h w =
        let cut = walked_cut row n i w.from h w.rest in
        let a = cut.0 in
        let l = w.above in
        (omega (arith, a, l), cut.1)

    -- all is idle up to the next place
    pub walked_idle : (row : List ℕ) (first n i : ℕ) → i < length row → IsWalked row first n i → IdleBetween R terms r ks first (get_or row i 0) c
    walked_idle row first n i h w = idle_on first w.from (get_or row i 0) w.idle (walked_cut row n i w.from h w.rest).2

    -- all is idle where the row has ended
    pub walked_all : (row : List ℕ) (first n i : ℕ) → length row ≤ i → IsWalked row first n i → IdleBetween R terms r ks first n c
    walked_all row first n i h w = idle_on first w.from n w.idle (subst (IsRow terms r ks w.from n) (past row i h) w.rest)
      where
        past : (row : List ℕ) (i : ℕ) → length row ≤ i → drop i row ≡ []
        past [] zero h = refl
        past [] (suc i) h = refl
        past (q ∷ row) zero h = absurd (omega (arith, h))
        past (q ∷ row) (suc i) h = past row i (omega (arith, h))

    -- the next place has 0
    pub walked_on : (row : List ℕ) (first n i : ℕ) → i < length row → get_or c (get_or row i 0) R.zero ≡ R.zero → IsWalked row first n i → IsWalked row first n (i + 1)
    walked_on row first n i h zeros w =
        let q = get_or row i 0 in
        let cut = walked_cut row n i w.from h w.rest in
        let bound = walked_within row first n i h w in
        let l = bound.0 in
        record {
          from = q + 1;
          above = omega (arith, l);
          idle = λ j a b. go j a (side j q b);
          rest = cut.3;
        }
      where
        go : (j : ℕ) → first ≤ j → (j ≡ get_or row i 0) ⊎ (j < get_or row i 0) → (get_or c j R.zero ≡ R.zero) ⊎ (terms_between terms r (get_or ks j 0) ≡ [])
        go j a (inl s) = inl (subst (λ k. get_or c k R.zero ≡ R.zero) (sym s) zeros)
        go j a (inr s) = walked_idle row first n i h w j a s

    -- nothing is walked yet
    pub walked_none : (row : List ℕ) (first n : ℕ) → IsRow terms r ks first n row → IsWalked row first n 0
    walked_none row first n h = record {
      from = first;
      above = omega arith;
      idle = λ j a b. absurd (omega (arith, a, b));
      rest = h;
    }

-- fewer places than are idle are idle
pub idle_fewer : {A : Type 0} (R : RingOn A) (terms : ℕ → ℕ → List CommutatorTerm) (r : ℕ) (ks : List ℕ) (first n e : ℕ) (c : List A) → e ≤ n
    → IdleBetween R terms r ks first n c → IdleBetween R terms r ks first e c
idle_fewer R terms r ks first n e c l h j a b = h j a (omega (arith, b, l))

-- the rows of the places in front of one, and that of this one
pub rows_more : (terms : ℕ → ℕ → List CommutatorTerm) (ks : List ℕ) (rows : List (List ℕ)) (row : List ℕ) (n : ℕ) → length rows ≡ n → AreRows terms ks rows
    → IsRow terms (get_or ks n 0) ks (n + 1) (length ks) row → AreRows terms ks (rows ++ row ∷ [])
rows_more terms ks rows row n count h new p l = go (two p)
  where
    two : (p : ℕ) → (p < length rows) ⊎ (length rows ≤ p)
    two p = grind arith

    go : (p < length rows) ⊎ (length rows ≤ p) → IsRow terms (get_or ks p 0) ks (p + 1) (length ks) (get_or (rows ++ row ∷ []) p [])
    go (inl s) = subst (IsRow terms (get_or ks p 0) ks (p + 1) (length ks)) (sym (get_or_append_left rows (row ∷ []) [] p s)) (h p s)
    go (inr s) =
        let long = length_push rows row in
        let here : p ≡ n = omega (arith, s, l, long, count) in
        let last : length rows ≡ p = omega (arith, here, count) in
        subst (IsRow terms (get_or ks p 0) ks (p + 1) (length ks)) (sym (get_or_push rows row [] p last))
        (subst (λ q. IsRow terms (get_or ks q 0) ks (q + 1) (length ks) row) (sym here) new)
