-- The rows of a product, as they are written one after the other.
use Rattle.std.proofs.Common.{◌≡◌, ℕ, ◌+◌, ◌-◌, ◌*◌, ◌<◌, ◌≤◌, List, length, get_or, sym, ap, ◌∙◌, inl, inr, subst, arith, rules}
use Rattle.std.proofs.lemmas.List.{places}
use Rattle.std.proofs.lemmas.Nat.{row_fits}
use Rattle.std.proofs.lemmas.Bool.{cases_lt}
use borrow.Rule.Slice.PartMut.{put_mid}
use Rattle.lie_ring.specs.Rings.{IsElem}
use Rattle.lie_ring.specs.RingLemmas.{zero_mul}
use Rattle.lie_field.specs.FiniteField.{FiniteField}
use Rattle.lie_field.specs.Quotient.{add, mul}
use Rattle.lie_field.specs.FieldRing.{field_ring, field_is_ring}

-- zero times an element adds nothing
pub zero-multiple : (f : FiniteField) (a x y : ℕ) → a ≡ 0 → IsElem (field_ring f) x → IsElem (field_ring f) y → x ≡ add f.given x (mul f.given a y)
zero-multiple f a x y none p q =
    let laws = (field_is_ring f).laws in
    sym (ap (λ e. add f.given x (mul f.given e y)) none ∙ ap (add f.given x) (zero_mul (field_ring f) laws y q) ∙ laws.add_zero x p)

-- an element of a part that was written
put_mid-in : (a k : ℕ) (xs ys : List ℕ) (j : ℕ) → a ≤ length xs → j < length ys → get_or (put_mid a k xs ys) (a + j) 0 ≡ get_or ys j 0
put_mid-in a k xs ys j p q = search (rules, places)

-- the length stays
length-put_mid : (a k : ℕ) (xs ys : List ℕ) → a + k ≤ length xs → length ys ≡ k → length (put_mid a k xs ys) ≡ length xs
length-put_mid a k xs ys p q = search (rules, places)

-- an element before it
put_mid-before : (a k : ℕ) (xs ys : List ℕ) (x : ℕ) → a ≤ length xs → x < a → get_or (put_mid a k xs ys) x 0 ≡ get_or xs x 0
put_mid-before a k xs ys x p q = search (rules, places)

-- an element after it
put_mid-after : (a k : ℕ) (xs ys : List ℕ) (x : ℕ) → a ≤ length xs → length ys ≡ k → a + k ≤ x → get_or (put_mid a k xs ys) x 0 ≡ get_or xs x 0
put_mid-after a k xs ys x p q r = search (rules, places)

-- row i is within the list
pub start_within : (n i : ℕ) → i < n → i * n + n ≤ n * n
start_within n i low = row_fits i n n n low (omega arith)

module _ (n i k : ℕ) (old part : List ℕ) (low : i < n) (width : k ≡ n) (whole : length old ≡ n * n) (row : length part ≡ n) where
  end_within : i * n + n ≤ length old
  end_within = let p = start_within n i low in omega (arith, p, whole)

  -- the length stays
  pub rows-length : length (put_mid (i * n) k old part) ≡ n * n
  rows-length = length-put_mid (i * n) k old part (omega (arith, end_within, width)) (row ∙ sym width) ∙ whole

  -- the rows that are written, after one more
  pub rows-written : (f : ℕ → ℕ → ℕ) → ((r j : ℕ) → r < i → j < n → get_or old (r * n + j) 0 ≡ f r j) → ((j : ℕ) → j < n → get_or part j 0 ≡ f i j)
      → (r j : ℕ) → r < i + 1 → j < n → get_or (put_mid (i * n) k old part) (r * n + j) 0 ≡ f r j
  rows-written f before now r j a b = elim (cases_lt r i) [
    | inl less ↦ let p = row_fits r n i n less (omega arith) in put_mid-before (i * n) k old part (r * n + j) (omega (arith, end_within)) (omega (arith, p, b)) ∙ before r j less b
    | inr more ↦
        let same : r ≡ i = omega (arith, a, more) in
        ap (λ s. get_or (put_mid (i * n) k old part) (s * n + j) 0) same
        ∙ put_mid-in (i * n) k old part j (omega (arith, end_within)) (omega (arith, row, b)) ∙ now j b ∙ ap (λ s. f s j) (sym same)
  ]

  -- the zeros below them
  pub rows-zero : ((x : ℕ) → i * n ≤ x → x < n * n → get_or old x 0 ≡ 0) → (x : ℕ) → (i + 1) * n ≤ x → x < n * n → get_or (put_mid (i * n) k old part) x 0 ≡ 0
  rows-zero zeros x a b =
      let next : (i + 1) * n ≡ i * n + n = omega arith in
      put_mid-after (i * n) k old part x (omega (arith, end_within)) (row ∙ sym width) (omega (arith, a, next, width)) ∙ zeros x (omega (arith, a, next)) b

  -- what holds of each entry
  pub rows-each : (P : ℕ → Type 0) → ((x : ℕ) → x < length old → P (get_or old x 0)) → ((x : ℕ) → x < length part → P (get_or part x 0)) → (x : ℕ) → x < n * n → P (get_or (put_mid (i * n) k old part) x 0)
  rows-each P before now x a = elim (cases_lt x (i * n)) [
    | inl less ↦ subst P (sym (put_mid-before (i * n) k old part x (omega (arith, end_within)) less)) (before x (omega (arith, whole, a)))
    | inr more ↦ elim (cases_lt x (i * n + n)) [
      | inl within ↦
          let here : i * n + (x - i * n) ≡ x = omega (arith, more) in
          subst (λ y. P (get_or (put_mid (i * n) k old part) y 0)) here
          (subst P (sym (put_mid-in (i * n) k old part (x - i * n) (omega (arith, end_within)) (omega (arith, row, within, more)))) (now (x - i * n) (omega (arith, row, within, more))))
      | inr past ↦ subst P (sym (put_mid-after (i * n) k old part x (omega (arith, end_within)) (row ∙ sym width) (omega (arith, past, width)))) (before x (omega (arith, whole, a)))
    ]
  ]
