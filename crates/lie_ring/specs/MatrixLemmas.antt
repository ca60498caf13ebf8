-- Tables, what is read from them, and their images.
-- For proofs: no public clause cites it.
use Rattle.std.proofs.Common.{◌≡◌, ℕ, zero, suc, ◌+◌, ◌-◌, ◌<◌, ◌≤◌, List, [], ◌∷◌, ◌++◌, map, get_or, refl, sym, ap, ap₂, ◌∙◌, inl, inr, subst, arith}
use Rattle.std.specs.List.{range_with_len}
use Rattle.std.proofs.lemmas.Bool.{cases_lt}
use Rattle.std.proofs.lemmas.List.FromFn.{get_or-map-range_with_len}
use Rattle.lie_ring.specs.Matrices.{Matrix, table, entry, image, IsShaped}

-- maps of a range by two functions that agree there are equal
pub map-range-same : {X : Type 0} (f g : ℕ → X) (a n : ℕ) → ((i : ℕ) → a ≤ i → i < a + n → f i ≡ g i) → map f (range_with_len a n) ≡ map g (range_with_len a n)
map-range-same f g a zero h = refl
map-range-same f g a (suc n) h = ap₂ ◌∷◌ (h a (omega arith) (omega arith)) (map-range-same f g (a + 1) n (λ i low high. h i (omega arith) (omega arith)))

-- the values over a range that is one longer
pub map-range-last : {X : Type 0} (f : ℕ → X) (a n : ℕ) → map f (range_with_len a (suc n)) ≡ map f (range_with_len a n) ++ (f (a + n) ∷ [])
map-range-last f a zero = ap (λ i. f i ∷ []) (let e : a ≡ a + 0 = omega arith in e)
map-range-last f a (suc n) =
    ap (λ xs. f a ∷ xs) (map-range-last f (a + 1) n)
    ∙ ap (λ i. f a ∷ (map f (range_with_len (a + 1) n) ++ (f i ∷ []))) (let e : (a + 1) + n ≡ a + suc n = omega arith in e)

-- an entry of a table
pub entry-table : {A : Type 0} (z : A) (h w : ℕ) (f : ℕ → ℕ → A) (i j : ℕ) → i < h → j < w → entry z (table h w f) i j ≡ f i j
entry-table z h w f i j p q =
    ap (λ row. get_or row j z) (get_or-map-range_with_len (λ k. map (f k) (range_with_len 0 w)) 0 h i i [] p (omega arith))
    ∙ get_or-map-range_with_len (f i) 0 w j j z q (omega arith)

-- tables of two functions that agree within the shape are equal
pub table-same : {A : Type 0} (h w : ℕ) (f g : ℕ → ℕ → A) → ((i j : ℕ) → i < h → j < w → f i j ≡ g i j) → table h w f ≡ table h w g
table-same {A} h w f g same =
    let rows_same = map-range-same (λ i. map (f i) (range_with_len 0 w)) (λ i. map (g i) (range_with_len 0 w)) 0 h
    (λ i _ p. map-range-same (f i) (g i) 0 w (λ j _ q. same i j (omega arith) (omega arith))) in
    ap (λ (rs : List (List A)). let M : Matrix A = record { height = h; width = w; rows = rs } in M) rows_same

-- the image of the values over a range
pub map-range : {A B : Type 0} (h : A → B) (f : ℕ → A) (a n : ℕ) → map h (map f (range_with_len a n)) ≡ map (λ i. h (f i)) (range_with_len a n)
map-range h f a zero = refl
map-range h f a (suc n) = ap (λ xs. h (f a) ∷ xs) (map-range h f (a + 1) n)

-- the image of a table
pub image-table : {A B : Type 0} (h : A → B) (m n : ℕ) (f : ℕ → ℕ → A) → image h (table m n f) ≡ table m n (λ i j. h (f i j))
image-table {A} {B} h m n f =
    let rows = map-range (λ row. map h row) (λ i. map (f i) (range_with_len 0 n)) 0 m ∙ (λ k. map (λ i. map-range h (f i) 0 n k) (range_with_len 0 m)) in
    ap (λ (rs : List (List B)). let M : Matrix B = record { height = m; width = n; rows = rs } in M) rows

-- a table has the shape that it names
pub table-shaped : {A : Type 0} (z : A) (h w : ℕ) (f : ℕ → ℕ → A) → IsShaped z (table h w f)
table-shaped z h w f = table-same h w f (entry z (table h w f)) (λ i j p q. sym (entry-table z h w f i j p q))

-- the shape does not depend on what stands outside
pub shaped-any : {A : Type 0} (y z : A) (M : Matrix A) → IsShaped y M → IsShaped z M
shaped-any y z M shaped =
    shaped ∙ table-same M.height M.width (entry y M) (entry z M) (λ i j p q. sym (ap (λ N. entry z N i j) shaped ∙ entry-table z M.height M.width (entry y M) i j p q))

-- matrices of one shape with the same entries are equal
pub matrix-same : {A : Type 0} (z : A) (M N : Matrix A) → IsShaped z M → IsShaped z N → M.height ≡ N.height → M.width ≡ N.width
    → ((i j : ℕ) → i < M.height → j < M.width → entry z M i j ≡ entry z N i j) → M ≡ N
matrix-same z M N shaped also rows cols same =
    shaped ∙ table-same M.height M.width (entry z M) (entry z N) same ∙ ap₂ (λ h w. table h w (entry z N)) rows cols ∙ sym also

-- a row below m + n is one of the first m, or comes after them
past : (m n i : ℕ) → i < m + n → (P : ℕ → Type 0) → (i < m → P i) → ((k : ℕ) → k < n → P (m + k)) → P i
past m n i h P low high = elim (cases_lt i m) [
  | inl p ↦ low p
  | inr p ↦ let e : m + (i - m) ≡ i = omega arith in subst P e (high (i - m) (omega arith))
]

-- tables of four blocks that agree in each block are equal
pub blocks-same : {A : Type 0} (m n v w : ℕ) (f g : ℕ → ℕ → A)
    → ((i j : ℕ) → i < m → j < v → f i j ≡ g i j)
    → ((i j : ℕ) → i < m → j < w → f i (v + j) ≡ g i (v + j))
    → ((i j : ℕ) → i < n → j < v → f (m + i) j ≡ g (m + i) j)
    → ((i j : ℕ) → i < n → j < w → f (m + i) (v + j) ≡ g (m + i) (v + j))
    → table (m + n) (v + w) f ≡ table (m + n) (v + w) g
blocks-same m n v w f g first right below last = table-same (m + n) (v + w) f g (λ i j p q.
    past m n i p (λ i. f i j ≡ g i j)
    (λ a. past v w j q (λ j. f i j ≡ g i j) (λ b. first i j a b) (λ k b. right i k a b))
    (λ l a. past v w j q (λ j. f (m + l) j ≡ g (m + l) j) (λ b. below l j a b) (λ k b. last l k a b)))
