-- Rows that are written entry by entry.
use Rattle.std.proofs.Common.{◌≡◌, refl, ℕ, zero, suc, ◌+◌, ◌≤◌, List, [], ◌∷◌, ◌++◌, map, ap, sym, ◌∙◌, append_assoc, append-nil, arith}
use Rattle.std.specs.Prelude.{OnOk, Result, Ok, Err, is_ok, if◌then◌else◌}
use Rattle.std.specs.List.{join_with_byte, flat_map, range_with_len}
use Rattle.lie_ring.specs.MatrixLemmas.{map-range-last}

-- one text more, behind a space
join-last : (x : List ℕ) (xs : List (List ℕ)) (z : List ℕ) → join_with_byte 32 (x ∷ xs ++ z ∷ []) ≡ join_with_byte 32 (x ∷ xs) ++ 32 ∷ z
join-last x [] z = refl
join-last x (y ∷ ys) z = ap (λ t. x ++ 32 ∷ t) (join-last y ys z) ∙ sym (append_assoc x (32 ∷ join_with_byte 32 (y ∷ ys)) (32 ∷ z))

-- one number more
pub join-range : (f : ℕ → List ℕ) (n : ℕ) → join_with_byte 32 (map f (range_with_len 0 (suc (suc n)))) ≡ join_with_byte 32 (map f (range_with_len 0 (suc n))) ++ 32 ∷ f (suc n)
join-range f n =
    let one : 0 + suc n ≡ suc n = omega arith in
    ap (join_with_byte 32) (map-range-last f 0 (suc n)) ∙ join-last (f 0) (map f (range_with_len (0 + 1) n)) (f (0 + suc n)) ∙ ap (λ k. join_with_byte 32 (map f (range_with_len 0 (suc n))) ++ 32 ∷ f k) one

-- the same of a number that isn't 0
pub join-next : (f : ℕ → List ℕ) (c : ℕ) → 1 ≤ c → join_with_byte 32 (map f (range_with_len 0 (c + 1))) ≡ join_with_byte 32 (map f (range_with_len 0 c)) ++ 32 ∷ f c
join-next f zero h = let no : ⊥ = omega (arith, h) in absurd no
join-next f (suc n) h =
    let one : suc n + 1 ≡ suc (suc n) = omega arith in
    ap (λ k. join_with_byte 32 (map f (range_with_len 0 k))) one ∙ join-range f n

-- a text, with a space and another one behind it
pub regrouped : (a b c d : List ℕ) → ((a ++ b) ++ c) ++ d ≡ a ++ (b ++ (c ++ d))
regrouped a b c d = append_assoc (a ++ b) c d ∙ append_assoc a b (c ++ d)

-- what was written by a call that succeeds
pub OnOk-written : {A E : Type 0} (r : Result A E) (new x y z : List ℕ) → new ≡ (if is_ok r then x else y) → x ≡ z → OnOk r (new ≡ z)
OnOk-written (Ok a) new x y z h e = h ∙ e
OnOk-written (Err a) new x y z h e = tt

-- one row more
pub rows-more : (f : ℕ → List ℕ) (n : ℕ) → flat_map f (range_with_len 0 (n + 1)) ≡ flat_map f (range_with_len 0 n) ++ f n
rows-more f n =
    let one : n + 1 ≡ suc n = omega arith in
    let same : 0 + n ≡ n = omega arith in
    ap (λ k. flat_map f (range_with_len 0 k)) one ∙ flat-more f 0 n ∙ ap (λ k. flat_map f (range_with_len 0 n) ++ f k) same
  where
    flat-more : (f : ℕ → List ℕ) (a n : ℕ) → flat_map f (range_with_len a (suc n)) ≡ flat_map f (range_with_len a n) ++ f (a + n)
    flat-more f a zero =
        let same : a ≡ a + zero = omega arith in
        append-nil (f a) ∙ ap f same
    flat-more f a (suc n) =
        let same : a + 1 + n ≡ a + suc n = omega arith in
        ap (λ t. f a ++ t) (flat-more f (a + 1) n ∙ ap (λ k. flat_map f (range_with_len (a + 1) n) ++ f k) same) ∙ sym (append_assoc (f a) (flat_map f (range_with_len (a + 1) n)) (f (a + suc n)))
