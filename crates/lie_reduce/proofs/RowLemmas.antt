-- The rows of an array before and after the one that is written.
use Rattle.std.proofs.Common.{◌≡◌, ℕ, ◌+◌, ◌*◌, ◌<◌, ◌≤◌, List, length, get_or, sym, ◌∙◌, arith, rules}
use Rattle.std.proofs.lemmas.List.{places}
use Rattle.std.proofs.lemmas.Nat.{row_fits}
use borrow.Rule.Slice.PartMut.{put_mid}

-- an element after the part that was written
put_mid-after : (a k : ℕ) (xs ys : List ℕ) (x : ℕ) → a ≤ length xs → length ys ≡ k → a + k ≤ x → get_or (put_mid a k xs ys) x 0 ≡ get_or xs x 0
put_mid-after a k xs ys x p q r = search (rules, places)

-- the rows after row i stay
pub rows-after : (n i k : ℕ) (old part : List ℕ) → i < n → k ≡ n → length old ≡ n * n → length part ≡ n → (r j : ℕ) → i + 1 ≤ r → j < n
    → get_or (put_mid (i * n) k old part) (r * n + j) 0 ≡ get_or old (r * n + j) 0
rows-after n i k old part low width whole row r j after col =
    let within = row_fits i n n n low (omega arith) in
    let next : (i + 1) * n ≡ i * n + n = omega arith in
    let later : (i + 1) * n ≤ r * n = mul_mono (i + 1) r n after in
    put_mid-after (i * n) k old part (r * n + j) (omega (arith, within, whole)) (row ∙ sym width) (omega (arith, next, later, width))
  where
    mul_mono : (a b c : ℕ) → a ≤ b → a * c ≤ b * c
    mul_mono a b c h = grind (arith, h)
