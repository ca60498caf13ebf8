-- At most eight numbers in eight places: the places past the last hold 1.
-- For proofs: no public clause cites it.
-- Own: the filling, which makes equal lists equal in memory.
use Rattle.std.specs.Prelude.{◌≡◌, ◌≤◌, ◌-◌, ℕ, zero, suc, ℤ, pos, List, [], ◌∷◌, ◌++◌, length, take, slice_index_or}
use Rattle.std.proofs.Common.{refl, sym, ap, ◌∙◌, arith, replicate}
use Rattle.lie_weyl.specs.declared.weyl.Weyl.TheInside.{Inside}

-- the list in eight places
abbrev pub padded : List ℤ → List ℤ
padded xs = xs ++ replicate (8 - length xs) (pos 1)

-- eight places, of which the first l are used
pub record IsPadded (a : Inside) : Type 0 where
  pub count : a.l ≤ 8
  pub places : length a.images ≡ 8
  pub unused : (k : ℕ) → a.l ≤ k → slice_index_or a.images k (pos 1) ≡ pos 1

abbrev pub used : Inside → List ℤ
used a = take a.l a.images

abbrev pub unpadded : List ℤ → Inside
unpadded xs = record { l = length xs; images = padded xs }

all_ones : (xs : List ℤ) → ((k : ℕ) → slice_index_or xs k (pos 1) ≡ pos 1) → replicate (length xs) (pos 1) ≡ xs
all_ones [] h = refl
all_ones (x ∷ xs) h = let e = h zero in let f = all_ones xs (λ k. h (suc k)) in cc

ones_behind : (l : ℕ) (xs : List ℤ) → l ≤ length xs → ((k : ℕ) → l ≤ k → slice_index_or xs k (pos 1) ≡ pos 1) → take l xs ++ replicate (length xs - l) (pos 1) ≡ xs
ones_behind zero [] p h = refl
ones_behind zero (x ∷ xs) p h = let e : suc (length xs) - 0 ≡ suc (length xs) = omega arith in ap (λ n. replicate n (pos 1)) e ∙ all_ones (x ∷ xs) (λ k. h k (omega arith))
ones_behind (suc l) [] p h = absurd (omega (arith, p))
ones_behind (suc l) (x ∷ xs) p h =
    let e : suc (length xs) - suc l ≡ length xs - l = omega arith in
    ap (λ n. x ∷ (take l xs ++ replicate n (pos 1))) e ∙ ap (λ t. x ∷ t) (ones_behind l xs (omega (arith, p)) (λ k q. h (suc k) (omega (arith, q))))

length_used : (l : ℕ) (xs : List ℤ) → l ≤ length xs → length (take l xs) ≡ l
length_used zero xs p = refl
length_used (suc l) [] p = absurd (omega (arith, p))
length_used (suc l) (x ∷ xs) p = ap suc (length_used l xs (omega (arith, p)))

-- the list of the used places gives the places back
pub unpadded-used : (a : Inside) → IsPadded a → unpadded (used a) ≡ a
unpadded-used a h =
    let p : a.l ≤ length a.images = let c = h.count in let e = h.places in omega (arith, c, e) in
    let m = length_used a.l a.images p in
    let e : padded (used a) ≡ a.images = ap (λ n. take a.l a.images ++ replicate (8 - n) (pos 1)) m ∙ ap (λ n. take a.l a.images ++ replicate (n - a.l) (pos 1)) (sym h.places) ∙ ones_behind a.l a.images p h.unused in
    λ k. record { l = m k; images = e k }
