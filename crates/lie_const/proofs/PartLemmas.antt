-- The parts of a list that begin at given places, and one more part at the end.
use Rattle.std.proofs.Common.{◌≡◌, ℕ, zero, suc, ◌+◌, ◌-◌, ◌<◌, ◌≤◌, List, [], ◌∷◌, ◌++◌, length, get_or, take, drop, refl, arith, ap, ◌∙◌, length-append}
use Rattle.std.proofs.lemmas.List.{get_or_default}
use Rattle.lie_const.specs.declared.term.Term.{Term}
use Rattle.lie_const.specs.Layout.{parts, IsLadder}

pub part_at : (ts : List Term) (starts : List ℕ) (i : ℕ) → suc i < length starts → get_or (parts ts starts) i [] ≡ take (get_or starts (suc i) 0 - get_or starts i 0) (drop (get_or starts i 0) ts)
part_at ts [] i l = absurd (omega (arith, l))
part_at ts (a ∷ []) i l = absurd (omega (arith, l))
part_at ts (a ∷ b ∷ starts) zero l = refl
part_at ts (a ∷ b ∷ starts) (suc i) l = part_at ts (b ∷ starts) i (omega (arith, l))

-- there is a place for each part, and one more
pub length-parts : (ts : List Term) (starts : List ℕ) (n : ℕ) → IsLadder n starts → suc (length (parts ts starts)) ≡ length starts
length-parts ts [] n h = absurd h
length-parts ts (a ∷ []) n h = refl
length-parts ts (a ∷ b ∷ starts) n h = ap suc (length-parts ts (b ∷ starts) n h.1)

-- the first place is at most the last
first_below : (n a : ℕ) (starts : List ℕ) → IsLadder n (a ∷ starts) → a ≤ n
first_below n a [] h = omega (arith, h)
first_below n a (b ∷ starts) h = let k = first_below n b starts h.1 in let l = h.0 in omega (arith, k, l)

pub ladder_at : (n : ℕ) (starts : List ℕ) (i : ℕ) → IsLadder n starts → suc i < length starts → (get_or starts i 0 ≤ get_or starts (suc i) 0) × (get_or starts (suc i) 0 ≤ n)
ladder_at n [] i h l = absurd (omega (arith, l))
ladder_at n (a ∷ []) i h l = absurd (omega (arith, l))
ladder_at n (a ∷ b ∷ starts) zero h l = (h.0, first_below n b starts h.1)
ladder_at n (a ∷ b ∷ starts) (suc i) h l = ladder_at n (b ∷ starts) i h.1 (omega (arith, l))

-- one more place at the end
pub ladder_push : (n m : ℕ) (starts : List ℕ) → IsLadder n starts → n ≤ m → IsLadder m (starts ++ m ∷ [])
ladder_push n m [] h l = absurd h
ladder_push n m (a ∷ []) h l = (omega (arith, h, l), refl)
ladder_push n m (a ∷ b ∷ starts) h l = (h.0, ladder_push n m (b ∷ starts) h.1 l)

take_whole : (us : List Term) → take (length us) us ≡ us
take_whole [] = refl
take_whole (u ∷ us) = ap (λ t. u ∷ t) (take_whole us)

drop_whole : (ts us : List Term) → drop (length ts) (ts ++ us) ≡ us
drop_whole [] us = refl
drop_whole (t ∷ ts) us = drop_whole ts us

-- one more part
pub parts-push : (ts us : List Term) (starts : List ℕ) → IsLadder (length ts) starts → parts (ts ++ us) (starts ++ length (ts ++ us) ∷ []) ≡ parts ts starts ++ us ∷ []
parts-push ts us [] h = absurd h
parts-push ts us (a ∷ []) h =
    ap (λ t. take t (drop a (ts ++ us)) ∷ []) (let e : length (ts ++ us) - a ≡ length us = omega (arith, h, length-append ts us) in e)
    ∙ ap (λ t. take (length us) t ∷ []) (ap (λ t. drop t (ts ++ us)) h ∙ drop_whole ts us) ∙ ap (λ t. t ∷ []) (take_whole us)
parts-push ts us (a ∷ b ∷ starts) h =
    let low = first_below (length ts) b starts h.1 in
    let rise = h.0 in
    ap (λ t. t ∷ parts (ts ++ us) (b ∷ starts ++ length (ts ++ us) ∷ [])) (inner (b - a) a rise low)
    ∙ ap (λ t. take (b - a) (drop a ts) ∷ t) (parts-push ts us (b ∷ starts) h.1)
  where
    inner : (n k : ℕ) → a ≤ b → b ≤ length ts → take (b - a) (drop a (ts ++ us)) ≡ take (b - a) (drop a ts)
    inner n k p q = within (b - a) a ts (omega (arith, p, q))
      where
        within : (n k : ℕ) (ts : List Term) → k + n ≤ length ts → take n (drop k (ts ++ us)) ≡ take n (drop k ts)
        within zero k ts l = refl
        within (suc n) zero [] l = absurd (omega (arith, l))
        within (suc n) zero (t ∷ ts) l = ap (λ x. t ∷ x) (within n zero ts (omega (arith, l)))
        within (suc n) (suc k) [] l = absurd (omega (arith, l))
        within (suc n) (suc k) (t ∷ ts) l = within (suc n) k ts (omega (arith, l))

-- there is a place behind that of each list
pub place_behind : (ts : List Term) (starts : List ℕ) (lists : List (List Term)) (at : ℕ) → IsLadder (length ts) starts → parts ts starts ≡ lists → at < length lists → suc at < length starts
place_behind ts starts lists at h e l =
    let f = length-parts ts starts (length ts) h in
    let v = ap length e in
    omega (arith, f, v, l)

-- what is read of the places
pub first_read : (starts : List ℕ) (at x : ℕ) → suc at < length starts → x ≡ get_or starts at x → x ≡ get_or starts at 0
first_read starts at x l e = e ∙ get_or_default starts at x 0 (omega (arith, l))

pub second_read : (starts : List ℕ) (at x : ℕ) → suc at < length starts → x ≡ get_or starts (at + 1) x → x ≡ get_or starts (suc at) 0
second_read starts at x l e = let more : at + 1 ≡ suc at = omega arith in e ∙ ap (λ i. get_or starts i x) more ∙ get_or_default starts (suc at) x 0 l
