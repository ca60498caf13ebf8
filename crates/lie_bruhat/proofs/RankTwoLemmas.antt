-- Two simple roots: the roots in turn are sums of both, up to the last, which is the other simple root.
use Rattle.std.proofs.Common.{◌≡◌, ℕ, suc, zero, ◌+◌, ◌*◌, ◌≤◌, List, [], ◌∷◌, refl, sym, subst, arith, ◌⊎◌, inl, inr}
use Rattle.std.proofs.lemmas.Int.{ints}
use Rattle.std.proofs.Math.IntN.{ℤ, pos, ◌+ℤ◌, ◌-ℤ◌, neg_ℤ}
use Rattle.std.specs.Prelude.{◌≤ℤ◌, ◌-◌}
use Rattle.std.proofs.Math.Dec.{T, leb, lit≤}
use Rattle.lie_letters.specs.RootSystems.{RootSystem, RootLaws, times, IsSum, IsNegative}
use Rattle.lie_bruhat.proofs.InTurn.{along}
use Rattle.lie_bruhat.proofs.InTurn.{alternating, last_in_turn}

pub times_sub : (x : ℕ) (a b : ℤ) → times x (a -ℤ b) ≡ (times x a -ℤ times x b)
times_sub zero a b = refl
times_sub (suc x) a b = omega (arith, ints, times_sub x a b)

pub times_zero : (x : ℕ) → times x (pos 0) ≡ pos 0
times_zero zero = refl
times_zero (suc x) = omega (arith, ints, times_zero x)

pub times_one : (x : ℕ) → times x (pos 1) ≡ pos x
times_one zero = refl
times_one (suc x) = omega (arith, ints, times_one x)

pub times_two : (x : ℕ) → times x (pos 2) ≡ pos (x + x)
times_two zero = refl
times_two (suc x) = omega (arith, ints, times_two x)

pub times_neg : (x c : ℕ) → times x (neg_ℤ (pos c)) ≡ neg_ℤ (pos (x * c))
times_neg zero c = omega (arith, ints)
times_neg (suc x) c = let e : suc x * c ≡ c + x * c = grind arith in omega (arith, ints, times_neg x c)

pub times_low : (x : ℕ) (a : ℤ) → a ≤ℤ pos 0 → times x a ≤ℤ pos 0
times_low zero a h = omega (arith, ints)
times_low (suc x) a h = let k = times_low x a h in omega (arith, ints)

module _ (D : RootSystem) (laws : RootLaws D) where
  -- reflections keep sums
  pub sum_reflect : (r a b : D.Root) (x y : ℕ) (i : D.Index) → IsSum D r x a y b
      → IsSum D (D.reflect i r) x (D.reflect i a) y (D.reflect i b)
  sum_reflect r a b x y i h k = elim (laws.same_index k i) [
    | inl e ↦
        let p = laws.pairing_sum r a b x y h (D.simple i) in
        let q = h i in
        subst (λ j. D.coefficient (D.reflect i r) j ≡ (times x (D.coefficient (D.reflect i a) j) +ℤ times y (D.coefficient (D.reflect i b) j)))
        (sym e)
        (rw (
          laws.reflect_here i r,
          laws.reflect_here i a,
          laws.reflect_here i b,
          times_sub x (D.coefficient a i) (D.pairing a (D.simple i)),
          times_sub y (D.coefficient b i) (D.pairing b (D.simple i)),
        )
        (omega (arith, ints)))
    | inr n ↦ rw (laws.reflect_other i k r n, laws.reflect_other i k a n, laws.reflect_other i k b n) (h k)
  ]

  pub sum_along : (p : List D.Index) (r a b : D.Root) (x y : ℕ) → IsSum D r x a y b
      → IsSum D (along D p r) x (along D p a) y (along D p b)
  sum_along [] r a b x y h = h
  sum_along (i ∷ p) r a b x y h = sum_reflect (along D p r) (along D p a) (along D p b) x y i (sum_along p r a b x y h)

  -- a sum of roots that p sends to negative roots is sent to a negative root
  pub sum_negative : (r a b : D.Root) (x y : ℕ) → IsSum D r x a y b → IsNegative D a → IsNegative D b → IsNegative D r
  sum_negative r a b x y h low low' k =
      let f = times_low x (D.coefficient a k) (low k) in
      let g = times_low y (D.coefficient b k) (low' k) in
      omega (arith, ints, h k)

  -- one more reflection of a sum of both simple roots
  pub sum_step : (r : D.Root) (x x' y c : ℕ) (i j : D.Index) → ¬ (i ≡ j)
      → D.pairing (D.simple j) (D.simple i) ≡ neg_ℤ (pos c) → x + x' ≡ y * c
      → IsSum D r x (D.simple i) y (D.simple j) → IsSum D (D.reflect i r) x' (D.simple i) y (D.simple j)
  sum_step r x x' y c i j apart cartan even h k = elim (laws.same_index k i) [
    | inl e ↦
        subst (λ l. D.coefficient (D.reflect i r) l ≡ (times x' (D.coefficient (D.simple i) l) +ℤ times y (D.coefficient (D.simple j) l)))
        (sym e)
        (let p = laws.pairing_sum r (D.simple i) (D.simple j) x y h (D.simple i) in
        let p' = rw (laws.pairing_self i, cartan, times_two x, times_neg y c) at p in
        let q = rw (laws.simple_here i, laws.simple_other j i apart, times_one x, times_zero y) at (h i) in
        rw (laws.reflect_here i r, laws.simple_here i, laws.simple_other j i apart, times_one x', times_zero y)
        (omega (arith, ints)))
    | inr n ↦
        rw (laws.reflect_other i k r n, laws.simple_other i k n, times_zero x')
        (rw (laws.simple_other i k n, times_zero x) at (h k))
  ]

-- the coefficients of the root of the last of t indices in turn, after the reflections in turn
abbrev pub turn : ℕ → ℕ → ℕ → ℕ × ℕ
turn c d zero = (1, 0)
turn c d (suc t) = let (y, x) = turn d c t in (y * c - x, y)

-- no coefficient is negative on the way
abbrev pub Valid : ℕ → ℕ → ℕ → Type 0
Valid c d zero = Unit {0}
Valid c d (suc t) = T (leb (turn d c t).1 ((turn d c t).0 * c)) × Valid d c t

abbrev pub ValidTo : ℕ → ℕ → ℕ → Type 0
ValidTo c d zero = Unit {0}
ValidTo c d (suc n) = Valid c d (suc n) × ValidTo c d n

valid_at : (c d n t : ℕ) → ValidTo c d n → t ≤ n → Valid c d t
valid_at c d zero zero v h = tt
valid_at c d zero (suc t) v h = absurd (omega arith)
valid_at c d (suc n) t v h =
    let side : (t ≡ suc n) ⊎ (t ≤ n) = grind arith in
    elim side [ inl e ↦ subst (λ k. Valid c d k) (sym e) v.0 | inr low ↦ valid_at c d n t v.1 low ]

module _ (D : RootSystem) (laws : RootLaws D) where
  -- the root of the last of t indices in turn, after the reflections
  abbrev pub turned_root : ℕ → D.Index → D.Index → D.Root
  turned_root t i j = along D (alternating t i j) (D.simple (last_in_turn t i j))

  pub turned_sum : (t c d : ℕ) (i j : D.Index) → ¬ (i ≡ j)
      → D.pairing (D.simple j) (D.simple i) ≡ neg_ℤ (pos c) → D.pairing (D.simple i) (D.simple j) ≡ neg_ℤ (pos d)
      → Valid c d t → IsSum D (turned_root t i j) (turn c d t).0 (D.simple i) (turn c d t).1 (D.simple j)
  turned_sum zero c d i j apart e f v = λ k. omega (arith, ints)
  turned_sum (suc t) c d i j apart e f v =
      let y = (turn d c t).0 in
      let x = (turn d c t).1 in
      let fits : x ≤ y * c = lit≤ v.0 in
      let inner : IsSum D (turned_root t j i) y (D.simple j) x (D.simple i) =
      turned_sum t d c j i (λ p. apart (sym p)) f e v.1 in
      sum_step D laws (turned_root t j i) x (y * c - x) y c i j apart e (omega arith) (λ k. omega (arith, ints, inner k))

  -- two simple roots whose m + 1 reflections in turn agree: what the rank two cases give
  pub record IsTurn (m : ℕ) (i j : D.Index) : Type 0 where
    pub sums : (t : ℕ) → t ≤ m → (x : ℕ) × (y : ℕ) × IsSum D (turned_root t i j) x (D.simple i) y (D.simple j)
    pub ends : turned_root m i j ≡ D.simple j

  pub turn_from : (m c d : ℕ) (i j : D.Index) → ¬ (i ≡ j)
      → D.pairing (D.simple j) (D.simple i) ≡ neg_ℤ (pos c) → D.pairing (D.simple i) (D.simple j) ≡ neg_ℤ (pos d)
      → ValidTo c d m → Valid c d m → turn c d m ≡ (0, 1) → IsTurn m i j
  turn_from m c d i j apart e f v last meets = record {
    sums = λ t h. ((turn c d t).0, (turn c d t).1, turned_sum t c d i j apart e f (valid_at c d m t v h));
    ends = laws.determined (turned_root m i j) (D.simple j) (λ k.
        let s = turned_sum m c d i j apart e f last k in
        let s' = rw meets at s in
        omega (arith, ints));
  }

  module _ (i j : D.Index) (apart : ¬ (i ≡ j)) where
    pub turn_a1a1 : D.pairing (D.simple j) (D.simple i) ≡ neg_ℤ (pos 0) → D.pairing (D.simple i) (D.simple j) ≡ neg_ℤ (pos 0) → IsTurn 1 i j
    turn_a1a1 e f = turn_from 1 0 0 i j apart e f ((tt, tt), tt) (tt, tt) refl

    pub turn_a2 : D.pairing (D.simple j) (D.simple i) ≡ neg_ℤ (pos 1) → D.pairing (D.simple i) (D.simple j) ≡ neg_ℤ (pos 1) → IsTurn 2 i j
    turn_a2 e f = turn_from 2 1 1 i j apart e f ((tt, (tt, tt)), ((tt, tt), tt)) (tt, (tt, tt)) refl

    pub turn_b2 : D.pairing (D.simple j) (D.simple i) ≡ neg_ℤ (pos 1) → D.pairing (D.simple i) (D.simple j) ≡ neg_ℤ (pos 2) → IsTurn 3 i j
    turn_b2 e f = turn_from 3 1 2 i j apart e f ((tt, (tt, (tt, tt))), ((tt, (tt, tt)), ((tt, tt), tt))) (tt, (tt, (tt, tt))) refl

    pub turn_g2 : D.pairing (D.simple j) (D.simple i) ≡ neg_ℤ (pos 1) → D.pairing (D.simple i) (D.simple j) ≡ neg_ℤ (pos 3) → IsTurn 5 i j
    turn_g2 e f = turn_from 5 1 3 i j apart e f ((tt, (tt, (tt, (tt, (tt, tt))))), ((tt, (tt, (tt, (tt, tt)))), ((tt, (tt, (tt, tt))), ((tt, (tt, tt)), ((tt, tt), tt))))) (tt, (tt, (tt, (tt, (tt, tt))))) refl
