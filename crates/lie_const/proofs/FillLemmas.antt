-- How the values are filled: from the value 0 everywhere, place by place, to a table that stands for the datum.
use Rattle.std.proofs.Common.{◌≡◌, ◌≢◌, ℕ, zero, suc, ◌+◌, ◌-◌, ◌*◌, ◌<◌, ◌≤◌, ℤ, pos, negsuc, neg_ℤ, ◌+ℤ◌, ◌*ℤ◌, ◌<ℤ◌, List, length, get_or, set, replicate, refl, sym, ap, subst, ◌∙◌, arith, ◌⊎◌, inl, inr, ⊎_elim, unsigned_abs, Result, Ok, Err, MatchResult, true, ltb, cond}
use Rattle.std.proofs.lemmas.Int.{ints, by_lt_z}
use Rattle.std.proofs.lemmas.Nat.{mul-add-lt}
use Rattle.std.proofs.Math.Nat.{mul-le-mul_right}
use Rattle.std.proofs.Math.ListN.{length-set}
use Rattle.std.proofs.lemmas.List.{get_or-set_same, get_or-set_other, get_or-replicate}
use Rattle.std.proofs.lemmas.Bool.Decides.{nat_tests}
use Rattle.lie_datum.specs.Numbers.{place, number_at}
use Rattle.lie_datum.specs.RootList.{RootDatum, IsLoaded, IsNumber}
use Rattle.lie_datum.proofs.Entries.{within_or_past}
use Rattle.lie_datum.proofs.NumberLemmas.{place_within, some_within}
use Rattle.lie_datum.proofs.SignedRoots.{same_place}
use Rattle.lie_const.specs.declared.faults.ConstFault.{ConstFault}
use Rattle.lie_const.specs.StructureConstants.{Table, IsSum, IsSpecial, Place, Precedes, at_part, IsForced, right, left, norm, StandsFor, IsFirstFailure}
use Rattle.lie_const.specs.ConstantTables.{pair_place, value_in}
use Rattle.lie_const.specs.Filling.{PairValues, table_in, put, IsUnitSolution, HasNoSolution, next, IsFilled, IsPairAt, own_pair, right_pair, left_pair}
use Rattle.lie_const.proofs.SumLemmas.{neg_neg, neg_number, not_double, not_opposite, left_before, compare_numbers, sign_of}
use Rattle.lie_const.proofs.PlaceLemmas.{pair_sum, special_positive}
use Rattle.lie_const.proofs.PutLemmas.{IsPut, forced_pair, put_signs, put_next}

-- the k-th place below m is that of the root r_(k+1)
pub number_at-low : (m k : ℕ) → k < m → number_at m k ≡ pos (suc k)
number_at-low m k l = let t : ltb k m ≡ true = grind (arith, nat_tests) in ap (λ b. cond b (pos (k + 1)) (negsuc (k - m))) t ∙ ap pos (omega arith)

-- ---- values by pairs
-- a place has one row and one column
row_of : (n i j k l : ℕ) → j < n → l < n → i * n + j ≡ k * n + l → (i ≡ k) × (j ≡ l)
row_of n i j k l p q e = ⊎_elim (λ m. absurd (less i j k l p m e)) (λ m. ⊎_elim (λ h. absurd (less k l i j q h (sym e))) (λ h. (let f : i ≡ k = omega (arith, m, h) in (f, (let g = ap (λ t. t * n) f in omega (arith, g, e))))) (within_or_past k i)) (within_or_past i k)
  where
    less : (i j k l : ℕ) → j < n → i < k → i * n + j ≡ k * n + l → ⊥
    less i j k l p m e = let w : suc i ≤ k = omega (arith, m) in let h = mul-le-mul_right n w in omega (arith, h, p, e)

module _ (d : RootDatum) (m : ℕ) (count : m ≡ length d.positive) where
  pub one_pair_place : (r s x y : ℤ) → IsNumber d r → IsNumber d s → IsNumber d x → IsNumber d y → pair_place m r s ≡ pair_place m x y → (r ≡ x) × (s ≡ y)
  one_pair_place r s x y a b f g e =
      let p = number r a in
      let q = number s b in
      let u = number x f in
      let v = number y g in
      let h = row_of (2 * m) (place m r) (place m s) (place m x) (place m y) q.2 v.2 e in
      (same_place m r x p u h.0, same_place m s y q v h.1)
    where
      number : (k : ℤ) → IsNumber d k → (1 ≤ unsigned_abs k) × (unsigned_abs k ≤ m) × (place m k < 2 * m)
      number k n = subst (λ t. (1 ≤ unsigned_abs k) × (unsigned_abs k ≤ t) × (place t k < 2 * t)) (sym count) (place_within d k n)

  pub pair_within : (r s : ℤ) → IsNumber d r → IsNumber d s → pair_place m r s < 2 * m * (2 * m)
  pair_within r s a b = subst (λ t. pair_place t r s < 2 * t * (2 * t)) (sym count)
      (mul-add-lt (place (length d.positive) r) (2 * length d.positive) (place (length d.positive) s) (2 * length d.positive) (place_within d r a).2 (place_within d s b).2)

  -- a value that is written is read at its pair alone
  read_same : (xs : List ℤ) (r s c : ℤ) → length xs ≡ 2 * m * (2 * m) → IsNumber d r → IsNumber d s → value_in m (set xs (pair_place m r s) c) r s ≡ c
  read_same xs r s c e a b = get_or-set_same xs (pair_place m r s) c (pos 0) (let l = pair_within r s a b in omega (arith, l, e))

  read_other : (xs : List ℤ) (r s x y c : ℤ) → IsNumber d r → IsNumber d s → IsNumber d x → IsNumber d y → ¬ ((x ≡ r) × (y ≡ s)) → value_in m (set xs (pair_place m r s) c) x y ≡ value_in m xs x y
  read_other xs r s x y c a b f g o = get_or-set_other xs (pair_place m r s) (pair_place m x y) c (pos 0) (λ e. o (one_pair_place x y r s f g a b e))

  not_own_opposite : (k : ℤ) → IsNumber d k → k ≢ neg_ℤ k
  not_own_opposite k n e = ⊎_elim (λ l. omega (arith, ints, l, e)) (λ l. omega (arith, ints, l, e)) (sign_of d k n)

  -- what is put at a pair
  module _ (loaded : IsLoaded d) (xs : List ℤ) (long : length xs ≡ 2 * m * (2 * m)) (p q c : ℤ) (a : IsNumber d p) (b : IsNumber d q) (unequal : q ≢ p) (independent : q ≢ neg_ℤ p) where
    na : IsNumber d (neg_ℤ p)
    na = neg_number d loaded p a

    nb : IsNumber d (neg_ℤ q)
    nb = neg_number d loaded q b

    one : List ℤ
    one = set xs (pair_place m p q) c

    two : List ℤ
    unfolding one
    two = set one (pair_place m q p) (neg_ℤ c)

    three : List ℤ
    unfolding two
    three = set two (pair_place m (neg_ℤ p) (neg_ℤ q)) (neg_ℤ c)

    four : List ℤ
    unfolding three
    four = set three (pair_place m (neg_ℤ q) (neg_ℤ p)) c

    long_one : length one ≡ 2 * m * (2 * m)
    unfolding one
    long_one = length-set xs (pair_place m p q) c ∙ long

    long_two : length two ≡ 2 * m * (2 * m)
    unfolding two
    long_two = length-set one (pair_place m q p) (neg_ℤ c) ∙ long_one

    long_three : length three ≡ 2 * m * (2 * m)
    unfolding three
    long_three = length-set two (pair_place m (neg_ℤ p) (neg_ℤ q)) (neg_ℤ c) ∙ long_two

    -- through the last writes
    through_four : (x y : ℤ) → IsNumber d x → IsNumber d y → ¬ ((x ≡ neg_ℤ q) × (y ≡ neg_ℤ p)) → value_in m four x y ≡ value_in m three x y
    unfolding four
    through_four x y f g o = read_other three (neg_ℤ q) (neg_ℤ p) x y c nb na f g o

    through_three : (x y : ℤ) → IsNumber d x → IsNumber d y → ¬ ((x ≡ neg_ℤ p) × (y ≡ neg_ℤ q)) → value_in m three x y ≡ value_in m two x y
    unfolding three
    through_three x y f g o = read_other two (neg_ℤ p) (neg_ℤ q) x y (neg_ℤ c) na nb f g o

    through_two : (x y : ℤ) → IsNumber d x → IsNumber d y → ¬ ((x ≡ q) × (y ≡ p)) → value_in m two x y ≡ value_in m one x y
    unfolding two
    through_two x y f g o = read_other one q p x y (neg_ℤ c) b a f g o

    through_one : (x y : ℤ) → IsNumber d x → IsNumber d y → ¬ ((x ≡ p) × (y ≡ q)) → value_in m one x y ≡ value_in m xs x y
    unfolding one
    through_one x y f g o = read_other xs p q x y c a b f g o

    own_read : value_in m one p q ≡ c
    unfolding one
    own_read = read_same xs p q c long a b

    swapped_read : value_in m two q p ≡ neg_ℤ c
    unfolding two
    swapped_read = read_same one q p (neg_ℤ c) long_one b a

    opposite_read : value_in m three (neg_ℤ p) (neg_ℤ q) ≡ neg_ℤ c
    unfolding three
    opposite_read = read_same two (neg_ℤ p) (neg_ℤ q) (neg_ℤ c) long_two na nb

    both_read : value_in m four (neg_ℤ q) (neg_ℤ p) ≡ c
    unfolding four
    both_read = read_same three (neg_ℤ q) (neg_ℤ p) c long_three nb na

    put_four : IsPut d (value_in m xs) (value_in m four) p q c
    put_four = record {
      own = through_four p q a b (λ e. independent (sym (neg_neg q) ∙ ap neg_ℤ (sym e.0))) ∙ through_three p q a b (λ e. not_own_opposite p a e.0) ∙ through_two p q a b (λ e. unequal (sym e.0)) ∙ own_read;
      swapped = through_four q p b a (λ e. not_own_opposite q b e.0) ∙ through_three q p b a (λ e. independent e.0) ∙ swapped_read;
      opposite = through_four (neg_ℤ p) (neg_ℤ q) na nb (λ e. unequal (sym (neg_neg q) ∙ ap neg_ℤ (sym e.0) ∙ neg_neg p)) ∙ opposite_read;
      both = both_read;
      others = λ x y f g o. through_four x y f g (λ e. o (inr (inr (inr e)))) ∙ through_three x y f g (λ e. o (inr (inr (inl e)))) ∙ through_two x y f g (λ e. o (inr (inl e))) ∙ through_one x y f g (λ e. o (inl e));
    }

    pub put_is : IsPut d (value_in m xs) (table_in (put (record { positive = m; values = xs }) p q c)) p q c
    unfolding one two three four
    put_is = put_four

-- ---- the places that have a pair
module _ (d : RootDatum) (loaded : IsLoaded d) where
  pub pair_special : (b : Place) (r s : ℤ) → IsPairAt d b r s → (t : ℤ) × IsSpecial d b.first t b.sum × (b.part < 3)
  pair_special _ _ _ (own_pair r s k h) = (s, h, omega arith)
  pair_special _ _ _ (right_pair r s k h) = (s, h, omega arith)
  pair_special _ _ _ (left_pair r s k h) = (s, h, omega arith)

  -- from one place to a later one, where no pair stands between
  filled_on : (v : PairValues) (a a' : Place) → IsFilled d v a → ((b : Place) → Precedes b a' → Precedes b a ⊎ ((t : ℤ) → IsSpecial d b.first t b.sum → b.part < 3 → ⊥)) → IsFilled d v a'
  filled_on v a a' f h = record {
    count = f.count;
    signs = f.signs;
    before = λ b l. ⊎_elim (λ k. f.before b k) (λ none r s x e g. (let p = pair_special b r s (forced_pair d (table_in v) b r s x e g) in absurd (none p.0 p.1 p.2))) (h b l);
  }

  -- the special pair with the first root r_n and all its mixed pairs are determined
  pub filled_pair : (v : PairValues) (k r : ℤ) → IsFilled d v (at_part k r 3) → IsFilled d v (at_part k (r +ℤ pos 1) 0)
  filled_pair v k r f = filled_on v (at_part k r 3) (at_part k (r +ℤ pos 1) 0) f step
    where
      step : (b : Place) → Precedes b (at_part k (r +ℤ pos 1) 0) → Precedes b (at_part k r 3) ⊎ ((t : ℤ) → IsSpecial d b.first t b.sum → b.part < 3 → ⊥)
      step b (inl l) = inl (inl l)
      step b (inr (inl l)) = let m = l.1 in ⊎_elim (λ h. inl (inr (inl (l.0, h)))) (λ g. ⊎_elim (λ h. absurd (omega (arith, ints, h, m)))
          (λ e. ⊎_elim (λ h. inl (inr (inr (l.0, e, h)))) (λ h. inr (λ t x y. absurd (omega (arith, h, y)))) (within_or_past b.part 3)) g) (compare_numbers b.first r)
      step b (inr (inr l)) = let m = l.2 in absurd (omega (arith, m))

  -- no special pair has this first root
  pub filled_skip : (v : PairValues) (k r : ℤ) → ((s : ℤ) → ¬ IsSpecial d r s k) → IsFilled d v (at_part k r 0) → IsFilled d v (at_part k (r +ℤ pos 1) 0)
  filled_skip v k r none f = filled_on v (at_part k r 0) (at_part k (r +ℤ pos 1) 0) f step
    where
      step : (b : Place) → Precedes b (at_part k (r +ℤ pos 1) 0) → Precedes b (at_part k r 0) ⊎ ((t : ℤ) → IsSpecial d b.first t b.sum → b.part < 3 → ⊥)
      step b (inl l) = inl (inl l)
      step b (inr (inl l)) = let m = l.1 in ⊎_elim (λ h. inl (inr (inl (l.0, h)))) (λ g. ⊎_elim (λ h. absurd (omega (arith, ints, h, m)))
          (λ e. inr (λ t x y. none t (subst (λ z. IsSpecial d z t k) e (subst (IsSpecial d b.first t) l.0 x)))) g) (compare_numbers b.first r)
      step b (inr (inr l)) = let m = l.2 in absurd (omega (arith, m))

  -- the special pairs of the sum k begin before r
  pub filled_sum : (v : PairValues) (k r : ℤ) → ((x s : ℤ) → IsSpecial d x s k → x <ℤ r) → IsFilled d v (at_part k r 0) → IsFilled d v (at_part (k +ℤ pos 1) (pos 1) 0)
  filled_sum v k r last f = filled_on v (at_part k r 0) (at_part (k +ℤ pos 1) (pos 1) 0) f step
    where
      step : (b : Place) → Precedes b (at_part (k +ℤ pos 1) (pos 1) 0) → Precedes b (at_part k r 0) ⊎ ((t : ℤ) → IsSpecial d b.first t b.sum → b.part < 3 → ⊥)
      step b (inl l) = ⊎_elim (λ h. inl (inl h)) (λ g. ⊎_elim (λ h. absurd (omega (arith, ints, h, l)))
          (λ e. by_lt_z b.first r (λ h. inl (inr (inl (e, h)))) (λ h. inr (λ t x y. (let z = last b.first t (subst (IsSpecial d b.first t) e x) in absurd (omega (arith, ints, z, h)))))) g) (compare_numbers b.sum k)
      step b (inr (inl l)) = let m = l.1 in inr (λ t x y. (let z = x.positive in absurd (omega (arith, ints, z, m))))
      step b (inr (inr l)) = let m = l.2 in absurd (omega (arith, m))

  -- the first root of a special pair stands before the sum
  pub first_before : (k x s : ℤ) → IsSpecial d x s k → x <ℤ k
  first_before k x s h = left_before d loaded x s k h.sum h.positive (special_positive d loaded x s k h)

  -- all sums are done
  pub filled_all : (v : PairValues) → IsFilled d v (at_part (pos (length d.positive) +ℤ pos 1) (pos 1) 0) → StandsFor d (table_in v)
  filled_all v f = record { signs = f.signs; values = λ b r s a e g. f.before b (inl (sum_within b r s (forced_pair d (table_in v) b r s a e g))) r s a e g }
    where
      sum_within : (b : Place) (r s : ℤ) → IsPairAt d b r s → b.sum <ℤ (pos (length d.positive) +ℤ pos 1)
      sum_within b r s p = let x = pair_special b r s p in let l = (place_within d b.sum x.1.sum.number).1 in below b.sum (length d.positive) l
        where
          below : (z : ℤ) (n : ℕ) → unsigned_abs z ≤ n → z <ℤ (pos n +ℤ pos 1)
          below (pos k) n l = omega (arith, ints, l)
          below (negsuc k) n l = omega (arith, ints)

  -- the value 0 everywhere
  pub filled_none : (m : ℕ) → m ≡ length d.positive → IsFilled d (record { positive = m; values = replicate (2 * m * (2 * m)) (pos 0) }) (at_part (pos 1) (pos 1) 0)
  filled_none m e = record {
    count = e;
    signs = record {
      none = λ r s a b h. zeros r s;
      swapped = λ r s a b. zeros s r ∙ sym (ap neg_ℤ (zeros r s));
      opposite = λ r s a b. zeros (neg_ℤ r) (neg_ℤ s) ∙ sym (ap neg_ℤ (zeros r s));
    };
    before = λ b l r s a e g. (let p = pair_special b r s (forced_pair d n b r s a e g) in absurd (early b p.0 p.1 l));
  }
    where
      n : Table
      n = table_in (record { positive = m; values = replicate (2 * m * (2 * m)) (pos 0) })

      zeros : (r s : ℤ) → value_in m (replicate (2 * m * (2 * m)) (pos 0)) r s ≡ pos 0
      zeros r s = ⊎_elim (λ l. get_or-replicate (2 * m * (2 * m)) (pair_place m r s) (pos 0) (pos 0) l)
          (λ l. past (2 * m * (2 * m)) (pair_place m r s) l) (within_or_past (pair_place m r s) (2 * m * (2 * m)))
        where
          past : (n i : ℕ) → n ≤ i → get_or (replicate n (pos 0)) i (pos 0) ≡ pos 0
          past zero i l = refl
          past (suc n) zero l = refl
          past (suc n) (suc i) l = past n i (omega (arith, l))

      early : (b : Place) (t : ℤ) → IsSpecial d b.first t b.sum → Precedes b (at_part (pos 1) (pos 1) 0) → ⊥
      early b t x (inl l) = let p = x.positive in let q = first_before b.sum b.first t x in omega (arith, ints, l, p, q)
      early b t x (inr (inl l)) = let p = x.positive in let q = l.1 in omega (arith, ints, p, q)
      early b t x (inr (inr l)) = let q = l.2 in omega (arith, q)

  -- the pair of a place is neither equal nor opposite
  pair_apart : (at : Place) (r s : ℤ) → IsPairAt d at r s → IsNumber d r × IsNumber d s × (s ≢ r) × (s ≢ neg_ℤ r)
  pair_apart at r s p = let z = pair_sum d loaded at r s p in (z.1.left, z.1.right, (λ e. not_double d loaded r z.0 (subst (λ t. IsSum d r t z.0) e z.1)), not_opposite d loaded r s z.0 z.1)

  -- one more value
  pub filled_put : (v : PairValues) (at : Place) (r s a e c : ℤ) → length v.values ≡ 2 * v.positive * (2 * v.positive) → IsFilled d v at → IsForced d (table_in v) at r s a e → IsUnitSolution d r s a e c → IsFilled d (put v r s c) (next at)
  filled_put v at r s a e c long f g h =
      let pair = forced_pair d (table_in v) at r s a e g in
      let x = pair_apart at r s pair in
      let is = put_is d v.positive f.count loaded v.values long r s c x.0 x.1 x.2 x.3 in
      record {
        count = f.count;
        signs = put_signs d loaded (table_in v) (table_in (put v r s c)) f.signs at r s c pair is;
        before = put_next d loaded (table_in v) (table_in (put v r s c)) f.signs at r s c pair is f.before a e g h;
      }

-- a value that fails
pub failed : (d : RootDatum) (v : PairValues) (at : Place) (r s a e : ℤ) → IsFilled d v at → IsForced d (table_in v) at r s a e → HasNoSolution d r s a e → IsFirstFailure d r s a e
failed d v at r s a e f g h = record { table = table_in v; signs = f.signs; at = at; before = f.before; forced = g; fails = h }

-- an equation with other names for its numbers
pub forced_as : (d : RootDatum) (n : Table) (at : Place) (r s a e a' e' : ℤ) → a' ≡ a → e' ≡ e → IsForced d n at r s a e → IsForced d n at r s a' e'
forced_as d n at r s a e a' e' f g h = subst (λ t. IsForced d n at r s t e') (sym f) (subst (IsForced d n at r s a) (sym g) h)

-- the place of a positive root
pub place_positive : (d : RootDatum) (k : ℤ) → IsNumber d k → pos 0 <ℤ k → (place (length d.positive) k < length d.positive) × (pos (suc (place (length d.positive) k)) ≡ k)
place_positive d (pos zero) n l = cc
place_positive d (pos (suc j)) n l = let h = (place_within d (pos (suc j)) n).1 in (omega (arith, h), ap pos (omega arith))
place_positive d (negsuc j) n l = absurd (omega (arith, ints, l))

-- the root at a place before that of k, as the code names it
pub number_before : (d : RootDatum) (k x : ℤ) (m n at : ℕ) → IsNumber d k → pos 0 <ℤ k → m ≡ length d.positive → n ≡ place m k → at < n → x ≡ number_at m at → x ≡ pos (suc at)
number_before d k x m n at q l e f h g =
    let p = (place_positive d k q l).0 in
    let i : at < m = let s = f ∙ ap (λ t. place t k) e in omega (arith, h, s, p, e) in
    g ∙ number_at-low m at i

-- the equations of the mixed pairs, with other names for their parts
pub right_as : (d : RootDatum) (n : Table) (r s k x a e : ℤ) → x ≡ neg_ℤ k → a ≡ norm d k → e ≡ n r s *ℤ norm d r → IsSpecial d r s k → IsForced d n (at_part k r 1) s x a e
right_as d n r s k x a e f g h p = subst (λ t. IsForced d n (at_part k r 1) s t a e) (sym f) (forced_as d n (at_part k r 1) s (neg_ℤ k) (norm d k) (n r s *ℤ norm d r) a e g h (right r s k p))

pub left_as : (d : RootDatum) (n : Table) (r s k x a e : ℤ) → x ≡ neg_ℤ k → a ≡ norm d k → e ≡ n r s *ℤ norm d s → IsSpecial d r s k → IsForced d n (at_part k r 2) x r a e
left_as d n r s k x a e f g h p = subst (λ t. IsForced d n (at_part k r 2) t r a e) (sym f) (forced_as d n (at_part k r 2) (neg_ℤ k) r (norm d k) (n r s *ℤ norm d s) a e g h (left r s k p))

-- what follows from an Ok
pub ok_more : {A B : Type 0} (E : ConstFault → Type 0) (o : Result (Unit {0}) ConstFault) → (A → B) → MatchResult o (λ _. A) E → MatchResult o (λ _. B) E
ok_more E (Ok x) f h = f h
ok_more E (Err e) f h = h

-- there is a root at each place before the end
pub number_low : (d : RootDatum) (k : ℤ) (at : ℕ) → IsNumber d k → pos 0 <ℤ k → at < place (length d.positive) k → IsNumber d (pos (suc at))
number_low d k at n p l = some_within d.positive at (let h = (place_positive d k n p).0 in omega (arith, h, l))
