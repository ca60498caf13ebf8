-- A value put at the pair of a place: the places before keep what holds there, and the place itself holds.
use Rattle.std.proofs.Common.{◌≡◌, ◌≢◌, ℕ, ◌+◌, ◌<◌, ℤ, pos, neg_ℤ, ◌+ℤ◌, ◌*ℤ◌, refl, sym, ap, subst, ◌∙◌, arith, ◌⊎◌, inl, inr, ⊎_elim, unsigned_abs}
use Rattle.std.proofs.lemmas.Int.{ints}
use Rattle.lie_datum.specs.Vectors.{Vector}
use Rattle.lie_datum.specs.RootList.{RootDatum, IsLoaded, IsNumber, IsString, IsRun, root_of}
use Rattle.lie_datum.proofs.Entries.{within_or_past}
use Rattle.lie_const.specs.StructureConstants.{Table, IsSum, IsSpecial, IsExtraspecial, norm, gap, Place, Precedes, IsForced, extra, own, right, left, HasSigns, HoldsAt}
use Rattle.lie_const.specs.Filling.{IsPairAt, own_pair, right_pair, left_pair, next, IsUnitSolution}
use Rattle.lie_const.proofs.SumLemmas.{neg_neg, neg_number, sum_swap, sum_neg, compare_numbers}
use Rattle.lie_const.proofs.PlaceLemmas.{Precedes-trans, not_before_itself, IsTurned, IsShape, pair_sum, one_place_of, place_eq}
use Rattle.lie_const.proofs.ForcedLemmas.{one_extraspecial, one_second, forced_same}

-- ---- the equation of a place is one
-- the pair and the numbers of two equations are the same
pub record IsSameEquation (r s a e r' s' a' e' : ℤ) : Type 0 where
  pub left : r ≡ r'
  pub right : s ≡ s'
  pub factor : a ≡ a'
  pub value : e ≡ e'

-- a run has one end
one_run : (d : RootDatum) (r s : Vector) (m n : ℕ) → IsRun d r s m → IsRun d r s n → m ≡ n
one_run d r s m n x y = ⊎_elim (λ l. absurd (further m n x y l)) (λ l. ⊎_elim (λ k. absurd (further n m y x k)) (λ k. omega (arith, l, k)) (within_or_past n m)) (within_or_past m n)
  where
    further : (m n : ℕ) → IsRun d r s m → IsRun d r s n → m < n → ⊥
    further m n x y l = x.ends (y.roots (m + 1) (omega arith) (omega (arith, l)))

module _ (d : RootDatum) (loaded : IsLoaded d) (n : Table) where
  -- an equation, with its place as a variable
  pub data IsForm (at : Place) (r s a e : ℤ) : Type 0 where
    extra_form : (p q : ℕ) → at.part ≡ 0 → at.first ≡ r → IsExtraspecial d r s at.sum → IsString d (root_of d r) (root_of d s) p q → a ≡ pos 1 → e ≡ pos (p + 1) → IsForm at r s a e
    own_form : (r0 s0 : ℤ) → at.part ≡ 0 → at.first ≡ r → IsSpecial d r s at.sum → IsExtraspecial d r0 s0 at.sum → r0 ≢ r →
        a ≡ n r0 s0 *ℤ gap d s r0 *ℤ gap d r r0 →
        e ≡ norm d at.sum *ℤ (n s (neg_ℤ r0) *ℤ n r (neg_ℤ s0) *ℤ gap d r r0 +ℤ n (neg_ℤ r0) r *ℤ n s (neg_ℤ s0) *ℤ gap d s r0) → IsForm at r s a e
    right_form : at.part ≡ 1 → IsSpecial d at.first r at.sum → s ≡ neg_ℤ at.sum → a ≡ norm d at.sum → e ≡ n at.first r *ℤ norm d at.first → IsForm at r s a e
    left_form : (t : ℤ) → at.part ≡ 2 → at.first ≡ s → IsSpecial d s t at.sum → r ≡ neg_ℤ at.sum → a ≡ norm d at.sum → e ≡ n s t *ℤ norm d t → IsForm at r s a e

  pub form_of : (at : Place) (r s a e : ℤ) → IsForced d n at r s a e → IsForm at r s a e
  form_of _ _ _ _ _ (extra r s k p q x t) = extra_form p q refl refl x t refl refl
  form_of _ _ _ _ _ (own r s k r0 s0 h x o) = own_form r0 s0 refl refl h x o refl refl
  form_of _ _ _ _ _ (right r s k h) = right_form refl h refl refl refl
  form_of _ _ _ _ _ (left r s k h) = left_form s refl refl h refl refl refl

  not_equal : (a : ℕ) (i j : ℕ) → i ≢ j → a ≡ i → a ≡ j → ⊥
  not_equal a i j o p q = o (sym p ∙ q)

  one_form : (at : Place) (r s a e r' s' a' e' : ℤ) → IsForm at r s a e → IsForm at r' s' a' e' → IsSameEquation r s a e r' s' a' e'
  one_form at r s a e r' s' a' e' (extra_form p q w f x t g h) (extra_form p' q' w' f' x' t' g' h') =
      let z = one_extraspecial d loaded r s r' s' at.sum x x' in
      record {
        left = z.0;
        right = z.1;
        factor = g ∙ sym g';
        value = h ∙ ap (λ k. pos (k + 1)) (one_run d _ _ p p' t.0 (subst (λ u. IsString d (root_of d r) (root_of d u) p' q') (sym z.1) (subst (λ u. IsString d (root_of d u) (root_of d s') p' q') (sym z.0) t')).0) ∙ sym h';
      }
  one_form at r s a e r' s' a' e' (own_form r0 s0 w f u x o g h) (own_form r0' s0' w' f' u' x' o' g' h') =
      let z = one_extraspecial d loaded r0 s0 r0' s0' at.sum x x' in
      let l = sym f ∙ f' in
      let m = one_second d loaded r s s' at.sum u (subst (λ t. IsSpecial d t s' at.sum) (sym l) u') in
      record {
        left = l;
        right = m;
        factor = g ∙ ap (λ t. n t s0 *ℤ gap d s t *ℤ gap d r t) z.0 ∙ ap (λ t. n r0' t *ℤ gap d s r0' *ℤ gap d r r0') z.1 ∙ ap (λ t. n r0' s0' *ℤ gap d t r0' *ℤ gap d r r0') m ∙ ap (λ t. n r0' s0' *ℤ gap d s' r0' *ℤ gap d t r0') l ∙ sym g';
        value = h ∙ ap (λ t. norm d at.sum *ℤ (n s (neg_ℤ t) *ℤ n r (neg_ℤ s0) *ℤ gap d r t +ℤ n (neg_ℤ t) r *ℤ n s (neg_ℤ s0) *ℤ gap d s t)) z.0
            ∙ ap (λ t. norm d at.sum *ℤ (n s (neg_ℤ r0') *ℤ n r (neg_ℤ t) *ℤ gap d r r0' +ℤ n (neg_ℤ r0') r *ℤ n s (neg_ℤ t) *ℤ gap d s r0')) z.1
            ∙ ap (λ t. norm d at.sum *ℤ (n t (neg_ℤ r0') *ℤ n r (neg_ℤ s0') *ℤ gap d r r0' +ℤ n (neg_ℤ r0') r *ℤ n t (neg_ℤ s0') *ℤ gap d t r0')) m
            ∙ ap (λ t. norm d at.sum *ℤ (n s' (neg_ℤ r0') *ℤ n t (neg_ℤ s0') *ℤ gap d t r0' +ℤ n (neg_ℤ r0') t *ℤ n s' (neg_ℤ s0') *ℤ gap d s' r0')) l ∙ sym h';
      }
  one_form at r s a e r' s' a' e' (right_form w u f g h) (right_form w' u' f' g' h') =
      let l = one_second d loaded at.first r r' at.sum u u' in
      record { left = l; right = f ∙ sym f'; factor = g ∙ sym g'; value = h ∙ ap (λ t. n at.first t *ℤ norm d at.first) l ∙ sym h' }
  one_form at r s a e r' s' a' e' (left_form t w z u f g h) (left_form t' w' z' u' f' g' h') =
      let l = sym z ∙ z' in
      let m = one_second d loaded s t t' at.sum u (subst (λ v. IsSpecial d v t' at.sum) (sym l) u') in
      record { left = f ∙ sym f'; right = l; factor = g ∙ sym g'; value = h ∙ ap (λ v. n v t *ℤ norm d t) l ∙ ap (λ v. n s' v *ℤ norm d v) m ∙ sym h' }
  one_form at r s a e r' s' a' e' (extra_form p q w f x t g h) (own_form r0' s0' w' f' u' x' o' g' h') =
      absurd (o' (sym (one_extraspecial d loaded r s r0' s0' at.sum x x').0 ∙ sym f ∙ f'))
  one_form at r s a e r' s' a' e' (own_form r0 s0 w f u x o g h) (extra_form p' q' w' f' x' t' g' h') =
      absurd (o ((one_extraspecial d loaded r0 s0 r' s' at.sum x x').0 ∙ sym f' ∙ f))
  one_form at r s a e r' s' a' e' (extra_form p q w f x t g h) (right_form w' u' f' g' h') = absurd (omega (arith, w, w'))
  one_form at r s a e r' s' a' e' (extra_form p q w f x t g h) (left_form t' w' z' u' f' g' h') = absurd (omega (arith, w, w'))
  one_form at r s a e r' s' a' e' (own_form r0 s0 w f u x o g h) (right_form w' u' f' g' h') = absurd (omega (arith, w, w'))
  one_form at r s a e r' s' a' e' (own_form r0 s0 w f u x o g h) (left_form t' w' z' u' f' g' h') = absurd (omega (arith, w, w'))
  one_form at r s a e r' s' a' e' (right_form w u f g h) (extra_form p' q' w' f' x' t' g' h') = absurd (omega (arith, w, w'))
  one_form at r s a e r' s' a' e' (right_form w u f g h) (own_form r0' s0' w' f' u' x' o' g' h') = absurd (omega (arith, w, w'))
  one_form at r s a e r' s' a' e' (right_form w u f g h) (left_form t' w' z' u' f' g' h') = absurd (omega (arith, w, w'))
  one_form at r s a e r' s' a' e' (left_form t w z u f g h) (extra_form p' q' w' f' x' t' g' h') = absurd (omega (arith, w, w'))
  one_form at r s a e r' s' a' e' (left_form t w z u f g h) (own_form r0' s0' w' f' u' x' o' g' h') = absurd (omega (arith, w, w'))
  one_form at r s a e r' s' a' e' (left_form t w z u f g h) (right_form w' u' f' g' h') = absurd (omega (arith, w, w'))

  pub one_equation : (at : Place) (r s a e r' s' a' e' : ℤ) → IsForced d n at r s a e → IsForced d n at r' s' a' e' → IsSameEquation r s a e r' s' a' e'
  one_equation at r s a e r' s' a' e' h g = one_form at r s a e r' s' a' e' (form_of at r s a e h) (form_of at r' s' a' e' g)

-- the pair of an equation is that of its place
pub forced_pair : (d : RootDatum) (n : Table) (at : Place) (r s a e : ℤ) → IsForced d n at r s a e → IsPairAt d at r s
forced_pair d n _ _ _ _ _ (extra r s k p q x t) = own_pair r s k x.special
forced_pair d n _ _ _ _ _ (own r s k r0 s0 h x o) = own_pair r s k h
forced_pair d n _ _ _ _ _ (right r s k h) = right_pair r s k h
forced_pair d n _ _ _ _ _ (left r s k h) = left_pair r s k h

-- the string of one root along another is one
pub one_string : (d : RootDatum) (r s : ℤ) (p q p' q' : ℕ) → IsString d (root_of d r) (root_of d s) p q → IsString d (root_of d r) (root_of d s) p' q' → p ≡ p'
one_string d r s p q p' q' t u = one_run d _ _ p p' t.0 u.0

-- ---- a value is put
-- n' is n but for the value v at (p, q), and what the two sign rules give from it
pub record IsPut (d : RootDatum) (n n' : Table) (p q v : ℤ) : Type 0 where
  pub own : n' p q ≡ v
  pub swapped : n' q p ≡ neg_ℤ v
  pub opposite : n' (neg_ℤ p) (neg_ℤ q) ≡ neg_ℤ v
  pub both : n' (neg_ℤ q) (neg_ℤ p) ≡ v
  pub others : (x y : ℤ) → IsNumber d x → IsNumber d y → ¬ IsTurned p q x y → n' x y ≡ n x y

-- a pair is one of the four, or none
turned_or : (p q x y : ℤ) → IsTurned p q x y ⊎ (¬ IsTurned p q x y)
turned_or p q x y =
    ⊎_elim (λ f. inl (inl f)) (λ f. ⊎_elim (λ g. inl (inr (inl g))) (λ g. ⊎_elim (λ h. inl (inr (inr (inl h)))) (λ h. ⊎_elim (λ k. inl (inr (inr (inr k)))) (λ k. inr (λ t. none f g h k t))
    (both x (neg_ℤ q) y (neg_ℤ p))) (both x (neg_ℤ p) y (neg_ℤ q))) (both x q y p)) (both x p y q)
  where
    same : (a b : ℤ) → (a ≡ b) ⊎ (a ≢ b)
    same a b = ⊎_elim (λ l. inr (λ e. absurd (omega (arith, ints, l, e)))) (λ f. ⊎_elim (λ l. inr (λ e. absurd (omega (arith, ints, l, e)))) (λ e. inl e) f) (compare_numbers a b)

    both : (a b c e : ℤ) → ((a ≡ b) × (c ≡ e)) ⊎ (¬ ((a ≡ b) × (c ≡ e)))
    both a b c e = ⊎_elim (λ f. ⊎_elim (λ g. inl (f, g)) (λ g. inr (λ h. g h.1)) (same c e)) (λ f. inr (λ h. f h.0)) (same a b)

    none : ¬ ((x ≡ p) × (y ≡ q)) → ¬ ((x ≡ q) × (y ≡ p)) → ¬ ((x ≡ neg_ℤ p) × (y ≡ neg_ℤ q)) → ¬ ((x ≡ neg_ℤ q) × (y ≡ neg_ℤ p)) → ¬ IsTurned p q x y
    none f g h k (inl t) = f t
    none f g h k (inr (inl t)) = g t
    none f g h k (inr (inr (inl t))) = h t
    none f g h k (inr (inr (inr t))) = k t

-- the two sign rules keep the four pairs
turned_swapped : (p q x y : ℤ) → IsTurned p q y x → IsTurned p q x y
turned_swapped p q x y (inl e) = inr (inl (e.1, e.0))
turned_swapped p q x y (inr (inl e)) = inl (e.1, e.0)
turned_swapped p q x y (inr (inr (inl e))) = inr (inr (inr (e.1, e.0)))
turned_swapped p q x y (inr (inr (inr e))) = inr (inr (inl (e.1, e.0)))

back : (x p : ℤ) → neg_ℤ x ≡ p → x ≡ neg_ℤ p
back x p e = sym (neg_neg x) ∙ ap neg_ℤ e

turned_opposite : (p q x y : ℤ) → IsTurned p q (neg_ℤ x) (neg_ℤ y) → IsTurned p q x y
turned_opposite p q x y (inl e) = inr (inr (inl (back x p e.0, back y q e.1)))
turned_opposite p q x y (inr (inl e)) = inr (inr (inr (back x q e.0, back y p e.1)))
turned_opposite p q x y (inr (inr (inl e))) = inl (back x (neg_ℤ p) e.0 ∙ neg_neg p, back y (neg_ℤ q) e.1 ∙ neg_neg q)
turned_opposite p q x y (inr (inr (inr e))) = inr (inl (back x (neg_ℤ q) e.0 ∙ neg_neg q, back y (neg_ℤ p) e.1 ∙ neg_neg p))

module _ (d : RootDatum) (loaded : IsLoaded d) (n n' : Table) (ns : HasSigns d n) (at : Place) (p q v : ℤ) (pair : IsPairAt d at p q) (put : IsPut d n n' p q v) where
  -- the pair has a sum, and so have the other three
  turned_sum : (x y : ℤ) → IsTurned p q x y → (z : ℤ) × IsSum d x y z
  turned_sum x y t = by (pair_sum d loaded at p q pair) t
    where
      make : (x y a b z : ℤ) → x ≡ a → y ≡ b → IsSum d a b z → IsSum d x y z
      make x y a b z e f h = subst (λ t. IsSum d t y z) (sym e) (subst (λ t. IsSum d a t z) (sym f) h)

      by : ((z : ℤ) × IsSum d p q z × IsShape at (unsigned_abs p) (unsigned_abs q) (unsigned_abs z)) → IsTurned p q x y → (z : ℤ) × IsSum d x y z
      by (z, u, _) (inl e) = (z, make x y p q z e.0 e.1 u)
      by (z, u, _) (inr (inl e)) = (z, make x y q p z e.0 e.1 (sum_swap d loaded p q z u))
      by (z, u, _) (inr (inr (inl e))) = (neg_ℤ z, make x y (neg_ℤ p) (neg_ℤ q) (neg_ℤ z) e.0 e.1 (sum_neg d loaded p q z u))
      by (z, u, _) (inr (inr (inr e))) = (neg_ℤ z, make x y (neg_ℤ q) (neg_ℤ p) (neg_ℤ z) e.0 e.1 (sum_neg d loaded q p z (sum_swap d loaded p q z u)))

  -- the values at the four pairs
  at_pair : (x y a b w : ℤ) → x ≡ a → y ≡ b → n' a b ≡ w → n' x y ≡ w
  at_pair x y a b w e f h = ap (λ t. n' t y) e ∙ ap (n' a) f ∙ h

  put_swapped : (x y : ℤ) → IsTurned p q x y → n' y x ≡ neg_ℤ (n' x y)
  put_swapped x y (inl e) = at_pair y x q p (neg_ℤ v) e.1 e.0 put.swapped ∙ ap neg_ℤ (sym (at_pair x y p q v e.0 e.1 put.own))
  put_swapped x y (inr (inl e)) = at_pair y x p q v e.1 e.0 put.own ∙ sym (neg_neg v) ∙ ap neg_ℤ (sym (at_pair x y q p (neg_ℤ v) e.0 e.1 put.swapped))
  put_swapped x y (inr (inr (inl e))) = at_pair y x (neg_ℤ q) (neg_ℤ p) v e.1 e.0 put.both ∙ sym (neg_neg v) ∙ ap neg_ℤ (sym (at_pair x y (neg_ℤ p) (neg_ℤ q) (neg_ℤ v) e.0 e.1 put.opposite))
  put_swapped x y (inr (inr (inr e))) = at_pair y x (neg_ℤ p) (neg_ℤ q) (neg_ℤ v) e.1 e.0 put.opposite ∙ ap neg_ℤ (sym (at_pair x y (neg_ℤ q) (neg_ℤ p) v e.0 e.1 put.both))

  put_opposite : (x y : ℤ) → IsTurned p q x y → n' (neg_ℤ x) (neg_ℤ y) ≡ neg_ℤ (n' x y)
  put_opposite x y (inl e) = at_pair (neg_ℤ x) (neg_ℤ y) (neg_ℤ p) (neg_ℤ q) (neg_ℤ v) (ap neg_ℤ e.0) (ap neg_ℤ e.1) put.opposite ∙ ap neg_ℤ (sym (at_pair x y p q v e.0 e.1 put.own))
  put_opposite x y (inr (inl e)) = at_pair (neg_ℤ x) (neg_ℤ y) (neg_ℤ q) (neg_ℤ p) v (ap neg_ℤ e.0) (ap neg_ℤ e.1) put.both ∙ sym (neg_neg v) ∙ ap neg_ℤ (sym (at_pair x y q p (neg_ℤ v) e.0 e.1 put.swapped))
  put_opposite x y (inr (inr (inl e))) = at_pair (neg_ℤ x) (neg_ℤ y) p q v (ap neg_ℤ e.0 ∙ neg_neg p) (ap neg_ℤ e.1 ∙ neg_neg q) put.own ∙ sym (neg_neg v) ∙ ap neg_ℤ (sym (at_pair x y (neg_ℤ p) (neg_ℤ q) (neg_ℤ v) e.0 e.1 put.opposite))
  put_opposite x y (inr (inr (inr e))) = at_pair (neg_ℤ x) (neg_ℤ y) q p (neg_ℤ v) (ap neg_ℤ e.0 ∙ neg_neg q) (ap neg_ℤ e.1 ∙ neg_neg p) put.swapped ∙ ap neg_ℤ (sym (at_pair x y (neg_ℤ q) (neg_ℤ p) v e.0 e.1 put.both))

  pub put_signs : HasSigns d n'
  put_signs = record {
    none = λ x y a b h. ⊎_elim (λ t. (let z = turned_sum x y t in absurd (h z.0 z.1))) (λ t. put.others x y a b t ∙ ns.none x y a b h) (turned_or p q x y);
    swapped = λ x y a b. ⊎_elim (λ t. put_swapped x y t)
        (λ t. put.others y x b a (λ u. t (turned_swapped p q x y u)) ∙ ns.swapped x y a b ∙ ap neg_ℤ (sym (put.others x y a b t))) (turned_or p q x y);
    opposite = λ x y a b. ⊎_elim (λ t. put_opposite x y t)
        (λ t. put.others (neg_ℤ x) (neg_ℤ y) (neg_number d loaded x a) (neg_number d loaded y b) (λ u. t (turned_opposite p q x y u)) ∙ ns.opposite x y a b ∙ ap neg_ℤ (sym (put.others x y a b t))) (turned_or p q x y);
  }

  -- at other places the tables agree
  put_agree : (b : Place) → b ≢ at → (x y : ℤ) → IsPairAt d b x y → n' x y ≡ n x y
  put_agree b o x y h = put.others x y (pair_numbers b x y h).0 (pair_numbers b x y h).1 (λ t. o (one_place_of d loaded at b p q x y pair h t))
    where
      pair_numbers : (b : Place) (x y : ℤ) → IsPairAt d b x y → IsNumber d x × IsNumber d y
      pair_numbers b x y h = let z = pair_sum d loaded b x y h in (z.1.left, z.1.right)

  put_before : (b : Place) → Precedes b at → (x y : ℤ) → IsPairAt d b x y → n' x y ≡ n x y
  put_before b l = put_agree b (λ e. not_before_itself at (subst (λ t. Precedes t at) e l))

  -- so the places before keep what holds there
  pub put_keeps : (b : Place) → Precedes b at → HoldsAt d n b → HoldsAt d n' b
  put_keeps b l h x y a e f =
      let g = h x y a e (forced_same d loaded n n' ns put_signs b x y a e f (λ c k u w z. sym (put_before c (Precedes-trans c b at k l) u w z))) in
      let s = put_before b l x y (forced_pair d n' b x y a e f) in
      (ap (λ t. t *ℤ a) s ∙ g.0, subst (λ t. (i j : ℕ) → IsString d (root_of d x) (root_of d y) i j → (t ≡ pos (i + 1)) ⊎ (t ≡ neg_ℤ (pos (i + 1)))) (sym s) g.1)

  -- and this place holds
  pub put_holds : (a e : ℤ) → IsForced d n at p q a e → IsUnitSolution d p q a e v → HoldsAt d n' at
  put_holds a e f h x y a' e' g =
      let k = forced_same d loaded n n' ns put_signs at x y a' e' g (λ c l u w z. sym (put_before c l u w z)) in
      let s = one_equation d loaded n at p q a e x y a' e' f k in
      let o = sym (ap (λ t. n' t q) s.left ∙ ap (n' x) s.right) ∙ put.own in (
        ap (λ t. t *ℤ a') o ∙ ap (λ t. v *ℤ t) (sym s.factor) ∙ h.solves ∙ s.value,
        λ i j t. subst (λ z. (z ≡ pos (i + 1)) ⊎ (z ≡ neg_ℤ (pos (i + 1)))) (sym o)
            (h.unit i j (subst (λ z. IsString d (root_of d p) (root_of d z) i j) (sym s.right) (subst (λ z. IsString d (root_of d z) (root_of d y) i j) (sym s.left) t))),
      )

  -- the places before the next one hold
  pub put_next : ((b : Place) → Precedes b at → HoldsAt d n b) → (a e : ℤ) → IsForced d n at p q a e → IsUnitSolution d p q a e v → (b : Place) → Precedes b (next at) → HoldsAt d n' b
  put_next before a e f h b (inl l) = put_keeps b (inl l) (before b (inl l))
  put_next before a e f h b (inr (inl l)) = put_keeps b (inr (inl l)) (before b (inr (inl l)))
  put_next before a e f h b (inr (inr l)) =
      ⊎_elim (λ m. (let k : Precedes b at = inr (inr (l.0, l.1, m)) in put_keeps b k (before b k)))
      (λ m. (let k : b.part ≡ at.part = let w = l.2 in omega (arith, m, w) in subst (HoldsAt d n') (sym (place_eq b at l.0 l.1 k)) (put_holds a e f h))) (within_or_past b.part at.part)
