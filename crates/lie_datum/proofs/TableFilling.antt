-- How the tables of a datum are filled.
use Rattle.std.proofs.Common.{◌≡◌, ℕ, zero, suc, ◌+◌, ◌*◌, ◌<◌, ◌≤◌, ℤ, pos, ◌+ℤ◌, ◌*ℤ◌, Bool, true, false, cond, List, [], ◌∷◌, ◌++◌, length, get_or, take, map, refl, sym, ap, ◌∙◌, arith, inl, inr, ⊎_elim, length-append, append_assoc, Option, None, Some, unsigned_abs, lit<, add-one}
use Rattle.std.specs.Option.{IsSome}
use Rattle.std.proofs.lemmas.List.{get_or_append_left, get_or-append-add, get_or_default, take_more, take_all, map-append}
use Rattle.std.proofs.Math.ListN.{length-map, get_or-map}
use Rattle.std.proofs.Math.IntN.{+ℤ_comm, +ℤ_assoc}
use Rattle.std.specs.List.{range_with_len}
use Rattle.std.specs.Ordering.{int_eq}
use Rattle.std.specs.Cmp.Rules.{signed_items}
use lib.Pointwise.{pointwise}
use mir.Val.{to_z, of_z}
use mir.Syntax.{w128}
use Rattle.lie_datum.specs.Vectors.{Vector, total}
use Rattle.lie_datum.specs.Numbers.{number_at}
use Rattle.lie_datum.specs.RootDatum.{Base, Root, rank, IsRoot, is_simple, is_reflected}
use Rattle.lie_datum.specs.Load.{NoneBefore}
use Rattle.lie_datum.specs.Grids.{grid, IsSamePair, IsIndexed}
use Rattle.lie_datum.proofs.Entries.{within_or_past}
use Rattle.lie_datum.proofs.VectorLemmas.{plain, abs_add, abs_mul, sum_is}

-- where there is a root, there is a simple one
pub root_rank : (b : Base) (r : Root) → IsRoot b r → 1 ≤ rank b
root_rank b _ (is_simple i s) = let p = s.0 in let q = s.1 in omega (arith, p, q)
root_rank b _ (is_reflected i r s p) = let q = s.0 in let h = s.1 in omega (arith, q, h)

-- ---- sums
-- the sum over one member more
pub total_take_more : {A : Type 0} (f : A → ℤ) (xs : List A) (k : ℕ) (d : A) → k < length xs → total f (take (k + 1) xs) ≡ total f (take k xs) +ℤ f (get_or xs k d)
total_take_more f xs k d l = ap (total f) (take_more xs k d l) ∙ last (take k xs) (get_or xs k d)
  where
    last : (ys : List _) (y : _) → total f (ys ++ y ∷ []) ≡ total f ys +ℤ f y
    last [] y = +ℤ_comm (f y) (pos 0)
    last (z ∷ ys) y = ap (λ t. f z +ℤ t) (last ys y) ∙ sym (+ℤ_assoc (f z) (total f ys) (f y))

-- ---- grids
module _ {A B C : Type 0} (f : A → B → C) where
  -- rows after rows
  pub grid-append : (xs zs : List A) (ys : List B) → grid f (xs ++ zs) ys ≡ grid f xs ys ++ grid f zs ys
  grid-append [] zs ys = refl
  grid-append (x ∷ xs) zs ys = ap (λ t. map (f x) ys ++ t) (grid-append xs zs ys) ∙ sym (append_assoc (map (f x) ys) (grid f xs ys) (grid f zs ys))

  append-none : (xs : List C) → xs ++ [] ≡ xs
  append-none [] = refl
  append-none (x ∷ xs) = ap (λ t. x ∷ t) (append-none xs)

  -- a row more
  pub grid_more : (xs : List A) (x : A) (ys : List B) → grid f (xs ++ x ∷ []) ys ≡ grid f xs ys ++ map (f x) ys
  grid_more xs x ys = grid-append xs (x ∷ []) ys ∙ ap (λ t. grid f xs ys ++ t) (append-none (map (f x) ys))

  -- as many values as pairs, and the value at a pair
  pub length-grid : (xs : List A) (ys : List B) → length (grid f xs ys) ≡ length xs * length ys
  length-grid [] ys = omega arith
  length-grid (x ∷ xs) ys = let h = length-grid xs ys in let e = length-map ys (f x) in omega (arith, h, e, length-append (map (f x) ys) (grid f xs ys))

  pub get_or-grid : (xs : List A) (ys : List B) (i j : ℕ) (d : C) (x : A) (y : B) → i < length xs → j < length ys → get_or (grid f xs ys) (i * length ys + j) d ≡ f (get_or xs i x) (get_or ys j y)
  get_or-grid [] ys i j d x y p q = absurd (omega (arith, p))
  get_or-grid (a ∷ xs) ys zero j d x y p q =
      let e : 0 * length ys + j ≡ j = omega arith in
      ap (λ t. get_or (map (f a) ys ++ grid f xs ys) t d) e ∙ get_or_append_left (map (f a) ys) (grid f xs ys) d j (omega (arith, q, length-map ys (f a)))
      ∙ get_or_default (map (f a) ys) j d (f a y) (omega (arith, q, length-map ys (f a))) ∙ get_or-map (f a) ys j y
  get_or-grid (a ∷ xs) ys (suc i) j d x y p q =
      let e : suc i * length ys + j ≡ length (map (f a) ys) + (i * length ys + j) = omega (arith, length-map ys (f a)) in
      ap (λ t. get_or (map (f a) ys ++ grid f xs ys) t d) e ∙ get_or-append-add (map (f a) ys) (grid f xs ys) (i * length ys + j) d ∙ get_or-grid xs ys i j d x y (omega (arith, p)) q

-- ---- names by a vector
-- no vector has no name, and one vector more has the number of its place
pub no_index : (m : ℕ) (v : Vector) → IsIndexed m [] v None
no_index m v c = let l = c.1 in omega (arith, l)

pub more_index : (m : ℕ) (vs : List Vector) (w v : Vector) (o : Option ℤ) → IsIndexed m vs v o → IsIndexed m (vs ++ w ∷ []) v (cond (pointwise int_eq w v) (Some (number_at m (length vs))) o)
more_index m vs w v o h = by (pointwise int_eq w v) refl
  where
    last : (d : Vector) → get_or (vs ++ w ∷ []) (length vs) d ≡ w
    last d = ap (λ t. get_or (vs ++ w ∷ []) t d) (omega arith) ∙ get_or-append-add vs (w ∷ []) 0 d

    old : (o : Option ℤ) → IsIndexed m vs v o → ¬ (w ≡ v) → IsIndexed m (vs ++ w ∷ []) v o
    old None h n = λ c.
        ⊎_elim (λ l. h (c.0, l, sym (get_or_append_left vs (w ∷ []) v c.0 l) ∙ c.2))
        (λ l. (let at : c.0 ≡ length vs = (let k = c.1 in omega (arith, k, l, length-append vs (w ∷ []))) in n (sym (ap (λ t. get_or (vs ++ w ∷ []) t v) at ∙ last v) ∙ c.2)))
        (within_or_past c.0 (length vs))
    old (Some n) h k = (h.0, (let l = h.1 in omega (arith, l, length-append vs (w ∷ []))), h.2, get_or_append_left vs (w ∷ []) v h.0 h.1 ∙ h.3)

    by : (t : Bool) → pointwise int_eq w v ≡ t → IsIndexed m (vs ++ w ∷ []) v (cond t (Some (number_at m (length vs))) o)
    by true e = (length vs, omega (arith, length-append vs (w ∷ [])), refl, last v ∙ (signed_items w v).0 e)
    by false e = old o h (λ q. (let t = (signed_items w v).1 q in cc))

-- ---- the first two places with one vector
module _ (vs : List Vector) where
  -- the search row by row: a row begins, goes on and ends, and all rows have ended
  pub row_begins : (x : ℕ) → NoneBefore (IsSamePair vs) x 0 → NoneBefore (IsSamePair vs) x (x + 1)
  row_begins x h k l p = ⊎_elim (λ m. h k l (inl m)) (λ m q. (let a = q.0 in let e = m.0 in let b = m.1 in absurd (omega (arith, a, e, b)))) p

  pub row_goes : (x y : ℕ) → NoneBefore (IsSamePair vs) x y → ¬ (get_or vs x [] ≡ get_or vs y []) → NoneBefore (IsSamePair vs) x (y + 1)
  row_goes x y h n k l p =
      ⊎_elim (λ m. h k l (inl m))
      (λ m. ⊎_elim (λ a. h k l (inr (m.0, a))) (λ a q. (let b = m.1 in let e : l ≡ y = omega (arith, a, b) in n (ap (λ t. get_or vs t []) (sym m.0) ∙ q.2 ∙ ap (λ t. get_or vs t []) e))) (within_or_past l y)) p

  pub row_ends : (x y : ℕ) → length vs ≤ y → NoneBefore (IsSamePair vs) x y → NoneBefore (IsSamePair vs) (x + 1) 0
  row_ends x y l h k j p =
      ⊎_elim (λ m. ⊎_elim (λ a. h k j (inl a)) (λ a q. (let e : k ≡ x = omega (arith, a, m) in let b = q.1 in h k j (inr (e, omega (arith, b, l))) q)) (within_or_past k x))
      (λ m. absurd (let b = m.1 in omega (arith, b))) p

  pub no_pair : (x : ℕ) → length vs ≤ x → NoneBefore (IsSamePair vs) x 0 → (k l : ℕ) → ¬ IsSamePair vs k l
  no_pair x l h k j q = let a = q.0 in let b = q.1 in h k j (inl (omega (arith, a, b, l))) q

-- ---- what the loops push
-- one value of a row more
pub row_more : {B C : Type 0} (f : B → C) (g old new : List C) (ys : List B) (k : ℕ) (d : B) (z : C) → k < length ys → old ≡ g ++ map f (take k ys) → new ≡ old ++ z ∷ [] → z ≡ f (get_or ys k d) → new ≡ g ++ map f (take (k + 1) ys)
row_more f g old new ys k d z l e p q =
    p ∙ ap (λ t. t ++ z ∷ []) e ∙ append_assoc g (map f (take k ys)) (z ∷ []) ∙ ap (λ t. g ++ (map f (take k ys) ++ t ∷ [])) q ∙ ap (λ t. g ++ t) (sym (ap (map f) (take_more ys k d l) ∙ map-append f (take k ys) (get_or ys k d ∷ [])))

-- the last row is whole
pub row_whole : {A B C : Type 0} (f : A → B → C) (xs : List A) (x : A) (ys : List B) (k : ℕ) (new : List C) → length ys ≤ k → new ≡ grid f xs ys ++ map (f x) (take k ys) → new ≡ grid f (xs ++ x ∷ []) ys
row_whole f xs x ys k new l e = e ∙ ap (λ t. grid f xs ys ++ map (f x) t) (take_all k ys l) ∙ sym (grid_more f xs x ys)

-- one number more
pub range_next : (a n : ℕ) → range_with_len a (n + 1) ≡ range_with_len a n ++ (a + n) ∷ []
range_next a n = ap (range_with_len a) (add-one n) ∙ next a n
  where
    next : (a n : ℕ) → range_with_len a (suc n) ≡ range_with_len a n ++ (a + n) ∷ []
    next a zero = let e : a ≡ a + 0 = omega arith in ap (λ t. t ∷ []) e
    next a (suc n) = let e : a + 1 + n ≡ a + suc n = omega arith in ap (λ t. a ∷ t) (next (a + 1) n ∙ ap (λ t. range_with_len (a + 1) n ++ t ∷ []) e)

-- the code's sum of squares
square_bound : (k : ℤ) → unsigned_abs k ≤ 51200000000 → unsigned_abs (k *ℤ k) ≤ 2621440000000000000000
square_bound k p = abs_mul k k 51200000000 51200000000 p p

module _ (s k : ℤ) (p : unsigned_abs k ≤ 51200000000) (q : unsigned_abs s ≤ 629145600000000000000000) where
  square_plain : to_z w128 (of_z w128 k) *ℤ to_z w128 (of_z w128 k) ≡ k *ℤ k
  square_plain = ap (λ t. t *ℤ t) (plain k 51200000000 p (lit< tt))

  pub square_is : to_z w128 (of_z w128 (s +ℤ to_z w128 (of_z w128 (to_z w128 (of_z w128 k) *ℤ to_z w128 (of_z w128 k))))) ≡ s +ℤ k *ℤ k
  square_is = ap (λ t. to_z w128 (of_z w128 (s +ℤ to_z w128 (of_z w128 t)))) square_plain ∙ sum_is s (k *ℤ k) 629145600000000000000000 2621440000000000000000 q (square_bound k p) (lit< tt)

  pub square_more : (n : ℕ) → unsigned_abs s ≤ 2621440000000000000000 * n → unsigned_abs (s +ℤ k *ℤ k) ≤ 2621440000000000000000 * (n + 1)
  square_more n h = let a = abs_add s (k *ℤ k) in let b = square_bound k p in omega (arith, a, b, h)

-- None is not some value
pub not_none : {A : Type 0} (o : Option A) → o ≡ None → IsSome o → ⊥
not_none None e s = cc
not_none (Some x) e s = cc
