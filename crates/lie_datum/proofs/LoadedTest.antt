-- A test that a list of roots makes a loaded datum: what it passes is one. Its purpose is worked examples.
use Rattle.std.proofs.Common.{◌≡◌, ◌≢◌, ℕ, zero, suc, ◌<◌, ◌≤◌, leb, eqb, Bool, true, false, not, ◌&&◌, ◌||◌, List, [], ◌∷◌, ◌++◌, map, length, refl, sym, ap, ◌∙◌, subst, arith, inl, inr, ◌⊎◌, ⊎_elim}
use Rattle.std.proofs.lemmas.Int.{ints}
use Rattle.std.proofs.lemmas.Bool.{and_parts, and_from, or_left, or_right, or_cases, not-true, leb-true, eqb-true, eq-eqb, true≢false, false≢true, cases_Bool}
use Rattle.std.proofs.lemmas.Bool.Decides.{Decides-int_eq}
use Rattle.std.specs.Prelude.{ℤ, pos, ◌≤ℤ◌, ◌<ℤ◌, int_lt, int_le, unsigned_abs}
use Rattle.std.specs.Ordering.{int_eq, is_lt}
use Rattle.std.specs.declared.cmp.Ordering.{Ordering}
use Rattle.std.specs.declared.cmp.Ordering.TheVariants.{Less, Equal, Greater}
use Rattle.std.specs.List.{list_all, list_any, All, Any, AllByRecursion}
use Rattle.std.specs.List.Sorted.{IsStrictlySortedBy}
use Rattle.lie_datum.specs.declared.root_pair.Root.{Root}
use Rattle.lie_datum.specs.Vectors.{Vector, entry, IsVectorIn, same_vector}
use Rattle.lie_datum.specs.RootDatum.{Base, rank, vector, simple, opposite, reflected, cartan, same_root, IsRoot, is_simple, is_reflected, IsSimpleIndex, IsPositive, IsWithin, IsInput}
use Rattle.lie_datum.specs.RootList.{RootDatum, all_roots, IsLoaded, root_cmp}
use Rattle.lie_base.proofs.Members.{In, here, there, from_map}
use Rattle.lie_datum.proofs.ClosureLemmas.{in_from_contains, contains_from_in}
use Rattle.lie_datum.proofs.RootOrder.{same_vector-self, same_root-true}

-- ---- tests on numbers and lists
abbrev pub each_below : ℕ → (ℕ → Bool) → Bool
each_below zero t = true
each_below (suc n) t = t n && each_below n t

-- a test that passes at each number below n passes at one
pub each_at : (n : ℕ) (t : ℕ → Bool) → each_below n t ≡ true → (k : ℕ) → k < n → t k ≡ true
each_at zero t e k l = absurd (omega (arith, l))
each_at (suc n) t e k l =
    let p = and_parts (t n) (each_below n t) e in
    ⊎_elim (λ (s : k ≡ n). ap t s ∙ p.0) (λ (h : ¬ (k ≡ n)). each_at n t p.1 k (omega (arith, l, h))) (same_or_not k n)
  where
    same_or_not : (a b : ℕ) → (a ≡ b) ⊎ (¬ (a ≡ b))
    same_or_not a b = ⊎_elim (λ (e : eqb a b ≡ true). inl (eqb-true a b e)) (λ (e : eqb a b ≡ false). inr (λ s. true≢false (sym (by a b s) ∙ e))) (cases_Bool (eqb a b))
      where
        by : (a b : ℕ) → a ≡ b → eqb a b ≡ true
        by a b s = eq-eqb a b s

-- a test that passes at each member of a list passes at one
pub all_member : {A : Type 0} (t : A → Bool) (xs : List A) (x : A) → list_all t xs ≡ true → In x xs → t x ≡ true
all_member t [] x e h = elim h [ ]
all_member t (y ∷ xs) x e (here s) = ap t s ∙ (and_parts (t y) (list_all t xs) e).0
all_member t (y ∷ xs) x e (there h) = all_member t xs x (and_parts (t y) (list_all t xs) e).1 h

all_from : {A : Type 0} (P : A → Type 0) (t : A → Bool) → ((x : A) → t x ≡ true → P x) → (xs : List A) → list_all t xs ≡ true → All P xs
all_from P t h [] e k d l = absurd (omega (arith, l))
all_from P t h (x ∷ xs) e zero d l = h x (and_parts (t x) (list_all t xs) e).0
all_from P t h (x ∷ xs) e (suc k) d l = all_from P t h xs (and_parts (t x) (list_all t xs) e).1 k d (omega (arith, l))

-- the root is a member of the list
abbrev pub member : Root → List Root → Bool
member r [] = false
member r (s ∷ rs) = same_root r s || member r rs

member-in : (r : Root) (rs : List Root) → member r rs ≡ true → In r rs
member-in r [] e = absurd (false≢true e)
member-in r (s ∷ rs) e =
    ⊎_elim (λ (h : same_root r s ≡ true). here (same_root-true r s h)) (λ (h : member r rs ≡ true). there (member-in r rs h)) (or_cases (same_root r s) (member r rs) e)

-- ---- the input
abbrev pub zeros_from : ℕ → Vector → Bool
zeros_from zero v = list_all (λ c. int_eq c (pos 0)) v
zeros_from (suc d) [] = true
zeros_from (suc d) (a ∷ v) = zeros_from d v

zeros_at : (d : ℕ) (v : Vector) → zeros_from d v ≡ true → (k : ℕ) → d ≤ k → entry v k ≡ pos 0
zeros_at zero [] e k l = refl
zeros_at zero (a ∷ v) e zero l = (Decides-int_eq a (pos 0)).0 (and_parts (int_eq a (pos 0)) (list_all (λ c. int_eq c (pos 0)) v) e).0
zeros_at zero (a ∷ v) e (suc k) l = zeros_at zero v (and_parts (int_eq a (pos 0)) (list_all (λ c. int_eq c (pos 0)) v) e).1 k (omega arith)
zeros_at (suc d) [] e k l = refl
zeros_at (suc d) (a ∷ v) e zero l = absurd (omega (arith, l))
zeros_at (suc d) (a ∷ v) e (suc k) l = zeros_at d v e k (omega (arith, l))

-- no entry is above 100 in absolute value
abbrev pub within_test : Vector → Bool
within_test v = list_all (λ c. leb (unsigned_abs c) 100) v

within_from : (v : Vector) → within_test v ≡ true → IsWithin 100 v
within_from v e = all_from (λ c. unsigned_abs c ≤ 100) (λ c. leb (unsigned_abs c) 100) (λ c h. leb-true (unsigned_abs c) 100 h) v e

-- eight entries, zeros past the dimension, none above 100
abbrev pub vector_test : ℕ → Vector → Bool
vector_test d v = eqb (length v) 8 && (zeros_from d v && within_test v)

vector_from : (d : ℕ) (v : Vector) → vector_test d v ≡ true → IsVectorIn d v × IsWithin 100 v
vector_from d v e =
    let (long, rest) = and_parts (eqb (length v) 8) (zeros_from d v && within_test v) e in
    let (zeros, within) = and_parts (zeros_from d v) (within_test v) rest in
    ((eqb-true (length v) 8 long, zeros_at d v zeros), within_from v within)

-- few enough vectors with small entries
abbrev pub input_test : Base → Bool
input_test b =
    (leb 1 b.dim && leb b.dim 8) && ((leb (length b.roots) b.dim && eqb (length b.coroots) (length b.roots))
    && (list_all (vector_test b.dim) b.roots && list_all (vector_test b.dim) b.coroots))

input_from : (b : Base) → input_test b ≡ true → IsInput b
input_from b e =
    let (dims, rest) = and_parts (leb 1 b.dim && leb b.dim 8) _ e in
    let (low, high) = and_parts (leb 1 b.dim) (leb b.dim 8) dims in
    let (counts, vectors) = and_parts (leb (length b.roots) b.dim && eqb (length b.coroots) (length b.roots)) (list_all (vector_test b.dim) b.roots && list_all (vector_test b.dim) b.coroots) rest in
    let (few, same) = and_parts (leb (length b.roots) b.dim) (eqb (length b.coroots) (length b.roots)) counts in
    let (roots, coroots) = and_parts (list_all (vector_test b.dim) b.roots) (list_all (vector_test b.dim) b.coroots) vectors in
    record {
      dim = (leb-true 1 b.dim low, leb-true b.dim 8 high);
      rank = leb-true (length b.roots) b.dim few;
      corank = eqb-true (length b.coroots) (length b.roots) same;
      roots = all_from (λ v. IsVectorIn b.dim v × IsWithin 100 v) (vector_test b.dim) (vector_from b.dim) b.roots roots;
      coroots = all_from (λ v. IsVectorIn b.dim v × IsWithin 100 v) (vector_test b.dim) (vector_from b.dim) b.coroots coroots;
    }

-- ---- the axioms, for a list of all roots
module _ (b : Base) (all : List Root) where
  -- the first three axioms
  abbrev pub cartan_test : Bool
  cartan_test =
      each_below (rank b) (λ i. int_eq (cartan b (suc i) (suc i)) (pos 2))
      && (each_below (rank b) (λ i. each_below (rank b) (λ j. eqb i j || int_le (cartan b (suc i) (suc j)) (pos 0)))
      && each_below (rank b) (λ i. each_below (rank b) (λ j. not (int_eq (cartan b (suc i) (suc j)) (pos 0)) || int_eq (cartan b (suc j) (suc i)) (pos 0))))

  -- the simple roots, and all reflections of members, are members
  abbrev pub closed_test : Bool
  closed_test =
      each_below (rank b) (λ k. member (simple (suc k)) all)
      && list_all (λ r. each_below (rank b) (λ k. member (reflected b (suc k) r) all)) all

  -- small coefficients
  abbrev pub small_test : Root → Bool
  small_test r = within_test r.coeffs && within_test r.co_coeffs

  -- no coefficients of both signs
  abbrev pub unmixed_test : Root → Bool
  unmixed_test r = not (list_any (λ c. int_lt (pos 0) c) r.coeffs && list_any (λ c. int_lt c (pos 0)) r.coeffs)

  -- no other member has the same vector
  abbrev pub apart_test : Root → Bool
  apart_test r = list_all (λ s. not (same_vector (vector b r) (vector b s)) || same_root r s) all

  -- the fourth to the sixth axiom
  abbrev pub roots_test : Bool
  roots_test = leb (length all) 240 && (list_all small_test all && (list_all unmixed_test all && list_all apart_test all))

  simple_index : (P : ℕ → Type 0) → ((k : ℕ) → k < rank b → P (suc k)) → (i : ℕ) → IsSimpleIndex b i → P i
  simple_index P h zero l = absurd (let m = l.0 in omega (arith, m))
  simple_index P h (suc k) l = h k (let m = l.1 in omega (arith, m))

  all_closed : closed_test ≡ true → (r : Root) → IsRoot b r → In r all
  all_closed e _ (is_simple i h) =
      simple_index (λ j. In (simple j) all)
      (λ k l. member-in (simple (suc k)) all (each_at (rank b) (λ k. member (simple (suc k)) all) (and_parts (each_below (rank b) (λ k. member (simple (suc k)) all)) _ e).0 k l)) i h
  all_closed e _ (is_reflected i r h p) =
      let rest = all_member (λ r. each_below (rank b) (λ k. member (reflected b (suc k) r) all)) all r (and_parts (each_below (rank b) (λ k. member (simple (suc k)) all)) _ e).1 (all_closed e r p) in
      simple_index (λ j. In (reflected b j r) all)
      (λ k l. member-in (reflected b (suc k) r) all (each_at (rank b) (λ k. member (reflected b (suc k) r) all) rest k l)) i h

-- an entry that is P passes the test
any_true : (t : ℤ → Bool) (P : ℤ → Type 0) → ((c : ℤ) → P c → t c ≡ true) → (v : Vector) → Any P v → list_any t v ≡ true
any_true t P h [] a = absurd (let l = a.2 in omega (arith, l))
any_true t P h (c ∷ v) (zero, d, l, e, p) = or_left (t c) (list_any t v) (h c (subst P (sym e) p))
any_true t P h (c ∷ v) (suc k, d, l, e, p) = or_right (t c) (list_any t v) (any_true t P h v (k, d, omega (arith, l), e, p))

pub int_lt-from : (a b : ℤ) → a <ℤ b → int_lt a b ≡ true
int_lt-from a b h = ⊎_elim (λ (e : int_lt a b ≡ true). e) (λ (e : int_lt a b ≡ false). absurd (omega (arith, ints, e, h))) (cases_Bool (int_lt a b))

int_le-to : (a b : ℤ) → int_le a b ≡ true → a ≤ℤ b
int_le-to a b e = omega (arith, ints, e)

-- ---- the list of positive roots
less_is : (o : Ordering) → is_lt o ≡ true → o ≡ Less
less_is Less e = refl
less_is Equal e = absurd (false≢true e)
less_is Greater e = absurd (false≢true e)

-- each root stands before the next
abbrev pub sorted_test : List Root → Bool
sorted_test [] = true
sorted_test (r ∷ rs) = list_all (λ s. is_lt (root_cmp r s)) rs && sorted_test rs

before_all : (r : Root) (rs : List Root) → list_all (λ s. is_lt (root_cmp r s)) rs ≡ true → AllByRecursion (λ s. root_cmp r s ≡ Less) rs
before_all r [] e = tt
before_all r (s ∷ rs) e = let p = and_parts (is_lt (root_cmp r s)) (list_all (λ s. is_lt (root_cmp r s)) rs) e in (less_is (root_cmp r s) p.0, before_all r rs p.1)

sorted_from : (rs : List Root) → sorted_test rs ≡ true → IsStrictlySortedBy root_cmp rs
unfolding IsStrictlySortedBy
sorted_from [] e = tt
sorted_from (r ∷ rs) e = let p = and_parts (list_all (λ s. is_lt (root_cmp r s)) rs) (sorted_test rs) e in (before_all r rs p.0, sorted_from rs p.1)

-- no coefficient is below 0
abbrev pub positive_test : Root → Bool
positive_test r = list_all (λ c. int_le (pos 0) c) r.coeffs

positive_to : (r : Root) → positive_test r ≡ true → IsPositive r
positive_to r e = all_from (λ c. pos 0 ≤ℤ c) (λ c. int_le (pos 0) c) (λ c h. int_le-to (pos 0) c h) r.coeffs e

positive_back : (v : Vector) → All (λ c. pos 0 ≤ℤ c) v → list_all (λ c. int_le (pos 0) c) v ≡ true
positive_back [] h = refl
positive_back (c ∷ v) h =
    and_from (int_le (pos 0) c) (list_all (λ c. int_le (pos 0) c) v)
    (let p = h 0 c (omega arith) in ⊎_elim (λ (e : int_le (pos 0) c ≡ true). e) (λ (e : int_le (pos 0) c ≡ false). absurd (omega (arith, ints, e, p))) (cases_Bool (int_le (pos 0) c)))
    (positive_back v (λ k d l. h (suc k) d (omega (arith, l))))

module _ (b : Base) where
  -- a simple root, or a reflection of a root that was reached before
  abbrev pub reached_by : List Root → Root → Bool
  reached_by [] r = not (each_below (rank b) (λ k. not (same_root r (simple (suc k)))))
  reached_by (s ∷ seen) r = not (each_below (rank b) (λ k. not (same_root r (reflected b (suc k) s)))) || reached_by seen r

  -- each root is a simple one, or a reflection of one before it
  abbrev pub reached_test : List Root → List Root → Bool
  reached_test seen [] = true
  reached_test seen (r ∷ rs) = reached_by seen r && reached_test (r ∷ seen) rs

  some_below : (n : ℕ) (t : ℕ → Bool) → not (each_below n (λ k. not (t k))) ≡ true → (k : ℕ) × (k < n) × (t k ≡ true)
  some_below zero t e = absurd (false≢true e)
  some_below (suc n) t e =
      ⊎_elim (λ (h : t n ≡ true). (n, omega arith, h))
      (λ (h : t n ≡ false). (let q = some_below n t (ap (λ x. not (not x && each_below n (λ k. not (t k)))) (sym h) ∙ e) in (q.0, (let l = q.1 in omega (arith, l)), q.2)))
      (cases_Bool (t n))

  root_reached : (seen : List Root) (r : Root) → ((s : Root) → In s seen → IsRoot b s) → reached_by seen r ≡ true → IsRoot b r
  root_reached [] r h e =
      let q = some_below (rank b) (λ k. same_root r (simple (suc k))) e in
      subst (IsRoot b) (sym (same_root-true r (simple (suc q.0)) q.2)) (is_simple (suc q.0) (omega arith, (let l = q.1 in omega (arith, l))))
  root_reached (s ∷ seen) r h e =
      ⊎_elim
      (λ (f : not (each_below (rank b) (λ k. not (same_root r (reflected b (suc k) s)))) ≡ true).
      (let q = some_below (rank b) (λ k. same_root r (reflected b (suc k) s)) f in
      subst (IsRoot b) (sym (same_root-true r (reflected b (suc q.0) s) q.2)) (is_reflected (suc q.0) s (omega arith, (let l = q.1 in omega (arith, l))) (h s (here refl)))))
      (λ (f : reached_by seen r ≡ true). root_reached seen r (λ z m. h z (there m)) f)
      (or_cases (not (each_below (rank b) (λ k. not (same_root r (reflected b (suc k) s))))) (reached_by seen r) e)

  all_reached : (seen rs : List Root) → ((s : Root) → In s seen → IsRoot b s) → reached_test seen rs ≡ true → (r : Root) → In r rs → IsRoot b r
  all_reached seen [] h e r m = elim m [ ]
  all_reached seen (x ∷ rs) h e r (here s) = subst (IsRoot b) (sym s) (root_reached seen x h (and_parts (reached_by seen x) (reached_test (x ∷ seen) rs) e).0)
  all_reached seen (x ∷ rs) h e r (there m) =
      let p = and_parts (reached_by seen x) (reached_test (x ∷ seen) rs) e in
      all_reached (x ∷ seen) rs (λ z n. known z n (root_reached seen x h p.0)) p.1 r m
    where
      known : (z : Root) → In z (x ∷ seen) → IsRoot b x → IsRoot b z
      known z (here s) q = subst (IsRoot b) (sym s) q
      known z (there n) q = h z n

module _ (d : RootDatum) where
  -- the list of the positive roots
  abbrev pub listed_test : Bool
  listed_test =
      sorted_test d.positive && (reached_test d.base [] d.positive && (list_all positive_test d.positive && list_all (λ r. not (positive_test (opposite r))) d.positive))

  -- a root datum with its positive roots in order
  abbrev pub loaded_test : Bool
  loaded_test =
      input_test d.base && (cartan_test d.base (all_roots d) && (closed_test d.base (all_roots d) && (roots_test d.base (all_roots d) && listed_test)))

  in_either : (xs ys : List Root) (r : Root) → In r (xs ++ ys) → In r xs ⊎ In r ys
  in_either [] ys r m = inr m
  in_either (x ∷ xs) ys r (here e) = inl (here e)
  in_either (x ∷ xs) ys r (there m) = ⊎_elim (λ a. inl (there a)) (λ a. inr a) (in_either xs ys r m)

  -- what passes is one
  pub loaded_from : loaded_test ≡ true → IsLoaded d
  loaded_from e =
      let b = d.base in
      let all = all_roots d in
      let (input, rest1) = and_parts (input_test b) _ e in
      let (cartans, rest2) = and_parts (cartan_test b all) _ rest1 in
      let (closed, rest3) = and_parts (closed_test b all) _ rest2 in
      let (roots, listed) = and_parts (roots_test b all) _ rest3 in
      let (twos, rest4) = and_parts (each_below (rank b) (λ i. int_eq (cartan b (suc i) (suc i)) (pos 2))) _ cartans in
      let (signs, zeros) = and_parts (each_below (rank b) (λ i. each_below (rank b) (λ j. eqb i j || int_le (cartan b (suc i) (suc j)) (pos 0)))) _ rest4 in
      let (few, rest5) = and_parts (leb (length all) 240) _ roots in
      let (small, rest6) = and_parts (list_all (small_test b all) all) _ rest5 in
      let (unmixed, apart) = and_parts (list_all (unmixed_test b all) all) (list_all (apart_test b all) all) rest6 in
      let (sorted, rest7) = and_parts (sorted_test d.positive) _ listed in
      let (reached, rest8) = and_parts (reached_test b [] d.positive) _ rest7 in
      let (positive, opposites) = and_parts (list_all positive_test d.positive) (list_all (λ r. not (positive_test (opposite r))) d.positive) rest8 in
      let in_all = all_closed b all closed in
      record {
        axioms = record {
          input = input_from b input;
          twos = simple_index b all (λ i. cartan b i i ≡ pos 2)
              (λ k l. (Decides-int_eq (cartan b (suc k) (suc k)) (pos 2)).0 (each_at (rank b) (λ i. int_eq (cartan b (suc i) (suc i)) (pos 2)) twos k l));
          signs = λ i j p q. simple_index b all (λ i. (j : ℕ) → IsSimpleIndex b j → i ≢ j → cartan b i j ≤ℤ pos 0)
              (λ k l. simple_index b all (λ j. suc k ≢ j → cartan b (suc k) j ≤ℤ pos 0)
              (λ m n apart. ⊎_elim (λ (s : eqb k m ≡ true). absurd (apart (ap suc (eqb-true k m s)))) (λ (s : int_le (cartan b (suc k) (suc m)) (pos 0) ≡ true). int_le-to _ (pos 0) s)
              (or_cases (eqb k m) (int_le (cartan b (suc k) (suc m)) (pos 0))
              (each_at (rank b) (λ j. eqb k j || int_le (cartan b (suc k) (suc j)) (pos 0))
              (each_at (rank b) (λ i. each_below (rank b) (λ j. eqb i j || int_le (cartan b (suc i) (suc j)) (pos 0))) signs k l) m n)))) i p j q;
          zeros = λ i j p q. simple_index b all (λ i. (j : ℕ) → IsSimpleIndex b j → cartan b i j ≡ pos 0 → cartan b j i ≡ pos 0)
              (λ k l. simple_index b all (λ j. cartan b (suc k) j ≡ pos 0 → cartan b j (suc k) ≡ pos 0)
              (λ m n z. ⊎_elim
              (λ (s : not (int_eq (cartan b (suc k) (suc m)) (pos 0)) ≡ true).
              absurd (true≢false (sym ((Decides-int_eq (cartan b (suc k) (suc m)) (pos 0)).1 z) ∙ not-true (int_eq (cartan b (suc k) (suc m)) (pos 0)) s)))
              (λ (s : int_eq (cartan b (suc m) (suc k)) (pos 0) ≡ true). (Decides-int_eq (cartan b (suc m) (suc k)) (pos 0)).0 s)
              (or_cases (not (int_eq (cartan b (suc k) (suc m)) (pos 0))) (int_eq (cartan b (suc m) (suc k)) (pos 0))
              (each_at (rank b) (λ j. not (int_eq (cartan b (suc k) (suc j)) (pos 0)) || int_eq (cartan b (suc j) (suc k)) (pos 0))
              (each_at (rank b) (λ i. each_below (rank b) (λ j. not (int_eq (cartan b (suc i) (suc j)) (pos 0)) || int_eq (cartan b (suc j) (suc i)) (pos 0))) zeros k l) m n)))) i p j q;
          finite = record {
            count = (all, leb-true (length all) 240 few, λ r p. contains_from_in all r (in_all r p));
            small = λ r p. (let s = and_parts (within_test r.coeffs) (within_test r.co_coeffs) (all_member (small_test b all) all r small (in_all r p)) in (within_from r.coeffs s.0, within_from r.co_coeffs s.1));
          };
          unmixed = λ r p mixed.
              true≢false (sym (and_from (list_any (λ c. int_lt (pos 0) c) r.coeffs) (list_any (λ c. int_lt c (pos 0)) r.coeffs)
              (any_true (λ c. int_lt (pos 0) c) (λ c. pos 0 <ℤ c) (λ c h. int_lt-from (pos 0) c h) r.coeffs mixed.0)
              (any_true (λ c. int_lt c (pos 0)) (λ c. c <ℤ pos 0) (λ c h. int_lt-from c (pos 0) h) r.coeffs mixed.1))
              ∙ not-true (list_any (λ c. int_lt (pos 0) c) r.coeffs && list_any (λ c. int_lt c (pos 0)) r.coeffs) (all_member (unmixed_test b all) all r unmixed (in_all r p)));
          apart = λ r s p q same.
              ⊎_elim
              (λ (h : not (same_vector (vector b r) (vector b s)) ≡ true).
              absurd (true≢false (sym (ap (same_vector (vector b r)) (sym same) ∙ same_vector-self (vector b r)) ∙ not-true (same_vector (vector b r) (vector b s)) h)))
              (λ (h : same_root r s ≡ true). same_root-true r s h)
              (or_cases (not (same_vector (vector b r) (vector b s))) (same_root r s)
              (all_member (λ s. not (same_vector (vector b r) (vector b s)) || same_root r s) all s (all_member (apart_test b all) all r apart (in_all r p)) (in_all s q)));
        };
        listed = record {
          sorted = sorted_from d.positive sorted;
          roots = λ r. (
            (λ m. (let i = in_from_contains d.positive r m in
                (all_reached b [] d.positive (λ s n. elim n [ ]) reached r i, positive_to r (all_member positive_test d.positive r positive i)))),
            (λ p. contains_from_in d.positive r (⊎_elim (λ a. a)
                (λ a. (let q = from_map opposite r d.positive a in
                absurd (true≢false (sym (ap positive_test (sym q.2) ∙ positive_back r.coeffs p.1) ∙ not-true (positive_test (opposite q.0)) (all_member (λ r. not (positive_test (opposite r))) d.positive q.0 opposites q.1)))))
                (in_either d.positive (map opposite d.positive) r (in_all r p.0)))),
          );
        };
      }
