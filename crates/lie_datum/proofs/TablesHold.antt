-- What the filled tables say of the roots of the datum, and what the search for repeated vectors says of the axioms.
use Rattle.std.proofs.Common.{◌≡◌, ℕ, zero, suc, ◌+◌, ◌-◌, ◌*◌, ◌<◌, ◌≤◌, ℤ, ◌*ℤ◌, List, [], ◌++◌, length, get_or, take, map, refl, sym, ap, subst, ◌∙◌, arith, ⊎_elim, Option, None, Some}
use Rattle.std.specs.Option.{IsSome}
use Rattle.std.proofs.lemmas.List.{get_or_default}
use Rattle.std.proofs.lemmas.List.FromFn.{get_or-range_with_len, length-range_with_len}
use Rattle.std.proofs.Math.ListN.{length-map, get_or-map}
use Rattle.std.specs.List.{All, range_with_len}
use Rattle.lie_datum.specs.declared.faults.DatumFault.TheVariants.{Repeated}
use Rattle.lie_datum.specs.declared.root_data.Entry.{Entry}
use Rattle.lie_datum.specs.declared.root_data.Datum.TheInside.{Inside}
use Rattle.std.specs.Ordering.{int_eq}
use Rattle.indexmap.specs.IndexMap.{get}
use lib.Pointwise.{pointwise}
use Rattle.std.proofs.lemmas.List.{take-map}
use Rattle.std.proofs.Math.Seq.{take-append_seam}
use Rattle.lie_datum.specs.Vectors.{Vector, pairing, plus}
use Rattle.lie_datum.specs.Numbers.{place, number_at}
use Rattle.lie_datum.specs.RootDatum.{Base, Root, rank, vector, covector, opposite, reflected, is_reflected, IsRoot, IsSmall, IsCartan, IsApart}
use Rattle.lie_datum.specs.RootList.{RootDatum, IsLoaded, IsNumber, root_of, all_roots, NamesRoot}
use Rattle.lie_datum.specs.Entries.{as_root, HasEntry, IsEntryOf, square_sum}
use Rattle.lie_datum.specs.Grids.{grid, IsSamePair, IsIndexed}
use Rattle.lie_datum.specs.Table.{AreSums, AreImages, loaded_roots, IsTableOf}
use Rattle.lie_datum.specs.Load.{IsFault, IsFirstPair, IsRepeated}
use Rattle.lie_datum.specs.Listing.{IsListed}
use Rattle.lie_base.proofs.Members.{total-map}
use Rattle.lie_datum.proofs.Entries.{within_or_past}
use Rattle.lie_datum.proofs.ClosureLemmas.{contains_from_in}
use Rattle.lie_datum.proofs.ListedLemmas.{order_in, order_only, listed_only}
use Rattle.lie_datum.proofs.LoadedLaws.{all_in, all_only}
use Rattle.lie_datum.proofs.NumberLemmas.{place_within, root_at, numbered_at}
use Rattle.lie_datum.proofs.SignedRoots.{in_at, length-all, root_is, same_coeffs}
use Rattle.lie_datum.proofs.TableFilling.{get_or-grid, length-grid}

abbrev no_root : Root
no_root = record { coeffs = []; co_coeffs = [] }

-- ---- names
-- the number of a place names the root there
pub names_root : (d : RootDatum) (loaded : IsLoaded d) (f : Root → Vector) (v : Vector) (o : Option ℤ) → IsIndexed (length d.positive) (map f (all_roots d)) v o → NamesRoot d (λ r. f r ≡ v) o
names_root d loaded f v None h = λ r p e.
    let c = contains_from_in (all_roots d) r (all_in d loaded r p) in
    h (
      c.0,
      (let l = c.1 in omega (arith, l, length-map (all_roots d) f)),
      get_or_default (map f (all_roots d)) c.0 v (f r) (let l = c.1 in omega (arith, l, length-map (all_roots d) f)) ∙ get_or-map f (all_roots d) c.0 r ∙ ap f c.2 ∙ e,
    )
names_root d loaded f v (Some n) h =
    let k = h.0 in
    let low : k < length (all_roots d) = let l = h.1 in omega (arith, l, length-map (all_roots d) f) in
    let at = numbered_at d k (omega (arith, low, length-all d)) in
    let named : IsNumber d (number_at (length d.positive) k) × (f (root_of d (number_at (length d.positive) k)) ≡ v) = (
      at.number,
      ap f (sym (at.root no_root)) ∙ sym (get_or-map f (all_roots d) k no_root)
          ∙ get_or_default (map f (all_roots d)) k (f no_root) v h.1 ∙ h.3,
    ) in
    subst (λ t. IsNumber d t × (f (root_of d t) ≡ v)) (sym h.2) named

-- every root has a name
pub some_name : (d : RootDatum) (f : Root → Vector) (r : Root) (o : Option ℤ) → IsRoot d.base r → NamesRoot d (λ s. f s ≡ f r) o → IsSome o
some_name d f r None p h = absurd (h r p refl)
some_name d f r (Some n) p h = refl

-- ---- the tables
module _ (d : RootDatum) (loaded : IsLoaded d) where
  -- in a table with a row of values at all roots
  at_pair : {A C : Type 0} (f : A → Root → C) (xs : List A) (i : ℕ) (x : A) (s : ℤ) (z : C) → i < length xs → IsNumber d s → get_or (grid f xs (all_roots d)) (i * (2 * length d.positive) + place (length d.positive) s) z ≡ f (get_or xs i x) (root_of d s)
  at_pair f xs i x s z l n =
      let w = (place_within d s n).2 in
      ap (λ k. get_or (grid f xs (all_roots d)) (i * k + place (length d.positive) s) z) (sym (length-all d))
      ∙ get_or-grid f xs (all_roots d) i (place (length d.positive) s) z x no_root l (omega (arith, w, length-all d)) ∙ ap (f (get_or xs i x)) (root_at d s no_root n)

  -- the table of sums
  pub sums_hold : (names : Vector → Option ℤ) → ((v : Vector) → NamesRoot d (λ r. r.coeffs ≡ v) (names v)) → (sums : List (Option ℤ)) → sums ≡ grid (λ r s. names (plus r.coeffs s.coeffs)) (all_roots d) (all_roots d) → AreSums d sums
  sums_hold names named sums e r s m n =
      let P : Option ℤ → Type 0 = NamesRoot d (λ t. t.coeffs ≡ plus (root_of d r).coeffs (root_of d s).coeffs) in
      let w = (place_within d r m).2 in
      let f = λ (r s : Root). names (plus r.coeffs s.coeffs) in
      subst P (sym (ap (λ xs. get_or xs (place (length d.positive) r * (2 * length d.positive) + place (length d.positive) s) None) e
      ∙ at_pair f (all_roots d) (place (length d.positive) r) no_root s None (omega (arith, w, length-all d)) n ∙ ap (λ t. f t (root_of d s)) (root_at d r no_root m)))
      (named (plus (root_of d r).coeffs (root_of d s).coeffs))

  -- the table of images
  pub images_hold : (names : Vector → Option ℤ) → ((v : Vector) → NamesRoot d (λ r. r.coeffs ≡ v) (names v)) → (images : List ℤ) → map Some images ≡ grid (λ i r. names (reflected d.base i r).coeffs) (range_with_len 1 (rank d.base)) (all_roots d) → AreImages d images
  images_hold names named images e zero r k i n h = absurd (let l = i.0 in omega (arith, l))
  images_hold names named images e (suc i) r k s n h =
      let f = λ (i : ℕ) (r : Root). names (reflected d.base i r).coeffs in
      let j = (suc i - 1) * (2 * length d.positive) + place (length d.positive) r in
      let low : i < length (range_with_len 1 (rank d.base)) = let l = s.1 in omega (arith, l, length-range_with_len 1 (rank d.base)) in
      let less : suc i - 1 ≡ i = omega arith in
      let one : 1 + i ≡ suc i = omega arith in
      let at : names (reflected d.base (suc i) (root_of d r)).coeffs ≡ Some k =
      sym (ap Some h ∙ sym (get_or-map Some images j k) ∙ ap (λ xs. get_or xs j (Some k)) e
      ∙ ap (λ t. get_or (grid f (range_with_len 1 (rank d.base)) (all_roots d)) (t * (2 * length d.positive) + place (length d.positive) r) (Some k)) less
      ∙ at_pair f (range_with_len 1 (rank d.base)) i 0 r (Some k) low n ∙ ap (λ t. f t (root_of d r)) (get_or-range_with_len 1 (rank d.base) i 0 (let l = s.1 in omega (arith, l)) ∙ one)) in
      let is = subst (NamesRoot d (λ t. t.coeffs ≡ (reflected d.base (suc i) (root_of d r)).coeffs)) at (named (reflected d.base (suc i) (root_of d r)).coeffs) in
      (is.0, same_coeffs d loaded (root_of d k) (reflected d.base (suc i) (root_of d r)) (root_is d loaded k is.0) (is_reflected (suc i) (root_of d r) s (root_is d loaded r n)) is.1)

  -- an entry
  pub entry_holds : (e : Entry) → HasEntry d.base (map (covector d.base) (all_roots d)) e → IsEntryOf d e
  entry_holds e h = record {
    vector = h.vector;
    covector = h.covector;
    height = h.height;
    norm = h.norm ∙ ap (square_sum (map (covector d.base) (all_roots d))) h.vector ∙ total-map (λ y. pairing (vector d.base e.root) y *ℤ pairing (vector d.base e.root) y) (covector d.base) (all_roots d);
  }

  -- the roots in the full order, with their bounds
  pub all_small : All (λ r. IsRoot d.base r × IsSmall r) (all_roots d)
  all_small k z l = let p = all_only d loaded (get_or (all_roots d) k z) (in_at (all_roots d) k z l) in (p, loaded.axioms.finite.small (get_or (all_roots d) k z) p)

-- ---- the last axiom
module _ (b : Base) (c : IsCartan b) (rs : List Root) (listed : IsListed b rs) where
  d : RootDatum
  d = record { base = b; positive = rs }

  -- the bounds of the roots
  pub listed_small : All IsSmall rs
  listed_small k z l = listed.finite.small (get_or rs k z) (listed_only b c listed.unmixed rs listed.list (get_or rs k z) (in_at rs k z l)).0

  pub order_small : All (λ r. IsRoot b r × IsSmall r) (rs ++ map opposite rs)
  order_small k z l =
      let r = get_or (rs ++ map opposite rs) k z in
      let p = order_only b c listed.unmixed rs listed.list r (in_at (rs ++ map opposite rs) k z l) in
      (p, listed.finite.small r p)

  same_at : (x : ℕ) (z : Root) → x < length (all_roots d) → get_or (map (vector b) (all_roots d)) x [] ≡ vector b (get_or (all_roots d) x z)
  unfolding d
  same_at x z l = get_or_default (map (vector b) (all_roots d)) x [] (vector b z) (omega (arith, l, length-map (all_roots d) (vector b))) ∙ get_or-map (vector b) (all_roots d) x z

  -- no two places with one vector: the sixth axiom
  pub apart_holds : ((x y : ℕ) → ¬ IsSamePair (map (vector b) (rs ++ map opposite rs)) x y) → IsApart b
  unfolding d
  apart_holds none r s p q e =
      let xs = rs ++ map opposite rs in
      let long = length-map xs (vector b) in
      let f = contains_from_in xs r (order_in b c listed.unmixed rs listed.list r p) in
      let g = contains_from_in xs s (order_in b c listed.unmixed rs listed.list s q) in
      let fl = f.1 in
      let gl = g.1 in
      let at_f = same_at f.0 r f.1 ∙ ap (vector b) f.2 in
      let at_g = same_at g.0 s g.1 ∙ ap (vector b) g.2 in
      ⊎_elim (λ l. absurd (none f.0 g.0 (record { 0 = l; 1 = omega (arith, gl, long); 2 = at_f ∙ e ∙ sym at_g })))
      (λ l. ⊎_elim (λ m. absurd (none g.0 f.0 (record { 0 = m; 1 = omega (arith, fl, long); 2 = at_g ∙ sym e ∙ sym at_f })))
      (λ m. (let k : f.0 ≡ g.0 = omega (arith, l, m) in sym f.2 ∙ ap (λ t. get_or xs t r) k ∙ get_or_default xs g.0 r s g.1 ∙ g.2)) (within_or_past g.0 f.0)) (within_or_past f.0 g.0)

  -- and so the base is a root datum
  pub loads : IsApart b → IsLoaded (record { base = b; positive = rs })
  loads apart = record {
    axioms = record { input = c.input; twos = c.twos; signs = c.signs; zeros = c.zeros; finite = listed.finite; unmixed = listed.unmixed; apart = apart };
    listed = listed.list;
  }

  same_pair : (k l : ℕ) → IsRepeated d k l → IsSamePair (map (vector b) (all_roots d)) k l
  unfolding d
  same_pair k l q =
      let lt = q.0 in
      let inside = q.1 in
      record { 0 = q.0; 1 = omega (arith, inside, length-map (all_roots d) (vector b)); 2 = same_at k no_root (omega (arith, lt, inside)) ∙ q.2 no_root ∙ sym (same_at l no_root q.1) }

  -- the first two places with one vector: the fault
  pub repeats : (x y : ℕ) → IsFirstPair (IsSamePair (map (vector b) (rs ++ map opposite rs))) x y → IsFault b (Repeated (number_at (length rs) x) (number_at (length rs) y))
  unfolding d
  repeats x y h =
      let long = length-map (all_roots d) (vector b) in
      let twice = length-all d in
      let lt = h.0.0 in
      let inside = h.0.1 in
      let first : IsFirstPair (IsRepeated d) x y = (
        record { 0 = lt; 1 = omega (arith, inside, long); 2 = λ z. sym (same_at x z (omega (arith, lt, inside, long))) ∙ h.0.2 ∙ same_at y z (omega (arith, inside, long)) },
        λ k l q r. h.1 k l q (same_pair k l r),
      ) in
      let j = numbered_at d x (omega (arith, lt, inside, long, twice)) in
      let k = numbered_at d y (omega (arith, inside, long, twice)) in (
        c,
        listed.finite,
        listed.unmixed,
        (
          rs,
          listed.list,
          j.number,
          k.number,
          subst (λ t. IsFirstPair (IsRepeated d) t (place (length rs) (number_at (length rs) y))) (sym j.place) (subst (λ t. IsFirstPair (IsRepeated d) x t) (sym k.place) first),
        ),
      )

-- ---- all tables of a datum
abbrev with_entries : Base → ℕ → List Entry → RootDatum
with_entries b m es = record { base = b; positive = map as_root (take m es) }

-- the entries of all roots are those of d
pub entries_view : (d : RootDatum) (m : ℕ) (es : List Entry) → m ≡ length d.positive → map as_root es ≡ all_roots d → with_entries d.base m es ≡ d
entries_view d m es count roots =
    let list : map as_root (take m es) ≡ d.positive =
    sym (take-map as_root m es) ∙ ap (take m) roots ∙ ap (λ n. take n (all_roots d)) count ∙ take-append_seam d.positive (map opposite d.positive) in
    ap (λ t. record { base = d.base; positive = t }) list

-- names by a vector, of the roots in the full order
pub index_of_roots : (d : RootDatum) (m : ℕ) (f : Root → Vector) (ts : List Root) (vs : List Vector) (names : Vector → Option ℤ) → m ≡ length d.positive → ts ≡ all_roots d → vs ≡ map f ts →
    ((v : Vector) → IsIndexed m vs v (names v)) → (v : Vector) → IsIndexed (length d.positive) (map f (all_roots d)) v (names v)
index_of_roots d m f ts vs names p q e h v = subst (λ n. IsIndexed n (map f (all_roots d)) v (names v)) p (subst (λ ws. IsIndexed m ws v (names v)) (e ∙ ap (map f) q) (h v))

module _ (d : RootDatum) (loaded : IsLoaded d) (a : Inside) (base : d.base ≡ a.base) (count : a.positive ≡ length d.positive) (roots : map as_root a.table.items ≡ all_roots d) where
  tables_view : d ≡ loaded_roots a
  tables_view = sym (entries_view d a.positive a.table.items count roots) ∙ ap (λ t. with_entries t a.positive a.table.items) base

  pub tables_hold : length d.positive ≤ 120 → All (HasEntry d.base (map (covector d.base) (all_roots d))) a.table.items →
      (names : Vector → Option ℤ) → ((v : Vector) → IsIndexed (length d.positive) (map (λ r. r.coeffs) (all_roots d)) v (names v)) →
      a.sums.items ≡ grid (λ r s. names (plus r.coeffs s.coeffs)) (all_roots d) (all_roots d) →
      map Some a.images.items ≡ grid (λ i r. names (reflected d.base i r).coeffs) (range_with_len 1 (rank d.base)) (all_roots d) →
      ((v : Vector) → IsIndexed (length d.positive) (map (λ r. r.coeffs) (all_roots d)) v (get (pointwise int_eq) a.by_coeffs v)) →
      ((v : Vector) → IsIndexed (length d.positive) (map (vector d.base) (all_roots d)) v (get (pointwise int_eq) a.by_vector v)) → IsTableOf a
  tables_hold small entries names indexed sums images by_coeffs by_vector =
      let twice : length (all_roots d) ≡ 2 * a.positive = length-all d ∙ ap (λ n. 2 * n) (sym count) in
      let back = tables_view in
      record {
        loaded = subst IsLoaded back loaded;
        count = sym (length-map a.table.items as_root) ∙ ap length roots ∙ twice;
        small = omega (arith, small, count);
        all = roots ∙ ap all_roots back;
        entries = subst (λ (e : RootDatum). All (IsEntryOf e) a.table.items) back (λ k z l. entry_holds d loaded (get_or a.table.items k z) (entries k z l));
        sums = subst (λ (e : RootDatum). AreSums e a.sums.items) back (sums_hold d loaded names (λ v. names_root d loaded (λ r. r.coeffs) v (names v) (indexed v)) a.sums.items sums);
        sum_count = ap length sums ∙ length-grid (λ r s. names (plus r.coeffs s.coeffs)) (all_roots d) (all_roots d) ∙ ap (λ n. n * n) twice;
        images = subst (λ (e : RootDatum). AreImages e a.images.items) back (images_hold d loaded names (λ v. names_root d loaded (λ r. r.coeffs) v (names v) (indexed v)) a.images.items images);
        image_count = sym (length-map a.images.items Some) ∙ ap length images ∙ length-grid (λ i r. names (reflected d.base i r).coeffs) (range_with_len 1 (rank d.base)) (all_roots d)
            ∙ ap (λ n. n * length (all_roots d)) (length-range_with_len 1 (rank d.base) ∙ ap rank base) ∙ ap (λ n. length a.base.roots * n) twice;
        by_coeffs = λ v. subst (λ (e : RootDatum). NamesRoot e (λ r. r.coeffs ≡ v) (get (pointwise int_eq) a.by_coeffs v)) back (names_root d loaded (λ r. r.coeffs) v (get (pointwise int_eq) a.by_coeffs v) (by_coeffs v));
        by_vector = λ v. subst (λ (e : RootDatum). NamesRoot e (λ r. vector e.base r ≡ v) (get (pointwise int_eq) a.by_vector v)) back (names_root d loaded (vector d.base) v (get (pointwise int_eq) a.by_vector v) (by_vector v));
      }
