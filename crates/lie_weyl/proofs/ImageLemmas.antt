-- The images of the simple roots: what makes a list of numbers the images of a word.
use Rattle.std.proofs.Common.{◌≡◌, ℕ, zero, suc, ◌-◌, ◌+◌, ◌+ℤ◌, map, ◌<◌, ◌≤◌, ℤ, pos, List, [], length, get_or, take, set, refl, sym, ap, subst, ◌∙◌, arith, length-take, get_or-take, Option, Some, None, ⊎_elim}
use Rattle.std.proofs.lemmas.List.{get_or_default, get_or-set_same, get_or-set_other}
use Rattle.std.specs.List.{All}
use Rattle.std.proofs.Math.ListN.{length-set, length-map, get_or-map}
use Rattle.std.specs.Option.{IsSome}
use Rattle.std.proofs.lemmas.List.Elements.{All-from_get_or, All-set}
use Rattle.lie_datum.specs.declared.root_pair.Root.{Root}
use Rattle.lie_datum.specs.Vectors.{Vector, entry, times, combination}
use Rattle.lie_datum.specs.RootDatum.{simple, IsSimpleIndex, IsRoot, rank, IsWithin}
use Rattle.lie_datum.specs.RootList.{RootDatum, IsLoaded, IsNumber, root_of, NamesRoot}
use Rattle.lie_datum.proofs.SignedRoots.{root_is, same_coeffs}
use Rattle.lie_weyl.specs.Padding.{IsPadded}
use Rattle.lie_weyl.specs.WeylElement.{moved, Spells, AreLetters}
use Rattle.lie_datum.proofs.Entries.{within_or_past, entry-plus, entry-times, same_entries}
use Rattle.lie_datum.proofs.VectorLemmas.{entry-combination, length-combination}
use Rattle.lie_datum.proofs.LoadedLaws.{short}
use Rattle.lie_weyl.proofs.Words.{IsWord, lengths, IsRoot-moved}
use Rattle.lie_weyl.proofs.Linearity.{linear_image}

-- ---- what a look-up by coefficients answers
module _ (d : RootDatum) (loaded : IsLoaded d) (r : Root) (root : IsRoot d.base r) where
  pub named_some : (v : Vector) (o : Option ℤ) → r.coeffs ≡ v → NamesRoot d (λ s. s.coeffs ≡ v) o → IsSome o
  named_some v None e h = absurd (h r root e)
  named_some v (Some k) e h = refl

  pub named_same : (v : Vector) (o : Option ℤ) (k : ℤ) → r.coeffs ≡ v → NamesRoot d (λ s. s.coeffs ≡ v) o → o ≡ Some k → root_of d k ≡ r
  named_same v None k e h f = absurd (h r root e)
  named_same v (Some j) k e h f =
      let same : j ≡ k = cc in
      same_coeffs d loaded (root_of d k) r (root_is d loaded k (subst (IsNumber d) same h.0)) root (subst (λ z. (root_of d z).coeffs ≡ v) same h.1 ∙ sym e)

-- ---- images one by one
-- z is the number of the image of a_(j + 1)
pub record IsImage (d : RootDatum) (w : List ℕ) (z : ℤ) (j : ℕ) : Type 0 where
  pub number : IsNumber d z
  pub root : root_of d z ≡ moved d.base w (simple (suc j))

-- z is the number of a root to which P leads from the root of x
pub record IsStep (d : RootDatum) (P : Root → Root → Type 0) (x z : ℤ) : Type 0 where
  pub number : IsNumber d z
  pub step : P (root_of d x) (root_of d z)

module _ (d : RootDatum) (l : ℕ) (images : List ℤ) (low : l ≤ 8) (places : length images ≡ 8) where
  taken : length (take l images) ≡ l
  taken = length-take l images ∙ omega (arith, low, places)

  at_take : (k : ℕ) → k < l → get_or (take l images) k (pos 0) ≡ get_or images k (pos 1)
  at_take k h = rw get_or-take (get_or_default images k (pos 0) (pos 1) (omega (arith, h, low, places)))

  pub spells_rank : (w : List ℕ) → Spells d w (take l images) → l ≡ rank d.base
  spells_rank w s = sym taken ∙ s.count

  pub spells_at : (w : List ℕ) → Spells d w (take l images) → (j : ℕ) → j < l → IsImage d w (get_or images j (pos 1)) j
  spells_at w s j h =
      let n = taken in
      let r = spells_rank w s in
      let e : suc j - 1 ≡ j = omega arith in
      record {
        number = subst (IsNumber d) (at_take j h) (s.numbers j (pos 0) (omega (arith, n, h)));
        root = ap (root_of d) (sym (at_take j h)) ∙ ap (λ k. root_of d (get_or (take l images) k (pos 0))) (sym e) ∙ s.images_are (suc j) (omega arith, omega (arith, h, r));
      }

  pub spells_from : (w : List ℕ) → AreLetters d.base w → l ≡ rank d.base → ((j : ℕ) → j < l → IsImage d w (get_or images j (pos 1)) j) → Spells d w (take l images)
  spells_from w letters r h =
      let n = taken in
      record {
        letters = letters;
        count = taken ∙ r;
        numbers = All-from_get_or (IsNumber d) (take l images) (pos 0) (λ k q. subst (IsNumber d) (sym (at_take k (omega (arith, q, n)))) (h k (omega (arith, q, n))).number);
        images_are = λ i s.
            let a = s.0 in
            let b = s.1 in
            let inside : i - 1 < l = omega (arith, a, b, r) in
            let e : suc (i - 1) ≡ i = omega (arith, a) in
            ap (root_of d) (at_take (i - 1) inside) ∙ (h (i - 1) inside).root ∙ ap (λ k. moved d.base w (simple k)) e;
      }

-- ---- one place more is written
-- what holds of the places below k, and of what is written at k
pub below_more : {A : Type 0} (P : A → ℕ → Type 0) (xs : List A) (z : A) (k : ℕ) (y : A) → k < length xs → ((j : ℕ) → j < k → P (get_or xs j y) j) → P z k → (j : ℕ) → j < k + 1 → P (get_or (set xs k z) j y) j
below_more P xs z k y within h p j l =
    ⊎_elim (λ m. subst (λ t. P t j) (sym (get_or-set_other xs k j z y (λ e. absurd (omega (arith, m, e))))) (h j m))
    (λ m. (let same : k ≡ j = omega (arith, m, l) in subst (λ i. P (get_or (set xs k z) i y) i) same (subst (λ t. P t k) (sym (get_or-set_same xs k z y within)) p)))
    (within_or_past j k)

-- the places behind k stay as they were
pub behind_more : {A : Type 0} (xs old : List A) (z : A) (k : ℕ) (y : A) → ((j : ℕ) → k ≤ j → get_or xs j y ≡ get_or old j y) → (j : ℕ) → k + 1 ≤ j → get_or (set xs k z) j y ≡ get_or old j y
behind_more xs old z k y h j l = get_or-set_other xs k j z y (λ e. absurd (omega (arith, l, e))) ∙ h j (omega (arith, l))

-- the first k places are filled by steps from the old ones, and the rest are the old ones
pub record IsFilled (d : RootDatum) (P : Root → Root → Type 0) (old new : List ℤ) (k : ℕ) : Type 0 where
  pub places : length new ≡ 8
  pub done : (j : ℕ) → j < k → IsStep d P (get_or old j (pos 1)) (get_or new j (pos 1))
  pub rest : (j : ℕ) → k ≤ j → get_or new j (pos 1) ≡ get_or old j (pos 1)

module _ (d : RootDatum) (P : Root → Root → Type 0) (old : List ℤ) where
  pub filled_none : length old ≡ 8 → IsFilled d P old old 0
  filled_none p = record { places = p; done = λ j l. absurd (omega (arith, l)); rest = λ j l. refl }

  pub filled_more : (new : List ℤ) (k : ℕ) (z : ℤ) → k < 8 → IsFilled d P old new k → IsStep d P (get_or old k (pos 1)) z → IsFilled d P old (set new k z) (k + 1)
  filled_more new k z within f s = record {
    places = length-set new k z ∙ f.places;
    done = below_more (λ y j. IsStep d P (get_or old j (pos 1)) y) new z k (pos 1) (let e = f.places in omega (arith, within, e)) f.done s;
    rest = behind_more new old z k (pos 1) f.rest;
  }

-- filled places behind which the old ones are unused
pub filled_padded : (d : RootDatum) (P : Root → Root → Type 0) (old new : List ℤ) (l k : ℕ) → IsPadded (record { l = l; images = old }) → l ≤ k → k ≤ l → IsFilled d P old new k → IsPadded (record { l = l; images = new })
filled_padded d P old new l k p a b f = record {
  count = p.count;
  places = f.places;
  unused = λ j q. f.rest j (omega (arith, q, b)) ∙ p.unused j q;
}

-- an image read by the code
pub read_at : (images : List ℤ) (k : ℕ) (x : ℤ) → length images ≡ 8 → k < 8 → get_or images k x ≡ get_or images k (pos 1)
read_at images k x p h = get_or_default images k x (pos 1) (omega (arith, p, h))

-- what holds of each vector, and of the one that is written
kept : (P : Vector → Type 0) (vs : List Vector) (v : Vector) (k : ℕ) → k < length vs → ((j : ℕ) → P (get_or vs j [])) → P v → (j : ℕ) → P (get_or (set vs k v) j [])
kept P vs v k l h w j =
    ⊎_elim (λ m. other (λ e. absurd (omega (arith, m, e))))
    (λ m. ⊎_elim (λ n. other (λ e. absurd (omega (arith, n, e)))) (λ n. (let same : k ≡ j = omega (arith, m, n) in subst (λ i. P (get_or (set vs k v) i [])) same (subst P (sym (get_or-set_same vs k v [] l)) w))) (within_or_past k j))
    (within_or_past j k)
  where
    other : ¬ (j ≡ k) → P (get_or (set vs k v) j [])
    other n = subst P (sym (get_or-set_other vs k j v [] n)) (h j)

-- the coefficients of an image are the combination of those of the images of the simple roots
pub combined_image : (d : RootDatum) → IsLoaded d → (w : List ℕ) → IsWord d.base w → (vs : List Vector) → length vs ≡ 8 → All (λ v. length v ≡ 8) vs →
    ((i : ℕ) → IsSimpleIndex d.base i → get_or vs (i - 1) [] ≡ (moved d.base w (simple i)).coeffs) → (r : Root) → IsRoot d.base r → (moved d.base w r).coeffs ≡ combination r.coeffs vs
combined_image d loaded w h vs count long at r p =
    let low = short d loaded in
    same_entries (moved d.base w r).coeffs (combination r.coeffs vs)
    ((lengths d loaded (moved d.base w r) (IsRoot-moved d loaded w r h p)).0 ∙ sym (length-combination r.coeffs vs (let e = (lengths d loaded r p).0 in omega (arith, e)) (omega (arith, count)) long))
    (λ j. linear_image d loaded (λ v. entry v j) (λ x y k. entry-plus x (times k y) j ∙ ap (λ t. entry x j +ℤ t) (entry-times k y j)) w h (map (λ v. entry v j) vs)
    (let n = length-map vs (λ (v : Vector). entry v j) in omega (arith, n, count, low))
    (λ i s. get_or-map (λ (v : Vector). entry v j) vs (i - 1) [] ∙ ap (λ v. entry v j) (at i s)) r p
    ∙ sym (entry-combination r.coeffs vs j))

-- the vectors of the first k images, and zeros behind them
abbrev pub AreCoeffs : RootDatum → List ℤ → List Vector → ℕ → Type 0
AreCoeffs d images vs k =
    (length vs ≡ 8) × All (λ v. length v ≡ 8) vs × ((j : ℕ) → IsWithin 100 (get_or vs j [])) × ((j : ℕ) → j < k → get_or vs j [] ≡ (root_of d (get_or images j (pos 1))).coeffs)

-- one vector more
pub coeffs_more : (d : RootDatum) (images : List ℤ) (vs : List Vector) (v : Vector) (k : ℕ) → k < 8 → length v ≡ 8 → IsWithin 100 v → v ≡ (root_of d (get_or images k (pos 1))).coeffs → AreCoeffs d images vs k → AreCoeffs d images (set vs k v) (k + 1)
coeffs_more d images vs v k l long w e h =
    let p = h.0 in (
      length-set vs k v ∙ h.0,
      All-set (λ (v : Vector). length v ≡ 8) vs k v long h.1,
      kept (IsWithin 100) vs v k (omega (arith, l, p)) h.2 w,
      below_more (λ y j. y ≡ (root_of d (get_or images j (pos 1))).coeffs) vs v k [] (omega (arith, l, p)) h.3 e,
    )
