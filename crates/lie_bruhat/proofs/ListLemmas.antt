-- Lists of elements in the words of forms: letters behind a list, the two parts of a split, and letters that are moved.
use Rattle.std.proofs.Common.{◌≡◌, ℕ, zero, suc, ◌+◌, ◌-◌, ◌<◌, ℤ, pos, negsuc, ◌<ℤ◌, Bool, true, false, not, List, [], ◌∷◌, ◌++◌, map, length, get_or, take, filter, refl, sym, ap, subst, ◌∙◌, arith}
use Rattle.std.specs.Prelude.{nat_abs, nat_lt, nat_eq}
use Rattle.std.specs.List.{All, AllByRecursion}
use Rattle.std.proofs.lemmas.Int.{ints}
use Rattle.std.proofs.lemmas.List.{append-nil, map-append, get_or-map, length-take-le, take_more}
use Rattle.std.proofs.lemmas.Bool.{lt-ltb}
use Rattle.std.proofs.lemmas.Option.{unwrap_or-slice_get}
use Rattle.lie_ring.specs.Rings.{RingOn, Fits}
use Rattle.lie_field.specs.Quotient.{order}
use Rattle.lie_field.specs.FieldRing.{field_ring, field_is_ring}
use Rattle.lie_datum.specs.RootList.{IsNumber, root_of}
use Rattle.lie_datum.proofs.HeightLemmas.{positive_number}
use Rattle.lie_datum.specs.Numbers.{number_at}
use Rattle.lie_datum.proofs.NumberLemmas.{some_within}
use Rattle.lie_letters.proofs.NameLemmas.{index_of, number_of_index}
use Rattle.lie_weyl.proofs.Words.{IsWord, is_word, empty, letter}
use Rattle.lie_weyl.specs.WeylElement.{AreLetters, moved, is_negative}
use Rattle.lie_weyl.proofs.Signs.{test_positive}
use Rattle.lie_letters.specs.declared.letter.Letter.{Letter}
use Rattle.lie_letters.specs.declared.letter.Letter.TheVariants.{X, H, N}
use Rattle.lie_letters.specs.GroupSpelled.{JoinedInGroup}
use Rattle.lie_letters.specs.PositiveTerms.{positive_terms}
use Rattle.lie_letters.specs.RingLetters.{RingLetter, IsRingWord, full_word}
use Rattle.lie_letters.specs.SignedFrames.{SignedFrame, unsigned, IsLawfulSigned}
use Rattle.lie_letters.specs.Spelled.{IsIndex, IsWordOver, root_letters}
use Rattle.lie_letters.specs.Entries.{AreUnits, inverses}
use Rattle.lie_letters.specs.Frames.{dim}
use Rattle.lie_letters.proofs.TorusLemmas.{inverse_joined}
use Rattle.lie_letters.proofs.BridgeLemmas.{IsWordOver-ring, joined_over_ring}
use Rattle.lie_letters.proofs.CallerLemmas.{JoinedInGroup-trans, JoinedInGroup-flip, JoinedInGroup-append, JoinedInGroup-over, JoinedInGroup-plain}
use Rattle.lie_unip.specs.Collection.{AreEntries, IsCollected}
use Rattle.lie_unip.specs.Forms.{ZeroWhere, is_nonzero, nonzero_letters}
use Rattle.lie_unip.specs.PositiveLetters.{ArePositiveLetters, by_place}
use Rattle.lie_unip.specs.Splitting.{IsSplit, chosen, kept_at, kept_by}
use Rattle.lie_unip.proofs.DatumLemmas.{datum_collectable}
use Rattle.lie_unip.proofs.FullWordLemmas.{full_append}
use Rattle.lie_unip.proofs.FormLemmas.{letters_more}
use Rattle.lie_unip.proofs.PositiveLetterLemmas.{lawful_letters}
use Rattle.lie_unip.proofs.JoinedLemmas.{dropped_joined, split_joined}
use Rattle.lie_unip.proofs.ElementLemmas.{OfElements-append}
use Rattle.lie_unip.proofs.BoundLemmas.{Within-append}
use Rattle.lie_unip.proofs.WordLemmas.{word_lawful}
use Rattle.std.proofs.lemmas.Bool.Decides.{nat_tests}
use Rattle.lie_bruhat.specs.Products.{ZeroElsewhere}
use Rattle.lie_bruhat.proofs.FormLemmas.{dropped_zeros, listed}
use Rattle.lie_bruhat.proofs.PassLemmas.{Passes, joined_before, joined_behind, passes_none, passes_append, passes_through, inverse_before, inverse_passes}

-- the elements that aren't chosen are 0
chosen_zero : (choice : ℕ → Bool) (s k : ℕ) (u : List ℕ) → choice (s + k) ≡ false → get_or (chosen choice 0 s u) k 0 ≡ 0
chosen_zero choice s k [] e = refl
chosen_zero choice s zero (a ∷ u) e = let h : choice s ≡ false = ap choice (omega arith) ∙ e in rw h refl
chosen_zero choice s (suc k) (a ∷ u) e = chosen_zero choice (s + 1) k u (ap choice (omega arith) ∙ e)

-- the letters of a list, without those that are 0
abbrev pub letters : List ℕ → List Letter
letters u = root_letters (nonzero_letters u)

-- letters at positive roots, which stand in front of z where those of the list stood behind it
pub record AreMoved (f : SignedFrame) (z : List Letter) (u : List ℕ) (v : List (ℤ × ℕ)) : Type 0 where
  pub positive : ArePositiveLetters (field_ring f.field) f.datum v
  pub passes : Passes f z (letters u) (root_letters (by_place v))

-- lists of one length, the second 0 wherever the first is
abbrev pub ZerosKept : List ℕ → List ℕ → Type 0
ZerosKept [] [] = Unit {0}
ZerosKept [] (b ∷ v) = ⊥
ZerosKept (a ∷ u) [] = ⊥
ZerosKept (a ∷ u) (b ∷ v) = (a ≡ 0 → b ≡ 0) × ZerosKept u v

zeros_more : (u v : List ℕ) (a b : ℕ) → ZerosKept u v → (a ≡ 0 → b ≡ 0) → ZerosKept (u ++ a ∷ []) (v ++ b ∷ [])
zeros_more [] [] a b h k = (k, tt)
zeros_more [] (y ∷ v) a b h k = absurd h
zeros_more (x ∷ u) [] a b h k = absurd h
zeros_more (x ∷ u) (y ∷ v) a b h k = (h.0, zeros_more u v a b h.1 k)

zeros_count : (u v : List ℕ) → ZerosKept u v → length v ≡ length u
zeros_count [] [] h = refl
zeros_count [] (y ∷ v) h = absurd h
zeros_count (x ∷ u) [] h = absurd h
zeros_count (x ∷ u) (y ∷ v) h = ap suc (zeros_count u v h.1)

zeros_at : (u v : List ℕ) → ZerosKept u v → (k : ℕ) → get_or u k 0 ≡ 0 → get_or v k 0 ≡ 0
zeros_at [] [] h k e = e
zeros_at [] (y ∷ v) h k e = absurd h
zeros_at (x ∷ u) [] h k e = absurd h
zeros_at (x ∷ u) (y ∷ v) h zero e = h.0 e
zeros_at (x ∷ u) (y ∷ v) h (suc k) e = zeros_at u v h.1 k e

-- the elements in front of a torus letter where those of u stood behind it, zeros included
pub record AreScaled (f : SignedFrame) (t u v : List ℕ) : Type 0 where
  pub below : AllByRecursion (λ a. a < order f.field.given) v
  pub zeros : ZerosKept u v
  pub passes : Passes f (H t ∷ []) (root_letters (full_word u)) (root_letters (full_word v))

module _ (f : SignedFrame) (lawful : IsLawfulSigned f) where
  abbrev R : RingOn ℕ
  R = field_ring f.field

  abbrev m : ℕ
  m = length f.datum.positive

  -- the letters that are 0 may be left out
  pub full_joined : (u : List ℕ) → AreEntries R m u → JoinedInGroup f (root_letters (full_word u)) (letters u)
  full_joined u h =
      let over = word_lawful R (field_is_ring f.field) m u h in
      JoinedInGroup-plain f (root_letters (full_word u)) (letters u)
      (joined_over_ring (unsigned f) lawful.lawful (full_word u) (nonzero_letters u)
      (dropped_joined R (field_is_ring f.field) m (positive_terms f.constants) (dropped_zeros f.field (full_word u)) over.1)
      (IsWordOver-ring (unsigned f) (full_word u) over))

  pub letters_over : (u : List ℕ) → AreEntries R m u → IsWordOver (unsigned f) (letters u)
  letters_over u h = JoinedInGroup-over f (root_letters (full_word u)) (letters u) (full_joined u h)

  -- a list and letters behind it, collected
  pub letters_behind : (u v : List ℕ) (w : List (RingLetter ℕ)) → AreEntries R m u → IsRingWord R m w → IsCollected R (positive_terms f.constants) nat_lt m (full_word u ++ w) v
      → JoinedInGroup f (letters u ++ root_letters w) (letters v)
  letters_behind u v w h over c =
      let whole = word_lawful R (field_is_ring f.field) m u h in
      let both : IsRingWord R m (full_word u ++ w) = (OfElements-append R (full_word u) w whole.0 over.0, Within-append R m (full_word u) w whole.1 over.1) in
      let split : root_letters (full_word u ++ w) ≡ root_letters (full_word u) ++ root_letters w = map-append (λ (x : RingLetter ℕ). X (pos x.0) x.1) (full_word u) w in
      JoinedInGroup-trans f (letters u ++ root_letters w) (root_letters (full_word u) ++ root_letters w) (letters v)
      (joined_before f (root_letters w) (letters u) (root_letters (full_word u)) (IsWordOver-ring (unsigned f) w over) (JoinedInGroup-flip f (root_letters (full_word u)) (letters u) (full_joined u h)))
      (subst (λ z. JoinedInGroup f z (letters v)) split
      (JoinedInGroup-plain f (root_letters (full_word u ++ w)) (letters v) (listed (unsigned f) lawful.lawful (full_word u ++ w) v both c).joined))

  -- two lists, collected
  pub lists_joined : (u v w : List ℕ) → AreEntries R m u → AreEntries R m v → IsCollected R (positive_terms f.constants) nat_lt m (full_word u ++ full_word v) w
      → JoinedInGroup f (letters u ++ letters v) (letters w)
  lists_joined u v w h k c =
      JoinedInGroup-trans f (letters u ++ letters v) (letters u ++ root_letters (full_word v)) (letters w)
      (joined_behind f (letters u) (letters v) (root_letters (full_word v)) (letters_over u h) (JoinedInGroup-flip f (root_letters (full_word v)) (letters v) (full_joined v k)))
      (letters_behind u w (full_word v) h (word_lawful R (field_is_ring f.field) m v k) c)

  pub fits_below : (a : ℕ) → a < order f.field.given → Fits R a
  fits_below a h = (lt-ltb a (order f.field.given) h, omega arith)

  place_is : (r : ℤ) → pos 0 <ℤ r → pos (nat_abs r) ≡ r
  place_is (pos n) h = refl
  place_is (negsuc n) h = absurd (omega (arith, ints, h))

  -- a list and one letter behind it, collected
  pub letter_behind : (u v : List ℕ) (r : ℤ) (a : ℕ) → AreEntries R m u → IsNumber f.datum r → pos 0 <ℤ r → a < order f.field.given
      → IsCollected R (positive_terms f.constants) nat_lt m (full_word u ++ (nat_abs r, a) ∷ []) v → JoinedInGroup f (letters u ++ X r a ∷ []) (letters v)
  letter_behind u v r a h number positive below c =
      let over = lawful_letters R f.datum ((r, a) ∷ []) ((number, positive, fits_below a below), tt) in
      subst (λ n. JoinedInGroup f (letters u ++ X n a ∷ []) (letters v)) (place_is r positive) (letters_behind u v ((nat_abs r, a) ∷ []) h over c)

  -- the two parts of a list
  pub parts_joined : (kept : ℕ → Bool) (u v w : List ℕ) → AreEntries R m u → AreEntries R m v → AreEntries R m w → IsSplit R (positive_terms f.constants) m kept u v w
      → JoinedInGroup f (letters v ++ letters w) (letters u)
  parts_joined kept u v w h k l s =
      let ring = field_is_ring f.field in
      let over = word_lawful R ring m u h in
      let split : root_letters (full_word v ++ full_word w) ≡ root_letters (full_word v) ++ root_letters (full_word w) = map-append (λ (x : RingLetter ℕ). X (pos x.0) x.1) (full_word v) (full_word w) in
      let cut : JoinedInGroup f (root_letters (full_word u)) (root_letters (full_word v) ++ root_letters (full_word w)) =
      subst (λ z. JoinedInGroup f (root_letters (full_word u)) z) split
      (JoinedInGroup-plain f (root_letters (full_word u)) (root_letters (full_word v ++ full_word w))
      (joined_over_ring (unsigned f) lawful.lawful (full_word u) (full_word v ++ full_word w)
      (split_joined R ring m (positive_terms f.constants) (datum_collectable f.datum lawful.lawful.loaded f.constants lawful.lawful.constants) kept u v w over.0 over.1 s) (IsWordOver-ring (unsigned f) (full_word u) over))) in
      let both = JoinedInGroup-append f (root_letters (full_word v)) (letters v) (root_letters (full_word w)) (letters w) (full_joined v k) (full_joined w l) in
      JoinedInGroup-flip f (letters u) (letters v ++ letters w)
      (JoinedInGroup-trans f (letters u) (root_letters (full_word u)) (letters v ++ letters w) (JoinedInGroup-flip f (root_letters (full_word u)) (letters u) (full_joined u h))
      (JoinedInGroup-trans f (root_letters (full_word u)) (root_letters (full_word v) ++ root_letters (full_word w)) (letters v ++ letters w) cut both))

  -- the first part is 0 where a root isn't kept, and the second where it is
  pub first_elsewhere : (bs : List Bool) (u v w : List ℕ) → IsSplit R (positive_terms f.constants) m (kept_at bs) u v w → ZeroElsewhere bs v
  first_elsewhere bs u v w s k e =
      let place : 1 + k - 1 ≡ k = omega arith in
      ap (λ l. get_or l k 0) s.first ∙ chosen_zero (kept_at bs) 1 k s.whole (ap (λ i. get_or bs i false) place ∙ e)

  pub second_where : (bs : List Bool) (u v w : List ℕ) → IsSplit R (positive_terms f.constants) m (kept_at bs) u v w → ZeroWhere bs w
  second_where bs u v w s k e =
      let place : 1 + k - 1 ≡ k = omega arith in
      ap (λ l. get_or l k 0) s.second ∙ chosen_zero (λ r. not (kept_at bs r)) 1 k s.whole (ap not (ap (λ i. get_or bs i false) place ∙ e))

  -- a root whose element isn't 0 stays positive along the word
  pub stays_positive : (word : List ℕ) (u : List ℕ) (k : ℕ) (r : ℤ) → ZeroElsewhere (kept_by f.datum word) u → k < m → ¬ (get_or u k 0 ≡ 0) → IsNumber f.datum r
      → root_of f.datum r ≡ moved f.datum.base word (root_of f.datum (pos (k + 1))) → pos 0 <ℤ r
  stays_positive word u k r zeros inside nonzero number image =
      positive_number f.datum lawful.lawful.loaded r number (test_positive (root_of f.datum r) (by (is_negative (root_of f.datum r)) refl))
    where
      root : root_of f.datum (pos (k + 1)) ≡ get_or f.datum.positive k (record { coeffs = []; co_coeffs = [] })
      root = let one : k + 1 ≡ suc k = omega arith in ap (λ n. root_of f.datum (pos n)) one ∙ unwrap_or-slice_get f.datum.positive k (record { coeffs = []; co_coeffs = [] })

      at : get_or (kept_by f.datum word) k false ≡ not (is_negative (root_of f.datum r))
      at =
          get_or-map (λ s. not (is_negative (moved f.datum.base word s))) f.datum.positive k (record { coeffs = []; co_coeffs = [] }) false inside
          ∙ ap (λ s. not (is_negative (moved f.datum.base word s))) (sym root) ∙ ap (λ s. not (is_negative s)) (sym image)

      by : (b : Bool) → is_negative (root_of f.datum r) ≡ b → is_negative (root_of f.datum r) ≡ false
      by false e = e
      by true e = absurd (nonzero (zeros k (at ∙ ap not e)))

  -- ---- letters that a word passes, one element more
  positive_append : (v w : List (ℤ × ℕ)) → ArePositiveLetters R f.datum v → ArePositiveLetters R f.datum w → ArePositiveLetters R f.datum (v ++ w)
  positive_append [] w h k = k
  positive_append (x ∷ v) w h k = (h.0, positive_append v w h.1 k)

  pub moved_zero : (z : List Letter) (u : List ℕ) (k : ℕ) (v : List (ℤ × ℕ)) → k < length u → get_or u k 0 ≡ 0 → AreMoved f z (take k u) v → AreMoved f z (take (k + 1) u) v
  moved_zero z u k v inside e h =
      let more : letters (take (k + 1) u) ≡ letters (take k u) =
      letters_more u k 0 inside (sym e) ∙ append-nil (letters (take k u)) in
      record { positive = h.positive; passes = subst (λ w. Passes f z w (root_letters (by_place v))) (sym more) h.passes }

  pub moved_more : (z : List Letter) (u : List ℕ) (k a : ℕ) (r : ℤ) (b : ℕ) (v : List (ℤ × ℕ)) → k < length u → a ≡ get_or u k 0 → ¬ (a ≡ 0)
      → IsNumber f.datum r → pos 0 <ℤ r → Fits R b → Passes f z (X (pos (k + 1)) a ∷ []) (X r b ∷ []) → AreMoved f z (take k u) v → AreMoved f z (take (k + 1) u) (v ++ (r, b) ∷ [])
  moved_more z u k a r b v inside e nonzero number positive fits passes h =
      let own : filter is_nonzero ((k + 1, a) ∷ []) ≡ (k + 1, a) ∷ [] = (let t : nat_eq a 0 ≡ false = grind (arith, nat_tests) in rw t refl) in
      let more : letters (take (k + 1) u) ≡ letters (take k u) ++ X (pos (k + 1)) a ∷ [] =
      letters_more u k a inside e ∙ ap (λ w. letters (take k u) ++ root_letters w) own in
      let last : root_letters (by_place (v ++ (r, b) ∷ [])) ≡ root_letters (by_place v) ++ X r b ∷ [] =
      ap root_letters (map-append (λ (x : ℤ × ℕ). (nat_abs x.0, x.1)) v ((r, b) ∷ []))
      ∙ map-append (λ (x : RingLetter ℕ). X (pos x.0) x.1) (by_place v) ((nat_abs r, b) ∷ [])
      ∙ ap (λ n. root_letters (by_place v) ++ X n b ∷ []) (place_is r positive) in
      record {
        positive = positive_append v ((r, b) ∷ []) h.positive ((number, positive, fits), tt);
        passes =
            subst (λ w. Passes f z w (root_letters (by_place (v ++ (r, b) ∷ [])))) (sym more)
            (subst (λ w. Passes f z (letters (take k u) ++ X (pos (k + 1)) a ∷ []) w) (sym last)
            (passes_append f z (letters (take k u)) (root_letters (by_place v)) (X (pos (k + 1)) a ∷ []) (X r b ∷ []) h.passes passes));
      }

  -- the first letters of none
  pub moved_none : (z : List Letter) (u : List ℕ) → IsWordOver (unsigned f) z → AreMoved f z (take 0 u) []
  moved_none z u over = record { positive = tt; passes = passes_none f z over }

  -- ---- elements in front of a torus letter, one more
  pub scaled_none : (t u : List ℕ) → dim (unsigned f) ≡ length t → AreUnits f.field t → AreScaled f t (take 0 u) []
  scaled_none t u long units = record { below = tt; zeros = tt; passes = passes_none f (H t ∷ []) ((long, units), tt) }

  below_more : (v : List ℕ) (b : ℕ) → AllByRecursion (λ a. a < order f.field.given) v → b < order f.field.given → AllByRecursion (λ a. a < order f.field.given) (v ++ b ∷ [])
  below_more [] b h l = (l, tt)
  below_more (a ∷ v) b h l = (h.0, below_more v b h.1 l)

  -- the letters of one element more, zeros included
  full_more : (u : List ℕ) (n a : ℕ) → 1 + length u ≡ n → root_letters (full_word (u ++ a ∷ [])) ≡ root_letters (full_word u) ++ X (pos n) a ∷ []
  full_more u n a e =
      ap root_letters (full_append 1 u (a ∷ [])) ∙ map-append (λ (x : RingLetter ℕ). X (pos x.0) x.1) (full_word u) ((1 + length u, a) ∷ [])
      ∙ ap (λ i. root_letters (full_word u) ++ X (pos i) a ∷ []) e

  pub scaled_more : (t u : List ℕ) (k a b : ℕ) (v : List ℕ) → k < length u → a ≡ get_or u k 0 → b < order f.field.given → (a ≡ 0 → b ≡ 0)
      → Passes f (H t ∷ []) (X (pos (k + 1)) a ∷ []) (X (pos (k + 1)) b ∷ []) → AreScaled f t (take k u) v → AreScaled f t (take (k + 1) u) (v ++ b ∷ [])
  scaled_more t u k a b v inside e below keeps passes h =
      let more : take (k + 1) u ≡ take k u ++ a ∷ [] = take_more u k 0 inside ∙ ap (λ x. take k u ++ x ∷ []) (sym e) in
      let long = length-take-le k u (omega (arith, inside)) in
      let count = zeros_count (take k u) v h.zeros in
      let first = full_more (take k u) (k + 1) a (omega (arith, long)) in
      let last = full_more v (k + 1) b (omega (arith, long, count)) in
      subst (λ w. AreScaled f t w (v ++ b ∷ [])) (sym more)
      (record {
        below = below_more v b h.below below;
        zeros = zeros_more (take k u) v a b h.zeros keeps;
        passes =
            subst (λ w. Passes f (H t ∷ []) w (root_letters (full_word (v ++ b ∷ [])))) (sym first)
            (subst (λ w. Passes f (H t ∷ []) (root_letters (full_word (take k u)) ++ X (pos (k + 1)) a ∷ []) w) (sym last)
            (passes_append f (H t ∷ []) (root_letters (full_word (take k u))) (root_letters (full_word v)) (X (pos (k + 1)) a ∷ []) (X (pos (k + 1)) b ∷ []) h.passes passes));
      })

  -- the whole list: its elements are of the field, it is 0 where u is, and the inverse torus letter passes it from left to right
  pub scaled_entries : (t u v : List ℕ) → AreEntries R m u → AreScaled f t u v → AreEntries R m v
  scaled_entries t u v h s = record {
    count = zeros_count u v s.zeros ∙ h.count;
    fit = all_fit v s.below;
  }
    where
      all_fit : (v : List ℕ) → AllByRecursion (λ a. a < order f.field.given) v → All (Fits R) v
      all_fit v h k e l = fits_below (get_or v k e) (at v h k e l)
        where
          at : (v : List ℕ) → AllByRecursion (λ a. a < order f.field.given) v → (k e : ℕ) → k < length v → get_or v k e < order f.field.given
          at [] h k e l = absurd (omega (arith, l))
          at (a ∷ v) h zero e l = h.0
          at (a ∷ v) h (suc k) e l = at v h.1 k e (omega (arith, l))

  pub scaled_zeros : (t u v : List ℕ) → AreScaled f t u v → (k : ℕ) → get_or u k 0 ≡ 0 → get_or v k 0 ≡ 0
  scaled_zeros t u v s = zeros_at u v s.zeros

  pub scaled_passes : (t back u v : List ℕ) → dim (unsigned f) ≡ length t → AreUnits f.field t → back ≡ inverses f.field t → AreEntries R m u → AreScaled f back u v
      → JoinedInGroup f (letters u ++ H t ∷ []) (H t ∷ letters v)
  scaled_passes t back u v long units is h s =
      let b = inverses f.field t in
      let passes : Passes f (H b ∷ []) (root_letters (full_word u)) (root_letters (full_word v)) = subst (λ w. Passes f (H w ∷ []) (root_letters (full_word u)) (root_letters (full_word v))) is s.passes in
      let right = JoinedInGroup-plain f (H t ∷ H b ∷ []) [] (inverse_joined (unsigned f) t units long) in
      let over = (JoinedInGroup-over f [] (H t ∷ H b ∷ []) (JoinedInGroup-flip f (H t ∷ H b ∷ []) [] right)) in
      let again = JoinedInGroup-plain f (H b ∷ H (inverses f.field b) ∷ []) [] (inverse_joined (unsigned f) b over.1.0.1 over.1.0.0) in
      let left = inverse_before f (H t) (H b) (H (inverses f.field b)) right again in
      let full = inverse_passes f (H t) (H b) (root_letters (full_word u)) (root_letters (full_word v)) right left passes in
      let first = full_joined u h in
      let last = full_joined v (scaled_entries back u v h s) in
      JoinedInGroup-trans f (letters u ++ H t ∷ []) (root_letters (full_word u) ++ H t ∷ []) (H t ∷ letters v)
      (joined_before f (H t ∷ []) (letters u) (root_letters (full_word u)) (over.0, tt) (JoinedInGroup-flip f (root_letters (full_word u)) (letters u) first))
      (JoinedInGroup-trans f (root_letters (full_word u) ++ H t ∷ []) (H t ∷ root_letters (full_word v)) (H t ∷ letters v) full
      (joined_behind f (H t ∷ []) (root_letters (full_word v)) (letters v) (over.0, tt) last))

  -- the inverse of a torus vector of the frame is one of the frame
  pub inverse_torus : (t back : List ℕ) → dim (unsigned f) ≡ length t → AreUnits f.field t → back ≡ inverses f.field t → (dim (unsigned f) ≡ length back) × AreUnits f.field back
  inverse_torus t back long units is =
      let b = inverses f.field t in
      let right = JoinedInGroup-plain f (H t ∷ H b ∷ []) [] (inverse_joined (unsigned f) t units long) in
      let over = JoinedInGroup-over f [] (H t ∷ H b ∷ []) (JoinedInGroup-flip f (H t ∷ H b ∷ []) [] right) in
      subst (λ c. (dim (unsigned f) ≡ length c) × AreUnits f.field c) (sym is) over.1.0

  weyl_over : {w : List ℕ} → IsWord f.datum.base w → IsWordOver (unsigned f) (map N w)
  weyl_over empty = tt
  weyl_over (letter {i = i} s h) =
      let j = index_of f.datum lawful.lawful.loaded (i - 1) (let l = s.0 in let u = s.1 in omega (arith, l, u)) in
      (subst (IsIndex f.datum) (let e = j.1 in let l = s.0 in omega (arith, e, l)) (number_of_index f.datum j.0), weyl_over h)

  -- a torus letter and the letters along a word are a word of the frame
  pub moved_over : (t word : List ℕ) → dim (unsigned f) ≡ length t → AreUnits f.field t → AreLetters f.datum.base word → IsWordOver (unsigned f) (H t ∷ map N word)
  moved_over t word long units l = ((long, units), weyl_over (is_word f.datum.base word l))

  -- ---- the root at a place
  pub at_place : (k : ℕ) → k < m → number_at m k ≡ pos (k + 1)
  at_place k h = (let t : nat_lt k m ≡ true = grind (arith, nat_tests) in rw t refl)

  pub place_number : (k : ℕ) (r : ℤ) → k < m → r ≡ number_at m k → IsNumber f.datum r
  place_number k r h e =
      let one : suc k ≡ k + 1 = omega arith in
      subst (IsNumber f.datum) (sym (e ∙ at_place k h)) (subst (λ n. IsNumber f.datum (pos n)) one (some_within f.datum.positive k h))

  -- the letter of one place, moved past a word and a torus letter
  pub moved_letter : (h word u : List ℕ) (k a : ℕ) (r s t : ℤ) (b c : ℕ) (v : List (ℤ × ℕ)) → ZeroElsewhere (kept_by f.datum word) u → length u ≡ m → k < length u → a ≡ get_or u k 0 → ¬ (a ≡ 0)
      → r ≡ number_at m k → IsNumber f.datum s → root_of f.datum s ≡ moved f.datum.base word (root_of f.datum r) → JoinedInGroup f (map N word ++ X r a ∷ []) (X s b ∷ map N word)
      → t ≡ s → c < order f.field.given → JoinedInGroup f (H h ∷ X s b ∷ []) (X t c ∷ H h ∷ [])
      → AreMoved f (H h ∷ map N word) (take k u) v → AreMoved f (H h ∷ map N word) (take (k + 1) u) (v ++ (t, c) ∷ [])
  moved_letter h word u k a r s t b c v zeros count inside e nonzero place number image first same below second known =
      let low : k < m = omega (arith, inside, count) in
      let at = place ∙ at_place k low in
      let own = subst (IsNumber f.datum) (sym same) number in
      let root = ap (root_of f.datum) same ∙ subst (λ q. root_of f.datum s ≡ moved f.datum.base word (root_of f.datum q)) at image in
      let passes = passes_through f (H h ∷ []) (map N word) (X (pos (k + 1)) a ∷ []) (X s b ∷ []) (X t c ∷ [])
      (subst (λ q. JoinedInGroup f (map N word ++ X q a ∷ []) (X s b ∷ map N word)) at first) second in
      moved_more (H h ∷ map N word) u k a t c v inside e nonzero own (stays_positive word u k t zeros low (λ q. nonzero (e ∙ q)) own root) (fits_below c below) passes known

-- what is read within a list, whatever stands for a place behind its end
pub read_within : {A : Type 0} (u : List A) (k : ℕ) (d e : A) → k < length u → get_or u k d ≡ get_or u k e
read_within [] k d e h = absurd (omega (arith, h))
read_within (a ∷ u) zero d e h = refl
read_within (a ∷ u) (suc k) d e h = read_within u k d e (omega (arith, h))
