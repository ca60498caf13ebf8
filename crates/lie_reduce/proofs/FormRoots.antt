-- How root vectors move levels, by the sign of the root, and which roots the letters of a form have.
use Rattle.std.proofs.Common.{◌≡◌, ◌≢◌, ℕ, zero, suc, ◌+◌, ◌<◌, true, false, List, [], ◌∷◌, length, get_or, refl, sym, ap, ◌∙◌, subst, arith}
use Rattle.std.specs.Prelude.{ℤ, pos, neg_ℤ, ◌+ℤ◌, ◌*ℤ◌, ◌≤ℤ◌, not}
use Rattle.std.proofs.lemmas.Int.{ints}
use Rattle.std.proofs.lemmas.List.{get_or-map}
use Rattle.std.proofs.lemmas.Option.{unwrap_or-slice_get}
use Rattle.lie_ring.specs.RingLemmas.{add_mul}
use Rattle.lie_ring.specs.Integers.{integers}
use Rattle.lie_ring.specs.IntegerLaws.{integers_ring}
use Rattle.lie_ring.specs.Matrices.{entry}
use Rattle.lie_field.specs.FieldRing.{field_ring}
use Rattle.lie_datum.specs.Vectors.{Vector, pairing, times, total}
use Rattle.lie_datum.specs.declared.root_pair.Root.{Root}
use Rattle.lie_datum.specs.RootDatum.{Base, vector, covector, IsPositive}
use Rattle.lie_datum.specs.RootList.{RootDatum, root_of, IsNumber, IsLoaded, height}
use Rattle.lie_datum.specs.Laws.{covectors, positive_coroots}
use Rattle.lie_datum.proofs.Linear.{plus-pairing, pairing-plus, pairing-times}
use Rattle.lie_datum.proofs.LoadedLaws.{third}
use Rattle.lie_datum.proofs.NumberLemmas.{some_within}
use Rattle.lie_datum.proofs.SignedRoots.{root_is}
use Rattle.lie_datum.proofs.HeightLemmas.{height_positive, number_is_positive}
use Rattle.lie_weyl.specs.WeylElement.{moved, is_negative, Spells}
use Rattle.lie_weyl.proofs.Signs.{positive_test}
use Rattle.lie_weyl.proofs.HeightSigns.{height_negative}
use Rattle.lie_const.specs.Modules.{Module, dimension, divided_power}
use Rattle.lie_letters.specs.SignedFrames.{SignedFrame}
use Rattle.lie_unip.specs.Collection.{AreEntries}
use Rattle.lie_unip.specs.Splitting.{kept_by}
use Rattle.lie_unip.specs.Forms.{FormData, IsForm}
use Rattle.lie_identities.specs.Audit.{IsGraded}
use Rattle.lie_audit.specs.WeylWeights.{weight_at}
use Rattle.lie_audit.proofs.GradedWeights.{raised}
use Rattle.lie_reduce.specs.Levels.{level}
use Rattle.lie_reduce.proofs.RootWords.{AreRootLetters}
use Rattle.lie_reduce.proofs.FormParts.{letters_from, list-letters}

-- the root of this number is positive, or is not
abbrev pub IsUp : RootDatum → ℤ → Type 0
IsUp d k = IsPositive (root_of d k)

abbrev pub IsDown : RootDatum → ℤ → Type 0
IsDown d k = ¬ IsPositive (root_of d k)

-- it is positive, and the word makes it negative
abbrev pub IsTurnedDown : RootDatum → List ℕ → ℤ → Type 0
IsTurnedDown d p k = IsPositive (root_of d k) × ¬ IsPositive (moved d.base p (root_of d k))

-- the pairing with a sum of covectors
pairing-sum : (b : Base) (x : Vector) (rs : List Root) → pairing x (covectors b rs) ≡ total (λ s. pairing x (covector b s)) rs
pairing-sum b [] [] = refl
pairing-sum b (a ∷ x) [] = refl
pairing-sum b x (r ∷ rs) = plus-pairing x (covector b r) (covectors b rs) ∙ ap (λ t. pairing x (covector b r) +ℤ t) (pairing-sum b x rs)

-- (k + 1) g = k g + g
next_multiple : (k : ℕ) (g : ℤ) → pos (suc k) *ℤ g ≡ (pos k *ℤ g) +ℤ g
next_multiple k g =
    let next : pos (suc k) ≡ pos k +ℤ pos 1 = omega (arith, ints) in
    let one : pos 1 *ℤ g ≡ g = omega (arith, ints) in
    ap (λ x. x *ℤ g) next ∙ add_mul integers integers_ring.laws (pos k) (pos 1) g refl refl refl ∙ ap (λ x. (pos k *ℤ g) +ℤ x) one

-- multiples of what is 1 at least, or -1 at most
multiple_up : (k : ℕ) (g : ℤ) → pos 1 ≤ℤ g → pos 0 ≤ℤ (pos k *ℤ g)
multiple_up zero g p = omega (arith, ints)
multiple_up (suc k) g p = let before = multiple_up k g p in let next = next_multiple k g in omega (arith, ints, before, next, p)

multiple_down : (k : ℕ) (g : ℤ) → (g +ℤ pos 1) ≤ℤ pos 0 → (pos k *ℤ g) ≤ℤ pos 0
multiple_down zero g p = omega (arith, ints)
multiple_down (suc k) g p = let before = multiple_down k g p in let next = next_multiple k g in omega (arith, ints, before, next, p)

module _ (d : RootDatum) (loaded : IsLoaded d) where
  -- a root pairs with the sum of the positive coroots to twice its height
  gap_is : (k : ℤ) → IsNumber d k → pairing (vector d.base (root_of d k)) (positive_coroots d) ≡ pos 2 *ℤ height (root_of d k)
  gap_is k number = pairing-sum d.base (vector d.base (root_of d k)) d.positive ∙ third d loaded (root_of d k) (root_is d loaded k number)

  module _ (v : Module) (graded : IsGraded d v) where
    -- the level of the row and that of the column
    levels_apart : (k : ℤ) → IsNumber d k → (m a b : ℕ) → a < dimension v → b < dimension v → entry (pos 0) (divided_power v k (suc m)) a b ≢ pos 0
        → level d v a ≡ level d v b +ℤ (pos (suc m) *ℤ pairing (vector d.base (root_of d k)) (positive_coroots d))
    levels_apart k number m a b p q some =
        let r = vector d.base (root_of d k) in
        ap (λ w. pairing w (positive_coroots d)) (raised d v graded k number (suc m) a b (omega arith) p q some)
        ∙ pairing-plus (weight_at v b) (times (pos (suc m)) r) (positive_coroots d)
        ∙ ap (λ s. pairing (weight_at v b) (positive_coroots d) +ℤ s) (pairing-times (pos (suc m)) r (positive_coroots d))

    -- positive roots raise levels
    pub rises : (k : ℤ) → IsNumber d k → IsUp d k → (m a b : ℕ) → a < dimension v → b < dimension v → entry (pos 0) (divided_power v k (suc m)) a b ≢ pos 0 → (level d v b +ℤ pos 1) ≤ℤ level d v a
    rises k number up m a b p q some =
        let g = pairing (vector d.base (root_of d k)) (positive_coroots d) in
        let high = height_positive d loaded (root_of d k) (root_is d loaded k number) up in
        let twice = gap_is k number in
        let far = levels_apart k number m a b p q some in
        let next = next_multiple m g in
        let more = multiple_up m g (omega (arith, ints, high, twice)) in
        omega (arith, ints, high, twice, far, next, more)

    -- negative roots lower them
    pub falls : (k : ℤ) → IsNumber d k → IsDown d k → (m a b : ℕ) → a < dimension v → b < dimension v → entry (pos 0) (divided_power v k (suc m)) a b ≢ pos 0 → (neg_ℤ (level d v b) +ℤ pos 1) ≤ℤ neg_ℤ (level d v a)
    falls k number down m a b p q some =
        let g = pairing (vector d.base (root_of d k)) (positive_coroots d) in
        let low = height_negative d loaded (root_of d k) (root_is d loaded k number) down in
        let twice = gap_is k number in
        let far = levels_apart k number m a b p q some in
        let next = next_multiple m g in
        let less = multiple_down m g (omega (arith, ints, low, twice)) in
        omega (arith, ints, low, twice, far, next, less)

module _ (f : SignedFrame) (loaded : IsLoaded f.datum) where
  abbrev d : RootDatum
  d = f.datum

  number : (k : ℕ) → k < length d.positive → IsNumber d (pos (suc k))
  number k l = some_within d.positive k l

  shift : (P : ℤ → Type 0) (k : ℕ) → P (pos (suc k)) → P (pos (1 + k))
  shift P k x = subst (λ n. P (pos n)) (let e : suc k ≡ 1 + k = omega arith in e) x

  -- the letters of a list of elements
  pub list-up : (us : List ℕ) → AreEntries (field_ring f.field) (length d.positive) us → AreRootLetters f.field d (IsUp d) (letters_from 1 us)
  list-up us e = list-letters f.field d (IsUp d) 1 us (λ k l some.
      (let low : k < length d.positive = (let c = e.count in omega (arith, l, c)) in (
        shift (IsNumber d) k (number k low),
        shift (IsUp d) k (number_is_positive d loaded (pos (suc k)) (number k low) (omega (arith, ints))),
        (e.fit k 0 l).0,
      )))

  -- those of the second list of a form: the word makes their roots negative
  pub list-turned : (x : FormData) → IsForm f x → (p : List ℕ) → Spells d p x.weyl → AreRootLetters f.field d (IsTurnedDown d p) (letters_from 1 x.second)
  list-turned x is p spells = list-letters f.field d (IsTurnedDown d p) 1 x.second (λ k l some.
      (let low : k < length d.positive = (let c = is.second.count in omega (arith, l, c)) in (
        shift (IsNumber d) k (number k low),
        shift (IsTurnedDown d p) k (number_is_positive d loaded (pos (suc k)) (number k low) (omega (arith, ints)), λ positive. absurd (some (is.zeros p spells k (kept k low positive)))),
        (is.second.fit k 0 l).0,
      )))
    where
      kept : (k : ℕ) → k < length d.positive → IsPositive (moved d.base p (root_of d (pos (suc k)))) → get_or (kept_by d p) k false ≡ true
      kept k low positive =
          let nothing : Root = record { coeffs = []; co_coeffs = [] } in
          get_or-map (λ r. not (is_negative (moved d.base p r))) d.positive k nothing false low
          ∙ ap (λ r. not (is_negative (moved d.base p r))) (sym (unwrap_or-slice_get d.positive k nothing))
          ∙ ap not (positive_test (moved d.base p (root_of d (pos (suc k)))) positive)
