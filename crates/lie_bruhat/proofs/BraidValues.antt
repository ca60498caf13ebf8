-- The braid values of a lawful frame, as products of signs along two indices in turn.
use Rattle.std.proofs.Common.{◌≡◌, ℕ, zero, suc, ◌-◌, ◌<◌, ◌≤◌, pos, ◌*ℤ◌, List, [], ◌∷◌, ◌++◌, refl, sym, ap, ap₂, ◌∙◌, arith, ◌⊎◌, inl, inr, ⊎_elim}
use Rattle.std.proofs.Math.IntN.{*ℤ_comm}
use Rattle.std.proofs.lemmas.Bool.{cases_eq}
use Rattle.lie_field.specs.Elements.{one_elem, elem_int}
use Rattle.lie_datum.specs.RootDatum.{cartan}
use Rattle.lie_datum.specs.RootList.{RootDatum, IsLoaded}
use Rattle.lie_weyl.specs.Orders.{IsOrder, order_for}
use Rattle.lie_weyl.proofs.OrderLemmas.{order_of_product}
use Rattle.lie_const.specs.Signs.{eta_of}
use Rattle.lie_letters.specs.Braids.{carried_sign as walked, alternating as numbers_in_turn}
use Rattle.lie_letters.specs.Names.{Index, simple_name}
use Rattle.lie_letters.specs.Frames.{setting}
use Rattle.lie_letters.specs.SignedFrames.{SignedFrame, unsigned, sign_at, IsLawfulSigned}
use Rattle.lie_letters.proofs.NameLemmas.{index_is, same_index}
use Rattle.lie_bruhat.specs.WeylWords.{carried_sign}
use Rattle.lie_bruhat.proofs.InTurn.{alternating, last_in_turn, backwards}
use Rattle.lie_bruhat.proofs.BraidLemmas.{alternating-last}
use Rattle.lie_bruhat.proofs.FrameSigns.{numbers_of, number_simple, walk, elem_int-one}

module _ {I : Type 0} where
  backwards-last : (p : List I) (i : I) → backwards (p ++ (i ∷ [])) ≡ i ∷ backwards p
  backwards-last [] i = refl
  backwards-last (k ∷ p) i = ap (λ q. q ++ (k ∷ [])) (backwards-last p i)

  -- two indices in turn, backwards
  backwards-alternating : (k : ℕ) (i j : I) → backwards (alternating (suc k) i j) ≡ alternating (suc k) (last_in_turn k i j) (last_in_turn k j i)
  backwards-alternating zero i j = refl
  backwards-alternating (suc k) i j =
      ap backwards (alternating-last (suc k) i j) ∙ backwards-last (alternating (suc k) i j) (last_in_turn (suc k) i j)
      ∙ ap (λ p. last_in_turn (suc k) i j ∷ p) (backwards-alternating k i j)

  -- the last two are the two indices, in one order or the other
  pub ends : (k : ℕ) (i j : I) → ((last_in_turn k i j ≡ i) × (last_in_turn k j i ≡ j)) ⊎ ((last_in_turn k i j ≡ j) × (last_in_turn k j i ≡ i))
  ends zero i j = inl (refl, refl)
  ends (suc k) i j = elim (ends k i j) [ inl e ↦ inr (e.1, e.0) | inr e ↦ inl (e.1, e.0) ]

-- indices in turn, by their numbers
numbers-alternating : (d : RootDatum) (loaded : IsLoaded d) (m : ℕ) (i j : Index d) → numbers_of d loaded (alternating m i j) ≡ numbers_in_turn (suc i.number) (suc j.number) m
numbers-alternating d loaded zero i j = refl
numbers-alternating d loaded (suc m) i j = ap (λ w. suc i.number ∷ w) (numbers-alternating d loaded m j i)

-- a word has one order
one_order : (d : RootDatum) (w : List ℕ) (m n : ℕ) → IsOrder d w m → IsOrder d w n → m ≡ n
one_order d w m n a b =
    let x = a.some in
    let y = b.some in
    by (cases_eq m n) (λ (l : m < n). b.least m x l a.one) (λ (l : n < m). a.least n y l b.one)
  where
    by : (m ≡ n) ⊎ (¬ (m ≡ n)) → ¬ (m < n) → ¬ (n < m) → m ≡ n
    by (inl e) p q = e
    by (inr h) p q = absurd (let side : (m < n) ⊎ (n ≤ m) = grind arith in ⊎_elim p (λ l. q (omega (arith, h, l))) side)

module _ (f : SignedFrame) (lawful : IsLawfulSigned f) where
  abbrev d : RootDatum
  d = f.datum

  abbrev loaded : IsLoaded d
  loaded = lawful.lawful.loaded

  -- the order of s_i s_j
  abbrev pub turn_order : Index d → Index d → ℕ
  turn_order i j = order_for (cartan d.base (suc i.number) (suc j.number) *ℤ cartan d.base (suc j.number) (suc i.number))

  turn_order-flip : (i j : Index d) → turn_order i j ≡ turn_order j i
  turn_order-flip i j = ap order_for (*ℤ_comm (cartan d.base (suc i.number) (suc j.number)) (cartan d.base (suc j.number) (suc i.number)))

  -- the braid value of a < b, along b a b ..
  value : (k : ℕ) (a b : Index d) → a.number < b.number → suc (suc k) ≡ turn_order a b
      → walked d (eta_of f.signs) (numbers_in_turn (suc b.number) (suc a.number) (suc k)) (pos (suc a.number)) ≡ pos 1
  value k a b l e =
      let v = lawful.signs.braids (suc a.number) (suc b.number) (index_is d a) (index_is d b) (omega (arith, l)) in
      let apart = λ (h : suc a.number ≡ suc b.number). (let n : a.number ≡ b.number = omega (arith, h) in absurd (omega (arith, l, n))) in
      let same : v.order ≡ suc (suc k) =
      one_order d (suc a.number ∷ suc b.number ∷ []) v.order (turn_order a b) v.is_order (order_of_product d loaded (suc a.number) (suc b.number) (index_is d a) (index_is d b) apart) ∙ sym e in
      let fewer : v.order - 1 ≡ suc k = omega (arith, same) in
      sym (v.value ∙ ap (λ n. walked d (eta_of f.signs) (numbers_in_turn (suc b.number) (suc a.number) n) (pos (suc a.number))) fewer)

  -- the product of signs along i j .., where the root that it begins at has the lesser number
  low_value : (k : ℕ) (i j : Index d) → (last_in_turn k j i).number < (last_in_turn k i j).number → suc (suc k) ≡ turn_order (last_in_turn k j i) (last_in_turn k i j)
      → carried_sign (setting (unsigned f)) (sign_at f) (alternating (suc k) i j) (simple_name d (last_in_turn (suc k) i j)) ≡ one_elem f.field
  low_value k i j l e =
      let a = last_in_turn k j i in
      let b = last_in_turn k i j in
      walk f lawful (alternating (suc k) i j) (simple_name d a)
      ∙ ap₂ (λ w s. elem_int f.field (walked d (eta_of f.signs) w s))
      (ap (numbers_of d loaded) (backwards-alternating k i j) ∙ numbers-alternating d loaded (suc k) b a) (number_simple d loaded a)
      ∙ ap (elem_int f.field) (value k a b l e) ∙ elem_int-one f.field

  -- one of the two products of signs along i and j in turn is 1
  pub one_value : (k : ℕ) (i j : Index d) → ¬ (i ≡ j) → suc (suc k) ≡ turn_order i j
      → (carried_sign (setting (unsigned f)) (sign_at f) (alternating (suc k) i j) (simple_name d (last_in_turn (suc k) i j)) ≡ one_elem f.field)
      ⊎ (carried_sign (setting (unsigned f)) (sign_at f) (alternating (suc k) j i) (simple_name d (last_in_turn (suc k) j i)) ≡ one_elem f.field)
  one_value k i j apart e =
      let a = last_in_turn k j i in
      let b = last_in_turn k i j in
      let n : ¬ (a.number ≡ b.number) = λ h.
      (let s = same_index d a b h in elim (ends k i j) [ inl p ↦ apart (sym p.0 ∙ sym s ∙ p.1) | inr p ↦ apart (sym p.1 ∙ s ∙ p.0) ]) in
      let forth : suc (suc k) ≡ turn_order a b =
      elim (ends k i j) [ inl p ↦ e ∙ turn_order-flip i j ∙ ap₂ turn_order (sym p.1) (sym p.0) | inr p ↦ e ∙ ap₂ turn_order (sym p.1) (sym p.0) ] in
      let side : (a.number < b.number) ⊎ (b.number ≤ a.number) = grind arith in
      ⊎_elim (λ l. inl (low_value k i j l forth)) (λ l. inr (low_value k j i (omega (arith, n, l)) (forth ∙ turn_order-flip a b))) side
