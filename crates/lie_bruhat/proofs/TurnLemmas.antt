-- Two simple roots of a loaded datum have order two, three, four or six in turn.
use Rattle.std.proofs.Common.{◌≡◌, ◌≢◌, ℕ, zero, suc, ◌+◌, ◌*◌, ◌≤◌, refl, sym, ap, ap₂, ◌∙◌, subst, arith, ⊎_elim, [], ◌∷◌}
use Rattle.std.proofs.lemmas.Int.{ints}
use Rattle.std.specs.Prelude.{ℤ, pos, neg_ℤ, ◌*ℤ◌, ◌≤ℤ◌, unsigned_abs}
use Rattle.std.proofs.Math.IntN.{pos-*ℤ-pos}
use Rattle.lie_datum.specs.RootDatum.{cartan, simple, opposite, root_pairing}
use Rattle.lie_datum.specs.RootList.{RootDatum, IsLoaded}
use Rattle.lie_base.proofs.RingSolver.{ring, var, neg, ◌⊗◌}
use Rattle.lie_datum.proofs.Roots.{simple_vector, simple_covector}
use Rattle.lie_datum.proofs.LoadedLaws.{short, second_product}
use Rattle.lie_letters.specs.Names.{Index, root_at, simple_name, opposite_name, is_negative_name}
use Rattle.lie_letters.specs.RootSystems.{pairing_at, root_system}
use Rattle.lie_letters.proofs.NameLemmas.{simple_at, index_is, at_root, same_name, same_index, opposite_at}
use Rattle.lie_datum.specs.Vectors.{entry}
use Rattle.lie_datum.proofs.Entries.{entry-unit}
use Rattle.std.proofs.lemmas.Bool.{cases_eq, true≢false}
use Rattle.lie_letters.proofs.RootSystemLemmas.{root_laws, in_eight, entry-other}
use Rattle.lie_weyl.specs.Orders.{order_for}
use Rattle.lie_letters.proofs.PositiveRootLemmas.{positive_laws}
use Rattle.lie_bruhat.proofs.RankTwoLemmas.{IsTurn, turn_from}

minus_of : (z : ℤ) → z ≤ℤ pos 0 → z ≡ neg_ℤ (pos (unsigned_abs z))
minus_of z h = omega (arith, ints, h)

module _ (d : RootDatum) (loaded : IsLoaded d) where
  pairing_is : (i j : Index d) → pairing_at d (simple_name d i) (simple_name d j) ≡ cartan d.base (suc i.number) (suc j.number)
  pairing_is i j =
      let b = d.base in
      ap₂ (root_pairing b) (simple_at d i) (simple_at d j)
      ∙ simple_covector b (short d loaded) loaded.axioms.input.corank (suc j.number) _ (index_is d j)
      ∙ simple_vector b (short d loaded) loaded.axioms.input.corank (suc i.number) _ (index_is d i)

  -- different simple roots have different numbers
  index_number : (i j : Index d) → simple (suc i.number) ≡ simple (suc j.number) → i.number ≡ j.number
  index_number i j e =
      ⊎_elim (λ (s : i.number ≡ j.number). s)
      (λ (h : ¬ (i.number ≡ j.number)).
      (let one = entry-unit 8 i.number (in_eight d loaded i) in
      let none = entry-other 8 j.number i.number h in
      let same = ap (λ s. entry s.coeffs i.number) e in
      absurd (omega (arith, ints, one, none, same))))
      (cases_eq i.number j.number)

  -- both words of k + 2 letters in turn have one product, and k + 2 is the order that the Cartan integers c_ij c_ji tell
  pub record Turns (i j : Index d) (product : ℤ) : Type 0 where
    pub fewer : ℕ
    pub first : IsTurn (root_system d) (root_laws d loaded) (suc fewer) i j
    pub second : IsTurn (root_system d) (root_laws d loaded) (suc fewer) j i
    pub order : suc (suc fewer) ≡ order_for product

  module _ (i j : Index d) (apart : ¬ (i ≡ j)) where
    apart' : ¬ (j ≡ i)
    apart' e = apart (sym e)

    by_numbers : (c e : ℕ) → (c ≡ 0 → e ≡ 0) → (e ≡ 0 → c ≡ 0) → c * e ≤ 3
        → pairing_at d (simple_name d j) (simple_name d i) ≡ neg_ℤ (pos c) → pairing_at d (simple_name d i) (simple_name d j) ≡ neg_ℤ (pos e) → Turns i j (neg_ℤ (pos e) *ℤ neg_ℤ (pos c))
    by_numbers zero zero z w h p q =
        record { fewer = 0; first = turn_from (root_system d) (root_laws d loaded) 1 0 0 i j apart p q ((tt, tt), tt) (tt, tt) refl; second = turn_from (root_system d) (root_laws d loaded) 1 0 0 j i apart' q p ((tt, tt), tt) (tt, tt) refl; order = refl }
    by_numbers zero (suc e) z w h p q = absurd (let n = z refl in omega (arith, n))
    by_numbers (suc c) zero z w h p q = absurd (let n = w refl in omega (arith, n))
    by_numbers (suc zero) (suc zero) z w h p q =
        record { fewer = 1; first = turn_from (root_system d) (root_laws d loaded) 2 1 1 i j apart p q ((tt, (tt, tt)), ((tt, tt), tt)) (tt, (tt, tt)) refl; second = turn_from (root_system d) (root_laws d loaded) 2 1 1 j i apart' q p ((tt, (tt, tt)), ((tt, tt), tt)) (tt, (tt, tt)) refl; order = refl }
    by_numbers (suc zero) (suc (suc zero)) z w h p q =
        record { fewer = 2; first = turn_from (root_system d) (root_laws d loaded) 3 1 2 i j apart p q ((tt, (tt, (tt, tt))), ((tt, (tt, tt)), ((tt, tt), tt))) (tt, (tt, (tt, tt))) refl; second = turn_from (root_system d) (root_laws d loaded) 3 2 1 j i apart' q p ((tt, (tt, (tt, tt))), ((tt, (tt, tt)), ((tt, tt), tt))) (tt, (tt, (tt, tt))) refl; order = refl }
    by_numbers (suc (suc zero)) (suc zero) z w h p q =
        record { fewer = 2; first = turn_from (root_system d) (root_laws d loaded) 3 2 1 i j apart p q ((tt, (tt, (tt, tt))), ((tt, (tt, tt)), ((tt, tt), tt))) (tt, (tt, (tt, tt))) refl; second = turn_from (root_system d) (root_laws d loaded) 3 1 2 j i apart' q p ((tt, (tt, (tt, tt))), ((tt, (tt, tt)), ((tt, tt), tt))) (tt, (tt, (tt, tt))) refl; order = refl }
    by_numbers (suc zero) (suc (suc (suc zero))) z w h p q =
        record { fewer = 4; first = turn_from (root_system d) (root_laws d loaded) 5 1 3 i j apart p q ((tt, (tt, (tt, (tt, (tt, tt))))), ((tt, (tt, (tt, (tt, tt)))), ((tt, (tt, (tt, tt))), ((tt, (tt, tt)), ((tt, tt), tt))))) (tt, (tt, (tt, (tt, (tt, tt))))) refl; second = turn_from (root_system d) (root_laws d loaded) 5 3 1 j i apart' q p ((tt, (tt, (tt, (tt, (tt, tt))))), ((tt, (tt, (tt, (tt, tt)))), ((tt, (tt, (tt, tt))), ((tt, (tt, tt)), ((tt, tt), tt))))) (tt, (tt, (tt, (tt, (tt, tt))))) refl; order = refl }
    by_numbers (suc (suc (suc zero))) (suc zero) z w h p q =
        record { fewer = 4; first = turn_from (root_system d) (root_laws d loaded) 5 3 1 i j apart p q ((tt, (tt, (tt, (tt, (tt, tt))))), ((tt, (tt, (tt, (tt, tt)))), ((tt, (tt, (tt, tt))), ((tt, (tt, tt)), ((tt, tt), tt))))) (tt, (tt, (tt, (tt, (tt, tt))))) refl; second = turn_from (root_system d) (root_laws d loaded) 5 1 3 j i apart' q p ((tt, (tt, (tt, (tt, (tt, tt))))), ((tt, (tt, (tt, (tt, tt)))), ((tt, (tt, (tt, tt))), ((tt, (tt, tt)), ((tt, tt), tt))))) (tt, (tt, (tt, (tt, (tt, tt))))) refl; order = refl }
    by_numbers (suc zero) (suc (suc (suc (suc e)))) z w h p q = absurd (omega (arith, h))
    by_numbers (suc (suc c)) (suc (suc e)) z w h p q = absurd (let s : suc (suc c) * suc (suc e) ≡ 4 + (2 * c + (2 * e + c * e)) = grind arith in omega (arith, h, s))
    by_numbers (suc (suc (suc (suc c)))) (suc zero) z w h p q = absurd (omega (arith, h))

    pub turns : Turns i j (cartan d.base (suc i.number) (suc j.number) *ℤ cartan d.base (suc j.number) (suc i.number))
    turns =
        let b = d.base in
        let x = cartan b (suc j.number) (suc i.number) in
        let y = cartan b (suc i.number) (suc j.number) in
        let other : suc i.number ≢ suc j.number = λ e. apart (same_index d i j (omega (arith, e))) in
        let other' : suc j.number ≢ suc i.number = λ e. other (sym e) in
        let low_x : x ≤ℤ pos 0 = loaded.axioms.signs (suc j.number) (suc i.number) (index_is d j) (index_is d i) other' in
        let low_y : y ≤ℤ pos 0 = loaded.axioms.signs (suc i.number) (suc j.number) (index_is d i) (index_is d j) other in
        let pl = positive_laws d loaded in
        let differ : root_at d (simple_name d j) ≢ root_at d (simple_name d i) =
        λ e. apart' (same_index d j i (index_number j i (sym (simple_at d j) ∙ e ∙ simple_at d i))) in
        let no_opposite : root_at d (simple_name d j) ≢ opposite (root_at d (simple_name d i)) =
        λ e. (let s : simple_name d j ≡ opposite_name d (simple_name d i) = same_name d loaded (simple_name d j) (opposite_name d (simple_name d i)) (e ∙ sym (opposite_at d loaded (simple_name d i))) in
        true≢false (sym (pl.simple_opposite_negative i) ∙ ap (is_negative_name d) (sym s) ∙ pl.simple_positive j)) in
        let bound = second_product d loaded (root_at d (simple_name d j)) (root_at d (simple_name d i)) (at_root d loaded (simple_name d j)) (at_root d loaded (simple_name d i)) differ no_opposite in
        let product : (x *ℤ y) ≤ℤ pos 3 = subst (λ t. t ≤ℤ pos 3) (ap₂ ◌*ℤ◌ (pairing_is j i) (pairing_is i j)) bound in
        let c = unsigned_abs x in
        let e = unsigned_abs y in
        let product_is : x *ℤ y ≡ pos (c * e) =
        ap₂ ◌*ℤ◌ (minus_of x low_x) (minus_of y low_y) ∙ ring (pos c ∷ (pos e ∷ [])) (neg (var 0) ⊗ neg (var 1)) (var 0 ⊗ var 1) refl ∙ pos-*ℤ-pos c e in
        subst (Turns i j) (sym (ap₂ ◌*ℤ◌ (minus_of y low_y) (minus_of x low_x)))
        (by_numbers c e
        (λ z. (let n = loaded.axioms.zeros (suc j.number) (suc i.number) (index_is d j) (index_is d i) (minus_of x low_x ∙ ap (λ k. neg_ℤ (pos k)) z) in ap unsigned_abs n))
        (λ z. (let n = loaded.axioms.zeros (suc i.number) (suc j.number) (index_is d i) (index_is d j) (minus_of y low_y ∙ ap (λ k. neg_ℤ (pos k)) z) in ap unsigned_abs n))
        (omega (arith, ints, product, product_is))
        (pairing_is j i ∙ minus_of x low_x) (pairing_is i j ∙ minus_of y low_y))
