-- The signs of a lawful frame, read in the field, and the product of the signs along a word.
use Rattle.std.proofs.Common.{◌≡◌, ℕ, suc, ℤ, pos, negsuc, neg_ℤ, ◌*ℤ◌, List, [], ◌∷◌, ◌++◌, map, is_some, refl, sym, ap, ◌∙◌, arith, ⊎_elim}
use Rattle.std.specs.Option.{unwrap_or}
use Rattle.std.proofs.lemmas.Int.{ints, by_lt_z}
use Rattle.std.proofs.lemmas.List.{map-append}
use Rattle.lie_base.specs.Below.{same_below}
use Rattle.lie_base.proofs.RingSolver.{ring, var, num, ◌⊗◌}
use Rattle.lie_field.specs.FiniteField.{FiniteField}
use Rattle.lie_field.specs.Quotient.{order}
use Rattle.lie_field.specs.FieldRing.{field_is_ring}
use Rattle.lie_field.specs.Elements.{one_elem, elem_mul, elem_int}
use Rattle.lie_datum.specs.RootDatum.{opposite, reflected}
use Rattle.lie_datum.specs.RootList.{RootDatum, IsLoaded, root_of}
use Rattle.lie_datum.proofs.NumberLemmas.{place_within}
use Rattle.lie_datum.proofs.SignedRoots.{same_number, opposite_number}
use Rattle.lie_datum.proofs.SimplesFirst.{simples_first_holds}
use Rattle.lie_const.specs.Signs.{Signs, IsGoodSign, eta_of, image}
use Rattle.lie_letters.specs.Braids.{carried_sign as walked}
use Rattle.lie_const.proofs.FoundRoots.{number_of_is}
use Rattle.lie_letters.specs.Names.{RootName, Index, simple_name, opposite_name, reflect_name, signed_number}
use Rattle.lie_letters.specs.Frames.{setting}
use Rattle.lie_letters.specs.SignedFrames.{SignedFrame, unsigned, sign_at, IsLawfulSigned}
use Rattle.lie_letters.proofs.NameLemmas.{named_is, index_is, simple_at, opposite_at, reflect_at}
use Rattle.lie_bruhat.specs.WeylWords.{carried, carried_sign}
use Rattle.lie_bruhat.specs.SignLaws.{SignLaws}
use Rattle.lie_bruhat.proofs.InTurn.{backwards}

-- a product of integers in the field
elem_int-mul : (f : FiniteField) (m n : ℤ) → elem_mul f (elem_int f m) (elem_int f n) ≡ elem_int f (m *ℤ n)
unfolding elem_mul elem_int
elem_int-mul f m n = same_below (order f.given) _ _ (sym ((field_is_ring f).integers.int_mul m n))

-- the integer 1 in the field
pub elem_int-one : (f : FiniteField) → elem_int f (pos 1) ≡ one_elem f
unfolding elem_int one_elem
elem_int-one f = same_below (order f.given) _ _ (field_is_ring f).integers.int_one

module _ (d : RootDatum) (loaded : IsLoaded d) where
  -- the number of the opposite root
  number_opposite : (r : RootName d) → signed_number d (opposite_name d r) ≡ neg_ℤ (signed_number d r)
  number_opposite r =
      let n = named_is d r in
      let o = named_is d (opposite_name d r) in
      let q = opposite_number d (signed_number d r) n.number in
      same_number d loaded (signed_number d (opposite_name d r)) (neg_ℤ (signed_number d r)) o.number q.0
      (o.root ∙ opposite_at d loaded r ∙ ap opposite (sym n.root) ∙ sym q.1)

  -- the number of the reflected root
  pub number_reflect : (i : Index d) (r : RootName d) → image d (suc i.number) (signed_number d r) ≡ signed_number d (reflect_name d i r)
  number_reflect i r =
      let n = named_is d r in
      let o = named_is d (reflect_name d i r) in
      number_of_is d loaded (signed_number d (reflect_name d i r)) (reflected d.base (suc i.number) (root_of d (signed_number d r))).coeffs o.number
      (ap (λ s. s.coeffs) (o.root ∙ reflect_at d loaded i r ∙ ap (reflected d.base (suc i.number)) (sym n.root)))

  -- the number of a simple root
  pub number_simple : (i : Index d) → signed_number d (simple_name d i) ≡ pos (suc i.number)
  number_simple i =
      let o = named_is d (simple_name d i) in
      let law = simples_first_holds d loaded (suc i.number) (index_is d i) in
      same_number d loaded (signed_number d (simple_name d i)) (pos (suc i.number)) o.number (ap is_some law)
      (o.root ∙ simple_at d i ∙ sym (ap (λ o. unwrap_or o (record { coeffs = []; co_coeffs = [] })) law))

  -- where the reflections along a word send a number, the first letter first
  abbrev pub ended : List ℕ → ℤ → ℤ
  ended [] s = s
  ended (i ∷ w) s = ended w (image d i s)

  ended-append : (u v : List ℕ) (s : ℤ) → ended (u ++ v) s ≡ ended v (ended u s)
  ended-append [] v s = refl
  ended-append (i ∷ u) v s = ended-append u v (image d i s)

  walked-append : (eta : Signs) (u v : List ℕ) (s : ℤ) → walked d eta (u ++ v) s ≡ walked d eta u s *ℤ walked d eta v (ended u s)
  walked-append eta [] v s = ring (walked d eta v s ∷ []) (var 0) (num (pos 1) ⊗ var 0) refl
  walked-append eta (i ∷ u) v s =
      let t = image d i s in
      ap (λ x. eta i s *ℤ x) (walked-append eta u v t)
      ∙ ring (eta i s ∷ (walked d eta u t ∷ (walked d eta v (ended u t) ∷ []))) (var 0 ⊗ (var 1 ⊗ var 2)) (var 0 ⊗ var 1 ⊗ var 2) refl

  -- the numbers of simple indices, counted from 1
  abbrev pub numbers_of : List (Index d) → List ℕ
  numbers_of p = map (λ i. suc i.number) p

module _ (f : SignedFrame) (lawful : IsLawfulSigned f) where
  abbrev d : RootDatum
  d = f.datum

  abbrev loaded : IsLoaded d
  loaded = lawful.lawful.loaded

  abbrev eta : Signs
  eta = eta_of f.signs

  good : (i : Index d) (r : RootName d) → IsGoodSign eta (suc i.number) (signed_number d r)
  good i r = lawful.signs.signs.good (suc i.number) (signed_number d r) (index_is d i) (named_is d r).number

  eta_opposite : (i : Index d) (r : RootName d) → eta (suc i.number) (signed_number d (opposite_name d r)) ≡ eta (suc i.number) (signed_number d r)
  eta_opposite i r =
      let k = signed_number d r in
      let o = signed_number d (opposite_name d r) in
      let turned = number_opposite d loaded r in
      let back : neg_ℤ o ≡ k = omega (arith, ints, turned) in
      let some = (place_within d k (named_is d r).number).0 in
      by_lt_z (pos 0) k
      (λ l. (good i (opposite_name d r)).opposite (omega (arith, ints, l, turned)) ∙ ap (eta (suc i.number)) back)
      (λ l. ap (eta (suc i.number)) turned ∙ sym ((good i r).opposite (omega (arith, ints, l, some))))

  -- the laws of the signs
  pub sign_laws : SignLaws (setting (unsigned f)) (sign_at f)
  unfolding sign_at
  sign_laws = record {
    opposite = λ i r. ap (elem_int f.field) (eta_opposite i r);
    squared = λ i r.
        let s = eta (suc i.number) (signed_number d r) in
        elem_int-mul f.field s s
        ∙ ⊎_elim (λ (e : s ≡ pos 1). ap (λ z. elem_int f.field (z *ℤ z)) e) (λ (e : s ≡ negsuc 0). ap (λ z. elem_int f.field (z *ℤ z)) e) (good i r).unit
        ∙ elem_int-one f.field;
  }

  -- along a word backwards, a number goes the way of its root
  ended_back : (p : List (Index d)) (r : RootName d) → ended d loaded (numbers_of d loaded (backwards p)) (signed_number d r) ≡ signed_number d (carried (setting (unsigned f)) p r)
  ended_back [] r = refl
  ended_back (i ∷ p) r =
      ap (λ w. ended d loaded w (signed_number d r)) (map-append (λ (j : Index d). suc j.number) (backwards p) (i ∷ []))
      ∙ ended-append d loaded (numbers_of d loaded (backwards p)) (suc i.number ∷ []) (signed_number d r)
      ∙ ap (image d (suc i.number)) (ended_back p r) ∙ number_reflect d loaded i (carried (setting (unsigned f)) p r)

  -- the product of the signs on the way of a root, as that along the numbers
  pub walk : (p : List (Index d)) (r : RootName d)
      → carried_sign (setting (unsigned f)) (sign_at f) p r ≡ elem_int f.field (walked d eta (numbers_of d loaded (backwards p)) (signed_number d r))
  unfolding sign_at
  walk [] r = sym (elem_int-one f.field)
  walk (i ∷ p) r =
      let s = carried (setting (unsigned f)) p r in
      let u = numbers_of d loaded (backwards p) in
      let k = signed_number d r in
      let x = eta (suc i.number) (signed_number d s) in
      ap (elem_mul f.field (elem_int f.field x)) (walk p r)
      ∙ elem_int-mul f.field x (walked d eta u k)
      ∙ ap (elem_int f.field)
      (ring (x ∷ (walked d eta u k ∷ [])) (var 0 ⊗ var 1) (var 1 ⊗ (var 0 ⊗ num (pos 1))) refl
      ∙ ap (λ z. walked d eta u k *ℤ (eta (suc i.number) z *ℤ pos 1)) (sym (ended_back p r))
      ∙ sym (walked-append d loaded eta u (suc i.number ∷ []) k)
      ∙ ap (λ w. walked d eta w k) (sym (map-append (λ (j : Index d). suc j.number) (backwards p) (i ∷ []))))
