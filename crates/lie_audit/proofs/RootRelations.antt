-- The relations of root letters and of n_i with them, S0, S1, S2 and S7, at all elements of a field, on an audited module.
use Rattle.std.specs.List.{AllByRecursion}
use Rattle.std.proofs.Common.{◌≡◌, ◌≢◌, ℕ, ◌<◌, ◌≤◌, ℤ, pos, neg_ℤ, List, [], ◌∷◌, map, length, refl, sym, ap, ap₂, ◌∙◌, subst, arith}
use Rattle.std.proofs.lemmas.Bool.{ltb-true, lt-ltb}
use Rattle.lie_base.specs.Below.{is_below}
use Rattle.lie_ring.specs.Rings.{IsElem}
use Rattle.lie_ring.specs.Powers.{power as ring_power}
use Rattle.lie_ring.specs.Matrices.{Matrix, product}
use Rattle.lie_field.specs.FiniteField.{FiniteField}
use Rattle.lie_field.specs.FieldRing.{field_ring}
use Rattle.lie_field.specs.Quotient.{order, add, mul, neg, of_int, power_int}
use Rattle.lie_field.specs.Units.{IsUnit}
use Rattle.lie_field.specs.Elements.{Elem, zero_elem, elem_add, elem_mul, elem_neg, elem_int, zero_elem-number, elem_add-number, elem_mul-number, elem_neg-number, elem_int-number}
use Rattle.lie_field.proofs.UnitLemmas.{power_laws}
use Rattle.lie_datum.specs.Numbers.{place}
use Rattle.lie_datum.specs.RootDatum.{IsSimpleIndex}
use Rattle.lie_datum.specs.RootList.{RootDatum, IsNumber}
use Rattle.lie_const.specs.declared.term.Term.{Term as ConstantTerm}
use Rattle.lie_const.specs.CommutatorTerms.{IsPair}
use Rattle.lie_const.specs.ConstantTables.{ConstantTable, terms_of}
use Rattle.lie_const.specs.Modules.{Module, root_element}
use Rattle.lie_const.specs.Signs.{Signs, image}
use Rattle.lie_letters.specs.declared.letter.Letter.TheVariants.{X as CodeX, N as CodeN}
use Rattle.lie_letters.specs.Names.{RootName, signed_number, opposite_name}
use Rattle.lie_letters.specs.Frames.{FrameData, setting, terms_at, term_of, IsLawfulFrame}
use Rattle.lie_letters.specs.Letters.{Word, X}
use Rattle.lie_letters.specs.Relations.{term_letters, power}
use Rattle.lie_letters.specs.Spelled.{spelled}
use Rattle.lie_letters.proofs.NameLemmas.{named_is, signed_number-numbered}
use Rattle.lie_letters.proofs.TermLemmas.{IsTermAt, terms_at-roots}
use Rattle.lie_letters.proofs.CollectingLemmas.{power-number}
use Rattle.lie_identities.specs.declared.relations.Rel.TheVariants.{S1, S2, S7}
use Rattle.lie_identities.specs.Audit.{MeetsIdentities, IsMet}
use Rattle.lie_identities.proofs.SideImages.{term_product, right-S2}
use Rattle.lie_audit.specs.WordMatrix.{word_matrix}
use Rattle.lie_audit.proofs.ListedRelations.{listed-S1, listed-S2, listed-S7}
use Rattle.lie_audit.proofs.UnitValues.{values_at, identity-at}
use Rattle.lie_audit.proofs.ZeroValues.{value_at, letters_at, zero-letter, letter-same, weyl-letters, s1-everywhere, s2-everywhere, s7-everywhere}

module _ (f : FiniteField) (v : Module) where
  -- root elements with values, and their letters
  terms-letters : (g : ConstantTerm → ℕ) (cs : List ConstantTerm) → term_product (field_ring f) v g cs ≡ word_matrix f v (map (λ x. CodeX x.root (g x)) cs)
  terms-letters g [] = refl
  terms-letters g (c ∷ cs) = ap (product (field_ring f) (root_element (field_ring f) v c.root (g c))) (terms-letters g cs)

module _ (f : FiniteField) (d : RootDatum) (c : ConstantTable) (eta : Signs) (v : Module) (meets : MeetsIdentities d c eta v) where
  -- a unit, by its test
  unit_of : (t : ℕ) → t ≢ 0 → IsElem (field_ring f) t → IsUnit f t
  unit_of t n p = (omega (arith, n), ltb-true t (order f.given) p)

  -- t^1
  first_power : (t : ℕ) → t ≢ 0 → IsElem (field_ring f) t → power_int f.given t (pos 1) ≡ t
  first_power t n p = (power_laws f).at_one t (unit_of t n p)

  -- S1 at all elements
  pub s1-holds : (r : ℤ) → IsNumber d r → (a b : ℕ) → IsElem (field_ring f) a → IsElem (field_ring f) b → word_matrix f v (CodeX r a ∷ (CodeX r b ∷ [])) ≡ word_matrix f v (CodeX r (add f.given a b) ∷ [])
  s1-holds r n = s1-everywhere f v d c eta r (λ t u m k p q.
      subst (λ x. word_matrix f v (CodeX r x ∷ (CodeX r u ∷ [])) ≡ word_matrix f v (CodeX r (add f.given x u) ∷ [])) (first_power t m p)
      (identity-at f t u (unit_of t m p) (unit_of u k q) d c eta v (S1 r) (listed-S1 d (IsMet d c eta v) meets.relations r n).identity))

  -- S2 at all elements
  pub s2-holds : (r s : ℤ) → IsNumber d r → IsNumber d s → place (length d.positive) r < place (length d.positive) s → s ≢ neg_ℤ r
      → AllByRecursion (λ x. 1 ≤ x.i) (terms_of c r s) → AllByRecursion (λ x. 1 ≤ x.j) (terms_of c r s)
      → (t u : ℕ) → IsElem (field_ring f) t → IsElem (field_ring f) u → word_matrix f v (CodeX s u ∷ (CodeX r t ∷ [])) ≡ word_matrix f v (CodeX r t ∷ (CodeX s u ∷ letters_at f (terms_of c r s) t u))
  s2-holds r s n o before apart first second = s2-everywhere f v d c eta r s first second (λ t u m k p q.
      subst (λ x. word_matrix f v (CodeX s u ∷ (CodeX r x ∷ [])) ≡ word_matrix f v (CodeX r x ∷ (CodeX s u ∷ letters_at f (terms_of c r s) x u))) (first_power t m p)
      (identity-at f t u (unit_of t m p) (unit_of u k q) d c eta v (S2 r s) (listed-S2 d (IsMet d c eta v) meets.relations r s n o before apart).identity
      ∙ right-S2 (values_at f t u) d v c eta r s
      ∙ ap (λ M. product (field_ring f) (root_element (field_ring f) v r (power_int f.given t (pos 1))) (product (field_ring f) (root_element (field_ring f) v s u) M)) (terms-letters f v (value_at f (power_int f.given t (pos 1)) u) (terms_of c r s))))

  -- S7 at all elements
  pub s7-holds : (i : ℕ) (s : ℤ) → IsSimpleIndex d.base i → IsNumber d s → (t : ℕ) → IsElem (field_ring f) t
      → word_matrix f v (CodeN i ∷ (CodeX s t ∷ [])) ≡ word_matrix f v (CodeX (image d i s) (mul f.given (of_int f.given (eta i s)) t) ∷ (CodeN i ∷ []))
  s7-holds i s n o = s7-everywhere f v d c eta i s (λ t m p.
      subst (λ x. word_matrix f v (CodeN i ∷ (CodeX s x ∷ [])) ≡ word_matrix f v (CodeX (image d i s) (mul f.given (of_int f.given (eta i s)) x) ∷ (CodeN i ∷ []))) (first_power t m p)
      (weyl-letters f v i (CodeX s (power_int f.given t (pos 1)) ∷ [])
      ∙ identity-at f t t (unit_of t m p) (unit_of t m p) d c eta v (S7 i s) (listed-S7 d (IsMet d c eta v) meets.relations i s n o).identity
      ∙ letter-same f v (CodeX (image d i s) (mul f.given (of_int f.given (eta i s)) (power_int f.given t (pos 1)))) (CodeX (pos i) 1 ∷ (CodeX (neg_ℤ (pos i)) (neg f.given 1) ∷ (CodeX (pos i) 1 ∷ []))) (CodeN i ∷ []) (sym (weyl-letters f v i []))))

-- ---- words of the setting of a frame
module _ (f : FrameData) (lawful : IsLawfulFrame f) (eta : Signs) (v : Module) (meets : MeetsIdentities f.datum f.constants eta v) where
  -- the matrix of a word of the setting
  abbrev matrix_of : Word (setting f) → Matrix ℕ
  matrix_of w = word_matrix f.field v (map (spelled f) w)

  -- the number of an element is one of the field
  pub elem_of : (a : Elem f.field) → IsElem (field_ring f.field) a.number
  elem_of a = lt-ltb a.number (order f.field.given) (is_below (order f.field.given) a)

  -- `x_r(0)` = empty
  pub S0-root-respected : (r : RootName f.datum) → matrix_of (X r (zero_elem f.field) ∷ []) ≡ matrix_of []
  S0-root-respected r = zero-letter f.field v (signed_number f.datum r) (zero_elem f.field).number [] (zero_elem-number f.field)

  -- `x_r(a) x_r(b) = x_r(a+b)`
  pub S1-respected : (r : RootName f.datum) (a b : Elem f.field) → matrix_of (X r a ∷ X r b ∷ []) ≡ matrix_of (X r (elem_add f.field a b) ∷ [])
  S1-respected r a b =
      s1-holds f.field f.datum f.constants eta v meets (signed_number f.datum r) (named_is f.datum r).number a.number b.number (elem_of a) (elem_of b)
      ∙ ap (λ n. word_matrix f.field v (CodeX (signed_number f.datum r) n ∷ [])) (sym (elem_add-number f.field a b))

  -- the element of a term
  term-number : (c : ConstantTerm) (t u : Elem f.field) →
      (elem_mul f.field (elem_int f.field c.value) (elem_mul f.field (power (setting f) (elem_neg f.field t) c.i) (power (setting f) u c.j))).number ≡ value_at f.field t.number u.number c
  term-number c t u =
      let x = power (setting f) (elem_neg f.field t) c.i in
      let y = power (setting f) u c.j in
      elem_mul-number f.field (elem_int f.field c.value) (elem_mul f.field x y)
      ∙ ap₂ (mul f.field.given) (elem_int-number f.field c.value)
      (elem_mul-number f.field x y ∙ ap₂ (mul f.field.given) (power-number f lawful (elem_neg f.field t) c.i ∙ ap (λ z. ring_power (field_ring f.field) z c.i) (elem_neg-number f.field t)) (power-number f lawful u c.j))

  -- the letters of the terms, spelled
  letters_spelled : (other : RootName f.datum) (r s : ℤ) (cs : List ConstantTerm) (t u : Elem f.field) → AllByRecursion (IsTermAt f.datum r s) cs
      → map (spelled f) (term_letters (setting f) (map (term_of f other) cs) t u) ≡ letters_at f.field cs t.number u.number
  unfolding term_of
  letters_spelled other r s [] t u h = refl
  letters_spelled other r s (c ∷ cs) t u h =
      ap₂ ◌∷◌ (ap₂ CodeX (signed_number-numbered f.datum lawful.loaded other c.root h.0.number) (term-number c t u)) (letters_spelled other r s cs t u h.1)

  -- the exponents of t are 1 or more
  firsts : (r s : ℤ) (cs : List ConstantTerm) → AllByRecursion (IsTermAt f.datum r s) cs → AllByRecursion (λ x. 1 ≤ x.i) cs
  firsts r s [] h = tt
  firsts r s (c ∷ cs) h = (h.0.first, firsts r s cs h.1)

  -- and those of u
  seconds : (r s : ℤ) (cs : List ConstantTerm) → AllByRecursion (IsTermAt f.datum r s) cs → AllByRecursion (λ x. 1 ≤ x.j) cs
  seconds r s [] h = tt
  seconds r s (c ∷ cs) h = (h.0.second, seconds r s cs h.1)

  -- `x_s(u) x_r(t) = x_r(t) x_s(u)` times the letters of the terms
  pub S2-respected : (r s : RootName f.datum) (t u : Elem f.field) → r.number < s.number → ¬ (s ≡ opposite_name f.datum r) → signed_number f.datum s ≢ neg_ℤ (signed_number f.datum r)
      → matrix_of (X s u ∷ X r t ∷ []) ≡ matrix_of (X r t ∷ X s u ∷ term_letters (setting f) (terms_at f r s) t u)
  unfolding terms_at
  S2-respected r s t u before apart apart_number =
      let d = f.datum in
      let a = named_is d r in
      let b = named_is d s in
      let i = signed_number d r in
      let j = signed_number d s in
      let pair : IsPair d i j = record {
        left = a.number;
        right = b.number;
        unequal = λ e. (let same = ap (λ z. place (length d.positive) z) e in omega (arith, before, same, a.place, b.place));
        independent = apart_number;
      } in
      let cs = terms_of f.constants i j in
      let h = terms_at-roots d lawful.loaded f.constants i j lawful.constants pair in
      s2-holds f.field d f.constants eta v meets i j a.number b.number (omega (arith, before, a.place, b.place)) apart_number (firsts i j cs h) (seconds i j cs h) t.number u.number (elem_of t) (elem_of u)
      ∙ ap (λ w. word_matrix f.field v (CodeX i t.number ∷ (CodeX j u.number ∷ w))) (sym (letters_spelled r i j cs t u h))
