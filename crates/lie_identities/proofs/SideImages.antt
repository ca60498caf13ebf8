-- A homomorphism carries the matrices of root elements, of coroots, and of the sides of a relation, so a relation that holds at t and u holds at their images.
use Rattle.std.proofs.Common.{◌≡◌, ℕ, zero, suc, ℤ, pos, neg_ℤ, List, [], ◌∷◌, map, cond, eqb, refl, sym, ap, ap₂, ◌∙◌}
use Rattle.lie_ring.specs.Rings.{RingOn, IsElem, IsRing, IsHom, sum_below}
use Rattle.lie_ring.specs.Powers.{power}
use Rattle.lie_ring.specs.HomLemmas.{hom-sum, hom_int, hom_neg}
use Rattle.lie_ring.specs.SumLemmas.{sum-elem, sum-same}
use Rattle.lie_ring.specs.Matrices.{Matrix, entry, identity, product, image}
use Rattle.lie_ring.specs.MatrixLemmas.{image-table, table-same}
use Rattle.lie_ring.specs.MatrixImages.{image-cond, image-product, image-identity}
use Rattle.lie_datum.specs.RootList.{RootDatum}
use Rattle.lie_const.specs.declared.term.Term.{Term}
use Rattle.lie_const.specs.ConstantTables.{ConstantTable, terms_of}
use Rattle.lie_const.specs.Modules.{Module, dimension, top, divided_power, root_element, root_element_entry}
use Rattle.lie_const.specs.Signs.{Signs, image as image_of_root}
use Rattle.lie_identities.specs.declared.relations.Rel.{Rel}
use Rattle.lie_identities.specs.declared.relations.Rel.TheVariants.{S1, S2, S6, S7}
use Rattle.lie_identities.specs.AuditRelations.{Variables, Factor, RootElement, CorootElement, term_value, left_side, right_side, coroot_power, factor_matrix, side_matrix}
use Rattle.lie_identities.proofs.FactorLemmas.{AreVariables, IsFactorOver, AreFactorsOver, power-elem, cond-elem, step-elem, factor-elem, factor-width, side-height, side-elem, left_over_ring, right_over_ring}

-- the images of t and u
abbrev pub image_variables : {A B : Type 0} → RingOn B → (A → B) → Variables A → Variables B
image_variables S h y = record { ring = S; t_to = λ e. h (y.t_to e); u = h y.u }

-- both sides of a relation are equal at t and u
abbrev pub HoldsAt : {A : Type 0} → Variables A → RootDatum → ConstantTable → Signs → Module → Rel → Type 0
HoldsAt y d c eta v q = side_matrix y d v (left_side y q) ≡ side_matrix y d v (right_side y d c eta q)

-- the product of root elements, one for each term
abbrev pub term_product : {A : Type 0} → RingOn A → Module → (Term → A) → List Term → Matrix A
term_product R v g [] = identity R (dimension v)
term_product R v g (c ∷ cs) = product R (root_element R v c.root (g c)) (term_product R v g cs)

-- the image of a factor
abbrev pub image_factor : {A B : Type 0} → (A → B) → Factor A → Factor B
image_factor h (RootElement r f) = RootElement r (h f)
image_factor h (CorootElement i) = CorootElement i

module _ {A B : Type 0} (R : RingOn A) (S : RingOn B) (h : A → B) (ring : IsRing R) (target : IsRing S) (hom : IsHom R S h) where
  -- the image of a power
  pub image-power : (a : A) (n : ℕ) → IsElem R a → h (power R a n) ≡ power S (h a) n
  image-power a zero p = hom.one
  image-power a (suc n) p = hom.mul (power R a n) a (power-elem R ring a n p) p ∙ ap (λ x. S.mul x (h a)) (image-power a n p)

  -- X_r(t) goes to X_r(h t)
  pub image-root_element : (v : Module) (r : ℤ) (t : A) → IsElem R t → image h (root_element R v r t) ≡ root_element S v r (h t)
  unfolding root_element
  image-root_element v r t p =
      image-table h (dimension v) (dimension v) (root_element_entry R v r t)
      ∙ table-same (dimension v) (dimension v) _ (root_element_entry S v r (h t)) (λ i j _ _.
      let e = λ (k : ℕ). entry (pos 0) (divided_power v r (suc k)) i j in
      let f = λ (k : ℕ). R.mul (power R t (suc k)) (R.of_int (e k)) in
      hom.add (cond (eqb i j) R.one R.zero) (sum_below R (top v r) f)
      (cond-elem R ring (eqb i j) R.one R.zero ring.laws.one_elem ring.laws.zero_elem) (sum-elem R ring.laws (top v r) f (λ k _. step-elem R ring v r t i j k p))
      ∙ ap₂ S.add (image-cond h (eqb i j) R.one R.zero ∙ ap₂ (cond (eqb i j)) hom.one hom.zero)
      (hom-sum R S h ring hom (top v r) f (λ k _. step-elem R ring v r t i j k p)
      ∙ sum-same S (top v r) _ (λ k. S.mul (power S (h t) (suc k)) (S.of_int (e k))) (λ k _.
      hom.mul (power R t (suc k)) (R.of_int (e k)) (power-elem R ring t (suc k) p) (ring.integers.int_elem (e k))
      ∙ ap₂ S.mul (image-power t (suc k) p) (hom_int R S h ring target hom (e k)))))

module _ {A B : Type 0} (y : Variables A) (S : RingOn B) (h : A → B) (d : RootDatum) (v : Module) (ring : IsRing y.ring) (target : IsRing S) (hom : IsHom y.ring S h) (over : AreVariables y) where
  -- a factor goes to the factor of its image
  image-factor : (x : Factor A) → IsFactorOver y.ring x → image h (factor_matrix y d v x) ≡ factor_matrix (image_variables S h y) d v (image_factor h x)
  image-factor (RootElement r f) p = image-root_element y.ring S h ring target hom v r f p
  image-factor (CorootElement i) p =
      image-table h (dimension v) (dimension v) (λ a b. cond (eqb a b) (coroot_power y d v i a) y.ring.zero)
      ∙ table-same (dimension v) (dimension v) _ (λ a b. cond (eqb a b) (h (coroot_power y d v i a)) S.zero) (λ a b _ _.
      image-cond h (eqb a b) (coroot_power y d v i a) y.ring.zero ∙ ap (cond (eqb a b) (h (coroot_power y d v i a))) hom.zero)

  -- a side goes to the side of the images
  pub image-side : (xs : List (Factor A)) → AreFactorsOver y.ring xs → image h (side_matrix y d v xs) ≡ side_matrix (image_variables S h y) d v (map (image_factor h) xs)
  image-side [] p = image-identity y.ring S h ring hom (dimension v)
  image-side (x ∷ xs) p =
      image-product y.ring S h ring hom (factor_matrix y d v x) (side_matrix y d v xs) (factor-width y d v ring over x ∙ sym (side-height y d v ring over xs)) (factor-elem y d v ring over x p.0) (side-elem y d v ring over xs p.1)
      ∙ ap₂ (product S) (image-factor x p.0) (image-side xs p.1)

  -- ---- their images
  neg_to : (a : A) → IsElem y.ring a → h (y.ring.neg a) ≡ S.neg (h a)
  neg_to a p = hom_neg y.ring S h ring target hom a p

  -- 1 goes to 1, and -1 to -1
  one_to : h y.ring.one ≡ S.one
  one_to = hom.one

  minus_to : h (y.ring.neg y.ring.one) ≡ S.neg S.one
  minus_to = neg_to y.ring.one ring.laws.one_elem ∙ ap S.neg hom.one

  -- lists that differ in one element, or behind it
  root_to : (r : ℤ) {f g : B} (xs : List (Factor B)) → f ≡ g → ◌≡◌ {A = List (Factor B)} (RootElement r f ∷ xs) (RootElement r g ∷ xs)
  root_to r xs e = ap (λ f. RootElement r f ∷ xs) e

  next_to : (x : Factor B) {xs ys : List (Factor B)} → xs ≡ ys → ◌≡◌ {A = List (Factor B)} (x ∷ xs) (x ∷ ys)
  next_to x e = ap (λ zs. x ∷ zs) e

  three_to : (r s : ℤ) (a b : A) (p q : B) → h a ≡ p → h b ≡ q →
      ◌≡◌ {A = List (Factor B)} (RootElement r (h a) ∷ (RootElement s (h b) ∷ (RootElement r (h a) ∷ []))) (RootElement r p ∷ (RootElement s q ∷ (RootElement r p ∷ [])))
  three_to r s a b p q e g = ap₂ (λ x z. RootElement r x ∷ (RootElement s z ∷ (RootElement r x ∷ []))) e g

  -- the value of a term
  value_to : (c : Term) → h (term_value y c) ≡ term_value (image_variables S h y) c
  value_to c =
      let m = y.ring.neg (y.t_to (pos 1)) in
      let pm = power-elem y.ring ring m c.i (ring.laws.neg_elem (y.t_to (pos 1)) (over.t_elem (pos 1))) in
      let pu = power-elem y.ring ring y.u c.j over.u_elem in
      hom.mul _ _ (ring.integers.int_elem c.value) (ring.laws.mul_elem _ _ pm pu)
      ∙ ap₂ S.mul (hom_int y.ring S h ring target hom c.value)
      (hom.mul _ _ pm pu
      ∙ ap₂ S.mul (image-power y.ring S h ring target hom m c.i (ring.laws.neg_elem (y.t_to (pos 1)) (over.t_elem (pos 1))) ∙ ap (λ x. power S x c.i) (neg_to (y.t_to (pos 1)) (over.t_elem (pos 1)))) (image-power y.ring S h ring target hom y.u c.j over.u_elem))

  -- the letters of the terms
  terms_to : (cs : List Term) → map (image_factor h) (map (λ x. RootElement x.root (term_value y x)) cs) ≡ map (λ x. RootElement x.root (term_value (image_variables S h y) x)) cs
  terms_to [] = refl
  terms_to (c ∷ cs) = ap₂ (λ f xs. RootElement c.root f ∷ xs) (value_to c) (terms_to cs)

  -- the left side goes to that at the images
  pub left_to : (q : Rel) → map (image_factor h) (left_side y q) ≡ left_side (image_variables S h y) q
  left_to (S1 r) = refl
  left_to (S2 r s) = refl
  left_to (S6 i) =
      next_to (RootElement (pos i) (h (y.t_to (pos 1))))
      (ap₂ (λ f xs. RootElement (neg_ℤ (pos i)) f ∷ (RootElement (pos i) (h (y.t_to (pos 1))) ∷ xs)) (neg_to _ (over.t_elem _))
      (three_to (pos i) (neg_ℤ (pos i)) (y.ring.neg y.ring.one) y.ring.one (S.neg S.one) S.one minus_to one_to))
  left_to (S7 i s) =
      ap₂ (λ x z. RootElement (pos i) x ∷ (RootElement (neg_ℤ (pos i)) z ∷ (RootElement (pos i) x ∷ (RootElement s (h (y.t_to (pos 1))) ∷ [])))) one_to minus_to

  -- and the right side
  pub right_to : (c : ConstantTable) (eta : Signs) (q : Rel) → map (image_factor h) (right_side y d c eta q) ≡ right_side (image_variables S h y) d c eta q
  right_to c eta (S1 r) = root_to r [] (hom.add _ _ (over.t_elem (pos 1)) over.u_elem)
  right_to c eta (S2 r s) = ap (λ xs. RootElement r (h (y.t_to (pos 1))) ∷ (RootElement s (h y.u) ∷ xs)) (terms_to (terms_of c r s))
  right_to c eta (S6 i) = refl
  right_to c eta (S7 i s) =
      ap₂ (λ f xs. RootElement (image_of_root d i s) f ∷ xs)
      (hom.mul _ _ (ring.integers.int_elem (eta i s)) (over.t_elem (pos 1)) ∙ ap (λ x. S.mul x (h (y.t_to (pos 1)))) (hom_int y.ring S h ring target hom (eta i s)))
      (three_to (pos i) (neg_ℤ (pos i)) y.ring.one (y.ring.neg y.ring.one) S.one (S.neg S.one) one_to minus_to)

module _ {A : Type 0} (y : Variables A) (d : RootDatum) (v : Module) where
  side-terms : (g : Term → A) (cs : List Term) → side_matrix y d v (map (λ x. RootElement x.root (g x)) cs) ≡ term_product y.ring v g cs
  side-terms g [] = refl
  side-terms g (c ∷ cs) = ap (product y.ring (root_element y.ring v c.root (g c))) (side-terms g cs)

  -- the right side of S2, by root elements
  pub right-S2 : (c : ConstantTable) (eta : Signs) (r s : ℤ) → side_matrix y d v (right_side y d c eta (S2 r s))
      ≡ product y.ring (root_element y.ring v r (y.t_to (pos 1))) (product y.ring (root_element y.ring v s y.u) (term_product y.ring v (term_value y) (terms_of c r s)))
  right-S2 c eta r s = ap (λ M. product y.ring (root_element y.ring v r (y.t_to (pos 1))) (product y.ring (root_element y.ring v s y.u) M)) (side-terms (term_value y) (terms_of c r s))

-- a relation that holds over a ring holds at the images of t and u
pub relation_image : {A B : Type 0} (y : Variables A) (S : RingOn B) (h : A → B) (d : RootDatum) (c : ConstantTable) (eta : Signs) (v : Module) (q : Rel) →
    IsRing y.ring → IsRing S → IsHom y.ring S h → AreVariables y → HoldsAt y d c eta v q → HoldsAt (image_variables S h y) d c eta v q
relation_image {A} {B} y S h d c eta v q ring target hom over e =
    let f = λ (xs : List (Factor B)). side_matrix (image_variables S h y) d v xs in
    ap f (sym (left_to y S h d v ring target hom over q))
    ∙ sym (image-side y S h d v ring target hom over (left_side y q) (left_over_ring y ring over q))
    ∙ ap (image h) e
    ∙ image-side y S h d v ring target hom over (right_side y d c eta q) (right_over_ring y d ring over c eta q)
    ∙ ap f (right_to y S h d v ring target hom over c eta q)
