-- The rules of one letter by numbers: n_i and root letters, signs, and torus letters.
use Rattle.std.proofs.Common.{◌≡◌, ℕ, zero, suc, ◌<◌, ◌≤◌, ℤ, pos, negsuc, List, [], ◌∷◌, refl, sym, ap, ap₂, subst, ◌∙◌, arith, ◌+◌, ◌-◌, get_or, drop}
use Rattle.std.proofs.lemmas.List.{drop_more}
use Rattle.std.proofs.Math.Seq.{drop-length}
use Rattle.lie_base.specs.Below.{at_number}
use Rattle.lie_field.specs.FiniteField.{FiniteField}
use Rattle.lie_field.specs.Quotient.{order, mul, neg, of_int}
use Rattle.lie_field.specs.FieldRing.{field_ring, field_is_ring}
use Rattle.lie_field.specs.Elements.{Elem, elem_mul, elem_mul-number, elem_int-number}
use Rattle.lie_datum.specs.RootDatum.{reflected, simple_root, simple_coroot, IsSimpleIndex}
use Rattle.lie_datum.specs.RootList.{RootDatum, IsLoaded, IsNumber, root_of}
use Rattle.lie_datum.proofs.SignedRoots.{same_number}
use Rattle.lie_const.specs.Signs.{eta_of}
use Rattle.lie_letters.specs.declared.letter.Letter.TheVariants.{X as CodeX, N as CodeN}
use Rattle.lie_letters.specs.Names.{signed_number, simple_name, reflect_name}
use Rattle.lie_letters.specs.Letters.{X, H, N}
use Rattle.lie_letters.specs.SignedFrames.{SignedFrame, unsigned, sign_at, IsLawfulSigned}
use Rattle.lie_letters.specs.GroupRelations.{S7}
use Rattle.lie_letters.specs.GroupSpelled.{JoinedInGroup}
use Rattle.std.proofs.Common.{length}
use Rattle.std.proofs.lemmas.Bool.{lt-ltb}
use Rattle.lie_ring.specs.RingLemmas.{one_mul, neg_one_mul, int_neg}
use Rattle.lie_datum.specs.RootDatum.{vector}
use Rattle.lie_letters.specs.declared.letter.Letter.TheVariants.{H as CodeH}
use Rattle.lie_letters.specs.Entries.{AreUnits, character}
use Rattle.lie_letters.specs.Frames.{setting, dim}
use Rattle.lie_letters.proofs.RootLetterLemmas.{passing_joined}
use Rattle.lie_letters.proofs.SettingLaws.{frame_laws}
use Rattle.lie_letters.specs.Torus.{each_mul, torus_mul, torus_inv}
use Rattle.lie_letters.specs.Frames.{coroot_at, character_at}
use Rattle.lie_letters.specs.Entries.{times_each, inverses, cocharacter, reflected as reflected_torus}
use Rattle.lie_letters.specs.Spelled.{numbers}
use Rattle.lie_letters.proofs.TorusLemmas.{torus_of, numbers-inverses}
use Rattle.lie_letters.proofs.CharacterLemmas.{character_at-number, powers-numbers, character_nonzero}
use Rattle.lie_letters.proofs.ReflectionLemmas.{vector_simple, length-simple_coroot}
use Rattle.lie_field.specs.Elements.{NonZero, as_nonzero, as_nonzero-element, unit_mul}
use Rattle.lie_bruhat.specs.WeylWords.{reflect_torus}
use Rattle.lie_bruhat.proofs.RulesHold.{torus_passes_weyl}
use Rattle.lie_bruhat.proofs.ShapeLemmas.{x_n}
use Rattle.lie_bruhat.proofs.FrameSigns.{sign_laws}
use Rattle.lie_bruhat.proofs.FrameShapes.{frame_facts}
use Rattle.lie_letters.proofs.GroupSpelledLemmas.{JoinedInGroup-plain}
use Rattle.lie_letters.proofs.ChainLemmas.{by_relation}
use Rattle.lie_letters.proofs.NameLemmas.{index_of, index_is, simple_at, name_of_number, named_is, reflect_at}

-- the last letters of a word, one more
pub last_letters : (w : List ℕ) (k : ℕ) → k < length w → get_or w (length w - 1 - k) 0 ∷ drop (length w - k) w ≡ drop (length w - (k + 1)) w
last_letters w k t =
    let n = length w in
    let e : n - 1 - k ≡ n - (k + 1) = omega (arith, t) in
    let g : n - k ≡ n - (k + 1) + 1 = omega (arith, t) in
    ap (λ i. get_or w i 0 ∷ drop (n - k) w) e ∙ ap (λ i. get_or w (n - (k + 1)) 0 ∷ drop i w) g ∙ sym (drop_more w (n - (k + 1)) 0 (omega (arith, t)))

-- none of them
pub no_letters : (w : List ℕ) → drop (length w - 0) w ≡ []
no_letters w = let e : length w - 0 ≡ length w = omega arith in ap (λ n. drop n w) e ∙ drop-length w

-- the numbers of a product, entry by entry
each_mul-numbers : (F : FiniteField) (t u : List (NonZero F)) → numbers F (each_mul F t u) ≡ times_each F (numbers F t) (numbers F u)
unfolding unit_mul
each_mul-numbers F [] u = refl
each_mul-numbers F (a ∷ t) [] = refl
each_mul-numbers F (a ∷ t) (b ∷ u) = ap (λ w. mul F.given a.element.number b.element.number ∷ w) (each_mul-numbers F t u)

module _ (f : SignedFrame) (lawful : IsLawfulSigned f) where
  abbrev d : RootDatum
  d = f.datum

  abbrev loaded : IsLoaded d
  loaded = lawful.lawful.loaded

  -- n_i passes a root letter
  pub simple_joined : (i : ℕ) (k l : ℤ) (a b : ℕ) → IsSimpleIndex d.base i → IsNumber d k → IsNumber d l → root_of d l ≡ reflected d.base i (root_of d k)
      → a < order f.field.given → b ≡ mul f.field.given (of_int f.field.given (eta_of f.signs i k)) a → JoinedInGroup f (CodeN i ∷ CodeX k a ∷ []) (CodeX l b ∷ CodeN i ∷ [])
  unfolding sign_at
  simple_joined zero k l a b s number image root below value = absurd (let h = s.0 in omega (arith, h))
  simple_joined (suc n) k l a b s number image root below value =
      let j = index_of d loaded n (let u = s.1 in omega (arith, u)) in
      let r = name_of_number d k number in
      let x = at_number (order f.field.given) a below in
      let here = named_is d (reflect_name d j.0 r.0) in
      let index : suc j.0.number ≡ suc n = ap suc j.1 in
      let number_is : signed_number d (reflect_name d j.0 r.0) ≡ l =
      same_number d loaded (signed_number d (reflect_name d j.0 r.0)) l here.number image
      (here.root ∙ reflect_at d loaded j.0 r.0 ∙ ap₂ (reflected d.base) index (sym (named_is d r.0).root ∙ ap (root_of d) r.1) ∙ sym root) in
      let value_is : (elem_mul f.field (sign_at f j.0 r.0) x).number ≡ b =
      elem_mul-number f.field (sign_at f j.0 r.0) x
      ∙ ap (λ e. mul f.field.given e a) (elem_int-number f.field (eta_of f.signs (suc j.0.number) (signed_number d r.0)) ∙ ap₂ (λ i s. of_int f.field.given (eta_of f.signs i s)) index r.1)
      ∙ sym value in
      record {
        left = N j.0 ∷ X r.0 x ∷ [];
        right = X (reflect_name d j.0 r.0) (elem_mul f.field (sign_at f j.0 r.0) x) ∷ N j.0 ∷ [];
        left_spelled = ap₂ (λ i s. CodeN i ∷ CodeX s a ∷ []) index r.1;
        right_spelled = ap₂ (λ s e. CodeX s e ∷ CodeN (suc j.0.number) ∷ []) number_is value_is ∙ ap (λ i. CodeX l b ∷ CodeN i ∷ []) index;
        joined = by_relation _ _ (S7 j.0 r.0 x);
      }

  -- a root letter passes n_i from left to right
  pub before_joined : (i : ℕ) (k l : ℤ) (a b : ℕ) → IsSimpleIndex d.base i → IsNumber d k → IsNumber d l → root_of d l ≡ reflected d.base i (root_of d k)
      → a < order f.field.given → b ≡ mul f.field.given (of_int f.field.given (eta_of f.signs i l)) a → JoinedInGroup f (CodeX k a ∷ CodeN i ∷ []) (CodeN i ∷ CodeX l b ∷ [])
  unfolding sign_at
  before_joined zero k l a b s number image root below value = absurd (let h = s.0 in omega (arith, h))
  before_joined (suc n) k l a b s number image root below value =
      let j = index_of d loaded n (let u = s.1 in omega (arith, u)) in
      let r = name_of_number d k number in
      let x = at_number (order f.field.given) a below in
      let t = reflect_name d j.0 r.0 in
      let here = named_is d t in
      let index : suc j.0.number ≡ suc n = ap suc j.1 in
      let number_is : signed_number d t ≡ l =
      same_number d loaded (signed_number d t) l here.number image
      (here.root ∙ reflect_at d loaded j.0 r.0 ∙ ap₂ (reflected d.base) index (sym (named_is d r.0).root ∙ ap (root_of d) r.1) ∙ sym root) in
      let value_is : (elem_mul f.field (sign_at f j.0 t) x).number ≡ b =
      elem_mul-number f.field (sign_at f j.0 t) x
      ∙ ap (λ e. mul f.field.given e a) (elem_int-number f.field (eta_of f.signs (suc j.0.number) (signed_number d t)) ∙ ap₂ (λ i s. of_int f.field.given (eta_of f.signs i s)) index number_is)
      ∙ sym value in
      record {
        left = X r.0 x ∷ N j.0 ∷ [];
        right = N j.0 ∷ X t (elem_mul f.field (sign_at f j.0 t) x) ∷ [];
        left_spelled = ap₂ (λ i s. CodeX s a ∷ CodeN i ∷ []) index r.1;
        right_spelled = ap₂ (λ s e. CodeN (suc j.0.number) ∷ CodeX s e ∷ []) number_is value_is ∙ ap (λ i. CodeN i ∷ CodeX l b ∷ []) index;
        joined = x_n (setting (unsigned f)) (sign_at f) (frame_laws (unsigned f) lawful.lawful) (sign_laws f lawful) (frame_facts f lawful) j.0 r.0 x [];
      }

  -- a torus letter passes a root letter
  pub torus_joined : (t : List ℕ) (k : ℤ) (a b : ℕ) → AreUnits f.field t → dim (unsigned f) ≡ length t → IsNumber d k → a < order f.field.given
      → b ≡ mul f.field.given (character f.field t (vector d.base (root_of d k))) a → JoinedInGroup f (CodeH t ∷ CodeX k a ∷ []) (CodeX k b ∷ CodeH t ∷ [])
  torus_joined t k a b units long number below value =
      subst (λ z. JoinedInGroup f (CodeH t ∷ CodeX k a ∷ []) (CodeX k z ∷ CodeH t ∷ [])) (sym value)
      (JoinedInGroup-plain f _ _ (passing_joined (unsigned f) t k a units long number below))

  -- n_i passes a torus letter
  pub reflected_joined : (i : ℕ) (t : List ℕ) → IsSimpleIndex d.base i → AreUnits f.field t → dim (unsigned f) ≡ length t
      → JoinedInGroup f (CodeN i ∷ CodeH t ∷ []) (CodeH (reflected_torus f.field d.base i t) ∷ CodeN i ∷ [])
  unfolding torus_mul torus_inv coroot_at
  reflected_joined zero t s units long = absurd (let h = s.0 in omega (arith, h))
  reflected_joined (suc n) t s units long =
      let F = f.field in
      let g = unsigned f in
      let j = index_of d loaded n (let u = s.1 in omega (arith, u)) in
      let x = torus_of g t units long in
      let index : suc j.0.number ≡ suc n = ap suc j.1 in
      let here = index_is d j.0 in
      let input = loaded.axioms.input in
      let y = simple_coroot d.base (suc j.0.number) in
      let c = character_at g (simple_name d j.0) x.0 in
      let value : (as_nonzero F c).element.number ≡ character F t (simple_root d.base (suc j.0.number)) =
      ap (λ (e : Elem F). e.number) (as_nonzero-element F c (character_nonzero g (simple_name d j.0) x.0)) ∙ character_at-number g (simple_name d j.0) x.0
      ∙ ap₂ (character F) x.1 (ap (vector d.base) (simple_at d j.0) ∙ vector_simple d.base input (suc j.0.number) here) in
      let room : d.base.dim ≤ length y = let few = input.dim.1 in let e = length-simple_coroot d.base input (suc j.0.number) here in omega (arith, few, e) in
      let divisor : numbers F (coroot_at g j.0 c).entries ≡ cocharacter F d.base.dim y (character F t (simple_root d.base (suc j.0.number))) =
      powers-numbers F (as_nonzero F c) d.base.dim y room ∙ ap (cocharacter F d.base.dim y) value in
      let whole : numbers F (reflect_torus (setting g) j.0 x.0).entries ≡ reflected_torus F d.base (suc j.0.number) t =
      each_mul-numbers F x.0.entries (torus_inv F d.base.dim (coroot_at g j.0 c)).entries
      ∙ ap₂ (times_each F) x.1 (numbers-inverses F (coroot_at g j.0 c).entries ∙ ap (inverses F) divisor) in
      record {
        left = N j.0 ∷ H x.0 ∷ [];
        right = H (reflect_torus (setting g) j.0 x.0) ∷ N j.0 ∷ [];
        left_spelled = ap₂ (λ i u. CodeN i ∷ CodeH u ∷ []) index x.1;
        right_spelled = ap (λ u. CodeH u ∷ CodeN (suc j.0.number) ∷ []) whole ∙ ap (λ i. CodeH (reflected_torus F d.base i t) ∷ CodeN i ∷ []) index;
        joined = torus_passes_weyl f lawful j.0 x.0;
      }

-- the signs 1 and -1 times an element
pub one_sign : (F : FiniteField) (a : ℕ) → a < order F.given → mul F.given (of_int F.given (pos 1)) a ≡ a
one_sign F a h = ap (λ e. mul F.given e a) (field_is_ring F).integers.int_one ∙ one_mul (field_ring F) (field_is_ring F).laws a (lt-ltb a (order F.given) h)

pub minus_sign : (F : FiniteField) (a : ℕ) → a < order F.given → mul F.given (of_int F.given (negsuc 0)) a ≡ neg F.given a
minus_sign F a h =
    let R = field_ring F in
    let ring = field_is_ring F in
    ap (λ e. mul F.given e a) (int_neg R ring (pos 1) ∙ ap R.neg ring.integers.int_one) ∙ neg_one_mul R ring.laws a (lt-ltb a (order F.given) h)
