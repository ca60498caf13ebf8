-- Root letters by numbers, and the words of root letters and torus letters that S0, S1 and S4 join.
use Rattle.std.proofs.Common.{◌≡◌, ℕ, ◌<◌, List, [], ◌∷◌, length, refl, sym, ◌∙◌, ap, ap₂}
use Rattle.std.specs.Prelude.{ℤ}
use Rattle.lie_base.specs.Below.{at_number}
use Rattle.lie_field.specs.Quotient.{order, add, mul, neg}
use Rattle.lie_field.specs.Elements.{Elem, elem_add, elem_neg, elem_mul, elem_add_neg, elem_add-number, elem_neg-number, elem_mul-number, zero_elem, zero_elem-number}
use Rattle.lie_datum.specs.RootDatum.{vector}
use Rattle.lie_datum.specs.RootList.{IsNumber, root_of}
use Rattle.lie_letters.specs.declared.letter.Letter.TheVariants.{X as CodeX, H as CodeH}
use Rattle.lie_letters.specs.Names.{RootName}
use Rattle.lie_letters.specs.Frames.{FrameData, setting, dim, character_at}
use Rattle.lie_letters.specs.Letters.{X, H}
use Rattle.lie_letters.specs.Relations.{Joined, S0-root, S1, S4}
use Rattle.lie_letters.specs.Entries.{AreUnits, character}
use Rattle.lie_letters.specs.Spelled.{JoinedSpelled}
use Rattle.lie_letters.proofs.ChainLemmas.{by_relation, trans}
use Rattle.lie_letters.proofs.NameLemmas.{name_of_number, named_is}
use Rattle.lie_letters.proofs.TorusLemmas.{torus_of}
use Rattle.lie_letters.proofs.CharacterLemmas.{character_at-number}

module _ (f : FrameData) where
  -- `x_r(0)` is joined to the empty word
  pub zero_joined : (k : ℤ) → IsNumber f.datum k → JoinedSpelled f (CodeX k 0 ∷ []) []
  zero_joined k h =
      let r = name_of_number f.datum k h in
      record {
        left = X r.0 (zero_elem f.field) ∷ [];
        right = [];
        left_spelled = ap₂ (λ j n. CodeX j n ∷ []) r.1 (zero_elem-number f.field);
        right_spelled = refl;
        joined = by_relation _ _ (S0-root r.0);
      }

  -- two letters at one root are joined to the letter of the sum
  pub sum_joined : (k : ℤ) (a b : ℕ) → IsNumber f.datum k → a < order f.field.given → b < order f.field.given
      → JoinedSpelled f (CodeX k a ∷ CodeX k b ∷ []) (CodeX k (add f.field.given a b) ∷ [])
  sum_joined k a b h p q =
      let r = name_of_number f.datum k h in
      let x = at_number (order f.field.given) a p in
      let y = at_number (order f.field.given) b q in
      record {
        left = X r.0 x ∷ X r.0 y ∷ [];
        right = X r.0 (elem_add f.field x y) ∷ [];
        left_spelled = ap (λ j. CodeX j a ∷ CodeX j b ∷ []) r.1;
        right_spelled = ap₂ (λ j n. CodeX j n ∷ []) r.1 (elem_add-number f.field x y);
        joined = by_relation _ _ (S1 r.0 x y);
      }

  cancels : (r : RootName f.datum) (x : Elem f.field) → Joined (setting f) (X r x ∷ X r (elem_neg f.field x) ∷ []) []
  cancels r x = trans (by_relation _ _ (S1 r x (elem_neg f.field x))) (rw (elem_add_neg f.field x) (by_relation _ _ (S0-root r)))

  -- a root letter and that of the negative are joined to the empty word
  pub negative_joined : (k : ℤ) (a : ℕ) → IsNumber f.datum k → a < order f.field.given → JoinedSpelled f (CodeX k a ∷ CodeX k (neg f.field.given a) ∷ []) []
  negative_joined k a h p =
      let r = name_of_number f.datum k h in
      let x = at_number (order f.field.given) a p in
      record {
        left = X r.0 x ∷ X r.0 (elem_neg f.field x) ∷ [];
        right = [];
        left_spelled = ap₂ (λ j n. CodeX j a ∷ CodeX j n ∷ []) r.1 (elem_neg-number f.field x);
        right_spelled = refl;
        joined = cancels r.0 x;
      }

  -- a torus letter passes a root letter
  pub passing_joined : (t : List ℕ) (k : ℤ) (a : ℕ) → AreUnits f.field t → dim f ≡ length t → IsNumber f.datum k → a < order f.field.given
      → JoinedSpelled f (CodeH t ∷ CodeX k a ∷ []) (CodeX k (mul f.field.given (character f.field t (vector f.datum.base (root_of f.datum k))) a) ∷ CodeH t ∷ [])
  passing_joined t k a units long h p =
      let r = name_of_number f.datum k h in
      let x = at_number (order f.field.given) a p in
      let y = torus_of f t units long in
      let factor : (character_at f r.0 y.0).number ≡ character f.field t (vector f.datum.base (root_of f.datum k)) =
      character_at-number f r.0 y.0
      ∙ ap₂ (λ s v. character f.field s (vector f.datum.base v)) y.1 (sym (named_is f.datum r.0).root ∙ ap (root_of f.datum) r.1) in
      record {
        left = H y.0 ∷ X r.0 x ∷ [];
        right = X r.0 (elem_mul f.field (character_at f r.0 y.0) x) ∷ H y.0 ∷ [];
        left_spelled = ap₂ (λ s j. CodeH s ∷ CodeX j a ∷ []) y.1 r.1;
        right_spelled =
            ap₂ (λ j s. CodeX j (elem_mul f.field (character_at f r.0 y.0) x).number ∷ CodeH s ∷ []) r.1 y.1
            ∙ ap (λ n. CodeX k n ∷ CodeH t ∷ []) (elem_mul-number f.field (character_at f r.0 y.0) x ∙ ap (λ n. mul f.field.given n a) factor);
        joined = by_relation _ _ (S4 y.0 r.0 x);
      }
