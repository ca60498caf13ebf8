-- The relations of the letters n_i, S5 to S7, between words of the setting of a frame, on an audited module.
use Rattle.std.proofs.Common.{◌≡◌, ℕ, suc, ◌-◌, pos, neg_ℤ, List, [], ◌∷◌, ◌++◌, map, refl, sym, ap, ap₂, ◌∙◌, arith}
use Rattle.lie_base.specs.Below.{is_below}
use Rattle.lie_field.specs.Quotient.{order, mul, neg, inv, of_int}
use Rattle.lie_field.specs.Elements.{Elem, as_nonzero, as_nonzero-element, zero_elem, one_elem, elem_neg, elem_mul, elem_inv, one_elem-number, elem_neg-number, elem_mul-number, elem_inv-number, number_positive}
use Rattle.lie_datum.specs.Vectors.{IsVectorIn}
use Rattle.lie_datum.specs.RootDatum.{simple_coroot}
use Rattle.lie_const.specs.Modules.{Module}
use Rattle.lie_const.specs.Signs.{Signs}
use Rattle.lie_letters.specs.declared.letter.Letter.{Letter as CodeLetter}
use Rattle.lie_letters.specs.declared.letter.Letter.TheVariants.{X as CodeX, H as CodeH, N as CodeN}
use Rattle.lie_letters.specs.Entries.{cocharacter}
use Rattle.lie_letters.specs.Names.{RootName, Index, signed_number, simple_name, opposite_name, reflect_name}
use Rattle.lie_letters.specs.Frames.{FrameData, setting, dim, coroot_at, IsLawfulFrame}
use Rattle.lie_letters.specs.Letters.{Word, X, H, N, Ninv}
use Rattle.lie_letters.specs.Spelled.{spelled}
use Rattle.lie_letters.proofs.NameLemmas.{named_is, index_is}
use Rattle.lie_letters.proofs.CharacterLemmas.{powers-numbers}
use Rattle.lie_identities.specs.Audit.{MeetsIdentities}
use Rattle.lie_audit.specs.WordMatrix.{word_matrix}
use Rattle.lie_audit.proofs.NamedNumbers.{number_simple, number_opposite, number_reflect}
use Rattle.lie_audit.proofs.ZeroValues.{weyl-letters, inverse-letters}
use Rattle.lie_audit.proofs.RootRelations.{s7-holds, elem_of}
use Rattle.lie_audit.proofs.CorootRelation.{s6-holds}

module _ (f : FrameData) (lawful : IsLawfulFrame f) where
  -- the letters x_i(a), x_-i(b), x_i(a), and how they are spelled
  abbrev three : Index f.datum → Elem f.field → Elem f.field → Word (setting f)
  three i a b = X (simple_name f.datum i) a ∷ X (opposite_name f.datum (simple_name f.datum i)) b ∷ X (simple_name f.datum i) a ∷ []

  abbrev three_spelled : ℕ → ℕ → ℕ → List CodeLetter
  three_spelled i a b = CodeX (pos i) a ∷ (CodeX (neg_ℤ (pos i)) b ∷ (CodeX (pos i) a ∷ []))

  -- the three letters, spelled
  spell_three : (i : Index f.datum) (a b : Elem f.field) (m n : ℕ) → a.number ≡ m → b.number ≡ n → map (spelled f) (three i a b) ≡ three_spelled (suc i.number) m n
  spell_three i a b m n p q =
      let simple = number_simple f.datum lawful.loaded i in
      let opposite = number_opposite f.datum lawful.loaded (simple_name f.datum i) ∙ ap neg_ℤ simple in
      ap₂ (λ j k. CodeX j a.number ∷ (CodeX k b.number ∷ (CodeX j a.number ∷ []))) simple opposite
      ∙ ap₂ (three_spelled (suc i.number)) p q

  -- -1
  minus_one : (elem_neg f.field (one_elem f.field)).number ≡ neg f.field.given 1
  minus_one = elem_neg-number f.field (one_elem f.field) ∙ ap (neg f.field.given) (one_elem-number f.field)

  module _ (v : Module) where
    -- `n_i = x_i(1) x_-i(-1) x_i(1)`
    pub S5-respected : (i : Index f.datum) → word_matrix f.field v (map (spelled f) (N i ∷ [])) ≡ word_matrix f.field v (map (spelled f) (three i (one_elem f.field) (elem_neg f.field (one_elem f.field))))
    S5-respected i =
        weyl-letters f.field v (suc i.number) []
        ∙ ap (word_matrix f.field v) (sym (spell_three i (one_elem f.field) (elem_neg f.field (one_elem f.field)) 1 (neg f.field.given 1) (one_elem-number f.field) minus_one))

    -- `n_i' = x_i(-1) x_-i(1) x_i(-1)`
    pub S5-inverse-respected : (i : Index f.datum) → word_matrix f.field v (map (spelled f) (Ninv i ∷ [])) ≡ word_matrix f.field v (map (spelled f) (three i (elem_neg f.field (one_elem f.field)) (one_elem f.field)))
    S5-inverse-respected i =
        inverse-letters f.field v (suc i.number) []
        ∙ ap (word_matrix f.field v) (sym (spell_three i (elem_neg f.field (one_elem f.field)) (one_elem f.field) (neg f.field.given 1) 1 minus_one (one_elem-number f.field)))

    module _ (eta : Signs) (meets : MeetsIdentities f.datum f.constants eta v) where
      -- `n_i x_s(a) = x_(s_i s)(eta_is a) n_i`, where e is the sign read in the field
      pub S7-respected : (i : Index f.datum) (s : RootName f.datum) (a e : Elem f.field) → e.number ≡ of_int f.field.given (eta (suc i.number) (signed_number f.datum s))
          → word_matrix f.field v (map (spelled f) (N i ∷ X s a ∷ [])) ≡ word_matrix f.field v (map (spelled f) (X (reflect_name f.datum i s) (elem_mul f.field e a) ∷ N i ∷ []))
      S7-respected i s a e sign =
          s7-holds f.field f.datum f.constants eta v meets (suc i.number) (signed_number f.datum s) (index_is f.datum i) (named_is f.datum s).number a.number (elem_of f lawful eta v meets a)
          ∙ ap₂ (λ k n. word_matrix f.field v (CodeX k n ∷ (CodeN (suc i.number) ∷ []))) (sym (number_reflect f.datum lawful.loaded i s))
          (ap (λ n. mul f.field.given n a.number) (sym sign) ∙ sym (elem_mul-number f.field e a))

      -- the simple coroot is one of the list
      coroot_in : (i : Index f.datum) → IsVectorIn (dim f) (simple_coroot f.datum.base (suc i.number))
      coroot_in i =
          let h = index_is f.datum i in
          let input = lawful.loaded.axioms.input in
          (input.coroots ((suc i.number) - 1) [] (let l = h.1 in let e = input.corank in omega (arith, l, e))).0

      -- `x_i(t) x_-i(-1/t) x_i(t) x_i(-1) x_-i(1) x_i(-1)` is the coroot of i at t, for t not 0
      pub S6-respected : (i : Index f.datum) (t : Elem f.field) → ¬ (t ≡ zero_elem f.field)
          → word_matrix f.field v (map (spelled f) (three i t (elem_neg f.field (elem_inv f.field t)) ++ three i (elem_neg f.field (one_elem f.field)) (one_elem f.field)))
          ≡ word_matrix f.field v (map (spelled f) (H (coroot_at f i t) ∷ []))
      unfolding coroot_at
      S6-respected i t apart =
          let F = f.field in
          let u = as_nonzero F t in
          let y = simple_coroot f.datum.base (suc i.number) in
          let long = coroot_in i in
          let turned = elem_neg-number F (elem_inv F t) ∙ ap (neg F.given) (elem_inv-number F t) in
          ap₂ (λ a b. word_matrix F v (a ++ b)) (spell_three i t (elem_neg F (elem_inv F t)) t.number (neg F.given (inv F.given t.number)) refl turned)
          (spell_three i (elem_neg F (one_elem F)) (one_elem F) (neg F.given 1) 1 minus_one (one_elem-number F))
          ∙ s6-holds F f.datum f.constants eta v meets (dim f) (suc i.number) (index_is f.datum i) (λ k l. long.1 k l) t.number (number_positive F t apart, is_below (order F.given) t)
          ∙ ap (λ ts. word_matrix F v (CodeH ts ∷ []))
          (ap (cocharacter F (dim f) y) (sym (ap (λ z. z.number) (as_nonzero-element F t apart)))
          ∙ sym (powers-numbers F u (dim f) y (let e = long.0 in let s = lawful.loaded.axioms.input.dim.1 in omega (arith, e, s))))
