-- The tables of negatives and of Zech's logarithms, as they are made.
use Rattle.std.proofs.Common.{◌≡◌, ℕ, zero, suc, ◌-◌, ◌<◌, List, Option, None, map, length, get_or, sym, ap, ◌∙◌, subst, arith}
use Rattle.std.specs.List.{range_with_len}
use Rattle.std.proofs.lemmas.List.{get_or-map, length-map}
use Rattle.std.proofs.lemmas.List.FromFn.{get_or-map-range_with_len, length-map-range_with_len}
use Rattle.lie_field.specs.Polynomials.{plus, scale, residues, number, digits}
use Rattle.lie_field.specs.Quotient.{FieldData, degree, order, add, power, IsRingData}
use Rattle.lie_field.specs.FieldTables.{log_at, ArePowers, AreNegatives, IsZech, AreZech}
use Rattle.lie_field.specs.Algebra.Laws.{add-digits, neg-digits, add_below}

-- the numbers with the digits of the negatives
pub negatives_from : (f : FieldData) → IsRingData f → (k q : ℕ) (xs : List ℕ) → k ≡ degree f → q ≡ order f →
    xs ≡ map (λ a. number f.p (residues f.p (scale (f.p - 1) (digits f.p k a)))) (range_with_len 0 q) → AreNegatives f xs
negatives_from f d k q xs k_is q_is e =
    let h = λ (a : ℕ). number f.p (residues f.p (scale (f.p - 1) (digits f.p k a))) in
    record {
      negatives_length = ap length e ∙ length-map-range_with_len h 0 q ∙ q_is;
      negatives_are = λ a small.
          ap (λ v. get_or v a 0) e ∙ get_or-map-range_with_len h 0 q a a 0 (omega (arith, q_is, small)) (omega arith)
          ∙ ap (λ i. number f.p (residues f.p (scale (f.p - 1) (digits f.p i a)))) k_is ∙ neg-digits f d a;
    }

-- the logarithm of 1 + g^e, and none where that is 0
zech_at : (f : FieldData) (d : IsRingData f) (powers logs : List ℕ) → ArePowers f powers logs → (e s : ℕ) → s ≡ add f 1 (power f f.g e) → IsZech f e (log_at logs s)
zech_at f d powers logs t e zero is = sym is
zech_at f d powers logs t e (suc n) is =
    let below : suc n < order f = let b = add_below f d 1 (power f f.g e) in omega (arith, is, b) in
    (t.logs_below (suc n) (omega arith) below, t.logs_are (suc n) (omega arith) below ∙ is)

-- the logarithms of the sums of 1 and each power
pub zech_from : (f : FieldData) → IsRingData f → (k : ℕ) (powers logs : List ℕ) (xs : List (Option ℕ)) → k ≡ degree f → ArePowers f powers logs →
    xs ≡ map (λ a. log_at logs (number f.p (residues f.p (plus (digits f.p k 1) (digits f.p k a))))) powers → AreZech f xs
zech_from f d k powers logs xs k_is t e =
    let h = λ (a : ℕ). log_at logs (number f.p (residues f.p (plus (digits f.p k 1) (digits f.p k a)))) in
    record {
      zech_length = ap length e ∙ length-map powers h ∙ t.powers_length;
      zech_are = λ i small.
          let at : get_or xs i None ≡ h (power f f.g i) =
          ap (λ v. get_or v i None) e ∙ get_or-map h powers i 0 None (let l = t.powers_length in omega (arith, l, small)) ∙ ap h (t.powers_are i small) in
          let sum : number f.p (residues f.p (plus (digits f.p k 1) (digits f.p k (power f f.g i)))) ≡ add f 1 (power f f.g i) =
          ap (λ j. number f.p (residues f.p (plus (digits f.p j 1) (digits f.p j (power f f.g i))))) k_is ∙ add-digits f d 1 (power f f.g i) in
          subst (IsZech f i) (sym at) (zech_at f d powers logs t i _ sum);
    }
