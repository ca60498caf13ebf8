-- Cover lines: as an array keeps them, and when one more is kept.
use Rattle.std.proofs.Common.{◌≡◌, ℕ, zero, suc, ◌-◌, ◌≤◌, ℤ, List, [], ◌∷◌, get_or, set, replicate, Option, None, Some, option_map, refl, sym, ap, subst, ◌∙◌, arith, ⊎_elim}
use Rattle.std.specs.Global.{Vec}
use Rattle.std.proofs.lemmas.Bool.{cases_eq}
use Rattle.std.proofs.lemmas.List.{get_or-set_same, get_or-set_other}
use Rattle.std.proofs.Math.ListN.{length-set}
use Rattle.lie_datum.specs.RootList.{RootDatum}
use Rattle.lie_const.specs.Modules.{Module}
use Rattle.lie_identities.specs.CoverLines.{CoverLines, no_lines, line_of, with_line, lines_of, IsCombination, AreCoverLines}

-- an array in which a line is put
pub lines-put : (kept : List (Option (Vec ℤ))) (k : ℕ) (c : Vec ℤ) → lines_of (set kept k (Some c)) ≡ set (lines_of kept) k (Some c.items)
lines-put [] k c = refl
lines-put (a ∷ kept) zero c = refl
lines-put (a ∷ kept) (suc k) c = ap (λ t. option_map (λ (c : Vec ℤ). c.items) a ∷ t) (lines-put kept k c)

-- where there are no lines
same_there : {A : Type 0} (n k : ℕ) (z : A) → get_or (replicate n z) k z ≡ z
same_there zero k z = refl
same_there (suc n) zero z = refl
same_there (suc n) (suc k) z = same_there n k z

some_not_none : {A : Type 0} (x : A) (o : Option A) → o ≡ None → o ≡ Some x → ⊥
some_not_none x o none some = let e = sym none ∙ some in cc

same_some : {A : Type 0} (x y : A) → Some x ≡ Some y → x ≡ y
same_some x y e = cc

pub no_cover_lines : (d : RootDatum) (v : Module) → AreCoverLines d v no_lines
no_cover_lines d v = record {
  count = refl;
  each = λ j c first last is. absurd (some_not_none c (line_of no_lines j) (same_there 8 (j - 1) None) is);
}

-- one line more
pub line_added : (d : RootDatum) (v : Module) (lines : CoverLines) (j : ℕ) (c : List ℤ) → 1 ≤ j → j ≤ 8 → AreCoverLines d v lines → IsCombination v j c → AreCoverLines d v (with_line lines j c)
line_added d v lines j c first last before new = record {
  count = length-set lines (j - 1) (Some c) ∙ before.count;
  each = λ i e low high is. ⊎_elim
      (λ (same : i ≡ j).
      (let here : line_of (with_line lines j c) j ≡ Some c = get_or-set_same lines (j - 1) (Some c) None (let n = before.count in omega (arith, first, last, n)) in
      let c_is : c ≡ e = same_some c e (sym here ∙ ap (line_of (with_line lines j c)) (sym same) ∙ is) in
      subst (λ n. IsCombination v n e) (sym same) (subst (IsCombination v j) c_is new)))
      (λ (other : ¬ (i ≡ j)).
      (let apart : ¬ (i - 1 ≡ j - 1) = λ s. other (omega (arith, s, low, first)) in
      before.each i e low high (sym (get_or-set_other lines (j - 1) (i - 1) (Some c) None apart) ∙ is)))
      (cases_eq i j);
}
