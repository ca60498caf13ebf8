use Rattle.std.proofs.Common.{◌+◌, ℤ, pos, neg_ℤ, ◌≡◌, ◌*ℤ◌, Option, None, Some, MatchOption, arith, subst, ◌⊎◌, ℕ}
use Rattle.std.proofs.lemmas.Int.{to_z-of_z}
use mir.Val.{to_z, of_z}
use mir.Syntax.{w128}
use Rattle.lie_datum.specs.RootList.{RootDatum, IsString, root_of}
use Rattle.lie_const.specs.Filling.{IsUnitSolution, HasNoSolution}
use Rattle.lie_const.proofs.StringLemmas.{string_short}
use Rattle.lie_const.proofs.PutLemmas.{one_string}
use Rattle.lie_const.proofs.filling.unit_solution.Goals as goal

pub overflow_add-string : goal.overflow_add-string
overflow_add-string c = let l = string_short c.args.datum.now c.loaded.ensures c.args.r c.args.s c.string.result.0 c.string.result.1 c.requires.r c.requires.s c.string.ensures in omega (arith, l)

pub signed_unit-requires-clause-unit : goal.signed_unit-requires-clause-unit
signed_unit-requires-clause-unit c = let l = string_short c.args.datum.now c.loaded.ensures c.args.r c.args.s c.string.result.0 c.string.result.1 c.requires.r c.requires.s c.string.ensures in (omega arith, omega (arith, l))

-- what solves the equation with the unit of this string solves it with that of every string
solution : (d : RootDatum) (r s a e : ℤ) (p q : ℕ) → IsString d (root_of d r) (root_of d s) p q → (o : Option ℤ) →
    MatchOption o (¬ (e ≡ pos (p + 1) *ℤ a) × ¬ (e ≡ neg_ℤ (pos (p + 1) *ℤ a))) (λ c. (c *ℤ a ≡ e) × ((c ≡ pos (p + 1)) ⊎ (c ≡ neg_ℤ (pos (p + 1))))) →
    MatchOption o (HasNoSolution d r s a e) (IsUnitSolution d r s a e)
solution d r s a e p q t None h = λ i j u. (let k = one_string d r s p q i j t u in subst (λ n. ¬ (e ≡ pos (n + 1) *ℤ a) × ¬ (e ≡ neg_ℤ (pos (n + 1) *ℤ a))) k h)
solution d r s a e p q t (Some c) h = record { solves = h.0; unit = λ i j u. (let k = one_string d r s p q i j t u in subst (λ n. (c ≡ pos (n + 1)) ⊎ (c ≡ neg_ℤ (pos (n + 1)))) k h.1) }

pub returns-clause-value : goal.returns-clause-value
returns-clause-value c =
    let u = c.string.result.0 + 1 in
    let P : ℤ → ℤ → Type 0 = λ e a. MatchOption c.signed_unit.result (¬ (e ≡ pos u *ℤ a) × ¬ (e ≡ neg_ℤ (pos u *ℤ a))) (λ v. (v *ℤ a ≡ e) × ((v ≡ pos u) ⊎ (v ≡ neg_ℤ (pos u)))) in
    let e = to_z-of_z w128 c.args.e c.ranges.e in
    let a = to_z-of_z w128 c.args.a c.ranges.a in
    solution c.args.datum.now c.args.r c.args.s c.args.a c.args.e c.string.result.0 c.string.result.1 c.string.ensures c.signed_unit.result
    (subst (λ t. P t c.args.a) e (subst (P (to_z w128 (of_z w128 c.args.e))) a c.signed_unit.ensures.value))
