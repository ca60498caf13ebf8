use Rattle.std.proofs.Common.{◌≡◌, ◌≤◌, ℤ, pos, ◌*ℤ◌, ap, subst, sym, ◌∙◌, refl, rules, lit<, unsigned_abs, ◌^◌}
use Rattle.std.proofs.lemmas.Int.{to_z-of_z}
use Rattle.std.specs.Int.RustNames.{FitsSigned}
use Rattle.lie_const.specs.declared.term.Term.{Term}
use Rattle.std.specs.Option.{is_some, option_map}
use mir.Val.{to_z, of_z}
use mir.Syntax.{w128}
use Rattle.lie_datum.proofs.VectorLemmas.{plain}
use Rattle.lie_datum.specs.RootList.{NamesRoot, root_of}
use Rattle.lie_const.specs.StructureConstants.{coeffs_of}
use Rattle.lie_const.specs.CommutatorTerms.{term_vector, coefficient}
use Rattle.lie_const.specs.Filling.{table_in}
use Rattle.lie_const.specs.TermFilling.{absent, present}
use Rattle.lie_const.proofs.FoundRoots.{find_root_named, number_of_is}
use Rattle.lie_const.proofs.terms.add_term.Goals as goal

above : (z : ℤ) → unsigned_abs z ≤ 2 ^ 40 → to_z w128 (of_z w128 z) ≡ z
above z l = plain z (2 ^ 40) l (lit< tt)

below : (z : ℤ) → unsigned_abs z ≤ 6 → to_z w128 (of_z w128 z) ≡ z
below z l = plain z 6 l (lit< tt)

pub returns-in_default : goal.returns-in_default
returns-in_default c =
    let d = c.args.datum.now in
    let v = term_vector d c.args.r c.args.s (c.args.i, c.args.j) in
    let named = subst (λ v. NamesRoot d (λ t. t.coeffs ≡ v) c.named.result) c.term_vector.ensures c.named.ensures in
    absent (ap is_some (find_root_named d c.loaded.ensures v c.named.result named ∙ ap (option_map (root_of d)) c.in_default.is)) refl

pub returns-in_default-whole : goal.returns-in_default-whole
returns-in_default-whole c =
    let d = c.args.datum.now in
    let v = term_vector d c.args.r c.args.s (c.args.i, c.args.j) in
    let named = subst (λ v. NamesRoot d (λ t. t.coeffs ≡ v) c.named.result) c.term_vector.ensures c.named.ensures in
    (refl, refl, refl, ap is_some (find_root_named d c.loaded.ensures v c.named.result named ∙ ap (option_map (root_of d)) c.in-Some.is), λ q h. c.in_default-whole.ensures q (ap (λ t. q *ℤ t) (below c.coefficient-above.result.1 c.coefficient-above.ensures.bound.2 ∙ c.coefficient-above.ensures.below) ∙ h ∙ sym (above c.coefficient-above.result.0 c.coefficient-above.ensures.bound.0 ∙ c.coefficient-above.ensures.above)))

pub returns : goal.returns
returns c =
    let d = c.args.datum.now in
    let v = term_vector d c.args.r c.args.s (c.args.i, c.args.j) in
    let named = subst (λ v. NamesRoot d (λ t. t.coeffs ≡ v) c.named.result) c.term_vector.ensures c.named.ensures in
    let root = subst (NamesRoot d (λ t. t.coeffs ≡ v)) c.in-Some.is named in
    let fit : FitsSigned w128 c.in-Some-whole.value = search rules in
    let term : Term = record { i = c.args.i; j = c.args.j; root = c.in-Some.root; value = to_z w128 (of_z w128 c.in-Some-whole.value) } in
    present term (ap is_some (find_root_named d c.loaded.ensures v c.named.result named ∙ ap (option_map (root_of d)) c.in-Some.is))
    (record {
      i = refl;
      j = refl;
      root = sym (number_of_is d c.loaded.ensures c.in-Some.root v root.0 root.1);
      value = ap (λ t. t *ℤ pos (coefficient d (table_in c.args.values.now) (coeffs_of d c.args.r) (coeffs_of d c.args.s) c.args.i c.args.j).below) (to_z-of_z w128 c.in-Some-whole.value fit)
          ∙ ap (λ t. c.in-Some-whole.value *ℤ t) (sym (below c.coefficient-above.result.1 c.coefficient-above.ensures.bound.2 ∙ c.coefficient-above.ensures.below)) ∙ c.in-Some-whole.ensures
          ∙ above c.coefficient-above.result.0 c.coefficient-above.ensures.bound.0 ∙ c.coefficient-above.ensures.above;
    }) c.in_ok-push.ensures.items
