use Rattle.std.proofs.Common.{◌++◌, [], ◌∷◌, get_or, sym, ap₂, ◌∙◌, arith}
use Rattle.std.specs.Prelude.{pos}
use Rattle.std.proofs.lemmas.Bool.{false≢true}
use Rattle.std.proofs.lemmas.List.{take_more, get_or_default}
use Rattle.lie_poly.specs.Terms.{Term, Terms, term}
use Rattle.lie_poly.proofs.TermLemmas.{same_from_test, test_from_same}
use Rattle.lie_poly.proofs.differences.common_front.Goals as goal

pub front-preserved : goal.front-preserved
front-preserved c =
    let xs = c.args.xs.now in
    let ys = c.args.ys.now in
    let n = c.front.front in
    let d = term (pos 0, pos 0) (pos 0) in
    let same = same_from_test (get_or xs n d) (get_or ys n d) (sym c.eq.ensures ∙ c.if-eq.true) in (
      omega (arith, c.front-test.true),
      omega (arith, c.if-front-ys.true),
      take_more xs n d c.front-test.true
          ∙ ap₂ (λ (v : Terms) (x : Term). v ++ x ∷ []) c.front.invariant.2 same
          ∙ sym (take_more ys n d c.if-front-ys.true),
    )

pub returns-else-eq-clause-last : goal.returns-else-eq-clause-last
returns-else-eq-clause-last c = λ h k x same.
    let xs = c.args.xs.now in
    let ys = c.args.ys.now in
    let n = c.front.front in
    let d = term (pos 0, pos 0) (pos 0) in
    let equal = get_or_default xs n d x h ∙ same ∙ get_or_default ys n x d k in
    false≢true (sym c.if-eq.false ∙ c.eq.ensures ∙ test_from_same (get_or xs n d) (get_or ys n d) equal)
