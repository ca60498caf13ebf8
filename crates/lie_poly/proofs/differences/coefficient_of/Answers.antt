use Rattle.std.proofs.Common.{rules, ◌∙◌, SFits, pos}
use Rattle.std.specs.Int.{w128}
use Rattle.std.proofs.lemmas.Int.{to_z-of_z}
use Rattle.std.proofs.lemmas.List.Sorted.{answers_always}
use Rattle.std.proofs.Common.{Ok, Err, get_or}
use Rattle.lie_poly.specs.Terms.{term}
use Rattle.lie_poly.proofs.SearchLemmas.{searched}
use Rattle.lie_poly.proofs.differences.coefficient_of.Goals as goal

pub returns-in-Ok : goal.returns-in-Ok
returns-in-Ok c =
    let xs = c.args.terms.now in
    let d = term (pos 0, pos 0) (pos 0) in
    let by_key = c.in-Ok.ensures.position (λ y. y.exponents) (answers_always _ _ _ (λ f a r g called. search rules)) in
    let found = searched xs c.args.exponents d (Ok c.in-Ok.k) c.requires c.in-Ok.ensures.bound by_key in
    let small : SFits w128 (get_or xs c.in-Ok.k d).coefficient = search rules in
    to_z-of_z w128 (get_or xs c.in-Ok.k d).coefficient small ∙ found

pub returns-in-Err : goal.returns-in-Err
returns-in-Err c =
    let xs = c.args.terms.now in
    let d = term (pos 0, pos 0) (pos 0) in
    let by_key = c.in-Err.ensures.position (λ y. y.exponents) (answers_always _ _ _ (λ f a r g called. search rules)) in
    searched xs c.args.exponents d (Err c.in-Err.field-0) c.requires c.in-Err.ensures.bound by_key
