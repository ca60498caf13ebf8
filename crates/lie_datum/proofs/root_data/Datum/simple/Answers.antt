use Rattle.std.proofs.Common.{◌-◌, pos, ap, subst, sym, ◌∙◌, arith}
use Rattle.lie_datum.specs.RootList.{IsNumber, root_of}
use Rattle.lie_datum.specs.Numbers.{number_at}
use Rattle.lie_datum.proofs.NumberLemmas.{place_within}
use Rattle.lie_datum.proofs.SimplesFirst.{simple_number, simple_at}
use Rattle.lie_datum.proofs.root_data.Datum.simple.Goals as goal

pub at-requires-clause-place : goal.at-requires-clause-place
at-requires-clause-place c =
    let d = c.args.self.now in
    let p = (place_within d (pos c.args.i) (simple_number d c.loaded.ensures c.args.i c.requires).0).1 in
    let h = c.requires.0 in
    let e = c.m.ensures.value in
    omega (arith, p, h, e)

pub returns-clause-value : goal.returns-clause-value
returns-clause-value c = let d = c.args.self.now in c.at.ensures ∙ ap (λ m. number_at m (c.args.i - 1)) c.m.ensures.value ∙ simple_at d c.loaded.ensures c.args.i c.requires

pub returns-clause-number : goal.returns-clause-number
returns-clause-number c = let d = c.args.self.now in subst (IsNumber d) (sym (returns-clause-value c)) (simple_number d c.loaded.ensures c.args.i c.requires).0

pub returns-clause-root : goal.returns-clause-root
returns-clause-root c = let d = c.args.self.now in ap (root_of d) (returns-clause-value c) ∙ (simple_number d c.loaded.ensures c.args.i c.requires).1
