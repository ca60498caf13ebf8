use mir.Syntax.{w128}
use Rattle.std.proofs.Common.{pos, sym, ap, ◌∙◌, arith}
use Rattle.std.proofs.lemmas.Int.{to_z_pos}
use Rattle.lie_identities.proofs.NaturalSizes.{size_entry-natural}
use Rattle.lie_identities.proofs.sizes.RootSizeEntries.entry.Goals as goal

pub returns-in-Some-clause-value : goal.returns-in-Some-clause-value
returns-in-Some-clause-value c =
    let s = c.args.self.now in
    let small = c.in-Some.ensures.1 in
    to_z_pos w128 c.in-Some.n (omega (arith, small)) ∙ ap pos c.in-Some.ensures.0 ∙ sym (size_entry-natural s.steps.now.module.now s.root s.size c.args.row c.args.col)
