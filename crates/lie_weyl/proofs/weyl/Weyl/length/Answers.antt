use Rattle.std.proofs.Common.{subst, sym}
use Rattle.lie_weyl.specs.WeylElement.{IsLength}
use Rattle.lie_weyl.proofs.ElementLemmas.{is_length}
use Rattle.lie_weyl.proofs.weyl.Weyl.length.Goals as goal

pub returns : goal.returns
returns c =
    let d = c.args.datum.now in
    let w = c.requires.0 in
    let s = c.requires.1 in
    subst (IsLength d c.args.self.now) (sym c.len.ensures.value) (is_length d c.loaded.ensures w c.inverse_word.result.items c.args.self.now s (c.inverse_word.ensures.least w s))
