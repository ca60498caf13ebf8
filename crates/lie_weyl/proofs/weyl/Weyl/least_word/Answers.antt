use Rattle.std.proofs.Common.{reverse, subst, sym, ◌∙◌}
use Rattle.std.proofs.lemmas.List.{reverse-reverse}
use Rattle.std.proofs.lemmas.Result.{IfOk-weaker}
use Rattle.lie_weyl.specs.Descents.{IsLeastOf}
use Rattle.lie_weyl.specs.WeylElement.{IsLeastWord}
use Rattle.lie_weyl.proofs.ElementLemmas.{is_least_word}
use Rattle.lie_weyl.proofs.weyl.Weyl.least_word.Goals as goal

pub inverse_word-requires : goal.inverse_word-requires
inverse_word-requires c = (reverse c.requires.0, c.inverse.ensures.word c.requires.0 c.requires.1)

pub returns : goal.returns
returns c =
    let d = c.args.datum.now in
    let w = c.requires.0 in
    let s = c.requires.1 in
    let least = c.inverse_word.ensures.least (reverse w) (c.inverse.ensures.word w s) in
    let here = is_least_word d c.loaded.ensures w c.inverse_word.result.items c.args.self.now s (subst (λ v. IsLeastOf d v c.inverse_word.result.items) (reverse-reverse w) least) in
    IfOk-weaker c.copied.result _ _ (λ copy e. subst (λ v. IsLeastWord d v c.args.self.now) (sym (e ∙ c.deref.ensures.0)) here) c.copied.ensures
