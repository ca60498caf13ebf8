use Rattle.std.proofs.Common.{subst}
use Rattle.std.specs.Prelude.{MatchOption}
use Rattle.lie_reduce.specs.FormReading.{HasNoFormOf, IsWordRead}
use Rattle.lie_reduce.specs.Reduction.{HasPivots}
use Rattle.lie_reduce.proofs.CoefficientLemmas.{covering_for}
use Rattle.lie_reduce.proofs.FormReadingLemmas.{no-word}
use Rattle.lie_reduce.proofs.reduction.reduce.Goals as goal

pub returns-in-None-2 : goal.returns-in-None-2
returns-in-None-2 c =
    let f = c.args.frame.now in
    let a = c.args.audited.now in
    let v = a.module in
    let M = c.args.m.now in
    let ground = covering_for f a c.lawful.ensures c.module.ensures.audited c.requires.covers in
    let found = subst (HasPivots f v M) c.in-Some.is c.in_ok-w.ensures in
    let none = subst (λ z. MatchOption z (HasNoFormOf f v M c.in-Some.w) (IsWordRead f v M c.in-Some.w)) c.in-None-2.is c.in_ok-word-in-Some.ensures in
    no-word f v ground M (λ y h. none y h (found.1 y h))
