use Rattle.std.proofs.Common.{subst}
use Rattle.std.specs.Prelude.{MatchOption}
use Rattle.lie_reduce.specs.FormReading.{IsWordWith}
use Rattle.lie_reduce.specs.Reduction.{IsNoPositiveMatrix}
use Rattle.lie_reduce.specs.TorusReading.{IsTorusOf}
use Rattle.lie_reduce.proofs.CoefficientLemmas.{covering_for}
use Rattle.lie_reduce.proofs.FormReadingLemmas.{word-of-parts, no-first, no-second}
use Rattle.lie_reduce.proofs.form_parts.word_of_parts.Goals as goal

pub returns : goal.returns
returns c =
    let f = c.args.frame.now in
    let a = c.args.audited.now in
    let v = a.module in
    let ground = covering_for f a c.lawful.ensures c.module.ensures.audited c.requires.covers in
    no-first f v ground c.args.u.now c.args.d.now c.args.v.now (subst (λ z. MatchOption z (IsNoPositiveMatrix f v c.args.u.now) (IsWordWith f v c.args.u.now)) c.in-None.is c.in_ok-first.ensures)

pub returns-in-Some : goal.returns-in-Some
returns-in-Some c =
    let f = c.args.frame.now in
    let a = c.args.audited.now in
    let v = a.module in
    let ground = covering_for f a c.lawful.ensures c.module.ensures.audited c.requires.covers in
    no-second f v ground c.args.u.now c.args.d.now c.args.v.now (subst (λ z. MatchOption z (IsNoPositiveMatrix f v c.args.v.now) (IsWordWith f v c.args.v.now)) c.in-None-2.is c.in_ok-second-in-Some.ensures)

pub returns-in-Some-2 : goal.returns-in-Some-2
returns-in-Some-2 c =
    let f = c.args.frame.now in
    let a = c.args.audited.now in
    let v = a.module in
    let ground = covering_for f a c.lawful.ensures c.module.ensures.audited c.requires.covers in
    let first = subst (λ z. MatchOption z (IsNoPositiveMatrix f v c.args.u.now) (IsWordWith f v c.args.u.now)) c.in-Some.is c.in_ok-first.ensures in
    let second = subst (λ z. MatchOption z (IsNoPositiveMatrix f v c.args.v.now) (IsWordWith f v c.args.v.now)) c.in-Some-2.is c.in_ok-second-in-Some.ensures in
    let torus = subst (λ z. IsTorusOf z.field z.datum v c.args.d.now c.in_ok-h-in-Some-2.h) c.frame.view_is c.in_ok-h-in-Some-2.ensures in
    word-of-parts f v ground c.args.turn.now c.in-Some.first c.in-Some-2.second c.in_ok-h-in-Some-2.h c.args.u.now c.args.d.now c.args.v.now c.requires.turn first second torus
    c.in_ok-joined_word-in-Some-2.field-0 c.in_ok-joined_word-in-Some-2.ensures
