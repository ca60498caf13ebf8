use Rattle.std.proofs.Common.{◌≡◌, ◌<◌, ◌+◌, ap, ◌∙◌, arith, unsigned_abs, rules}
use Rattle.std.proofs.lemmas.Int.{to_z-of_z}
use mir.Val.{SFits}
use mir.Syntax.{w32}
use Rattle.lie_datum.specs.RootDatum.{rank}
use Rattle.lie_weight.specs.Conjugation.{absolute_height, reflected_height}
use Rattle.lie_weight.proofs.CompletionLemmas.{not_lowered, height_of, more_indices, is_lowered}
use Rattle.lie_weight.proofs.completion.lowered.Goals as goal

pub returns-then-unsigned_abs-height : goal.returns-then-unsigned_abs-height
returns-then-unsigned_abs-height c =
    let d = c.args.datum.now in
    let r = c.args.r in
    let f : SFits w32 c.height.result = search rules in
    let g : SFits w32 c.height-in-loop-i.result = search rules in
    let n = c.loop-i.i in
    let inside : n < rank d.base = let t = c.loop-i-test.true in let l = c.l-i-end.ensures in omega (arith, t, l) in
    let top : c.unsigned_abs-height.result ≡ absolute_height d r = c.unsigned_abs-height.ensures.value ∙ ap unsigned_abs (to_z-of_z w32 c.height.result f ∙ c.height.ensures) in
    let down : c.unsigned_abs.result ≡ reflected_height d (n + 1) r = c.unsigned_abs.ensures.value ∙ ap unsigned_abs (to_z-of_z w32 c.height-in-loop-i.result g) ∙ height_of d c.loaded.ensures r c.requires.number (n + 1) c.reflect-s.result c.height-in-loop-i.result c.height-in-loop-i.ensures c.reflect-s.ensures.root in
    is_lowered d c.loaded.ensures r c.requires.number n c.reflect-s.result inside c.requires.past c.reflect-s.ensures.number c.reflect-s.ensures.root (let t = c.if-unsigned_abs-height.true in omega (arith, t, top, down)) c.loop-i.invariant

pub loop-i-preserved : goal.loop-i-preserved
loop-i-preserved c =
    let d = c.args.datum.now in
    let r = c.args.r in
    let f : SFits w32 c.height.result = search rules in
    let g : SFits w32 c.height-in-loop-i.result = search rules in
    let n = c.loop-i.i in
    let top : c.unsigned_abs-height.result ≡ absolute_height d r = c.unsigned_abs-height.ensures.value ∙ ap unsigned_abs (to_z-of_z w32 c.height.result f ∙ c.height.ensures) in
    let down : c.unsigned_abs.result ≡ reflected_height d (n + 1) r = c.unsigned_abs.ensures.value ∙ ap unsigned_abs (to_z-of_z w32 c.height-in-loop-i.result g) ∙ height_of d c.loaded.ensures r c.requires.number (n + 1) c.reflect-s.result c.height-in-loop-i.result c.height-in-loop-i.ensures c.reflect-s.ensures.root in
    more_indices d c.loaded.ensures r c.requires.number n (let t = c.if-unsigned_abs-height.false in omega (arith, t, top, down)) c.loop-i.invariant

pub returns : goal.returns
returns c =
    let t = c.loop-i-test.false in
    let a = c.loop-i.auto in
    let l = c.l-i-end.ensures in
    not_lowered c.args.datum.now c.loaded.ensures c.args.r c.requires.number c.loop-i.i (omega (arith, t, l)) c.loop-i.invariant
