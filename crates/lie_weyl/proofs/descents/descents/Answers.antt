use Rattle.std.proofs.Common.{◌+◌, [], ◌∷◌, ◌++◌, length, sym, ap, subst, ◌∙◌, arith}
use Rattle.std.proofs.lemmas.List.{append-nil}
use Rattle.lie_weyl.specs.WeylElement.{AreLetters}
use Rattle.lie_weyl.specs.Descents.{AreHeights}
use Rattle.lie_weyl.proofs.Words.{is_word, are_letters, IsWord-append, one_letter, empty}
use Rattle.lie_weyl.proofs.DescentLemmas.{AreDescents}
use Rattle.lie_weyl.proofs.HeightSigns.{negative_index}
use Rattle.lie_weyl.proofs.DescentRuns.{run_more, run_ends, run_full}
use Rattle.lie_weyl.proofs.descents.descents.Goals as goal

pub loop-init : goal.loop-init
loop-init c =
    let d = c.args.datum.now in
    let e = c.new-word.ensures in (
      ap length e,
      subst (AreLetters d.base) (sym e) (are_letters d.base [] empty),
      c.requires,
      (λ w l at. (subst (AreDescents d w) (sym e) tt, subst (λ v. AreHeights d v c.args.heights.now) (sym (ap (λ v. w ++ v) e ∙ append-nil w)) at)),
    )

pub returns-in-None-clause-least : goal.returns-in-None-clause-least
returns-in-None-clause-least c = λ w l at.
    let d = c.args.datum.now in
    let run = c.loop.invariant.3 w l at in
    run_ends d c.loaded.ensures w (is_word d.base w l) c.loop.word.items c.loop.left run.0 run.1 c.loop.invariant.2 c.in-None.ensures

pub push-requires : goal.push-requires
push-requires c =
    let n = c.loop.invariant.0 in
    let t = c.loop-test.true in
    let m = c.m-end.ensures.bound in
    omega (arith, n, t, m)

pub loop-preserved : goal.loop-preserved
loop-preserved c =
    let d = c.args.datum.now in
    let k = c.in-Some.k in
    let word = c.loop.word.items in
    let e = c.push.ensures.items in
    let n = c.loop.invariant.0 in
    let m = c.push.ensures.len in
    let f = c.in-Some.ensures in
    let s = negative_index d c.loaded.ensures c.loop.left k c.loop.invariant.2 f.2 in (
      omega (arith, n, m),
      subst (AreLetters d.base) (sym e) (are_letters d.base (word ++ (k + 1) ∷ []) (IsWord-append d.base word ((k + 1) ∷ []) (is_word d.base word c.loop.invariant.1) (one_letter d.base (k + 1) s))),
      c.turned-left.ensures.rest c.loop.invariant.2,
      (λ w l at. (let run = c.loop.invariant.3 w l at in subst (λ p. AreDescents d w p × AreHeights d (w ++ p) c.turned-left.result) (sym e)
          (run_more d c.loaded.ensures w (is_word d.base w l) word c.loop.left c.turned-left.result k run.0 run.1 c.loop.invariant.2 f.2 c.turned-left.ensures.turned))),
    )

pub returns-clause-least : goal.returns-clause-least
returns-clause-least c = λ w l at.
    let d = c.args.datum.now in
    let run = c.loop.invariant.3 w l at in
    let n = c.loop.invariant.0 in
    let t = c.loop-test.false in
    let m = c.m-end.ensures.value in
    run_full d c.loaded.ensures w (is_word d.base w l) c.loop.word.items run.0 (omega (arith, n, t, m))
