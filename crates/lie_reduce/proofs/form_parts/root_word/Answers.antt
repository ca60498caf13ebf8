use Rattle.std.proofs.Common.{◌≡◌, ◌∙◌, ◌+◌, ◌-◌, ◌<◌, ◌∷◌, ◌++◌, [], suc, ap, ap₂, sym, arith, length, get_or}
use Rattle.std.specs.Prelude.{pos}
use Rattle.std.proofs.lemmas.List.{take_all}
use Rattle.lie_letters.specs.declared.letter.Letter.TheVariants.{X}
use Rattle.lie_letters.specs.RingLetters.{full_word}
use Rattle.lie_letters.specs.Spelled.{root_letters}
use Rattle.lie_reduce.proofs.CoefficientLemmas.{place_number}
use Rattle.lie_reduce.proofs.FullLetters.{full-more}
use Rattle.lie_reduce.proofs.form_parts.root_word.Goals as goal

pub loop-k-preserved : goal.loop-k-preserved
loop-k-preserved c =
    let u = c.args.list.now in
    let k = c.loop-k.k in
    let m = length c.args.datum.now.positive in
    let test = c.loop-k-test.true in
    let end = c.m-k-end.ensures.value in
    let low : k < m = omega (arith, test, end) in
    let long = c.requires in
    let inside : k < length u = omega (arith, low, long) in
    let next : suc k ≡ k + 1 = omega arith in
    let place : k + 1 - 1 ≡ k = omega arith in
    let root = c.root_at.ensures.value ∙ place_number m k low ∙ ap pos next in
    let value = c.coeff.ensures ∙ ap (λ j. get_or u j 0) place in
    c.in_ok-push.ensures.pushed ∙ ap₂ (λ w x. w ++ x ∷ []) c.loop-k.invariant (ap₂ X root value)
    ∙ sym (full-more u k (get_or u k 0) inside (let e : get_or u k 0 ≡ get_or u k 0 = cc in e))

pub returns : goal.returns
returns c =
    let u = c.args.list.now in
    let test = c.loop-k-test.false in
    let end = c.m-k-end.ensures.value in
    let long = c.requires in
    c.loop-k.invariant ∙ ap (λ w. root_letters (full_word w)) (take_all c.loop-k.k u (let a = c.loop-k.auto in omega (arith, test, end, long)))
