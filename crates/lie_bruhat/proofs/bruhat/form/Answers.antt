use Rattle.lie_bruhat.proofs.WordForms.{one_form_of, letter_more}
use Rattle.lie_bruhat.proofs.bruhat.form.Goals as goal

pub loop-k-init : goal.loop-k-init
loop-k-init c =
    let e = c.in_ok-form.ensures in
    one_form_of c.args.frame.now c.lawful.ensures c.in_ok-form.form e.form e.first e.torus e.weyl e.second

pub loop-k-preserved : goal.loop-k-preserved
loop-k-preserved c =
    letter_more c.args.frame.now c.loop-k.form c.in_ok-form-2.form c.letters-letters.result.now c.loop-k.k c.index-letters-k.result c.loop-k-test.true c.index-letters-k.is
    c.in_ok-form-2.ensures.times c.loop-k.invariant
