use Rattle.std.proofs.Common.{◌≡◌, ◌-◌, ◌<◌, ◌∷◌, length, drop, get_or, sym, ap, subst, ◌∙◌, arith}
use Rattle.lie_weight.specs.Tables.{given_matrix}
use Rattle.lie_weight.proofs.GivenLemmas.{blank, given_start, given_square, drop_more}
use Rattle.lie_weight.proofs.sources.given_matrix.Goals as goal

pub loop-past-init : goal.loop-past-init
loop-past-init c = (c.in_ok-matrix.ensures.value ∙ given_start c.args.size c.args.entries.now c.args.root c.args.power, c.in_ok-matrix.ensures.fit (record {}))

pub set_given-requires-clause-row : goal.set_given-requires-clause-row
set_given-requires-clause-row c =
    let es = c.args.entries.now in
    let p = c.loop-past.past in
    let l : p < length es = let t = c.loop-past-test.true in omega (arith, t) in
    let s = given_square c.args.size (drop (length es - p) es) c.args.root c.args.power c.loop-past.matrix c.loop-past.invariant.0 c.loop-past.invariant.1 in
    let r = c.requires.rows (length es - 1 - p) blank (omega (arith, l)) in
    (r.0, (let h = s.height in let u = r.1 in omega (arith, h, u)))

pub set_given-requires-clause-col : goal.set_given-requires-clause-col
set_given-requires-clause-col c =
    let es = c.args.entries.now in
    let p = c.loop-past.past in
    let l : p < length es = let t = c.loop-past-test.true in omega (arith, t) in
    let s = given_square c.args.size (drop (length es - p) es) c.args.root c.args.power c.loop-past.matrix c.loop-past.invariant.0 c.loop-past.invariant.1 in
    let r = c.requires.cols (length es - 1 - p) blank (omega (arith, l)) in
    (r.0, (let h = s.height in let u = r.1 in omega (arith, h, u)))

pub set_given-requires-clause-square : goal.set_given-requires-clause-square
set_given-requires-clause-square c =
    let es = c.args.entries.now in
    let p = c.loop-past.past in
    let s = given_square c.args.size (drop (length es - p) es) c.args.root c.args.power c.loop-past.matrix c.loop-past.invariant.0 c.loop-past.invariant.1 in
    s.width ∙ sym s.height

pub loop-past-preserved : goal.loop-past-preserved
loop-past-preserved c =
    let es = c.args.entries.now in
    let p = c.loop-past.past in
    let M = c.loop-past.matrix in
    let r = c.args.root in
    let k = c.args.power in
    let l : p < length es = let t = c.loop-past-test.true in omega (arith, t) in
    let rest = drop (length es - p) es in
    let e = get_or es (length es - 1 - p) blank in
    let s = given_square c.args.size rest r k M c.loop-past.invariant.0 c.loop-past.invariant.1 in
    let old : M ≡ given_matrix M.height rest r k = subst (λ h. M ≡ given_matrix h rest r k) (sym s.height) c.loop-past.invariant.0 in
    (c.in_ok-set_given.ensures.given rest old ∙ ap (λ h. given_matrix h (e ∷ rest) r k) s.height ∙ ap (λ fs. given_matrix c.args.size fs r k) (drop_more es p blank l), c.in_ok-set_given.ensures.fit)
