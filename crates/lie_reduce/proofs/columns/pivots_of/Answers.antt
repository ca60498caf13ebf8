use Rattle.std.proofs.Common.{◌≡◌, ◌∙◌, ◌+◌, ◌<◌, [], suc, sym, ap, subst, arith}
use Rattle.std.proofs.lemmas.Bool.{lt-ltb}
use Rattle.lie_ring.specs.Matrices.{identity, product, table}
use Rattle.lie_field.specs.FieldRing.{field_ring, field_is_ring}
use Rattle.lie_field.specs.Quotient.{order}
use Rattle.lie_reduce.specs.Pivots.{AreReduced, without_column}
use Rattle.lie_reduce.proofs.UniqueFactors.{one_left}
use Rattle.lie_reduce.proofs.CoefficientLemmas.{known_square}
use Rattle.lie_reduce.proofs.PivotColumns.{reduced-start, reduced-some, reduced-step, reduced-pivots}
use Rattle.lie_reduce.proofs.columns.pivots_of.Goals as goal

pub loop-col-init : goal.loop-col-init
loop-col-init c =
    let f = c.args.field.now in
    let R = field_ring f in
    let M = c.args.m.now in
    let n = M.height in
    let dim = c.dim-n.ensures in
    let s = known_square f n M (let e : n ≡ n = omega arith in e) (sym dim.cols ∙ dim.rows) dim.entries c.requires in
    let unit = c.in_ok-identity.ensures.value ∙ ap (identity R) dim.rows in
    let is = c.in_ok-rest.ensures.value ∙ ap (λ L. product R L M) unit ∙ one_left R (field_is_ring f) n M s in
    subst (λ u. AreReduced f n 0 M c.in_ok-rest.rest u) (sym c.new-places.ensures.items) (subst (λ N. AreReduced f n 0 M N []) (sym is) (reduced-start f n M s))

pub returns-in-None : goal.returns-in-None
returns-in-None c Z sz inverse =
    let f = c.args.field.now in
    let M = c.args.m.now in
    let n = M.height in
    let dim = c.dim-n.ensures in
    let s = known_square f n M (let e : n ≡ n = omega arith in e) (sym dim.cols ∙ dim.rows) dim.entries c.requires in
    let r = c.loop-col.invariant in
    let test = c.loop-col-test.true in
    let tall = dim.rows in
    let low : c.loop-col.col < n = omega (arith, test, tall) in
    let high = ap (λ L. L.height) r.square.shape in
    reduced-some f n M s c.loop-col.col c.loop-col.rest c.loop-col.places.items r low Z sz inverse (λ i l. c.in-None.ensures i (omega (arith, l, high)))

pub loop-col-preserved : goal.loop-col-preserved
loop-col-preserved c =
    let f = c.args.field.now in
    let M = c.args.m.now in
    let n = M.height in
    let dim = c.dim-n.ensures in
    let s = known_square f n M (let e : n ≡ n = omega arith in e) (sym dim.cols ∙ dim.rows) dim.entries c.requires in
    let r = c.loop-col.invariant in
    let k = c.loop-col.col in
    let N = c.loop-col.rest in
    let test = c.loop-col-test.true in
    let tall = dim.rows in
    let low : k < n = omega (arith, test, tall) in
    let high = ap (λ L. L.height) r.square.shape in
    let found = c.in-Some.ensures in
    let p_low = found.0 in
    let within : c.in-Some.p < n = omega (arith, p_low, high) in
    let step = c.in_ok-rest-in-Some.ensures in
    let is = step.3 ∙ ap (λ m. table m m (without_column f.given N step.0 c.in-Some.p k)) high in
    let next : suc k ≡ k + 1 = omega arith in
    subst (λ j. AreReduced f n j M c.in_ok-rest-in-Some.rest c.push.new.self.items) next
    (subst (λ u. AreReduced f n (suc k) M c.in_ok-rest-in-Some.rest u) (sym c.in_ok-push-in-Some.ensures.items)
    (reduced-step f n M s k N c.loop-col.places.items r low c.in-Some.p step.0 within found.1 (λ i after l. found.2 i after (omega (arith, l, high)))
    (lt-ltb step.0 (order f.given) step.1) step.2 c.in_ok-rest-in-Some.rest is))

pub returns : goal.returns
returns c =
    let f = c.args.field.now in
    let M = c.args.m.now in
    let n = M.height in
    let dim = c.dim-n.ensures in
    let s = known_square f n M (let e : n ≡ n = omega arith in e) (sym dim.cols ∙ dim.rows) dim.entries c.requires in
    let tall = dim.rows in
    let last : c.loop-col.col ≡ n = omega (arith, c.loop-col-test.false, c.loop-col.auto.col-end, tall) in
    reduced-pivots f M s c.loop-col.rest c.loop-col.places.items (subst (λ k. AreReduced f n k M c.loop-col.rest c.loop-col.places.items) last c.loop-col.invariant)
