use Rattle.std.proofs.Common.{◌≡◌, ◌∷◌, [], pos, neg_ℤ, ◌<ℤ◌, subst, arith}
use Rattle.std.proofs.lemmas.Int.{ints, to_z-of_z}
use Rattle.lie_datum.specs.RootDatum.{rank}
use Rattle.lie_letters.specs.declared.letter.Letter.TheVariants.{X, N, Ninv}
use Rattle.lie_bruhat.proofs.RaisedLemmas.{nearer_last, opposite_ok, other_ok, opposite_times, conjugated}
use Rattle.lie_bruhat.proofs.TimesLemmas.{times_then, times_last}
use Rattle.lie_bruhat.proofs.negative.+times_root.Goals as goal

pub returns-then-i-l-clause-weyl : goal.returns-then-i-l-clause-weyl
returns-then-i-l-clause-weyl t c =
    let d = c.args.frame.now.datum in
    let l : c.l.result ≡ rank d.base = subst (λ z. c.l.result ≡ rank z.datum.base) c.frame.view_is c.l.ensures in
    let number = c.number-r.ensures in
    let low = c.if-r-gt0.false in
    let small = c.if-i-l.true in
    opposite_ok d c.args.x.r c.args.x.a _ c.args.f.now.weyl c.times_opposite.result c.times_opposite.ensures.weyl (grind (arith, ints, to_z-of_z), grind (arith, ints, to_z-of_z)) (grind (arith, ints, to_z-of_z))

pub returns-then-i-l-clause-times : goal.returns-then-i-l-clause-times
returns-then-i-l-clause-times t c =
    let d = c.args.frame.now.datum in
    let l : c.l.result ≡ rank d.base = subst (λ z. c.l.result ≡ rank z.datum.base) c.frame.view_is c.l.ensures in
    let number = c.number-r.ensures in
    let low = c.if-r-gt0.false in
    let small = c.if-i-l.true in
    opposite_times c.args.frame.now c.args.x.r c.args.x.a _ c.args.f.now c.times_opposite.result c.times_opposite.ensures.times (grind (arith, ints, to_z-of_z))

pub times_root-requires : goal.times_root-requires
times_root-requires t c =
    let y = c.before_simple-y.result in
    let e = c.before_simple-y.ensures in
    let less = nearer_last c.args.frame.now.datum c.args.x.r y.r e.root (c.raising-i.ensures.raised y.r e.root e.image) in
    (omega (arith, less, c.decreases), (c.in_ok-first.ensures.times.form, (e.root, e.below)))

pub returns-clause-weyl : goal.returns-clause-weyl
returns-clause-weyl t c =
    let d = c.args.frame.now.datum in
    let l : c.l.result ≡ rank d.base = subst (λ z. c.l.result ≡ rank z.datum.base) c.frame.view_is c.l.ensures in
    let number = c.number-r.ensures in
    let low = c.if-r-gt0.false in
    let large = c.if-i-l.false in
    let far : c.args.x.r <ℤ neg_ℤ (pos (rank d.base)) = grind (arith, ints, to_z-of_z) in
    other_ok d c.args.x.r c.args.x.a c.args.f.now.weyl c.times_inverse.result far

pub returns-clause-times : goal.returns-clause-times
returns-clause-times t c =
    let f = c.args.frame.now in
    let loaded = c.lawful.ensures.lawful.loaded in
    let i = c.raising-i.result in
    let y = X c.before_simple-y.result.r c.before_simple-y.result.a in
    let x = X c.args.x.r c.args.x.a in
    times_last f loaded c.args.f.now c.in_ok-second.second (N i ∷ y ∷ []) (Ninv i ∷ []) (x ∷ []) c.times_inverse.result
    (conjugated f c.lawful.ensures i x y c.before_simple-y.ensures.joined)
    (times_then f loaded c.args.f.now c.in_ok-first.first c.in_ok-second.second (N i ∷ []) (y ∷ []) c.in_ok-first.ensures.times c.in_ok-second.ensures.times)
    c.times_inverse.ensures.times
