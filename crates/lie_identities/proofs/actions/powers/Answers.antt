use Rattle.std.proofs.Common.{◌≡◌, ◌+◌, ◌-◌, ◌*◌, ◌<◌, ◌^◌, ◌∷◌, [], ◌++◌, suc, length, refl, sym, ap, ap₂, subst, ◌∙◌, arith}
use Rattle.lie_ring.specs.Rings.{Fits}
use Rattle.lie_ring.specs.Powers.{power}
use Rattle.lie_ring.specs.RingLemmas.{one_mul}
use Rattle.lie_poly.specs.Polynomials.{laurent, size, degree}
use Rattle.lie_poly.specs.LaurentLaws.{laurent_ring}
use Rattle.lie_identities.specs.Moves.{base_of, ArePowersOf}
use Rattle.lie_identities.proofs.PowerLemmas.{powers-one, powers-next, length-push}
use Rattle.lie_identities.proofs.actions.powers.Goals as goal
use Rattle.lie_identities.proofs.actions.powers.Goals.{After-loop-k}

pub loop-k-init : goal.loop-k-init
loop-k-init c =
    let made = c.in_ok-push.ensures.items ∙ ap₂ (λ ys x. ys ++ x ∷ []) c.new-powers.ensures.items c.in_ok-copied.ensures.value in
    record {
      count = ap length made;
      powers = subst (ArePowersOf c.args.f.now) (sym made) (powers-one c.args.f.now c.requires.fits);
    }

pub index-requires : goal.index-requires
index-requires c =
    let n = c.loop-k.invariant.count in
    let a = c.loop-k.auto.k in
    omega (arith, n, a)

pub narrow_product-requires : goal.narrow_product-requires
narrow_product-requires c =
    let f = c.args.f.now in
    let k = c.loop-k.k in
    let x = c.index.result.now in
    let n = c.loop-k.invariant.count in
    let a = c.loop-k.auto.k in
    let t = c.loop-k-test.true in
    let at = c.loop-k.invariant.powers (k - 1) x (omega (arith, n, a)) in
    let is = c.index.ensures ∙ at.0 ∙ ap (power laurent f) (let e : suc (k - 1) ≡ k = omega (arith, a) in e) in
    record {
      a = subst (Fits laurent) (sym c.index.ensures) at.1;
      b = c.requires.fits;
      small = subst (λ y. size y * size f < 2 ^ 126) (sym is) (c.requires.sizes k a t);
      shallow = subst (λ y. degree y + degree f < 2 ^ 30) (sym is) (c.requires.degrees k a t);
    }

pub loop-k-preserved : goal.loop-k-preserved
loop-k-preserved c =
    let f = c.args.f.now in
    let k = c.loop-k.k in
    let ps = c.loop-k.powers.items in
    let x = c.index.result.now in
    let n = c.loop-k.invariant.count in
    let a = c.loop-k.auto.k in
    let made = c.in_ok-push-2.ensures.items in
    let more = ap length made ∙ length-push ps c.in_ok-next.next in
    record {
      count = omega (arith, more, n);
      powers = subst (ArePowersOf f) (sym made)
          (powers-next f c.in_ok-next.next ps (k - 1) x (omega (arith, n, a)) c.loop-k.invariant.powers
          (c.in_ok-next.ensures.value ∙ ap (λ y. laurent.mul y f) c.index.ensures) c.in_ok-next.ensures.fits);
    }

-- the first of the powers
first_is : (c : After-loop-k) → base_of c.loop-k.powers.items ≡ c.args.f.now
first_is c =
    let n = c.loop-k.invariant.count in
    let a = c.loop-k.auto.k in
    (c.loop-k.invariant.powers 0 laurent.zero (omega (arith, n, a))).0 ∙ one_mul laurent laurent_ring.laws c.args.f.now refl

pub returns-clause-base : goal.returns-clause-base
returns-clause-base c = first_is c

pub returns-clause-powers : goal.returns-clause-powers
returns-clause-powers c =
    let n = c.loop-k.invariant.count in
    let a = c.loop-k.auto.k in
    let t = c.loop-k-test.false in
    record {
      some = omega (arith, n, a);
      enough = omega (arith, n, t);
      powers = subst (λ g. ArePowersOf g c.loop-k.powers.items) (sym (first_is c)) c.loop-k.invariant.powers;
    }
