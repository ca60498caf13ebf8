use Rattle.std.proofs.Common.{◌≡◌, ◌-◌, ◌<◌, length, get_or, replicate, sym, ap, ◌∙◌, arith, rules, true, subst, inl, inr}
use Rattle.std.proofs.lemmas.List.{get_or_default}
use Rattle.std.specs.Prelude.{is_ok}
use Rattle.lie_field.specs.Quotient.{field_data, order}
use Rattle.lie_field.proofs.Progress.{Progress, start, step, is_bad, is_last_bad, is_field}
use Rattle.lie_field.specs.Algebra.Powers.{power_below}
use Rattle.lie_field.proofs.tables.powers_of.Goals as goal
use Rattle.lie_field.proofs.tables.powers_of.Goals.{then-power-eq0-via-then-power-eq0, then-power-eq0-via-else-power-eq0+then-index-q}

pub loop-e-init : goal.loop-e-init
loop-e-init c =
    let f = field_data c.args.p c.args.coeffs.now c.args.g in
    let full : c.loop-i.logs.items ≡ replicate (order f) (order f) =
    c.loop-i.invariant ∙ ap (λ i. replicate i c.args.q) (let e : c.loop-i._i ≡ order f = omega (arith, c.requires.q_is) in e) ∙ ap (replicate (order f)) c.requires.q_is in
    rw (full, c.new-powers.ensures.items) (start f c.requires.ring)

pub index-requires : goal.index-requires
index-requires c =
    let f = field_data c.args.p c.args.coeffs.now c.args.g in
    let within : c.loop-e.power < length c.loop-e.logs.items =
    omega (arith, c.loop-e.invariant.now, c.loop-e.invariant.logs_length, power_below f c.requires.ring c.args.g c.loop-e.e) in
    search (rules, within)

pub index_mut-requires : goal.index_mut-requires
index_mut-requires c =
    let f = field_data c.args.p c.args.coeffs.now c.args.g in
    let within : c.loop-e.power < length c.loop-e.logs.items =
    omega (arith, c.loop-e.invariant.now, c.loop-e.invariant.logs_length, power_below f c.requires.ring c.args.g c.loop-e.e) in
    search (rules, within)

pub returns-then-power-eq0 : goal.returns-then-power-eq0
returns-then-power-eq0 c =
    let f = field_data c.args.p c.args.coeffs.now c.args.g in
    let low : c.loop-e.e < order f - 1 = omega (arith, c.requires.q_is) in
    let bad = is_bad f c.requires.ring c.loop-e.e c.loop-e.power c.loop-e.powers.items c.loop-e.logs.items c.loop-e.invariant low in
    elim c.then-power-eq0.branch [
      | then-power-eq0-via-then-power-eq0 w ↦ bad (inl w.if-power-eq0.true)
      | then-power-eq0-via-else-power-eq0+then-index-q w ↦ bad (inr (λ unset.
          let within : c.loop-e.power < length c.loop-e.logs.items =
          omega (arith, c.loop-e.invariant.now, c.loop-e.invariant.logs_length, power_below f c.requires.ring c.args.g c.loop-e.e) in
          w.if-index-q.true (w.index.ensures ∙ get_or_default c.loop-e.logs.items c.loop-e.power w.index.result.now 0 within ∙ unset ∙ sym c.requires.q_is)))
    ]

pub loop-e-preserved : goal.loop-e-preserved
loop-e-preserved c =
    let f = field_data c.args.p c.args.coeffs.now c.args.g in
    let low : c.loop-e.e < order f - 1 = omega (arith, c.requires.q_is) in
    let within : c.loop-e.power < length c.loop-e.logs.items =
    omega (arith, c.loop-e.invariant.now, c.loop-e.invariant.logs_length, power_below f c.requires.ring c.args.g c.loop-e.e) in
    let unset : get_or c.loop-e.logs.items c.loop-e.power 0 ≡ order f =
    sym (c.index.ensures ∙ get_or_default c.loop-e.logs.items c.loop-e.power c.index.result.now 0 within) ∙ c.if-index-q.false ∙ c.requires.q_is in
    let pushed : is_ok c.push-in-loop-e.result ≡ true = sym c.map_err-in-loop-e.ensures.variant ∙ ap is_ok c.in_ok-map_err-2.was in
    rw (c.push-in-loop-e.ensures.items, pushed)
    (step f c.requires.ring c.loop-e.e c.loop-e.power c.product-power.result c.loop-e.powers.items c.loop-e.logs.items c.loop-e.invariant low c.if-power-eq0.false unset (c.product-power.ensures.value f c.requires.ring c.new-modulus.ensures.is))

pub returns-then-power-ne1 : goal.returns-then-power-ne1
returns-then-power-ne1 c =
    let f = field_data c.args.p c.args.coeffs.now c.args.g in
    let last : c.loop-e.e ≡ order f - 1 = omega (arith, c.requires.q_is) in
    let s : Progress f (order f - 1) c.loop-e.power c.loop-e.powers.items c.loop-e.logs.items =
    subst (λ e. Progress f e c.loop-e.power c.loop-e.powers.items c.loop-e.logs.items) last c.loop-e.invariant in
    rw c.requires.q_is (is_last_bad f c.requires.ring c.loop-e.power c.loop-e.powers.items c.loop-e.logs.items s c.if-power-ne1.true)

pub returns : goal.returns
returns c =
    let f = field_data c.args.p c.args.coeffs.now c.args.g in
    let last : c.loop-e.e ≡ order f - 1 = omega (arith, c.requires.q_is) in
    let s : Progress f (order f - 1) c.loop-e.power c.loop-e.powers.items c.loop-e.logs.items =
    subst (λ e. Progress f e c.loop-e.power c.loop-e.powers.items c.loop-e.logs.items) last c.loop-e.invariant in
    is_field f c.requires.ring c.loop-e.power c.loop-e.powers.items c.loop-e.logs.items (omega (arith, c.requires.q_is, c.requires.g_below)) s c.if-power-ne1.false
