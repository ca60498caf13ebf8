use Rattle.std.proofs.Common.{◌≡◌, ℕ, ◌-◌, ◌^◌, ◌<◌, List, map, length, sym, ap, ◌∙◌, arith, rules}
use Rattle.std.specs.List.{range_with_len}
use Rattle.lie_field.specs.Polynomials.{plus, scale, residues, number, digits}
use Rattle.lie_field.specs.Quotient.{field_data, degree, order}
use Rattle.lie_field.specs.FieldTables.{log_at}
use Rattle.lie_field.proofs.Digitwise.{room}
use Rattle.lie_field.proofs.TableLemmas.{negatives_from, zech_from}
use Rattle.lie_field.proofs.tables.Tables.make.Goals as goal

order_is : (p : ℕ) (cs : List ℕ) (g k q : ℕ) → k ≡ length cs → q ≡ order (field_data p cs g) → q ≡ p ^ k
unfolding order degree
order_is p cs g k q e is = is ∙ ap (λ n. p ^ n) (sym e)

degree_is : (p : ℕ) (cs : List ℕ) (g k : ℕ) → k ≡ length cs → k ≡ degree (field_data p cs g)
unfolding degree
degree_is p cs g k e = e

pub negatives_of-requires-clause-small : goal.negatives_of-requires-clause-small
negatives_of-requires-clause-small c =
    omega (arith, order_is c.args.p c.args.coeffs.now c.args.g c.args.k c.args.q c.requires.k_is c.requires.q_is, c.requires.q_small)

pub negatives_of-requires-clause-p_small : goal.negatives_of-requires-clause-p_small
negatives_of-requires-clause-p_small c =
    let d = c.requires.ring in
    let p_pos : 0 < c.args.p = let l = d.p_large in omega (arith, l) in
    let k_pos : 0 < c.args.k = let l = d.has_degree in omega (arith, l, degree_is c.args.p c.args.coeffs.now c.args.g c.args.k c.requires.k_is) in
    omega (arith, (room c.args.p c.args.k p_pos k_pos).p_small, order_is c.args.p c.args.coeffs.now c.args.g c.args.k c.args.q c.requires.k_is c.requires.q_is, c.requires.q_small)

pub zech_of-requires-clause-small : goal.zech_of-requires-clause-small
zech_of-requires-clause-small c =
    omega (arith, order_is c.args.p c.args.coeffs.now c.args.g c.args.k c.args.q c.requires.k_is c.requires.q_is, c.requires.q_small)

pub zech_of-requires-clause-logs_length : goal.zech_of-requires-clause-logs_length
zech_of-requires-clause-logs_length c =
    ap length c.deref-2.ensures.value ∙ c.in_ok-powers.ensures.1.logs_length
    ∙ sym c.requires.q_is ∙ order_is c.args.p c.args.coeffs.now c.args.g c.args.k c.args.q c.requires.k_is c.requires.q_is

pub returns : goal.returns
returns c =
    let f = field_data c.args.p c.args.coeffs.now c.args.g in
    let k = degree_is c.args.p c.args.coeffs.now c.args.g c.args.k c.requires.k_is in
    let t = c.in_ok-powers.ensures.1 in
    let negatives : c.in_ok-negatives.negatives.items ≡ map (λ a. number c.args.p (residues c.args.p (scale (c.args.p - 1) (digits c.args.p c.args.k a)))) (range_with_len 0 c.args.q) = search rules in
    let zech : c.in_ok-zech.zech.items ≡ map (λ a. log_at c.deref-2.result.now (number c.args.p (residues c.args.p (plus (digits c.args.p c.args.k 1) (digits c.args.p c.args.k a))))) c.deref.result.now = search rules in (
      c.in_ok-powers.ensures.0,
      record {
        powers = t;
        negatives = negatives_from f c.requires.ring c.args.k c.args.q c.in_ok-negatives.negatives.items k c.requires.q_is negatives;
        zech = zech_from f c.requires.ring c.args.k c.in_ok-powers.powers.powers.items c.in_ok-powers.powers.logs.items c.in_ok-zech.zech.items k t
            (zech ∙ ap (λ v. map (λ a. log_at v (number c.args.p (residues c.args.p (plus (digits c.args.p c.args.k 1) (digits c.args.p c.args.k a))))) c.deref.result.now) c.deref-2.ensures.value
            ∙ ap (map (λ a. log_at c.in_ok-powers.powers.logs.items (number c.args.p (residues c.args.p (plus (digits c.args.p c.args.k 1) (digits c.args.p c.args.k a)))))) c.deref.ensures.value);
      },
    )
