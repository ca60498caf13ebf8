use Rattle.std.proofs.Common.{◌≡◌, ℕ, suc, ◌-◌, ◌/◌, ◌^◌, ◌<◌, List, length, sym, ap, ◌∙◌, refl, arith}
use Rattle.std.proofs.Math.Nat.{pow-suc, mul-div_cancel}
use Rattle.lie_field.specs.Quotient.{degree, order, leading, field_data}
use Rattle.lie_field.proofs.products.Modulus.new.Goals as goal

order_is : (p : ℕ) (cs : List ℕ) (g k q : ℕ) → k ≡ length cs → q ≡ order (field_data p cs g) → q ≡ p ^ k
unfolding order degree
order_is p cs g k q e is = is ∙ ap (λ n. p ^ n) (sym e)

-- p^k / p = p^(k-1)
place : (p k q : ℕ) → 0 < p → 0 < k → q ≡ p ^ k → q / p ≡ p ^ (k - 1)
place p k q h l is =
    let whole : k ≡ suc (k - 1) = omega (arith, l) in
    ap (λ n. n / p) (is ∙ ap (λ n. p ^ n) whole ∙ pow-suc p (k - 1)) ∙ mul-div_cancel (p ^ (k - 1)) h

degree_is : (p : ℕ) (cs : List ℕ) (g k : ℕ) → k ≡ length cs → k ≡ degree (field_data p cs g)
unfolding degree
degree_is p cs g k e = e

pub lead_of-requires-clause-small : goal.lead_of-requires-clause-small
lead_of-requires-clause-small c =
    let whole = order_is c.args.p c.args.coeffs.now c.args.g c.args.k c.args.q c.requires.k_is c.requires.q_is in
    let at : c.args.q ≡ c.args.p ^ length c.args.coeffs.now = whole ∙ ap (λ n. c.args.p ^ n) c.requires.k_is in
    omega (arith, at, c.requires.q_small)

pub returns : goal.returns
unfolding leading degree
returns c =
    let d = c.requires.ring in
    let p_pos : 0 < c.args.p = let l = d.p_large in omega (arith, l) in
    let k_pos : 0 < c.args.k = let l = d.has_degree in omega (arith, l, c.requires.k_is) in
    let whole = order_is c.args.p c.args.coeffs.now c.args.g c.args.k c.args.q c.requires.k_is c.requires.q_is in
    let at = place c.args.p c.args.k c.args.q p_pos k_pos whole in
    record {
      places = record { p_pos = p_pos; k_pos = k_pos; small = omega (arith, whole, c.requires.q_small); place_is = at };
      is = record {
        p_is = refl;
        k_is = c.requires.k_is;
        place_is = at ∙ ap (λ n. c.args.p ^ (n - 1)) c.requires.k_is;
        lead_is = c.lead_of.ensures.value;
      };
    }
