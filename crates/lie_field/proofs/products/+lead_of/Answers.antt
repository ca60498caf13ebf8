use Rattle.std.proofs.Common.{◌≡◌, ℕ, ◌+◌, ◌-◌, ◌*◌, ◌%◌, ◌^◌, ◌<◌, ◌≤◌, List, [], ◌∷◌, take, drop, map, length, get_or, All, sym, ap, ◌∙◌, subst, arith, rules, refl}
use Rattle.std.proofs.Math.Nat.{pow-le-pow_right}
use Rattle.std.proofs.lemmas.List.{take_all}
use Rattle.std.proofs.lemmas.List.Elements.{All-tail}
use Rattle.lie_field.specs.Polynomials.{residues, number}
use Rattle.lie_field.proofs.products.+lead_of.Goals as goal

-- what stands behind the first
rest : (c : ℕ) (cs : List ℕ) → take (length (c ∷ cs) - 1) (drop 1 (c ∷ cs)) ≡ cs
rest c cs = take_all (length (c ∷ cs) - 1) cs (let e : length cs ≤ length (c ∷ cs) - 1 = omega arith in e)

none : (p : ℕ) (cs : List ℕ) → length cs < 1 → 0 ≡ number p (residues p (map (λ c. p - c) cs))
unfolding residues
none p [] e = refl
none p (c ∷ cs) e = absurd (let never : ⊥ = omega (arith, e) in never)

more : (p r : ℕ) (cs : List ℕ) → 1 ≤ length cs → r ≡ number p (residues p (map (λ c. p - c) (take (length cs - 1) (drop 1 cs)))) →
    (p - get_or cs 0 0) % p + p * r ≡ number p (residues p (map (λ c. p - c) cs))
unfolding residues
more p r [] l e = absurd (let never : ⊥ = omega (arith, l) in never)
more p r (c ∷ cs) l e = ap (λ x. (p - c) % p + p * x) (e ∙ ap (λ v. number p (residues p (map (λ c. p - c) v))) (rest c cs))

rest_fits : (p : ℕ) (cs : List ℕ) → 0 < p → 1 ≤ length cs → p ^ length cs ≤ 65536 → All (λ c. c < p) cs →
    (p ^ length (take (length cs - 1) (drop 1 cs)) ≤ 65536) × All (λ c. c < p) (take (length cs - 1) (drop 1 cs))
rest_fits p [] h l s all = absurd (let never : ⊥ = omega (arith, l) in never)
rest_fits p (c ∷ cs) h l s all =
    let m : p ^ length cs ≤ p ^ length (c ∷ cs) = pow-le-pow_right h (let o : length cs ≤ length (c ∷ cs) = omega arith in o) in
    subst (λ v. (p ^ length v ≤ 65536) × All (λ c. c < p) v) (sym (rest c cs)) (omega (arith, m, s), All-tail (λ c. c < p) c cs all)

pub lead_of-requires : goal.lead_of-requires
lead_of-requires t c =
    let r = rest_fits c.args.p c.args.coeffs.now c.requires.p_pos c.in-len1-up.len_at_least c.requires.small c.requires.coefficients_below in
    (search rules, (c.requires.p_pos, (r.0, r.1)))

pub returns-in-empty-clause-value : goal.returns-in-empty-clause-value
returns-in-empty-clause-value t c = none c.args.p c.args.coeffs.now c.in-empty.len_below

pub returns-in-len1-up-clause-value : goal.returns-in-len1-up-clause-value
returns-in-len1-up-clause-value t c = more c.args.p c.lead_of.result c.args.coeffs.now c.in-len1-up.len_at_least c.lead_of.ensures.value
