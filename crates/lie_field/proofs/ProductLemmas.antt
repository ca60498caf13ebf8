-- Products modulo f on numbers: "times x", and a product one digit at a time.
use Rattle.std.proofs.Common.{◌≡◌, ℕ, zero, suc, ◌+◌, ◌-◌, ◌*◌, ◌/◌, ◌%◌, ◌^◌, ◌<◌, List, ◌∷◌, length, take, get_or, refl, sym, ap, ◌∙◌, subst, arith}
use Rattle.std.proofs.Math.Nat.{mod-lt, pow-suc, pow-zero, mod-eq_of_lt, add-zero, one-mul, mul_comm, one-le-pow, div-one, div-div-eq-div-mul}
use Rattle.std.proofs.Math.Arith.{mod-mul}
use Rattle.std.proofs.lemmas.Nat.{div-mul-add, mod-mul-add, div_below}
use Rattle.lie_field.specs.Polynomials.{plus, scale, residues, number, digits}
use Rattle.lie_field.specs.Quotient.{FieldData, degree, leading, shift, mul, element, IsRingData}
use Rattle.lie_field.specs.Modulus.{IsModulus}
use Rattle.lie_field.specs.declared.products.Modulus.{Modulus}
use Rattle.lie_field.specs.Algebra.Lists.{residues_plus, residues_scale, cons2, length-scale, zero-scale, residues-zeros}
use Rattle.lie_field.specs.Algebra.Shifts.{act, act_length, remainder_short, remainder-times, leading_length, shift_length}
use Rattle.lie_field.specs.Algebra.Digits.{digits-number, length-digits, number-zeros}
use Rattle.lie_field.specs.Algebra.Laws.{residues_shift, residues2}

-- the digits of low * p, and the top digit
low_digits : (p : ℕ) → 0 < p → (j n : ℕ) → digits p (suc j) (n * p) ≡ 0 ∷ digits p j n
low_digits p h j n =
    let e : n * p + 0 ≡ n * p = add-zero (n * p) in
    let low : n * p % p ≡ 0 = ap (λ z. z % p) (sym e) ∙ mod-mul-add n p 0 h in
    let high : n * p / p ≡ n = ap (λ z. z / p) (sym e) ∙ div-mul-add n p 0 h in
    cons2 low (ap (digits p j) high)

-- the j lowest digits of n are those of n modulo p^j
digits-mod : (p : ℕ) → 0 < p → (j n : ℕ) → digits p j (n % p ^ j) ≡ take j (digits p (suc j) n)
digits-mod p h zero n = refl
digits-mod p h (suc j) n =
    let c = n / p % p ^ j in
    let pos_j : 0 < p ^ j = one-le-pow j p h in
    let split : n % p ^ suc j ≡ c * p + n % p = ap (λ m. n % m) (pow-suc p j) ∙ mod-mul n pos_j h in
    let below : n % p < p = mod-lt n h in
    let low : n % p ^ suc j % p ≡ n % p = ap (λ z. z % p) split ∙ mod-mul-add c p (n % p) below in
    let high : n % p ^ suc j / p ≡ c = ap (λ z. z / p) split ∙ div-mul-add c p (n % p) below in
    cons2 low (ap (digits p j) high ∙ digits-mod p h j (n / p))

-- the highest of j + 1 digits
digits-top : (p : ℕ) → 0 < p → (j n : ℕ) → n < p ^ suc j → get_or (digits p (suc j) n) j 0 ≡ n / p ^ j
digits-top p h zero n small =
    let l : n < p = let e : p ^ 1 ≡ p = pow-suc p 0 ∙ ap (λ z. z * p) (pow-zero p) ∙ one-mul p in omega (arith, e, small) in
    mod-eq_of_lt l ∙ sym (div-one n) ∙ ap (λ z. n / z) (sym (pow-zero p))
digits-top p h (suc j) n small =
    let next : n / p < p ^ suc j = div_below n p (p ^ suc j) h (let g : n < p ^ suc j * p = rw (← pow-suc p (suc j)) small in g) in
    digits-top p h j (n / p) next ∙ div-div-eq-div-mul n p (p ^ j) ∙ ap (λ z. n / z) (mul_comm p (p ^ j) ∙ sym (pow-suc p j))

-- the number of x times a: low * p plus the multiple of x^k by the top digit
shift_number : (f : FieldData) (d : IsRingData f) (j a lead m : ℕ) → degree f ≡ suc j → a < f.p ^ suc j →
    lead ≡ number f.p (residues f.p (leading f)) → m ≡ number f.p (residues f.p (scale (a / f.p ^ j) (digits f.p (suc j) lead))) →
    number f.p (residues f.p (plus (digits f.p (suc j) (a % f.p ^ j * f.p)) (digits f.p (suc j) m))) ≡ number f.p (residues f.p (shift f (digits f.p (suc j) a)))
unfolding shift
shift_number f d j a lead m e small lead_is m_is =
    let p = f.p in
    let h : 0 < p = let two = d.p_large in omega (arith, two) in
    let n = leading f in
    let k = suc j in
    let top = a / p ^ j in
    let len : length n ≡ k = leading_length f ∙ e in
    let lead_digits : digits p k lead ≡ residues p n = ap (digits p k) lead_is ∙ ap (λ i. digits p i (number p (residues p n))) (sym len) ∙ digits-number p h n in
    let long : length (scale top (digits p k lead)) ≡ k = length-scale top (digits p k lead) ∙ length-digits p k lead in
    let m_digits : digits p k m ≡ residues p (scale top n) =
    ap (digits p k) m_is ∙ ap (λ i. digits p i (number p (residues p (scale top (digits p k lead))))) (sym long) ∙ digits-number p h (scale top (digits p k lead))
    ∙ ap (λ v. residues p (scale top v)) lead_digits ∙ residues_scale p top n in
    let front : digits p k (a % p ^ j * p) ≡ take (degree f) (0 ∷ digits p k a) =
    low_digits p h j (a % p ^ j) ∙ ap (λ v. 0 ∷ v) (digits-mod p h j a) ∙ ap (λ i. take i (0 ∷ digits p k a)) (sym e) in
    let top_is : top ≡ get_or (digits p k a) (degree f - 1) 0 =
    sym (digits-top p h j a small) ∙ ap (λ i. get_or (digits p k a) i 0) (let i : j ≡ degree f - 1 = omega (arith, e) in i) in
    ap (number p) (
    ap (λ v. residues p (plus (digits p k (a % p ^ j * p)) v)) m_digits
    ∙ residues_plus p (digits p k (a % p ^ j * p)) (scale top n)
    ∙ ap (λ v. residues p (plus v (scale top n))) front
    ∙ ap (λ c. residues p (plus (take (degree f) (0 ∷ digits p k a)) (scale c n))) top_is)

-- one step of the product: a x w plus the shifted rest
product_step : (f : FieldData) (d : IsRingData f) (c a b m r s : ℕ) → 0 < c → length (digits f.p (degree f) b) ≡ degree f →
    m ≡ number f.p (residues f.p (scale (a % f.p) (digits f.p (degree f) b))) →
    r ≡ number f.p (residues f.p (act f (digits f.p (c - 1) (a / f.p)) (digits f.p (degree f) b))) →
    s ≡ number f.p (residues f.p (shift f (digits f.p (degree f) r))) →
    number f.p (residues f.p (plus (digits f.p (degree f) m) (digits f.p (degree f) s))) ≡ number f.p (residues f.p (act f (digits f.p c a) (digits f.p (degree f) b)))
product_step f d zero a b m r s pos len m_is r_is s_is = absurd (let never : ⊥ = omega (arith, pos) in never)
product_step f d (suc c) a b m r s pos len m_is r_is s_is =
    let p = f.p in
    let h : 0 < p = let two = d.p_large in omega (arith, two) in
    let k = degree f in
    let w = digits p k b in
    let first = scale (a % p) w in
    let rest = act f (digits p c (a / p)) w in
    let back : suc c - 1 ≡ c = omega arith in
    let digits_of : (v : List ℕ) → length v ≡ k → digits p k (number p (residues p v)) ≡ residues p v = λ v e.
    ap (λ i. digits p i (number p (residues p v))) (sym e) ∙ digits-number p h v in
    let m_digits : digits p k m ≡ residues p first = ap (digits p k) m_is ∙ digits_of first (length-scale (a % p) w ∙ len) in
    let r_digits : digits p k r ≡ residues p rest =
    ap (digits p k) (r_is ∙ ap (λ i. number p (residues p (act f (digits p i (a / p)) w))) back) ∙ digits_of rest (act_length f (digits p c (a / p)) w len) in
    let s_same : residues p (shift f (digits p k r)) ≡ residues p (shift f rest) = ap (λ v. residues p (shift f v)) r_digits ∙ residues_shift f rest in
    let s_digits : digits p k s ≡ residues p (shift f rest) = ap (digits p k) (s_is ∙ ap (number p) s_same) ∙ digits_of (shift f rest) (shift_length f rest) in
    ap (number p) (
    ap (λ v. residues p (plus v (digits p k s))) m_digits
    ∙ ap (λ v. residues p (plus (residues p first) v)) s_digits
    ∙ residues2 f first (shift f rest))

-- the whole product
product_whole : (f : FieldData) (d : IsRingData f) (a b : ℕ) →
    number f.p (residues f.p (act f (digits f.p (degree f) a) (digits f.p (degree f) b))) ≡ mul f a b
unfolding mul element
product_whole f d a b =
    let x = digits f.p (degree f) a in
    let y = digits f.p (degree f) b in
    ap (λ r. number f.p (residues f.p r)) (sym (remainder-times f d.has_degree x y ∙ ap (act f x) (remainder_short f y (length-digits f.p (degree f) b))))

-- what `times_x` answers, at p, k and p^(k-1)
abbrev TimesX : FieldData → ℕ → ℕ → ℕ → Type 0
TimesX f p k place =
    (lead a r s : ℕ) → lead ≡ number f.p (residues f.p (leading f)) → a < p ^ k → r ≡ number p (residues p (scale (a / place) (digits p k lead))) →
    s ≡ number p (residues p (plus (digits p k (a % place * p)) (digits p k r))) → s ≡ number f.p (residues f.p (shift f (digits f.p k a)))

-- the number that `times_x` makes is x times a
pub times_x_value : (f : FieldData) (d : IsRingData f) (m : Modulus) (a r s : ℕ) → IsModulus f m → a < m.p ^ m.k →
    r ≡ number m.p (residues m.p (scale (a / m.place) (digits m.p m.k m.lead))) →
    s ≡ number m.p (residues m.p (plus (digits m.p m.k (a % m.place * m.p)) (digits m.p m.k r))) →
    s ≡ number f.p (residues f.p (shift f (digits f.p (degree f) a)))
times_x_value f d m a r s is small r_is s_is =
    let j = degree f - 1 in
    let whole : degree f ≡ suc j = let h = d.has_degree in omega (arith, h) in
    let at : TimesX f f.p (suc j) (f.p ^ j) = λ lead a r s l b h e. e ∙ shift_number f d j a lead r whole b l h in
    let moved = subst (λ p. TimesX f p m.k m.place) (sym is.p_is)
    (subst (λ k. TimesX f f.p k m.place) (sym whole ∙ sym is.k_is)
    (subst (λ q. TimesX f f.p (suc j) q) (sym is.place_is) at)) in
    moved m.lead a r s is.lead_is small r_is s_is ∙ ap (λ k. number f.p (residues f.p (shift f (digits f.p k a)))) is.k_is

-- a polynomial without digits gives 0
pub product-none : (f : FieldData) (c a b : ℕ) → c ≡ 0 → 0 ≡ number f.p (residues f.p (act f (digits f.p c a) (digits f.p (degree f) b)))
product-none f zero a b e =
    let w = digits f.p (degree f) b in
    sym (ap (λ v. number f.p (residues f.p v)) (zero-scale w) ∙ ap (number f.p) (residues-zeros f.p (length w)) ∙ number-zeros f.p (length w))
product-none f (suc c) a b e = absurd (let never : ⊥ = omega (arith, e) in never)

-- what `product_of` answers, at p and k
abbrev ProductOf : FieldData → ℕ → ℕ → Type 0
ProductOf f p k =
    (c a b r s m t : ℕ) → 0 < c → r ≡ number f.p (residues f.p (act f (digits f.p (c - 1) (a / p)) (digits f.p k b))) →
    s ≡ number f.p (residues f.p (shift f (digits f.p k r))) → m ≡ number p (residues p (scale (a % p) (digits p k b))) →
    t ≡ number p (residues p (plus (digits p k m) (digits p k s))) → t ≡ number f.p (residues f.p (act f (digits f.p c a) (digits f.p k b)))

-- the number that `product_of` makes of one digit and the rest is the product
pub product_value : (f : FieldData) (d : IsRingData f) (m : Modulus) (c a b r s x t : ℕ) → IsModulus f m → 0 < c →
    r ≡ number f.p (residues f.p (act f (digits f.p (c - 1) (a / m.p)) (digits f.p (degree f) b))) →
    s ≡ number f.p (residues f.p (shift f (digits f.p (degree f) r))) →
    x ≡ number m.p (residues m.p (scale (a % m.p) (digits m.p m.k b))) →
    t ≡ number m.p (residues m.p (plus (digits m.p m.k x) (digits m.p m.k s))) →
    t ≡ number f.p (residues f.p (act f (digits f.p c a) (digits f.p (degree f) b)))
product_value f d m c a b r s x t is above r_is s_is x_is t_is =
    let at : ProductOf f f.p (degree f) = λ c a b r s m t h r_is s_is m_is t_is.
    t_is ∙ product_step f d c a b m r s h (length-digits f.p (degree f) b) m_is r_is s_is in
    let moved = subst (λ p. ProductOf f p m.k) (sym is.p_is) (subst (λ k. ProductOf f f.p k) (sym is.k_is) at) in
    let k = is.k_is in
    moved c a b r s x t above (r_is ∙ ap (λ k. number f.p (residues f.p (act f (digits f.p (c - 1) (a / m.p)) (digits f.p k b)))) (sym k))
    (s_is ∙ ap (λ k. number f.p (residues f.p (shift f (digits f.p k r)))) (sym k)) x_is t_is
    ∙ ap (λ k. number f.p (residues f.p (act f (digits f.p c a) (digits f.p k b)))) k

-- the product with all digits is that of the field
pub product_is : (f : FieldData) (d : IsRingData f) (m : Modulus) (a b t : ℕ) → IsModulus f m →
    t ≡ number f.p (residues f.p (act f (digits f.p m.k a) (digits f.p (degree f) b))) → t ≡ mul f a b
product_is f d m a b t is e =
    e ∙ ap (λ k. number f.p (residues f.p (act f (digits f.p k a) (digits f.p (degree f) b)))) is.k_is ∙ product_whole f d a b
