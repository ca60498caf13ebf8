-- Matrices of Laurent polynomials in which the exponent of t tells how far the weights of row and column are apart.
use Rattle.std.proofs.Common.{◌≡◌, ◌≢◌, ℕ, zero, suc, ◌<◌, cond, eqb, refl, sym, ap, ◌∙◌, inl, inr, subst, arith}
use Rattle.std.specs.Prelude.{ℤ, pos, negsuc, ◌+ℤ◌, ◌*ℤ◌, ◌⊎◌}
use Rattle.std.proofs.lemmas.Int.{ints}
use Rattle.std.proofs.lemmas.Bool.{cases_eq, eq-eqb, ne_eqb}
use mathlib.Core.Logic.{⊎_elim}
use Rattle.lie_ring.specs.Rings.{sum_below}
use Rattle.lie_ring.specs.RingLemmas.{add_mul}
use Rattle.lie_ring.specs.Integers.{integers}
use Rattle.lie_ring.specs.IntegerLaws.{integers_ring}
use Rattle.lie_ring.specs.Powers.{power}
use Rattle.lie_ring.specs.Matrices.{Matrix, entry, product, product_entry, product_term}
use Rattle.lie_ring.specs.MatrixLemmas.{entry-table}
use Rattle.lie_poly.specs.Terms.{Exponents}
use Rattle.lie_poly.specs.Polynomials.{Polynomial, laurent}
use Rattle.lie_datum.specs.Vectors.{Vector, pairing}
use Rattle.lie_const.specs.Modules.{Module, dimension, top, divided_power, root_element, root_element_entry}
use Rattle.lie_audit.proofs.Supports.{Supported, supported-zero, supported-plus, supported-product, supported-monomial, supported-sum}

-- x is y plus k times z, as functions on Y
abbrev pub IsMoved : Vector → Vector → ℤ → Vector → Type 0
IsMoved x y k z = (c : Vector) → pairing x c ≡ pairing y c +ℤ (k *ℤ pairing z c)

-- (k + l) a = k a + l a
split_times : (k l a : ℤ) → (k +ℤ l) *ℤ a ≡ (k *ℤ a) +ℤ (l *ℤ a)
split_times k l a = add_mul integers integers_ring.laws k l a refl refl refl

-- two moves
pub moved-twice : (x y w z : Vector) (k l : ℤ) → IsMoved x y k z → IsMoved y w l z → IsMoved x w (k +ℤ l) z
moved-twice x y w z k l p q c =
    let first = p c in
    let second = q c in
    let both = split_times k l (pairing z c) in
    omega (arith, ints, first, second, both)

-- no move
pub moved-none : (x z : Vector) → IsMoved x x (pos 0) z
moved-none x z c = let none : pos 0 *ℤ pairing z c ≡ pos 0 = omega (arith, ints) in omega (arith, ints, none)

module _ (n : ℕ) (w : ℕ → Vector) (alpha : Vector) where
  -- the exponents that row a and column b allow
  abbrev pub Allowed : ℕ → ℕ → Exponents → Type 0
  Allowed a b d = IsMoved (w a) (w b) d.0 alpha

  -- each entry has allowed exponents alone
  abbrev pub IsHomogeneous : Matrix Polynomial → Type 0
  IsHomogeneous A = (a b : ℕ) → a < n → b < n → Supported (Allowed a b) (entry laurent.zero A a b)

  -- a product
  pub homogeneous-product : (A B : Matrix Polynomial) → A.height ≡ n → A.width ≡ n → B.width ≡ n → IsHomogeneous A → IsHomogeneous B → IsHomogeneous (product laurent A B)
  homogeneous-product A B tall wide wide_too x y a b p q =
      subst (Supported (Allowed a b)) (sym (
      entry-table laurent.zero A.height B.width (product_entry laurent A B) a b (omega (arith, p, tall)) (omega (arith, q, wide_too))
      ∙ ap (λ m. sum_below laurent m (product_term laurent A B a b)) wide))
      (supported-sum (Allowed a b) n (product_term laurent A B a b) (λ c r.
      supported-product (Allowed a c) (Allowed c b) (Allowed a b) (entry laurent.zero A a c) (entry laurent.zero B c b) (x a c p r) (y c b r q)
      (λ d e s t. moved-twice (w a) (w c) (w b) alpha d.0 e.0 s t)))

  -- the exponent of t is k
  abbrev Exponent : ℤ → Exponents → Type 0
  Exponent k d = d.0 ≡ k

  -- a power of an element whose exponent is s
  power-exponent : (t : Polynomial) (s : ℤ) → Supported (Exponent s) t → (m : ℕ) → Supported (Exponent (pos m *ℤ s)) (power laurent t m)
  power-exponent t s here zero = supported-monomial (Exponent (pos 0 *ℤ s)) (pos 1) (pos 0) (pos 0) (inr (omega (arith, ints)))
  power-exponent t s here (suc m) =
      supported-product (Exponent (pos m *ℤ s)) (Exponent s) (Exponent (pos (suc m) *ℤ s)) (power laurent t m) t (power-exponent t s here m) here
      (λ d e p q.
      let both = split_times (pos m) (pos 1) s in
      let one : pos 1 *ℤ s ≡ s = omega (arith, ints) in
      let next : pos m +ℤ pos 1 ≡ pos (suc m) = omega (arith, ints) in
      let whole : pos (suc m) *ℤ s ≡ (pos m *ℤ s) +ℤ s = ap (λ x. x *ℤ s) (sym next) ∙ both ∙ ap (λ x. (pos m *ℤ s) +ℤ x) one in
      omega (arith, ints, p, q, whole))

  integer_cases : (z : ℤ) → (z ≡ pos 0) ⊎ (z ≢ pos 0)
  integer_cases (pos zero) = inl refl
  integer_cases (pos (suc k)) = inr (λ e. absurd (let never : ⊥ = omega (arith, ints, e) in never))
  integer_cases (negsuc k) = inr (λ e. absurd (let never : ⊥ = omega (arith, ints, e) in never))

  -- the entry of E_r^(k+1)
  abbrev whole : Module → ℤ → ℕ → ℕ → ℕ → ℤ
  whole v r a b k = entry (pos 0) (divided_power v r (suc k)) a b

  -- what it adds to an entry of a root element
  abbrev term : Module → ℤ → Polynomial → ℕ → ℕ → ℕ → Polynomial
  term v r t a b k = laurent.mul (power laurent t (suc k)) (laurent.of_int (whole v r a b k))

  -- a root element at an element whose exponent is s, where E^(k) moves weights by k s
  pub homogeneous-root : (v : Module) (r s : ℤ) (t : Polynomial) → dimension v ≡ n → Supported (λ d. d.0 ≡ s) t
      → ((k a b : ℕ) → a < n → b < n → entry (pos 0) (divided_power v r (suc k)) a b ≢ pos 0 → IsMoved (w a) (w b) (pos (suc k) *ℤ s) alpha)
      → IsHomogeneous (root_element laurent v r t)
  unfolding root_element
  homogeneous-root v r s t dim here graded a b p q =
      subst (Supported (Allowed a b)) (sym (entry-table laurent.zero (dimension v) (dimension v) (root_element_entry laurent v r t) a b (omega (arith, p, dim)) (omega (arith, q, dim))))
      (supported-plus (Allowed a b) (cond (eqb a b) laurent.one laurent.zero) (sum_below laurent (top v r) (term v r t a b))
      (⊎_elim
      (λ (e : a ≡ b). subst (Supported (Allowed a b)) (sym (ap (λ x. cond x laurent.one laurent.zero) (eq-eqb a b e)))
      (supported-monomial (Allowed a b) (pos 1) (pos 0) (pos 0) (inr (subst (λ y. IsMoved (w a) (w y) (pos 0) alpha) e (moved-none (w a) alpha)))))
      (λ (h : a ≢ b). subst (Supported (Allowed a b)) (sym (ap (λ x. cond x laurent.one laurent.zero) (ne_eqb a b h))) (supported-zero (Allowed a b)))
      (cases_eq a b))
      (supported-sum (Allowed a b) (top v r) (term v r t a b) (λ k _.
      ⊎_elim
      (λ (none : entry (pos 0) (divided_power v r (suc k)) a b ≡ pos 0).
      supported-product (Exponent (pos (suc k) *ℤ s)) (λ _. ⊥) (Allowed a b) (power laurent t (suc k)) (laurent.of_int (whole v r a b k)) (power-exponent t s here (suc k)) (supported-monomial (λ _. ⊥) (whole v r a b k) (pos 0) (pos 0) (inl none)) (λ d e x never. absurd never))
      (λ (some : entry (pos 0) (divided_power v r (suc k)) a b ≢ pos 0).
      supported-product (Exponent (pos (suc k) *ℤ s)) (Exponent (pos 0)) (Allowed a b) (power laurent t (suc k)) (laurent.of_int (whole v r a b k)) (power-exponent t s here (suc k)) (supported-monomial (Exponent (pos 0)) (whole v r a b k) (pos 0) (pos 0) (inr refl))
      (λ d e x y. subst (λ z. IsMoved (w a) (w b) z alpha) (let whole : pos (suc k) *ℤ s ≡ d.0 +ℤ e.0 = omega (arith, ints, x, y) in whole) (graded k a b p q some)))
      (integer_cases (entry (pos 0) (divided_power v r (suc k)) a b)))))
