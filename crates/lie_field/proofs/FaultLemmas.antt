-- The faults exclude one another, and fields.
use Rattle.std.proofs.Common.{◌≡◌, ◌≢◌, ◌⊎◌, ℕ, ◌<◌, ◌≤◌, List, get_or, refl, ap, ◌∙◌, arith, All}
use mathlib.Core.Logic.{⊎_elim}
use Rattle.std.proofs.lemmas.Bool.{cases_eq, cases_lt}
use Rattle.lie_field.specs.Quotient.{FieldData, order, power, IsFieldData}
use Rattle.lie_field.specs.Faults.{IsWithinLimit, IsFault, IsBad, IsFirstBad, IsFirstAbove, HasNonzeroGenerator}
use Rattle.lie_field.specs.declared.faults.FieldFault.{FieldFault}
use Rattle.lie_field.specs.declared.faults.FieldFault.TheVariants.{NoMemory, Size, Coefficient, Element, Generator}
use Rattle.lie_field.proofs.Exponents.{generator_above}

-- what is least with a property is so once
least : (P : ℕ → Type 0) (i j : ℕ) → P i → P j → ((k : ℕ) → k < i → P k → ⊥) → ((k : ℕ) → k < j → P k → ⊥) → i ≡ j
least P i j p q before_i before_j =
    ⊎_elim (λ same. same) (λ apart.
    ⊎_elim (λ low. absurd (before_j i low p)) (λ high. absurd (before_i j (omega (arith, apart, high)) q)) (cases_lt i j))
    (cases_eq i j)

-- one coefficient alone is the first that is too large
first_above_once : (p : ℕ) (xs : List ℕ) (i j : ℕ) → IsFirstAbove p xs i → IsFirstAbove p xs j → i ≡ j
first_above_once p xs i j h k =
    least (λ n. p ≤ get_or xs n 0) i j h.1 k.1
    (λ n l above. let below = h.2 n l in let never : ⊥ = omega (arith, above, below) in never)
    (λ n l above. let below = k.2 n l in let never : ⊥ = omega (arith, above, below) in never)

-- one exponent alone is the first that is bad
first_bad_once : (f : FieldData) (i j : ℕ) → IsFirstBad f i → IsFirstBad f j → i ≡ j
first_bad_once f i j h k =
    least (λ n. (1 ≤ n) × IsBad f n) i j (h.0, h.2) (k.0, k.2)
    (λ n l bad. h.3 n bad.0 l bad.1)
    (λ n l bad. k.3 n bad.0 l bad.1)

-- no coefficient is too large where all are below p
none_above : (p : ℕ) (xs : List ℕ) (i : ℕ) → IsFirstAbove p xs i → All (λ c. c < p) xs → ⊥
none_above p xs i h all = let below = all i 0 h.0 in let above = h.1 in let never : ⊥ = omega (arith, below, above) in never

-- g is not both a unit and none
no_unit : (f : FieldData) → (f.g ≡ 0) ⊎ (order f ≤ f.g) → HasNonzeroGenerator f → ⊥
no_unit f h u =
    let low = u.0 in
    let high = u.1 in
    ⊎_elim (λ none. let never : ⊥ = omega (arith, none, low) in never) (λ large. let never : ⊥ = omega (arith, large, high) in never) h

-- at most one fault is true
pub faults_once : (f : FieldData) (d e : FieldFault) → IsFault f d → IsFault f e → d ≢ NoMemory → e ≢ NoMemory → d ≡ e
faults_once f NoMemory e h k m n = absurd (m refl)
faults_once f Size NoMemory h k m n = absurd (n refl)
faults_once f Size Size h k m n = refl
faults_once f Size (Coefficient j) h k m n = absurd (h k.0)
faults_once f Size Element h k m n = absurd (h k.0)
faults_once f Size (Generator j) h k m n = absurd (h k.0)
faults_once f (Coefficient i) NoMemory h k m n = absurd (n refl)
faults_once f (Coefficient i) Size h k m n = absurd (k h.0)
faults_once f (Coefficient i) (Coefficient j) h k m n = ap Coefficient (first_above_once f.p f.coefficients i j h.1 k.1)
faults_once f (Coefficient i) Element h k m n = absurd (none_above f.p f.coefficients i h.1 k.1)
faults_once f (Coefficient i) (Generator j) h k m n = absurd (none_above f.p f.coefficients i h.1 k.1)
faults_once f Element NoMemory h k m n = absurd (n refl)
faults_once f Element Size h k m n = absurd (k h.0)
faults_once f Element (Coefficient j) h k m n = absurd (none_above f.p f.coefficients j k.1 h.1)
faults_once f Element Element h k m n = refl
faults_once f Element (Generator j) h k m n = absurd (no_unit f h.2 k.2)
faults_once f (Generator i) NoMemory h k m n = absurd (n refl)
faults_once f (Generator i) Size h k m n = absurd (k h.0)
faults_once f (Generator i) (Coefficient j) h k m n = absurd (none_above f.p f.coefficients j k.1 h.1)
faults_once f (Generator i) Element h k m n = absurd (no_unit f k.2 h.2)
faults_once f (Generator i) (Generator j) h k m n = ap Generator (first_bad_once f i j h.3 k.3)

-- no exponent of a generator is bad
not_bad : (f : FieldData) → IsFieldData f → (e : ℕ) → IsBad f e → ⊥
not_bad f d e bad =
    ⊎_elim
    (λ b. ⊎_elim (λ none. (d.powers_new e b.0).0 none) (λ seen. (d.powers_new e b.0).1 seen.0 seen.1 seen.2) b.1)
    (λ b. b.1 (ap (power f f.g) b.0 ∙ d.power_last))
    bad

-- no fault is true of a field within the limits
pub field_has_no_fault : (f : FieldData) → IsWithinLimit f → IsFieldData f → (e : FieldFault) → IsFault f e → e ≡ NoMemory
field_has_no_fault f s d NoMemory h = refl
field_has_no_fault f s d Size h = absurd (h s)
field_has_no_fault f s d (Coefficient i) h = absurd (none_above f.p f.coefficients i h.1 d.ring.coefficients_below)
field_has_no_fault f s d Element h = absurd (no_unit f h.2 (generator_above f d, d.g_below))
field_has_no_fault f s d (Generator e) h = absurd (not_bad f d e h.3.2)
