-- Two modules have one sum, one tensor product and one answer of `Module::sum` and of `Module::tensor`, want of memory aside; a module has one dual.
use Rattle.std.proofs.Common.{◌≡◌, ◌≢◌, ℕ, ◌+◌, ◌*◌, ◌<◌, ◌≤◌, ℤ, List, ◌++◌, refl, sym, ap, subst, ◌∙◌, arith, ⊎_elim, Result, Ok, Err}
use Rattle.lie_datum.specs.Vectors.{Vector}
use Rattle.lie_datum.specs.RootList.{RootDatum}
use Rattle.lie_const.specs.Modules.{Module, dimension}
use Rattle.lie_orbit.proofs.OneOrbit.{order}
use Rattle.lie_weight.specs.declared.faults.ModuleFault.{ModuleFault}
use Rattle.lie_weight.specs.declared.faults.ModuleFault.TheVariants.{NoMemory, NotMinuscule, Table, Wide, Heavy, Huge}
use Rattle.lie_weight.specs.OrbitFaults.{IsHeavyAt}
use Rattle.lie_weight.specs.Duals.{DualsAreOne}
use Rattle.lie_weight.specs.Sums.{IsSum, IsFirstHeavyAmong, LoadsSum, LoadsSumOneWay}
use Rattle.lie_weight.specs.Tensors.{tensor_weights, IsTensor, IsFirstHugeTensor, LoadsTensor, LoadsTensorOneWay}
use Rattle.lie_weight.proofs.UniqueLemmas.{one_module}
use Rattle.lie_weight.proofs.AlongLemmas.{trichotomy}

too_many : (n : ℕ) → 300 < n → n ≤ 300 → ⊥
too_many n l m = absurd (omega (arith, l, m))

-- ---- the first heavy weight
one_heavy : (ws : List Vector) (a b : ℕ) → IsFirstHeavyAmong ws a → IsFirstHeavyAmong ws b → a ≡ b
one_heavy ws a b g h = order a b (λ l. h.before a l g.heavy) (λ l. g.before b l h.heavy)

none_heavy : (us ws : List Vector) (a : ℕ) → us ≡ ws → ((b : ℕ) → ¬ IsHeavyAt us b) → IsFirstHeavyAmong ws a → ⊥
none_heavy us ws a e light h = light a (subst (λ t. IsHeavyAt t a) (sym e) h.heavy)

pub one_sum : (d : RootDatum) (v w s t : Module) → IsSum d v w s → IsSum d v w t → s ≡ t
one_sum d v w s t a b = one_module d t s b.shape a.shape (a.weights ∙ sym b.weights) (λ r k n l. a.powers r k n l ∙ sym (b.powers r k n l))

pub one_dual : DualsAreOne
one_dual d v u w a b = one_module d w u b.shape a.shape (a.weights ∙ sym b.weights) (λ r k n l. a.powers r k n l ∙ sym (b.powers r k n l))

module _ (d : RootDatum) (v w : Module) where
  -- ---- sums
  two_sums : (x y : Result Module ModuleFault) → LoadsSum d v w x → LoadsSum d v w y → x ≢ Err NoMemory → y ≢ Err NoMemory → x ≡ y
  two_sums (Err NoMemory) y a b n m = absurd (n refl)
  two_sums (Err (NotMinuscule r)) y a b n m = absurd a
  two_sums (Err (Table p)) y a b n m = absurd a
  two_sums (Err (Huge r k)) y a b n m = absurd a
  two_sums (Ok s) (Err NoMemory) a b n m = absurd (m refl)
  two_sums (Err (Wide p)) (Err NoMemory) a b n m = absurd (m refl)
  two_sums (Err (Heavy p)) (Err NoMemory) a b n m = absurd (m refl)
  two_sums (Ok s) (Err (NotMinuscule r)) a b n m = absurd b
  two_sums (Err (Wide p)) (Err (NotMinuscule r)) a b n m = absurd b
  two_sums (Err (Heavy p)) (Err (NotMinuscule r)) a b n m = absurd b
  two_sums (Ok s) (Err (Table q)) a b n m = absurd b
  two_sums (Err (Wide p)) (Err (Table q)) a b n m = absurd b
  two_sums (Err (Heavy p)) (Err (Table q)) a b n m = absurd b
  two_sums (Ok s) (Err (Huge r k)) a b n m = absurd b
  two_sums (Err (Wide p)) (Err (Huge r k)) a b n m = absurd b
  two_sums (Err (Heavy p)) (Err (Huge r k)) a b n m = absurd b
  two_sums (Ok s) (Ok t) a b n m = ap Ok (one_sum d v w s t a.0 b.0)
  two_sums (Ok s) (Err (Wide q)) a b n m = absurd (too_many (dimension v + dimension w) b.0 a.1)
  two_sums (Ok s) (Err (Heavy q)) a b n m = absurd (none_heavy s.weights (v.weights ++ w.weights) q a.0.weights a.2 b.1)
  two_sums (Err (Wide p)) (Ok t) a b n m = absurd (too_many (dimension v + dimension w) a.0 b.1)
  two_sums (Err (Wide p)) (Err (Wide q)) a b n m = ap (λ (t : ℕ). Err (Wide t)) (a.1 ∙ sym b.1)
  two_sums (Err (Wide p)) (Err (Heavy q)) a b n m = absurd (too_many (dimension v + dimension w) a.0 b.0)
  two_sums (Err (Heavy p)) (Ok t) a b n m = absurd (none_heavy t.weights (v.weights ++ w.weights) p b.0.weights b.2 a.1)
  two_sums (Err (Heavy p)) (Err (Wide q)) a b n m = absurd (too_many (dimension v + dimension w) b.0 a.0)
  two_sums (Err (Heavy p)) (Err (Heavy q)) a b n m = ap (λ (t : ℕ). Err (Heavy t)) (one_heavy (v.weights ++ w.weights) p q a.1 b.1)

  -- ---- tensor products
  one_tensor : (s t : Module) → IsTensor d v w s → IsTensor d v w t → s ≡ t
  one_tensor s t a b = one_module d t s b.shape a.shape (a.weights ∙ sym b.weights) (λ r k n l. a.powers r k n l ∙ sym (b.powers r k n l))

  one_huge : (q r : ℤ) (j k : ℕ) → IsFirstHugeTensor d v w q j → IsFirstHugeTensor d v w r k → (q ≡ r) × (j ≡ k)
  one_huge q r j k a b =
      ⊎_elim (λ p. absurd (b.before q j p a.huge)) (λ p. ⊎_elim (λ l. absurd (a.before r k l b.huge)) (λ e. e) p) (trichotomy d q r j k a.huge.number b.huge.number)

  two_tensors : (x y : Result Module ModuleFault) → LoadsTensor d v w x → LoadsTensor d v w y → x ≢ Err NoMemory → y ≢ Err NoMemory → x ≡ y
  two_tensors (Err NoMemory) y a b n m = absurd (n refl)
  two_tensors (Err (NotMinuscule r)) y a b n m = absurd a
  two_tensors (Err (Table p)) y a b n m = absurd a
  two_tensors (Ok s) (Err NoMemory) a b n m = absurd (m refl)
  two_tensors (Err (Wide p)) (Err NoMemory) a b n m = absurd (m refl)
  two_tensors (Err (Heavy p)) (Err NoMemory) a b n m = absurd (m refl)
  two_tensors (Err (Huge r k)) (Err NoMemory) a b n m = absurd (m refl)
  two_tensors (Ok s) (Err (NotMinuscule r)) a b n m = absurd b
  two_tensors (Err (Wide p)) (Err (NotMinuscule r)) a b n m = absurd b
  two_tensors (Err (Heavy p)) (Err (NotMinuscule r)) a b n m = absurd b
  two_tensors (Err (Huge q j)) (Err (NotMinuscule r)) a b n m = absurd b
  two_tensors (Ok s) (Err (Table q)) a b n m = absurd b
  two_tensors (Err (Wide p)) (Err (Table q)) a b n m = absurd b
  two_tensors (Err (Heavy p)) (Err (Table q)) a b n m = absurd b
  two_tensors (Err (Huge r k)) (Err (Table q)) a b n m = absurd b
  two_tensors (Ok s) (Ok t) a b n m = ap Ok (one_tensor s t a.0 b.0)
  two_tensors (Ok s) (Err (Wide q)) a b n m = absurd (too_many (dimension v * dimension w) b.0 a.1)
  two_tensors (Ok s) (Err (Heavy q)) a b n m = absurd (none_heavy s.weights (tensor_weights v w) q a.0.weights a.2 b.1)
  two_tensors (Ok s) (Err (Huge r k)) a b n m = absurd (a.3 r k b.2.huge)
  two_tensors (Err (Wide p)) (Ok t) a b n m = absurd (too_many (dimension v * dimension w) a.0 b.1)
  two_tensors (Err (Wide p)) (Err (Wide q)) a b n m = ap (λ (t : ℕ). Err (Wide t)) (a.1 ∙ sym b.1)
  two_tensors (Err (Wide p)) (Err (Heavy q)) a b n m = absurd (too_many (dimension v * dimension w) a.0 b.0)
  two_tensors (Err (Wide p)) (Err (Huge r k)) a b n m = absurd (too_many (dimension v * dimension w) a.0 b.0)
  two_tensors (Err (Heavy p)) (Ok t) a b n m = absurd (none_heavy t.weights (tensor_weights v w) p b.0.weights b.2 a.1)
  two_tensors (Err (Heavy p)) (Err (Wide q)) a b n m = absurd (too_many (dimension v * dimension w) b.0 a.0)
  two_tensors (Err (Heavy p)) (Err (Heavy q)) a b n m = ap (λ (t : ℕ). Err (Heavy t)) (one_heavy (tensor_weights v w) p q a.1 b.1)
  two_tensors (Err (Heavy p)) (Err (Huge r k)) a b n m = absurd (none_heavy (tensor_weights v w) (tensor_weights v w) p refl b.1 a.1)
  two_tensors (Err (Huge r k)) (Ok t) a b n m = absurd (b.3 r k a.2.huge)
  two_tensors (Err (Huge r k)) (Err (Wide q)) a b n m = absurd (too_many (dimension v * dimension w) b.0 a.0)
  two_tensors (Err (Huge r k)) (Err (Heavy q)) a b n m = absurd (none_heavy (tensor_weights v w) (tensor_weights v w) q refl a.1 b.1)
  two_tensors (Err (Huge r k)) (Err (Huge s j)) a b n m = let e = one_huge r s k j a.2 b.2 in ap (λ (t : ℤ). Err (Huge t k)) e.0 ∙ ap (λ (t : ℕ). Err (Huge s t)) e.1

pub one_sum_answer : LoadsSumOneWay
one_sum_answer d v w x y a b n m = two_sums d v w x y a b n m

pub one_tensor_answer : LoadsTensorOneWay
one_tensor_answer d v w x y a b n m = two_tensors d v w x y a b n m
