-- A table has one answer of `Module::table`, want of memory aside.
use Rattle.std.proofs.Common.{◌≡◌, ◌≢◌, ℕ, ◌-◌, ℤ, List, length, refl, ap, ◌∙◌, arith, Result, Ok, Err}
use Rattle.lie_datum.specs.Vectors.{Vector}
use Rattle.lie_datum.specs.RootList.{RootDatum, IsLoaded}
use Rattle.lie_const.specs.Modules.{Module}
use Rattle.lie_const.specs.Signs.{Signs}
use Rattle.lie_orbit.proofs.OneOrbit.{order}
use Rattle.lie_weight.specs.declared.entry.Entry.{Entry}
use Rattle.lie_weight.specs.declared.faults.ModuleFault.{ModuleFault}
use Rattle.lie_weight.specs.declared.faults.ModuleFault.TheVariants.{NoMemory, NotMinuscule, Table, Wide, Heavy, Huge}
use Rattle.lie_weight.specs.Conjugation.{IsHuge}
use Rattle.lie_weight.specs.Tables.{IsFirstBadEntry, AreGoodEntries, IsTableModule, IsFirstHugeGiven, LoadsTable, LoadsTableOneWay}
use Rattle.lie_weight.specs.Along.{IsFirstHugeFrom}
use Rattle.lie_weight.specs.Completion.{given_powers}
use Rattle.lie_weight.proofs.SimpleLemmas.{given_simple}
use Rattle.lie_weight.proofs.AlongLemmas.{not_huge_from, one_huge_from, one_made_from}

module _ (d : RootDatum) (loaded : IsLoaded d) (eta : Signs) (ws : List Vector) (es : List Entry) where
  -- ---- the first bad entry
  one_bad : (m n : ℕ) → IsFirstBadEntry d ws es m → IsFirstBadEntry d ws es n → m ≡ n
  one_bad m n a b =
      let e = order (m - 1) (n - 1) (λ l. b.before (m - 1) l a.bad) (λ l. a.before (n - 1) l b.bad) in
      let f = a.first in
      let g = b.first in
      omega (arith, e, f, g)

  not_good : (n : ℕ) → IsFirstBadEntry d ws es n → AreGoodEntries d ws es → ⊥
  not_good n a g = g (n - 1) a.bad

  -- ---- the first huge conjugate
  from_given : (r : ℤ) (k : ℕ) → IsFirstHugeGiven d eta ws es r k → IsFirstHugeFrom d eta (given_powers (length ws) es) ws r k
  from_given r k h = record { partial = h.partial; simple = given_simple d ws es h.partial h.given; completed = h.completed; first = h.first }

  huge_small : (r : ℤ) (k : ℕ) (v : Module) → IsFirstHugeGiven d eta ws es r k → IsTableModule d eta ws es v → ((q : ℤ) (j : ℕ) → ¬ IsHuge d v q j) → ⊥
  huge_small r k v h o small = not_huge_from d loaded eta (given_powers (length ws) es) ws r k v (from_given r k h) (given_simple d ws es v o.given) o.completed small

  one_huge_given : (q r : ℤ) (j k : ℕ) → IsFirstHugeGiven d eta ws es q j → IsFirstHugeGiven d eta ws es r k → (q ≡ r) × (j ≡ k)
  one_huge_given q r j k a b = one_huge_from d loaded eta (given_powers (length ws) es) ws q r j k (from_given q j a) (from_given r k b)

  -- ---- one module
  one_table_module : (u v : Module) → IsTableModule d eta ws es u → IsTableModule d eta ws es v → u ≡ v
  one_table_module u v a b = one_made_from d loaded eta (given_powers (length ws) es) ws u v (given_simple d ws es u a.given) (given_simple d ws es v b.given) a.completed b.completed

  -- ---- one answer
  two : (x y : Result Module ModuleFault) → LoadsTable d eta ws es x → LoadsTable d eta ws es y → x ≢ Err NoMemory → y ≢ Err NoMemory → x ≡ y
  two (Err NoMemory) y a b n m = absurd (n refl)
  two (Err (NotMinuscule r)) y a b n m = absurd a
  two (Err (Wide p)) y a b n m = absurd a
  two (Err (Heavy p)) y a b n m = absurd a
  two (Ok u) (Err NoMemory) a b n m = absurd (m refl)
  two (Ok u) (Err (NotMinuscule r)) a b n m = absurd b
  two (Ok u) (Err (Wide p)) a b n m = absurd b
  two (Ok u) (Err (Heavy p)) a b n m = absurd b
  two (Ok u) (Ok v) a b n m = ap Ok (one_table_module u v a.1 b.1)
  two (Ok u) (Err (Table q)) a b n m = absurd (not_good q b a.0)
  two (Ok u) (Err (Huge r k)) a b n m = absurd (huge_small r k u b.1 a.1 a.2)
  two (Err (Table p)) (Err NoMemory) a b n m = absurd (m refl)
  two (Err (Table p)) (Err (NotMinuscule r)) a b n m = absurd b
  two (Err (Table p)) (Err (Wide q)) a b n m = absurd b
  two (Err (Table p)) (Err (Heavy q)) a b n m = absurd b
  two (Err (Table p)) (Ok v) a b n m = absurd (not_good p a b.0)
  two (Err (Table p)) (Err (Table q)) a b n m = ap (λ (t : ℕ). Err (Table t)) (one_bad p q a b)
  two (Err (Table p)) (Err (Huge r k)) a b n m = absurd (not_good p a b.0)
  two (Err (Huge r k)) (Err NoMemory) a b n m = absurd (m refl)
  two (Err (Huge r k)) (Err (NotMinuscule s)) a b n m = absurd b
  two (Err (Huge r k)) (Err (Wide q)) a b n m = absurd b
  two (Err (Huge r k)) (Err (Heavy q)) a b n m = absurd b
  two (Err (Huge r k)) (Ok v) a b n m = absurd (huge_small r k v a.1 b.1 b.2)
  two (Err (Huge r k)) (Err (Table q)) a b n m = absurd (not_good q b a.0)
  two (Err (Huge r k)) (Err (Huge s j)) a b n m = let e = one_huge_given r s k j a.1 b.1 in ap (λ (t : ℤ). Err (Huge t k)) e.0 ∙ ap (λ (t : ℕ). Err (Huge s t)) e.1

pub one_answer : LoadsTableOneWay
one_answer d eta ws es x y loaded a b n m = two d loaded eta ws es x y a b n m
