-- Modules by the matrices of their simple roots: the ways in which these are said.
use Rattle.std.proofs.Common.{◌≡◌, ℕ, zero, suc, ◌≤◌, ℤ, pos, neg_ℤ, List, length, get_or, sym, ap, ◌∙◌, arith, Result, Ok, Err, IfOk, IfErr}
use Rattle.lie_ring.specs.Matrices.{Matrix, zero_matrix}
use Rattle.lie_datum.specs.Vectors.{Vector}
use Rattle.lie_datum.specs.RootDatum.{rank}
use Rattle.lie_datum.specs.RootList.{RootDatum}
use Rattle.lie_const.specs.Modules.{Module, dimension, divided_powers, divided_power}
use Rattle.lie_const.specs.Signs.{Signs}
use Rattle.lie_weight.specs.declared.entry.Entry.{Entry}
use Rattle.lie_weight.specs.declared.faults.ModuleFault.{ModuleFault}
use Rattle.lie_weight.specs.declared.faults.ModuleFault.TheVariants.{NoMemory, NotMinuscule, Table, Wide, Heavy, Huge}
use Rattle.lie_weight.specs.declared.sources.Source.{Source}
use Rattle.lie_weight.specs.declared.sources.Source.TheVariants.{Steps}
use Rattle.lie_weight.specs.Conjugation.{IsCompleted, IsHuge}
use Rattle.lie_weight.specs.OrbitModules.{step_matrix, StepsBy, HasSteps}
use Rattle.lie_weight.specs.OrbitFaults.{IsFirstHugeAlong}
use Rattle.lie_weight.specs.Tables.{given_matrix, HasGiven, AreGoodEntries, LoadsTable}
use Rattle.lie_weight.specs.Completion.{step_powers, given_powers, source_powers, IsFilled, Extends, IsConjugateFault}
use Rattle.lie_weight.specs.Along.{HasSimple, IsMadeFrom, IsFirstHugeFrom, IsFaultFrom, IsMadeAlong, IsFaultAlong}

-- ---- steps
pub steps_simple : (d : RootDatum) (ws : List Vector) (v : Module) → v.weights ≡ ws → HasSteps d v → HasSimple d (step_powers d ws) ws v
steps_simple d ws v e h = record {
  shape = h.shape;
  weights = e;
  up = λ i k s. by (pos i) (h.up i s) k;
  down = λ i k s. by (neg_ℤ (pos i)) (h.down i s) k;
}
  where
    by : (r : ℤ) → StepsBy d v r → (k : ℕ) → divided_power v r (suc k) ≡ step_powers d ws r k
    by r s zero = s.first ∙ ap (λ us. step_matrix d us r) e
    by r s (suc k) = s.others (suc (suc k)) (omega arith) ∙ ap (λ n. zero_matrix (pos 0) n n) (ap length e)

pub simple_steps : (d : RootDatum) (ws : List Vector) (v : Module) → HasSimple d (step_powers d ws) ws v → HasSteps d v
simple_steps d ws v h = record {
  shape = h.shape;
  up = λ i s. by (pos i) (λ k. h.up i k s);
  down = λ i s. by (neg_ℤ (pos i)) (λ k. h.down i k s);
}
  where
    past : (r : ℤ) → ((k : ℕ) → divided_power v r (suc k) ≡ step_powers d ws r k) → (k : ℕ) → 2 ≤ k → divided_power v r k ≡ zero_matrix (pos 0) (dimension v) (dimension v)
    past r f zero l = absurd (omega (arith, l))
    past r f (suc zero) l = absurd (omega (arith, l))
    past r f (suc (suc k)) l = f (suc k) ∙ ap (λ n. zero_matrix (pos 0) n n) (sym (ap length h.weights))

    by : (r : ℤ) → ((k : ℕ) → divided_power v r (suc k) ≡ step_powers d ws r k) → StepsBy d v r
    by r f = record { first = f 0 ∙ ap (λ us. step_matrix d us r) (sym h.weights); others = past r f }

-- ---- entries
pub given_simple : (d : RootDatum) (ws : List Vector) (es : List Entry) (v : Module) → HasGiven d ws es v → HasSimple d (given_powers (length ws) es) ws v
given_simple d ws es v h = record {
  shape = h.shape;
  weights = h.weights;
  up = λ i k s. h.up i (suc k) s (omega arith);
  down = λ i k s. h.down i (suc k) s (omega arith);
}

pub simple_given : (d : RootDatum) (ws : List Vector) (es : List Entry) (v : Module) → HasSimple d (given_powers (length ws) es) ws v → HasGiven d ws es v
simple_given d ws es v h = record {
  shape = h.shape;
  weights = h.weights;
  up = λ i k s l. at (pos i) (λ j. h.up i j s) k l;
  down = λ i k s l. at (neg_ℤ (pos i)) (λ j. h.down i j s) k l;
}
  where
    at : (r : ℤ) → ((k : ℕ) → divided_power v r (suc k) ≡ given_matrix (length ws) es r (suc k)) → (k : ℕ) → 1 ≤ k → divided_power v r k ≡ given_matrix (length ws) es r k
    at r f zero l = absurd (omega (arith, l))
    at r f (suc k) l = f k

-- ---- what is filled, and what extends it
pub filled_simple : (d : RootDatum) (g : ℤ → ℕ → Matrix ℤ) (ws : List Vector) (u v : Module) → u.weights ≡ ws → IsFilled d g (rank d.base) u → Extends d u v → HasSimple d g ws v
filled_simple d g ws u v e f x = record {
  shape = x.shape;
  weights = x.weights ∙ e;
  up = λ i k s. same (pos i) (x.up i s) k ∙ f.up i k s s.1;
  down = λ i k s. same (neg_ℤ (pos i)) (x.down i s) k ∙ f.down i k s s.1;
}
  where
    same : (r : ℤ) → divided_powers v r ≡ divided_powers u r → (k : ℕ) → divided_power v r (suc k) ≡ divided_power u r (suc k)
    same r h k = ap (λ Ms. get_or Ms k (zero_matrix (pos 0) (length v.weights) (length v.weights))) h ∙ ap (λ n. get_or (divided_powers u r) k (zero_matrix (pos 0) n n)) (ap length x.weights)

pub made_from : (d : RootDatum) (eta : Signs) (g : ℤ → ℕ → Matrix ℤ) (ws : List Vector) (u v : Module) → u.weights ≡ ws → IsFilled d g (rank d.base) u → Extends d u v → IsCompleted d eta v → ((r : ℤ) (k : ℕ) → ¬ IsHuge d v r k) → IsMadeFrom d eta g ws v
made_from d eta g ws u v e f x c s = record { simple = filled_simple d g ws u v e f x; completed = c; small = s }

pub fault_from : (d : RootDatum) (eta : Signs) (g : ℤ → ℕ → Matrix ℤ) (ws : List Vector) (u v : Module) (why : ModuleFault) → u.weights ≡ ws → IsFilled d g (rank d.base) u → Extends d u v → IsConjugateFault d eta v why → IsFaultFrom d eta g ws why
fault_from d eta g ws u v NoMemory e f x h = tt
fault_from d eta g ws u v (NotMinuscule r) e f x h = absurd h
fault_from d eta g ws u v (Table n) e f x h = absurd h
fault_from d eta g ws u v (Wide n) e f x h = absurd h
fault_from d eta g ws u v (Heavy a) e f x h = absurd h
fault_from d eta g ws u v (Huge r k) e f x h = record { partial = v; simple = filled_simple d g ws u v e f x; completed = h.0; first = h.1 }

-- ---- the module along weights
steps_of : (d : RootDatum) (ws : List Vector) (v : Module) → HasSimple d (source_powers d ws Steps) ws v → HasSteps d v
steps_of d ws v h = simple_steps d ws v (record { shape = h.shape; weights = h.weights; up = h.up; down = h.down })

pub made_along : (d : RootDatum) (eta : Signs) (ws : List Vector) (v : Module) → IsMadeFrom d eta (source_powers d ws Steps) ws v → IsMadeAlong d eta ws v
made_along d eta ws v h = (h.simple.weights, record { steps = steps_of d ws v h.simple; completed = h.completed; small = h.small })

pub fault_along : (d : RootDatum) (eta : Signs) (ws : List Vector) (why : ModuleFault) → IsFaultFrom d eta (source_powers d ws Steps) ws why → IsFaultAlong d eta ws why
fault_along d eta ws NoMemory h = tt
fault_along d eta ws (NotMinuscule r) h = absurd h
fault_along d eta ws (Table n) h = absurd h
fault_along d eta ws (Wide n) h = absurd h
fault_along d eta ws (Heavy a) h = absurd h
fault_along d eta ws (Huge r k) h = record { partial = h.partial; weights = h.simple.weights; steps = steps_of d ws h.partial h.simple; completed = h.completed; first = h.first }

pub huge_from : (d : RootDatum) (eta : Signs) (ws : List Vector) (r : ℤ) (k : ℕ) → IsFirstHugeAlong d eta ws r k → IsFirstHugeFrom d eta (step_powers d ws) ws r k
huge_from d eta ws r k h = record { partial = h.partial; simple = steps_simple d ws h.partial h.weights h.steps; completed = h.completed; first = h.first }

-- ---- the module of a table
given_of : (d : RootDatum) (ws : List Vector) (es : List Entry) (x : Source) (v : Module) → ((r : ℤ) (k : ℕ) → source_powers d ws x r k ≡ given_powers (length ws) es r k) → HasSimple d (source_powers d ws x) ws v → HasGiven d ws es v
given_of d ws es x v e h = simple_given d ws es v (record { shape = h.shape; weights = h.weights; up = λ i k s. h.up i k s ∙ e (pos i) k; down = λ i k s. h.down i k s ∙ e (neg_ℤ (pos i)) k })

pub table_loads : (d : RootDatum) (eta : Signs) (ws : List Vector) (es : List Entry) (x : Source) (r : Result Module ModuleFault) → ((r : ℤ) (k : ℕ) → source_powers d ws x r k ≡ given_powers (length ws) es r k) → AreGoodEntries d ws es →
    IfOk r (IsMadeFrom d eta (source_powers d ws x) ws) → IfErr r (IsFaultFrom d eta (source_powers d ws x) ws) → LoadsTable d eta ws es r
table_loads d eta ws es x (Ok v) e g h f = (g, record { given = given_of d ws es x v e h.simple; completed = h.completed }, h.small)
table_loads d eta ws es x (Err NoMemory) e g h f = tt
table_loads d eta ws es x (Err (NotMinuscule r)) e g h f = absurd f
table_loads d eta ws es x (Err (Table n)) e g h f = absurd f
table_loads d eta ws es x (Err (Wide n)) e g h f = absurd f
table_loads d eta ws es x (Err (Heavy a)) e g h f = absurd f
table_loads d eta ws es x (Err (Huge r k)) e g h f = (g, record { partial = f.partial; given = given_of d ws es x f.partial e f.simple; completed = f.completed; first = f.first })

-- a clause on `Err` that follows from another
pub err_map : {A E : Type 0} (P Q : E → Type 0) → ((e : E) → P e → Q e) → (r : Result A E) → IfErr r P → IfErr r Q
err_map P Q f (Ok x) p = tt
err_map P Q f (Err e) p = f e p
