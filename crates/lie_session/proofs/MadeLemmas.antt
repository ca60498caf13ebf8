-- Modules that are made of named ones have the shape of a module, and light weights.
use Rattle.std.proofs.Common.{◌≡◌, ℕ, ◌+◌, ◌-◌, pos, List, [], Option, Some, None, Result, Ok, Err, get_or, refl, sym, ap, subst, ◌∙◌, arith, unsigned_abs, inl, inr}
use Rattle.std.specs.Prelude.{IfOk, MatchOption}
use Rattle.std.specs.List.{All}
use Rattle.std.proofs.lemmas.Bool.{cases_lt}
use Rattle.std.proofs.lemmas.List.{get_or_default}
use Rattle.std.proofs.lemmas.List.Elements.{All-map}
use Rattle.lie_const.specs.Modules.{Module, IsModule}
use Rattle.lie_datum.specs.RootDatum.{IsWithin}
use Rattle.lie_datum.specs.RootList.{RootDatum}
use Rattle.lie_datum.specs.Vectors.{Vector, minus, entry as coordinate}
use Rattle.lie_datum.proofs.VectorLemmas.{entry_within, abs_neg, entry-minus}
use Rattle.lie_identities.specs.Audit.{HasLightWeights}
use Rattle.lie_weight.specs.Duals.{IsDual}
use Rattle.lie_weight.specs.OrbitFaults.{IsHeavyWeight, IsHeavyAt}
use Rattle.lie_weight.specs.Sums.{LoadsSum}
use Rattle.lie_weight.specs.Tensors.{LoadsTensor}
use Rattle.lie_weight.specs.declared.faults.ModuleFault.{ModuleFault}
use Rattle.lie_session.specs.Held.{LoadedGroup}
use Rattle.lie_session.specs.Named.{module_of}
use Rattle.lie_session.specs.Outcomes.{Outcome, quiet, NamesModule, NamesMade, NamesOfTwo, NamesDual}
use Rattle.lie_session.specs.declared.stage.Stage.TheVariants as stage

-- a vector that is not heavy
light_weight : (x : Vector) → ¬ IsHeavyWeight x → IsWithin 1000000 x
light_weight x h k z l = elim (cases_lt 1000000 (unsigned_abs (get_or x k z))) [
  | inl heavy ↦ absurd (h (k, get_or x k z, l, sym (get_or_default x k z (get_or x k z) l), heavy))
  | inr light ↦ light
]

-- where no weight is heavy, all are light
light_weights : (ws : List Vector) → ((a : ℕ) → ¬ IsHeavyAt ws a) → All (IsWithin 1000000) ws
light_weights ws light k z l =
    light_weight (get_or ws k z) (λ heavy. light (k + 1) (omega arith, omega (arith, l), subst IsHeavyWeight (get_or_default ws k z [] l ∙ ap (λ i. get_or ws i []) (let e : k ≡ k + 1 - 1 = omega arith in e)) heavy))

-- a sum
pub sum_shape : (d : RootDatum) (v w : Module) (x : Result Module ModuleFault) → LoadsSum d v w x → IfOk x (IsModule d)
sum_shape d v w (Ok s) h = h.0.shape
sum_shape d v w (Err why) h = tt

pub sum_light : (d : RootDatum) (v w : Module) (x : Result Module ModuleFault) → LoadsSum d v w x → IfOk x HasLightWeights
sum_light d v w (Ok s) h = light_weights s.weights h.2
sum_light d v w (Err why) h = tt

-- a tensor product
pub tensor_shape : (d : RootDatum) (v w : Module) (x : Result Module ModuleFault) → LoadsTensor d v w x → IfOk x (IsModule d)
tensor_shape d v w (Ok s) h = h.0.shape
tensor_shape d v w (Err why) h = tt

pub tensor_light : (d : RootDatum) (v w : Module) (x : Result Module ModuleFault) → LoadsTensor d v w x → IfOk x HasLightWeights
tensor_light d v w (Ok s) h = light_weights s.weights h.2
tensor_light d v w (Err why) h = tt

-- a vector is as light as its opposite
minus_light : (n : ℕ) (x : Vector) → IsWithin n x → IsWithin n (minus x)
minus_light n x h k z l =
    let e = ap unsigned_abs (get_or_default (minus x) k z (pos 0) l ∙ entry-minus x k) ∙ abs_neg (coordinate x k) in
    let w = entry_within n x k h in
    omega (arith, e, w)

-- and so is a dual
pub dual_light : (d : RootDatum) (v w : Module) → IsDual d v w → HasLightWeights v → HasLightWeights w
dual_light d v w is light =
    subst (All (IsWithin 1000000)) (sym is.weights) (All-map (IsWithin 1000000) minus v.weights (λ k z l. minus_light 1000000 (get_or v.weights k z) (light k z l)))

-- ---- what names lead to

by_name : {A : Type 0} (P : Type 0) (Q : A → Type 0) (o : Option A) (a : A) → o ≡ Some a → Q a → MatchOption o P Q
by_name P Q o a is h = subst (λ z. MatchOption z P Q) (sym is) h

-- what is made of the modules of two names
pub names_two : (Makes : RootDatum → Module → Module → Result Module ModuleFault → Type 0) (g : LoadedGroup) (name a b : List ℕ) (v w : Module) (x : Result Module ModuleFault)
    → module_of g.modules a ≡ Some v → module_of g.modules b ≡ Some w → Makes g.frame.datum v w x → (r : Outcome) → NamesMade g name x r → NamesOfTwo Makes g name a b r
names_two Makes g name a b v w x a_is b_is makes r names =
    by_name (r ≡ quiet (stage.Loaded g)) (λ v. MatchOption (module_of g.modules b) (r ≡ quiet (stage.Loaded g)) (λ w. (x : Result Module ModuleFault) × Makes g.frame.datum v w x × NamesMade g name x r))
    (module_of g.modules a) v a_is
    (by_name (r ≡ quiet (stage.Loaded g)) (λ w. (x : Result Module ModuleFault) × Makes g.frame.datum v w x × NamesMade g name x r) (module_of g.modules b) w b_is (x, makes, names))

-- a name that no module has
pub names_two_first : (Makes : RootDatum → Module → Module → Result Module ModuleFault → Type 0) (g : LoadedGroup) (name a b : List ℕ) → module_of g.modules a ≡ None
    → NamesOfTwo Makes g name a b (quiet (stage.Loaded g))
names_two_first Makes g name a b none =
    let r = quiet (stage.Loaded g) in
    subst (λ o. MatchOption o (r ≡ r) (λ v. MatchOption (module_of g.modules b) (r ≡ r) (λ w. (x : Result Module ModuleFault) × Makes g.frame.datum v w x × NamesMade g name x r))) (sym none) refl

pub names_two_second : (Makes : RootDatum → Module → Module → Result Module ModuleFault → Type 0) (g : LoadedGroup) (name a b : List ℕ) (v : Module) → module_of g.modules a ≡ Some v
    → module_of g.modules b ≡ None → NamesOfTwo Makes g name a b (quiet (stage.Loaded g))
names_two_second Makes g name a b v is none =
    let r = quiet (stage.Loaded g) in
    by_name (r ≡ r) (λ v. MatchOption (module_of g.modules b) (r ≡ r) (λ w. (x : Result Module ModuleFault) × Makes g.frame.datum v w x × NamesMade g name x r)) (module_of g.modules a) v is
    (subst (λ o. MatchOption o (r ≡ r) (λ w. (x : Result Module ModuleFault) × Makes g.frame.datum v w x × NamesMade g name x r)) (sym none) refl)

-- the dual of the module of a name
pub names_dual : (g : LoadedGroup) (name a : List ℕ) (v w : Module) → module_of g.modules a ≡ Some v → IsDual g.frame.datum v w → (r : Outcome) → NamesModule g name w r → NamesDual g name a r
names_dual g name a v w is dual r names =
    by_name (r ≡ quiet (stage.Loaded g)) (λ v. (w : Module) × IsDual g.frame.datum v w × NamesModule g name w r) (module_of g.modules a) v is (w, dual, names)

pub names_dual_none : (g : LoadedGroup) (name a : List ℕ) → module_of g.modules a ≡ None → NamesDual g name a (quiet (stage.Loaded g))
names_dual_none g name a none =
    let r = quiet (stage.Loaded g) in
    subst (λ o. MatchOption o (r ≡ r) (λ v. (w : Module) × IsDual g.frame.datum v w × NamesModule g name w r)) (sym none) refl
