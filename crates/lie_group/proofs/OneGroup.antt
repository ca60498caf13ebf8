-- The frames of a field and a datum have one group, or one first fault.
use Rattle.std.proofs.Common.{◌≡◌, ◌≢◌, inl, inr, ℤ, pos, Result, Ok, Err, refl, sym, ap, ◌∙◌, subst, arith}
use Rattle.std.proofs.lemmas.Bool.{cases_lt}
use Rattle.lie_field.specs.FiniteField.{FiniteField}
use Rattle.lie_datum.specs.RootList.{RootDatum, IsLoaded}
use Rattle.lie_const.specs.ConstantTables.{ConstantTable, IsSameTable}
use Rattle.lie_const.specs.Modules.{Module}
use Rattle.lie_const.specs.Signs.{SignTable, eta_of}
use Rattle.lie_letters.specs.SignedFrames.{SignedFrame}
use Rattle.lie_weight.specs.Carriers.{LoadsCarrier}
use Rattle.lie_weight.specs.declared.faults.ModuleFault.{ModuleFault}
use Rattle.lie_weight.specs.declared.faults.ModuleFault.TheVariants as module_fault
use Rattle.lie_weight.proofs.OneCarrier.{one_answer}
use Rattle.lie_identities.specs.declared.faults.AuditFault.{AuditFault}
use Rattle.lie_identities.specs.declared.faults.AuditFault.TheVariants as audit_fault
use Rattle.lie_identities.specs.Audit.{MeetsIdentities, IsAuditFault}
use Rattle.lie_identities.specs.Covers.{IsLive, IsLiveAt, IsFirstDead}
use Rattle.lie_identities.proofs.OneAnswer.{one_audit_answer}
use Rattle.lie_audit.proofs.OneAdjointLemmas.{one_adjoint}
use Rattle.lie_group.specs.declared.faults.LoadFault.{LoadFault}
use Rattle.lie_group.specs.declared.faults.LoadFault.TheVariants.{NoMemory, CarrierWide, Heavy, Huge, Graded, Large, Relation, Dead}
use Rattle.lie_group.specs.Loading.{IsSameFrame}
use Rattle.lie_group.specs.Groups.{GroupData, HasCarrierAnswer, IsCarrierOf, HasAuditFault, IsGroupFault, LoadsGroup, IsSameGroup, IsSameGroupAnswer, LoadsOneGroup, MeetsFrame, audits_fault}
use Rattle.lie_group.proofs.GroupLemmas.{carrier_meets}
use Rattle.lie_group.proofs.OneFrame.{one_frame}
use Rattle.lie_group.proofs.SameAudits.{meets_same, fault_same}

-- ---- the first root that is not live
dead_is_one : (f : FiniteField) (d : RootDatum) (v : Module) (r s : ℤ) → IsFirstDead f d v r → IsFirstDead f d v s → r ≡ s
dead_is_one f d v r s p q = elim (cases_lt p.k q.k) [
  | inl l ↦ absurd (p.dead (subst (IsLiveAt f v) (sym p.number) (q.before p.k p.first l)))
  | inr g ↦ elim (cases_lt q.k p.k) [
    | inl l ↦ absurd (q.dead (subst (IsLiveAt f v) (sym q.number) (p.before q.k q.first l)))
    | inr h ↦ p.number ∙ ap pos (omega (arith, g, h)) ∙ sym q.number
  ]
]

not_dead : (f : FiniteField) (d : RootDatum) (v : Module) (r : ℤ) → IsLive f d v → IsFirstDead f d v r → ⊥
not_dead f d v r live p = p.dead (subst (IsLiveAt f v) (sym p.number) (live p.k p.first p.last))

-- ---- faults by kind
-- a fault of a carrier; no weight of one is not minuscule, and it has no table
abbrev carriers_fault : ModuleFault → LoadFault
carriers_fault module_fault.NoMemory = NoMemory
carriers_fault (module_fault.NotMinuscule r) = NoMemory
carriers_fault (module_fault.Table n) = NoMemory
carriers_fault (module_fault.Wide n) = CarrierWide n
carriers_fault (module_fault.Heavy a) = Heavy a
carriers_fault (module_fault.Huge r k) = Huge r k

-- it is of the carrier, of its audit, or of its covering
data Kind (f : SignedFrame) (why : LoadFault) : Type 0 where
  of_carrier : (m : ModuleFault) → m ≢ module_fault.NoMemory → HasCarrierAnswer f (Err m) → why ≡ carriers_fault m → Kind f why
  of_audit : (a : AuditFault) → a ≢ audit_fault.NoMemory → HasAuditFault f a → why ≡ audits_fault a → Kind f why
  of_cover : (r : ℤ) → IsGroupFault f (Dead r) → why ≡ Dead r → Kind f why

kind : (f : SignedFrame) (why : LoadFault) → why ≢ NoMemory → IsGroupFault f why → Kind f why
kind f NoMemory named h = absurd (named refl)
kind f (CarrierWide n) named h = of_carrier (module_fault.Wide n) (λ e. absurd cc) h refl
kind f (Heavy a) named h = of_carrier (module_fault.Heavy a) (λ e. absurd cc) h refl
kind f (Huge r k) named h = of_carrier (module_fault.Huge r k) (λ e. absurd cc) h refl
kind f (Graded r k row col) named h = of_audit (audit_fault.Graded r k row col) (λ e. absurd cc) h refl
kind f (Large q) named h = of_audit (audit_fault.Large q) (λ e. absurd cc) h refl
kind f (Relation q row col et eu left right) named h = of_audit (audit_fault.Relation q row col et eu left right) (λ e. absurd cc) h refl
kind f (Dead r) named h = of_cover r h refl
kind f _ named h = absurd h

-- ---- carriers
-- what `Module::carrier` answers
abbrev Answer : Type 0
Answer = Result Module ModuleFault

ok_named : (v : Module) → ◌≡◌ {A = Answer} (Ok v) (Err module_fault.NoMemory) → ⊥
ok_named v e = absurd cc

err_named : (m : ModuleFault) → m ≢ module_fault.NoMemory → ◌≡◌ {A = Answer} (Err m) (Err module_fault.NoMemory) → ⊥
err_named m named e = let is : m ≡ module_fault.NoMemory = cc in named is

audit_named : (a : AuditFault) → a ≢ audit_fault.NoMemory → ◌≡◌ {A = Result Module AuditFault} (Err a) (Err audit_fault.NoMemory) → ⊥
audit_named a named e = let is : a ≡ audit_fault.NoMemory = cc in named is

-- a field, a datum and signs, with the constants of a frame
abbrev framed : FiniteField → RootDatum → SignTable → ConstantTable → SignedFrame
framed F d t c = record { field = F; datum = d; constants = c; signs = t }

module _ (F : FiniteField) (d : RootDatum) (t : SignTable) (loaded : IsLoaded d) where
  one_carrier : (c e : ConstantTable) (x y : Answer) → HasCarrierAnswer (framed F d t c) x → HasCarrierAnswer (framed F d t e) y → x ≢ Err module_fault.NoMemory → y ≢ Err module_fault.NoMemory → x ≡ y
  one_carrier c e x y p q n m =
      one_answer d (eta_of t) p.0 x y loaded p.1 p.2 (subst (λ (v : Module). LoadsCarrier d (eta_of t) v y) (one_adjoint d loaded q.0 p.0 q.1 p.1) q.2) n m

  same_carrier : (c e : ConstantTable) (v w : Module) → IsCarrierOf (framed F d t c) v → IsCarrierOf (framed F d t e) w → v ≡ w
  same_carrier c e v w p q = let is = one_carrier c e (Ok v) (Ok w) p q (ok_named v) (ok_named w) in cc

  no_carrier_fault : (c e : ConstantTable) (v : Module) (m : ModuleFault) → m ≢ module_fault.NoMemory → IsCarrierOf (framed F d t c) v → HasCarrierAnswer (framed F d t e) (Err m) → ⊥
  no_carrier_fault c e v m named p q = let is = one_carrier c e (Ok v) (Err m) p q (ok_named v) (err_named m named) in absurd cc

  same_carrier_fault : (c e : ConstantTable) (l m : ModuleFault) → l ≢ module_fault.NoMemory → m ≢ module_fault.NoMemory
      → HasCarrierAnswer (framed F d t c) (Err l) → HasCarrierAnswer (framed F d t e) (Err m) → l ≡ m
  same_carrier_fault c e l m n o p q = let is = one_carrier c e (Err l) (Err m) p q (err_named l n) (err_named m o) in cc

  -- ---- audits of carriers
  audits_meet : (c e : ConstantTable) → IsSameTable d c e → (v w : Module) (a : AuditFault) → a ≢ audit_fault.NoMemory → IsCarrierOf (framed F d t c) v → MeetsIdentities d c (eta_of t) v
      → IsCarrierOf (framed F d t e) w → IsAuditFault d e (eta_of t) w a → ⊥
  audits_meet c e same v w a named p m q h =
      let there = subst (λ (u : Module). IsAuditFault d e (eta_of t) u a) (sym (same_carrier c e v w p q)) h in
      let is = one_audit_answer d e (eta_of t) v (Ok v) (Err a) (refl, meets_same d c e same (eta_of t) v m) there (λ z. absurd cc) (audit_named a named) in
      absurd cc

  same_audit_fault : (c e : ConstantTable) → IsSameTable d c e → (a b : AuditFault) → a ≢ audit_fault.NoMemory → b ≢ audit_fault.NoMemory
      → HasAuditFault (framed F d t c) a → HasAuditFault (framed F d t e) b → a ≡ b
  same_audit_fault c e same a b n m p q =
      let v = p.0 in
      let there = subst (λ (u : Module). IsAuditFault d e (eta_of t) u b) (sym (same_carrier c e v q.0 p.1 q.1)) q.2 in
      let is = one_audit_answer d e (eta_of t) v (Err a) (Err b) (fault_same d c e same (eta_of t) v a p.2) there (audit_named a n) (audit_named b m) in
      cc

  module _ (c e : ConstantTable) (same : IsSameTable d c e) (back : IsSameTable d e c) where
    -- ---- two faults
    same_kind : (why other : LoadFault) → Kind (framed F d t c) why → Kind (framed F d t e) other → why ≡ other
    same_kind why other (of_carrier l n p i) (of_carrier m o q j) = i ∙ ap carriers_fault (same_carrier_fault c e l m n o p q) ∙ sym j
    same_kind why other (of_carrier l n p i) (of_audit b o q j) = absurd (no_carrier_fault e c q.0 l n q.1 p)
    same_kind why other (of_carrier l n p i) (of_cover r q j) = absurd (no_carrier_fault e c q.0 l n q.1 p)
    same_kind why other (of_audit a n p i) (of_carrier m o q j) = absurd (no_carrier_fault c e p.0 m o p.1 q)
    same_kind why other (of_audit a n p i) (of_audit b o q j) = i ∙ ap audits_fault (same_audit_fault c e same a b n o p q) ∙ sym j
    same_kind why other (of_audit a n p i) (of_cover r q j) = absurd (audits_meet e c back q.0 p.0 a n q.1 q.2 p.1 p.2)
    same_kind why other (of_cover r p i) (of_carrier m o q j) = absurd (no_carrier_fault c e p.0 m o p.1 q)
    same_kind why other (of_cover r p i) (of_audit b o q j) = absurd (audits_meet c e same p.0 q.0 b o p.1 p.2 q.1 q.2)
    same_kind why other (of_cover r p i) (of_cover s q j) =
        i ∙ ap Dead (dead_is_one F d p.0 r s p.3 (subst (λ (u : Module). IsFirstDead F d u s) (sym (same_carrier c e p.0 q.0 p.1 q.1)) q.3)) ∙ sym j

  -- ---- a group
  module _ (c : ConstantTable) (g : GroupData) (h : LoadsGroup (framed F d t c) (Ok g)) where
    its_carrier : IsCarrierOf (framed F d t c) g.carrier.module
    its_carrier = subst (λ (k : SignedFrame). IsCarrierOf k g.carrier.module) h.0 h.1.carrier.is_carrier

    it_meets : MeetsIdentities d c (eta_of t) g.carrier.module
    it_meets = subst (λ (k : SignedFrame). MeetsFrame k g.carrier.module) h.0 (carrier_meets g h.1)

    it_lives : IsLive F d g.carrier.module
    it_lives = subst (λ (k : SignedFrame). IsLive k.field k.datum g.carrier.module) h.0 h.1.covering.live

  -- it has no fault
  no_kind : (c e : ConstantTable) → IsSameTable d c e → (g : GroupData) (why : LoadFault) → LoadsGroup (framed F d t c) (Ok g) → Kind (framed F d t e) why → ⊥
  no_kind c e same g why h (of_carrier m n q j) = no_carrier_fault c e g.carrier.module m n (its_carrier c g h) q
  no_kind c e same g why h (of_audit b n q j) = audits_meet c e same g.carrier.module q.0 b n (its_carrier c g h) (it_meets c g h) q.1 q.2
  no_kind c e same g why h (of_cover r q j) =
      not_dead F d g.carrier.module r (it_lives c g h) (subst (λ (u : Module). IsFirstDead F d u r) (sym (same_carrier c e g.carrier.module q.0 (its_carrier c g h) q.1)) q.3)

  -- and two have one carrier
  same_group : (c e : ConstantTable) → IsSameFrame (framed F d t c) (framed F d t e) → (g h : GroupData) → LoadsGroup (framed F d t c) (Ok g) → LoadsGroup (framed F d t e) (Ok h) → IsSameGroup g h
  same_group c e both g h p q = record {
    frame = subst (λ (k : SignedFrame). IsSameFrame k h.frame) (sym p.0) (subst (IsSameFrame (framed F d t c)) (sym q.0) both);
    carrier = same_carrier c e g.carrier.module h.carrier.module (its_carrier c g p) (its_carrier e h q);
  }

-- what `Group::load` answers
abbrev Loaded : Type 0
Loaded = Result GroupData LoadFault

fault_named : (why : LoadFault) → ◌≢◌ {A = Loaded} (Err why) (Err NoMemory) → why ≢ NoMemory
fault_named why named e = named (ap Err e)

same_back : (d : RootDatum) (c e : ConstantTable) → IsSameTable d c e → IsSameTable d e c
same_back d c e h = record { positive = sym h.positive; values = λ r s a b. sym (h.values r s a b); terms = λ r s p. sym (h.terms r s p) }

-- one answer for two tables of constants
one_answer_for : (F : FiniteField) (d : RootDatum) (t : SignTable) → IsLoaded d → (c e : ConstantTable) → IsSameTable d c e → (x y : Loaded)
    → LoadsGroup (framed F d t c) x → LoadsGroup (framed F d t e) y → x ≢ Err NoMemory → y ≢ Err NoMemory → IsSameGroupAnswer x y
one_answer_for F d t loaded c e same (Ok g) (Ok h) p q n m = same_group F d t loaded c e (record { field = refl; datum = refl; constants = same; signs = refl }) g h p q
one_answer_for F d t loaded c e same (Ok g) (Err why) p q n m = no_kind F d t loaded c e same g why p (kind (framed F d t e) why (fault_named why m) q)
one_answer_for F d t loaded c e same (Err why) (Ok h) p q n m = no_kind F d t loaded e c (same_back d c e same) h why q (kind (framed F d t c) why (fault_named why n) p)
one_answer_for F d t loaded c e same (Err why) (Err other) p q n m =
    same_kind F d t loaded c e same (same_back d c e same) why other (kind (framed F d t c) why (fault_named why n) p) (kind (framed F d t e) other (fault_named other m) q)

pub one_group : LoadsOneGroup
one_group f d g h x y p q loads other n m =
    let loaded : IsLoaded d = subst IsLoaded p.datum p.lawful.lawful.loaded in
    let same : IsSameFrame g h = one_frame f d (Ok g) (Ok h) loaded p q (λ e. absurd cc) (λ e. absurd cc) in
    let is : framed g.field g.datum g.signs h.constants ≡ h =
    ap (λ z. framed z g.datum g.signs h.constants) same.field ∙ ap (λ z. framed h.field z g.signs h.constants) same.datum ∙ ap (λ z. framed h.field h.datum z h.constants) same.signs in
    one_answer_for g.field g.datum g.signs p.lawful.lawful.loaded g.constants h.constants same.constants x y loads (subst (λ (k : SignedFrame). LoadsGroup k y) (sym is) other) n m
