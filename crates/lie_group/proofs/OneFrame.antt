-- A field and a datum have one frame, or one first fault.
use Rattle.std.proofs.Common.{◌≡◌, ◌≢◌, ℕ, ℤ, Result, Ok, Err, refl, sym, ap, ◌∙◌, subst}
use Rattle.lie_field.specs.FiniteField.{FiniteField}
use Rattle.lie_datum.specs.RootList.{RootDatum, IsLoaded}
use Rattle.lie_datum.proofs.SimplesFirst.{simples_first_holds}
use Rattle.lie_const.specs.declared.faults.ConstFault.{ConstFault}
use Rattle.lie_const.specs.declared.faults.ConstFault.TheVariants as const_fault
use Rattle.lie_const.specs.ConstantTables.{ConstantTable, LoadsConstants, IsSameTable}
use Rattle.lie_const.specs.Modules.{Module}
use Rattle.lie_const.specs.Signs.{SignTable, eta_of, sign_entry, IsFirstBadSign}
use Rattle.lie_const.proofs.OneAnswer.{loads_one_way}
use Rattle.lie_letters.specs.Braids.{IsFirstBadBraid}
use Rattle.lie_letters.specs.SignedFrames.{SignedFrame, AreFrameSigns}
use Rattle.lie_audit.specs.SignAnswers.{AreTestedSigns}
use Rattle.lie_audit.proofs.AnswerLemmas.{one_sign, one_braid, braids_same}
use Rattle.lie_audit.proofs.OneAdjointLemmas.{one_adjoint, one_sign_table}
use Rattle.lie_group.specs.declared.faults.LoadFault.{LoadFault}
use Rattle.lie_group.specs.declared.faults.LoadFault.TheVariants.{NoMemory, Constant, Fraction, Sign, Braid}
use Rattle.lie_group.specs.Loading.{IsFrameOf, HasAdjoint, IsFrameFault, IsSameFrame, MakesOneFrame}
use Rattle.lie_group.proofs.LoadingLemmas.{tested_agree}

-- ---- constants
-- what loading the constants answers
abbrev Answer : Type 0
Answer = Result ConstantTable ConstFault

ok_named : (c : ConstantTable) → ◌≡◌ {A = Answer} (Ok c) (Err const_fault.NoMemory) → ⊥
ok_named c e = absurd cc

err_named : (why : ConstFault) → why ≢ const_fault.NoMemory → ◌≡◌ {A = Answer} (Err why) (Err const_fault.NoMemory) → ⊥
err_named why named e = let is : why ≡ const_fault.NoMemory = cc in named is

module _ (d : RootDatum) (loaded : IsLoaded d) where
  -- constants that load have no fault
  no_failure : (c : ConstantTable) (why : ConstFault) → why ≢ const_fault.NoMemory → LoadsConstants d (Ok c) → LoadsConstants d (Err why) → ⊥
  no_failure c why named ok failure = loads_one_way d (Ok c) (Err why) loaded ok failure (ok_named c) (err_named why named)

  no_constant : (c : ConstantTable) (r s a e : ℤ) → LoadsConstants d (Ok c) → LoadsConstants d (Err (const_fault.Constant r s a e)) → ⊥
  no_constant c r s a e = no_failure c (const_fault.Constant r s a e) (λ e. absurd cc)

  no_fraction : (c : ConstantTable) (r s : ℤ) (i j : ℕ) → LoadsConstants d (Ok c) → LoadsConstants d (Err (const_fault.Fraction r s i j)) → ⊥
  no_fraction c r s i j = no_failure c (const_fault.Fraction r s i j) (λ e. absurd cc)

  -- the first fault is one
  one_failure : (why other : ConstFault) → why ≢ const_fault.NoMemory → other ≢ const_fault.NoMemory → LoadsConstants d (Err why) → LoadsConstants d (Err other) → why ≡ other
  one_failure why other p q h g = loads_one_way d (Err why) (Err other) loaded h g (err_named why p) (err_named other q)

  -- ---- signs
  -- modules that constants make are one
  same_adjoint : (v w : Module) → HasAdjoint d v → HasAdjoint d w → w ≡ v
  same_adjoint v w h g = one_adjoint d loaded w v g.adjoint h.adjoint

  bad_sign : (v w : Module) (i : ℕ) (s c : ℤ) → HasAdjoint d v → HasAdjoint d w → IsFirstBadSign d w i s c → IsFirstBadSign d v i s c
  bad_sign v w i s c h g = subst (λ u. IsFirstBadSign d u i s c) (same_adjoint v w h g)

  bad_braid : (v w : Module) (i j : ℕ) (c : ℤ) → HasAdjoint d v → HasAdjoint d w → IsFirstBadBraid d (sign_entry d w) i j c → IsFirstBadBraid d (sign_entry d v) i j c
  bad_braid v w i j c h g = subst (λ u. IsFirstBadBraid d (sign_entry d u) i j c) (same_adjoint v w h g)

  -- ---- a frame has no fault
  module _ (c : ConstantTable) (t : SignTable) (constants : LoadsConstants d (Ok c)) (signs : AreFrameSigns d t) where
    adjoint : HasAdjoint d signs.adjoint
    adjoint = record { table = c; constants = constants; adjoint = signs.is_adjoint }

    tested : AreTestedSigns d signs.adjoint t
    tested = record { table = signs.table; signs = signs.signs }

    no_fault : (why : LoadFault) → why ≢ NoMemory → IsFrameFault d why → ⊥
    no_fault NoMemory named h = named refl
    no_fault (Constant r s a e) named h = no_constant c r s a e constants h
    no_fault (Fraction r s i j) named h = no_fraction c r s i j constants h
    no_fault (Sign i s e) named h = one_sign.good d signs.adjoint t i s e tested (bad_sign signs.adjoint h.0 i s e adjoint h.1 h.2)
    no_fault (Braid i j e) named h =
        let v = signs.adjoint in
        one_braid.good d (sign_entry d v) i j e
        (braids_same d loaded (simples_first_holds d loaded) (eta_of t) (sign_entry d v) (tested_agree d v t tested) signs.braids)
        (bad_braid v h.0 i j e adjoint h.1 h.3)
    no_fault _ named h = h

  -- ---- a datum has one first fault
  one_fault : (why other : LoadFault) → why ≢ NoMemory → other ≢ NoMemory → IsFrameFault d why → IsFrameFault d other → why ≡ other
  one_fault NoMemory other p q h g = absurd (p refl)
  one_fault why NoMemory p q h g = absurd (q refl)
  one_fault (Constant r s a e) (Constant r' s' a' e') p q h g =
      let same = one_failure (const_fault.Constant r s a e) (const_fault.Constant r' s' a' e') (λ e. absurd cc) (λ e. absurd cc) h g in cc
  one_fault (Constant r s a e) (Fraction r' s' i j) p q h g =
      let same = one_failure (const_fault.Constant r s a e) (const_fault.Fraction r' s' i j) (λ e. absurd cc) (λ e. absurd cc) h g in absurd cc
  one_fault (Constant r s a e) (Sign i t c) p q h g = absurd (no_constant g.1.table r s a e g.1.constants h)
  one_fault (Constant r s a e) (Braid i j c) p q h g = absurd (no_constant g.1.table r s a e g.1.constants h)
  one_fault (Fraction r s i j) (Constant r' s' a e) p q h g =
      let same = one_failure (const_fault.Fraction r s i j) (const_fault.Constant r' s' a e) (λ e. absurd cc) (λ e. absurd cc) h g in absurd cc
  one_fault (Fraction r s i j) (Fraction r' s' i' j') p q h g =
      let same = one_failure (const_fault.Fraction r s i j) (const_fault.Fraction r' s' i' j') (λ e. absurd cc) (λ e. absurd cc) h g in cc
  one_fault (Fraction r s i j) (Sign k t c) p q h g = absurd (no_fraction g.1.table r s i j g.1.constants h)
  one_fault (Fraction r s i j) (Braid k l c) p q h g = absurd (no_fraction g.1.table r s i j g.1.constants h)
  one_fault (Sign i s c) (Constant r t a e) p q h g = absurd (no_constant h.1.table r t a e h.1.constants g)
  one_fault (Sign i s c) (Fraction r t k l) p q h g = absurd (no_fraction h.1.table r t k l h.1.constants g)
  one_fault (Sign i s c) (Sign j r e) p q h g =
      let same = one_sign.first d h.0 i j s r c e h.2 (bad_sign h.0 g.0 j r e h.1 g.1 g.2) in
      ap (λ x. Sign x s c) same.0 ∙ ap (λ x. Sign j x c) same.1 ∙ ap (λ x. Sign j r x) same.2
  one_fault (Sign i s c) (Braid j k e) p q h g =
      let first = bad_sign g.0 h.0 i s c g.1 h.1 h.2 in
      absurd (first.bad (g.2.good i s first.index first.number))
  one_fault (Braid i j c) (Constant r t a e) p q h g = absurd (no_constant h.1.table r t a e h.1.constants g)
  one_fault (Braid i j c) (Fraction r t k l) p q h g = absurd (no_fraction h.1.table r t k l h.1.constants g)
  one_fault (Braid i j c) (Sign k s e) p q h g =
      let first = bad_sign h.0 g.0 k s e h.1 g.1 g.2 in
      absurd (first.bad (h.2.good k s first.index first.number))
  one_fault (Braid i j c) (Braid k l e) p q h g =
      let same = one_braid.first d (sign_entry d h.0) i j k l c e h.3 (bad_braid h.0 g.0 k l e h.1 g.1 g.3) in
      ap (λ x. Braid x j c) same.0 ∙ ap (λ x. Braid k x c) same.1 ∙ ap (λ x. Braid k l x) same.2
  one_fault (Constant r s a e) _ p q h g = absurd g
  one_fault (Fraction r s i j) _ p q h g = absurd g
  one_fault (Sign i s c) _ p q h g = absurd g
  one_fault (Braid i j c) _ p q h g = absurd g
  one_fault _ _ p q h g = absurd h

  -- ---- frames
  module _ (f : FiniteField) where
    constants_of : (g : SignedFrame) → IsFrameOf f d g → LoadsConstants d (Ok g.constants)
    constants_of g h = subst (λ e. LoadsConstants e (Ok g.constants)) h.datum h.lawful.lawful.constants

    signs_of : (g : SignedFrame) → IsFrameOf f d g → AreFrameSigns d g.signs
    signs_of g h = subst (λ e. AreFrameSigns e g.signs) h.datum h.lawful.signs

    no_frame_fault : (g : SignedFrame) (why : LoadFault) → why ≢ NoMemory → IsFrameOf f d g → IsFrameFault d why → ⊥
    no_frame_fault g why named h = no_fault g.constants g.signs (constants_of g h) (signs_of g h) why named

    same_frame : (g h : SignedFrame) → IsFrameOf f d g → IsFrameOf f d h → IsSameFrame g h
    same_frame g h p q =
        let a = signs_of g p in
        let b = signs_of h q in
        let v = a.adjoint in
        let other : AreTestedSigns d v h.signs = subst (λ u. AreTestedSigns d u h.signs) (one_adjoint d loaded b.adjoint v b.is_adjoint a.is_adjoint) (tested h.constants h.signs (constants_of h q) b) in
        record {
          field = p.field ∙ sym q.field;
          datum = p.datum ∙ sym q.datum;
          constants = subst (λ e. IsSameTable e g.constants h.constants) (sym p.datum)
              (loads_one_way d (Ok g.constants) (Ok h.constants) loaded (constants_of g p) (constants_of h q) (ok_named g.constants) (ok_named h.constants));
          signs = one_sign_table d v g.signs h.signs p.count q.count (tested g.constants g.signs (constants_of g p) a) other;
        }

-- what making a frame answers
abbrev Made : Type 0
Made = Result SignedFrame LoadFault

fault_named : (why : LoadFault) → ◌≢◌ {A = Made} (Err why) (Err NoMemory) → why ≢ NoMemory
fault_named why named e = named (ap Err e)

pub one_frame : MakesOneFrame
one_frame f d (Ok g) (Ok h) loaded p q x y = same_frame d loaded f g h p q
one_frame f d (Ok g) (Err why) loaded p q x y = no_frame_fault d loaded f g why (fault_named why y) p q
one_frame f d (Err why) (Ok g) loaded p q x y = no_frame_fault d loaded f g why (fault_named why x) q p
one_frame f d (Err why) (Err other) loaded p q x y = one_fault d loaded why other (fault_named why x) (fault_named other y) p q
