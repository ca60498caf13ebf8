-- What `make_frame` answers, from what the calls that it makes answer.
use Rattle.std.proofs.Common.{Ok, neg_ℤ, refl, sym}
use Rattle.lie_field.specs.FiniteField.{FiniteField}
use Rattle.lie_datum.specs.RootList.{RootDatum, IsLoaded}
use Rattle.lie_datum.proofs.SignedRoots.{opposite_number}
use Rattle.lie_datum.proofs.SimplesFirst.{simples_first_holds}
use Rattle.lie_const.specs.ConstantTables.{ConstantTable, LoadsConstants, value_of}
use Rattle.lie_const.specs.Modules.{Module}
use Rattle.lie_const.specs.Adjoint.{IsAdjoint}
use Rattle.lie_const.specs.Signs.{SignTable, AreSigns, eta_of, sign_entry, HasSignCount}
use Rattle.lie_letters.specs.Braids.{HasBraids, IsFirstBadBraid}
use Rattle.lie_audit.specs.SignAnswers.{AreTestedSigns}
use Rattle.lie_audit.specs.declared.faults.BraidFault.{BraidFault}
use Rattle.lie_audit.proofs.AnswerLemmas.{Agree, bad_braid_same}
use Rattle.lie_audit.proofs.TestLemmas.{good_same}
use Rattle.lie_group.specs.Loading.{IsFrameOf, HasAdjoint, IsFrameFault, braid_fault}

module _ (d : RootDatum) where
  -- the adjoint module that constants make
  pub has_adjoint : (c : ConstantTable) (v : Module) → LoadsConstants d (Ok c) → IsAdjoint d (value_of c) v → HasAdjoint d v
  has_adjoint c v h a = record { table = c; constants = h; adjoint = (value_of c, h.1, a) }

  -- ---- tested signs are those of the module
  module _ (v : Module) (t : SignTable) (tested : AreTestedSigns d v t) where
    pub tested_agree : Agree d (eta_of t) (sign_entry d v)
    tested_agree i s h n = tested.signs.entries i s h n

    pub tested_signs : AreSigns d v (sign_entry d v)
    tested_signs = record {
      entries = λ i s h n. refl;
      good = λ i s h n. good_same (sign_entry d v) (eta_of t) i s (sym (tested_agree i s h n)) (sym (tested_agree i (neg_ℤ s) h (opposite_number d s n).0)) (tested.signs.good i s h n);
    }

    -- with braid values 1 they are the signs of a frame
    pub frame_made : (f : FiniteField) (c : ConstantTable) → IsLoaded d → LoadsConstants d (Ok c) → HasAdjoint d v → HasSignCount t → HasBraids d (eta_of t)
        → IsFrameOf f d (record { field = f; datum = d; constants = c; signs = t })
    frame_made f c loaded constants made count braids = record {
      field = refl;
      datum = refl;
      lawful = record {
        lawful = record { loaded = loaded; constants = constants };
        signs = record { table = tested.table; adjoint = v; is_adjoint = made.adjoint; signs = tested.signs; braids = braids };
      };
      count = count;
    }

  -- the first bad braid value of a table of signs is that of the module
  pub braid_failed : IsLoaded d → (v : Module) (t : SignTable) (why : BraidFault) → HasAdjoint d v → AreTestedSigns d v t → IsFirstBadBraid d (eta_of t) why.i why.j why.value → IsFrameFault d (braid_fault why)
  braid_failed loaded v t why h tested f =
      (v, h, tested_signs v t tested, bad_braid_same d loaded (simples_first_holds d loaded) (eta_of t) (sign_entry d v) (tested_agree v t tested) why.i why.j why.value f)
