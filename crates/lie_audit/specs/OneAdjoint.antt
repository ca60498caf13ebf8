-- A datum has one adjoint module, and one table of the signs on a module.
-- Source: Carter, Simple Groups of Lie Type, 4.2 (the structure constants are determined by their values on extraspecial pairs).
-- Own: the statements.
use Rattle.std.specs.Prelude.{◌≡◌}
use Rattle.lie_datum.specs.RootList.{RootDatum, IsLoaded}
use Rattle.lie_const.specs.Modules.{Module}
use Rattle.lie_const.specs.Adjoint.{IsAdjointOf}
use Rattle.lie_const.specs.Signs.{SignTable, HasSignCount}
use Rattle.lie_audit.specs.SignAnswers.{AreTestedSigns}

-- adjoint modules of one datum are equal, whatever the tables of constants they are made with
abbrev pub OneAdjoint : Type 0
OneAdjoint = (d : RootDatum) (v w : Module) → IsLoaded d → IsAdjointOf d v → IsAdjointOf d w → v ≡ w

-- tables of the signs of one module are equal
abbrev pub OneSignTable : Type 0
OneSignTable = (d : RootDatum) (v : Module) (t u : SignTable) → HasSignCount t → HasSignCount u → AreTestedSigns d v t → AreTestedSigns d v u → t ≡ u
