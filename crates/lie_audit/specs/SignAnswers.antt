-- What the calls on signs answer.
use Rattle.std.specs.Prelude.{◌≡◌, ℕ, ℤ, ⊤}
use Rattle.lie_datum.specs.RootList.{RootDatum}
use Rattle.lie_const.specs.Modules.{Module}
use Rattle.lie_const.specs.Signs.{SignTable, AreSigns, IsFirstBadSign, eta_of, IsSignTable}
use Rattle.lie_audit.specs.declared.faults.SignFault.{SignFault}
use Rattle.lie_audit.specs.declared.faults.SignFault.TheVariants.{NoMemory, Sign}

-- the cause of each fault: the sign is the first that is not as it should be; want of memory has none
abbrev pub IsSignFault : RootDatum → Module → SignFault → Type 0
IsSignFault d v NoMemory = ⊤
IsSignFault d v (Sign i s c) = IsFirstBadSign d v i s c

-- the signs of the datum as the adjoint module v has them, all as they should be
pub record AreTestedSigns (d : RootDatum) (v : Module) (t : SignTable) : Type 0 where
  pub table : IsSignTable d t
  pub signs : AreSigns d v (eta_of t)

-- the answers exclude one another: either all signs are as they should be, or one alone is the first that is not
pub record OneSignAnswer : Type 0 where
  pub good : (d : RootDatum) (v : Module) (t : SignTable) (i : ℕ) (s c : ℤ) → AreTestedSigns d v t → ¬ IsFirstBadSign d v i s c
  pub first : (d : RootDatum) (v : Module) (i j : ℕ) (s r c e : ℤ) → IsFirstBadSign d v i s c → IsFirstBadSign d v j r e → (i ≡ j) × (s ≡ r) × (c ≡ e)
