-- What is known of constants that were loaded.
use Rattle.std.proofs.Common.{◌≡◌, length, Ok, Err, Result, IfOk}
use Rattle.lie_datum.specs.RootList.{RootDatum}
use Rattle.lie_const.specs.ConstantTables.{ConstantTable, LoadsConstants}
use Rattle.lie_const.specs.declared.faults.ConstFault.{ConstFault}

-- a table is for as many positive roots as the datum has
pub as_many : (d : RootDatum) (r : Result ConstantTable ConstFault) → LoadsConstants d r → IfOk r (λ c. c.positive ≡ length d.positive)
as_many d (Ok c) loads = loads.0
as_many d (Err e) loads = tt
