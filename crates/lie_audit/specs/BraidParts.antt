-- How the braid values are tested: row by row.
-- For proofs: no public clause cites it.
use Rattle.std.specs.Prelude.{◌≡◌, ◌≢◌, ℕ, ◌<◌, pos}
use Rattle.lie_datum.specs.RootDatum.{IsSimpleIndex}
use Rattle.lie_datum.specs.RootList.{RootDatum}
use Rattle.lie_const.specs.Signs.{Signs}
use Rattle.lie_letters.specs.Braids.{IsBraidValue}
use Rattle.lie_audit.specs.declared.faults.BraidFault.{BraidFault}

-- the braid values of i with the later simple indices are 1
abbrev pub HasBraidsFrom : RootDatum → Signs → ℕ → Type 0
HasBraidsFrom d eta i = (j : ℕ) → IsSimpleIndex d.base j → i < j → IsBraidValue d eta i j (pos 1)

-- the fault is the first with i
pub record IsFirstBadIn (d : RootDatum) (eta : Signs) (i : ℕ) (f : BraidFault) : Type 0 where
  pub first : f.i ≡ i
  pub index : IsSimpleIndex d.base f.j
  pub after : i < f.j
  pub value : IsBraidValue d eta i f.j f.value
  pub bad : f.value ≢ pos 1
  pub earlier : (j : ℕ) → IsSimpleIndex d.base j → i < j → j < f.j → IsBraidValue d eta i j (pos 1)
