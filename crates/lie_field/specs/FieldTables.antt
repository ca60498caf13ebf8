-- The tables that the operations of a field are read from.
-- For proofs: no public clause cites it.
-- Source: Lidl, Niederreiter, Finite Fields (Zech's logarithm, there Jacobi's).
use Rattle.std.specs.Prelude.{◌≡◌, ℕ, zero, suc, ◌-◌, ◌<◌, List, Option, Some, None, length, get_or}
use Rattle.lie_field.specs.Quotient.{FieldData, order, add, neg, power}
use Rattle.lie_field.specs.declared.tables.Tables.{Tables}

-- the powers of g, and the logarithm of each element that is not 0
pub record ArePowers (f : FieldData) (powers logs : List ℕ) : Type 0 where
  pub powers_length : length powers ≡ order f - 1
  pub logs_length : length logs ≡ order f
  pub powers_are : (e : ℕ) → e < order f - 1 → get_or powers e 0 ≡ power f f.g e
  pub logs_below : (n : ℕ) → 0 < n → n < order f → get_or logs n 0 < order f - 1
  pub logs_are : (n : ℕ) → 0 < n → n < order f → power f f.g (get_or logs n 0) ≡ n

-- the negative of each element
pub record AreNegatives (f : FieldData) (negatives : List ℕ) : Type 0 where
  pub negatives_length : length negatives ≡ order f
  pub negatives_are : (a : ℕ) → a < order f → get_or negatives a 0 ≡ neg f a

-- the exponent z with 1 + g^e = g^z, and none where 1 + g^e is 0
abbrev pub IsZech : FieldData → ℕ → Option ℕ → Type 0
IsZech f e None = add f 1 (power f f.g e) ≡ 0
IsZech f e (Some z) = (z < order f - 1) × (power f f.g z ≡ add f 1 (power f f.g e))

-- Zech's logarithm of each exponent
pub record AreZech (f : FieldData) (zech : List (Option ℕ)) : Type 0 where
  pub zech_length : length zech ≡ order f - 1
  pub zech_are : (e : ℕ) → e < order f - 1 → IsZech f e (get_or zech e None)

-- all tables of a field
pub record AreTables (f : FieldData) (t : Tables) : Type 0 where
  pub powers : ArePowers f t.powers.powers.items t.powers.logs.items
  pub negatives : AreNegatives f t.negatives.items
  pub zech : AreZech f t.zech.items

-- what a table of logarithms has for an element, and nothing for 0
abbrev pub log_at : List ℕ → ℕ → Option ℕ
log_at logs zero = None
log_at logs (suc n) = Some (get_or logs (suc n) 0)
