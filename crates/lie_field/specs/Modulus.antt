-- The numbers that a product modulo f is made with.
-- For proofs: no public clause cites it.
use Rattle.std.specs.Prelude.{◌≡◌, ◌-◌, ◌^◌, ◌<◌, ◌≤◌}
use Rattle.lie_field.specs.Polynomials.{residues, number}
use Rattle.lie_field.specs.Quotient.{FieldData, degree, leading}
use Rattle.lie_field.specs.declared.products.Modulus.{Modulus}

-- p, k, the place p^(k-1) of the highest digit, and the number of x^k modulo f
pub record IsModulus (f : FieldData) (m : Modulus) : Type 0 where
  pub p_is : m.p ≡ f.p
  pub k_is : m.k ≡ degree f
  pub place_is : m.place ≡ f.p ^ (degree f - 1)
  pub lead_is : m.lead ≡ number f.p (residues f.p (leading f))

-- the place is that of the highest of k digits in base p, and all products fit
pub record HasPlaces (m : Modulus) : Type 0 where
  pub p_pos : 0 < m.p
  pub k_pos : 0 < m.k
  pub small : m.p ^ m.k ≤ 65536
  pub place_is : m.place ≡ m.p ^ (m.k - 1)
