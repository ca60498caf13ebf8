-- The relations of a datum, and what is kept beside the factors of a side.
-- For proofs: no public clause cites it.
-- Own: the size that is kept with a factor, and the bounds on a term.
--
--   the size of f, for X_r(f)            factor_weight x        1 for a_i^(t)
--   its degree                           factor_depth x         0 for a_i^(t)
--   q names roots of the datum           IsRelationOf d q
use Rattle.std.specs.Prelude.{ℕ, ◌≤◌, nat_abs}
use Rattle.lie_datum.specs.RootDatum.{IsSimpleIndex}
use Rattle.lie_datum.specs.RootList.{RootDatum, IsNumber}
use Rattle.lie_const.specs.declared.term.Term.{Term}
use Rattle.lie_const.specs.CommutatorTerms.{IsPair}
use Rattle.lie_poly.specs.Polynomials.{Polynomial, size, degree}
use Rattle.lie_identities.specs.declared.relations.Rel.{Rel}
use Rattle.lie_identities.specs.declared.relations.Rel.TheVariants.{S1, S2, S6, S7}
use Rattle.lie_identities.specs.AuditRelations.{Factor, RootElement, CorootElement, term_value}
use Rattle.lie_identities.specs.Audit.{laurent_variables}

-- the size of the polynomial of a factor
abbrev pub factor_weight : Factor Polynomial → ℕ
factor_weight (RootElement r f) = size f
factor_weight (CorootElement i) = 1

-- the degree of the polynomial of a factor
abbrev pub factor_depth : Factor Polynomial → ℕ
factor_depth (RootElement r f) = degree f
factor_depth (CorootElement i) = 0

-- the roots and the index are those of the datum, and S2 is about two roots that have terms
abbrev pub IsRelationOf : RootDatum → Rel → Type 0
IsRelationOf d (S1 r) = IsNumber d r
IsRelationOf d (S2 r s) = IsPair d r s
IsRelationOf d (S6 i) = IsSimpleIndex d.base i
IsRelationOf d (S7 i s) = IsSimpleIndex d.base i × IsNumber d s

-- i and j of a term are at most 3, and its number is small
pub record IsSmallTerm (t : Term) : Type 0 where
  pub i : t.i ≤ 3
  pub j : t.j ≤ 3
  pub value : nat_abs t.value ≤ 64

-- the factor of a term
abbrev pub term_factor : Term → Factor Polynomial
term_factor x = RootElement x.root (term_value laurent_variables x)

-- the factor is one of a root of the datum, or of a simple coroot
abbrev pub HasRoot : RootDatum → Factor Polynomial → Type 0
HasRoot d (RootElement r f) = IsNumber d r
HasRoot d (CorootElement i) = IsSimpleIndex d.base i
