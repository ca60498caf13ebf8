use Rattle.std.proofs.Common.{subst, List}
use Rattle.std.specs.List.{Contains}
use Rattle.lie_datum.specs.RootDatum.{Root, IsMixed}
use Rattle.lie_datum.specs.Listing.{IsGreatestMixedIn}
use Rattle.lie_datum.proofs.ListingLemmas.{finite_closure, unmixed_closure, greatest_closure}
use Rattle.lie_datum.proofs.listing.listed.Goals as goal

pub returns-in-Some : goal.returns-in-Some
returns-in-Some c =
    let rs = c.in_ok-roots.roots.keys in (
      c.requires,
      finite_closure c.args.base.now rs c.in_ok-roots.ensures,
      greatest_closure c.args.base.now rs c.in-Some.v c.in_ok-roots.ensures (subst (λ (ts : List Root). IsGreatestMixedIn ts c.in-Some.v) c.as_slice.ensures.keys c.in-Some.ensures),
    )

pub positive_roots-requires-clause-roots : goal.positive_roots-requires-clause-roots
positive_roots-requires-clause-roots c = rw c.as_slice-2.ensures.keys c.in_ok-roots.ensures

pub positive_roots-requires-clause-unmixed : goal.positive_roots-requires-clause-unmixed
positive_roots-requires-clause-unmixed c = unmixed_closure c.args.base.now c.in_ok-roots.roots.keys c.in_ok-roots.ensures (subst (λ (ts : List Root). (r : Root) → Contains ts r → ¬ IsMixed r) c.as_slice.ensures.keys c.in_default.ensures)

pub returns : goal.returns
returns c = record {
  finite = finite_closure c.args.base.now c.in_ok-roots.roots.keys c.in_ok-roots.ensures;
  unmixed = unmixed_closure c.args.base.now c.in_ok-roots.roots.keys c.in_ok-roots.ensures (subst (λ (ts : List Root). (r : Root) → Contains ts r → ¬ IsMixed r) c.as_slice.ensures.keys c.in_default.ensures);
  list = c.in_ok-positive_roots.ensures.listed;
  few = c.in_ok-positive_roots.ensures.bound;
}
