-- There are at most 120 positive roots.
use Rattle.std.proofs.Common.{◌≤◌, length}
use Rattle.lie_datum.specs.RootDatum.{IsCartan}
use Rattle.lie_datum.specs.RootList.{RootDatum, IsLoaded}
use Rattle.lie_datum.proofs.ListedLemmas.{listed_few}
use Rattle.lie_weight.proofs.SmallLemmas.{adjoint_small}
use Rattle.lie_weight.proofs.laws.adjoint_is_small.Goals as goal

few : (d : RootDatum) → IsLoaded d → length d.positive ≤ 120
few d loaded =
    let a = loaded.axioms in
    let cartan : IsCartan d.base = record { input = a.input; twos = a.twos; signs = a.signs; zeros = a.zeros } in
    listed_few d.base cartan a.unmixed d.positive loaded.listed a.finite

pub returns : goal.returns
returns c = λ d n v loaded stands adjoint. adjoint_small d n v loaded stands adjoint (few d loaded)
