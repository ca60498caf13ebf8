use Rattle.std.proofs.Common.{◌≡◌, ℕ, subst, sym, ap, ◌∙◌, List, take, length, map}
use Rattle.std.specs.List.{All}
use Rattle.lie_datum.specs.RootDatum.{Root, IsRoot, IsSmall, opposite, vector}
use Rattle.std.proofs.Math.Seq.{take-append_seam}
use Rattle.lie_datum.specs.Vectors.{Vector}
use Rattle.lie_datum.specs.RootList.{IsLoaded}
use Rattle.lie_datum.specs.Load.{IsFirstPair, IsFault}
use Rattle.lie_datum.specs.Numbers.{number_at}
use Rattle.lie_datum.specs.declared.faults.DatumFault.TheVariants.{Repeated}
use Rattle.lie_datum.specs.Grids.{IsSamePair}
use Rattle.lie_datum.proofs.TablesHold.{listed_small, order_small, apart_holds, loads, repeats}
use Rattle.lie_datum.proofs.root_data.Datum.numbered.Goals as goal

pub full_order-requires : goal.full_order-requires
full_order-requires c = listed_small c.args.base c.requires.cartan c.args.positive.now c.requires.listed

pub vectors-requires : goal.vectors-requires
vectors-requires c =
    let b = c.args.base in
    let rs = c.args.positive.now in
    subst (All (λ r. IsRoot b r × IsSmall r)) (sym (c.deref.ensures.value ∙ c.in_ok-all.ensures)) (order_small b c.requires.cartan rs c.requires.listed)

pub returns-in-Some : goal.returns-in-Some
returns-in-Some c =
    let b = c.args.base in
    let rs = c.args.positive.now in
    let items = c.deref-2.ensures.value ∙ c.in_ok-vectors.ensures ∙ ap (map (vector b)) (c.deref.ensures.value ∙ c.in_ok-all.ensures) in
    let pair = subst (λ (vs : List Vector). IsFirstPair (IsSamePair vs) c.in-Some.x c.in-Some.y) items c.in-Some.ensures in
    subst (λ j. IsFault b (Repeated j c.at-in-Some.result)) (sym c.at.ensures)
    (subst (λ k. IsFault b (Repeated (number_at (length rs) c.in-Some.x) k)) (sym c.at-in-Some.ensures) (repeats b c.requires.cartan rs c.requires.listed c.in-Some.x c.in-Some.y pair))

pub filled-requires-clause-loaded : goal.filled-requires-clause-loaded
filled-requires-clause-loaded c =
    let b = c.args.base in
    let rs = c.args.positive.now in
    let items = c.deref-2.ensures.value ∙ c.in_ok-vectors.ensures ∙ ap (map (vector b)) (c.deref.ensures.value ∙ c.in_ok-all.ensures) in
    let none = subst (λ (vs : List Vector). (x y : ℕ) → ¬ IsSamePair vs x y) items c.in_default.ensures in
    let front : take (length rs) c.deref-3.result.now ≡ rs = ap (take (length rs)) (c.deref-3.ensures.value ∙ c.in_ok-all.ensures) ∙ take-append_seam rs (map opposite rs) in
    subst (λ (ts : List Root). IsLoaded (record { base = b; positive = ts })) (sym front) (loads b c.requires.cartan rs c.requires.listed (apart_holds b c.requires.cartan rs c.requires.listed none))
