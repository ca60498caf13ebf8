use Rattle.std.proofs.Common.{get_or, take, arith, [], ◌∷◌, ◌++◌, subst, sym, List}
use Rattle.std.proofs.lemmas.List.{take_more, take_all}
use Rattle.lie_datum.specs.RootDatum.{Root}
use Rattle.lie_datum.specs.Listing.{IsGreatestMixedOf}
use Rattle.lie_datum.proofs.ListingLemmas.{no_mixed, mixed_same, mixed_first, mixed_more}
use Rattle.lie_datum.proofs.listing.greatest_mixed.Goals as goal
use Rattle.lie_datum.proofs.listing.greatest_mixed.Goals.{then-is_mixed+in-None, then-is_mixed+in-Some, else-is_mixed}

abbrev no_root : Root
no_root = record { coeffs = []; co_coeffs = [] }

pub loop-r-init : goal.loop-r-init
loop-r-init c = no_mixed

pub loop-r-preserved : goal.loop-r-preserved
loop-r-preserved c =
    let rs = take c.loop-r.r-index c.args.roots.now in
    let x = get_or c.args.roots.now c.loop-r.r-index no_root in
    let ts = rs ++ x ∷ [] in
    subst (λ (ys : List Root). IsGreatestMixedOf ys c.if-is_mixed.greatest) (sym (take_more c.args.roots.now c.loop-r.r-index no_root (omega arith)))
    (elim c.if-is_mixed.branch [
      | then-is_mixed+in-None w ↦ subst (IsGreatestMixedOf ts) (sym w.greatest-is) (mixed_first rs x (subst (IsGreatestMixedOf rs) w.in-None.is c.loop-r.invariant) (c.is_mixed.ensures.0 w.if-is_mixed.true))
      | then-is_mixed+in-Some w ↦ subst (IsGreatestMixedOf ts) (sym w.greatest-is)
          (mixed_more rs w.in-Some.v w.greater.result x (subst (IsGreatestMixedOf rs) w.in-Some.is c.loop-r.invariant) (c.is_mixed.ensures.0 w.if-is_mixed.true) w.greater.ensures.one w.greater.ensures.first w.greater.ensures.second)
      | else-is_mixed w ↦ subst (IsGreatestMixedOf ts) (sym w.greatest-is) (mixed_same rs c.loop-r.greatest x c.loop-r.invariant (λ m. (let t = c.is_mixed.ensures.1 m in let f = w.if-is_mixed.false in cc)))
    ])

pub returns : goal.returns
returns c =
    let rs = c.args.roots.now in
    subst (λ (ts : List Root). IsGreatestMixedOf ts c.loop-r.greatest) (take_all c.loop-r.r-index rs (omega arith)) c.loop-r.invariant
