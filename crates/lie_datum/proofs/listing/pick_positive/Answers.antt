use Rattle.std.proofs.Common.{◌≡◌, get_or, take, map, arith, [], ◌∷◌, ◌++◌, subst, sym, ap, ◌∙◌, List, lit<}
use mir.Val.{to_z, of_z}
use mir.Syntax.{w128}
use Rattle.std.proofs.lemmas.List.{take_more, map-append}
use Rattle.std.proofs.lemmas.List.Elements.{All-push}
use Rattle.std.specs.List.{All}
use Rattle.lie_datum.specs.declared.listing.Ranked.{Ranked}
use Rattle.lie_datum.specs.RootDatum.{Root, IsPositive}
use Rattle.lie_datum.specs.Listing.{IsPicked, IsRanked, ranked_root}
use Rattle.lie_datum.proofs.VectorLemmas.{plain}
use Rattle.lie_datum.proofs.ListingLemmas.{picked_more, picked_same}
use Rattle.lie_datum.proofs.listing.pick_positive.Goals as goal
use Rattle.lie_datum.proofs.listing.pick_positive.Goals.{then-is_positive+in_ok-push, else-is_positive}

abbrev no_root : Root
no_root = record { coeffs = []; co_coeffs = [] }

abbrev IsPick : List Root → List Ranked → Type 0
IsPick rs xs = IsPicked IsPositive rs (map ranked_root xs) × All IsRanked xs

pub entry_sum-requires : goal.entry_sum-requires
entry_sum-requires c = (c.requires c.loop-r.r-index no_root (omega arith)).0

pub loop-r-preserved : goal.loop-r-preserved
loop-r-preserved c =
    let rs = take c.loop-r.r-index c.args.roots.now in
    let x = get_or c.args.roots.now c.loop-r.r-index no_root in
    let ts = rs ++ x ∷ [] in
    subst (λ (ys : List Root). IsPick ys c.if-is_positive.list.items) (sym (take_more c.args.roots.now c.loop-r.r-index no_root (omega arith)))
    (elim c.if-is_positive.branch [
      | then-is_positive+in_ok-push w ↦
          let y : Ranked = record { height = to_z w128 (of_z w128 w.entry_sum.result); root = record { 0 = x } } in
          let e : c.if-is_positive.list.items ≡ c.loop-r.list.items ++ y ∷ [] = ap (λ (l : _). l.items) w.list-is ∙ w.in_ok-push.ensures.items in
          let rank : IsRanked y = plain w.entry_sum.result 800 w.entry_sum.ensures.bound (lit< tt) ∙ w.entry_sum.ensures.value in
          subst (IsPick ts) (sym e) (
            subst (IsPicked IsPositive ts) (sym (map-append ranked_root c.loop-r.list.items (y ∷ []))) (picked_more IsPositive rs (map ranked_root c.loop-r.list.items) x c.loop-r.invariant.0 (c.is_positive.ensures.0 w.if-is_positive.true)),
            All-push IsRanked c.loop-r.list.items y c.loop-r.invariant.1 rank,
          )
      | else-is_positive w ↦
          let not : ¬ IsPositive x = λ m. (let t = c.is_positive.ensures.1 m in let f = w.if-is_positive.false in cc) in
          let e : c.if-is_positive.list.items ≡ c.loop-r.list.items = ap (λ (l : _). l.items) w.list-is in
          subst (IsPick ts) (sym e) (picked_same IsPositive rs (map ranked_root c.loop-r.list.items) x c.loop-r.invariant.0 not, c.loop-r.invariant.1)
    ])
