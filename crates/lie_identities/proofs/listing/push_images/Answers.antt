use Rattle.std.proofs.Common.{◌≡◌, ◌*◌, ◌++◌, ◌∷◌, [], ℤ, ℕ, map, length, ap, ◌∙◌, arith}
use Rattle.std.specs.List.{range_with_len}
use Rattle.lie_datum.specs.Numbers.{number_at}
use Rattle.lie_identities.specs.declared.relations.Rel.TheVariants.{S7}
use Rattle.lie_identities.proofs.ListedRelations.{images-more}
use Rattle.lie_identities.proofs.listing.push_images.Goals as goal

pub loop-place-preserved : goal.loop-place-preserved
loop-place-preserved c =
    let m = length c.args.datum.now.positive in
    let k = c.loop-place.place in
    c.in_ok-push.ensures.items ∙ ap (λ (r : ℤ). c.loop-place.list.items ++ S7 c.args.i r ∷ []) c.root_at.ensures.value
    ∙ images-more (S7 c.args.i) (number_at m) c.args.list.now.items c.loop-place.list.items 0 k k (omega arith) c.loop-place.invariant

pub returns : goal.returns
returns c =
    let m = length c.args.datum.now.positive in
    let all : c.loop-place.place ≡ 2 * m = (let t = c.loop-place-test.false in let e = c.root_count-place-end.ensures.value in let l = c.loop-place.auto in omega (arith, t, e, l)) in
    c.loop-place.invariant ∙ ap (λ (n : ℕ). c.args.list.now.items ++ map (S7 c.args.i) (map (number_at m) (range_with_len 0 n))) all
