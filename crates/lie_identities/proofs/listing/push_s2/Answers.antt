use Rattle.std.proofs.Common.{◌≡◌, ◌*◌, ◌++◌, ℤ, ℕ, map, length, ap, ◌∙◌, arith}
use Rattle.std.specs.List.{flat_map, range_with_len}
use Rattle.lie_datum.specs.Numbers.{number_at}
use Rattle.lie_identities.specs.declared.relations.Rel.TheVariants.{S2}
use Rattle.lie_identities.specs.AuditRelations.{partners}
use Rattle.lie_identities.proofs.ListedRelations.{lists-more}
use Rattle.lie_identities.proofs.listing.push_s2.Goals as goal

pub loop-place-preserved : goal.loop-place-preserved
loop-place-preserved c =
    let d = c.args.datum.now in
    let k = c.loop-place.place in
    c.in_ok-push_partners.ensures ∙ ap (λ (r : ℤ). c.loop-place.list.items ++ map (S2 r) (partners d r)) c.root_at.ensures.value
    ∙ lists-more (λ (r : ℤ). map (S2 r) (partners d r)) (number_at (length d.positive)) c.args.list.now.items c.loop-place.list.items 0 k k (omega arith) c.loop-place.invariant

pub returns : goal.returns
returns c =
    let d = c.args.datum.now in
    let m = length d.positive in
    let all : c.loop-place.place ≡ 2 * m = (let t = c.loop-place-test.false in let e = c.root_count-place-end.ensures.value in let l = c.loop-place.auto in omega (arith, t, e, l)) in
    c.loop-place.invariant ∙ ap (λ (n : ℕ). c.args.list.now.items ++ flat_map (λ (r : ℤ). map (S2 r) (partners d r)) (map (number_at m) (range_with_len 0 n))) all
