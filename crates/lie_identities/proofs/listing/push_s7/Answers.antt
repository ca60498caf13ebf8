use Rattle.std.proofs.Common.{◌≡◌, ◌+◌, ◌++◌, ℕ, map, ap, ◌∙◌, arith}
use Rattle.std.specs.List.{flat_map, range_with_len}
use Rattle.lie_datum.specs.RootDatum.{rank}
use Rattle.lie_identities.specs.declared.relations.Rel.TheVariants.{S7}
use Rattle.lie_identities.specs.AuditRelations.{root_numbers}
use Rattle.lie_identities.proofs.ListedRelations.{lists-more, range-self}
use Rattle.lie_identities.proofs.listing.push_s7.Goals as goal

pub loop-i-preserved : goal.loop-i-preserved
loop-i-preserved c =
    let d = c.args.datum.now in
    let k = c.loop-i.i in
    c.in_ok-push_images.ensures
    ∙ lists-more (λ (i : ℕ). map (S7 i) (root_numbers d)) (λ (n : ℕ). n) c.args.list.now.items c.loop-i.list.items 1 k (k + 1) (omega arith) c.loop-i.invariant

pub returns : goal.returns
returns c =
    let d = c.args.datum.now in
    let old = c.args.list.now.items in
    let all : c.loop-i.i ≡ rank d.base = (let t = c.loop-i-test.false in let e = c.l-i-end.ensures in let l = c.loop-i.auto in omega (arith, t, e, l)) in
    c.loop-i.invariant
    ∙ ap (λ l. old ++ flat_map (λ (i : ℕ). map (S7 i) (root_numbers d)) l) (range-self (range_with_len 1 c.loop-i.i))
    ∙ ap (λ (n : ℕ). old ++ flat_map (λ (i : ℕ). map (S7 i) (root_numbers d)) (range_with_len 1 n)) all
