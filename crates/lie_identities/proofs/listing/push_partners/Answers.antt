use Rattle.std.proofs.Common.{◌≡◌, ◌*◌, ◌++◌, ◌∷◌, [], ℤ, ℕ, cond, map, length, ltb, not, ◌&&◌, neg_ℤ, ap, ◌∙◌, arith}
use Rattle.std.specs.List.{filter, range_with_len}
use Rattle.std.specs.Ordering.{int_eq}
use Rattle.lie_datum.specs.Numbers.{place, number_at}
use Rattle.lie_identities.specs.declared.relations.Rel.TheVariants.{S2}
use Rattle.lie_identities.proofs.ListedRelations.{kept-more}
use Rattle.lie_identities.proofs.listing.push_partners.Goals as goal

pub loop-place-preserved : goal.loop-place-preserved
loop-place-preserved c =
    let m = length c.args.datum.now.positive in
    let r = c.args.r in
    let k = c.loop-place.place in
    let test = λ (s : ℤ). ltb (place m r) (place m s) && not (int_eq s (neg_ℤ r)) in
    let at = c.root_at-s.ensures.value in
    c.in_ok-push_if.ensures ∙ ap (λ (s : ℤ). c.loop-place.list.items ++ cond c.is_partner.result (S2 r s ∷ []) []) at
    ∙ kept-more (S2 r) (number_at m) test c.args.list.now.items c.loop-place.list.items k c.is_partner.result (c.is_partner.ensures ∙ ap test at) c.loop-place.invariant

pub returns : goal.returns
returns c =
    let m = length c.args.datum.now.positive in
    let r = c.args.r in
    let test = λ (s : ℤ). ltb (place m r) (place m s) && not (int_eq s (neg_ℤ r)) in
    let all : c.loop-place.place ≡ 2 * m = (let t = c.loop-place-test.false in let e = c.root_count-place-end.ensures.value in let l = c.loop-place.auto in omega (arith, t, e, l)) in
    c.loop-place.invariant ∙ ap (λ (n : ℕ). c.args.list.now.items ++ map (S2 r) (filter test (map (number_at m) (range_with_len 0 n)))) all
