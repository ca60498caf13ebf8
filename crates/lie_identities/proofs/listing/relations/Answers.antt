use Rattle.std.proofs.Common.{◌++◌, ℕ, ℤ, map, ap, ◌∙◌}
use Rattle.std.specs.List.{flat_map}
use Rattle.std.proofs.lemmas.List.{append_assoc}
use Rattle.lie_identities.specs.declared.relations.Rel.TheVariants.{S1, S2, S6, S7}
use Rattle.lie_identities.specs.AuditRelations.{root_numbers, partners, simple_indices, relations}
use Rattle.lie_identities.proofs.listing.relations.Goals as goal

pub returns : goal.returns
unfolding relations
returns c =
    let d = c.args.datum.now in
    let one = map S1 (root_numbers d) in
    let two = flat_map (λ (r : ℤ). map (S2 r) (partners d r)) (root_numbers d) in
    let six = map S6 (simple_indices d) in
    let seven = flat_map (λ (i : ℕ). map (S7 i) (root_numbers d)) (simple_indices d) in
    let first = c.in_ok-push_s1.ensures ∙ ap (λ l. l ++ one) c.new-list.ensures.items in
    let second = c.in_ok-push_s2.ensures ∙ ap (λ l. l ++ two) first in
    let third = c.in_ok-push_s6.ensures ∙ ap (λ l. l ++ six) second in
    c.in_ok-push_s7.ensures ∙ ap (λ l. l ++ seven) third
    ∙ append_assoc (one ++ two) six seven
    ∙ append_assoc one two (six ++ seven)
