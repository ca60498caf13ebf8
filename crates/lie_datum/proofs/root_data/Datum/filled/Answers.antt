use Rattle.std.proofs.Common.{◌≡◌, ℕ, subst, sym, ap, ◌∙◌, List, take, length, arith, refl, map, length-take}
use Rattle.std.specs.List.{All, range_with_len}
use Rattle.lie_datum.specs.RootDatum.{Root, IsRoot, IsSmall, covector, vector, reflected, rank}
use Rattle.lie_datum.specs.RootList.{RootDatum, all_roots}
use Rattle.lie_datum.proofs.TablesHold.{names_root, some_name, all_small, index_of_roots, entries_view, tables_hold}
use Rattle.lie_datum.specs.Vectors.{Vector, plus}
use Rattle.lie_datum.specs.Entries.{HasEntry}
use Rattle.lie_datum.specs.Grids.{grid, IsIndexed}
use Rattle.std.specs.Ordering.{int_eq}
use Rattle.indexmap.specs.IndexMap.{get}
use lib.Pointwise.{pointwise}
use Rattle.lie_datum.proofs.root_data.Datum.filled.Goals as goal

pub entries-requires-clause-roots : goal.entries-requires-clause-roots
entries-requires-clause-roots c =
    let d : RootDatum = record { base = c.args.base; positive = take c.args.positive c.args.all.now } in
    subst (All (λ r. IsRoot c.args.base r × IsSmall r)) (sym c.requires.all) (all_small d c.requires.loaded)

pub sums_and_images-requires-clause-roots : goal.sums_and_images-requires-clause-roots
sums_and_images-requires-clause-roots c =
    let d : RootDatum = record { base = c.args.base; positive = take c.args.positive c.args.all.now } in
    subst (All (λ r. IsRoot c.args.base r × IsSmall r)) (sym c.requires.all) (all_small d c.requires.loaded)

pub sums_and_images-requires-clause-named : goal.sums_and_images-requires-clause-named
sums_and_images-requires-clause-named c r p =
    let d : RootDatum = record { base = c.args.base; positive = take c.args.positive c.args.all.now } in
    let names = get (pointwise int_eq) c.in_ok-by_coeffs.by_coeffs in
    let twice = c.requires.count in
    let count : c.args.positive ≡ length d.positive = sym (length-take c.args.positive c.args.all.now ∙ omega arith) in
    some_name d (λ s. s.coeffs) r (names r.coeffs) p (names_root d c.requires.loaded (λ s. s.coeffs) r.coeffs (names r.coeffs)
    (index_of_roots d c.args.positive (λ s. s.coeffs) c.args.all.now (map (λ (s : Root). s.coeffs) c.args.all.now) names count c.requires.all refl c.in_ok-by_coeffs.ensures r.coeffs))

pub invariant_of-result : goal.invariant_of-result
invariant_of-result c =
    let d : RootDatum = record { base = c.args.base; positive = take c.args.positive c.args.all.now } in
    let names = get (pointwise int_eq) c.in_ok-by_coeffs.by_coeffs in
    let all = c.requires.all in
    let twice = c.requires.count in
    let count : c.args.positive ≡ length d.positive = sym (length-take c.args.positive c.args.all.now ∙ omega arith) in
    let few = c.requires.bound in
    let by_coeffs = index_of_roots d c.args.positive (λ s. s.coeffs) c.args.all.now (map (λ (s : Root). s.coeffs) c.args.all.now) names count all refl c.in_ok-by_coeffs.ensures in
    tables_hold d c.requires.loaded _ refl count (c.in_ok-entries.ensures.roots ∙ all)
    (omega (arith, few, count))
    (subst (λ (ts : List Root). All (HasEntry d.base (map (covector d.base) ts)) c.in_ok-entries.field-0.items) all c.in_ok-entries.ensures.data)
    names by_coeffs
    (c.in_ok-sums.ensures.sums ∙ ap (λ (ts : List Root). grid (λ (r s : Root). names (plus r.coeffs s.coeffs)) ts ts) all)
    (c.in_ok-sums.ensures.images ∙ ap (λ (ts : List Root). grid (λ (i : ℕ) (r : Root). names (reflected d.base i r).coeffs) (range_with_len 1 (rank d.base)) ts) all)
    by_coeffs
    (index_of_roots d c.args.positive (vector d.base) c.args.all.now c.args.vectors.now (get (pointwise int_eq) c.in_ok-by_vector.by_vector) count all c.requires.vectors c.in_ok-by_vector.ensures)

pub returns : goal.returns
returns c =
    let d : RootDatum = record { base = c.args.base; positive = take c.args.positive c.args.all.now } in
    let twice = c.requires.count in
    let count : c.args.positive ≡ length d.positive = sym (length-take c.args.positive c.args.all.now ∙ omega arith) in
    entries_view d c.args.positive c.in_ok-entries.field-0.items count (c.in_ok-entries.ensures.roots ∙ c.requires.all)
