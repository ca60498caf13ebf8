use Rattle.std.proofs.Common.{◌≡◌, ◌≢◌, ℕ, ◌<◌, ◌-◌, length, get_or, rules, ap, sym, ◌∙◌, subst, arith}
use Rattle.lie_letters.specs.PositiveTerms.{positive_terms}
use Rattle.lie_unip.specs.Splitting.{kept_at}
use Rattle.lie_unip.specs.Placing.{StayApart, AreRoots}
use Rattle.lie_unip.proofs.DatumLemmas.{table_collectable, kept_apart, length-kept_by}
use Rattle.lie_unip.proofs.OrderedLemmas.{different_at}
use Rattle.lie_unip.proofs.GroupLemmas.{collector_with_first, both_groups, groups_are_roots, groups_sorted}
use Rattle.lie_unip.proofs.collector.Collector.with_first.Goals as goal

pub places_of-requires-clause-within : goal.places_of-requires-clause-within
places_of-requires-clause-within g c =
    let kept = c.in_ok-kept.kept.items in
    let word = c.requires.element.0 in
    let groups : c.deref-3.result.now ≡ both_groups kept = search rules in
    let count = ap length (c.in_ok-kept.ensures word c.requires.element.1) ∙ length-kept_by c.args.datum.now word ∙ sym c.m-m.ensures.value in
    subst (AreRoots c.m-m.result) (sym groups) (groups_are_roots kept c.m-m.result count)

pub places_of-requires-clause-different : goal.places_of-requires-clause-different
places_of-requires-clause-different g c =
    let kept = c.in_ok-kept.kept.items in
    let groups : c.deref-3.result.now ≡ both_groups kept = search rules in
    subst (λ ks. (j i : ℕ) → j < i → i < length ks → get_or ks j 0 ≢ get_or ks i 0) (sym groups) (λ j i l h. different_at (kept_at kept) (both_groups kept) j i (groups_sorted kept) l h)

pub returns-clause-count : goal.returns-clause-count
returns-clause-count g c =
    let word = c.requires.element.0 in
    ap length (c.in_ok-kept.ensures word c.requires.element.1) ∙ length-kept_by c.args.datum.now word ∙ sym c.requires.constants.0

pub invariant_of-result : goal.invariant_of-result
invariant_of-result g c =
    let d = c.args.datum.now in
    let t = c.args.consts.now in
    let kept = c.in_ok-kept.kept.items in
    let word = c.requires.element.0 in
    let same = c.in_ok-kept.ensures word c.requires.element.1 in
    let count : length kept ≡ t.positive = ap length same ∙ length-kept_by d word ∙ sym c.requires.constants.0 in
    let groups : c.push_group-2.new.roots.items ≡ both_groups kept = search rules in
    let m = c.m-m.ensures.value in
    let bound = c.m-m.ensures.bound in
    let positive = c.requires.constants.0 in
    let list : c.deref-3.result.now ≡ c.push_group-2.new.roots.items = search rules in
    record {
      lawful = collector_with_first (g.R.Ring.ring c.args.ring.now) c.in_ok-zero.zero t kept c.push_group-2.new.roots.items c.in_ok-places.places.items
          c.requires.roomy c.in_ok-zero.ensures.value c.in_ok-zero.ensures.fits (omega (arith, m, bound, positive)) (table_collectable d c.loaded.ensures t c.requires.constants)
          (subst (λ k. StayApart t.positive (positive_terms t) (kept_at k)) (sym same) (kept_apart d c.loaded.ensures t c.requires.constants word c.requires.element.1.letters))
          count groups (c.in_ok-places.ensures.count ∙ m ∙ sym positive)
          (subst (λ ks. (p : ℕ) → p < length ks → get_or c.in_ok-places.places.items (get_or ks p 0 - 1) 0 ≡ p) list c.in_ok-places.ensures.placed);
    }
