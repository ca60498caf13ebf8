use Rattle.std.proofs.Common.{◌≡◌, ◌∙◌, ℕ, ◌<◌, ap, sym, subst, arith, length}
use Rattle.std.specs.Prelude.{slice_index_or, MatchOption}
use Rattle.lie_ring.specs.Matrices.{table}
use Rattle.lie_const.specs.Modules.{dimension}
use Rattle.lie_reduce.specs.Triangular.{AreFactors, HasNoFactors}
use Rattle.lie_reduce.specs.Pivots.{sorted_entry}
use Rattle.lie_reduce.specs.FormReading.{AreRanks}
use Rattle.lie_reduce.proofs.CoefficientLemmas.{known_square}
use Rattle.lie_reduce.proofs.LevelFactorLemmas.{sorted_elem, level-none, level-some}
use Rattle.lie_reduce.proofs.level_factors.level_factors.Goals as goal

pub udl-requires : goal.udl-requires
udl-requires c =
    let f = c.args.field.now in
    let d = c.args.datum.now in
    let v = c.args.space.now in
    let M = c.args.m.now in
    let ps = c.in_ok-places.places.items in
    let dim = c.requires.dimension in
    let sm = known_square f (dimension v) M dim (sym c.dim.ensures.cols ∙ c.dim.ensures.rows ∙ dim) c.dim.ensures.entries c.requires.elem in
    let is = c.in_ok-rows.ensures ∙ ap (λ qs. table M.height M.height (sorted_entry M qs)) c.deref.ensures.value ∙ ap (λ m. table m m (sorted_entry M ps)) dim in
    record { elem = (sorted_elem f d v ps c.in_ok-places.ensures M c.in_ok-rows.rows sm is).elem }

pub ranks-requires : goal.ranks-requires
ranks-requires c =
    let o = c.in_ok-places.ensures in
    subst (λ qs. (a : ℕ) → a < length qs → (i : ℕ) × (i < length qs) × (slice_index_or qs i 0 ≡ a)) (sym c.deref-in-Some.ensures.value)
    (λ a l. (let count = o.count in let found = o.onto a (omega (arith, l, count)) in let low = found.1 in (found.0, omega (arith, low, count), found.2)))

pub returns-in-Some : goal.returns-in-Some
returns-in-Some c =
    let f = c.args.field.now in
    let d = c.args.datum.now in
    let v = c.args.space.now in
    let M = c.args.m.now in
    let ps = c.in_ok-places.places.items in
    let o = c.in_ok-places.ensures in
    let rs = c.in_ok-ranks-in-Some.ranks.items in
    let dim = c.requires.dimension in
    let sm = known_square f (dimension v) M dim (sym c.dim.ensures.cols ∙ c.dim.ensures.rows ∙ dim) c.dim.ensures.entries c.requires.elem in
    let T = c.in_ok-rows.rows in
    let is = c.in_ok-rows.ensures ∙ ap (λ qs. table M.height M.height (sorted_entry M qs)) c.deref.ensures.value ∙ ap (λ m. table m m (sorted_entry M ps)) dim in
    let found = subst (λ z. MatchOption z (HasNoFactors f T) (λ t. AreFactors f T t.0 t.1 t.2)) c.in-Some.is c.in_ok-u.ensures in
    let ranked = subst (λ qs. AreRanks qs rs) c.deref-in-Some.ensures.value c.in_ok-ranks-in-Some.ensures in
    let n = o.count in
    let places = c.deref-in-Some-2.ensures.value in
    level-some f d v ps o rs (ranked.0 ∙ n) (λ a l. (let each = ranked.1 a (omega (arith, l, n)) in let low = each.0 in (omega (arith, low, n), each.1)))
    M T c.in-Some.u c.in-Some.d c.in-Some.l c.in_ok-factors-in-Some.factors.0 c.in_ok-factors-in-Some.factors.1 c.in_ok-factors-in-Some.factors.2 sm is found
    (c.in_ok-factors-in-Some.ensures.u ∙ ap (λ qs. table c.in-Some.u.height c.in-Some.u.height (sorted_entry c.in-Some.u qs)) places)
    (c.in_ok-factors-in-Some.ensures.d ∙ ap (λ qs. table c.in-Some.d.height c.in-Some.d.height (sorted_entry c.in-Some.d qs)) places)
    (c.in_ok-factors-in-Some.ensures.l ∙ ap (λ qs. table c.in-Some.l.height c.in-Some.l.height (sorted_entry c.in-Some.l qs)) places)

pub returns : goal.returns
returns c =
    let f = c.args.field.now in
    let d = c.args.datum.now in
    let v = c.args.space.now in
    let M = c.args.m.now in
    let ps = c.in_ok-places.places.items in
    let dim = c.requires.dimension in
    let sm = known_square f (dimension v) M dim (sym c.dim.ensures.cols ∙ c.dim.ensures.rows ∙ dim) c.dim.ensures.entries c.requires.elem in
    let is = c.in_ok-rows.ensures ∙ ap (λ qs. table M.height M.height (sorted_entry M qs)) c.deref.ensures.value ∙ ap (λ m. table m m (sorted_entry M ps)) dim in
    level-none f d v ps c.in_ok-places.ensures M c.in_ok-rows.rows sm is (subst (λ z. MatchOption z (HasNoFactors f c.in_ok-rows.rows) (λ t. AreFactors f c.in_ok-rows.rows t.0 t.1 t.2)) c.in-None.is c.in_ok-u.ensures)
