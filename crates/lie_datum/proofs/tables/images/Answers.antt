use Rattle.std.proofs.Common.{◌≡◌, ◌+◌, get_or, map, [], ◌∷◌, ◌++◌, sym, ap, ◌∙◌, arith, List, ℕ, Some}
use Rattle.std.proofs.lemmas.List.{map-append}
use Rattle.std.specs.Ordering.{int_eq}
use Rattle.std.specs.List.{range_with_len}
use Rattle.indexmap.specs.IndexMap.{get}
use lib.Pointwise.{pointwise}
use Rattle.lie_datum.specs.RootDatum.{Root, reflected, is_reflected}
use Rattle.lie_datum.specs.Grids.{grid}
use Rattle.lie_datum.proofs.TableFilling.{row_more, row_whole, range_next, not_none}
use Rattle.lie_datum.proofs.tables.images.Goals as goal

abbrev no_root : Root
no_root = record { coeffs = []; co_coeffs = [] }

pub unreachable-requires : goal.unreachable-requires
unreachable-requires c =
    let b = c.args.base.now in
    let rs = c.args.roots.now in
    let r = get_or rs c.loop-r.r-index no_root in
    let t = c.loop-i-test.true in
    let e = c.rank-i-end.ensures in
    let root = is_reflected (c.loop-i.i + 1) r (omega arith, omega (arith, t, e)) (c.requires.roots c.loop-r.r-index no_root (omega arith)).0 in
    let some = c.requires.named (reflected b (c.loop-i.i + 1) r) root in
    let none = sym (ap (λ (z : Root). get (pointwise int_eq) c.args.names.now z.coeffs) c.reflected-image.ensures) ∙ sym c.in-None.ensures.value in
    not_none _ none some

pub loop-r-preserved : goal.loop-r-preserved
loop-r-preserved c =
    let rs = c.args.roots.now in
    let f = λ (i : ℕ) (r : Root). get (pointwise int_eq) c.args.names.now (reflected c.args.base.now i r).coeffs in
    let name = c.in-Some.ensures.value ∙ ap (λ (z : Root). get (pointwise int_eq) c.args.names.now z.coeffs) c.reflected-image.ensures in
    row_more (f (c.loop-i.i + 1)) (grid f (range_with_len 1 c.loop-i.i) rs) (map Some c.loop-r.list.items) (map Some c.push.new.self.items) rs c.loop-r.r-index no_root (Some c.in-Some.k.now) (omega arith)
    c.loop-r.invariant (ap (map Some) c.in_ok-push-in-Some.ensures.items ∙ map-append Some c.loop-r.list.items (c.in-Some.k.now ∷ [])) name

pub loop-i-preserved : goal.loop-i-preserved
loop-i-preserved c =
    let rs = c.args.roots.now in
    let f = λ (i : ℕ) (r : Root). get (pointwise int_eq) c.args.names.now (reflected c.args.base.now i r).coeffs in
    let n = c.loop-i.i in
    let whole = row_whole f (range_with_len 1 n) (n + 1) rs c.loop-r.r-index (map Some c.loop-r.list.items) (omega arith) c.loop-r.invariant in
    let e : n + 1 ≡ 1 + n = omega arith in
    whole ∙ ap (λ (ts : List ℕ). grid f ts rs) (ap (λ t. range_with_len 1 n ++ t ∷ []) e ∙ sym (range_next 1 n))
