use Rattle.std.proofs.Common.{◌≡◌, ◌<◌, false, true, cond, not, length, get_or, sym, ap, ◌∙◌, subst, arith}
use mathlib.Core.Bool.{beq}
use Rattle.std.proofs.lemmas.List.{get_or_read}
use Rattle.std.proofs.lemmas.Result.{IfOk-weaker}
use Rattle.lie_ring.specs.Rings.{Fits}
use Rattle.lie_unip.proofs.PartLemmas.{place_within}
use Rattle.lie_unip.proofs.GroupLemmas.{member_test}
use Rattle.lie_unip.proofs.collector.Collector.chosen_entry.Goals as goal

pub bounds-entries-place : goal.bounds-entries-place
bounds-entries-place g c =
    let self = c.args.self.now in
    let below = c.requires.k in
    let count = c.args.self.now.lawful.count in
    let inside : c.args.k < length self.places.items = omega (arith, below, count) in
    let read : c.index-place.result.now ≡ get_or self.places.items c.args.k 0 = get_or_read self.places.items c.args.k _ inside c.index-place.ensures 0 in
    subst (λ n. n < length c.args.entries.now) (sym read)
    (place_within (g.R.Ring.ring self.ring.now) self.zero self.consts.now self.kept.items self.roots.items self.places.items c.args.self.now.lawful c.args.entries.now c.requires.entries c.args.k below)

pub offset_bounds-entries-place : goal.offset_bounds-entries-place
offset_bounds-entries-place g c =
    let self = c.args.self.now in
    let below = c.requires.k in
    let count = c.args.self.now.lawful.count in
    let inside : c.args.k < length self.places.items = omega (arith, below, count) in
    let read : c.index-place.result.now ≡ get_or self.places.items c.args.k 0 = get_or_read self.places.items c.args.k _ inside c.index-place.ensures 0 in
    let l = place_within (g.R.Ring.ring self.ring.now) self.zero self.consts.now self.kept.items self.roots.items self.places.items c.args.self.now.lawful c.args.entries.now c.requires.entries c.args.k below in
    omega (arith, read, l)

pub roomy_copy-requires-clause-a : goal.roomy_copy-requires-clause-a
roomy_copy-requires-clause-a g c =
    let self = c.args.self.now in
    let R = g.R.Ring.ring self.ring.now in
    let below = c.requires.k in
    let count = c.args.self.now.lawful.count in
    let inside : c.args.k < length self.places.items = omega (arith, below, count) in
    let read : c.index-place.result.now ≡ get_or self.places.items c.args.k 0 = get_or_read self.places.items c.args.k _ inside c.index-place.ensures 0 in
    let l = place_within R self.zero self.consts.now self.kept.items self.roots.items self.places.items c.args.self.now.lawful c.args.entries.now c.requires.entries c.args.k below in
    let place : c.index-place.result.now < length c.args.entries.now = omega (arith, read, l) in
    subst (Fits R) (sym c.index-entries-place.is) (c.requires.entries.fit c.index-place.result.now c.index-entries-place.result place)

pub returns-then-index-first-clause-value : goal.returns-then-index-first-clause-value
returns-then-index-first-clause-value g c =
    let self = c.args.self.now in
    let R = g.R.Ring.ring self.ring.now in
    let k = c.args.k in
    let below = c.requires.k in
    let count = c.args.self.now.lawful.count in
    let long = c.requires.count in
    let inside : k < length self.places.items = omega (arith, below, count) in
    let inside' : k < length self.kept.items = omega (arith, below, long) in
    let read : c.index-place.result.now ≡ get_or self.places.items k 0 = get_or_read self.places.items k _ inside c.index-place.ensures 0 in
    let l = place_within R self.zero self.consts.now self.kept.items self.roots.items self.places.items c.args.self.now.lawful c.args.entries.now c.requires.entries k below in
    let place : c.index-place.result.now < length c.args.entries.now = omega (arith, read, l) in
    let member : beq (get_or self.kept.items k false) c.args.first ≡ true = ap (λ b. beq b c.args.first) (sym (get_or_read self.kept.items k _ inside' c.index.ensures false)) ∙ c.if-index-first.true in
    let entry : c.index-entries-place.result ≡ get_or c.args.entries.now (get_or self.places.items k 0) R.zero =
    get_or_read c.args.entries.now c.index-place.result.now _ place c.index-entries-place.is R.zero ∙ ap (λ n. get_or c.args.entries.now n R.zero) read in
    let choose = ap (λ b. cond b (get_or c.args.entries.now (get_or self.places.items k 0) R.zero) R.zero) (member_test c.args.first (get_or self.kept.items k false) ∙ member) in
    IfOk-weaker c.roomy_copy.result (λ x. x ≡ c.index-entries-place.result)
    (λ x. x ≡ cond (cond c.args.first (get_or self.kept.items k false) (not (get_or self.kept.items k false))) (get_or c.args.entries.now (get_or self.places.items k 0) R.zero) R.zero)
    (λ x e. e ∙ entry ∙ sym choose) c.roomy_copy.ensures.value
