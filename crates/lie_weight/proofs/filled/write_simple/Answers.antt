use Rattle.std.proofs.Common.{◌≡◌, ◌+◌, pos, neg_ℤ, length, List, subst, sym, ap, ◌∙◌}
use Rattle.lie_datum.specs.Vectors.{Vector}
use Rattle.lie_datum.specs.RootList.{IsNumber}
use Rattle.lie_datum.proofs.ListingLemmas.{ok_map}
use Rattle.lie_weight.specs.Along.{AreSteppable}
use Rattle.lie_weight.specs.Completion.{IsFilled, IsSource, Writes, source_powers}
use Rattle.lie_orbit.proofs.WeightLemmas.{simple_some}
use Rattle.lie_weight.proofs.StepLemmas.{place_index, negative_some, writes_draft, two_writes}
use Rattle.lie_weight.proofs.filled.write_simple.Goals as goal
use Rattle.lie_weight.proofs.filled.write_simple.Goals.{After-opposite, In_ok-write_root}

pub simple-simple-requires : goal.simple-simple-requires
simple-simple-requires c = place_index c.args.datum.now c.loaded.ensures c.args.i c.requires.index

opposite_is : (c : After-opposite) → c.opposite.result ≡ neg_ℤ (pos (c.args.i + 1))
opposite_is c = c.opposite.ensures ∙ ap neg_ℤ c.simple-simple.ensures.value

pub write_root-requires-2-clause-number : goal.write_root-requires-2-clause-number
write_root-requires-2-clause-number c =
    let o = (goal.at.write_root-requires-2-clause-number c).After-opposite in
    subst (IsNumber c.args.datum.now) (sym (opposite_is o)) (negative_some c.args.datum.now c.loaded.ensures (c.args.i + 1) (place_index c.args.datum.now c.loaded.ensures c.args.i c.requires.index))

first_writes : (c : In_ok-write_root) → Writes (source_powers c.args.datum.now c.args.space.now.weights c.args.source.now) c.args.space.now (pos (c.args.i + 1)) c.write_root.new.space
first_writes c = subst (λ t. Writes (source_powers c.args.datum.now c.args.space.now.weights c.args.source.now) c.args.space.now t c.write_root.new.space) c.simple-simple.ensures.value c.in_ok-write_root.ensures

first_weights : (c : In_ok-write_root) → c.write_root.new.space.weights ≡ c.args.space.now.weights
first_weights c = ap (λ (u : _). u.weights) (first_writes c).2

pub write_root-requires-2-clause-draft : goal.write_root-requires-2-clause-draft
write_root-requires-2-clause-draft c =
    let k = (goal.at.write_root-requires-2-clause-draft c).In_ok-write_root in
    writes_draft c.args.datum.now (source_powers c.args.datum.now c.args.space.now.weights c.args.source.now) c.args.space.now c.requires.filled.draft (pos (c.args.i + 1))
    (simple_some c.args.datum.now c.loaded.ensures (c.args.i + 1) (place_index c.args.datum.now c.loaded.ensures c.args.i c.requires.index)) c.write_root.new.space (first_writes k)

pub write_root-requires-2-clause-weights : goal.write_root-requires-2-clause-weights
write_root-requires-2-clause-weights c = subst AreSteppable (sym (first_weights (goal.at.write_root-requires-2-clause-weights c).In_ok-write_root)) c.requires.weights

pub write_root-requires-2-clause-source : goal.write_root-requires-2-clause-source
write_root-requires-2-clause-source c =
    subst (λ n. IsSource c.args.datum.now n c.args.source.now) (sym (ap length (first_weights (goal.at.write_root-requires-2-clause-source c).In_ok-write_root))) c.requires.source

pub returns-clause-filled : goal.returns-clause-filled
returns-clause-filled c =
    let d = c.args.datum.now in
    let v = c.args.space.now in
    let u = c.write_root.new.space in
    let w = c.write_root-2.new.space in
    let x = c.args.source.now in
    let g = source_powers d v.weights x in
    let k = (goal.at.returns-clause-filled c).In_ok-write_root in
    let o = (goal.at.returns-clause-filled c).After-opposite in
    ok_map (λ _. Writes (source_powers d u.weights x) u c.opposite.result w) (λ _. IsFilled d g (c.args.i + 1) w)
    (λ _ h. two_writes d c.loaded.ensures g v u w c.args.i c.requires.index c.requires.filled (first_writes k)
    (subst (λ t. Writes g u t w) (opposite_is o) (subst (λ (ws : List Vector). Writes (source_powers d ws x) u c.opposite.result w) (first_weights k) h)))
    c.write_root-2.result c.write_root-2.ensures

pub returns-clause-weights : goal.returns-clause-weights
returns-clause-weights c =
    let d = c.args.datum.now in
    let u = c.write_root.new.space in
    let w = c.write_root-2.new.space in
    let k = (goal.at.returns-clause-weights c).In_ok-write_root in
    ok_map (λ _. Writes (source_powers d u.weights c.args.source.now) u c.opposite.result w) (λ _. w.weights ≡ c.args.space.now.weights)
    (λ _ h. ap (λ (t : _). t.weights) h.2 ∙ first_weights k)
    c.write_root-2.result c.write_root-2.ensures
