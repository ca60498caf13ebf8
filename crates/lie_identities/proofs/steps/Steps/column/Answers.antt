use Rattle.std.proofs.Common.{◌≡◌, map, ap, ap₂, ◌∙◌, arith}
use Rattle.lie_datum.specs.Numbers.{number_at, place}
use Rattle.lie_identities.specs.StepLists.{root_steps}
use Rattle.lie_identities.proofs.StepWalks.{lists-count, list-at, columns-count, column-at, number-place}
use Rattle.lie_identities.proofs.steps.Steps.column.Goals as goal
use Rattle.lie_identities.proofs.steps.Steps.column.Goals.{After-index}

pub index-requires : goal.index-requires
index-requires c =
    let s = c.args.self.now in
    let n = lists-count (λ c. map (λ s. s.items) c.items) s.lists.items s.module.now s.indexed in
    let w = c.place.ensures.within in
    let m = c.m.ensures.value in
    let p = s.is_module.positive in
    omega (arith, n, w, m, p)

-- the list of the root
root_list : (c : After-index) → map (λ s. s.items) c.index.result.now.items ≡ root_steps c.args.self.now.module.now c.args.r
root_list c =
    let s = c.args.self.now in
    let v = s.module.now in
    let d = s.datum.now in
    let w = c.place.ensures.within in
    let m = c.m.ensures.value in
    let p = s.is_module.positive in
    list-at (λ c. map (λ s. s.items) c.items) s.lists.items v s.indexed c.place.result c.index.result.now (omega (arith, w, m, p)) c.index.ensures
    ∙ ap (root_steps v) (ap₂ number_at p (c.place.ensures.value ∙ ap (λ k. place k c.args.r) m) ∙ number-place d c.args.r c.requires.r)

pub index-requires-2 : goal.index-requires-2
index-requires-2 c =
    let n = columns-count (λ s. s.items) c.index.result.now.items c.args.self.now.module.now c.args.r (root_list c) in
    let l = c.requires.col in
    omega (arith, n, l)

pub returns : goal.returns
returns c =
    c.deref.ensures.value
    ∙ column-at (λ s. s.items) c.index.result.now.items c.args.self.now.module.now c.args.r (root_list (goal.at.returns c).After-index) c.args.col c.index-2.result.now c.requires.col c.index-2.ensures
