use Rattle.std.proofs.Common.{◌≡◌, ℕ, ◌≤◌, ◌<◌, ℤ, List, length, sym, subst, arith}
use Rattle.lie_datum.specs.Vectors.{entry, unit}
use Rattle.lie_const.specs.Modules.{dimension}
use Rattle.lie_identities.specs.Audited.{AuditedModule}
use Rattle.lie_identities.specs.CoverLines.{combination_entry, IsCombination, AreCoverLines}
use Rattle.lie_identities.proofs.LineLemmas.{line_added}
use Rattle.lie_identities.proofs.audited.Audited.add_cover.Goals as goal

pub invariant_of-self : goal.invariant_of-self
invariant_of-self c =
    let is = c.self.invariant in
    let d = c.self.inside.datum.value in
    let v = c.self.inside.space in
    let j = c.args.axis in
    let last : j ≤ d.base.dim = subst (λ (a : AuditedModule). j ≤ a.datum.base.dim) (sym c.self.view_is) c.requires.axis.1 in
    let few = is.loaded.axioms.input.dim.1 in
    let new : IsCombination v j c.args.c.items = record {
      count = subst (λ (a : AuditedModule). length c.args.c.items ≡ dimension a.module) (sym c.self.view_is) c.requires.count;
      small = c.requires.small;
      sum = subst (λ (x : List ℤ). (k : ℕ) → k < 8 → combination_entry v x k ≡ entry (unit 8 j) k) c.deref.ensures.value c.in-None.ensures;
    } in
    record {
      loaded = is.loaded;
      shape = is.shape;
      light = is.light;
      meets = is.meets;
      cover = subst (AreCoverLines d v) (sym c.set.ensures) (line_added d v c.self.inside.lines j c.args.c.items c.requires.axis.0 (omega (arith, last, few)) is.cover new);
    }
