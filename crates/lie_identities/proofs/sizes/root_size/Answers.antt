use Rattle.std.proofs.Common.{ℕ, ◌<◌, subst}
use Rattle.lie_identities.proofs.NaturalSizes.{root-huge}
use Rattle.lie_identities.proofs.sizes.root_size.Goals as goal

pub returns-clause-wide : goal.returns-clause-wide
returns-clause-wide c e =
    let w = c.build.ensures.wide e in
    root-huge c.args.steps.now.module.now c.args.r c.args.size (record {
      row = w.row;
      col = w.col;
      row_within = subst (λ (n : ℕ). w.row < n) c.dim.ensures.value w.row_within;
      col_within = subst (λ (n : ℕ). w.col < n) c.dim-2.ensures.value w.col_within;
      here = w.here;
    })
