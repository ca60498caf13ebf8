use Rattle.std.proofs.Common.{◌≡◌, subst, sym, ◌∙◌}
use Rattle.lie_datum.specs.RootList.{NamesRoot}
use Rattle.lie_datum.specs.Table.{loaded_roots}
use Rattle.lie_datum.proofs.root_data.Datum.named.Goals as goal

pub returns : goal.returns
returns c =
    let d = loaded_roots c.self.inside in
    rw (← c.self.view_is) (subst (NamesRoot d (λ r. r.coeffs ≡ c.args.coeffs.now)) (sym (c.copied.ensures ∙ c.get.ensures.value)) (c.self.invariant.by_coeffs c.args.coeffs.now))
