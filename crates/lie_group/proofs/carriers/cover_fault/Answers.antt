use Rattle.std.proofs.Common.{subst, inl}
use Rattle.lie_const.specs.Signs.{eta_of}
use Rattle.lie_identities.specs.Covers.{IsCoverFault}
use Rattle.lie_identities.specs.declared.covering.CoverFault.{CoverFault}
use Rattle.lie_group.proofs.carriers.cover_fault.Goals as goal

pub unreachable-requires : goal.unreachable-requires
unreachable-requires c =
    let f = c.args.frame.now in
    let v = c.args.carrier.now.module in
    let j = c.in-Uncovered.field-0 in
    let fault = subst (λ (w : CoverFault). IsCoverFault f.field f.datum v c.args.carrier.now.lines w) c.in-Uncovered.is c.requires.fault in
    let p = c.requires.carrier.is_carrier in
    fault.1.uncovered (inl (c.carriers_cover_axes.ensures f.datum (eta_of f.signs) p.0 v j c.lawful.ensures.lawful.loaded p.1 p.2.0 fault.1.first fault.1.last))
