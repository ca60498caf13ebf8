use Rattle.std.proofs.Common.{rules, ◌≡◌, sym, ap, ◌∙◌, subst}
use Rattle.lie_script.specs.declared.line.Line.{Line}
use Rattle.lie_session.specs.DatumLines.{DatumLines, with_root, with_coroot}
use Rattle.lie_session.specs.Obeyed.{IsLed}
use Rattle.lie_session.specs.Outcomes.{ReadsDatum, Leads}
use Rattle.lie_session.specs.declared.stage.Stage.TheVariants as stage
use Rattle.lie_session.proofs.stage.at_lines.Goals as goal

pub returns-in-Root : goal.returns-in-Root
returns-in-Root c =
    let same : c.list.result.now ≡ c.in-Root.v = search rules in
    let grown = c.in_ok-with_root-in-Root.ensures ∙ ap (with_root c.args.lines) same in
    subst (λ (said : Line). IsLed (Leads (stage.Lines c.args.field c.args.lines) said) c.read_datum.result) (sym c.in-Root.is)
    (subst (λ (lines : DatumLines). IsLed (ReadsDatum c.args.field lines) c.read_datum.result) grown c.read_datum.ensures)

pub returns-in-Coroot : goal.returns-in-Coroot
returns-in-Coroot c =
    let same : c.list-in-Coroot.result.now ≡ c.in-Coroot.v = search rules in
    let grown = c.in_ok-with_coroot-in-Coroot.ensures ∙ ap (with_coroot c.args.lines) same in
    subst (λ (said : Line). IsLed (Leads (stage.Lines c.args.field c.args.lines) said) c.read_datum-in-Coroot.result) (sym c.in-Coroot.is)
    (subst (λ (lines : DatumLines). IsLed (ReadsDatum c.args.field lines) c.read_datum-in-Coroot.result) grown c.read_datum-in-Coroot.ensures)
