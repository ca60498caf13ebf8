use Rattle.std.proofs.Common.{◌≡◌, Some, None, sym, ap, ◌∙◌}
use Rattle.std.specs.Option.{option_copied, option_map}
use Rattle.lie_const.specs.Modules.{Module, dimension}
use Rattle.lie_session.specs.Named.{named_of}
use Rattle.lie_session.proofs.NamedLemmas.{module_in, named_module}
use Rattle.lie_session.proofs.StageLemmas.{listed_dimension}
use Rattle.lie_session.proofs.modules.ModulesNames.dim_of.Goals as goal

pub returns-in-Some : goal.returns-in-Some
returns-in-Some c =
    let a = c.in-Some.audited.now in
    let entries = c.args.self.now.entries in
    let copied : option_copied c.find.result ≡ Some a = ap option_copied c.in-Some.is in
    let named = named_module entries c.args.name.now ∙ ap (option_map module_in) (sym c.find.ensures ∙ copied) in
    ap Some (c.dim.ensures.value ∙ ap (λ (v : Module). dimension v) c.module.ensures.value) ∙ sym (listed_dimension (named_of entries) c.args.name.now (Some a.module) (sym named))

pub returns-in-None : goal.returns-in-None
returns-in-None c =
    let entries = c.args.self.now.entries in
    let copied : option_copied c.find.result ≡ None = ap option_copied c.in-None.is in
    let named = named_module entries c.args.name.now ∙ ap (option_map module_in) (sym c.find.ensures ∙ copied) in
    sym (listed_dimension (named_of entries) c.args.name.now None (sym named))
