use Rattle.std.proofs.Common.{◌≡◌, ◌∷◌, ◌++◌, [], None, ap, ◌∙◌}
use Rattle.std.proofs.lemmas.Result.{err_from_is_err_and}
use Rattle.lie_session.specs.Named.{NamedModules, module_of, audits_of, named_of, same_modules}
use Rattle.lie_session.proofs.NamedLemmas.{audits_last, distinct_named}
use Rattle.lie_session.proofs.modules.Modules.push.Goals as goal

pub invariant_of-self-inside : goal.invariant_of-self-inside
invariant_of-self-inside c = (distinct_named c.insert.new.self.entries c.insert.ensures.unique, tt)

pub returns-in_err-insert-clause-left : goal.returns-in_err-insert-clause-left
returns-in_err-insert-clause-left c =
    let p = err_from_is_err_and c.from_residual-in_err-insert.result c.from_residual-in_err-insert.ensures.1 in
    rw p.1 (same_modules _ _ (ap audits_of c.in_err-insert.ensures.err ∙ ap (λ (m : NamedModules). m.entries) c.self.view_is))

pub returns-clause-pushed : goal.returns-clause-pushed
returns-clause-pushed c =
    let table = c.self.inside.table in
    let key = c.in_ok-name.name in
    let before = c.args.self.now.entries in
    let new : module_of (named_of (audits_of table.entries)) key.items ≡ None =
    ap (λ (m : NamedModules). module_of (named_of m.entries) key.items) c.self.view_is ∙ ap (module_of (named_of before)) c.in_ok-name.ensures.items ∙ c.requires in
    ap audits_of c.in_ok-insert.ensures.entries
    ∙ audits_last table key c.args.audited new
    ∙ ap (λ (m : NamedModules). m.entries ++ (key.items, c.args.audited) ∷ []) c.self.view_is
    ∙ ap (λ name. before ++ (name, c.args.audited) ∷ []) c.in_ok-name.ensures.items
