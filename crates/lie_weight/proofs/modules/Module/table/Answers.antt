use Rattle.std.proofs.Common.{List, length, get_or, IfOk, IfErr, refl, sym, ap, subst, ◌∙◌}
use Rattle.lie_datum.specs.Vectors.{Vector}
use Rattle.lie_const.specs.Signs.{eta_of}
use Rattle.lie_weight.specs.declared.sources.Source.TheVariants.{Entries}
use Rattle.lie_weight.specs.Tables.{IsEntry}
use Rattle.lie_weight.specs.Along.{IsMadeFrom, IsFaultFrom}
use Rattle.lie_weight.specs.Completion.{source_powers}
use Rattle.lie_weight.proofs.TableLemmas.{first_entry}
use Rattle.lie_weight.proofs.SimpleLemmas.{table_loads}
use Rattle.lie_weight.proofs.OneWeight.{no_entry}
use Rattle.lie_weight.proofs.modules.Module.table.Goals as goal

pub returns-in-Some : goal.returns-in-Some
returns-in-Some c = first_entry c.args.datum.now c.args.weights.now c.args.entries.now c.in-Some.n c.in-Some.ensures.here c.in-Some.ensures.before

pub made-requires-clause-source : goal.made-requires-clause-source
made-requires-clause-source c =
    let d = c.args.datum.now in
    let es = c.args.entries.now in
    let e = ap length c.in_ok-copy.ensures.items in
    (λ k z l. subst (λ n. IsEntry d n (get_or es k z)) (sym e) (c.requires.entries k z l), λ one. no_entry d c.loaded.ensures c.args.weights.now (sym e ∙ one) es c.requires.entries c.in_default.ensures.here)

pub returns : goal.returns
returns c =
    let d = c.args.datum.now in
    let eta = eta_of c.args.signs.now in
    let ws = c.args.weights.now in
    let x = Entries c.args.entries in
    table_loads d eta ws c.args.entries.now x c.made.result (λ r k. refl) c.in_default.ensures.here
    (subst (λ (us : List Vector). IfOk c.made.result (IsMadeFrom d eta (source_powers d us x) us)) c.in_ok-copy.ensures.items c.made.ensures.made)
    (subst (λ (us : List Vector). IfErr c.made.result (IsFaultFrom d eta (source_powers d us x) us)) c.in_ok-copy.ensures.items c.made.ensures.fault)
