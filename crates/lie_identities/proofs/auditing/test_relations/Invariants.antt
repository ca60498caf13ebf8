use Rattle.std.proofs.Common.{take}
use Rattle.std.specs.List.{All}
use Rattle.lie_const.specs.Signs.{eta_of}
use Rattle.lie_identities.specs.AuditRelations.{relations}
use Rattle.lie_identities.specs.Audit.{IsMet}
use Rattle.lie_identities.proofs.auditing.test_relations.Given as goal

abbrev pub invariant-loop-rel : goal.invariant-loop-rel
invariant-loop-rel l = All (IsMet l.steps.datum.now l.consts (eta_of l.signs) l.steps.module.now) (take l.rel-index (relations l.steps.datum.now))
