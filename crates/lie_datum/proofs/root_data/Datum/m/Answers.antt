use Rattle.lie_datum.proofs.TableLemmas.{positive_count}
use Rattle.std.proofs.Common.{sym}
use Rattle.lie_datum.proofs.root_data.Datum.m.Goals as goal

pub returns-clause-value : goal.returns-clause-value
returns-clause-value c = rw (← c.self.view_is) (sym (positive_count c.self.inside c.self.invariant))

pub returns-clause-bound : goal.returns-clause-bound
returns-clause-bound c = c.self.invariant.small
