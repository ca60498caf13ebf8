use Rattle.lie_session.proofs.CauseLemmas.{ran_none}
use Rattle.lie_session.proofs.program.run.Goals as goal

pub returns-in-Err : goal.returns-in-Err
returns-in-Err g c = ran_none c.args.mode (g.S.Source.left c.args.source.now) (g.K.Sink.written c.args.sink.now) (g.S.Source.faults c.args.source.now) (g.K.Sink.faults c.args.sink.now)
