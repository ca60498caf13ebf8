use Rattle.lie_session.proofs.CauseLemmas.{complete_of, exceeds_of}
use Rattle.lie_session.proofs.CoveredLemmas.{cover_lines_are_kept}
use Rattle.lie_session.proofs.LoadedLemmas.{fields_are_sized, data_are_loaded, groups_are_loaded, matrices_are_products, joined_words_have_one_matrix}
use Rattle.lie_session.proofs.OneOutputLemmas.{one_output_up_to_collect, one_output}
use Rattle.lie_session.proofs.PrintedLemmas.{forms_are_joined, equal_replies_decide_words, same_decides_words}
use Rattle.lie_session.proofs.ReducedLemmas.{blocks_are_covering, matrices_are_reduced}
use Rattle.lie_session.proofs.program.lie.Goals as goal

pub returns-clause-complete : goal.returns-clause-complete
returns-clause-complete g c =
    complete_of _ (g.S.Source.left c.args.source.now) (g.S.Source.left c.answer.new.source) (g.K.Sink.written c.args.sink.now) (g.K.Sink.written c.answer.new.sink)
    _ _ _ _ c.answer.result c.answer.ensures.read c.answer.ensures.written c.answer.ensures.cause

pub returns-clause-exceeds : goal.returns-clause-exceeds
returns-clause-exceeds g c =
    exceeds_of _ (g.S.Source.left c.args.source.now) (g.S.Source.left c.answer.new.source) (g.K.Sink.written c.args.sink.now) (g.K.Sink.written c.answer.new.sink)
    _ _ c.answer.result c.answer.ensures.read c.answer.ensures.cause

pub returns-clause-one : goal.returns-clause-one
returns-clause-one g c = one_output

pub returns-clause-collected : goal.returns-clause-collected
returns-clause-collected g c = one_output_up_to_collect

pub returns-clause-sized : goal.returns-clause-sized
returns-clause-sized g c = fields_are_sized

pub returns-clause-sound : goal.returns-clause-sound
returns-clause-sound g c = data_are_loaded

pub returns-clause-loaded : goal.returns-clause-loaded
returns-clause-loaded g c = groups_are_loaded

pub returns-clause-matrices : goal.returns-clause-matrices
returns-clause-matrices g c = matrices_are_products

pub returns-clause-joined_matrices : goal.returns-clause-joined_matrices
returns-clause-joined_matrices g c = joined_words_have_one_matrix

pub returns-clause-cover_lines : goal.returns-clause-cover_lines
returns-clause-cover_lines g c = cover_lines_are_kept

pub returns-clause-headline : goal.returns-clause-headline
returns-clause-headline g c =
    record {
      forms = forms_are_joined;
      words = equal_replies_decide_words;
      same = same_decides_words;
      blocks = blocks_are_covering;
      reductions = matrices_are_reduced;
    }
