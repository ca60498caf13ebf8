use Rattle.lie_letters.proofs.TableChoice.{joined_elsewhere}
use Rattle.lie_letters.proofs.laws.joined_by_any_table.Goals as goal

pub returns : goal.returns
returns c = joined_elsewhere
