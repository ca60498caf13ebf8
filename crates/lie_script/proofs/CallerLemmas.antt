-- What crates above cite: what holds of every line that passes its checks.
use Rattle.std.specs.Prelude.{Result, Ok, Err, IfOk}
use Rattle.lie_script.specs.Setting.{answer_of}
use Rattle.lie_script.specs.declared.faults.Fault.{Fault}
use Rattle.lie_script.specs.declared.line.Line.{Line}
pub use Rattle.lie_script.proofs.AcceptedLemmas.{accepted-fits}

-- what holds of the line that reading gives holds of the line that is answered
pub answer-keeps : (P : Line → Type 0) (read : Result Line Fault) → IfOk read P → IfOk (answer_of read) P
answer-keeps P (Ok said) h = h
answer-keeps P (Err fault) h = tt
