-- How the program ends: its exit status, and what it says on standard error.
-- Own.
use Rattle.std.specs.Prelude.{ℕ, List, [], codes}
use Rattle.lie_session.specs.declared.status.Status.{Status}
use Rattle.lie_session.specs.declared.status.Status.TheVariants.{Done, Refused, Usage, LoadRefused, ReadFault, WriteFault, NoMemory, TooLong}

-- the exit status
abbrev pub exit_status : Status → ℕ
exit_status Done = 0
exit_status Refused = 1
exit_status Usage = 2
exit_status LoadRefused = 3
exit_status ReadFault = 4
exit_status WriteFault = 5
exit_status NoMemory = 6
exit_status TooLong = 7

-- what is said of a failure; the other statuses are told by the replies
abbrev pub complaint : Status → List ℕ
complaint Done = []
complaint Refused = []
complaint LoadRefused = []
complaint Usage = codes "usage: lie run | lie check | lie demo <n>\n"
complaint ReadFault = codes "lie: read fault\n"
complaint WriteFault = codes "lie: write fault\n"
complaint NoMemory = codes "lie: no memory\n"
complaint TooLong = codes "lie: input too long\n"
