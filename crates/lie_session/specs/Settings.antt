-- A field and a datum, alone or in the frame that was made of them.
-- For proofs: no public clause cites it.
-- Own.
use Rattle.std.specs.Prelude.{⊤}
use Rattle.lie_group.specs.Loading.{IsFrameOf}
use Rattle.lie_session.specs.Held.{Setting}
use Rattle.lie_session.specs.declared.group.Made.{Made}
use Rattle.lie_session.specs.declared.group.Made.TheVariants as made

-- the field and the datum
abbrev pub setting_of : Made → Setting
setting_of (made.Apart F D) = record { field = F; datum = D }
setting_of (made.Framed g) = record { field = g.field; datum = g.datum }

-- a frame that was made is one
abbrev pub IsMade : Made → Type 0
IsMade (made.Apart F D) = ⊤
IsMade (made.Framed g) = IsFrameOf g.field g.datum g
