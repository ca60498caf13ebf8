-- What a reply of each kind changes in a session.
-- Own.
use Rattle.std.specs.Prelude.{◌≡◌, true, false}
use Rattle.lie_session.specs.State.{State, is_loaded, dropped}
use Rattle.lie_session.specs.Replies.{next_count, over}
use Rattle.lie_session.specs.declared.reply.Kind.{Kind}
use Rattle.lie_session.specs.declared.reply.Kind.TheVariants as kind

-- After `load` a refused line drops the block that was being read and is counted, and nothing else changes; before it, it ends the session, which then holds nothing more.
-- No other reply ends the session or is counted.
abbrev pub Changes : State → Kind → State → Type 0
Changes s kind.Silent next = (next.ended ≡ s.ended) × (next.refusals ≡ s.refusals)
Changes s kind.Answer next = (next.ended ≡ s.ended) × (next.refusals ≡ s.refusals)
Changes s kind.Refused next = (is_loaded s.stage ≡ true) × (next ≡ record s { stage = dropped s.stage; refusals = next_count s.refusals })
Changes s kind.Fatal next = (is_loaded s.stage ≡ false) × (next ≡ over s)
