use Rattle.std.proofs.Common.{sym, ◌∙◌, inr, refl}
use Rattle.lie_datum.proofs.ListingLemmas.{above_is_not, not_itself}
use Rattle.lie_datum.proofs.listing.greater.Goals as goal

pub returns-in-Greater-clause-first : goal.returns-in-Greater-clause-first
returns-in-Greater-clause-first c = not_itself c.args.v

pub returns-in-Greater-clause-second : goal.returns-in-Greater-clause-second
returns-in-Greater-clause-second c = above_is_not c.args.v c.args.w.now (sym c.cmp.ensures ∙ c.in-Greater.is)

pub returns-in_default : goal.returns-in_default
returns-in_default c = record { one = inr refl; first = λ e. c.in_default.not-Greater (c.cmp.ensures ∙ e); second = not_itself c.args.w.now }
