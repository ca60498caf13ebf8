use Rattle.std.proofs.Common.{◌≡◌, ◌≤◌, ◌*◌, unsigned_abs}
use Rattle.lie_identities.proofs.CoverSums.{partial}
use Rattle.lie_identities.proofs.cover_lines.combination_entry.Given as goal

abbrev pub invariant-loop-a : goal.invariant-loop-a
invariant-loop-a l = (l.sum ≡ partial l.space l.c l.k l.a) × (unsigned_abs l.sum ≤ 1000000000000 * l.a)
