use Rattle.std.proofs.Common.{◌≡◌, ◌++◌, take}
use Rattle.std.specs.Prelude.{flat_map}
use Rattle.std.specs.Fmt.{signed_decimal}
use Rattle.lie_reply.specs.Texts.{term_text}
use Rattle.lie_reply.proofs.constant.terms_text.Given as goal

abbrev pub invariant-terms : goal.invariant-terms
invariant-terms l = l.out.items ≡ signed_decimal l.fn.n ++ flat_map term_text (take l.term-index l.terms)
