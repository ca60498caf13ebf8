use Rattle.std.proofs.Common.{◌≡◌, ◌<◌, ◌-◌, ◌∷◌, [], length, map, drop}
use Rattle.lie_datum.specs.RootList.{IsNumber, root_of}
use Rattle.lie_field.specs.Quotient.{order}
use Rattle.lie_letters.specs.declared.letter.Letter.TheVariants.{X, N}
use Rattle.lie_weyl.specs.WeylElement.{moved}
use Rattle.lie_bruhat.proofs.PassLemmas.{Passes}
use Rattle.lie_bruhat.proofs.moving.past_word.Given as goal

abbrev pub invariant-loop-k : goal.invariant-loop-k
invariant-loop-k l =
    let done = drop (length l.word - l.k) l.word in
    IsNumber l.frame.datum l.moved.r × (l.moved.a < order l.frame.field.given)
    × (root_of l.frame.datum l.moved.r ≡ moved l.frame.datum.base done (root_of l.frame.datum l.fn.x.r))
    × Passes l.frame (map N done) (X l.fn.x.r l.fn.x.a ∷ []) (X l.moved.r l.moved.a ∷ [])
