use Rattle.std.proofs.Common.{arith}
use Rattle.lie_weyl.proofs.Words.{is_word, are_letters}
use Rattle.lie_weyl.proofs.LengthLemmas.{reduced, length_same, length_le}
use Rattle.lie_weyl.proofs.laws.shortest_words.Goals as goal

pub returns : goal.returns
returns c = λ d loaded w l.
    let q = reduced d loaded w (is_word d.base w l) in (
      record { word = q.short_word; letters = are_letters d.base q.short_word q.word; same = q.same; count = q.size },
      (λ v m e. (let a = length_same d loaded w v e in let b = length_le d loaded v (is_word d.base v m) in omega (arith, a, b))),
    )
