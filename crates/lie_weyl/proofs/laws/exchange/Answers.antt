use Rattle.lie_datum.specs.RootDatum.{simple, is_simple}
use Rattle.lie_datum.proofs.LoadedLaws.{not_both}
use Rattle.lie_weyl.specs.WeylElement.{moved}
use Rattle.lie_weyl.proofs.Words.{is_word, IsRoot-moved}
use Rattle.lie_weyl.proofs.ExchangeLemmas.{exchange, exchanged_same}
use Rattle.lie_weyl.proofs.laws.exchange.Goals as goal

pub returns : goal.returns
returns c = λ d loaded w i l s n.
    let h = is_word d.base w l in
    let e = exchange d loaded w i h s (λ p. not_both d loaded (moved d.base w (simple i)) (IsRoot-moved d loaded w (simple i) h (is_simple i s)) n p) in
    record { before = e.before; lost = e.left_out; after = e.after; split = e.split; same = exchanged_same d loaded w i s e }
