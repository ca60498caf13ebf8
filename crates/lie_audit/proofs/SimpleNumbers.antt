-- The numbers of the simple roots.
use Rattle.std.proofs.Common.{◌≡◌, ℕ, ◌-◌, ◌+◌, ◌<◌, pos, negsuc, length, ap, ◌∙◌, arith, is_some, cond}
use Rattle.std.proofs.lemmas.Bool.{lt-ltb}
use Rattle.lie_datum.specs.RootDatum.{IsSimpleIndex}
use Rattle.lie_datum.specs.RootList.{RootDatum, IsNumber}
use Rattle.lie_datum.specs.Laws.{SimplesFirst}
use Rattle.lie_datum.specs.Numbers.{number_at}
use Rattle.lie_datum.proofs.NumberLemmas.{place_within}

module _ (d : RootDatum) (law : SimplesFirst d) where
  pub simple_number : (i : ℕ) → IsSimpleIndex d.base i → IsNumber d (pos i)
  simple_number i h = ap is_some (law i h)

  pub simple_at : (i : ℕ) → IsSimpleIndex d.base i → number_at (length d.positive) (i - 1) ≡ pos i
  simple_at i h =
      let q = (place_within d (pos i) (simple_number i h)).1 in
      let a = h.0 in
      let low : i - 1 < length d.positive = omega (arith, q, a) in
      let one : i - 1 + 1 ≡ i = omega (arith, a) in
      ap (λ t. cond t (pos (i - 1 + 1)) (negsuc (i - 1 - length d.positive))) (lt-ltb (i - 1) (length d.positive) low) ∙ ap pos one
