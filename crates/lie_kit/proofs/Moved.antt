-- What a copy to the front of a buffer leaves.
use Rattle.std.proofs.Common.{◌≡◌, ℕ, ◌+◌, ◌-◌, ◌≤◌, List, ◌++◌, length, take, drop, ap, sym, ◌∙◌, subst, arith}
use Rattle.std.proofs.lemmas.List.{take-append-drop, length-take-le, drop-drop}
use Rattle.std.proofs.Math.Seq.{take-append_seam}

-- n bytes at the front of a buffer, and the bytes behind them in the store, are what was to come
pub moved : (n at : ℕ) (store piece into : List ℕ) → piece ≡ take (at + n - at) (drop at store) → n ≤ length (drop at store) → take n (piece ++ drop n into) ++ drop (at + n) store ≡ drop at store
moved n at store piece into copied fits =
    let span : at + n - at ≡ n = omega arith in
    let is : piece ≡ take n (drop at store) = copied ∙ ap (λ k. take k (drop at store)) span in
    let len : length piece ≡ n = rw is (length-take-le n (drop at store) fits) in
    let front : take n (piece ++ drop n into) ≡ piece =
    subst (λ k. take k (piece ++ drop n into) ≡ piece) len (take-append_seam piece (drop n into)) in
    ap (λ xs. xs ++ drop (at + n) store) (front ∙ is) ∙ ap (λ xs. take n (drop at store) ++ xs) (sym (drop-drop n at store)) ∙ take-append-drop n (drop at store)
