-- The lines of the positive roots, one after the other.
use Rattle.std.proofs.Common.{◌≡◌, ℕ, suc, ◌+◌, ◌<◌, List, [], ◌++◌, length, drop, ap, sym, ◌∙◌, arith, pos, append-nil, append_assoc}
use Rattle.std.proofs.lemmas.List.{drop_more, drop_all}
use Rattle.std.proofs.lemmas.Option.{unwrap_or-slice_get}
use Rattle.lie_datum.specs.declared.root_pair.Root.{Root}
use Rattle.lie_datum.specs.RootList.{RootDatum, root_of}
use Rattle.lie_reply.specs.Texts.{root_text, root_texts}

-- the next line is that of the next root
root_next : (D : RootDatum) (i : ℕ) → i < length D.positive
    → root_texts D.base (i + 1) (drop i D.positive) ≡ root_text D.base (i + 1) (root_of D (pos (i + 1))) ++ root_texts D.base (i + 1 + 1) (drop (i + 1) D.positive)
root_next D i lt =
    let none : Root = record { coeffs = []; co_coeffs = [] } in
    let next : suc i ≡ i + 1 = omega arith in
    ap (root_texts D.base (i + 1)) (drop_more D.positive i none lt)
    ∙ ap (λ (r : Root). root_text D.base (i + 1) r ++ root_texts D.base (i + 1 + 1) (drop (i + 1) D.positive)) (sym (unwrap_or-slice_get D.positive i none))
    ∙ ap (λ (k : ℕ). root_text D.base (i + 1) (root_of D (pos k)) ++ root_texts D.base (i + 1 + 1) (drop (i + 1) D.positive)) next

-- one line more is written
pub root_written : (D : RootDatum) (i : ℕ) (out new whole : List ℕ) → i < length D.positive → out ++ root_texts D.base (i + 1) (drop i D.positive) ≡ whole
    → new ≡ out ++ root_text D.base (i + 1) (root_of D (pos (i + 1))) → new ++ root_texts D.base (i + 1 + 1) (drop (i + 1) D.positive) ≡ whole
root_written D i out new whole lt so_far is =
    let rest = root_texts D.base (i + 1 + 1) (drop (i + 1) D.positive) in
    ap (λ (z : List ℕ). z ++ rest) is ∙ append_assoc out (root_text D.base (i + 1) (root_of D (pos (i + 1)))) rest ∙ ap (λ (z : List ℕ). out ++ z) (sym (root_next D i lt)) ∙ so_far

-- all lines are written
pub roots_written : (D : RootDatum) (i : ℕ) (out whole : List ℕ) → length D.positive ≡ i → out ++ root_texts D.base (i + 1) (drop i D.positive) ≡ whole → out ≡ whole
roots_written D i out whole all so_far =
    sym (append-nil out) ∙ ap (λ (rs : List Root). out ++ root_texts D.base (i + 1) rs) (sym (drop_all i D.positive (omega (arith, all)))) ∙ so_far
