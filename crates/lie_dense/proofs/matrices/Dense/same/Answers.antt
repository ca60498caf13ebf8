use Rattle.std.proofs.Common.{◌≡◌, ◌∙◌, ◌*◌, refl, sym, ap, ap₂, true, false, Bool, MatchBool}
use Rattle.std.specs.Cmp.Lexicographic.{same_text, told_text}
use Rattle.lie_dense.specs.Flat.{square_of}
use Rattle.lie_dense.proofs.FlatLemmas.{square-injective}
use Rattle.lie_dense.proofs.matrices.Dense.same.Goals as goal

-- a test that told of P tells true where P holds
told : (r : Bool) (P : Type 0) → MatchBool r P (P → ⊥) → P → r ≡ true
told true P m p = refl
told false P m p = absurd (m p)

pub returns : goal.returns
returns c =
    let m = c.self.inside.dim in
    let n = c.b.inside.dim in
    let xs = c.self.inside.entries.items in
    let ys = c.b.inside.entries.items in
    let same_dim : m ≡ n = ap (λ M. M.height) c.self.view_is ∙ c.requires.shape ∙ sym (ap (λ M. M.height) c.b.view_is) in (
      λ yes. sym c.self.view_is ∙ ap₂ square_of same_dim (same_text xs ys (sym yes ∙ c.eq.ensures)) ∙ c.b.view_is,
      λ same. told c.eq.result (xs ≡ ys) (told_text xs ys c.eq.result c.eq.ensures)
          (square-injective m xs ys c.self.invariant.0 (c.b.invariant.0 ∙ ap (λ k. k * k) (sym same_dim))
          (c.self.view_is ∙ same ∙ sym c.b.view_is ∙ ap (λ k. square_of k ys) (sym same_dim))),
    )
