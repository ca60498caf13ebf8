-- What collecting asks of the roots and of the terms of positive roots.
-- Own: the order is that of the roots, in which heights rise, so terms stand after both roots.
use Rattle.std.specs.Prelude.{◌≡◌, false, List, ◌⊎◌}
use Rattle.std.specs.List.{AllByRecursion}
use Rattle.lie_letters.specs.Setting.{Setting, Term}

-- each term is at a positive root that stands after r and after s
abbrev pub AreLater : (S : Setting) → S.Root → S.Root → List (Term S.Root S.Elem) → Type 0
AreLater S r s cs = AllByRecursion (λ c. (S.is_negative c.root ≡ false) × S.Before r c.root × S.Before s c.root) cs

-- positive roots are not opposite, the order is strict and total, and terms of positive roots stand after both
pub record CollectLaws (S : Setting) : Type 0 where
  pub apart : (r s : S.Root) → S.is_negative r ≡ false → S.is_negative s ≡ false → ¬ (s ≡ S.opposite r)
  pub one_way : (r s : S.Root) → S.Before r s → ¬ S.Before s r
  pub ordered : (r s : S.Root) → ¬ (r ≡ s) → S.Before r s ⊎ S.Before s r
  pub later : (r s : S.Root) → S.is_negative r ≡ false → S.is_negative s ≡ false → ¬ (r ≡ s) → AreLater S r s (S.terms r s)
