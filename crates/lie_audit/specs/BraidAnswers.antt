-- What the test of the braid values answers.
use Rattle.std.specs.Prelude.{◌≡◌, ℕ, ℤ}
use Rattle.lie_datum.specs.RootList.{RootDatum}
use Rattle.lie_const.specs.Signs.{Signs}
use Rattle.lie_letters.specs.Braids.{HasBraids, IsFirstBadBraid}

-- the answers exclude one another: either all braid values are 1, or one pair alone is the first whose value is not
pub record OneBraidAnswer : Type 0 where
  pub good : (d : RootDatum) (eta : Signs) (i j : ℕ) (c : ℤ) → HasBraids d eta → ¬ IsFirstBadBraid d eta i j c
  pub first : (d : RootDatum) (eta : Signs) (i j k l : ℕ) (c e : ℤ) → IsFirstBadBraid d eta i j c → IsFirstBadBraid d eta k l e → (i ≡ k) × (j ≡ l) × (c ≡ e)
