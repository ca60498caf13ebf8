-- Weyl elements: products of simple reflections, kept by the images of the simple roots.
-- Source: Humphreys, Reflection Groups and Coxeter Groups, 1.6 and 1.7 (the length function, the exchange condition).
-- Own: the images of the simple roots as the element, and the lexicographically least of the shortest words as its word.
--
--   s_i              reflected b i        on a root and its coroot; simple indices count from 1
--   s_1 s_2 on r     moved b (1 ∷ 2 ∷ []) r   the last letter acts first
--   a_i              simple i             the i-th image stands at place i - 1 of the list
use Rattle.std.specs.Prelude.{◌≡◌, ◌≢◌, ◌≤◌, ◌-◌, ℕ, ℤ, pos, List, [], ◌∷◌, length, slice_index_or, Bool}
use Rattle.std.specs.Int.RustNames.{int_lt}
use Rattle.std.specs.List.{All, list_any, count_by}
use Rattle.std.specs.Ordering.{nat_cmp}
use Rattle.std.specs.Cmp.Lexicographic.{slice_cmp}
use Rattle.std.specs.declared.cmp.Ordering.TheVariants.{Greater}
use Rattle.lie_datum.specs.declared.root_pair.Root.{Root}
use Rattle.lie_datum.specs.RootDatum.{Base, rank, simple, reflected, IsSimpleIndex, IsRoot}
use Rattle.lie_datum.specs.RootList.{RootDatum, root_of, IsNumber}

-- the image of a root under s_(i_1) .. s_(i_n)
abbrev pub moved : Base → List ℕ → Root → Root
moved b [] r = r
moved b (i ∷ w) r = reflected b i (moved b w r)

-- each letter is a simple index
abbrev pub AreLetters : Base → List ℕ → Type 0
AreLetters b w = All (IsSimpleIndex b) w

-- two words have one product
abbrev pub SameProduct : RootDatum → List ℕ → List ℕ → Type 0
SameProduct d w v = (r : Root) → IsRoot d.base r → moved d.base w r ≡ moved d.base v r

-- w is a word of the element that sends the simple roots to these images
pub record Spells (d : RootDatum) (w : List ℕ) (images : List ℤ) : Type 0 where
  pub letters : AreLetters d.base w
  pub count : length images ≡ rank d.base
  pub numbers : All (IsNumber d) images
  pub images_are : (i : ℕ) → IsSimpleIndex d.base i → root_of d (slice_index_or images (i - 1) (pos 0)) ≡ moved d.base w (simple i)

-- some product of simple reflections has these images
abbrev pub IsElement : RootDatum → List ℤ → Type 0
IsElement d images = (w : List ℕ) × Spells d w images

-- some coefficient is below 0
abbrev pub is_negative : Root → Bool
is_negative r = list_any (λ c. int_lt c (pos 0)) r.coeffs

-- the number of positive roots that the word makes negative
abbrev pub word_length : RootDatum → List ℕ → ℕ
word_length d w = count_by (λ r. is_negative (moved d.base w r)) d.positive

-- n is the number of positive roots that the element makes negative, and the least number of letters of its words
pub record IsLength (d : RootDatum) (images : List ℤ) (n : ℕ) : Type 0 where
  pub counted : (w : List ℕ) → Spells d w images → n ≡ word_length d w
  pub reached : (w : List ℕ) × Spells d w images × (length w ≡ n)
  pub least : (w : List ℕ) → Spells d w images → n ≤ length w

-- w is the lexicographically least of the shortest words of the element
pub record IsLeastWord (d : RootDatum) (w : List ℕ) (images : List ℤ) : Type 0 where
  pub spells : Spells d w images
  pub shortest : length w ≡ word_length d w
  pub least : (v : List ℕ) → Spells d v images → length v ≡ length w → slice_cmp nat_cmp w v ≢ Greater
