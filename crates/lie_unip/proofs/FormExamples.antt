-- Bruhat forms at work: A_1 over the field of two, where w = s_1 makes the one positive root negative, and w = 1 keeps it.
use Rattle.std.proofs.Common.{◌≡◌, ◌-◌, ℕ, zero, suc, ℤ, pos, negsuc, Bool, false, not, [], ◌∷◌, refl, sym, ap, arith}
use Rattle.std.specs.Prelude.{slice_index_or}
use Rattle.std.proofs.lemmas.List.Elements.{All-cons, All-nil}
use Rattle.lie_ring.specs.Rings.{Fits}
use Rattle.lie_field.specs.FieldRing.{field_ring}
use Rattle.lie_field.specs.Quotient.{degree, order}
use Rattle.lie_datum.specs.RootDatum.{IsSimpleIndex, simple}
use Rattle.lie_datum.specs.RootList.{IsNumber, root_of}
use Rattle.lie_weyl.specs.WeylElement.{Spells, moved, is_negative}
use Rattle.lie_letters.specs.SignedFrames.{SignedFrame}
use Rattle.lie_letters.specs.declared.letter.Letter.TheVariants.{X, H, N}
use Rattle.lie_letters.proofs.FrameExamples.{two, a1, a1_table}
use Rattle.lie_unip.specs.Collection.{AreEntries}
use Rattle.lie_unip.specs.Forms.{FormData, IsForm, ZeroWhere, form_word}

abbrev a1_frame : SignedFrame
a1_frame = record { field = two; datum = a1; constants = a1_table; signs = record { rank = 1; positive = 1; signs = negsuc 0 ∷ (negsuc 0 ∷ []) } }

-- the four parts, with one element on each side of the torus vector 1 and the Weyl element
abbrev parts : ℕ → ℤ → ℕ → FormData
parts a image b = record { first = a ∷ []; torus = 1 ∷ []; weyl = image ∷ []; second = b ∷ [] }

-- the word of x_1(1) n_1 x_1(1); elements that are 0 give no letter
a1_word : form_word (parts 1 (negsuc 0) 1) (1 ∷ []) ≡ X (pos 1) 1 ∷ (H (1 ∷ []) ∷ (N 1 ∷ (X (pos 1) 1 ∷ [])))
a1_word = refl

a1_word_of_one : form_word (parts 0 (pos 1) 0) [] ≡ H (1 ∷ []) ∷ []
a1_word_of_one = refl

-- 1 is an element of the field of two
one_entry : AreEntries (field_ring two) 1 (1 ∷ [])
unfolding two order degree
one_entry = record { count = refl; fit = All-cons (Fits (field_ring two)) 1 [] (refl, omega arith) (All-nil (Fits (field_ring two))) }

-- s_1 sends a_1 to its opposite
a1_reflection : Spells a1 (1 ∷ []) (negsuc 0 ∷ [])
a1_reflection = record {
  letters = All-cons (IsSimpleIndex a1.base) 1 [] (omega arith, omega arith) (All-nil (IsSimpleIndex a1.base));
  count = refl;
  numbers = All-cons (IsNumber a1) (negsuc 0) [] refl (All-nil (IsNumber a1));
  images_are = image;
} where
  image : (i : ℕ) → IsSimpleIndex a1.base i → root_of a1 (slice_index_or (negsuc 0 ∷ []) (i - 1) (pos 0)) ≡ moved a1.base (1 ∷ []) (simple i)
  image zero h = absurd (omega (arith, h.0))
  image (suc zero) h = refl
  image (suc (suc i)) h = absurd (omega (arith, h.1))

a1_identity : Spells a1 [] (pos 1 ∷ [])
a1_identity = record {
  letters = All-nil (IsSimpleIndex a1.base);
  count = refl;
  numbers = All-cons (IsNumber a1) (pos 1) [] refl (All-nil (IsNumber a1));
  images_are = image;
} where
  image : (i : ℕ) → IsSimpleIndex a1.base i → root_of a1 (slice_index_or (pos 1 ∷ []) (i - 1) (pos 0)) ≡ moved a1.base [] (simple i)
  image zero h = absurd (omega (arith, h.0))
  image (suc zero) h = refl
  image (suc (suc i)) h = absurd (omega (arith, h.1))

-- a list of one element may have any element where its root is not kept
not_kept : (kept : Bool) → kept ≡ false → ZeroWhere (kept ∷ []) (1 ∷ [])
not_kept kept e zero h = absurd (cc)
not_kept kept e (suc k) h = refl

-- x_1(1) n_1 x_1(1) is a form
a1_form : IsForm a1_frame (parts 1 (negsuc 0) 1)
unfolding two order degree
a1_form = record {
  first = one_entry;
  units = ((omega arith, omega arith), tt);
  long = refl;
  element = (1 ∷ [], a1_reflection);
  second = one_entry;
  zeros = λ w s. not_kept _ (ap (λ r. not (is_negative r)) (sym (s.images_are 1 (omega arith, omega arith))));
}

-- x_1(1) behind the Weyl element 1 is none: it belongs in front
a1_no_form : ¬ IsForm a1_frame (parts 1 (pos 1) 1)
a1_no_form h = let e : ◌≡◌ {A = ℕ} 1 0 = h.zeros [] a1_identity 0 refl in omega (arith, e)
