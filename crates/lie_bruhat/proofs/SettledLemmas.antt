-- Forms made of other forms: letters taken from the second list to the front, another second list, and a torus letter behind a form.
use Rattle.std.proofs.Common.{◌≡◌, ℕ, ℤ, List, [], ◌∷◌, ◌++◌, map, length, get_or, sym, ap, subst, ◌∙◌, append_assoc, Result, Ok, Err, IfOk}
use Rattle.std.specs.Prelude.{nat_lt}
use Rattle.lie_field.specs.FiniteField.{FiniteField}
use Rattle.lie_field.specs.FieldRing.{field_ring}
use Rattle.lie_weyl.specs.WeylElement.{SameProduct, Spells, IsElement}
use Rattle.lie_weyl.proofs.Linearity.{spelled_same}
use Rattle.lie_letters.specs.declared.letter.Letter.{Letter}
use Rattle.lie_letters.specs.declared.letter.Letter.TheVariants.{H, N}
use Rattle.lie_letters.specs.Entries.{AreUnits}
use Rattle.lie_letters.specs.Frames.{FrameData, dim}
use Rattle.lie_letters.specs.GroupSpelled.{JoinedInGroup}
use Rattle.lie_letters.specs.PositiveTerms.{positive_terms}
use Rattle.lie_letters.specs.RingLetters.{full_word}
use Rattle.lie_letters.specs.SignedFrames.{SignedFrame, unsigned, IsLawfulSigned}
use Rattle.lie_letters.specs.Spelled.{JoinedSpelled, root_letters}
use Rattle.lie_letters.proofs.CallerLemmas.{JoinedInGroup-trans, JoinedInGroup-flip, JoinedInGroup-over, JoinedInGroup-plain, IsWordOver-append}
use Rattle.lie_unip.specs.Collection.{AreEntries, IsCollected}
use Rattle.lie_unip.specs.Forms.{FormData, IsForm, IsFormOf, IsShortest, StandsFor, form_word}
use Rattle.lie_unip.specs.PositiveLetters.{ArePositiveLetters, by_place}
use Rattle.lie_unip.specs.Splitting.{IsSplit, kept_at, kept_by}
use Rattle.lie_unip.proofs.PositiveLetterLemmas.{lawful_letters}
use Rattle.lie_bruhat.specs.Products.{IsTimes}
use Rattle.lie_bruhat.proofs.ListLemmas.{letters, letters_over, letters_behind, parts_joined, second_where}
use Rattle.lie_bruhat.proofs.PassLemmas.{IsWordOver-both, first_over, joined_behind, joined_before, taken_to_front}
use Rattle.lie_bruhat.proofs.RulesHold.{shortest_words_joined}

-- kept and v are the two parts of y, along each word of w
abbrev pub IsCut : SignedFrame → List ℤ → List ℕ → List ℕ → List ℕ → Type 0
IsCut f w y kept v = (p : List ℕ) → Spells f.datum p w → IsSplit (field_ring f.field) (positive_terms f.constants) (length f.datum.positive) (kept_at (kept_by f.datum p)) y kept v

module _ (f : SignedFrame) (lawful : IsLawfulSigned f) where
  -- the words of a form along two shortest words of its Weyl element
  along_joined : (x : FormData) (p q : List ℕ) → IsForm f x → IsShortest f.datum x.weyl p → IsShortest f.datum x.weyl q → JoinedInGroup f (form_word x p) (form_word x q)
  along_joined x p q h a b =
      let same : SameProduct f.datum p q = spelled_same f.datum lawful.lawful.loaded p q x.weyl a.0 b.0 in
      let n = shortest_words_joined f lawful p q a.0.letters b.0.letters same a.1 b.1 in
      let v = letters x.second in
      joined_behind f (letters x.first) (H x.torus ∷ (map N p ++ v)) (H x.torus ∷ (map N q ++ v)) (letters_over f lawful x.first h.first)
      (joined_behind f (H x.torus ∷ []) (map N p ++ v) (map N q ++ v) ((h.long, h.units), tt)
      (joined_before f v (map N p) (map N q) (letters_over f lawful x.second h.second) n))

  -- one shortest word is enough
  pub form_of_one : (x : FormData) (p : List ℕ) (z : List Letter) → IsForm f x → IsShortest f.datum x.weyl p → JoinedInGroup f (form_word x p) z → IsFormOf f x z
  form_of_one x p z h s j = record { form = h; joined = λ q t. JoinedInGroup-trans f (form_word x q) (form_word x p) z (along_joined x q p h t s) j }

  -- parts of the frame, the second one cut off, are a form
  pub cut_form : (u h kept v y : List ℕ) (w : List ℤ) → AreEntries (field_ring f.field) (length f.datum.positive) u → AreUnits f.field h → dim (unsigned f) ≡ length h
      → IsElement f.datum w → AreEntries (field_ring f.field) (length f.datum.positive) v → IsCut f w y kept v → IsForm f (record { first = u; torus = h; weyl = w; second = v })
  cut_form u h kept v y w first units long element second cut = record {
    first = first;
    units = units;
    long = long;
    element = element;
    second = second;
    zeros = λ p s. second_where f lawful (kept_by f.datum p) y kept v (cut p s);
  }

  -- letters of the second list at roots that w keeps positive are taken to the front
  pub settled_form : (u u' h kept v y : List ℕ) (w : List ℤ) (p : List ℕ) (front : List (ℤ × ℕ)) (z : List Letter)
      → IsForm f (record { first = u'; torus = h; weyl = w; second = v }) → AreEntries (field_ring f.field) (length f.datum.positive) u
      → AreEntries (field_ring f.field) (length f.datum.positive) kept → AreEntries (field_ring f.field) (length f.datum.positive) y → IsShortest f.datum w p
      → IsSplit (field_ring f.field) (positive_terms f.constants) (length f.datum.positive) (kept_at (kept_by f.datum p)) y kept v → ArePositiveLetters (field_ring f.field) f.datum front
      → JoinedInGroup f (H h ∷ (map N p ++ letters kept)) (root_letters (by_place front) ++ H h ∷ map N p)
      → IsCollected (field_ring f.field) (positive_terms f.constants) nat_lt (length f.datum.positive) (full_word u ++ by_place front) u'
      → StandsFor f (record { first = u; torus = h; weyl = w; second = y }) z → IsFormOf f (record { first = u'; torus = h; weyl = w; second = v }) z
  settled_form u u' h kept v y w p front z form a b c shortest split positive passes collected stands =
      let x : FormData = record { first = u'; torus = h; weyl = w; second = v } in
      let old : FormData = record { first = u; torus = h; weyl = w; second = y } in
      let L = letters in
      form_of_one x p z form shortest
      (JoinedInGroup-trans f (form_word x p) (form_word old p) z
      (taken_to_front f (L u) (L u') (root_letters (by_place front)) (H h ∷ map N p) (L kept) (L v) (L y)
      (letters_behind f lawful u u' (by_place front) a (lawful_letters (field_ring f.field) f.datum front positive) collected) passes
      (parts_joined f lawful (kept_at (kept_by f.datum p)) y kept v c b form.second split))
      (stands p shortest))

  -- a form with letters behind its second list
  pub second_stands : (x : FormData) (y : List ℕ) (z w : List Letter) → JoinedInGroup f (letters x.second ++ z) (letters y) → IsFormOf f x w
      → StandsFor f (record { first = x.first; torus = x.torus; weyl = x.weyl; second = y }) (w ++ z)
  second_stands x y z w behind known p shortest =
      let L = letters in
      let u = L x.first in
      let middle = H x.torus ∷ map N p in
      let joined = known.joined p shortest in
      let over = IsWordOver-append (unsigned f) u (middle ++ L x.second) (first_over f (form_word x p) w joined) in
      let inner = IsWordOver-append (unsigned f) middle (L x.second) over.1 in
      let tail = IsWordOver-append (unsigned f) (L x.second) z (first_over f (L x.second ++ z) (L y) behind) in
      JoinedInGroup-trans f (u ++ (middle ++ L y)) (u ++ (middle ++ (L x.second ++ z))) (w ++ z)
      (joined_behind f u (middle ++ L y) (middle ++ (L x.second ++ z)) over.0
      (joined_behind f middle (L y) (L x.second ++ z) inner.0 (JoinedInGroup-flip f (L x.second ++ z) (L y) behind)))
      (subst (λ s. JoinedInGroup f s (w ++ z)) (append_assoc u (middle ++ L x.second) z ∙ ap (λ s. u ++ s) (append_assoc middle (L x.second) z))
      (joined_before f z (form_word x p) w tail.1 joined))

  -- what stands for each such form is the product
  pub settled_times : {E : Type 0} (x : FormData) (y : List ℕ) (z : List Letter) (r : Result FormData E) → JoinedInGroup f (letters x.second ++ z) (letters y) → IfOk r (IsForm f)
      → IfOk r (λ n. (w : List Letter) → StandsFor f (record { first = x.first; torus = x.torus; weyl = x.weyl; second = y }) w → IsFormOf f n w) → IfOk r (IsTimes f x z)
  settled_times x y z (Ok n) behind form joined = record { form = form; times = λ w known. joined (w ++ z) (second_stands x y z w behind known) }
  settled_times x y z (Err e) behind form joined = tt

  -- the parts of a form, as they were read
  pub settled_parts : {E : Type 0} (x : FormData) (y u t : List ℕ) (w : List ℤ) (r : Result FormData E) → u ≡ x.first → t ≡ x.torus → w ≡ x.weyl
      → IfOk r (λ n. (z : List Letter) → StandsFor f (record { first = u; torus = t; weyl = w; second = y }) z → IsFormOf f n z)
      → IfOk r (λ n. (z : List Letter) → StandsFor f (record { first = x.first; torus = x.torus; weyl = x.weyl; second = y }) z → IsFormOf f n z)
  settled_parts x y u t w r a b c h =
      subst (λ i. IfOk r (λ n. (z : List Letter) → StandsFor f (record { first = i; torus = x.torus; weyl = x.weyl; second = y }) z → IsFormOf f n z)) a
      (subst (λ i. IfOk r (λ n. (z : List Letter) → StandsFor f (record { first = u; torus = i; weyl = x.weyl; second = y }) z → IsFormOf f n z)) b
      (subst (λ i. IfOk r (λ n. (z : List Letter) → StandsFor f (record { first = u; torus = t; weyl = i; second = y }) z → IsFormOf f n z)) c h))

  -- the letters of two torus vectors and that of their product
  pub torus_product : (F : FiniteField) (s s' t h : List ℕ) → F ≡ f.field → s ≡ s' → dim (unsigned f) ≡ length s'
      → ((g : FrameData) → g.field ≡ F → dim g ≡ length s → JoinedSpelled g (H s ∷ H t ∷ []) (H h ∷ [])) → JoinedInGroup f (H s' ∷ H t ∷ []) (H h ∷ [])
  torus_product F s s' t h field same long joined =
      subst (λ i. JoinedInGroup f (H i ∷ H t ∷ []) (H h ∷ [])) same
      (JoinedInGroup-plain f (H s ∷ H t ∷ []) (H h ∷ []) (joined (unsigned f) (sym field) (long ∙ ap length (sym same))))

  -- with another torus vector, and elements that are 0 where they were, it is still a form
  pub torus_form : (x : FormData) (t h v : List ℕ) → IsForm f x → JoinedInGroup f (H x.torus ∷ H t ∷ []) (H h ∷ []) → AreEntries (field_ring f.field) (length f.datum.positive) v
      → ((k : ℕ) → get_or x.second k 0 ≡ 0 → get_or v k 0 ≡ 0) → IsForm f (record { first = x.first; torus = h; weyl = x.weyl; second = v })
  torus_form x t h v form product entries keeps =
      let over = (JoinedInGroup-over f (H x.torus ∷ H t ∷ []) (H h ∷ []) product).0 in
      record { first = form.first; units = over.1; long = over.0; element = form.element; second = entries; zeros = λ w s k e. keeps k (form.zeros w s k e) }

  -- a torus letter behind a form
  pub torus_times : (x : FormData) (t t' h v : List ℕ) (p : List ℕ) → IsForm f (record { first = x.first; torus = h; weyl = x.weyl; second = v }) → IsShortest f.datum x.weyl p
      → JoinedInGroup f (map N p ++ H t ∷ []) (H t' ∷ map N p) → JoinedInGroup f (H x.torus ∷ H t' ∷ []) (H h ∷ [])
      → JoinedInGroup f (letters x.second ++ H t ∷ []) (H t ∷ letters v)
      → IsTimes f x (H t ∷ []) (record { first = x.first; torus = h; weyl = x.weyl; second = v })
  torus_times x t t' h v p form shortest passes product behind =
      let y : FormData = record { first = x.first; torus = h; weyl = x.weyl; second = v } in
      let L = letters in
      let u = L x.first in
      let old = L x.second in
      let n = map N p in
      record {
        form = form;
        times = λ w known.
            (let joined = known.joined p shortest in
            let over = IsWordOver-append (unsigned f) u (H x.torus ∷ (n ++ old)) (first_over f (form_word x p) w joined) in
            let words = IsWordOver-append (unsigned f) n (H t ∷ []) (first_over f (n ++ H t ∷ []) (H t' ∷ n) passes) in
            let new = letters_over f lawful v form.second in
            let three : JoinedInGroup f (H t' ∷ (n ++ L v)) (n ++ (old ++ H t ∷ [])) =
            JoinedInGroup-trans f (H t' ∷ (n ++ L v)) (n ++ (H t ∷ L v)) (n ++ (old ++ H t ∷ []))
            (subst (λ s. JoinedInGroup f (H t' ∷ (n ++ L v)) s) (append_assoc n (H t ∷ []) (L v))
            (joined_before f (L v) (H t' ∷ n) (n ++ H t ∷ []) new (JoinedInGroup-flip f (n ++ H t ∷ []) (H t' ∷ n) passes)))
            (joined_behind f n (H t ∷ L v) (old ++ H t ∷ []) words.0 (JoinedInGroup-flip f (old ++ H t ∷ []) (H t ∷ L v) behind)) in
            let two : JoinedInGroup f (H h ∷ (n ++ L v)) (H x.torus ∷ (n ++ (old ++ H t ∷ []))) =
            JoinedInGroup-trans f (H h ∷ (n ++ L v)) (H x.torus ∷ H t' ∷ (n ++ L v)) (H x.torus ∷ (n ++ (old ++ H t ∷ [])))
            (joined_before f (n ++ L v) (H h ∷ []) (H x.torus ∷ H t' ∷ []) (IsWordOver-both f n (L v) words.0 new) (JoinedInGroup-flip f (H x.torus ∷ H t' ∷ []) (H h ∷ []) product))
            (joined_behind f (H x.torus ∷ []) (H t' ∷ (n ++ L v)) (n ++ (old ++ H t ∷ [])) (over.1.0, tt) three) in
            form_of_one y p (w ++ H t ∷ []) form shortest
            (JoinedInGroup-trans f (form_word y p) (u ++ (H x.torus ∷ (n ++ (old ++ H t ∷ [])))) (w ++ H t ∷ [])
            (joined_behind f u (H h ∷ (n ++ L v)) (H x.torus ∷ (n ++ (old ++ H t ∷ []))) over.0 two)
            (subst (λ s. JoinedInGroup f s (w ++ H t ∷ [])) (append_assoc u (H x.torus ∷ (n ++ old)) (H t ∷ []) ∙ ap (λ s. u ++ (H x.torus ∷ s)) (append_assoc n old (H t ∷ [])))
            (joined_before f (H t ∷ []) (form_word x p) w words.1 joined))));
      }
