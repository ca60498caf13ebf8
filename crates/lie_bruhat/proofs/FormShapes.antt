-- A shape is joined to the word of a form, along each shortest word of its Weyl element.
use Rattle.std.proofs.Common.{◌≡◌, ℕ, suc, ◌<◌, ◌≤◌, eqb, Bool, true, false, cond, not, None, Some, pos, List, [], ◌∷◌, ◌++◌, map, length, get_or, refl, sym, ap, ap₂, subst, ◌∙◌, arith, ⊎_elim, append_assoc, ◌⊎◌}
use Rattle.std.proofs.lemmas.Bool.Decides.{nat_tests}
use Rattle.std.proofs.lemmas.Bool.{true≢false}
use Rattle.std.proofs.lemmas.List.{map-append, append-nil, get_or-map, get_or_past}
use Rattle.std.proofs.lemmas.Option.{unwrap_or-slice_get}
use Rattle.lie_datum.specs.declared.root_pair.Root.{Root}
use Rattle.std.proofs.lemmas.List.FromFn.{get_or-map-range_with_len}
use Rattle.std.proofs.Math.Facts.{eqb_yes}
use Rattle.std.specs.Option.{unwrap_or}
use Rattle.std.specs.Map.{lookup}
use Rattle.lie_field.specs.FieldRing.{field_ring}
use Rattle.lie_datum.specs.RootList.{RootDatum, IsLoaded, IsNumber, root_of}
use Rattle.lie_datum.proofs.NumberLemmas.{some_within}
use Rattle.lie_weyl.specs.WeylElement.{moved, is_negative, Spells, SameProduct, word_length}
use Rattle.lie_letters.specs.declared.letter.Letter.TheVariants.{X as CodeX, H as CodeH, N as CodeN}
use Rattle.lie_letters.specs.Names.{RootName, Index, root_at, signed_number, is_negative_name}
use Rattle.lie_letters.specs.Frames.{setting}
use Rattle.lie_letters.specs.Setting.{Setting}
use Rattle.lie_letters.specs.Letters.{Word, H}
use Rattle.lie_letters.specs.SignedFrames.{SignedFrame, unsigned, sign_at, IsLawfulSigned}
use Rattle.lie_letters.specs.GroupRelations.{GroupJoined}
use Rattle.lie_letters.specs.Relations.{Joined}
use Rattle.lie_letters.specs.RingLetters.{RingLetter, IsRingWord}
use Rattle.lie_letters.specs.Spelled.{spelled, numbers, root_letters}
use Rattle.lie_letters.proofs.ChainLemmas.{trans, flip, behind, before}
use Rattle.lie_letters.proofs.NameLemmas.{named_is, name_of_number, same_number, at_root}
use Rattle.lie_letters.proofs.SettingLaws.{frame_laws}
use Rattle.lie_letters.proofs.SpelledLemmas.{words_same}
use Rattle.lie_letters.proofs.TorusLemmas.{length-numbers, AreUnits-numbers}
use Rattle.lie_unip.specs.Collection.{elements}
use Rattle.lie_unip.specs.Splitting.{kept_by}
use Rattle.lie_unip.specs.Forms.{FormData, IsForm, IsShortest, ZeroWhere, form_word}
use Rattle.lie_unip.proofs.DatumLemmas.{number_within}
use Rattle.lie_bruhat.specs.WeylWords.{n_word, carried}
use Rattle.lie_bruhat.proofs.RuleLemmas.{cons}
use Rattle.lie_bruhat.proofs.MoveLemmas.{xs_word, moved_xs, scaled_xs, roots_to_front}
use Rattle.lie_bruhat.proofs.ShapeLemmas.{AllPositive, Shape, BruhatFacts, IsShort, shape, IsShape}
use Rattle.lie_bruhat.proofs.ShapeLemmas.{RootLetters}
use Rattle.lie_bruhat.proofs.SplitLemmas.{AllGive}
use Rattle.lie_bruhat.proofs.FrameSigns.{sign_laws}
use Rattle.lie_bruhat.proofs.FrameSplits.{HaveNumbers, numbered, numbered-spelled, numbered-lawful, xs-append, cut_of, IsCut}
use Rattle.lie_letters.proofs.GroupSpelledLemmas.{grouped}
use Rattle.lie_bruhat.proofs.FrameShapes.{frame_facts}
use Rattle.lie_bruhat.proofs.FormLemmas.{IsListed, listed_some, listed_sorted, elements_have}
use Rattle.lie_bruhat.proofs.WeylNumbers.{images, images_spelled, respelled, indices_of, same_carried, short_word, carried_at}
use Rattle.lie_bruhat.proofs.WeylNumbers.{numbers as index_numbers}

abbrev no_root : Root
no_root = record { coeffs = []; co_coeffs = [] }

module _ (f : SignedFrame) (lawful : IsLawfulSigned f) where
  abbrev d : RootDatum
  d = f.datum

  abbrev loaded : IsLoaded d
  loaded = lawful.lawful.loaded

  abbrev m : ℕ
  m = length d.positive

  abbrev S : Setting
  S = setting (unsigned f)

  abbrev facts : BruhatFacts S (sign_at f)
  facts = frame_facts f lawful

  -- ---- letters with the numbers of a word
  have_spelled : (v : RootLetters S) (w : List (RingLetter ℕ)) → HaveNumbers (unsigned f) lawful.lawful v w → map (spelled (unsigned f)) (xs_word S v) ≡ root_letters w
  have_spelled [] [] h = refl
  have_spelled [] (x ∷ w) h = absurd h
  have_spelled (a ∷ v) [] h = absurd h
  have_spelled (a ∷ v) (x ∷ w) h = ap₂ ◌∷◌ (ap₂ CodeX h.0.0 h.0.1) (have_spelled v w h.1)

  have_lawful : (v : RootLetters S) (w : List (RingLetter ℕ)) → HaveNumbers (unsigned f) lawful.lawful v w → IsRingWord (field_ring f.field) m w
  have_lawful [] [] h = (tt, tt)
  have_lawful [] (x ∷ w) h = absurd h
  have_lawful (a ∷ v) [] h = absurd h
  have_lawful (a ∷ v) (x ∷ w) h =
      let rest = have_lawful v w h.1 in
      let l = number_within d (pos x.0) (subst (IsNumber d) h.0.0 (named_is d a.0).number) in
      let e = elements_have (unsigned f) lawful.lawful (a ∷ v) (x ∷ w) h in
      (e, (l.0, l.1, rest.1))

  -- no letter is at a root that passes
  no_letter : (kept : RootName d → Bool) (r : RootName d) (n : ℕ) (v : RootLetters S) (w : List (RingLetter ℕ)) → signed_number d r ≡ pos n → kept r ≡ true
      → HaveNumbers (unsigned f) lawful.lawful v w → AllGive S kept false v → lookup (eqb n) w ≡ None
  no_letter kept r n [] [] e k h g = refl
  no_letter kept r n [] (x ∷ w) e k h g = absurd h
  no_letter kept r n (a ∷ v) [] e k h g = absurd h
  no_letter kept r n (a ∷ v) (x ∷ w) e k h g = by (eqb n x.0) refl (no_letter kept r n v w e k h.1 g.1)
    where
      by : (b : Bool) → eqb n x.0 ≡ b → lookup (eqb n) w ≡ None → cond b (Some x.1) (lookup (eqb n) w) ≡ None
      by true p rest =
          let equal : n ≡ x.0 = grind (arith, nat_tests) in
          let same = same_number d a.0 r (h.0.0 ∙ ap pos (sym equal) ∙ sym e) in
          absurd (true≢false (sym k ∙ ap kept (sym same) ∙ g.0))
      by false p rest = rest

  -- ---- the two parts of the right list of a shape
  module _ (s : Shape S) (good : IsShape S (sign_at f) (frame_laws (unsigned f) lawful.lawful) (sign_laws f lawful) facts s) where
    -- whether w keeps a root positive
    abbrev kept : RootName d → Bool
    kept r = not (is_negative_name d (carried S s.path r))

    abbrev parts : IsCut (unsigned f) lawful.lawful kept s.right
    parts = cut_of (unsigned f) lawful.lawful kept s.right good.1

    abbrev best : List (Index d)
    best = facts.best s.path

    moved_positive : (v : RootLetters S) → AllGive S kept true v → AllPositive S (scaled_xs S s.torus (moved_xs S (sign_at f) best v))
    moved_positive [] h = tt
    moved_positive (a ∷ v) h = (ap (is_negative_name d) (facts.best_product s.path a.0) ∙ turn (is_negative_name d (carried S s.path a.0)) h.0, moved_positive v h.1)
      where
        turn : (b : Bool) → not b ≡ true → b ≡ false
        turn true e = cc
        turn false e = refl

    -- the left list with what is moved to it
    abbrev front : RootLetters S
    front = s.left ++ scaled_xs S s.torus (moved_xs S (sign_at f) best parts.parts.first)

    positive_both : (u v : RootLetters S) → AllPositive S u → AllPositive S v → AllPositive S (u ++ v)
    positive_both [] v h k = k
    positive_both (a ∷ u) v h k = (h.0, positive_both u v h.1 k)

    abbrev first : (u : List ℕ) × IsListed (unsigned f) lawful.lawful (numbered (unsigned f) lawful.lawful front) u
    first = listed_some (unsigned f) lawful.lawful (numbered (unsigned f) lawful.lawful front) (numbered-lawful (unsigned f) lawful.lawful front)

    abbrev second : List ℕ
    second = elements (field_ring f.field) m parts.parts.numbers

    behind_list : IsListed (unsigned f) lawful.lawful parts.parts.numbers second
    behind_list = listed_sorted (unsigned f) lawful.lawful parts.parts.numbers (have_lawful parts.parts.second parts.parts.numbers parts.parts.have) parts.parts.sorted

    -- the form of the shape
    abbrev pub form_of : FormData
    form_of = record { first = first.0; torus = numbers f.field s.torus.entries; weyl = images (unsigned f) loaded s.path; second = second }

    kept_name : (w : List ℕ) → Spells d w (images (unsigned f) loaded s.path) → (r : RootName d) (k : ℕ) → k < m → signed_number d r ≡ pos (suc k) → get_or (kept_by d w) k false ≡ true → kept r ≡ true
    unfolding is_negative_name
    kept_name w h r k l e t =
        let here = named_is d r in
        let root : get_or d.positive k no_root ≡ root_at d r = sym (unwrap_or-slice_get d.positive k no_root) ∙ ap (root_of d) (sym e) ∙ here.root in
        let at = get_or-map (λ q. not (is_negative (moved d.base w q))) d.positive k no_root false l in
        let alike = respelled (unsigned f) loaded s.path w h (root_at d r) (at_root d loaded r) in
        ap (λ q. not (is_negative q)) (carried_at (unsigned f) loaded s.path r ∙ alike ∙ ap (moved d.base w) (sym root)) ∙ sym at ∙ t

    zero_at : (w : List ℕ) → Spells d w (images (unsigned f) loaded s.path) → ZeroWhere (kept_by d w) second
    zero_at w h k t = ⊎_elim low high (let side : (k < m) ⊎ (m ≤ k) = grind arith in side)
      where
        high : m ≤ k → get_or second k 0 ≡ 0
        high l = get_or_past second k 0 (let c = behind_list.entries.count in omega (arith, c, l))

        low : k < m → get_or second k 0 ≡ 0
        low l =
            let r = name_of_number d (pos (suc k)) (some_within d.positive k l) in
            let yes = kept_name w h r.0 k l r.1 t in
            let value : ℕ → ℕ = λ n. unwrap_or (lookup (eqb n) parts.parts.numbers) 0 in
            get_or-map-range_with_len value 1 m k (suc k) 0 l (omega arith)
            ∙ ap (λ o. unwrap_or o 0) (no_letter kept r.0 (suc k) parts.parts.second parts.parts.numbers r.1 yes parts.parts.have parts.parts.second_kept)

    -- it is a form
    pub is_form : IsForm f form_of
    is_form = record {
      first = first.1.entries;
      units = AreUnits-numbers f.field s.torus.entries;
      long = sym (length-numbers f.field s.torus.entries ∙ eqb_yes s.torus.long);
      element = (index_numbers (unsigned f) loaded s.path, images_spelled (unsigned f) loaded s.path);
      second = behind_list.entries;
      zeros = zero_at;
    }

    n_spelled : (q : List (Index d)) → map (spelled (unsigned f)) (n_word S q) ≡ map CodeN (index_numbers (unsigned f) loaded q)
    n_spelled [] = refl
    n_spelled (i ∷ q) = ap (λ w. CodeN (suc i.number) ∷ w) (n_spelled q)

    -- ---- and its word is joined to the shape
    pub record IsShapeWord (p : List ℕ) : Type 0 where
      pub word : Word S
      pub word_spelled : map (spelled (unsigned f)) word ≡ form_word form_of p
      pub joined : GroupJoined S (sign_at f) word (shape S (sign_at f) (frame_laws (unsigned f) lawful.lawful) (sign_laws f lawful) facts s [])

    pub shape_word : (p : List ℕ) → IsShortest d (images (unsigned f) loaded s.path) p → IsShapeWord p
    shape_word p shortest =
        let q = indices_of (unsigned f) loaded p shortest.0.letters in
        let alike : SameProduct d (index_numbers (unsigned f) loaded s.path) (index_numbers (unsigned f) loaded q.0) =
        subst (SameProduct d (index_numbers (unsigned f) loaded s.path)) (sym q.1) (respelled (unsigned f) loaded s.path p shortest.0) in
        let size : length (index_numbers (unsigned f) loaded q.0) ≡ word_length d (index_numbers (unsigned f) loaded q.0) = subst (λ z. length z ≡ word_length d z) (sym q.1) shortest.1 in
        let A = first.1.joined in
        let B = behind_list.joined in
        let a_left : A.left ≡ xs_word S front =
        words_same (unsigned f) A.left (xs_word S front) (A.left_spelled ∙ sym (numbered-spelled (unsigned f) lawful.lawful front (positive_both s.left _ good.0 (moved_positive parts.parts.first parts.parts.first_kept)))) in
        let b_left : B.left ≡ xs_word S parts.parts.second =
        words_same (unsigned f) B.left (xs_word S parts.parts.second) (B.left_spelled ∙ sym (have_spelled parts.parts.second parts.parts.numbers parts.parts.have)) in
        let left = grouped (sign_at f) (subst (λ z. Joined S z A.right) a_left A.joined) in
        let right = grouped (sign_at f) (subst (λ z. Joined S z B.right) b_left B.joined) in
        record {
          word = A.right ++ (H s.torus ∷ (n_word S q.0 ++ B.right));
          word_spelled =
              map-append (spelled (unsigned f)) A.right (H s.torus ∷ (n_word S q.0 ++ B.right))
              ∙ ap₂ (λ u v. u ++ (CodeH (numbers f.field s.torus.entries) ∷ v)) A.right_spelled
              (map-append (spelled (unsigned f)) (n_word S q.0) B.right ∙ ap₂ ◌++◌ (n_spelled q.0 ∙ ap (map CodeN) q.1) B.right_spelled);
          joined = whole q.0 (same_carried (unsigned f) loaded s.path q.0 alike) (short_word (unsigned f) loaded q.0 size) A.right B.right left right;
        }
      where
        whole : (q : List (Index d)) → ((r : RootName d) → carried S s.path r ≡ carried S q r) → IsShort S q → (u v : Word S)
            → GroupJoined S (sign_at f) (xs_word S front) u → GroupJoined S (sign_at f) (xs_word S parts.parts.second) v
            → GroupJoined S (sign_at f) (u ++ (H s.torus ∷ (n_word S q ++ v))) (shape S (sign_at f) (frame_laws (unsigned f) lawful.lawful) (sign_laws f lawful) facts s [])
        whole q alike short u v left right =
            let t = s.torus in
            let ahead = scaled_xs S t (moved_xs S (sign_at f) best parts.parts.first) in
            let second_word = xs_word S parts.parts.second in
            -- the right list cut, its first part moved to the front
            let cut_right : GroupJoined S (sign_at f) (xs_word S s.right ++ []) (xs_word S parts.parts.first ++ second_word) =
            subst (λ z. GroupJoined S (sign_at f) z (xs_word S parts.parts.first ++ second_word)) (sym (append-nil (xs_word S s.right))) (grouped (sign_at f) parts.joined) in
            let inner = trans (cons (H t) (behind (n_word S best) cut_right)) (roots_to_front S (sign_at f) (frame_laws (unsigned f) lawful.lawful) t best parts.parts.first second_word) in
            let outer = behind (xs_word S s.left) inner in
            let joined_front : xs_word S s.left ++ (xs_word S ahead ++ (H t ∷ (n_word S best ++ second_word))) ≡ xs_word S front ++ (H t ∷ (n_word S best ++ second_word)) =
            sym (append_assoc (xs_word S s.left) (xs_word S ahead) (H t ∷ (n_word S best ++ second_word))) ∙ ap (λ z. z ++ (H t ∷ (n_word S best ++ second_word))) (sym (xs-append S s.left ahead)) in
            let there = trans (before (H t ∷ (n_word S q ++ v)) (flip left))
            (behind (xs_word S front) (cons (H t) (trans (behind (n_word S q) (flip right)) (facts.n_best s.path q alike short second_word)))) in
            trans there (flip (subst (GroupJoined S (sign_at f) (xs_word S s.left ++ (H t ∷ (n_word S best ++ (xs_word S s.right ++ []))))) joined_front outer))
