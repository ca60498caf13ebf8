-- The braid relation of the `n_i`, and words of least length.
use Rattle.std.proofs.Common.{◌≡◌, ℕ, suc, zero, ◌≤◌, ◌<◌, ◌⊎◌, inl, inr, List, [], ◌∷◌, ◌++◌, refl, sym, ◌∙◌, ap, subst, append_assoc, arith}
use Rattle.lie_letters.specs.Setting.{Setting}
use Rattle.lie_letters.specs.Laws.{Laws}
use Rattle.lie_letters.specs.Letters.{Word, X, N}
use Rattle.lie_bruhat.specs.WeylWords.{n_word, carried, carried_sign}
use Rattle.lie_bruhat.proofs.InTurn.{alternating, last_in_turn, lowered, Lowers}
use Rattle.lie_letters.specs.SignedFrames.{Sign}
use Rattle.lie_bruhat.specs.SignLaws.{SignLaws}
use Rattle.lie_letters.specs.GroupRelations.{GroupJoined}
use Rattle.lie_letters.specs.Chains.{same}
use Rattle.lie_letters.proofs.ChainLemmas.{trans, flip, behind, both}
use Rattle.lie_bruhat.proofs.FieldLemmas
use Rattle.lie_bruhat.proofs.RuleLemmas.{at_front, cons, walk}
use Rattle.lie_bruhat.proofs.RuleLemmas
use Rattle.lie_bruhat.proofs.WeylLetterLemmas

pub n_word-append : (S : Setting) (p q : List S.Index) → n_word S (p ++ q) ≡ n_word S p ++ n_word S q
n_word-append S [] q = refl
n_word-append S (i ∷ p) q = ap (λ w. N i ∷ w) (n_word-append S p q)

pub alternating-last : {I : Type 0} (m : ℕ) (i j : I) → alternating (suc m) i j ≡ alternating m i j ++ (last_in_turn m i j ∷ [])
alternating-last zero i j = refl
alternating-last (suc m) i j = ap (λ w. i ∷ w) (alternating-last m j i)

module _ (S : Setting) (sign : Sign S) (laws : Laws S) (signs : SignLaws S sign) where
  pub carried_opposite : (p : List S.Index) (s : S.Root) → carried S p (S.opposite s) ≡ S.opposite (carried S p s)
  carried_opposite [] s = refl
  carried_opposite (i ∷ p) s = ap (S.reflect i) (carried_opposite p s) ∙ laws.reflect_opposite i (carried S p s)

  pub carried_sign_opposite : (p : List S.Index) (s : S.Root) → carried_sign S sign p (S.opposite s) ≡ carried_sign S sign p s
  carried_sign_opposite [] s = refl
  carried_sign_opposite (i ∷ p) s =
      ap (λ x. S.mul (sign i x) (carried_sign S sign p (S.opposite s))) (carried_opposite p s)
      ∙ ap (λ x. S.mul x (carried_sign S sign p (S.opposite s))) (signs.opposite i (carried S p s))
      ∙ ap (S.mul (sign i (carried S p s))) (carried_sign_opposite p s)

  -- n along p carries n_i to n_k, where it carries the root of i to the root of k with sign 1
  pub carry_n : (p : List S.Index) (i k : S.Index) (w : Word S)
      → carried S p (S.simple i) ≡ S.simple k → carried_sign S sign p (S.simple i) ≡ S.one
      → GroupJoined S sign (n_word S p ++ (N i ∷ w)) (N k ∷ (n_word S p ++ w))
  carry_n p i k w root one =
      let a = S.simple i in
      let b = S.opposite (S.simple i) in
      let one' : carried_sign S sign p b ≡ S.one = carried_sign_opposite p a ∙ one in
      let root' : carried S p b ≡ S.opposite (S.simple k) = carried_opposite p a ∙ ap S.opposite root in
      let first = WeylLetterLemmas.carry S sign laws p a S.one (X b (S.neg S.one) ∷ X a S.one ∷ w) in
      let second = WeylLetterLemmas.carry S sign laws p b (S.neg S.one) (X a S.one ∷ w) in
      let third = WeylLetterLemmas.carry S sign laws p a S.one w in
      let ones : S.mul S.one S.one ≡ S.one = laws.mul_one S.one in
      let minus : S.mul S.one (S.neg S.one) ≡ S.neg S.one = FieldLemmas.one_mul S laws (S.neg S.one) in
      let first' = rw (root, one, ones) at first in
      let second' = rw (root', one', minus) at second in
      let third' = rw (root, one, ones) at third in
      trans (behind (n_word S p) (RuleLemmas.n_open S sign laws i w))
      (trans first' (trans (cons _ second') (trans (cons _ (cons _ third')) (flip (RuleLemmas.n_open S sign laws k (n_word S p ++ w))))))

  -- the braid relation for m + 1 letters
  pub braid : (m : ℕ) (i j : S.Index) (w : Word S)
      → carried S (alternating m i j) (S.simple (last_in_turn m i j)) ≡ S.simple j
      → carried_sign S sign (alternating m i j) (S.simple (last_in_turn m i j)) ≡ S.one
      → GroupJoined S sign (n_word S (alternating (suc m) i j) ++ w) (n_word S (alternating (suc m) j i) ++ w)
  braid m i j w root one =
      let last = last_in_turn m i j in
      let whole : n_word S (alternating (suc m) i j) ++ w ≡ n_word S (alternating m i j) ++ (N last ∷ w) =
      ap (λ p. n_word S p ++ w) (alternating-last m i j)
      ∙ ap (λ q. q ++ w) (n_word-append S (alternating m i j) (last ∷ []))
      ∙ append_assoc (n_word S (alternating m i j)) (N last ∷ []) w in
      subst (λ u. GroupJoined S sign u (n_word S (alternating (suc m) j i) ++ w)) (sym whole)
      (carry_n (alternating m i j) last j w root one)

-- A left action of the simple reflections with a length, and a word for each element:
-- what the theorem on words of least length needs.
pub record Reduction (S : Setting) (sign : Sign S) (W : Type 0) : Type 1 where
  pub left : S.Index → W → W
  pub length_of : W → ℕ
  pub Descent : S.Index → W → Type 0
  pub word : W → List S.Index
  -- a descent shortens
  pub shorter : (i : S.Index) (w : W) → Descent i w → length_of w ≡ suc (length_of (left i w))
  -- the word begins with a descent, and goes on with the word of what is left
  pub word_begins : (w : W) (n : ℕ) → length_of w ≡ suc n
      → (i : S.Index) × Descent i w × (word w ≡ i ∷ word (left i w))
  -- two descents: both words in turn lower to the same element, and are joined
  pub two : (i j : S.Index) (w : W) → Descent i w → Descent j w
      → (i ≡ j) ⊎ ((m : ℕ) × Lowers left Descent (suc m) i j w × Lowers left Descent (suc m) j i w
      × (word (lowered left (suc m) i j w) ≡ word (lowered left (suc m) j i w))
      × ((v : Word S) → GroupJoined S sign (n_word S (alternating (suc m) i j) ++ v) (n_word S (alternating (suc m) j i) ++ v)))

module _ (S : Setting) (sign : Sign S) (W : Type 0) (red : Reduction S sign W) where
  abbrev along : W → Word S
  along w = n_word S (red.word w)

  abbrev Descends : ℕ → Type 0
  Descends n = (w : W) (j : S.Index) → red.length_of w ≡ n → red.Descent j w → GroupJoined S sign (N j ∷ along (red.left j w)) (along w)

  -- in turn, while the length is below a bound where the theorem holds
  in_turn : (n m : ℕ) (i j : S.Index) (w : W) → ((k : ℕ) → k ≤ n → Descends k) → red.length_of w ≤ n
      → Lowers red.left red.Descent m i j w
      → GroupJoined S sign (n_word S (alternating m i j) ++ along (lowered red.left m i j w)) (along w)
  in_turn n zero i j w known below lowers = same
  in_turn n (suc m) i j w known below lowers =
      let short = red.shorter i w lowers.0 in
      let rest = in_turn n m j i (red.left i w) known (omega arith) lowers.1 in
      trans (cons (N i) rest) (known (red.length_of w) below w i refl lowers.0)

  descends_below : (n : ℕ) → ((k : ℕ) → k < n → Descends k) → Descends n
  descends_below n known w j size descent =
      let size' = red.shorter j w descent in
      let n' = red.length_of (red.left j w) in
      let known' : (k : ℕ) → k ≤ n' → Descends k = λ k h. known k (omega arith) in
      let (i, first, begins) = red.word_begins w n' size' in
      let begins' : along w ≡ N i ∷ along (red.left i w) = ap (n_word S) begins in
      let small : red.length_of (red.left i w) ≤ n' = omega (arith, red.shorter i w first) in
      rw begins' (elim (red.two i j w first descent) [
        | inl e ↦ subst (λ k. GroupJoined S sign (N j ∷ along (red.left j w)) (N k ∷ along (red.left k w))) (sym e) same
        | inr both ↦
            let (m, low, low', meet, joined) = both in
            let one = cons (N i) (in_turn n' m j i (red.left i w) known' small low.1) in
            let other = cons (N j) (in_turn n' m i j (red.left j w) known' (omega arith) low'.1) in
            let swap = joined (along (lowered red.left (suc m) j i w)) in
            let one' = subst (λ z. GroupJoined S sign (n_word S (alternating (suc m) i j) ++ n_word S z) (N i ∷ along (red.left i w))) meet one in
            trans (flip other) (trans (flip swap) one')
      ])

  descends_all : (n k : ℕ) → k < n → Descends k
  descends_all zero k h = absurd (omega arith)
  descends_all (suc n) k h = descends_below k (λ k' h'. descends_all n k' (omega arith))

  -- the word of w may begin with any descent
  pub descends : (w : W) (j : S.Index) → red.Descent j w → GroupJoined S sign (N j ∷ along (red.left j w)) (along w)
  descends w j descent = descends_all (suc (red.length_of w)) (red.length_of w) (omega arith) w j refl descent

  -- the element of a word, and that each letter lowers it
  abbrev Least : List S.Index → W → Type 0
  Least [] w = red.length_of w ≡ 0
  Least (i ∷ p) w = red.Descent i w × Least p (red.left i w)

  -- n along any word of least length is n along the word of the element
  pub any_least : (empty : (w : W) → red.length_of w ≡ 0 → red.word w ≡ []) (p : List S.Index) (w : W) → Least p w
      → GroupJoined S sign (n_word S p) (along w)
  any_least empty [] w h = rw (ap (n_word S) (empty w h)) same
  any_least empty (i ∷ p) w h = trans (cons (N i) (any_least empty p (red.left i w) h.1)) (descends w i h.0)
