-- Words that a word passes: one word behind it, or another one in front of it.
--
--   z u and v z are joined      Passes f z u v
use Rattle.std.proofs.Common.{◌≡◌, List, [], ◌∷◌, ◌++◌, sym, subst, append_assoc}
use Rattle.std.proofs.lemmas.List.{append-nil}
use Rattle.lie_letters.specs.declared.letter.Letter.{Letter}
use Rattle.lie_letters.specs.GroupSpelled.{JoinedInGroup}
use Rattle.lie_letters.specs.SignedFrames.{SignedFrame, unsigned}
use Rattle.lie_letters.specs.Spelled.{IsWordOver}
use Rattle.lie_letters.proofs.CallerLemmas.{JoinedInGroup-refl, JoinedInGroup-trans, JoinedInGroup-flip, JoinedInGroup-append, JoinedInGroup-over, IsWordOver-append}

module _ (f : SignedFrame) where
  -- z with u behind it is joined to z with v in front of it
  abbrev pub Passes : List Letter → List Letter → List Letter → Type 0
  Passes z u v = JoinedInGroup f (z ++ u) (v ++ z)

  -- equal words are joined to equal words
  pub joined_equal : (u u' v v' : List Letter) → u ≡ u' → v ≡ v' → JoinedInGroup f u v → JoinedInGroup f u' v'
  joined_equal u u' v v' a b h = subst (λ w. JoinedInGroup f u' w) b (subst (λ w. JoinedInGroup f w v) a h)

  -- the first of two joined words is a word of the frame
  pub first_over : (u v : List Letter) → JoinedInGroup f u v → IsWordOver (unsigned f) u
  first_over u v h = JoinedInGroup-over f v u (JoinedInGroup-flip f u v h)

  -- joined words behind a word
  pub joined_behind : (z u v : List Letter) → IsWordOver (unsigned f) z → JoinedInGroup f u v → JoinedInGroup f (z ++ u) (z ++ v)
  joined_behind z u v over h = JoinedInGroup-append f z z u v (JoinedInGroup-refl f z over) h

  -- joined words in front of a word
  pub joined_before : (z u v : List Letter) → IsWordOver (unsigned f) z → JoinedInGroup f u v → JoinedInGroup f (u ++ z) (v ++ z)
  joined_before z u v over h = JoinedInGroup-append f u v z z h (JoinedInGroup-refl f z over)

  -- words of the frame, one behind the other
  pub IsWordOver-both : (u v : List Letter) → IsWordOver (unsigned f) u → IsWordOver (unsigned f) v → IsWordOver (unsigned f) (u ++ v)
  IsWordOver-both [] v h k = k
  IsWordOver-both (a ∷ u) v h k = (h.0, IsWordOver-both u v h.1 k)

  -- all three words are words of the frame
  pub record AreOver (z u v : List Letter) : Type 0 where
    pub middle : IsWordOver (unsigned f) z
    pub behind : IsWordOver (unsigned f) u
    pub front : IsWordOver (unsigned f) v

  pub passes_over : (z u v : List Letter) → Passes z u v → AreOver z u v
  passes_over z u v h =
      let l = IsWordOver-append (unsigned f) z u (first_over (z ++ u) (v ++ z) h) in
      let r = IsWordOver-append (unsigned f) v z (JoinedInGroup-over f (z ++ u) (v ++ z) h) in
      record { middle = l.0; behind = l.1; front = r.0 }

  -- no letter passes a word of the frame
  pub passes_none : (z : List Letter) → IsWordOver (unsigned f) z → Passes z [] []
  passes_none z over = subst (λ w. JoinedInGroup f w z) (sym (append-nil z)) (JoinedInGroup-refl f z over)

  -- words pass the empty word
  pub passes_empty : (u : List Letter) → IsWordOver (unsigned f) u → Passes [] u u
  passes_empty u over = subst (λ w. JoinedInGroup f u w) (sym (append-nil u)) (JoinedInGroup-refl f u over)

  -- one word passes, then another behind it
  pub passes_append : (z u v u' v' : List Letter) → Passes z u v → Passes z u' v' → Passes z (u ++ u') (v ++ v')
  passes_append z u v u' v' h k =
      let a = passes_over z u v h in
      let b = passes_over z u' v' k in
      JoinedInGroup-trans f (z ++ (u ++ u')) (v ++ (z ++ u')) ((v ++ v') ++ z)
      (joined_equal ((z ++ u) ++ u') (z ++ (u ++ u')) ((v ++ z) ++ u') (v ++ (z ++ u')) (append_assoc z u u') (append_assoc v z u') (joined_before u' (z ++ u) (v ++ z) b.behind h))
      (subst (λ w. JoinedInGroup f (v ++ (z ++ u')) w) (sym (append_assoc v v' z)) (joined_behind v (z ++ u') (v' ++ z) a.front k))

  -- a word passes one word, then another in front of it
  pub passes_through : (y z u v w : List Letter) → Passes z u v → Passes y v w → Passes (y ++ z) u w
  passes_through y z u v w h k =
      let a = passes_over z u v h in
      let b = passes_over y v w k in
      JoinedInGroup-trans f ((y ++ z) ++ u) ((y ++ v) ++ z) (w ++ (y ++ z))
      (joined_equal (y ++ (z ++ u)) ((y ++ z) ++ u) (y ++ (v ++ z)) ((y ++ v) ++ z) (sym (append_assoc y z u)) (sym (append_assoc y v z)) (joined_behind y (z ++ u) (v ++ z) b.middle h))
      (subst (λ x. JoinedInGroup f ((y ++ v) ++ z) x) (append_assoc w y z) (joined_before z (y ++ v) (w ++ y) a.middle k))

  -- what stands in front of a word, where letters that it passes are taken from behind it
  pub taken_to_front : (a a' b z k v y : List Letter) → JoinedInGroup f (a ++ b) a' → Passes z k b → JoinedInGroup f (k ++ v) y → JoinedInGroup f (a' ++ (z ++ v)) (a ++ (z ++ y))
  taken_to_front a a' b z k v y front passes behind =
      let left = IsWordOver-append (unsigned f) a b (first_over (a ++ b) a' front) in
      let right = IsWordOver-append (unsigned f) k v (first_over (k ++ v) y behind) in
      let middle = passes_over z k b passes in
      let inner : JoinedInGroup f (b ++ (z ++ v)) (z ++ y) =
      JoinedInGroup-trans f (b ++ (z ++ v)) (z ++ (k ++ v)) (z ++ y)
      (joined_equal ((b ++ z) ++ v) (b ++ (z ++ v)) ((z ++ k) ++ v) (z ++ (k ++ v)) (append_assoc b z v) (append_assoc z k v)
      (joined_before v (b ++ z) (z ++ k) right.1 (JoinedInGroup-flip f (z ++ k) (b ++ z) passes)))
      (joined_behind z (k ++ v) y middle.middle behind) in
      JoinedInGroup-trans f (a' ++ (z ++ v)) (a ++ (b ++ (z ++ v))) (a ++ (z ++ y))
      (subst (λ w. JoinedInGroup f (a' ++ (z ++ v)) w) (append_assoc a b (z ++ v))
      (joined_before (z ++ v) a' (a ++ b) (IsWordOver-both z v middle.middle right.1) (JoinedInGroup-flip f (a ++ b) a' front)))
      (joined_behind a (b ++ (z ++ v)) (z ++ y) left.0 inner)

  -- a letter that has an inverse behind it, which has one too, stands behind its inverse
  pub inverse_before : (t b c : Letter) → JoinedInGroup f (t ∷ b ∷ []) [] → JoinedInGroup f (b ∷ c ∷ []) [] → JoinedInGroup f (b ∷ t ∷ []) []
  inverse_before t b c h k =
      let first = first_over (t ∷ b ∷ []) [] h in
      let second = first_over (b ∷ c ∷ []) [] k in
      JoinedInGroup-trans f (b ∷ t ∷ []) (b ∷ t ∷ b ∷ c ∷ []) []
      (JoinedInGroup-flip f (b ∷ t ∷ b ∷ c ∷ []) (b ∷ t ∷ []) (joined_behind (b ∷ t ∷ []) (b ∷ c ∷ []) [] (second.0, (first.0, tt)) k))
      (JoinedInGroup-trans f (b ∷ t ∷ b ∷ c ∷ []) (b ∷ c ∷ []) []
      (joined_behind (b ∷ []) (t ∷ b ∷ c ∷ []) (c ∷ []) (second.0, tt) (joined_before (c ∷ []) (t ∷ b ∷ []) [] (second.1.0, tt) h)) k)

  -- what the inverse of a letter passes from right to left, the letter passes from left to right
  pub inverse_passes : (t b : Letter) (u v : List Letter) → JoinedInGroup f (t ∷ b ∷ []) [] → JoinedInGroup f (b ∷ t ∷ []) [] → Passes (b ∷ []) u v → JoinedInGroup f (u ++ t ∷ []) (t ∷ v)
  inverse_passes t b u v h k passes =
      let one = (first_over (t ∷ b ∷ []) [] h).0 in
      let over = passes_over (b ∷ []) u v passes in
      let behind = IsWordOver-both u (t ∷ []) over.behind (one, tt) in
      JoinedInGroup-trans f (u ++ t ∷ []) (t ∷ b ∷ (u ++ t ∷ [])) (t ∷ v)
      (JoinedInGroup-flip f (t ∷ b ∷ (u ++ t ∷ [])) (u ++ t ∷ []) (joined_before (u ++ t ∷ []) (t ∷ b ∷ []) [] behind h))
      (joined_behind (t ∷ []) (b ∷ (u ++ t ∷ [])) v (one, tt)
      (JoinedInGroup-trans f (b ∷ (u ++ t ∷ [])) (v ++ b ∷ t ∷ []) v
      (subst (λ w. JoinedInGroup f (b ∷ (u ++ t ∷ [])) w) (append_assoc v (b ∷ []) (t ∷ [])) (joined_before (t ∷ []) (b ∷ u) (v ++ b ∷ []) (one, tt) passes))
      (subst (λ w. JoinedInGroup f (v ++ b ∷ t ∷ []) w) (append-nil v) (joined_behind v (b ∷ t ∷ []) [] over.front k))))
