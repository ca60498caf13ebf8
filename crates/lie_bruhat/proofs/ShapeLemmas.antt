-- Bruhat shapes take any letter: the product of a form with a letter, before its lists are collected.
use Rattle.std.proofs.Common.{◌≡◌, ℕ, suc, zero, ◌<◌, ◌≤◌, List, [], ◌∷◌, ◌++◌, Bool, true, false, refl, sym, ◌∙◌, ap, subst, append_assoc, length, arith, ◌⊎◌, inl, inr}
use Rattle.lie_letters.specs.Setting.{Setting}
use Rattle.lie_letters.specs.Laws.{Laws}
use Rattle.lie_letters.specs.Letters.{Letter, Word, X, H, N, Ninv}
use Rattle.lie_bruhat.specs.WeylWords.{n_word, carried, carried_sign, moved_torus}
use Rattle.lie_letters.specs.SignedFrames.{Sign}
use Rattle.lie_bruhat.specs.SignLaws.{SignLaws}
use Rattle.lie_letters.specs.GroupRelations.{GroupJoined}
use Rattle.lie_letters.specs.Chains.{same}
use Rattle.lie_letters.proofs.ChainLemmas.{trans, flip, behind}
use Rattle.lie_bruhat.proofs.FieldLemmas
use Rattle.lie_bruhat.proofs.RuleLemmas.{cons, walk}
use Rattle.lie_bruhat.proofs.RuleLemmas
use Rattle.lie_bruhat.proofs.WeylLetterLemmas
use Rattle.lie_bruhat.proofs.MoveLemmas.{xs_word, moved_xs, scaled_xs}
use Rattle.lie_bruhat.proofs.MoveLemmas

-- root letters as roots with elements
abbrev pub RootLetters : Setting → Type 0
RootLetters S = List (S.Root × S.Elem)

abbrev pub AllPositive : (S : Setting) → RootLetters S → Type 0
AllPositive S [] = Unit {0}
AllPositive S (a ∷ v) = (S.is_negative a.0 ≡ false) × AllPositive S v

abbrev pub Without : (S : Setting) → S.Root → RootLetters S → Type 0
Without S r [] = Unit {0}
Without S r (a ∷ v) = ¬ (a.0 ≡ r) × Without S r v

-- the letters after they pass n_i from left to right
abbrev pub reflected : (S : Setting) → Sign S → S.Index → RootLetters S → RootLetters S
reflected S sign i [] = []
reflected S sign i (a ∷ v) = (S.reflect i a.0, S.mul (sign i (S.reflect i a.0)) a.1) ∷ reflected S sign i v

-- root letters, a torus vector, n along the word of a product, root letters
pub record Shape (S : Setting) : Type 0 where
  pub left : RootLetters S
  pub torus : S.Torus
  pub path : List S.Index
  pub right : RootLetters S

-- no word with the same product is shorter
abbrev pub IsShort : (S : Setting) → List S.Index → Type 0
IsShort S q = (v : List S.Index) → ((r : S.Root) → carried S v r ≡ carried S q r) → length q ≤ length v

-- what the product needs of the Weyl elements and of the collector
pub record BruhatFacts (S : Setting) (sign : Sign S) : Type 1 where
  pub best : List S.Index → List S.Index
  pub best_none : best [] ≡ []
  pub best_product : (p : List S.Index) (r : S.Root) → carried S (best p) r ≡ carried S p r
  pub n_best : (p q : List S.Index) → ((r : S.Root) → carried S p r ≡ carried S q r) → IsShort S q → (w : Word S) → GroupJoined S sign (n_word S q ++ w) (n_word S (best p) ++ w)
  pub Up : S.Index → List S.Index → Type 0
  pub up_or_down : (i : S.Index) (p : List S.Index) → Up i p ⊎ Up i (p ++ (i ∷ []))
  pub up_positive : (i : S.Index) (p : List S.Index) → Up i p → S.is_negative (carried S (best p) (S.simple i)) ≡ false
  pub n_up : (i : S.Index) (p : List S.Index) → Up i p → (w : Word S)
      → GroupJoined S sign (n_word S (best p) ++ (N i ∷ w)) (n_word S (best (p ++ (i ∷ []))) ++ w)
  pub n_down : (i : S.Index) (p : List S.Index) → Up i (p ++ (i ∷ [])) → (w : Word S)
      → GroupJoined S sign (n_word S (best p) ++ (N i ∷ w))
      (H (moved_torus S (best (p ++ (i ∷ []))) (S.coroot i (S.neg S.one))) ∷ (n_word S (best (p ++ (i ∷ []))) ++ w))
  pub split_first : (i : S.Index) (v : RootLetters S) → AllPositive S v
      → (c : S.Elem) × (v' : RootLetters S) × AllPositive S v' × Without S (S.simple i) v'
      × ((w : Word S) → GroupJoined S sign (xs_word S v ++ w) (X (S.simple i) c ∷ (xs_word S v' ++ w)))
  pub split_last : (i : S.Index) (v : RootLetters S) → AllPositive S v
      → (c : S.Elem) × (v' : RootLetters S) × AllPositive S v' × Without S (S.simple i) v'
      × ((w : Word S) → GroupJoined S sign (xs_word S v ++ w) (xs_word S v' ++ (X (S.simple i) c ∷ w)))
  pub reflect_positive : (i : S.Index) (r : S.Root) → S.is_negative r ≡ false → ¬ (r ≡ S.simple i) → S.is_negative (S.reflect i r) ≡ false
  pub simple_positive : (i : S.Index) → S.is_negative (S.simple i) ≡ false
  pub reflect_twice : (i : S.Index) (r : S.Root) → S.reflect i (S.reflect i r) ≡ r
  pub reflect_simple : (i : S.Index) → S.reflect i (S.simple i) ≡ S.opposite (S.simple i)
  pub character_inv : (r : S.Root) (t : S.Torus) → S.mul (S.character r t) (S.character r (S.torus_inv t)) ≡ S.one
  -- a negative root is the opposite of a simple root, or a simple reflection takes it nearer
  pub depth : S.Root → ℕ
  pub nearer : (r : S.Root) → S.is_negative r ≡ true
      → (i : S.Index) × ((r ≡ S.opposite (S.simple i)) ⊎ ((S.is_negative (S.reflect i r) ≡ true) × (depth (S.reflect i r) < depth r)))
  pub zero_or_not : (a : S.Elem) → (a ≡ S.zero) ⊎ (¬ (a ≡ S.zero))

module _ (S : Setting) (sign : Sign S) (laws : Laws S) (signs : SignLaws S sign) (facts : BruhatFacts S sign) where
  -- a shape, and what follows it
  abbrev pub shape : Shape S → Word S → Word S
  shape s w = xs_word S s.left ++ (H s.torus ∷ (n_word S (facts.best s.path) ++ (xs_word S s.right ++ w)))

  abbrev pub IsShape : Shape S → Type 0
  IsShape s = AllPositive S s.left × AllPositive S s.right

  -- the shape with the word u appended is joined to a shape
  abbrev pub Takes : Shape S → Word S → Type 0
  Takes s u = (s' : Shape S) × IsShape s' × ((w : Word S) → GroupJoined S sign (shape s (u ++ w)) (shape s' w))

  -- joined right parts give joined shapes
  inside : (s : Shape S) (u v : Word S) → GroupJoined S sign (n_word S (facts.best s.path) ++ u) v
      → GroupJoined S sign (xs_word S s.left ++ (H s.torus ∷ (n_word S (facts.best s.path) ++ u))) (xs_word S s.left ++ (H s.torus ∷ v))
  inside s u v d = behind (xs_word S s.left) (cons (H s.torus) d)

  xs_append : (u v : RootLetters S) (w : Word S) → xs_word S (u ++ v) ++ w ≡ xs_word S u ++ (xs_word S v ++ w)
  xs_append [] v w = refl
  xs_append (a ∷ u) v w = ap (λ z. X a.0 a.1 ∷ z) (xs_append u v w)

  positive_append : (u v : RootLetters S) → AllPositive S u → AllPositive S v → AllPositive S (u ++ v)
  positive_append [] v h k = k
  positive_append (a ∷ u) v h k = (h.0, positive_append u v h.1 k)

  positive_reflected : (i : S.Index) (v : RootLetters S) → AllPositive S v → Without S (S.simple i) v → AllPositive S (reflected S sign i v)
  positive_reflected i [] h n = tt
  positive_reflected i (a ∷ v) h n = (facts.reflect_positive i a.0 h.0 n.0, positive_reflected i v h.1 n.1)

  -- a root letter passes n_i from left to right
  pub x_n : (i : S.Index) (r : S.Root) (a : S.Elem) (w : Word S)
      → GroupJoined S sign (X r a ∷ N i ∷ w) (N i ∷ X (S.reflect i r) (S.mul (sign i (S.reflect i r)) a) ∷ w)
  x_n i r a w =
      let e = sign i (S.reflect i r) in
      let back : S.mul e (S.mul e a) ≡ a =
      sym (laws.mul_assoc e e a) ∙ ap (λ z. S.mul z a) (signs.squared i (S.reflect i r)) ∙ FieldLemmas.one_mul S laws a in
      let step = WeylLetterLemmas.n_x S sign laws i (S.reflect i r) (S.mul e a) w in
      flip (rw (facts.reflect_twice i r, back) at step)

  roots_n : (i : S.Index) (v : RootLetters S) (w : Word S) → GroupJoined S sign (xs_word S v ++ (N i ∷ w)) (N i ∷ (xs_word S (reflected S sign i v) ++ w))
  roots_n i [] w = same
  roots_n i (a ∷ v) w = trans (cons (X a.0 a.1) (roots_n i v w)) (x_n i a.0 a.1 (xs_word S (reflected S sign i v) ++ w))

  x_h : (r : S.Root) (a : S.Elem) (t : S.Torus) (w : Word S)
      → GroupJoined S sign (X r a ∷ H t ∷ w) (H t ∷ X r (S.mul (S.character r (S.torus_inv t)) a) ∷ w)
  x_h r a t w =
      let c = S.character r t in
      let d = S.character r (S.torus_inv t) in
      let back : S.mul c (S.mul d a) ≡ a =
      sym (laws.mul_assoc c d a) ∙ ap (λ z. S.mul z a) (facts.character_inv r t) ∙ FieldLemmas.one_mul S laws a in
      flip (rw back at (WeylLetterLemmas.h_x S sign laws t r (S.mul d a) w))

  roots_h : (v : RootLetters S) (t : S.Torus) (w : Word S)
      → GroupJoined S sign (xs_word S v ++ (H t ∷ w)) (H t ∷ (xs_word S (scaled_xs S (S.torus_inv t) v) ++ w))
  roots_h [] t w = same
  roots_h (a ∷ v) t w = trans (cons (X a.0 a.1) (roots_h v t w)) (x_h a.0 a.1 t (xs_word S (scaled_xs S (S.torus_inv t) v) ++ w))

  positive_scaled : (t : S.Torus) (v : RootLetters S) → AllPositive S v → AllPositive S (scaled_xs S t v)
  positive_scaled t [] h = tt
  positive_scaled t (a ∷ v) h = (h.0, positive_scaled t v h.1)

  -- x_r(a), r positive
  abbrev after_x : Shape S → S.Root → S.Elem → Shape S
  after_x s r a = record { left = s.left; torus = s.torus; path = s.path; right = s.right ++ ((r, a) ∷ []) }

  takes_x : (s : Shape S) (r : S.Root) (a : S.Elem) (w : Word S) → GroupJoined S sign (shape s (X r a ∷ w)) (shape (after_x s r a) w)
  takes_x s r a w =
      subst (λ z. GroupJoined S sign (shape s (X r a ∷ w)) (xs_word S s.left ++ (H s.torus ∷ (n_word S (facts.best s.path) ++ z))))
      (sym (xs_append s.right ((r, a) ∷ []) w)) same

  -- h(t)
  abbrev after_h : Shape S → S.Torus → Shape S
  after_h s t = record {
    left = s.left;
    torus = S.torus_mul s.torus (moved_torus S (facts.best s.path) t);
    path = s.path;
    right = scaled_xs S (S.torus_inv t) s.right;
  }

  takes_h : (s : Shape S) (t : S.Torus) (w : Word S) → GroupJoined S sign (shape s (H t ∷ w)) (shape (after_h s t) w)
  takes_h s t w =
      let p = facts.best s.path in
      let v = xs_word S (scaled_xs S (S.torus_inv t) s.right) ++ w in
      trans (inside s (xs_word S s.right ++ (H t ∷ w)) (H (moved_torus S p t) ∷ (n_word S p ++ v))
      (trans (behind (n_word S p) (roots_h s.right t w)) (MoveLemmas.n_past_torus S sign laws p t v)))
      (behind (xs_word S s.left) (RuleLemmas.torus_merge S sign laws s.torus (moved_torus S p t) (n_word S p ++ v)))

  -- n_i, where w s_i is longer
  takes_n_up : (s : Shape S) (i : S.Index) → IsShape s → facts.Up i s.path → Takes s (N i ∷ [])
  takes_n_up s i good up =
      let p = facts.best s.path in
      let (c, v, positive, without, split) = facts.split_first i s.right good.1 in
      let r = carried S p (S.simple i) in
      let b = S.mul (S.character r s.torus) (S.mul (carried_sign S sign p (S.simple i)) c) in
      let s' : Shape S = record {
        left = s.left ++ ((r, b) ∷ []);
        torus = s.torus;
        path = s.path ++ (i ∷ []);
        right = reflected S sign i v;
      } in (
        s',
        (positive_append s.left ((r, b) ∷ []) good.0 (facts.up_positive i s.path up, tt), positive_reflected i v positive without),
        (λ w.
            let tail = xs_word S (reflected S sign i v) ++ w in
            let first = behind (n_word S p) (trans (split (N i ∷ w)) (cons (X (S.simple i) c) (roots_n i v w))) in
            let second = WeylLetterLemmas.carry S sign laws p (S.simple i) c (N i ∷ tail) in
            let third = WeylLetterLemmas.h_x S sign laws s.torus r (S.mul (carried_sign S sign p (S.simple i)) c) (n_word S p ++ (N i ∷ tail)) in
            let fourth = cons (X r b) (cons (H s.torus) (facts.n_up i s.path up tail)) in
            let all = trans (cons (H s.torus) (trans first second)) (trans third fourth) in
            subst (λ z. GroupJoined S sign (shape s (N i ∷ w)) z)
            (sym (xs_append s.left ((r, b) ∷ []) (H s.torus ∷ (n_word S (facts.best (s.path ++ (i ∷ []))) ++ tail))))
            (behind (xs_word S s.left) all)),
      )

  abbrev takes_more : (s : Shape S) (u v : Word S) → (a : Takes s u) → Takes a.0 v → Takes s (u ++ v)
  takes_more s u v (s', good', d) (s'', good'', d') =
      (s'', good'', (λ w. subst (λ z. GroupJoined S sign (shape s z) (shape s'' w)) (sym (append_assoc u v w)) (trans (d (v ++ w)) (d' w))))

  abbrev takes_joined : (s : Shape S) (u v : Word S) → ((w : Word S) → GroupJoined S sign (u ++ w) (v ++ w)) → Takes s v → Takes s u
  takes_joined s u v e (s', good', d) =
      (s', good', (λ w. trans (behind (xs_word S s.left) (cons (H s.torus) (behind (n_word S (facts.best s.path)) (behind (xs_word S s.right) (e w))))) (d w)))

  abbrev takes_root : (s : Shape S) (r : S.Root) (a : S.Elem) → IsShape s → S.is_negative r ≡ false → Takes s (X r a ∷ [])
  takes_root s r a good high = (after_x s r a, (good.0, positive_append s.right ((r, a) ∷ []) good.1 (high, tt)), (λ w. takes_x s r a w))

  abbrev takes_torus : (s : Shape S) (t : S.Torus) → IsShape s → Takes s (H t ∷ [])
  takes_torus s t good = (after_h s t, (good.0, positive_scaled (S.torus_inv t) s.right good.1), (λ w. takes_h s t w))

  -- the shape below, where w s_i is shorter and the last letter is gone
  abbrev below : Shape S → S.Index → RootLetters S → Shape S
  below s i v = record {
    left = s.left;
    torus = S.torus_mul s.torus (moved_torus S (facts.best (s.path ++ (i ∷ []))) (S.coroot i (S.neg S.one)));
    path = s.path ++ (i ∷ []);
    right = reflected S sign i v;
  }

  to_below : (s : Shape S) (i : S.Index) (v : RootLetters S) (u : Word S) → facts.Up i (s.path ++ (i ∷ []))
      → GroupJoined S sign (xs_word S s.left ++ (H s.torus ∷ (n_word S (facts.best s.path) ++ (xs_word S v ++ (N i ∷ u))))) (shape (below s i v) u)
  to_below s i v u up =
      let p = facts.best s.path in
      let q = facts.best (s.path ++ (i ∷ [])) in
      let tail = xs_word S (reflected S sign i v) ++ u in
      let m = moved_torus S q (S.coroot i (S.neg S.one)) in
      trans (inside s (xs_word S v ++ (N i ∷ u)) (H m ∷ (n_word S q ++ tail))
      (trans (behind (n_word S p) (roots_n i v u)) (facts.n_down i s.path up tail)))
      (behind (xs_word S s.left) (RuleLemmas.torus_merge S sign laws s.torus m (n_word S q ++ tail)))

  -- n_i, where w s_i is shorter
  takes_n_down : (s : Shape S) (i : S.Index) → IsShape s → facts.Up i (s.path ++ (i ∷ [])) → Takes s (N i ∷ [])
  takes_n_down s i good up = go (facts.split_last i s.right good.1)
    where
      from_split : (c : S.Elem) (v : RootLetters S)
          → ((w : Word S) → GroupJoined S sign (xs_word S s.right ++ w) (xs_word S v ++ (X (S.simple i) c ∷ w)))
          → (u u' : Word S) → GroupJoined S sign (X (S.simple i) c ∷ N i ∷ u) (N i ∷ u')
          → GroupJoined S sign (shape s (N i ∷ u)) (shape (below s i v) u')
      from_split c v split u u' pass =
          trans (behind (xs_word S s.left) (cons (H s.torus) (behind (n_word S (facts.best s.path))
          (trans (split (N i ∷ u)) (behind (xs_word S v) pass)))))
          (to_below s i v u' up)

      step : (c : S.Elem) (v : RootLetters S) → AllPositive S v → Without S (S.simple i) v
          → ((w : Word S) → GroupJoined S sign (xs_word S s.right ++ w) (xs_word S v ++ (X (S.simple i) c ∷ w)))
          → (c ≡ S.zero) ⊎ (¬ (c ≡ S.zero)) → Takes s (N i ∷ [])
      step c v positive without split (inl e) = (
        below s i v,
        (good.0, positive_reflected i v positive without),
        (λ w. from_split c v split w w (rw e (RuleLemmas.drop_zero S sign laws (S.simple i) (N i ∷ w)))),
      )
      step c v positive without split (inr n) =
          let d = S.mul (sign i (S.reflect i (S.simple i))) c in
          let η = sign i (S.reflect i (S.simple i)) in
          let back : S.mul η d ≡ c =
          sym (laws.mul_assoc η η c) ∙ ap (λ z. S.mul z c) (signs.squared i (S.reflect i (S.simple i))) ∙ FieldLemmas.one_mul S laws c in
          let nonzero : ¬ (d ≡ S.zero) = λ e. n (sym back ∙ ap (S.mul η) e ∙ FieldLemmas.mul_zero S laws η) in
          let a = S.inv d in
          let s1 = below s i v in
          let good1 : IsShape s1 = (good.0, positive_reflected i v positive without) in
          let first = takes_root s1 (S.simple i) a good1 (facts.simple_positive i) in
          let second = takes_torus first.0 (S.coroot i (S.neg a)) first.1 in
          let third = takes_n_up second.0 i second.1 up in
          let fourth = takes_root third.0 (S.simple i) a third.1 (facts.simple_positive i) in
          let two = takes_more s1 (X (S.simple i) a ∷ []) (H (S.coroot i (S.neg a)) ∷ []) first second in
          let three = takes_more s1 (X (S.simple i) a ∷ H (S.coroot i (S.neg a)) ∷ []) (N i ∷ []) two third in
          let four = takes_more s1 (X (S.simple i) a ∷ H (S.coroot i (S.neg a)) ∷ N i ∷ []) (X (S.simple i) a ∷ []) three fourth in (
            four.0,
            four.1,
            (λ w.
                let crossed = x_n i (S.simple i) c w in
                let turned = cons (N i) (rw (← facts.reflect_simple i) at (WeylLetterLemmas.opposite_is S sign laws i d w nonzero)) in
                trans (from_split c v split w (X (S.simple i) a ∷ H (S.coroot i (S.neg a)) ∷ N i ∷ X (S.simple i) a ∷ w) (trans crossed turned))
                (four.2 w)),
          )

      go : (c : S.Elem) × (v : RootLetters S) × AllPositive S v × Without S (S.simple i) v
          × ((w : Word S) → GroupJoined S sign (xs_word S s.right ++ w) (xs_word S v ++ (X (S.simple i) c ∷ w))) → Takes s (N i ∷ [])
      go (c, v, positive, without, split) = step c v positive without split (facts.zero_or_not c)

  takes_n : (s : Shape S) (i : S.Index) → IsShape s → Takes s (N i ∷ [])
  takes_n s i good = elim (facts.up_or_down i s.path) [ inl up ↦ takes_n_up s i good up | inr down ↦ takes_n_down s i good down ]

  takes_ninv : (s : Shape S) (i : S.Index) → IsShape s → Takes s (Ninv i ∷ [])
  takes_ninv s i good =
      let t = S.coroot i (S.neg S.one) in
      let first = takes_torus s t good in
      takes_joined s (Ninv i ∷ []) (H t ∷ N i ∷ []) (λ w. WeylLetterLemmas.ninv_is S sign laws i w)
      (takes_more s (H t ∷ []) (N i ∷ []) first (takes_n first.0 i first.1))

  takes_opposite : (s : Shape S) (i : S.Index) (c : S.Elem) → IsShape s → Takes s (X (S.opposite (S.simple i)) c ∷ [])
  takes_opposite s i c good = elim (facts.zero_or_not c) [
    | inl e ↦ rw e (
      s,
      good,
      (λ w. behind (xs_word S s.left) (cons (H s.torus)
          (behind (n_word S (facts.best s.path)) (behind (xs_word S s.right) (RuleLemmas.drop_zero S sign laws (S.opposite (S.simple i)) w))))),
    )
    | inr n ↦
        let a = S.inv c in
        let t = S.coroot i (S.neg a) in
        let first = takes_root s (S.simple i) a good (facts.simple_positive i) in
        let second = takes_torus first.0 t first.1 in
        let third = takes_n second.0 i second.1 in
        let fourth = takes_root third.0 (S.simple i) a third.1 (facts.simple_positive i) in
        takes_joined s (X (S.opposite (S.simple i)) c ∷ []) (X (S.simple i) a ∷ H t ∷ N i ∷ X (S.simple i) a ∷ [])
        (λ w. WeylLetterLemmas.opposite_is S sign laws i c w n)
        (takes_more s (X (S.simple i) a ∷ H t ∷ N i ∷ []) (X (S.simple i) a ∷ [])
        (takes_more s (X (S.simple i) a ∷ H t ∷ []) (N i ∷ [])
        (takes_more s (X (S.simple i) a ∷ []) (H t ∷ []) first second) third) fourth)
  ]

  -- x_r(a) = n_i x_(s_i r)(a') n_i'
  conjugate : (i : S.Index) (r : S.Root) (a : S.Elem) (w : Word S)
      → GroupJoined S sign (X r a ∷ w) (N i ∷ X (S.reflect i r) (S.mul (sign i (S.reflect i r)) a) ∷ Ninv i ∷ w)
  conjugate i r a w = trans (flip (cons (X r a) (RuleLemmas.n_ninv S sign laws i w))) (x_n i r a (Ninv i ∷ w))

  takes_negative : (n : ℕ) (s : Shape S) (r : S.Root) (a : S.Elem) → IsShape s → S.is_negative r ≡ true → facts.depth r < n → Takes s (X r a ∷ [])
  takes_negative zero s r a good low h = absurd (omega arith)
  takes_negative (suc n) s r a good low h = step (facts.nearer r low)
      (λ i low' less s' good'. takes_negative n s' (S.reflect i r) (S.mul (sign i (S.reflect i r)) a) good' low' (omega arith))
    where
      step : (i : S.Index) × ((r ≡ S.opposite (S.simple i)) ⊎ ((S.is_negative (S.reflect i r) ≡ true) × (facts.depth (S.reflect i r) < facts.depth r)))
          → ((i : S.Index) → S.is_negative (S.reflect i r) ≡ true → facts.depth (S.reflect i r) < facts.depth r → (s' : Shape S) → IsShape s'
          → Takes s' (X (S.reflect i r) (S.mul (sign i (S.reflect i r)) a) ∷ []))
          → Takes s (X r a ∷ [])
      step (i, inl e) known = rw e (takes_opposite s i a good)
      step (i, inr (low', less)) known =
          let b = S.mul (sign i (S.reflect i r)) a in
          let first = takes_n s i good in
          let second = known i low' less first.0 first.1 in
          let third = takes_ninv second.0 i second.1 in
          takes_joined s (X r a ∷ []) (N i ∷ X (S.reflect i r) b ∷ Ninv i ∷ []) (λ w. conjugate i r a w)
          (takes_more s (N i ∷ X (S.reflect i r) b ∷ []) (Ninv i ∷ []) (takes_more s (N i ∷ []) (X (S.reflect i r) b ∷ []) first second) third)

  -- a shape takes any letter
  pub takes_letter : (s : Shape S) (a : Letter S) → IsShape s → Takes s (a ∷ [])
  takes_letter s (X r a) good = choose (S.is_negative r) refl
    where
      choose : (b : Bool) → S.is_negative r ≡ b → Takes s (X r a ∷ [])
      choose false high = takes_root s r a good high
      choose true low = takes_negative (suc (facts.depth r)) s r a good low (omega arith)
  takes_letter s (H t) good = takes_torus s t good
  takes_letter s (N i) good = takes_n s i good
  takes_letter s (Ninv i) good = takes_ninv s i good

  -- and any word
  pub takes_word : (s : Shape S) (u : Word S) → IsShape s → Takes s u
  takes_word s [] good = (s, good, (λ w. same))
  takes_word s (a ∷ u) good = let first = takes_letter s a good in takes_more s (a ∷ []) u first (takes_word first.0 u first.1)
