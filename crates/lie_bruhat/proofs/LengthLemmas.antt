-- The length of a product of simple reflections, and its descents.
use Rattle.std.proofs.Common.{◌≡◌, ℕ, suc, zero, ◌+◌, ◌≤◌, List, [], ◌∷◌, Bool, true, false, refl, sym, ◌∙◌, ap, arith, inl, inr, length, Option, Some, None}
use Rattle.std.specs.Prelude.{cond}
use mathlib.Core.Path.{fun_ext}
use Rattle.lie_letters.specs.RootSystems.{RootSystem, RootLaws, PositiveLaws, AllPositive, Never, Once, here, there}
use Rattle.lie_bruhat.proofs.InTurn.{along, backwards, IsDescent}
use Rattle.lie_bruhat.proofs.ProductLemmas.{along_append, along_back, back_along, conjugated}

pub count : {A : Type 0} → (A → Bool) → List A → ℕ
count p [] = 0
count p (x ∷ xs) = cond (p x) 1 0 + count p xs

-- the first that passes a test
abbrev pub first_of_list : {A : Type 0} → (A → Bool) → List A → Option A
first_of_list p [] = None
first_of_list p (x ∷ xs) = cond (p x) (Some x) (first_of_list p xs)

pub first_passes : {A : Type 0} (p : A → Bool) (xs : List A) (x : A) → first_of_list p xs ≡ Some x → p x ≡ true
first_passes p [] x e = cc
first_passes p (y ∷ ys) x e = go (first_passes p ys x) (p y) refl e
  where
    go : (first_of_list p ys ≡ Some x → p x ≡ true) → (b : Bool) → p y ≡ b → cond b (Some y) (first_of_list p ys) ≡ Some x → p x ≡ true
    go rest true f g = let h : y ≡ x = cc in ap p (sym h) ∙ f
    go rest false f g = rest g

-- an element and what follows it, if there is one
abbrev pub pick : {A : Type 0} → Option A → (A → List A) → List A
pick None f = []
pick (Some x) f = x ∷ f x

module _ {A : Type 0} (p q : A → Bool) (x : A) where
  -- p and q agree but at x
  abbrev AgreeBut : List A → Type 0
  AgreeBut [] = Unit {0}
  AgreeBut (y ∷ ys) = (¬ (y ≡ x) → p y ≡ q y) × AgreeBut ys

  count_never : (xs : List A) → AgreeBut xs → Never x xs → count p xs ≡ count q xs
  unfolding count
  count_never [] a n = refl
  count_never (y ∷ ys) a n = rw (a.0 n.0, count_never ys a.1 n.1)

  pub count_once : {xs : List A} → AgreeBut xs → Once x xs → p x ≡ true → q x ≡ false → count p xs ≡ suc (count q xs)
  unfolding count
  count_once a (here {xs = xs} n) e f = rw (e, f, count_never xs a.1 n) (omega arith)
  count_once a (there {y = y} {xs = xs} n o) e f =
      let h = count_once a.1 o e f in rw (a.0 n, h) (omega arith)

module _ (D : RootSystem) (laws : RootLaws D) (opposite : D.Root → D.Root) (is_negative : D.Root → Bool) (positives : List D.Root)
    (pl : PositiveLaws D opposite is_negative positives) where
  abbrev pub length_of : List D.Index → ℕ
  length_of p = count (λ r. is_negative (along D p r)) positives

  pub along_opposite : (p : List D.Index) (r : D.Root) → along D p (opposite r) ≡ opposite (along D p r)
  along_opposite [] r = refl
  along_opposite (i ∷ p) r = ap (D.reflect i) (along_opposite p r) ∙ pl.reflect_opposite i (along D p r)

  agree : (i : D.Index) (p : List D.Index) → is_negative (along D (backwards p) (D.simple i)) ≡ true
      → (ys : List D.Root) → AllPositive D is_negative ys
      → AgreeBut (λ r. is_negative (along D p r)) (λ r. is_negative (along D (i ∷ p) r)) (opposite (along D (backwards p) (D.simple i))) ys
  agree i p low [] all = tt
  agree i p low (y ∷ ys) all =
      let not_simple : ¬ (along D p y ≡ D.simple i) = λ e.
      let back : y ≡ along D (backwards p) (D.simple i) = sym (back_along D laws p y) ∙ ap (along D (backwards p)) e in
      let h : is_negative y ≡ true = ap is_negative back ∙ low in
      let k = all.0 in cc in
      let not_opposite : ¬ (y ≡ opposite (along D (backwards p) (D.simple i))) → ¬ (along D p y ≡ opposite (D.simple i)) = λ n e.
      n (sym (back_along D laws p y) ∙ ap (along D (backwards p)) e ∙ along_opposite (backwards p) (D.simple i)) in
      ((λ n. sym (pl.sign_kept i (along D p y) not_simple (not_opposite n))), agree i p low ys all.1)

  pub shorter : (i : D.Index) (p : List D.Index) → IsDescent D i p → length_of p ≡ suc (length_of (i ∷ p))
  shorter i p descent =
      let β = along D (backwards p) (D.simple i) in
      let γ = opposite β in
      let low : is_negative β ≡ true = pl.negative_true β descent in
      let image : along D p γ ≡ opposite (D.simple i) = along_opposite p β ∙ ap opposite (along_back D laws p (D.simple i)) in
      let first : is_negative (along D p γ) ≡ true = ap is_negative image ∙ pl.simple_opposite_negative i in
      let turned : D.reflect i (along D p γ) ≡ D.simple i =
      ap (D.reflect i) image ∙ pl.reflect_opposite i (D.simple i) ∙ ap opposite (pl.reflect_simple i) ∙ pl.opposite_twice (D.simple i) in
      let second : is_negative (D.reflect i (along D p γ)) ≡ false = ap is_negative turned ∙ pl.simple_positive i in
      let agree : (ys : List D.Root) → AllPositive D is_negative ys
      → AgreeBut (λ r. is_negative (along D p r)) (λ r. is_negative (along D (i ∷ p) r)) γ ys = agree i p low in
      count_once (λ r. is_negative (along D p r)) (λ r. is_negative (along D (i ∷ p) r)) γ
      (agree positives pl.positive) (pl.listed γ (pl.negative_opposite β low)) first second

  count_same : (p q : D.Root → Bool) (xs : List D.Root) → ((r : D.Root) → p r ≡ q r) → count p xs ≡ count q xs
  unfolding count
  count_same p q [] h = refl
  count_same p q (x ∷ xs) h = rw (h x, count_same p q xs h)

  -- products that agree have one length
  pub length_same : (p q : List D.Index) → ((r : D.Root) → along D p r ≡ along D q r) → length_of p ≡ length_of q
  length_same p q h = count_same (λ r. is_negative (along D p r)) (λ r. is_negative (along D q r)) positives (λ r. ap is_negative (h r))

  pub back_same : (p q : List D.Index) → ((r : D.Root) → along D p r ≡ along D q r)
      → (r : D.Root) → along D (backwards p) r ≡ along D (backwards q) r
  back_same p q h r =
      ap (along D (backwards p)) (sym (along_back D laws q r) ∙ sym (h (along D (backwards q) r)))
      ∙ back_along D laws p (along D (backwards q) r)

  -- what is no descent lengthens
  pub longer : (i : D.Index) (p : List D.Index) → is_negative (along D (backwards p) (D.simple i)) ≡ false
      → length_of (i ∷ p) ≡ suc (length_of p)
  longer i p high =
      let image : along D (backwards (i ∷ p)) (D.simple i) ≡ opposite (along D (backwards p) (D.simple i)) =
      along_append D laws (backwards p) (i ∷ []) (D.simple i) ∙ ap (along D (backwards p)) (pl.reflect_simple i)
      ∙ along_opposite (backwards p) (D.simple i) in
      let low : is_negative (along D (backwards (i ∷ p)) (D.simple i)) ≡ true =
      ap is_negative image ∙ pl.positive_opposite (along D (backwards p) (D.simple i)) high in
      shorter i (i ∷ p) (pl.negative_is (along D (backwards (i ∷ p)) (D.simple i)) low)
      ∙ ap suc (length_same (i ∷ i ∷ p) p (λ r. laws.reflect_twice i (along D p r)))

  -- where the inverse of q makes the positive root of u s_i u^-1 negative, that reflection times q is q without a letter
  pub exchange : (q u : List D.Index) (i : D.Index) → is_negative (along D u (D.simple i)) ≡ false
      → is_negative (along D (backwards q) (along D u (D.simple i))) ≡ true
      → (q' : List D.Index) × (length q ≡ suc (length q'))
      × ((r : D.Root) → along D u (D.reflect i (along D (backwards u) (along D q r))) ≡ along D q' r)
  exchange [] u i high low = absurd (cc)
  exchange (k ∷ q) u i high low =
      let β = along D u (D.simple i) in
      let low' : is_negative (along D (backwards q) (D.reflect k β)) ≡ true =
      ap is_negative (sym (along_append D laws (backwards q) (k ∷ []) β)) ∙ low in
      elim (pl.same_root β (D.simple k)) [
        | inl e ↦ (
          q,
          refl,
          λ r.
              let y = along D q r in
              conjugated D laws u i k (along D (backwards u) (D.reflect k y)) e
              ∙ ap (D.reflect k) (along_back D laws u (D.reflect k y)) ∙ laws.reflect_twice k y,
        )
        | inr n ↦
            let not_opposite : ¬ (β ≡ opposite (D.simple k)) = λ e.
            let h : is_negative β ≡ true = ap is_negative e ∙ pl.simple_opposite_negative k in cc in
            let high' : is_negative (D.reflect k β) ≡ false = pl.sign_kept k β n not_opposite ∙ high in
            let (q', size, same) = exchange q (k ∷ u) i high' low' in (
              k ∷ q',
              ap suc size,
              λ r.
                  let y = along D q r in
                  ap (λ z. along D u (D.reflect i z)) (sym (along_append D laws (backwards u) (k ∷ []) y))
                  ∙ sym (laws.reflect_twice k (along D u (D.reflect i (along D (backwards (k ∷ u)) y))))
                  ∙ ap (D.reflect k) (same r),
            )
      ]

  count_none : (ys : List D.Root) → AllPositive D is_negative ys → count is_negative ys ≡ 0
  unfolding count
  count_none [] all = refl
  count_none (y ∷ ys) all = rw (all.0, count_none ys all.1) (omega arith)

  -- each product has a word of its length
  pub reduced : (p : List D.Index) → (q : List D.Index) × ((r : D.Root) → along D p r ≡ along D q r) × (length q ≡ length_of p)
  reduced [] = ([], (λ r. refl), sym (count_none positives pl.positive))
  reduced (i ∷ p) = step i p (reduced p) (is_negative (along D (backwards p) (D.simple i))) refl
    where
      step : (i : D.Index) (p : List D.Index)
          → (q : List D.Index) × ((r : D.Root) → along D p r ≡ along D q r) × (length q ≡ length_of p)
          → (b : Bool) → is_negative (along D (backwards p) (D.simple i)) ≡ b
          → (q : List D.Index) × ((r : D.Root) → along D (i ∷ p) r ≡ along D q r) × (length q ≡ length_of (i ∷ p))
      step i p (q, same, size) false high = (i ∷ q, (λ r. ap (D.reflect i) (same r)), ap suc size ∙ sym (longer i p high))
      step i p (q, same, size) true low =
          let low' : is_negative (along D (backwards q) (D.simple i)) ≡ true = ap is_negative (sym (back_same p q same (D.simple i))) ∙ low in
          let (q', size', same') = exchange q [] i (pl.simple_positive i) low' in
          let short = shorter i p (pl.negative_is (along D (backwards p) (D.simple i)) low) in
          (q', (λ r. ap (D.reflect i) (same r) ∙ same' r), omega arith)

  -- no product is longer than its word
  pub length_le : (p : List D.Index) → length_of p ≤ length p
  length_le [] = rw (count_none positives pl.positive) (omega arith)
  length_le (i ∷ p) = step i p (length_le p) (is_negative (along D (backwards p) (D.simple i))) refl
    where
      step : (i : D.Index) (p : List D.Index) → length_of p ≤ length p
          → (b : Bool) → is_negative (along D (backwards p) (D.simple i)) ≡ b → length_of (i ∷ p) ≤ length (i ∷ p)
      step i p h false high = omega (arith, longer i p high)
      step i p h true low = omega (arith, shorter i p (pl.negative_is (along D (backwards p) (D.simple i)) low))

  -- a product that is not 1 has a descent
  pub some_descent : (p : List D.Index) (n : ℕ) → length_of p ≡ suc n
      → (i : D.Index) × (is_negative (along D (backwards p) (D.simple i)) ≡ true)
  some_descent p n e = go (reduced p)
    where
      choose : (i : D.Index) (q : List D.Index) → ((r : D.Root) → along D p r ≡ along D (i ∷ q) r) → length (i ∷ q) ≡ length_of p
          → (b : Bool) → is_negative (along D (backwards p) (D.simple i)) ≡ b
          → (i : D.Index) × (is_negative (along D (backwards p) (D.simple i)) ≡ true)
      choose i q same size true low = (i, low)
      choose i q same size false high =
          let long = longer i p high in
          let rest = length_same (i ∷ p) q (λ r. ap (D.reflect i) (same r) ∙ laws.reflect_twice i (along D q r)) in
          let bound = length_le q in
          absurd (omega arith)

      go : (q : List D.Index) × ((r : D.Root) → along D p r ≡ along D q r) × (length q ≡ length_of p)
          → (i : D.Index) × (is_negative (along D (backwards p) (D.simple i)) ≡ true)
      go ([], same, size) = absurd (omega arith)
      go (i ∷ q, same, size) = choose i q same size (is_negative (along D (backwards p) (D.simple i))) refl

  module _ (indices : List D.Index) (complete : (test : D.Index → Bool) (i : D.Index) → test i ≡ true
      → (j : D.Index) × (first_of_list test indices ≡ Some j)) where
    -- whether i is a descent of p
    abbrev pub descends_at : List D.Index → D.Index → Bool
    descends_at p i = is_negative (along D (backwards p) (D.simple i))

    -- the word that begins with the first descent each time
    abbrev pub greedy : ℕ → List D.Index → List D.Index
    greedy zero p = []
    greedy (suc n) p = pick (first_of_list (descends_at p) indices) (λ i. greedy n (i ∷ p))

    greedy_same : (n : ℕ) (p q : List D.Index) → ((r : D.Root) → along D p r ≡ along D q r) → greedy n p ≡ greedy n q
    greedy_same zero p q h = refl
    greedy_same (suc n) p q h =
        let tests : descends_at p ≡ descends_at q = fun_ext (λ i. ap is_negative (back_same p q h (D.simple i))) in
        let rests : (λ (i : D.Index). greedy n (i ∷ p)) ≡ (λ (i : D.Index). greedy n (i ∷ q)) =
        fun_ext (λ i. greedy_same n (i ∷ p) (i ∷ q) (λ r. ap (D.reflect i) (h r))) in
        ap (λ t. pick (first_of_list t indices) (λ i. greedy n (i ∷ p))) tests
        ∙ ap (pick (first_of_list (descends_at q) indices)) rests

    abbrev pub word_of : List D.Index → List D.Index
    word_of p = greedy (length_of p) p

    pub word_same : (p q : List D.Index) → ((r : D.Root) → along D p r ≡ along D q r) → word_of p ≡ word_of q
    word_same p q h = ap (λ n. greedy n p) (length_same p q h) ∙ greedy_same (length_of q) p q h

    pub word_begins : (p : List D.Index) (n : ℕ) → length_of p ≡ suc n
        → (i : D.Index) × IsDescent D i p × (word_of p ≡ i ∷ word_of (i ∷ p))
    word_begins p n e =
        let (j, low) = some_descent p n e in
        let (i, found) = complete (descends_at p) j low in
        let yes : descends_at p i ≡ true = first_passes (descends_at p) indices i found in
        let descent = pl.negative_is (along D (backwards p) (D.simple i)) yes in
        let short = shorter i p descent in
        let n' : n ≡ length_of (i ∷ p) = omega arith in (
          i,
          descent,
          ap (λ k. greedy k p) e ∙ ap (λ o. pick o (λ i. greedy n (i ∷ p))) found ∙ ap (λ k. i ∷ greedy k (i ∷ p)) n',
        )
