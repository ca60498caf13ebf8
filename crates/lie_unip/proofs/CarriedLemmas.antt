-- A word has one collected list, and a homomorphism carries it to that of the image.
use Rattle.std.proofs.Common.{◌≡◌, ℕ, Bool, true, false, cond, not, arith, List, [], ◌∷◌, ◌++◌, map, Option, None, Some, eqb, refl, sym, ap, ap₂, ◌∙◌, zero, suc, ◌+◌, subst}
use Rattle.std.specs.Option.{option_map, unwrap_or}
use Rattle.std.specs.Prelude.{nat_lt}
use Rattle.std.specs.Map.{lookup}
use Rattle.std.specs.List.{range_with_len}
use Rattle.lie_unip.specs.Laws.{carried, CarriesAnswers}
use Rattle.lie_unip.specs.Splitting.{kept_first, chosen}
use Rattle.std.specs.List.{All}
use Rattle.lie_ring.specs.Rings.{RingOn, IsElem, IsRing, IsHom, Fits}
use Rattle.lie_ring.specs.HomLemmas.{hom_neg, hom_int}
use Rattle.lie_unip.proofs.ElementLemmas.{SomeOf, OfElements-append, inverse_word-elem, power-elem, term_word-elem, rewritten-elem}
use Rattle.lie_letters.specs.RingLetters.{OfElements, full_from, full_word, RingLetter, CommutatorTerm, power, term_word, inverse_word}
use Rattle.lie_unip.specs.Collection.{replacement, next_word, rewritten, Ends, at_end, by_step, elements, IsCollected}

-- ---- one list
some_one : {A : Type 0} (d x y : A) → Some x ≡ Some y → x ≡ y
some_one d x y e = ap (λ o. unwrap_or o d) e

-- a word has one end
pub Ends-once : {A : Type 0} (R : RingOn A) (terms : ℕ → ℕ → List CommutatorTerm) (before : ℕ → ℕ → Bool) {w y z : List (RingLetter A)} → Ends R terms before w y → Ends R terms before w z → y ≡ z
Ends-once R terms before (at_end e) (at_end f) = refl
Ends-once R terms before (at_end e) (by_step s r) = absurd (cc (sym e ∙ s))
Ends-once R terms before (by_step s r) (at_end e) = absurd (cc (sym s ∙ e))
Ends-once {A} R terms before {z = z} (by_step {v = v} s r) (by_step {v = u} t q) =
    let same : u ≡ v = some_one [] u v (sym t ∙ s) in
    Ends-once R terms before r (subst (λ (x : List (RingLetter A)). Ends R terms before x z) same q)

-- a word has one collected list
pub IsCollected-once : {A : Type 0} (R : RingOn A) (terms : ℕ → ℕ → List CommutatorTerm) (before : ℕ → ℕ → Bool) (m : ℕ) (w : List (RingLetter A)) (u v : List A)
    → IsCollected R terms before m w u → IsCollected R terms before m w v → u ≡ v
IsCollected-once R terms before m w u v c d = c.list ∙ ap (elements R m) (Ends-once R terms before c.ends d.ends) ∙ sym d.list

-- ---- carried along
pub carried-append : {A B : Type 0} (h : A → B) (v w : List (RingLetter A)) → carried h (v ++ w) ≡ carried h v ++ carried h w
carried-append h [] w = refl
carried-append h (x ∷ v) w = ap (λ z. (x.0, h x.1) ∷ z) (carried-append h v w)

module _ {A B : Type 0} (R : RingOn A) (S : RingOn B) (h : A → B) (ring : IsRing R) (target : IsRing S) (hom : IsHom R S h) where
  hom_power : (a : A) (n : ℕ) → IsElem R a → h (power R a n) ≡ power S (h a) n
  hom_power a zero p = hom.one
  hom_power a (suc n) p = hom.mul (power R a n) a (power-elem R ring a n p) p ∙ ap (λ z. S.mul z (h a)) (hom_power a n p)

  carried-term_word : (cs : List CommutatorTerm) (t u : A) → IsElem R t → IsElem R u → carried h (term_word R cs t u) ≡ term_word S cs (h t) (h u)
  carried-term_word [] t u p q = refl
  carried-term_word (c ∷ cs) t u p q =
      let tp = power R (R.neg t) c.i in
      let up = power R u c.j in
      let te = power-elem R ring (R.neg t) c.i (ring.laws.neg_elem t p) in
      let ue = power-elem R ring u c.j q in
      let tail = carried-term_word cs t u p q in
      let value : h (R.mul (R.of_int c.value) (R.mul tp up)) ≡ S.mul (S.of_int c.value) (S.mul (power S (S.neg (h t)) c.i) (power S (h u) c.j)) =
      hom.mul (R.of_int c.value) (R.mul tp up) (ring.integers.int_elem c.value) (ring.laws.mul_elem tp up te ue)
      ∙ ap₂ S.mul (hom_int R S h ring target hom c.value)
      (hom.mul tp up te ue ∙ ap₂ S.mul (hom_power (R.neg t) c.i (ring.laws.neg_elem t p) ∙ ap (λ z. power S z c.i) (hom_neg R S h ring target hom t p)) (hom_power u c.j q)) in
      ap₂ (λ (b : B) (w : List (RingLetter B)). (c.root, b) ∷ w) value tail

  -- the image of the inverse letters has the inverses of the images
  pub carried-inverse_word : (w : List (RingLetter A)) → OfElements R w → carried h (inverse_word R w) ≡ inverse_word S (carried h w)
  carried-inverse_word [] p = refl
  carried-inverse_word (x ∷ w) p =
      carried-append h (inverse_word R w) ((x.0, R.neg x.1) ∷ [])
      ∙ ap₂ (λ (v : List (RingLetter B)) (b : B). v ++ (x.0, b) ∷ []) (carried-inverse_word w p.1) (hom_neg R S h ring target hom x.1 p.0)

  put_first : (x : RingLetter A) (o : Option (List (RingLetter A))) → option_map (λ v. (x.0, h x.1) ∷ v) (option_map (carried h) o) ≡ option_map (carried h) (option_map (λ v. x ∷ v) o)
  put_first x None = refl
  put_first x (Some w) = refl

  module _ (terms : ℕ → ℕ → List CommutatorTerm) (before : ℕ → ℕ → Bool) where
    carried-replacement : (x y : RingLetter A) → IsElem R x.1 → IsElem R y.1 → carried h (replacement R terms x y) ≡ replacement S terms (x.0, h x.1) (y.0, h y.1)
    carried-replacement x y p q = elim (eqb x.0 y.0) as (λ b. carried h (cond b ((x.0, R.add x.1 y.1) ∷ []) (cond (nat_lt y.0 x.0) (y ∷ x ∷ term_word R (terms y.0 x.0) y.1 x.1) (y ∷ x ∷ inverse_word R (term_word R (terms x.0 y.0) x.1 y.1))))
        ≡ cond b ((x.0, S.add (h x.1) (h y.1)) ∷ []) (cond (nat_lt y.0 x.0) ((y.0, h y.1) ∷ (x.0, h x.1) ∷ term_word S (terms y.0 x.0) (h y.1) (h x.1)) ((y.0, h y.1) ∷ (x.0, h x.1) ∷ inverse_word S (term_word S (terms x.0 y.0) (h x.1) (h y.1))))) [
          | true ↦ ap (λ (b : B). (x.0, b) ∷ []) (hom.add x.1 y.1 p q)
          | false ↦ elim (nat_lt y.0 x.0) as (λ b. carried h (cond b (y ∷ x ∷ term_word R (terms y.0 x.0) y.1 x.1) (y ∷ x ∷ inverse_word R (term_word R (terms x.0 y.0) x.1 y.1)))
              ≡ cond b ((y.0, h y.1) ∷ (x.0, h x.1) ∷ term_word S (terms y.0 x.0) (h y.1) (h x.1)) ((y.0, h y.1) ∷ (x.0, h x.1) ∷ inverse_word S (term_word S (terms x.0 y.0) (h x.1) (h y.1)))) [
                | true ↦ ap (λ (v : List (RingLetter B)). (y.0, h y.1) ∷ (x.0, h x.1) ∷ v) (carried-term_word (terms y.0 x.0) y.1 x.1 q p)
                | false ↦ ap (λ (v : List (RingLetter B)). (y.0, h y.1) ∷ (x.0, h x.1) ∷ v)
                    (carried-inverse_word (term_word R (terms x.0 y.0) x.1 y.1) (term_word-elem R ring (terms x.0 y.0) x.1 y.1 p q) ∙ ap (inverse_word S) (carried-term_word (terms x.0 y.0) x.1 y.1 p q))
              ]
        ]

    carried-next : (x : RingLetter A) (w : List (RingLetter A)) → IsElem R x.1 → OfElements R w → next_word S terms before (x.0, h x.1) (carried h w) ≡ option_map (carried h) (next_word R terms before x w)
    carried-next x [] p q = refl
    carried-next x (y ∷ w) p q =
        let later = carried-next y w q.0 q.1 in
        elim (cond (eqb x.0 y.0) true (before y.0 x.0)) as (λ b. cond b (Some (replacement S terms (x.0, h x.1) (y.0, h y.1) ++ carried h w)) (option_map (λ v. (x.0, h x.1) ∷ v) (next_word S terms before (y.0, h y.1) (carried h w)))
        ≡ option_map (carried h) (cond b (Some (replacement R terms x y ++ w)) (option_map (λ v. x ∷ v) (next_word R terms before y w)))) [
          | true ↦ ap Some (ap (λ v. v ++ carried h w) (sym (carried-replacement x y p q.0)) ∙ sym (carried-append h (replacement R terms x y) w))
          | false ↦ ap (option_map (λ v. (x.0, h x.1) ∷ v)) later ∙ put_first x (next_word R terms before y w)
        ]

    carried-rewritten : (w : List (RingLetter A)) → OfElements R w → rewritten S terms before (carried h w) ≡ option_map (carried h) (rewritten R terms before w)
    carried-rewritten [] p = refl
    carried-rewritten (x ∷ w) p = carried-next x w p.0 p.1

    Ends-carried : {w z : List (RingLetter A)} → OfElements R w → Ends R terms before w z → Ends S terms before (carried h w) (carried h z)
    Ends-carried {w} p (at_end e) = at_end (carried-rewritten w p ∙ ap (option_map (carried h)) e)
    Ends-carried {w} p (by_step {v = v} s r) =
        by_step (carried-rewritten w p ∙ ap (option_map (carried h)) s) (Ends-carried (subst (SomeOf R) s (rewritten-elem R ring terms before w p)) r)

    carried-lookup : (r : ℕ) (w : List (RingLetter A)) → h (unwrap_or (lookup (eqb r) w) R.zero) ≡ unwrap_or (lookup (eqb r) (carried h w)) S.zero
    carried-lookup r [] = hom.zero
    carried-lookup r (x ∷ w) = elim (eqb r x.0) as (λ b. h (unwrap_or (cond b (Some x.1) (lookup (eqb r) w)) R.zero) ≡ unwrap_or (cond b (Some (h x.1)) (lookup (eqb r) (carried h w))) S.zero) [
      | true ↦ refl
      | false ↦ carried-lookup r w
    ]

    carried-elements : (a m : ℕ) (w : List (RingLetter A)) → map h (map (λ r. unwrap_or (lookup (eqb r) w) R.zero) (range_with_len a m)) ≡ map (λ r. unwrap_or (lookup (eqb r) (carried h w)) S.zero) (range_with_len a m)
    carried-elements a zero w = refl
    carried-elements a (suc m) w = ap₂ ◌∷◌ (carried-lookup a w) (carried-elements (a + 1) m w)

    -- the image of an answer is the answer to the image
    pub IsCollected-carried : (m : ℕ) (w : List (RingLetter A)) (u : List A) → OfElements R w → IsCollected R terms before m w u → IsCollected S terms before m (carried h w) (map h u)
    IsCollected-carried m w u p c = record {
      last = carried h c.last;
      ends = Ends-carried p c.ends;
      list = ap (map h) c.list ∙ carried-elements 1 m c.last;
    }

    -- ---- the answers of the calls
    carried-full_from : (s : ℕ) (u : List A) → carried h (full_from s u) ≡ full_from s (map h u)
    carried-full_from s [] = refl
    carried-full_from s (a ∷ u) = ap (λ (w : List (RingLetter B)). (s, h a) ∷ w) (carried-full_from (s + 1) u)

    chosen-carried : (choice : ℕ → Bool) (s : ℕ) (u : List A) → chosen choice S.zero s (map h u) ≡ map h (chosen choice R.zero s u)
    chosen-carried choice s [] = refl
    chosen-carried choice s (a ∷ u) = ap₂ ◌∷◌ (by (choice s)) (chosen-carried choice (s + 1) u)
      where
        by : (b : Bool) → cond b (h a) S.zero ≡ h (cond b a R.zero)
        by true = refl
        by false = sym hom.zero

    -- an answer to the image of a word is the image of the answer
    pub answer_carried : (m : ℕ) (w : List (RingLetter A)) (v : List (RingLetter B)) (u : List A) (z : List B) → OfElements R w → carried h w ≡ v
        → IsCollected R terms before m w u → IsCollected S terms before m v z → z ≡ map h u
    answer_carried m w v u z p e c d =
        IsCollected-once S terms before m v z (map h u) d (subst (λ x. IsCollected S terms before m x (map h u)) e (IsCollected-carried m w u p c))

module _ {A B : Type 0} (R : RingOn A) (S : RingOn B) (h : A → B) (ring : IsRing R) (target : IsRing S) (hom : IsHom R S h) (terms : ℕ → ℕ → List CommutatorTerm) where
  full_elements : (s : ℕ) (u : List A) → All (Fits R) u → OfElements R (full_from s u)
  full_elements s [] f = tt
  full_elements s (a ∷ u) f = ((f 0 a (omega arith)).0, full_elements (s + 1) u (λ k d l. f (suc k) d (omega (arith, l))))

  -- a homomorphism carries each answer to the answer
  pub answers_carried : CarriesAnswers R S h terms
  answers_carried = record {
    collected = λ before m w u v p c d. answer_carried R S h ring target hom terms before m w (carried h w) u v p refl c d;
    pushed = λ m u r a v z e p c d.
        answer_carried R S h ring target hom terms nat_lt m (full_word u ++ (r, a) ∷ []) (full_word (map h u) ++ (r, h a) ∷ []) v z
        (OfElements-append R (full_word u) ((r, a) ∷ []) (full_elements 1 u e.fit) (p, tt))
        (carried-append h (full_word u) ((r, a) ∷ []) ∙ ap (λ w. w ++ (r, h a) ∷ []) (carried-full_from R S h ring target hom terms nat_lt 1 u)) c d;
    multiplied = λ m u v w z e f c d.
        answer_carried R S h ring target hom terms nat_lt m (full_word u ++ full_word v) (full_word (map h u) ++ full_word (map h v)) w z
        (OfElements-append R (full_word u) (full_word v) (full_elements 1 u e.fit) (full_elements 1 v f.fit))
        (carried-append h (full_word u) (full_word v) ∙ ap₂ ◌++◌ (carried-full_from R S h ring target hom terms nat_lt 1 u) (carried-full_from R S h ring target hom terms nat_lt 1 v)) c d;
    inverted = λ m u v z e c d.
        answer_carried R S h ring target hom terms nat_lt m (inverse_word R (full_word u)) (inverse_word S (full_word (map h u))) v z
        (inverse_word-elem R ring (full_word u) (full_elements 1 u e.fit))
        (carried-inverse_word R S h ring target hom (full_word u) (full_elements 1 u e.fit) ∙ ap (inverse_word S) (carried-full_from R S h ring target hom terms nat_lt 1 u)) c d;
    split = λ m kept u v w x y e s t.
        let whole = answer_carried R S h ring target hom terms (kept_first kept) m (full_word u) (full_word (map h u)) s.whole t.whole (full_elements 1 u e.fit)
        (carried-full_from R S h ring target hom terms nat_lt 1 u) s.collected t.collected in (
          t.first ∙ ap (chosen kept S.zero 1) whole ∙ chosen-carried R S h ring target hom terms nat_lt kept 1 s.whole ∙ ap (map h) (sym s.first),
          t.second ∙ ap (chosen (λ r. not (kept r)) S.zero 1) whole ∙ chosen-carried R S h ring target hom terms nat_lt (λ r. not (kept r)) 1 s.whole ∙ ap (map h) (sym s.second),
        );
  }
