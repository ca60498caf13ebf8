-- Signs that are tested one after another.
use Rattle.std.proofs.Common.{◌≡◌, ◌⊎◌, ℕ, zero, suc, ◌+◌, ◌-◌, ◌*◌, ◌<◌, ◌≤◌, ℤ, pos, negsuc, neg_ℤ, ◌<ℤ◌, unsigned_abs, List, [], ◌∷◌, ◌++◌, length, get_or, refl, sym, ap, ap₂, subst, ◌∙◌, inl, inr, arith, ⊎_elim}
use Rattle.std.specs.List.{All}
use Rattle.std.proofs.Math.Nat.{mul-le-mul_right}
use Rattle.std.proofs.lemmas.Int.{ints}
use Rattle.std.proofs.lemmas.List.{get_or_append_left}
use Rattle.std.proofs.lemmas.List.Elements.{All-get_or, All-from_get_or}
use Rattle.lie_datum.specs.Numbers.{place, number_at}
use Rattle.lie_datum.specs.RootDatum.{rank, IsSimpleIndex}
use Rattle.lie_datum.specs.RootList.{RootDatum, IsNumber}
use Rattle.lie_datum.proofs.Entries.{within_or_past}
use Rattle.lie_datum.proofs.NumberLemmas.{place_within, numbered_at}
use Rattle.lie_datum.proofs.SignedRoots.{same_place, opposite_number}
use Rattle.lie_const.specs.Modules.{Module}
use Rattle.lie_const.specs.Signs.{Signs, sign_entry, IsGoodSign, eta_of, IsSignList}
use Rattle.lie_weight.proofs.MatrixLists.{get_or-last, length-push}
use Rattle.lie_audit.specs.SignAnswers.{AreTestedSigns}
use Rattle.lie_audit.specs.SignParts.{IsSign, ComesBefore, AreTested, IsAsked}

-- which of two numbers is less
pub compare : (a b : ℕ) → (a < b) ⊎ ((b < a) ⊎ (a ≡ b))
compare a b = ⊎_elim (λ l. inl l) (λ l. ⊎_elim (λ k. inr (inl k)) (λ k. inr (inr (omega (arith, l, k)))) (within_or_past b a)) (within_or_past a b)

-- what is asked of a sign is that it is good
pub good_from_asked : (eta : Signs) (i : ℕ) (s value other : ℤ) → value ≡ eta i s → (s <ℤ pos 0 → other ≡ eta i (neg_ℤ s)) → IsAsked i s value other → IsGoodSign eta i s
good_from_asked eta i s value other e f a = record {
  unit = subst IsSign e a.unit;
  own = λ o. sym e ∙ a.own o;
  opposite = λ n. sym e ∙ a.opposite n ∙ f n;
}

pub asked_from_good : (eta : Signs) (i : ℕ) (s value other : ℤ) → value ≡ eta i s → (s <ℤ pos 0 → other ≡ eta i (neg_ℤ s)) → IsGoodSign eta i s → IsAsked i s value other
asked_from_good eta i s value other e f g = record {
  unit = subst IsSign (sym e) g.unit;
  own = λ o. e ∙ g.own o;
  opposite = λ n. e ∙ g.opposite n ∙ sym (f n);
}

-- signs that agree at s and at its opposite are good together
pub good_same : (eta zeta : Signs) (i : ℕ) (s : ℤ) → eta i s ≡ zeta i s → eta i (neg_ℤ s) ≡ zeta i (neg_ℤ s) → IsGoodSign zeta i s → IsGoodSign eta i s
good_same eta zeta i s e f g = record { unit = subst IsSign (sym e) g.unit; own = λ o. e ∙ g.own o; opposite = λ n. e ∙ g.opposite n ∙ sym f }

-- a row of n places ends where the next begins
row_ends : (a b n : ℕ) → a < b → a * n + n ≤ b * n
row_ends a b n l = let one : suc a ≤ b = omega (arith, l) in let more = mul-le-mul_right n one in let e : suc a * n ≡ a * n + n = omega arith in omega (arith, more, e)

next_row : (i n : ℕ) → 1 ≤ i → (i - 1) * n + n ≡ (i + 1 - 1) * n + 0
next_row zero n h = absurd (omega arith)
next_row (suc i) n h =
    let a : suc i - 1 ≡ i = omega arith in
    let b : suc i + 1 - 1 ≡ suc i = omega arith in
    let c : suc i * n ≡ i * n + n = omega arith in
    let d : i * n + n ≡ suc i * n + 0 = omega (arith, c) in
    ap (λ k. k * n + n) a ∙ d ∙ ap (λ k. k * n + 0) (sym b)

-- the root at a place stands there
pub place_at : (d : RootDatum) (h m : ℕ) (r : ℤ) → m ≡ length d.positive → h < 2 * m → r ≡ number_at m h → place (length d.positive) r ≡ h
place_at d h m r e l q = ap (place (length d.positive)) (q ∙ ap (λ k. number_at k h) e) ∙ (numbered_at d h (omega (arith, l, e))).place

module _ (d : RootDatum) (v : Module) where
  -- no sign yet
  pub none_tested : (xs : List ℤ) → xs ≡ [] → AreTested d v xs 1 0
  none_tested xs e = record {
    count = ap length e ∙ (let z : 0 ≡ (1 - 1) * (2 * length d.positive) + 0 = omega arith in z);
    units = subst (All IsSign) (sym e) (λ i x l. absurd (omega (arith, l)));
    values = λ j r h n o. absurd (⊎_elim (λ l. (let a = h.0 in omega (arith, l, a))) (λ f. (let l = f.1 in omega (arith, l))) o);
    good = λ j r h n o. absurd (⊎_elim (λ l. (let a = h.0 in omega (arith, l, a))) (λ f. (let l = f.1 in omega (arith, l))) o);
  }

  -- what is listed before stands before
  place_before : (i h j : ℕ) (r : ℤ) → IsSimpleIndex d.base j → IsNumber d r → ComesBefore d i h j r → (j - 1) * (2 * length d.positive) + place (length d.positive) r < (i - 1) * (2 * length d.positive) + h
  place_before i h j r a b o = ⊎_elim
      (λ l. (let p = (place_within d r b).2 in let one = a.0 in let row = row_ends (j - 1) (i - 1) (2 * length d.positive) (omega (arith, l, one)) in omega (arith, p, row)))
      (λ f. (let l = f.1 in let e = ap (λ k. (k - 1) * (2 * length d.positive)) f.0 in omega (arith, l, e)))
      o

  -- the sign at the opposite of a negative root stands before
  pub other_is : (xs : List ℤ) (i : ℕ) (s : ℤ) → IsSimpleIndex d.base i → IsNumber d s → s <ℤ pos 0 → AreTested d v xs i (place (length d.positive) s) →
      get_or xs ((i - 1) * (2 * length d.positive) + place (length d.positive) (neg_ℤ s)) (pos 1) ≡ sign_entry d v i (neg_ℤ s)
  other_is xs i s a n neg t = t.values i (neg_ℤ s) a (opposite_number d s n).0 (inr (refl, before s neg (place_within d s n) (place_within d (neg_ℤ s) (opposite_number d s n).0)))
    where
      before : (k : ℤ) → k <ℤ pos 0 → (1 ≤ unsigned_abs k) × (unsigned_abs k ≤ length d.positive) × (place (length d.positive) k < 2 * length d.positive) →
          (1 ≤ unsigned_abs (neg_ℤ k)) × (unsigned_abs (neg_ℤ k) ≤ length d.positive) × (place (length d.positive) (neg_ℤ k) < 2 * length d.positive) → place (length d.positive) (neg_ℤ k) < place (length d.positive) k
      before (pos k) l p q = absurd (omega (arith, ints, l))
      before (negsuc k) l p q = let a = p.1 in omega (arith, a)

  -- one sign more
  pub more_tested : (xs ys : List ℤ) (i : ℕ) (s x : ℤ) → IsNumber d s → AreTested d v xs i (place (length d.positive) s) → x ≡ sign_entry d v i s → IsGoodSign (sign_entry d v) i s → ys ≡ xs ++ x ∷ [] →
      AreTested d v ys i (place (length d.positive) s + 1)
  more_tested xs ys i s x a t e g q =
      let m = length d.positive in
      let h = place m s in
      let count = t.count in
      let here = λ (j : ℕ) (r : ℤ) (n : IsNumber d r) (f : (j ≡ i) × (place m r < h + 1)) (l : h ≤ place m r). same_place m r s (place_within d r n) (place_within d s a) (let k = f.1 in omega (arith, k, l)) in
      subst (λ zs. AreTested d v zs i (h + 1)) (sym q) (record {
        count = let k = length-push xs x in omega (arith, k, count);
        units = All-from_get_or IsSign (xs ++ x ∷ []) (pos 1) (λ k l. ⊎_elim
            (λ b. subst IsSign (sym (get_or_append_left xs (x ∷ []) (pos 1) k b)) (All-get_or IsSign xs k (pos 1) b t.units))
            (λ b. (let e' : k ≡ length xs = let len = length-push xs x in omega (arith, l, b, len) in subst IsSign (sym (get_or-last xs x (pos 1) k e')) (subst IsSign (sym e) g.unit)))
            (within_or_past k (length xs)));
        values = λ j r b n o. ⊎_elim
            (λ l. old xs x i h j r (pos 1) count (place_before i h j r b n (inl l)) ∙ t.values j r b n (inl l))
            (λ f. ⊎_elim
            (λ l. old xs x i h j r (pos 1) count (place_before i h j r b n (inr (f.0, l))) ∙ t.values j r b n (inr (f.0, l)))
            (λ l. (let same = here j r n f l in
            get_or-last xs x (pos 1) ((j - 1) * (2 * m) + place m r) (ap₂ (λ k z. (k - 1) * (2 * m) + place m z) f.0 same ∙ sym count) ∙ e ∙ ap₂ (sign_entry d v) (sym f.0) (sym same)))
            (within_or_past (place m r) h))
            o;
        good = λ j r b n o. ⊎_elim
            (λ l. t.good j r b n (inl l))
            (λ f. ⊎_elim
            (λ l. t.good j r b n (inr (f.0, l)))
            (λ l. (let same = here j r n f l in subst (λ z. IsGoodSign (sign_entry d v) j z) (sym same) (subst (λ k. IsGoodSign (sign_entry d v) k s) (sym f.0) g)))
            (within_or_past (place m r) h))
            o;
      })
    where
      old : (xs : List ℤ) (x : ℤ) (i h j : ℕ) (r : ℤ) (z : ℤ) → length xs ≡ (i - 1) * (2 * length d.positive) + h → (j - 1) * (2 * length d.positive) + place (length d.positive) r < (i - 1) * (2 * length d.positive) + h →
          get_or (xs ++ x ∷ []) ((j - 1) * (2 * length d.positive) + place (length d.positive) r) z ≡ get_or xs ((j - 1) * (2 * length d.positive) + place (length d.positive) r) z
      old xs x i h j r z count l = get_or_append_left xs (x ∷ []) z ((j - 1) * (2 * length d.positive) + place (length d.positive) r) (omega (arith, count, l))

  -- the next simple index
  pub row_tested : (xs : List ℤ) (i : ℕ) → 1 ≤ i → AreTested d v xs i (2 * length d.positive) → AreTested d v xs (i + 1) 0
  row_tested xs i one t = record {
    count = t.count ∙ next_row i (2 * length d.positive) one;
    units = t.units;
    values = λ j r b n o. t.values j r b n (before j r n o);
    good = λ j r b n o. t.good j r b n (before j r n o);
  }
    where
      before : (j : ℕ) (r : ℤ) → IsNumber d r → ComesBefore d (i + 1) 0 j r → ComesBefore d i (2 * length d.positive) j r
      before j r n o = ⊎_elim
          (λ l. ⊎_elim (λ k. inl k) (λ k. inr ((omega (arith, l, k)), (place_within d r n).2)) (within_or_past j i))
          (λ f. absurd (let l = f.1 in omega (arith, l)))
          o

  -- all signs
  module _ (xs : List ℤ) (t : AreTested d v xs (rank d.base + 1) 0) where
    pub tested_list : IsSignList (rank d.base) (length d.positive) xs
    tested_list = record {
      count = let e : rank d.base + 1 - 1 ≡ rank d.base = omega arith in let c = t.count ∙ ap (λ k. k * (2 * length d.positive) + 0) e in omega (arith, c);
      units = t.units;
    }

    pub all_tested : AreTestedSigns d v (record { rank = rank d.base; positive = length d.positive; signs = xs })
    all_tested = record {
      table = record { rank = refl; positive = refl };
      signs = record {
        entries = λ i s a b. t.values i s a b (inl (let l = a.1 in omega (arith, l)));
        good = λ i s a b. (let g = t.good i s a b (inl (let l = a.1 in omega (arith, l))) in
            let e = t.values i s a b (inl (let l = a.1 in omega (arith, l))) in
            let f = t.values i (neg_ℤ s) a (opposite_number d s b).0 (inl (let l = a.1 in omega (arith, l))) in
            good_same (eta_of (record { rank = rank d.base; positive = length d.positive; signs = xs })) (sign_entry d v) i s e f g);
      };
    }
