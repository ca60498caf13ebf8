-- A test that a table has the signs of the adjoint module, as they should be, with braid values 1: what it passes does. Its purpose is worked examples.
use Rattle.std.proofs.Common.{◌≡◌, ℕ, zero, suc, ◌-◌, ◌<◌, eqb, ltb, Bool, true, false, not, ◌&&◌, ◌||◌, ℤ, pos, negsuc, neg_ℤ, ◌*ℤ◌, ◌<ℤ◌, length, refl, sym, ap, ◌∙◌, subst, arith, inl, inr, ◌⊎◌, ⊎_elim}
use Rattle.std.specs.Prelude.{int_lt}
use Rattle.std.proofs.lemmas.Int.{ints}
use Rattle.std.proofs.lemmas.Bool.{and_parts, or_cases, or_left, or_right, eqb-true, lt-ltb}
use Rattle.std.proofs.lemmas.Bool.Decides.{Decides-int_eq}
use Rattle.std.specs.Ordering.{int_eq}
use Rattle.lie_datum.specs.RootDatum.{rank, cartan, IsSimpleIndex}
use Rattle.lie_datum.specs.RootList.{RootDatum, IsLoaded, IsNumber}
use Rattle.lie_weyl.specs.Orders.{order_for}
use Rattle.lie_weyl.proofs.OrderLemmas.{order_of_product}
use Rattle.lie_const.specs.StructureConstants.{Table, StandsFor}
use Rattle.lie_const.specs.Modules.{Module}
use Rattle.lie_const.specs.Signs.{SignTable, sign_entry, IsGoodSign, eta_of}
use Rattle.lie_letters.specs.Braids.{carried_sign, alternating, IsBraidValue}
use Rattle.lie_letters.specs.SignedFrames.{AreFrameSigns}
use Rattle.lie_datum.proofs.LoadedTest.{each_below, each_at, int_lt-from}
use Rattle.lie_const.proofs.TableTest.{each_number, number_at, is_equal, same_or}
use Rattle.lie_letters.proofs.AdjointTest.{adjoint_test, adjoint_from}

module _ (d : RootDatum) (n : Table) (v : Module) (t : SignTable) where
  -- ---- the tests
  abbrev eta : ℕ → ℤ → ℤ
  eta = eta_of t

  abbrev good_test : ℕ → ℤ → Bool
  good_test i s =
      (int_eq (eta i s) (pos 1) || int_eq (eta i s) (negsuc 0))
      && ((not (int_eq s (pos i) || int_eq s (neg_ℤ (pos i))) || int_eq (eta i s) (negsuc 0)) && (not (int_lt s (pos 0)) || int_eq (eta i s) (eta i (neg_ℤ s))))

  abbrev sign_test : ℕ → ℤ → Bool
  sign_test i s = int_eq (eta i s) (sign_entry d v i s) && good_test i s

  -- the product of the signs along the braid of i < j
  abbrev braid_value : ℕ → ℕ → ℤ
  braid_value i j = carried_sign d eta (alternating j i (order_for (cartan d.base i j *ℤ cartan d.base j i) - 1)) (pos i)

  abbrev braid_test : ℕ → ℕ → Bool
  braid_test i j = not (ltb i j) || int_eq (pos 1) (braid_value i j)

  abbrev pub signs_test : Bool
  signs_test =
      adjoint_test d n v && (eqb t.rank (rank d.base) && (eqb t.positive (length d.positive)
      && (each_below (rank d.base) (λ i. each_number d (sign_test (suc i))) && each_below (rank d.base) (λ i. each_below (rank d.base) (λ j. braid_test (suc i) (suc j))))))

  -- ---- what passes
  index : (P : ℕ → Type 0) → ((k : ℕ) → k < rank d.base → P (suc k)) → (i : ℕ) → IsSimpleIndex d.base i → P i
  index P h zero l = absurd (let m = l.0 in omega (arith, m))
  index P h (suc k) l = h k (let m = l.1 in omega (arith, m))

  equal_test : (a b : ℤ) → a ≡ b → int_eq a b ≡ true
  equal_test a b e = (Decides-int_eq a b).1 e

  module _ (passed : signs_test ≡ true) where
    record Parts : Type 0 where
      adjoint : adjoint_test d n v ≡ true
      same_rank : eqb t.rank (rank d.base) ≡ true
      same_count : eqb t.positive (length d.positive) ≡ true
      signs : each_below (rank d.base) (λ i. each_number d (sign_test (suc i))) ≡ true
      braids : each_below (rank d.base) (λ i. each_below (rank d.base) (λ j. braid_test (suc i) (suc j))) ≡ true

    parts : Parts
    parts =
        let p = and_parts (adjoint_test d n v) _ passed in
        let q = and_parts (eqb t.rank (rank d.base)) _ p.1 in
        let x = and_parts (eqb t.positive (length d.positive)) _ q.1 in
        let y = and_parts (each_below (rank d.base) (λ i. each_number d (sign_test (suc i)))) _ x.1 in
        record { adjoint = p.0; same_rank = q.0; same_count = x.0; signs = y.0; braids = y.1 }

    sign_at : (i : ℕ) (s : ℤ) → IsSimpleIndex d.base i → IsNumber d s → sign_test i s ≡ true
    sign_at i s h k = index (λ i. sign_test i s ≡ true) (λ m l. number_at d (sign_test (suc m)) (each_at (rank d.base) (λ i. each_number d (sign_test (suc i))) parts.signs m l) s k) i h

    good_at : (i : ℕ) (s : ℤ) → good_test i s ≡ true → IsGoodSign eta i s
    good_at i s e =
        let p = and_parts (int_eq (eta i s) (pos 1) || int_eq (eta i s) (negsuc 0)) _ e in
        let q = and_parts (not (int_eq s (pos i) || int_eq s (neg_ℤ (pos i))) || int_eq (eta i s) (negsuc 0)) _ p.1 in
        record {
          unit = ⊎_elim (λ h. inl (is_equal d _ _ h)) (λ h. inr (is_equal d _ _ h)) (or_cases (int_eq (eta i s) (pos 1)) (int_eq (eta i s) (negsuc 0)) p.0);
          own = λ h. is_equal d _ _ (same_or _ _ q.0 (ap not (⊎_elim (λ a. or_left (int_eq s (pos i)) _ (equal_test s (pos i) a)) (λ a. or_right (int_eq s (pos i)) _ (equal_test s (neg_ℤ (pos i)) a)) h)));
          opposite = λ h. is_equal d _ _ (same_or _ _ q.1 (ap not (int_lt-from s (pos 0) h)));
        }

    braid_at : (i j : ℕ) → IsSimpleIndex d.base i → IsSimpleIndex d.base j → braid_test i j ≡ true
    braid_at i j h k =
        index (λ i. braid_test i j ≡ true) (λ m l.
        index (λ j. braid_test (suc m) j ≡ true) (λ o p.
        each_at (rank d.base) (λ j. braid_test (suc m) (suc j)) (each_at (rank d.base) (λ i. each_below (rank d.base) (λ j. braid_test (suc i) (suc j))) parts.braids m l) o p) j k) i h

    -- a table that passes has the signs of a frame
    pub signs_from : IsLoaded d → StandsFor d n → AreFrameSigns d t
    signs_from loaded stands = record {
      table = record { rank = eqb-true t.rank (rank d.base) parts.same_rank; positive = eqb-true t.positive (length d.positive) parts.same_count };
      adjoint = v;
      is_adjoint = adjoint_from d n v parts.adjoint stands;
      signs = record {
        entries = λ i s h k. is_equal d _ _ (and_parts (int_eq (eta i s) (sign_entry d v i s)) _ (sign_at i s h k)).0;
        good = λ i s h k. good_at i s (and_parts (int_eq (eta i s) (sign_entry d v i s)) _ (sign_at i s h k)).1;
      };
      braids = λ i j h k l. record {
        order = order_for (cartan d.base i j *ℤ cartan d.base j i);
        is_order = order_of_product d loaded i j h k (λ e. absurd (omega (arith, l, e)));
        value = is_equal d _ _ (same_or _ _ (braid_at i j h k) (ap not (lt-ltb i j l)));
      };
    }
