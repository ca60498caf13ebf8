-- Modules in which the simple roots and their negatives have the matrices that a source gives.
use Rattle.std.proofs.Common.{◌≡◌, ℕ, zero, suc, ◌+◌, ◌-◌, ◌<◌, ◌≤◌, ℤ, pos, neg_ℤ, nat_abs, unsigned_abs, List, [], ◌∷◌, ◌++◌, length, get_or, refl, sym, ap, subst, ◌∙◌, arith, ◌⊎◌, inl, inr, ⊎_elim, Bool, true, false, cond, Result, Ok, Err, IfOk}
use Rattle.std.proofs.lemmas.List.{get_or_append_left, get_or-append-add}
use Rattle.std.specs.List.{All}
use Rattle.lie_ring.specs.Integers.{integers}
use Rattle.lie_ring.specs.Matrices.{Matrix, table, entry, zero_matrix, AllFit}
use Rattle.lie_ring.specs.MatrixLemmas.{entry-table, table-shaped}
use Rattle.lie_datum.specs.Vectors.{Vector}
use Rattle.lie_datum.specs.RootDatum.{rank, IsSimpleIndex}
use Rattle.lie_datum.proofs.Entries.{within_or_past}
use Rattle.lie_datum.proofs.SignedRoots.{opposite_number}
use Rattle.lie_datum.proofs.NumberLemmas.{place_within}
use Rattle.lie_datum.specs.RootList.{RootDatum, IsNumber, IsLoaded}
use Rattle.lie_const.specs.Modules.{Module, dimension, divided_power}
use Rattle.lie_weight.specs.declared.entry.Entry.{Entry}
use Rattle.lie_weight.specs.declared.factors.Factors.{Factors}
use Rattle.lie_weight.specs.declared.sources.Source.{Source}
use Rattle.lie_weight.specs.declared.sources.Source.TheVariants.{Steps, Entries}
use Rattle.lie_weight.specs.Kept.{IsSquare}
use Rattle.lie_weight.specs.Tables.{is_at, given_entry, given_matrix}
use Rattle.lie_weight.specs.OrbitModules.{step_entry, step_matrix}
use Rattle.lie_weight.specs.Factors.{IsBoundedBy, HasSmallPowers, AreModuleFactors}
use Rattle.lie_weight.specs.Completion.{step_powers, source_powers, IsSource, IsDraft, IsSmallDraft, Writes, IsFilled, AreAllFactors}
use Rattle.lie_orbit.proofs.WeightLemmas.{simple_some}
use Rattle.lie_weight.proofs.DraftLemmas.{number_cases, powers_other, written_power, written_draft}

-- ---- the matrix of the steps by a root
module _ (d : RootDatum) (ws : List Vector) (r : ℤ) where
  -- it is square, and fits
  pub step_square : (M : Matrix ℤ) → M ≡ step_matrix d ws r → AllFit integers M → IsSquare (length ws) M
  unfolding step_matrix
  step_square M e f = record {
    height = ap (λ (x : Matrix ℤ). x.height) e;
    width = ap (λ (x : Matrix ℤ). x.width) e;
    shaped = subst (λ (x : Matrix ℤ). x ≡ table x.height x.width (entry (pos 0) x)) (sym e) (table-shaped (pos 0) (length ws) (length ws) (step_entry d ws r));
    fit = f;
  }

  -- there is no other
  pub step_rest : (k : ℕ) → 1 ≤ k → step_powers d ws r k ≡ zero_matrix (pos 0) (length ws) (length ws)
  step_rest zero l = absurd (omega (arith, l))
  step_rest (suc k) l = refl

  entry-step : (i j : ℕ) → i < length ws → j < length ws → entry (pos 0) (step_matrix d ws r) i j ≡ step_entry d ws r i j
  unfolding step_matrix
  entry-step i j a b = entry-table (pos 0) (length ws) (length ws) (step_entry d ws r) i j a b

  small_bit : (t : Bool) → nat_abs (cond t (pos 1) (pos 0)) ≤ 100
  small_bit true = omega arith
  small_bit false = omega arith

  pub step_small : IsBoundedBy (length ws) 100 (step_matrix d ws r)
  step_small i j a b = subst (λ t. nat_abs t ≤ 100) (sym (entry-step i j a b)) (small_bit _)

-- ---- the matrix that a table gives
either_small : (t : Bool) (n : ℕ) (x y : ℤ) → nat_abs x ≤ n → nat_abs y ≤ n → nat_abs (cond t x y) ≤ n
either_small true n x y a b = a
either_small false n x y a b = b

given_small : (es : List Entry) (n : ℕ) → All (λ e. unsigned_abs e.value ≤ n) es → (r : ℤ) (k i j : ℕ) → nat_abs (given_entry es r k i j) ≤ n
given_small [] n h r k i j = omega arith
given_small (e ∷ es) n h r k i j = either_small (is_at r k i j e) n e.value (given_entry es r k i j) (h 0 e (omega arith)) (given_small es n (λ m z l. h (suc m) z (omega (arith, l))) r k i j)

pub entry-given : (n : ℕ) (es : List Entry) (r : ℤ) (k i j : ℕ) → i < n → j < n → entry (pos 0) (given_matrix n es r k) i j ≡ given_entry es r k i j
unfolding given_matrix
entry-given n es r k i j a b = entry-table (pos 0) n n (given_entry es r k) i j a b

-- ---- what a source gives has entries within 100
zero_small : (n : ℕ) → IsBoundedBy n 100 (zero_matrix (pos 0) n n)
zero_small n i j a b = subst (λ t. nat_abs t ≤ 100) (sym (entry-table (pos 0) n n (λ _ _. pos 0) i j a b)) (omega arith)

pub source_small : (d : RootDatum) (ws : List Vector) (x : Source) → IsSource d (length ws) x → (r : ℤ) (k : ℕ) → IsBoundedBy (length ws) 100 (source_powers d ws x r k)
source_small d ws Steps h r zero = step_small d ws r
source_small d ws Steps h r (suc k) = zero_small (length ws)
source_small d ws (Entries es) h r k = λ i j a b.
    subst (λ t. nat_abs t ≤ 100) (sym (entry-given (length ws) es.now r (suc k) i j a b)) (given_small es.now 100 (λ m z l. (h.0 m z l).value.1) r (suc k) i j)

-- ---- the matrices of one root are written
module _ (d : RootDatum) (g : ℤ → ℕ → Matrix ℤ) (v : Module) (s : IsDraft d v) (r : ℤ) (number : IsNumber d r) (w : Module) (h : Writes g v r w) where
  pub writes_draft : IsDraft d w
  writes_draft = subst (IsDraft d) (sym h.2) (written_draft d v s r number h.0 (g r) h.1)

  pub writes_new : (k : ℕ) → divided_power w r (suc k) ≡ g r k
  writes_new k = ap (λ (u : Module). divided_power u r (suc k)) h.2 ∙ written_power d v s r number h.0 (g r) h.1 k

  pub writes_kept : (q : ℤ) (k : ℕ) → IsNumber d q → divided_power v q (suc k) ≡ g q k → divided_power w q (suc k) ≡ g q k
  writes_kept q k n old = ⊎_elim (λ e. subst (λ (t : ℤ). divided_power w t (suc k) ≡ g t k) (sym e) (writes_new k))
      (λ o. ap (λ (u : Module). divided_power u q (suc k)) h.2 ∙ ap (λ Ns. get_or Ns k (zero_matrix (pos 0) (dimension v) (dimension v))) (powers_other d v s r number h.0 q o) ∙ old) (number_cases d q r n number)

  pub writes_weights : w.weights ≡ v.weights
  writes_weights = ap (λ (u : Module). u.weights) h.2

-- ---- the roots of a simple index
module _ (d : RootDatum) (loaded : IsLoaded d) where
  pub negative_some : (i : ℕ) → IsSimpleIndex d.base i → IsNumber d (neg_ℤ (pos i))
  negative_some i s = (opposite_number d (pos i) (simple_some d loaded i s)).0

  pub place_index : (i : ℕ) → i < rank d.base → IsSimpleIndex d.base (i + 1)
  place_index i l = (omega arith, omega (arith, l))

index_more : (j i : ℕ) → j ≤ i + 1 → (j ≤ i) ⊎ (j ≡ i + 1)
index_more zero i l = inl (omega arith)
index_more (suc zero) zero l = inr (omega arith)
index_more (suc (suc j)) zero l = absurd (omega (arith, l))
index_more (suc j) (suc i) l = ⊎_elim (λ h. inl (omega (arith, h))) (λ h. inr (omega (arith, h))) (index_more j i (omega (arith, l)))

pub two_writes : (d : RootDatum) → IsLoaded d → (g : ℤ → ℕ → Matrix ℤ) (u v w : Module) (i : ℕ) → i < rank d.base → IsFilled d g i u → Writes g u (pos (i + 1)) v → Writes g v (neg_ℤ (pos (i + 1))) w → IsFilled d g (i + 1) w
two_writes d loaded g u v w i l s a b =
    let index = place_index d loaded i l in
    let n = simple_some d loaded (i + 1) index in
    let m = negative_some d loaded (i + 1) index in
    let sv = writes_draft d g u s.draft (pos (i + 1)) n v a in
    record {
      draft = writes_draft d g v sv (neg_ℤ (pos (i + 1))) m w b;
      up = λ j k x le.
          (let q = simple_some d loaded j x in
          writes_kept d g v sv (neg_ℤ (pos (i + 1))) m w b (pos j) k q
          (⊎_elim (λ o. writes_kept d g u s.draft (pos (i + 1)) n v a (pos j) k q (s.up j k x o)) (λ e. subst (λ (t : ℕ). divided_power v (pos t) (suc k) ≡ g (pos t) k) (sym e) (writes_new d g u s.draft (pos (i + 1)) n v a k)) (index_more j i le)));
      down = λ j k x le.
          (let q = negative_some d loaded j x in
          ⊎_elim (λ o. writes_kept d g v sv (neg_ℤ (pos (i + 1))) m w b (neg_ℤ (pos j)) k q (writes_kept d g u s.draft (pos (i + 1)) n v a (neg_ℤ (pos j)) k q (s.down j k x o)))
          (λ e. subst (λ (t : ℕ). divided_power w (neg_ℤ (pos t)) (suc k) ≡ g (neg_ℤ (pos t)) k) (sym e) (writes_new d g v sv (neg_ℤ (pos (i + 1))) m w b k)) (index_more j i le));
    }

pub none_filled : (d : RootDatum) (g : ℤ → ℕ → Matrix ℤ) (v : Module) → IsDraft d v → IsFilled d g 0 v
none_filled d g v s = record {
  draft = s;
  up = λ i k x l. absurd (let p = x.0 in omega (arith, p, l));
  down = λ i k x l. absurd (let p = x.0 in omega (arith, p, l));
}

-- a module that is filled has small matrices of the simple roots
pub filled_small : (d : RootDatum) (ws : List Vector) (x : Source) (v : Module) → v.weights ≡ ws → IsSource d (length ws) x → IsFilled d (source_powers d ws x) (rank d.base) v → IsSmallDraft d v
filled_small d ws x v e h f = record {
  draft = f.draft;
  up = λ i k s. subst (IsBoundedBy (dimension v) 100) (sym (f.up i k s s.1)) (small (pos i) k);
  down = λ i k s. subst (IsBoundedBy (dimension v) 100) (sym (f.down i k s s.1)) (small (neg_ℤ (pos i)) k);
}
  where
    small : (r : ℤ) (k : ℕ) → IsBoundedBy (dimension v) 100 (source_powers d ws x r k)
    small r k = subst (λ n. IsBoundedBy n 100 (source_powers d ws x r k)) (sym (ap length e)) (source_small d ws x h r k)

-- one member more of a list
pub member_push : {A : Type 0} (P : ℕ → A → Type 0) (xs : List A) (y : A) → ((k : ℕ) (z : A) → k < length xs → P k (get_or xs k z)) → P (length xs) y → (k : ℕ) (z : A) → k < length xs + 1 → P k (get_or (xs ++ y ∷ []) k z)
member_push P xs y h p k z l =
    ⊎_elim (λ m. subst (P k) (sym (get_or_append_left xs (y ∷ []) z k m)) (h k z m))
    (λ m. (let last : k ≡ length xs = omega (arith, m, l) in
    let at : k ≡ length xs + 0 = omega (arith, last) in
    let read = ap (λ t. get_or (xs ++ y ∷ []) t z) at ∙ get_or-append-add xs (y ∷ []) 0 z in
    subst (P k) (sym read) (subst (λ t. P t y) (sym last) p))) (within_or_past k (length xs))

pub all_factors_are : (d : RootDatum) (v : Module) (fs : List Factors) (i : ℕ) → length fs ≡ i → i ≡ rank d.base → ((k : ℕ) (z : Factors) → k < i → AreModuleFactors v (k + 1) (get_or fs k z)) → AreAllFactors d v fs
all_factors_are d v fs i count whole h = record {
  count = count ∙ whole;
  each = λ j z s. by j z s;
}
  where
    by : (j : ℕ) (z : Factors) → IsSimpleIndex d.base j → AreModuleFactors v j (get_or fs (j - 1) z)
    by zero z s = absurd (let p = s.0 in omega (arith, p))
    by (suc j) z s =
        let back : suc j - 1 ≡ j = omega arith in
        let up : j + 1 ≡ suc j = omega arith in
        subst (λ t. AreModuleFactors v (suc j) (get_or fs t z)) (sym back) (subst (λ t. AreModuleFactors v t (get_or fs j z)) up (h j z (let q = s.1 in omega (arith, q, whole))))

-- a clause on `Ok` that follows from two others
pub ok_both : {A E : Type 0} (P Q R : A → Type 0) → ((x : A) → P x → Q x → R x) → (r : Result A E) → IfOk r P → IfOk r Q → IfOk r R
ok_both P Q R f (Ok x) p q = f x p q
ok_both P Q R f (Err e) p q = tt

-- ---- the simple roots of a small draft have small powers
module _ (d : RootDatum) (loaded : IsLoaded d) (v : Module) (s : IsSmallDraft d v) (i : ℕ) (x : IsSimpleIndex d.base i) where
  pub small_up : HasSmallPowers v (pos i)
  small_up = record {
    number = let p = (place_within d (pos i) (simple_some d loaded i x)).1 in let e = s.draft.shape.positive in omega (arith, p, e);
    few = s.draft.few (pos i) (simple_some d loaded i x);
    small = λ k. s.up i k x;
  }

  pub small_down : HasSmallPowers v (neg_ℤ (pos i))
  small_down = record {
    number = let p = (place_within d (neg_ℤ (pos i)) (negative_some d loaded i x)).1 in let e = s.draft.shape.positive in omega (arith, p, e);
    few = s.draft.few (neg_ℤ (pos i)) (negative_some d loaded i x);
    small = λ k. s.down i k x;
  }
