-- How a module is completed at one root, and what stays at the others.
use Rattle.std.proofs.Common.{◌≡◌, ◌≢◌, ℕ, zero, suc, ◌+◌, ◌-◌, ◌*◌, ◌<◌, ◌≤◌, ℤ, pos, negsuc, neg_ℤ, ◌+ℤ◌, nat_abs, unsigned_abs, List, length, get_or, refl, sym, ap, subst, ◌∙◌, arith, ◌⊎◌, inl, inr, ⊎_elim, cond, eqb}
use Rattle.lie_ring.specs.Rings.{sum_below}
use Rattle.lie_ring.specs.Integers.{integers}
use Rattle.lie_ring.specs.Powers.{power}
use Rattle.lie_ring.specs.Matrices.{Matrix, table, entry, product, scaled, zero_matrix}
use Rattle.lie_datum.specs.Numbers.{place}
use Rattle.lie_datum.specs.RootDatum.{rank, reflected, IsSimpleIndex}
use Rattle.lie_datum.specs.RootList.{RootDatum, root_of, height, IsNumber, IsLoaded}
use Rattle.lie_datum.proofs.Entries.{within_or_past}
use Rattle.lie_datum.proofs.SignedRoots.{same_number}
use Rattle.lie_datum.proofs.NumberLemmas.{place_within}
use Rattle.lie_datum.proofs.VectorLemmas.{abs_neg}
use Rattle.lie_const.specs.Modules.{Module, dimension, divided_powers, divided_power, root_element, weyl_element, weyl_inverse}
use Rattle.lie_const.specs.Signs.{Signs}
use Rattle.lie_weight.specs.declared.factors.Factors.{Factors}
use Rattle.lie_mat.specs.Wide.{IsHugeMatrix}
use Rattle.lie_weight.specs.Conjugation.{absolute_height, reflected_height, IsLowering, conjugated, IsConjugate, IsCompletedAt, absolute_element, absolute_weyl, work, IsHuge, IsFirstHuge, IsCompletedBelow}
use Rattle.lie_weight.specs.Factors.{AreFactors, AreModuleFactors, work_on, HasSmallWork, IsFirstHugePower, conjugate_power}
use Rattle.lie_weight.specs.Completion.{KeepsAll, with_powers, IsDraft, Extends, IsBefore, IsPartly, AreAllFactors}
use Rattle.lie_orbit.proofs.WeightLemmas.{simple_some}
use Rattle.lie_weight.proofs.StepLemmas.{negative_some}
use Rattle.lie_weight.proofs.DraftLemmas.{number_cases, powers_other, written_power, written_draft}

-- ---- a root is lowered in one way
module _ (d : RootDatum) (loaded : IsLoaded d) (r : ℤ) where
  lowered_height : (i : ℕ) (s : ℤ) → IsLowering d i r s → absolute_height d s ≡ reflected_height d i r
  lowered_height i s l = ap (λ t. unsigned_abs (height t)) l.root

  pub lowered_below : (i : ℕ) (s : ℤ) → IsLowering d i r s → absolute_height d s < absolute_height d r
  lowered_below i s l = let e = lowered_height i s l in let h = l.lower in omega (arith, e, h)

  not_less : (i j : ℕ) (s t : ℤ) → IsLowering d i r s → IsLowering d j r t → ¬ (i < j)
  not_less i j s t a b l = let h = b.least i a.index l in let k = a.lower in absurd (omega (arith, h, k))

  pub one_index : (i j : ℕ) (s t : ℤ) → IsLowering d i r s → IsLowering d j r t → i ≡ j
  one_index i j s t a b = ⊎_elim (λ l. absurd (not_less i j s t a b l)) (λ l. ⊎_elim (λ m. absurd (not_less j i t s b a m)) (λ m. omega (arith, l, m)) (within_or_past j i)) (within_or_past i j)

  pub one_lowered : (i j : ℕ) (s t : ℤ) → IsLowering d i r s → IsLowering d j r t → s ≡ t
  one_lowered i j s t a b = same_number d loaded s t a.number b.number (a.root ∙ ap (λ k. reflected d.base k (root_of d r)) (one_index i j s t a b) ∙ sym b.root)

-- ---- what a module says at a root depends on few of its lists
-- X_r(t) of the matrices of a root
abbrev element_of : ℕ → List (Matrix ℤ) → ℤ → Matrix ℤ
element_of n Ms t = table n n (λ i j. integers.add (cond (eqb i j) integers.one integers.zero) (sum_below integers (length Ms) (λ k. integers.mul (power integers t (suc k)) (integers.of_int (entry (pos 0) (get_or Ms k (zero_matrix (pos 0) n n)) i j)))))

abbrev absolute_of : ℕ → List (Matrix ℤ) → Matrix ℤ
absolute_of n Ms = table n n (λ a b. cond (eqb a b) (pos 1) (pos 0) +ℤ sum_below integers (length Ms) (λ k. pos (nat_abs (entry (pos 0) (get_or Ms k (zero_matrix (pos 0) n n)) a b))))

element_is : (v : Module) (r t : ℤ) → root_element integers v r t ≡ element_of (dimension v) (divided_powers v r) t
unfolding root_element
element_is v r t = refl

absolute_is : (v : Module) (r : ℤ) → absolute_element v r ≡ absolute_of (dimension v) (divided_powers v r)
unfolding absolute_element
absolute_is v r = refl

-- the matrices of the simple index i are the same in both
abbrev pub AgreeAt : Module → Module → ℤ → Type 0
AgreeAt v w r = divided_powers w r ≡ divided_powers v r

module _ (v w : Module) (same : w.weights ≡ v.weights) where
  size_same : dimension w ≡ dimension v
  size_same = ap length same

  element_same : (r t : ℤ) → AgreeAt v w r → root_element integers w r t ≡ root_element integers v r t
  element_same r t e = element_is w r t ∙ ap (λ n. element_of n (divided_powers w r) t) size_same ∙ ap (λ Ms. element_of (dimension v) Ms t) e ∙ sym (element_is v r t)

  absolute_same : (r : ℤ) → AgreeAt v w r → absolute_element w r ≡ absolute_element v r
  absolute_same r e = absolute_is w r ∙ ap (λ n. absolute_of n (divided_powers w r)) size_same ∙ ap (absolute_of (dimension v)) e ∙ sym (absolute_is v r)

  module _ (i : ℕ) (up : AgreeAt v w (pos i)) (down : AgreeAt v w (neg_ℤ (pos i))) where
    pub weyl_same : weyl_element integers w i ≡ weyl_element integers v i
    unfolding weyl_element
    weyl_same =
        ap (λ A. product integers A (product integers (root_element integers w (neg_ℤ (pos i)) (negsuc 0)) A)) (element_same (pos i) (pos 1) up)
        ∙ ap (λ B. product integers (root_element integers v (pos i) (pos 1)) (product integers B (root_element integers v (pos i) (pos 1)))) (element_same (neg_ℤ (pos i)) (negsuc 0) down)

    pub inverse_same : weyl_inverse integers w i ≡ weyl_inverse integers v i
    unfolding weyl_inverse
    inverse_same =
        ap (λ A. product integers A (product integers (root_element integers w (neg_ℤ (pos i)) (pos 1)) A)) (element_same (pos i) (negsuc 0) up)
        ∙ ap (λ B. product integers (root_element integers v (pos i) (negsuc 0)) (product integers B (root_element integers v (pos i) (negsuc 0)))) (element_same (neg_ℤ (pos i)) (pos 1) down)

    pub absolute_weyl_same : absolute_weyl w i ≡ absolute_weyl v i
    unfolding absolute_weyl
    absolute_weyl_same =
        ap (λ A. product integers A (product integers (absolute_element w (neg_ℤ (pos i))) A)) (absolute_same (pos i) up)
        ∙ ap (λ B. product integers (absolute_element v (pos i)) (product integers B (absolute_element v (pos i)))) (absolute_same (neg_ℤ (pos i)) down)

    pub module_factors_same : (f : Factors) → AreModuleFactors v i f → AreModuleFactors w i f
    module_factors_same f a = record {
      element = a.element ∙ sym weyl_same;
      inverse = a.inverse ∙ sym inverse_same;
      absolute = a.absolute ∙ sym absolute_weyl_same;
      factors = subst (λ n. AreFactors n f) (sym size_same) a.factors;
    }

    power_same : (s : ℤ) (k : ℕ) → 1 ≤ k → AgreeAt v w s → divided_power w s k ≡ divided_power v s k
    power_same s zero l e = absurd (omega (arith, l))
    power_same s (suc k) l e = ap (λ n. get_or (divided_powers w s) k (zero_matrix (pos 0) n n)) size_same ∙ ap (λ Ms. get_or Ms k (zero_matrix (pos 0) (dimension v) (dimension v))) e

    pub conjugated_same : (M : Matrix ℤ) → conjugated w i M ≡ conjugated v i M
    conjugated_same M = ap (λ A. product integers (product integers A M) (weyl_inverse integers w i)) weyl_same ∙ ap (product integers (product integers (weyl_element integers v i) M)) inverse_same

    pub conjugate_same : (eta : Signs) (r s : ℤ) (k : ℕ) → 1 ≤ k → AgreeAt v w r → AgreeAt v w s → IsConjugate eta v i r s k → IsConjugate eta w i r s k
    conjugate_same eta r s k l a b h =
        power_same r k l a ∙ h ∙ ap (scaled integers (power integers (eta i s) k)) (sym (conjugated_same (divided_power v s k)) ∙ ap (conjugated w i) (sym (power_same s k l b)))

    pub work_same : (s : ℤ) (k : ℕ) → 1 ≤ k → AgreeAt v w s → work w i s k ≡ work v i s k
    work_same s k l b =
        ap (λ A. work_on A (divided_power w s k)) absolute_weyl_same ∙ ap (work_on (absolute_weyl v i)) (power_same s k l b)

-- ---- the search for the index that lowers a root
module _ (d : RootDatum) (loaded : IsLoaded d) (r : ℤ) (number : IsNumber d r) where
  pub not_lowered : (n : ℕ) → rank d.base ≤ n → ((j : ℕ) → IsSimpleIndex d.base j → j ≤ n → absolute_height d r ≤ reflected_height d j r) → (i : ℕ) (s : ℤ) → ¬ IsLowering d i r s
  not_lowered n l h i s a = let k = h i a.index (let q = a.index.1 in omega (arith, q, l)) in let m = a.lower in absurd (omega (arith, k, m))

  -- the height that the code compares
  pub height_of : (i : ℕ) (s : ℤ) (z : ℤ) → z ≡ height (root_of d s) → root_of d s ≡ reflected d.base i (root_of d r) → unsigned_abs z ≡ reflected_height d i r
  height_of i s z e f = ap unsigned_abs e ∙ ap (λ t. unsigned_abs (height t)) f

  pub more_indices : (n : ℕ) → absolute_height d r ≤ reflected_height d (n + 1) r → ((j : ℕ) → IsSimpleIndex d.base j → j ≤ n → absolute_height d r ≤ reflected_height d j r) → (j : ℕ) → IsSimpleIndex d.base j → j ≤ n + 1 → absolute_height d r ≤ reflected_height d j r
  more_indices n a h j s l = ⊎_elim (λ m. h j s (omega (arith, m))) (λ m. subst (λ t. absolute_height d r ≤ reflected_height d t r) (let e : n + 1 ≡ j = omega (arith, m, l) in e) a) (within_or_past j (n + 1))

  pub is_lowered : (n : ℕ) (s : ℤ) → n < rank d.base → rank d.base < unsigned_abs r → IsNumber d s → root_of d s ≡ reflected d.base (n + 1) (root_of d r) → reflected_height d (n + 1) r < absolute_height d r → ((j : ℕ) → IsSimpleIndex d.base j → j ≤ n → absolute_height d r ≤ reflected_height d j r) → IsLowering d (n + 1) r s
  is_lowered n s l past m e low h = record {
    index = (omega arith, omega (arith, l));
    from = number;
    past = past;
    number = m;
    root = e;
    lower = low;
    least = λ j x k. h j x (omega (arith, k));
  }

-- ---- one root is completed
past_simple : (d : RootDatum) (r : ℤ) → rank d.base < unsigned_abs r → (i : ℕ) → IsSimpleIndex d.base i → pos i ≢ r
past_simple d r l i s e = let h = ap unsigned_abs e in let k = s.1 in absurd (omega (arith, h, k, l))

past_negative : (d : RootDatum) (r : ℤ) → rank d.base < unsigned_abs r → (i : ℕ) → IsSimpleIndex d.base i → neg_ℤ (pos i) ≢ r
past_negative d r l i s e = let h = ap unsigned_abs e in let k = s.1 in let m = abs_neg (pos i) in absurd (omega (arith, h, k, l, m))

-- the factors stay where the matrices of the simple roots do
module _ (d : RootDatum) (loaded : IsLoaded d) (v : Module) (draft : IsDraft d v) (r : ℤ) (number : IsNumber d r) (past : rank d.base < unsigned_abs r) (Ms : List (Matrix ℤ)) where
  abbrev u : Module
  u = with_powers v r Ms

  agree : (q : ℤ) → IsNumber d q → q ≢ r → AgreeAt v u q
  agree q n ne = ⊎_elim (λ e. absurd (ne e)) (λ o. powers_other d v draft r number Ms q o) (number_cases d q r n number)

  agree_up : (i : ℕ) → IsSimpleIndex d.base i → AgreeAt v u (pos i)
  agree_up i s = agree (pos i) (simple_some d loaded i s) (past_simple d r past i s)

  agree_down : (i : ℕ) → IsSimpleIndex d.base i → AgreeAt v u (neg_ℤ (pos i))
  agree_down i s = agree (neg_ℤ (pos i)) (negative_some d loaded i s) (past_negative d r past i s)

  pub factors_kept : (fs : List Factors) → AreAllFactors d v fs → AreAllFactors d u fs
  factors_kept fs a = record { count = a.count; each = λ i z s. module_factors_same v u refl i (agree_up i s) (agree_down i s) (get_or fs (i - 1) z) (a.each i z s) }

  -- what holds at another root of no greater absolute height stays
  module _ (eta : Signs) (q : ℤ) (n : IsNumber d q) (ne : q ≢ r) (low : absolute_height d q ≤ absolute_height d r) where
    lower_other : (i : ℕ) (s : ℤ) → IsLowering d i q s → s ≢ r
    lower_other i s l e = let h = lowered_below d loaded q i s l in let k = ap (absolute_height d) e in absurd (omega (arith, h, k, low))

    completed_kept : IsCompletedAt d eta v q → IsCompletedAt d eta u q
    completed_kept h i s k l one =
        conjugate_same v u refl i (agree_up i l.index) (agree_down i l.index) eta q s k one (agree q n ne) (agree s l.number (lower_other i s l)) (h i s k l one)

    small_kept : (k : ℕ) → ¬ IsHuge d v q k → ¬ IsHuge d u q k
    small_kept k h x =
        h (record {
          index = x.index;
          lowered = x.lowered;
          lowering = x.lowering;
          first = x.first;
          work = subst IsHugeMatrix (work_same v u refl x.index (agree_up x.index x.lowering.index) (agree_down x.index x.lowering.index) x.lowered k x.first (agree x.lowered x.lowering.number (lower_other x.index x.lowered x.lowering))) x.work;
        })

  -- the root itself
  module _ (eta : Signs) (i : ℕ) (s : ℤ) (l : IsLowering d i r s) (f : Factors) (factors : AreModuleFactors v i f) (keeps : KeepsAll (dimension v) (conjugate_power f (eta i s) v s) Ms) (small : HasSmallWork f v s) where
    s_other : s ≢ r
    s_other e = let h = lowered_below d loaded r i s l in let k = ap (absolute_height d) e in absurd (omega (arith, h, k))

    same_s : AgreeAt v u s
    same_s = agree s l.number s_other

    u_draft : IsDraft d u
    u_draft = written_draft d v draft r number Ms (conjugate_power f (eta i s) v s) keeps

    u_factors : AreModuleFactors u i f
    u_factors = module_factors_same v u refl i (agree_up i l.index) (agree_down i l.index) f factors

    s_power : (k : ℕ) → divided_power u s (suc k) ≡ divided_power v s (suc k)
    s_power k = ap (λ Ns. get_or Ns k (zero_matrix (pos 0) (dimension v) (dimension v))) same_s

    conjugate_at : (k : ℕ) → 1 ≤ k → IsConjugate eta u i r s k
    conjugate_at zero a = absurd (omega (arith, a))
    conjugate_at (suc k) a =
        written_power d v draft r number Ms (conjugate_power f (eta i s) v s) keeps k
        ∙ ap (λ A. scaled integers (power integers (eta i s) (suc k)) (product integers (product integers A (divided_power v s (suc k))) f.inverse)) u_factors.element
        ∙ ap (λ B. scaled integers (power integers (eta i s) (suc k)) (product integers (product integers (weyl_element integers u i) (divided_power v s (suc k))) B)) u_factors.inverse
        ∙ ap (λ E. scaled integers (power integers (eta i s) (suc k)) (conjugated u i E)) (sym (s_power k))

    completed_new : IsCompletedAt d eta u r
    completed_new j t k a one =
        subst (λ (x : ℕ). IsConjugate eta u x r t k) (one_index d loaded r i j s t l a) (subst (λ (x : ℤ). IsConjugate eta u i r x k) (one_lowered d loaded r i j s t l a) (conjugate_at k one))

    work_at : (k : ℕ) → 1 ≤ k → ¬ IsHugeMatrix (work u i s k)
    work_at zero a = absurd (omega (arith, a))
    work_at (suc k) a =
        subst (λ t. ¬ IsHugeMatrix t) (sym (ap (λ A. work_on A (divided_power u s (suc k))) (sym u_factors.absolute) ∙ ap (λ E. work_on f.absolute E) (s_power k))) (small k)

    small_new : (k : ℕ) → ¬ IsHuge d u r k
    small_new k x =
        work_at k x.first (subst (λ (j : ℕ). IsHugeMatrix (work u j s k)) (sym (one_index d loaded r i x.index s x.lowered l x.lowering)) (subst (λ (t : ℤ). IsHugeMatrix (work u x.index t k)) (sym (one_lowered d loaded r i x.index s x.lowered l x.lowering)) x.work))

    before_or : (q : ℤ) → IsNumber d q → IsBefore d (absolute_height d r) (place (length d.positive) r + 1) q → (q ≡ r) ⊎ ((q ≢ r) × IsBefore d (absolute_height d r) (place (length d.positive) r) q)
    before_or q n b = ⊎_elim (λ e. inl e) (λ o. inr ((λ e. o (ap (place (length d.positive)) e)), ⊎_elim (λ h. inl h) (λ h. inr (h.0, (let p = h.1 in omega (arith, p, o)))) b)) (number_cases d q r n number)

    low_from : (q : ℤ) → IsBefore d (absolute_height d r) (place (length d.positive) r) q → absolute_height d q ≤ absolute_height d r
    low_from q b = ⊎_elim (λ h. omega (arith, h)) (λ h. let e = h.0 in omega (arith, e)) b

    pub partly_new : IsPartly d eta (absolute_height d r) (place (length d.positive) r) v → IsPartly d eta (absolute_height d r) (place (length d.positive) r + 1) u
    partly_new p = record {
      draft = u_draft;
      completed = λ q n b. ⊎_elim (λ e. subst (IsCompletedAt d eta u) (sym e) completed_new) (λ o. completed_kept eta q n o.0 (low_from q o.1) (p.completed q n o.1)) (before_or q n b);
      small = λ q k n b. ⊎_elim (λ e. subst (λ (t : ℤ). ¬ IsHuge d u t k) (sym e) (small_new k)) (λ o. small_kept eta q n o.0 (low_from q o.1) k (p.small q k n o.1)) (before_or q n b);
    }

    pub extends_new : Extends d v u
    extends_new = record { shape = u_draft.shape; weights = refl; up = agree_up; down = agree_down }

-- a root that no simple reflection lowers
pub partly_none : (d : RootDatum) (eta : Signs) (v : Module) (r : ℤ) → IsNumber d r → ((i : ℕ) (s : ℤ) → ¬ IsLowering d i r s) → IsPartly d eta (absolute_height d r) (place (length d.positive) r) v → IsPartly d eta (absolute_height d r) (place (length d.positive) r + 1) v
partly_none d eta v r number none p = record {
  draft = p.draft;
  completed = λ q n b. ⊎_elim (λ e. subst (IsCompletedAt d eta v) (sym e) (λ i s k l one. absurd (none i s l))) (λ o. p.completed q n (old q o b)) (number_cases d q r n number);
  small = λ q k n b. ⊎_elim (λ e. subst (λ (t : ℤ). ¬ IsHuge d v t k) (sym e) (λ x. none x.index x.lowered x.lowering)) (λ o. p.small q k n (old q o b)) (number_cases d q r n number);
}
  where
    old : (q : ℤ) → place (length d.positive) q ≢ place (length d.positive) r → IsBefore d (absolute_height d r) (place (length d.positive) r + 1) q → IsBefore d (absolute_height d r) (place (length d.positive) r) q
    old q o b = ⊎_elim (λ h. inl h) (λ h. inr (h.0, (let m = h.1 in omega (arith, m, o)))) b

-- a root whose work is huge is the first
pub first_huge : (d : RootDatum) → IsLoaded d → (eta : Signs) (v : Module) (r : ℤ) (i : ℕ) (s : ℤ) (k : ℕ) (f : Factors) → IsLowering d i r s → AreModuleFactors v i f → IsFirstHugePower f v s k → IsPartly d eta (absolute_height d r) (place (length d.positive) r) v → IsCompletedBelow d eta v (absolute_height d r) × IsFirstHuge d v r k
first_huge d loaded eta v r i s k f l factors huge p = (
  (λ q low j t k a one. p.completed q a.from (inl low) j t k a one),
  record {
    huge = record { index = i; lowered = s; lowering = l; first = huge.first; work = subst (λ A. IsHugeMatrix (work_on A (divided_power v s k))) factors.absolute huge.huge };
    before = λ q j n b. ⊎_elim (λ h. p.small q j n (inl h)) (λ h. ⊎_elim (λ m. p.small q j n (inr (h.0, m))) (λ m x. at q j m.0 m.1 x) h.1) b;
  },
)
  where
    at : (q : ℤ) (j : ℕ) → q ≡ r → j < k → ¬ IsHuge d v q j
    at q j e m x =
        let y : IsLowering d x.index r x.lowered = subst (λ (t : ℤ). IsLowering d x.index t x.lowered) e x.lowering in
        huge.before j x.first m (subst (λ A. IsHugeMatrix (work_on A (divided_power v s j))) (sym factors.absolute)
        (subst (λ (t : ℕ). IsHugeMatrix (work v t s j)) (sym (one_index d loaded r i x.index s x.lowered l y)) (subst (λ (t : ℤ). IsHugeMatrix (work v x.index t j)) (sym (one_lowered d loaded r i x.index s x.lowered l y)) x.work)))

-- ---- a module extends another
pub extends_refl : (d : RootDatum) (v : Module) → IsDraft d v → Extends d v v
extends_refl d v s = record { shape = s.shape; weights = refl; up = λ i x. refl; down = λ i x. refl }

pub extends_trans : (d : RootDatum) (u v w : Module) → Extends d u v → Extends d v w → Extends d u w
extends_trans d u v w a b = record {
  shape = b.shape;
  weights = b.weights ∙ a.weights;
  up = λ i x. b.up i x ∙ a.up i x;
  down = λ i x. b.down i x ∙ a.down i x;
}

-- ---- the order in which the roots are completed
module _ (d : RootDatum) (eta : Signs) where
  pub partly_at : (h p : ℕ) (v : Module) (r : ℤ) → absolute_height d r ≡ h → place (length d.positive) r ≡ p → IsPartly d eta h p v → IsPartly d eta (absolute_height d r) (place (length d.positive) r) v
  partly_at h p v r e f a = subst (λ (x : ℕ). IsPartly d eta x (place (length d.positive) r) v) (sym e) (subst (λ (y : ℕ). IsPartly d eta h y v) (sym f) a)

  pub partly_after : (h p : ℕ) (v : Module) (r : ℤ) → absolute_height d r ≡ h → place (length d.positive) r ≡ p → IsPartly d eta (absolute_height d r) (place (length d.positive) r + 1) v → IsPartly d eta h (p + 1) v
  partly_after h p v r e f a = subst (λ (x : ℕ). IsPartly d eta x (p + 1) v) e (subst (λ (y : ℕ). IsPartly d eta (absolute_height d r) (y + 1) v) f a)

  -- a root of another height, or one that is not lowered, needs nothing
  pub partly_skip : (h p : ℕ) (v : Module) (r : ℤ) → IsNumber d r → place (length d.positive) r ≡ p → (absolute_height d r ≡ h → (i : ℕ) (s : ℤ) → ¬ IsLowering d i r s) → IsPartly d eta h p v → IsPartly d eta h (p + 1) v
  partly_skip h p v r number f none a = record {
    draft = a.draft;
    completed = λ q n b. ⊎_elim (λ e. ⊎_elim (λ l. a.completed q n (inl l)) (λ l i s k x one. absurd (none (ap (absolute_height d) (sym e) ∙ l.0) i s (subst (λ (t : ℤ). IsLowering d i t s) e x))) b) (λ o. a.completed q n (old q o b)) (number_cases d q r n number);
    small = λ q k n b. ⊎_elim (λ e. ⊎_elim (λ l. a.small q k n (inl l)) (λ l x. none (ap (absolute_height d) (sym e) ∙ l.0) x.index x.lowered (subst (λ (t : ℤ). IsLowering d x.index t x.lowered) e x.lowering)) b) (λ o. a.small q k n (old q o b)) (number_cases d q r n number);
  }
    where
      old : (q : ℤ) → place (length d.positive) q ≢ place (length d.positive) r → IsBefore d h (p + 1) q → IsBefore d h p q
      old q o b = ⊎_elim (λ l. inl l) (λ l. inr (l.0, (let m = l.1 in omega (arith, m, o, f)))) b

  -- all places of a height, and the start
  pub partly_level : (h p : ℕ) (v : Module) → 2 * length d.positive ≤ p → IsPartly d eta h p v → IsPartly d eta (h + 1) 0 v
  partly_level h p v l a = record {
    draft = a.draft;
    completed = λ q n b. a.completed q n (level q n b);
    small = λ q k n b. a.small q k n (level q n b);
  }
    where
      level : (q : ℤ) → IsNumber d q → IsBefore d (h + 1) 0 q → IsBefore d h p q
      level q n b = ⊎_elim (λ m. ⊎_elim (λ x. inl x) (λ x. inr ((let e : absolute_height d q ≡ h = omega (arith, m, x) in e), (let w = (place_within d q n).2 in omega (arith, w, l)))) (within_or_past (absolute_height d q) h)) (λ m. absurd (let x = m.1 in omega (arith, x))) b

  pub partly_start : (v : Module) → IsDraft d v → IsPartly d eta 0 0 v
  partly_start v s = record {
    draft = s;
    completed = λ q n b. absurd (none q b);
    small = λ q k n b. absurd (none q b);
  }
    where
      none : (q : ℤ) → IsBefore d 0 0 q → ⊥
      none q b = ⊎_elim (λ l. absurd (omega (arith, l))) (λ l. absurd (let m = l.1 in omega (arith, m))) b

  -- all heights
  module _ (h : ℕ) (v : Module) (top_is : (r : ℤ) → IsNumber d r → absolute_height d r < h) (a : IsPartly d eta h 0 v) where
    pub partly_completed : (r : ℤ) → IsCompletedAt d eta v r
    partly_completed r i s k l one = a.completed r l.from (inl (top_is r l.from)) i s k l one

    pub partly_small : (r : ℤ) (k : ℕ) → ¬ IsHuge d v r k
    partly_small r k x = a.small r k x.lowering.from (inl (top_is r x.lowering.from)) x
