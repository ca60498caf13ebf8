-- A module that is being made: the matrices of one root are written, and those of the others stay.
use Rattle.std.proofs.Common.{◌≡◌, ◌≢◌, ℕ, zero, suc, ◌+◌, ◌-◌, ◌*◌, ◌<◌, ◌≤◌, ℤ, pos, List, [], ◌∷◌, ◌++◌, length, get_or, set, replicate, refl, sym, ap, subst, ◌∙◌, arith, ◌⊎◌, inl, inr, ⊎_elim, length-set, length-append}
use Rattle.std.proofs.lemmas.List.{get_or-set_same, get_or-set_other, length-replicate, get_or-replicate, get_or_append_left, get_or-append-add}
use Rattle.std.proofs.lemmas.List.Elements.{All-push}
use Rattle.std.proofs.lemmas.Bool.{cases_eq}
use Rattle.std.specs.List.{All}
use Rattle.lie_ring.specs.Matrices.{Matrix, table, entry, zero_matrix}
use Rattle.lie_datum.specs.Vectors.{Vector}
use Rattle.lie_datum.specs.Numbers.{place}
use Rattle.lie_datum.specs.RootList.{RootDatum, IsNumber}
use Rattle.lie_datum.proofs.Entries.{within_or_past}
use Rattle.lie_datum.proofs.NumberLemmas.{place_within}
use Rattle.lie_datum.proofs.SignedRoots.{same_place}
use Rattle.lie_const.specs.Modules.{Module, dimension, divided_powers, divided_power, top}
use Rattle.lie_weight.specs.Kept.{IsSquare, ArePowers}
use Rattle.lie_weight.specs.Completion.{matrix_at, IsTrimmed, KeepsAll, IsDraft, with_powers}

-- ---- the start
pub all_empty : (n k : ℕ) → All (ArePowers n) (replicate k [])
all_empty n zero i z l = absurd (omega (arith, l))
all_empty n (suc k) zero z l = record { few = omega arith; squares = λ j y m. absurd (omega (arith, m)) }
all_empty n (suc k) (suc i) z l = all_empty n k i z (omega (arith, l))

pub bare_draft : (d : RootDatum) (positive : ℕ) (ws : List Vector) → positive ≡ length d.positive → IsDraft d (record { positive = positive; weights = ws; powers = replicate (2 * positive) [] })
bare_draft d positive ws e = record {
  shape = record {
    positive = e;
    roots = length-replicate {A = List (Matrix ℤ)} (2 * positive) [] ∙ ap (λ m. 2 * m) e;
    square = λ r k n l. absurd (let o = none r n in omega (arith, l, o));
    last = λ r k n t. absurd (let o = none r n in omega (arith, t, o));
  };
  few = λ r n. (let o = none r n in omega (arith, o));
}
  where
    none : (r : ℤ) → IsNumber d r → length (get_or {A = List (Matrix ℤ)} (replicate (2 * positive) []) (place positive r) []) ≡ 0
    none r n = let w = (place_within d r n).2 in
        ap (λ (Ms : List (Matrix ℤ)). length Ms) (get_or-replicate {A = List (Matrix ℤ)} (2 * positive) (place positive r) [] [] (subst (λ m. place m r < 2 * m) (sym e) w))

-- ---- one root is written
-- the same number, or another place
pub number_cases : (d : RootDatum) (q r : ℤ) → IsNumber d q → IsNumber d r → (q ≡ r) ⊎ (place (length d.positive) q ≢ place (length d.positive) r)
number_cases d q r n m = ⊎_elim (λ e. inl (same_place (length d.positive) q r (place_within d q n) (place_within d r m) e)) (λ e. inr e) (cases_eq (place (length d.positive) q) (place (length d.positive) r))

pub written : (a now : Module) (p : ℕ) (r : ℤ) (Ms : List (Matrix ℤ)) → a ≡ now → p ≡ place now.positive r → ◌≡◌ {A = Module} (record { positive = a.positive; weights = a.weights; powers = set a.powers p Ms }) (with_powers now r Ms)
written a now p r Ms e f = ap (λ (b : Module). record { positive = b.positive; weights = b.weights; powers = set b.powers p Ms }) e ∙ ap (λ (t : ℕ). record { positive = now.positive; weights = now.weights; powers = set now.powers t Ms }) f

module _ (d : RootDatum) (v : Module) (s : IsDraft d v) (r : ℤ) (number : IsNumber d r) (Ms : List (Matrix ℤ)) where
  abbrev w : Module
  w = with_powers v r Ms

  r_within : place v.positive r < length v.powers
  r_within = let p = (place_within d r number).2 in let e = s.shape.positive in let l = s.shape.roots in
      subst (λ m. place m r < length v.powers) (sym e) (omega (arith, p, l))

  -- the root has the new matrices, and the others have theirs
  pub powers_same : divided_powers w r ≡ Ms
  powers_same = get_or-set_same v.powers (place v.positive r) Ms [] r_within

  pub powers_other : (q : ℤ) → place (length d.positive) q ≢ place (length d.positive) r → divided_powers w q ≡ divided_powers v q
  powers_other q n =
      let e = s.shape.positive in
      get_or-set_other v.powers (place v.positive r) (place v.positive q) Ms [] (λ h. n (ap (λ m. place m q) (sym e) ∙ h ∙ ap (λ m. place m r) e))

  module _ (f : ℕ → Matrix ℤ) (keeps : KeepsAll (dimension v) f Ms) where
    pub written_power : (k : ℕ) → divided_power w r (suc k) ≡ f k
    written_power k = ap (λ Ns. get_or Ns k (zero_matrix (pos 0) (dimension v) (dimension v))) powers_same ∙ keeps.each k

    square_at : (k : ℕ) → k < length Ms → get_or Ms k (zero_matrix (pos 0) (dimension v) (dimension v)) ≡ table (dimension v) (dimension v) (entry (pos 0) (get_or Ms k (zero_matrix (pos 0) (dimension v) (dimension v))))
    square_at k l =
        let M = get_or Ms k (zero_matrix (pos 0) (dimension v) (dimension v)) in
        let q : IsSquare (dimension v) M = keeps.squares k (zero_matrix (pos 0) (dimension v) (dimension v)) l in
        q.shaped ∙ ap (λ h. table h M.width (entry (pos 0) M)) q.height ∙ ap (λ u. table (dimension v) u (entry (pos 0) M)) q.width

    pub written_draft : IsDraft d w
    written_draft = record {
      shape = record {
        positive = s.shape.positive;
        roots = length-set v.powers (place v.positive r) Ms ∙ s.shape.roots;
        square = λ q k n l. ⊎_elim (λ e. subst (λ t. k < length (divided_powers w t) → divided_power w t (suc k) ≡ table (dimension v) (dimension v) (entry (pos 0) (divided_power w t (suc k)))) (sym e)
            (subst (λ Ns. k < length Ns → get_or Ns k (zero_matrix (pos 0) (dimension v) (dimension v)) ≡ table (dimension v) (dimension v) (entry (pos 0) (get_or Ns k (zero_matrix (pos 0) (dimension v) (dimension v))))) (sym powers_same) (square_at k)) l)
            (λ o. (let same = powers_other q o in
            subst (λ Ns. get_or Ns k (zero_matrix (pos 0) (dimension v) (dimension v)) ≡ table (dimension v) (dimension v) (entry (pos 0) (get_or Ns k (zero_matrix (pos 0) (dimension v) (dimension v))))) (sym same)
            (s.shape.square q k n (subst (λ Ns. k < length Ns) same l)))) (number_cases d q r n number);
        last = λ q k n t. ⊎_elim (λ e. subst (λ u. length (divided_powers w u) ≡ suc k → divided_power w u (suc k) ≢ zero_matrix (pos 0) (dimension v) (dimension v)) (sym e)
            (subst (λ Ns. length Ns ≡ suc k → get_or Ns k (zero_matrix (pos 0) (dimension v) (dimension v)) ≢ zero_matrix (pos 0) (dimension v) (dimension v)) (sym powers_same) (λ u z. keeps.last k u (sym (keeps.each k) ∙ z))) t)
            (λ o. (let same = powers_other q o in
            subst (λ Ns. get_or Ns k (zero_matrix (pos 0) (dimension v) (dimension v)) ≢ zero_matrix (pos 0) (dimension v) (dimension v)) (sym same)
            (s.shape.last q k n (ap (λ (Ns : List (Matrix ℤ)). length Ns) (sym same) ∙ t)))) (number_cases d q r n number);
      };
      few = λ q n. ⊎_elim (λ e. subst (λ t. length (divided_powers w t) ≤ 16) (sym e) (subst (λ (Ns : List (Matrix ℤ)). length Ns ≤ 16) (sym powers_same) keeps.few))
          (λ o. subst (λ (Ns : List (Matrix ℤ)). length Ns ≤ 16) (sym (powers_other q o)) (s.few q n)) (number_cases d q r n number);
    }

-- matrices that may be kept, where one weight has none
pub keeps_powers : (n : ℕ) (f : ℕ → Matrix ℤ) (Ms : List (Matrix ℤ)) → 1 ≤ n → (n ≡ 1 → (k : ℕ) → f k ≡ zero_matrix (pos 0) n n) → KeepsAll n f Ms → ArePowers n Ms
keeps_powers n f Ms some alone k = record {
  few = ⊎_elim (λ l. none (length Ms) refl (omega (arith, l, some))) (λ l. (let m = k.few in omega (arith, l, m))) (within_or_past n 2);
  squares = k.squares;
}
  where
    none : (m : ℕ) → length Ms ≡ m → n ≡ 1 → length Ms ≤ 16 * (n - 1)
    none zero e one = omega (arith, e)
    none (suc j) e one = absurd (k.last j e (alone one j))

-- ---- powers past the first
pub past_end : (Ns : List (Matrix ℤ)) (k : ℕ) (z : Matrix ℤ) → length Ns ≤ k → get_or Ns k z ≡ z
past_end [] k z l = refl
past_end (N ∷ Ns) zero z l = absurd (omega (arith, l))
past_end (N ∷ Ns) (suc k) z l = past_end Ns k z (omega (arith, l))

-- E^(k) is 0 past the last that is kept
pub past_top : (v : Module) (r : ℤ) (k : ℕ) → top v r ≤ k → divided_power v r (suc k) ≡ zero_matrix (pos 0) (dimension v) (dimension v)
past_top v r k l = past_end (divided_powers v r) k (zero_matrix (pos 0) (dimension v) (dimension v)) l

-- ---- trimming
-- a trimmed list of at most 16 matrices keeps what the list has
pub trimmed_keeps : (n : ℕ) (f : ℕ → Matrix ℤ) (Ms Ns : List (Matrix ℤ)) → length Ms ≤ 16 → ((k : ℕ) → matrix_at n Ms k ≡ f k) → IsTrimmed n Ms Ns → KeepsAll n f Ns
trimmed_keeps n f Ms Ns l h t = record {
  few = let a = t.few in omega (arith, a, l);
  each = λ k. t.each k ∙ h k;
  last = λ k e z. t.last k e (t.each k ∙ h k ∙ z);
  squares = t.squares;
}

-- ---- lists that grow
-- the first c of the matrices f
pub record AreFirst (n : ℕ) (f : ℕ → Matrix ℤ) (c : ℕ) (Ms : List (Matrix ℤ)) : Type 0 where
  pub count : length Ms ≡ c
  pub each : (k : ℕ) → k < c → matrix_at n Ms k ≡ f k
  pub squares : All (IsSquare n) Ms

pub first_none : (n : ℕ) (f : ℕ → Matrix ℤ) (Ms : List (Matrix ℤ)) → Ms ≡ [] → AreFirst n f 0 Ms
first_none n f Ms e = record { count = ap (λ (Ns : List (Matrix ℤ)). length Ns) e; each = λ k l. absurd (omega (arith, l)); squares = subst (All (IsSquare n)) (sym e) (λ i z l. absurd (omega (arith, l))) }

pub first_push : (n : ℕ) (f : ℕ → Matrix ℤ) (c : ℕ) (Ms Ns : List (Matrix ℤ)) (M : Matrix ℤ) → AreFirst n f c Ms → M ≡ f c → IsSquare n M → Ns ≡ Ms ++ M ∷ [] → AreFirst n f (c + 1) Ns
first_push n f c Ms Ns M a h q e = subst (AreFirst n f (c + 1)) (sym e) (record {
  count = let l = length-append Ms (M ∷ []) in let k = a.count in omega (arith, l, k);
  each = λ k l. ⊎_elim (λ m. get_or_append_left Ms (M ∷ []) z k (let b = a.count in omega (arith, m, b)) ∙ a.each k m)
      (λ m. (let b = a.count in let last : k ≡ length Ms + 0 = omega (arith, l, m, b) in let same : c ≡ k = omega (arith, l, m) in ap (λ t. get_or (Ms ++ M ∷ []) t z) last ∙ get_or-append-add Ms (M ∷ []) 0 z ∙ h ∙ ap f same)) (within_or_past k c);
  squares = All-push (IsSquare n) Ms M a.squares q;
})
  where
    z : Matrix ℤ
    z = zero_matrix (pos 0) n n

-- as many as are not 0, trimmed
pub first_keeps : (n : ℕ) (f : ℕ → Matrix ℤ) (c : ℕ) (Ms Ns : List (Matrix ℤ)) → c ≤ 16 → AreFirst n f c Ms → ((k : ℕ) → c ≤ k → f k ≡ zero_matrix (pos 0) n n) → IsTrimmed n Ms Ns → KeepsAll n f Ns
first_keeps n f c Ms Ns few a rest t = trimmed_keeps n f Ms Ns (let b = a.count in omega (arith, few, b))
    (λ k. ⊎_elim (λ l. a.each k l) (λ l. past_end Ms k (zero_matrix (pos 0) n n) (let b = a.count in omega (arith, l, b)) ∙ sym (rest k l)) (within_or_past k c)) t
