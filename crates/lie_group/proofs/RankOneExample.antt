-- SL_2 over the field of two elements: it loads, by computation. Its carrier is the sum of the adjoint module and the natural one.
use Rattle.std.proofs.Common.{◌≡◌, ◌≢◌, ℕ, zero, suc, ◌<◌, ◌≤◌, List, [], ◌∷◌, true, false, Ok, Err, ℤ, pos, negsuc, neg_ℤ, refl, sym, ap, ◌∙◌, subst, arith, ⊎_elim, inl}
use Rattle.std.specs.Prelude.{unsigned_abs, ◌≤ℤ◌}
use Rattle.std.specs.List.{All, Contains}
use Rattle.std.specs.List.Sorted.{IsStrictlySortedBy}
use Rattle.std.proofs.lemmas.Int.{ints}
use Rattle.std.proofs.lemmas.List.Elements.{All-from_recursion}
use Rattle.lie_ring.specs.Matrices.{Matrix, table, entry, zero_matrix, direct_sum}
use Rattle.lie_ring.specs.MatrixLemmas.{entry-table}
use Rattle.lie_field.specs.Polynomials.{residues}
use Rattle.lie_field.specs.Quotient.{degree, order, leading, shift, element, of_int}
use Rattle.lie_datum.specs.Vectors.{Vector}
use Rattle.lie_datum.specs.RootDatum.{IsSimpleIndex, IsWithin}
use Rattle.lie_datum.specs.RootList.{IsNumber}
use Rattle.lie_datum.proofs.NumberLemmas.{place_within}
use Rattle.lie_const.specs.ConstantTables.{value_of}
use Rattle.lie_const.specs.Modules.{Module, IsModule, dimension, top, divided_power, root_element}
use Rattle.lie_const.specs.Adjoint.{IsAdjointOf}
use Rattle.lie_const.specs.Signs.{Signs, SignTable, eta_of}
use Rattle.lie_orbit.specs.Weights.{coroot_pairing}
use Rattle.lie_orbit.specs.Lowering.{low}
use Rattle.lie_orbit.specs.Orbits.{IsReached, start, next, reflected_weight, IsOrbit}
use Rattle.lie_letters.specs.SignedFrames.{SignedFrame}
use Rattle.lie_letters.proofs.AdjointTest.{sparse, adjoint_from}
use Rattle.lie_letters.proofs.FrameExamples.{pair, two, a1, a1_loaded, a1_table, a1_constants}
use Rattle.lie_weight.specs.OrbitModules.{IsOrbitModule, StepsBy, step_matrix}
use Rattle.lie_weight.specs.Sums.{IsSum}
use Rattle.lie_weight.specs.Carriers.{AreOrbitsOf, no_axis, taken, IsPassedOver, IsModuleOfOrbit, IsCarrier}
use Rattle.lie_identities.specs.declared.relations.Rel.TheVariants.{S1, S6, S7}
use Rattle.lie_identities.specs.AuditRelations.{relations}
use Rattle.lie_identities.specs.Audit.{IsIdentity, IsMet, MeetsIdentities}
use Rattle.lie_identities.specs.Covers.{IsLiveAt}
use Rattle.lie_identities.specs.CoverLines.{no_lines}
use Rattle.lie_identities.proofs.CoveredAxes.{cover_axes}
use Rattle.lie_identities.proofs.LineLemmas.{no_cover_lines}
use Rattle.lie_audit.proofs.AuditTest.{graded_from, met_from}
use Rattle.lie_group.specs.declared.faults.LoadFault.{LoadFault}
use Rattle.lie_group.specs.declared.faults.LoadFault.TheVariants.{NoMemory}
use Rattle.lie_group.specs.Groups.{GroupData, IsCarrierOf, LoadsGroup}
use Rattle.lie_group.proofs.OneGroup.{one_group}
use Rattle.lie_group.proofs.TorusExample.{not_heavy}
use Rattle.lie_group.proofs.WorkedExamples.{a1_adjoint, a1_frame, a1_made}

abbrev signs : SignTable
signs = record { rank = 1; positive = 1; signs = negsuc 0 ∷ negsuc 0 ∷ [] }

abbrev eta : Signs
eta = eta_of signs

abbrev frame : SignedFrame
frame = a1_frame (negsuc 0) (negsuc 0)

-- ---- the roots are 1 and -1
by_numbers : (P : ℤ → Type 0) → P (pos 1) → P (negsuc 0) → (r : ℤ) → IsNumber a1 r → P r
by_numbers P p q (pos zero) h = absurd (let no : false ≡ true = h in cc)
by_numbers P p q (pos (suc zero)) h = p
by_numbers P p q (pos (suc (suc k))) h = absurd (let l = place_within a1 (pos (suc (suc k))) h in omega (arith, l))
by_numbers P p q (negsuc zero) h = q
by_numbers P p q (negsuc (suc k)) h = absurd (let l = place_within a1 (negsuc (suc k)) h in omega (arith, l))

index_is : (i : ℕ) → IsSimpleIndex a1.base i → i ≡ 1
index_is i h = let a = h.0 in let b = h.1 in omega (arith, a, b)

no_further : (r : ℤ) → IsNumber a1 r → 1 < unsigned_abs r → ⊥
no_further = by_numbers (λ r. 1 < unsigned_abs r → ⊥) (λ l. omega (arith, l)) (λ l. omega (arith, l))

-- ---- the orbit of e_1
abbrev e1 : Vector
e1 = pair (pos 1) (pos 0)

abbrev opposite : Vector
opposite = pair (negsuc 0) (pos 0)

abbrev weights : List Vector
weights = e1 ∷ opposite ∷ []

turned : (x : Vector) → Contains weights x → Contains weights (reflected_weight a1 1 x)
turned x (zero, l, e) = (1, omega arith, ap (reflected_weight a1 1) e)
turned x (suc zero, l, e) = (0, omega arith, ap (reflected_weight a1 1) e)
turned x (suc (suc k), l, e) = absurd (omega (arith, l))

members : (x : Vector) → IsReached a1 e1 x → Contains weights x
members _ start = (0, omega arith, refl)
members _ (next i x h p) = subst (λ j. Contains weights (reflected_weight a1 j x)) (sym (index_is i h)) (turned x (members x p))

reached : (x : Vector) → Contains weights x → IsReached a1 e1 x
reached x (zero, l, e) = subst (IsReached a1 e1) e start
reached x (suc zero, l, e) = subst (IsReached a1 e1) e (next 1 e1 (omega arith, omega arith) start)
reached x (suc (suc k), l, e) = absurd (omega (arith, l))

orbit : IsOrbit a1 e1 weights
unfolding IsStrictlySortedBy
orbit = record { sorted = ((refl, tt), (tt, tt)); members = λ x. (reached x, members x) }

not_high : (r : ℤ) → IsNumber a1 r → pos 2 ≤ℤ coroot_pairing a1 e1 r → ⊥
not_high = by_numbers (λ r. pos 2 ≤ℤ coroot_pairing a1 e1 r → ⊥) (λ l. omega (arith, ints, l)) (λ l. omega (arith, ints, l))

not_passed : ¬ IsPassedOver [] e1
not_passed p = ⊎_elim (λ z. let one = z 0 in omega (arith, ints, one)) (λ a. let l = a.2 in omega (arith, l)) p

orbits : AreOrbitsOf a1 1 (weights ∷ [])
orbits = taken 0 [] e1 weights no_axis (low e1 not_high) not_passed orbit

-- ---- the natural module
abbrev natural : Module
natural = record { positive = 1; weights = weights; powers = (sparse 2 ((0, 1, pos 1) ∷ []) ∷ []) ∷ (sparse 2 ((1, 0, pos 1) ∷ []) ∷ []) ∷ [] }

-- the first two matrices of a root
below_two : (P : ℕ → Type 0) (n : ℕ) → n ≤ 2 → P 0 → P 1 → (k : ℕ) → k < n → P k
below_two P n few p q zero l = p
below_two P n few p q (suc zero) l = q
below_two P n few p q (suc (suc k)) l = absurd (omega (arith, few, l))

-- and those behind them
from_one : (P : ℕ → Type 0) → P 1 → P 2 → ((k : ℕ) → P (suc (suc (suc k)))) → (k : ℕ) → 1 ≤ k → P k
from_one P p q h zero l = absurd (omega (arith, l))
from_one P p q h (suc zero) l = p
from_one P p q h (suc (suc zero)) l = q
from_one P p q h (suc (suc (suc k))) l = h k

-- a number that is not 0 stands in a matrix that is not 0
no_zero : (M : Matrix ℤ) (n i j : ℕ) → i < n → j < n → entry (pos 0) M i j ≢ pos 0 → M ≢ zero_matrix (pos 0) n n
no_zero M n i j p q apart e = apart (ap (λ N. entry (pos 0) N i j) e ∙ entry-table (pos 0) n n (λ _ _. pos 0) i j p q)

-- the last matrix of a root is not 0
last_is : (v : Module) (r : ℤ) (n : ℕ) → top v r ≡ suc n → divided_power v r (suc n) ≢ zero_matrix (pos 0) (dimension v) (dimension v)
    → (k : ℕ) → top v r ≡ suc k → divided_power v r (suc k) ≢ zero_matrix (pos 0) (dimension v) (dimension v)
last_is v r n e h k f = let same : n ≡ k = omega (arith, e, f) in subst (λ j. divided_power v r (suc j) ≢ zero_matrix (pos 0) (dimension v) (dimension v)) same h

abbrev IsSquare : Module → ℤ → ℕ → Type 0
IsSquare v r k = divided_power v r (suc k) ≡ table (dimension v) (dimension v) (entry (pos 0) (divided_power v r (suc k)))

natural_shape : IsModule a1 natural
natural_shape = record {
  positive = refl;
  roots = refl;
  square = λ r k n l. by_numbers (λ r. (k : ℕ) → k < top natural r → IsSquare natural r k)
      (below_two (IsSquare natural (pos 1)) 1 (omega arith) refl refl) (below_two (IsSquare natural (negsuc 0)) 1 (omega arith) refl refl) r n k l;
  last = λ r k n e. by_numbers (λ r. (k : ℕ) → top natural r ≡ suc k → divided_power natural r (suc k) ≢ zero_matrix (pos 0) 2 2)
      (last_is natural (pos 1) 0 refl (no_zero (divided_power natural (pos 1) 1) 2 0 1 (omega arith) (omega arith) (λ e. omega (arith, ints, e))))
      (last_is natural (negsuc 0) 0 refl (no_zero (divided_power natural (negsuc 0) 1) 2 1 0 (omega arith) (omega arith) (λ e. omega (arith, ints, e))))
      r n k e;
}

natural_up : StepsBy a1 natural (pos 1)
unfolding step_matrix
natural_up = record { first = refl; others = λ k l. from_one (λ k. 2 ≤ k → divided_power natural (pos 1) k ≡ zero_matrix (pos 0) 2 2) (λ l. absurd (omega (arith, l))) (λ l. refl) (λ k l. refl) k (omega (arith, l)) l }

natural_down : StepsBy a1 natural (negsuc 0)
unfolding step_matrix
natural_down = record { first = refl; others = λ k l. from_one (λ k. 2 ≤ k → divided_power natural (negsuc 0) k ≡ zero_matrix (pos 0) 2 2) (λ l. absurd (omega (arith, l))) (λ l. refl) (λ k l. refl) k (omega (arith, l)) l }

natural_of_orbit : IsOrbitModule a1 eta e1 natural
natural_of_orbit = record {
  weights = orbit;
  steps = record {
    shape = natural_shape;
    up = λ i h. subst (λ j. StepsBy a1 natural (pos j)) (sym (index_is i h)) natural_up;
    down = λ i h. subst (λ j. StepsBy a1 natural (neg_ℤ (pos j))) (sym (index_is i h)) natural_down;
  };
  completed = λ r i s k l one. absurd (no_further r l.from l.past);
}

-- ---- the carrier
abbrev nothing : Module
nothing = record { positive = 1; weights = []; powers = [] ∷ [] ∷ [] }

nothing_shape : IsModule a1 nothing
nothing_shape = record {
  positive = refl;
  roots = refl;
  square = λ r k n l. by_numbers (λ r. (k : ℕ) → k < top nothing r → IsSquare nothing r k) (λ k l. absurd (omega (arith, l))) (λ k l. absurd (omega (arith, l))) r n k l;
  last = λ r k n e. by_numbers (λ r. (k : ℕ) → top nothing r ≡ suc k → divided_power nothing r (suc k) ≢ zero_matrix (pos 0) 0 0)
      (λ k e. absurd (omega (arith, e))) (λ k e. absurd (omega (arith, e))) r n k e;
}

abbrev sum : Module
sum = record {
  positive = 1;
  weights = pair (pos 2) (pos 0) ∷ pair (pos 0) (pos 0) ∷ pair (negsuc 1) (pos 0) ∷ weights;
  powers =
      (sparse 5 ((0, 1, negsuc 1) ∷ (1, 2, pos 1) ∷ (3, 4, pos 1) ∷ []) ∷ sparse 5 ((0, 2, negsuc 0) ∷ []) ∷ [])
      ∷ (sparse 5 ((1, 0, negsuc 0) ∷ (2, 1, pos 2) ∷ (4, 3, pos 1) ∷ []) ∷ sparse 5 ((2, 0, negsuc 0) ∷ []) ∷ []) ∷ [];
}

sum_shape : IsModule a1 sum
sum_shape = record {
  positive = refl;
  roots = refl;
  square = λ r k n l. by_numbers (λ r. (k : ℕ) → k < top sum r → IsSquare sum r k)
      (below_two (IsSquare sum (pos 1)) 2 (omega arith) refl refl) (below_two (IsSquare sum (negsuc 0)) 2 (omega arith) refl refl) r n k l;
  last = λ r k n e. by_numbers (λ r. (k : ℕ) → top sum r ≡ suc k → divided_power sum r (suc k) ≢ zero_matrix (pos 0) 5 5)
      (last_is sum (pos 1) 1 refl (no_zero (divided_power sum (pos 1) 2) 5 0 2 (omega arith) (omega arith) (λ e. omega (arith, ints, e))))
      (last_is sum (negsuc 0) 1 refl (no_zero (divided_power sum (negsuc 0) 2) 5 2 0 (omega arith) (omega arith) (λ e. omega (arith, ints, e))))
      r n k e;
}

natural_sum : IsSum a1 natural nothing natural
natural_sum = record {
  shape = natural_shape;
  weights = refl;
  powers = λ r k n one. by_numbers (λ r. (k : ℕ) → 1 ≤ k → divided_power natural r k ≡ direct_sum (pos 0) (divided_power natural r k) (divided_power nothing r k))
      (from_one _ refl refl (λ k. refl)) (from_one _ refl refl (λ k. refl)) r n k one;
}

whole_sum : IsSum a1 a1_adjoint natural sum
whole_sum = record {
  shape = sum_shape;
  weights = refl;
  powers = λ r k n one. by_numbers (λ r. (k : ℕ) → 1 ≤ k → divided_power sum r k ≡ direct_sum (pos 0) (divided_power a1_adjoint r k) (divided_power natural r k))
      (from_one _ refl refl (λ k. refl)) (from_one _ refl refl (λ k. refl)) r n k one;
}

adjoint_is : IsAdjointOf a1 a1_adjoint
adjoint_is = adjoint_from a1 (value_of a1_table) a1_adjoint refl a1_constants.1

sum_is_carrier : IsCarrier a1 eta a1_adjoint sum
sum_is_carrier = record {
  modules = natural ∷ [];
  orbits = orbits;
  of_orbits = All-from_recursion (IsModuleOfOrbit a1 eta) (natural ∷ []) ((e1, natural_of_orbit), tt);
  sum = (natural, (nothing, record { shape = nothing_shape; weights = refl }, natural_sum), whole_sum);
}

-- coordinates are small
pair_light : (a b : ℤ) → unsigned_abs a ≤ 1000000 → unsigned_abs b ≤ 1000000 → IsWithin 1000000 (pair a b)
pair_light a b p q = All-from_recursion (λ c. unsigned_abs c ≤ 1000000) (pair a b) (p, (q, (omega arith, (omega arith, (omega arith, (omega arith, (omega arith, (omega arith, tt))))))))

sum_light : All (IsWithin 1000000) sum.weights
sum_light = All-from_recursion (IsWithin 1000000) sum.weights (
  pair_light (pos 2) (pos 0) (omega arith) (omega arith),
  (
    pair_light (pos 0) (pos 0) (omega arith) (omega arith),
    (
      pair_light (negsuc 1) (pos 0) (omega arith) (omega arith),
      (
        pair_light (pos 1) (pos 0) (omega arith) (omega arith),
        (pair_light (negsuc 0) (pos 0) (omega arith) (omega arith), tt),
      ),
    ),
  ),
)

sum_carrier : IsCarrierOf frame sum
sum_carrier =
    (a1_adjoint, adjoint_is, (sum_is_carrier, omega arith, not_heavy sum.weights sum_light, (λ r k h. no_further r h.huge.first.huge.lowering.from h.huge.first.huge.lowering.past)))

-- ---- its relations
sum_S1 : IsIdentity a1 a1_table eta sum (S1 (pos 1))
unfolding root_element
sum_S1 = refl

sum_opposite_S1 : IsIdentity a1 a1_table eta sum (S1 (negsuc 0))
unfolding root_element
sum_opposite_S1 = refl

sum_S6 : IsIdentity a1 a1_table eta sum (S6 1)
unfolding root_element
sum_S6 = refl

sum_S7 : IsIdentity a1 a1_table eta sum (S7 1 (pos 1))
unfolding root_element
sum_S7 = refl

sum_opposite_S7 : IsIdentity a1 a1_table eta sum (S7 1 (negsuc 0))
unfolding root_element
sum_opposite_S7 = refl

sum_meets : MeetsIdentities a1 a1_table eta sum
unfolding relations
sum_meets = record {
  graded = graded_from a1 sum refl;
  relations = All-from_recursion (IsMet a1 a1_table eta sum) (relations a1) (
    met_from a1 a1_table eta sum (S1 (pos 1)) refl refl sum_S1,
    (
      met_from a1 a1_table eta sum (S1 (negsuc 0)) refl refl sum_opposite_S1,
      (
        met_from a1 a1_table eta sum (S6 1) refl refl sum_S6,
        (
          met_from a1 a1_table eta sum (S7 1 (pos 1)) refl refl sum_S7,
          (met_from a1 a1_table eta sum (S7 1 (negsuc 0)) refl refl sum_opposite_S7, tt),
        ),
      ),
    ),
  );
}

-- ---- the group
-- the first entry that is odd, in the second row and the third column
sum_lives : IsLiveAt two sum (pos 1)
unfolding two of_int element residues shift leading degree order
sum_lives = record { row = 1; col = 2; row_within = omega arith; col_within = omega arith; nonzero = λ e. (let h : ◌≡◌ {A = ℕ} 1 0 = e in omega (arith, h)) }

abbrev a1_group : GroupData
a1_group = record { frame = frame; carrier = record { «module» = sum; datum = a1; constants = a1_table; signs = signs; lines = no_lines } }

a1_loads : LoadsGroup frame (Ok a1_group)
a1_loads = (
  refl,
  record {
    frame = a1_made;
    carrier = record {
      is_carrier = sum_carrier;
      audited = record { loaded = a1_loaded; shape = sum_shape; light = sum_light; meets = sum_meets; cover = no_cover_lines a1 sum };
      audited_for = record { datum = refl; constants = refl; signs = refl };
      no_cover = refl;
    };
    covering = record {
      live = λ k one last. (let same : 1 ≡ k = omega (arith, one, last) in subst (λ j. IsLiveAt two sum (pos j)) same sum_lives);
      axes = λ j p q. inl (cover_axes a1 eta a1_adjoint sum j a1_loaded adjoint_is sum_is_carrier p q);
    };
  },
)

-- no fault comes
a1_loads_alone : (why : LoadFault) → why ≢ NoMemory → ¬ LoadsGroup frame (Err why)
a1_loads_alone why named h =
    one_group two a1 frame frame (Ok a1_group) (Err why) a1_made a1_made a1_loads h (λ e. absurd cc) (λ e. (let is : why ≡ NoMemory = cc in named is))
