-- The factors of a side with their powers, one after the other.
use Rattle.std.proofs.Common.{◌≡◌, ℕ, zero, suc, ◌+◌, ◌<◌, ℤ, List, [], ◌∷◌, ◌++◌, map, length, take, drop, get_or, false, Bool, refl, sym, ap, ap₂, ◌∙◌, subst, arith}
use Rattle.std.specs.Prelude.{◌==◌, not}
use Rattle.std.specs.Global.{Vec}
use Rattle.std.proofs.lemmas.Bool.{ne_eqb, false≢true}
use Rattle.std.proofs.lemmas.List.{map-append, length-map}
use Rattle.std.proofs.Math.ListN.{get_or-map}
use Rattle.lie_ring.specs.Matrices.{Matrix, product}
use Rattle.lie_datum.specs.Vectors.{Vector, pairing}
use Rattle.lie_datum.specs.RootDatum.{simple, simple_coroot, covector, IsSimpleIndex}
use Rattle.lie_datum.specs.RootList.{RootDatum, root_of, IsLoaded}
use Rattle.lie_datum.proofs.Roots.{simple_covector}
use Rattle.lie_datum.proofs.LoadedLaws.{short}
use Rattle.lie_const.specs.Modules.{Module, IsModule, dimension}
use Rattle.lie_poly.specs.Polynomials.{Polynomial, laurent}
use Rattle.lie_identities.specs.AuditRelations.{Factor, factor_matrix}
use Rattle.lie_identities.specs.Audit.{laurent_variables}
use Rattle.lie_identities.specs.declared.steps.Step.{Step}
use Rattle.lie_identities.specs.StepLists.{HasSmallEntries}
use Rattle.lie_identities.specs.Columns.{unit_column, side_column, IsColumn, IsFactorOf, IsNarrowSide, HasLightPairings}
use Rattle.lie_identities.specs.Moves.{IsReadyFor}
use Rattle.lie_identities.specs.Actions.{factor_of, HasPowersFor, IsNarrowFactor, AreActions}
use Rattle.lie_identities.proofs.AdditionLemmas.{rest-next, rest-end}
use Rattle.lie_identities.proofs.OrderLemmas.{two_parts}
use Rattle.lie_identities.proofs.ReadyLemmas.{ready-side, ready-column}
use Rattle.lie_identities.proofs.PowerLemmas.{narrow-factor}

-- a list around a place
around : {X : Type 0} (xs : List X) (k : ℕ) (x : X) → k < length xs → x ≡ get_or xs k x → xs ≡ take k xs ++ x ∷ drop (k + 1) xs
around xs k x l is = two_parts xs k ∙ ap (λ ys. take k xs ++ ys) (rest-next xs k x l ∙ ap (λ y. y ∷ drop (k + 1) xs) (sym is))

-- the powers of the factor in a place can be made
pub narrow-at : (d : RootDatum) (v : Module) (xs : List (Factor Polynomial)) (k : ℕ) (x : Factor Polynomial) → IsModule d v → IsNarrowSide d v xs → k < length xs → x ≡ get_or xs k x → IsNarrowFactor d v x
narrow-at d v xs k x shape side l is =
    narrow-factor d v shape (take k xs) x (drop (k + 1) xs)
    (subst (IsFactorOf d) (sym is) (side.factors k x l))
    (subst (IsNarrowSide d v) (around xs k x l is) side)

module _ (d : RootDatum) (v : Module) (xs : List (Factor (Vec Polynomial))) (actions : AreActions d v xs) (k : ℕ) (x : Factor (Vec Polynomial)) (l : k < length xs) (is : x ≡ get_or xs k x) where
  -- the factor in a place
  pub factor-at : IsFactorOf d (factor_of x)
  factor-at = subst (IsFactorOf d) (get_or-map factor_of xs k x ∙ ap factor_of (sym is)) (actions.narrow.factors k (factor_of x) (let n = length-map xs factor_of in omega (arith, l, n)))

  -- and its powers
  pub powers-at : HasPowersFor v x
  powers-at = subst (HasPowersFor v) (sym is) (actions.powers k x l)

  -- it acts on the column of those behind it
  pub ready-at : HasLightPairings d v → HasSmallEntries v → (b : ℕ) → b < dimension v → IsReadyFor d v (factor_of x) (side_column laurent_variables d v (map factor_of (drop (k + 1) xs)) b)
  ready-at light small b col =
      ready-side d v light small (map factor_of (take k xs)) (factor_of x) (map factor_of (drop (k + 1) xs)) b col
      (subst (IsNarrowSide d v) (ap (map factor_of) (around xs k x l is) ∙ map-append factor_of (take k xs) (x ∷ drop (k + 1) xs)) actions.narrow)

-- with the factor in a place there is one more
pub column-next : (d : RootDatum) (v : Module) (xs : List (Factor (Vec Polynomial))) (k : ℕ) (x : Factor (Vec Polynomial)) → k < length xs → x ≡ get_or xs k x → (b : ℕ)
    → product laurent (factor_matrix laurent_variables d v (factor_of x)) (side_column laurent_variables d v (map factor_of (drop (k + 1) xs)) b) ≡ side_column laurent_variables d v (map factor_of (drop k xs)) b
column-next d v xs k x l is b = ap (λ ys. side_column laurent_variables d v (map factor_of ys) b) (sym (rest-next xs k x l ∙ ap (λ y. y ∷ drop (k + 1) xs) (sym is)))

-- none at the end
pub column-none : (d : RootDatum) (v : Module) (xs : List (Factor (Vec Polynomial))) (b : ℕ) → unit_column laurent (dimension v) b ≡ side_column laurent_variables d v (map factor_of (drop (length xs) xs)) b
column-none d v xs b = ap (λ ys. side_column laurent_variables d v (map factor_of ys) b) (sym (rest-end xs (length xs) (omega arith)))

-- a side none of whose factors moves a basis vector
pub unmoved-actions : (d : RootDatum) (v : Module) (b : ℕ) (xs : List (Factor (Vec Polynomial))) (z : Factor (Vec Polynomial))
    → ((k : ℕ) → k < length xs → product laurent (factor_matrix laurent_variables d v (factor_of (get_or xs k z))) (unit_column laurent (dimension v) b) ≡ unit_column laurent (dimension v) b)
    → side_column laurent_variables d v (map factor_of xs) b ≡ unit_column laurent (dimension v) b
unmoved-actions d v b [] z h = refl
unmoved-actions d v b (x ∷ xs) z h =
    ap (product laurent (factor_matrix laurent_variables d v (factor_of x))) (unmoved-actions d v b xs z (λ k l. h (suc k) (omega (arith, l)))) ∙ h zero (omega arith)

-- an empty list
pub empty-steps : (ss : List Step) (b : Bool) → b ≡ (length ss == 0) → not b ≡ false → ss ≡ []
empty-steps [] b e h = refl
empty-steps (s ∷ ss) b e h =
    let none : (length (s ∷ ss) == 0) ≡ false = ne_eqb (length (s ∷ ss)) 0 (λ q. absurd (omega (arith, q))) in
    absurd (false≢true (sym h ∙ ap not (e ∙ none)))

-- the exponent of a coroot
pub coroot-exponent : (d : RootDatum) → IsLoaded d → (v : Module) (i a : ℕ) (k : ℤ) (x y : Vector) (e : ℤ) → IsSimpleIndex d.base i → e ≡ pairing x y → x ≡ get_or v.weights a [] → y ≡ covector d.base (root_of d k) → root_of d k ≡ simple i
    → e ≡ pairing (get_or v.weights a []) (simple_coroot d.base i)
coroot-exponent d loaded v i a k x y e index is x_is y_is root =
    is ∙ ap₂ pairing x_is (y_is ∙ ap (covector d.base) root) ∙ simple_covector d.base (short d loaded) loaded.axioms.input.corank i (get_or v.weights a []) index

-- the column of a side may be handed to calls
pub side-is_column : (d : RootDatum) (v : Module) (xs : List (Factor (Vec Polynomial))) (b : ℕ) → HasLightPairings d v → HasSmallEntries v → AreActions d v xs → b < dimension v → IsColumn (dimension v) (side_column laurent_variables d v (map factor_of xs) b)
side-is_column d v xs b light small actions col = ready-column d v light small (map factor_of xs) b col actions.narrow.small

-- a column as another of the same height
pub as_tall : (n : ℕ) (V x y : Matrix Polynomial) → IsColumn n V → IsColumn n x → y ≡ V → IsColumn x.height y
as_tall n V x y p q e = subst (λ k. IsColumn k y) (sym q.height) (subst (IsColumn n) (sym e) p)
