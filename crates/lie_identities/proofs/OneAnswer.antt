-- The answers of an audit exclude one another.
use Rattle.std.proofs.Common.{◌≡◌, ◌≢◌, ℕ, ◌-◌, ◌<◌, ◌≤◌, ◌⊎◌, ℤ, List, [], ◌∷◌, ◌++◌, length, refl, sym, ap, ap₂, subst, ◌∙◌, arith, inl, inr, Ok, Err, Less, Equal, Greater}
use Rattle.std.specs.List.{All}
use Rattle.std.specs.Ordering.{ordering_reverse}
use Rattle.std.proofs.lemmas.Bool.{cases_lt}
use Rattle.std.proofs.lemmas.List.Elements.{All-tail}
use Rattle.lie_ring.specs.Matrices.{Matrix, entry}
use Rattle.lie_datum.specs.Numbers.{place}
use Rattle.lie_datum.specs.RootList.{RootDatum, IsNumber}
use Rattle.lie_datum.proofs.NumberLemmas.{place_within}
use Rattle.lie_datum.proofs.SignedRoots.{same_place}
use Rattle.lie_const.specs.ConstantTables.{ConstantTable}
use Rattle.lie_const.specs.Modules.{Module}
use Rattle.lie_const.specs.Signs.{Signs}
use Rattle.lie_poly.specs.Terms.{exponents_cmp}
use Rattle.lie_poly.specs.Canonical.{exponents_total, exact_exponents}
use Rattle.lie_poly.specs.Polynomials.{Polynomial, coefficient, laurent}
use Rattle.lie_poly.specs.Differences.{IsFirstDifference}
use Rattle.lie_identities.specs.declared.relations.Rel.{Rel}
use Rattle.lie_identities.specs.declared.faults.AuditFault.{AuditFault}
use Rattle.lie_identities.specs.declared.faults.AuditFault.TheVariants.{NoMemory, Graded, Large, Relation}
use Rattle.lie_identities.specs.Audit.{IsGraded, IsEntryBefore, IsFirstUngraded, IsLarge, IsMet, MeetsIdentities, AreMetBefore, IsFirstDifferentEntry, IsAuditFault, OneAuditAnswer, left_matrix, right_matrix}

-- ---- the place of an entry
order : (a b : ℕ) → (a < b) ⊎ (a ≡ b) ⊎ (b < a)
order a b = elim (cases_lt a b) [
  | inl l ↦ inl l
  | inr g ↦ elim (cases_lt b a) [ inl l ↦ inr (inr l) | inr h ↦ inr (inl (omega (arith, g, h))) ]
]

-- of two entries one stands before the other, or they are one
entries_ordered : (a b i j : ℕ) → IsEntryBefore a b i j ⊎ ((a ≡ i) × (b ≡ j)) ⊎ IsEntryBefore i j a b
entries_ordered a b i j = elim (order b j) [
  | inl l ↦ inl (inl l)
  | inr (inr g) ↦ inr (inr (inl g))
  | inr (inl e) ↦ elim (order a i) [
    | inl l ↦ inl (inr (e, l))
    | inr (inr g) ↦ inr (inr (inr (sym e, g)))
    | inr (inl h) ↦ inr (inl (h, e))
  ]
]

from_less_one : (a b : ℕ) → 1 ≤ a → 1 ≤ b → a - 1 ≡ b - 1 → a ≡ b
from_less_one a b p q e = omega arith

-- ---- the grading
one_number : (d : RootDatum) (r s : ℤ) → IsNumber d r → IsNumber d s → place (length d.positive) r ≡ place (length d.positive) s → r ≡ s
one_number d r s a b e = same_place (length d.positive) r s (place_within d r a) (place_within d s b) e

same_ungraded : (d : RootDatum) (v : Module) (r s : ℤ) (k l row col row' col' : ℕ) → IsFirstUngraded d v r k row col → IsFirstUngraded d v s l row' col' → (r ≡ s) × (k ≡ l) × (row ≡ row') × (col ≡ col')
same_ungraded d v r s k l row col row' col' p q = elim (order (place (length d.positive) r) (place (length d.positive) s)) [
  | inl a ↦ absurd (q.earlier r k (row - 1) (col - 1) (inl a) p.here)
  | inr (inr a) ↦ absurd (p.earlier s l (row' - 1) (col' - 1) (inl a) q.here)
  | inr (inl a) ↦
      let e : r ≡ s = one_number d r s p.here.number q.here.number a in
      elim (order k l) [
        | inl b ↦ absurd (q.earlier r k (row - 1) (col - 1) (inr (e, inl b)) p.here)
        | inr (inr b) ↦ absurd (p.earlier s l (row' - 1) (col' - 1) (inr (sym e, inl b)) q.here)
        | inr (inl b) ↦ elim (entries_ordered (row - 1) (col - 1) (row' - 1) (col' - 1)) [
          | inl c ↦ absurd (q.earlier r k (row - 1) (col - 1) (inr (e, inr (b, c))) p.here)
          | inr (inr c) ↦ absurd (p.earlier s l (row' - 1) (col' - 1) (inr (sym e, inr (sym b, c))) q.here)
          | inr (inl c) ↦ (e, b, from_less_one row row' p.row_first q.row_first c.0, from_less_one col col' p.col_first q.col_first c.1)
        ]
      ]
]

-- ---- the first relation that is not met
one_first : {A : Type 0} (P : A → Type 0) (xs ys as' bs : List A) (x y : A) → All P xs → All P ys → ¬ P x → ¬ P y → xs ++ x ∷ as' ≡ ys ++ y ∷ bs → x ≡ y
one_first P [] [] as' bs x y p q n m e = cc
one_first P [] (z ∷ ys) as' bs x y p q n m e = absurd (n (subst P (let h : z ≡ x = cc in h) (q 0 z (omega arith))))
one_first P (z ∷ xs) [] as' bs x y p q n m e = absurd (m (subst P (let h : z ≡ y = cc in h) (p 0 z (omega arith))))
one_first P (z ∷ xs) (w ∷ ys) as' bs x y p q n m e = one_first P xs ys as' bs x y (All-tail P z xs p) (All-tail P w ys q) n m cc

none_failing : {A : Type 0} (P : A → Type 0) (xs as' : List A) (x : A) → All P (xs ++ x ∷ as') → P x
none_failing P [] as' x h = h 0 x (omega arith)
none_failing P (z ∷ xs) as' x h = none_failing P xs as' x (All-tail P z (xs ++ x ∷ as') h)

module _ (d : RootDatum) (c : ConstantTable) (eta : Signs) (v : Module) where
  not_met_large : (q : Rel) → IsLarge d c eta v q → ¬ IsMet d c eta v q
  not_met_large q large met = met.small large

  not_met_different : (q : Rel) (row col : ℕ) (et eu left right : ℤ) → IsFirstDifferentEntry (left_matrix d v q) (right_matrix d c eta v q) row col et eu left right → ¬ IsMet d c eta v q
  not_met_different q row col et eu left right h met =
      let same = ap (λ M. coefficient (entry laurent.zero M (row - 1) (col - 1)) et eu) met.identity in
      h.here.differ (h.here.of_first ∙ same ∙ sym h.here.of_second)

  one_relation : (p q : Rel) → AreMetBefore d c eta v p → AreMetBefore d c eta v q → ¬ IsMet d c eta v p → ¬ IsMet d c eta v q → p ≡ q
  one_relation p q a b n m = one_first (IsMet d c eta v) a.before b.before a.after b.after p q a.met b.met n m (sym a.split ∙ b.split)

  all_met : (q : Rel) → MeetsIdentities d c eta v → AreMetBefore d c eta v q → IsMet d c eta v q
  all_met q meets a = none_failing (IsMet d c eta v) a.before a.after q (subst (All (IsMet d c eta v)) a.split meets.relations)

-- ---- the first difference
one_difference : (f g : ℤ → ℤ → ℤ) (i j a b k l x y : ℤ) → IsFirstDifference f g i j a b → IsFirstDifference f g k l x y → (i ≡ k) × (j ≡ l) × (a ≡ x) × (b ≡ y)
one_difference f g i j a b k l x y p q = elim (exponents_cmp (i, j) (k, l)) as (λ o. exponents_cmp (i, j) (k, l) ≡ o → (i ≡ k) × (j ≡ l) × (a ≡ x) × (b ≡ y)) [
  | Less ↦ λ h. absurd (p.differ (p.of_first ∙ q.before i j h ∙ sym p.of_second))
  | Greater ↦ λ h.
      let turned : exponents_cmp (k, l) (i, j) ≡ Less = exponents_total.antisymm (k, l) (i, j) ∙ ap ordering_reverse h in
      absurd (q.differ (q.of_first ∙ p.before k l turned ∙ sym q.of_second))
  | Equal ↦ λ h.
      let e = exact_exponents (i, j) (k, l) h in
      let first : i ≡ k = ap (λ z. z.0) e in
      let second : j ≡ l = ap (λ z. z.1) e in
      (first, second, p.of_first ∙ ap₂ f first second ∙ sym q.of_first, p.of_second ∙ ap₂ g first second ∙ sym q.of_second)
] refl

not_different : (f g : ℤ → ℤ → ℤ) (i j a b : ℤ) → IsFirstDifference f g i j a b → f i j ≢ g i j
not_different f g i j a b p e = p.differ (p.of_first ∙ e ∙ sym p.of_second)

module _ (M N : Matrix Polynomial) (row col row' col' : ℕ) (et eu left right et' eu' left' right' : ℤ)
    (p : IsFirstDifferentEntry M N row col et eu left right) (q : IsFirstDifferentEntry M N row' col' et' eu' left' right') where
  same_different : (row ≡ row') × (col ≡ col') × (et ≡ et') × (eu ≡ eu') × (left ≡ left') × (right ≡ right')
  same_different = elim (entries_ordered (row - 1) (col - 1) (row' - 1) (col' - 1)) [
    | inl a ↦ absurd (not_different _ _ et eu left right p.here (ap (λ x. coefficient x et eu) (q.earlier (row - 1) (col - 1) (let l = p.row_last in let f = p.row_first in omega (arith, l, f)) (let l = p.col_last in let f = p.col_first in omega (arith, l, f)) a)))
    | inr (inr a) ↦ absurd (not_different _ _ et' eu' left' right' q.here (ap (λ x. coefficient x et' eu') (p.earlier (row' - 1) (col' - 1) (let l = q.row_last in let f = q.row_first in omega (arith, l, f)) (let l = q.col_last in let f = q.col_first in omega (arith, l, f)) a)))
    | inr (inl a) ↦
        let one = from_less_one row row' p.row_first q.row_first a.0 in
        let two = from_less_one col col' p.col_first q.col_first a.1 in
        let there = subst (λ j. IsFirstDifference (coefficient (entry laurent.zero M (row - 1) (j - 1))) (coefficient (entry laurent.zero N (row - 1) (j - 1))) et' eu' left' right') (sym two)
        (subst (λ i. IsFirstDifference (coefficient (entry laurent.zero M (i - 1) (col' - 1))) (coefficient (entry laurent.zero N (i - 1) (col' - 1))) et' eu' left' right') (sym one) q.here) in
        let e = one_difference (coefficient (entry laurent.zero M (row - 1) (col - 1))) (coefficient (entry laurent.zero N (row - 1) (col - 1))) et eu left right et' eu' left' right' p.here there in
        (one, two, e.0, e.1, e.2, e.3)
  ]

-- ---- the answers
graded_not : (d : RootDatum) (v : Module) (r : ℤ) (k row col : ℕ) → IsGraded d v → ¬ IsFirstUngraded d v r k row col
graded_not d v r k row col g h = g r k (row - 1) (col - 1) h.here

module _ (d : RootDatum) (c : ConstantTable) (eta : Signs) (v : Module) where
  no_fault : (f : AuditFault) → MeetsIdentities d c eta v → IsAuditFault d c eta v f → f ≡ NoMemory
  no_fault NoMemory meets h = refl
  no_fault (Graded r k row col) meets h = absurd (graded_not d v r k row col meets.graded h)
  no_fault (Large q) meets h = absurd (not_met_large d c eta v q h.2 (all_met d c eta v q meets h.1))
  no_fault (Relation q row col et eu left right) meets h = absurd (not_met_different d c eta v q row col et eu left right h.3 (all_met d c eta v q meets h.1))

  one_fault : (f g : AuditFault) → IsAuditFault d c eta v f → IsAuditFault d c eta v g → f ≢ NoMemory → g ≢ NoMemory → f ≡ g
  one_fault NoMemory g p q n m = absurd (n refl)
  one_fault f NoMemory p q n m = absurd (m refl)
  one_fault (Graded r k row col) (Graded s l row' col') p q n m =
      let e = same_ungraded d v r s k l row col row' col' p q in
      let a = e.0 in let b = e.1 in let x = e.2 in let y = e.3 in cc
  one_fault (Graded r k row col) (Large q') p q n m = absurd (graded_not d v r k row col q.0 p)
  one_fault (Graded r k row col) (Relation q' row' col' et eu left right) p q n m = absurd (graded_not d v r k row col q.0 p)
  one_fault (Large q') (Graded r k row col) p q n m = absurd (graded_not d v r k row col p.0 q)
  one_fault (Relation q' row' col' et eu left right) (Graded r k row col) p q n m = absurd (graded_not d v r k row col p.0 q)
  one_fault (Large a) (Large b) p q n m = ap Large (one_relation d c eta v a b p.1 q.1 (not_met_large d c eta v a p.2) (not_met_large d c eta v b q.2))
  one_fault (Large a) (Relation b row col et eu left right) p q n m =
      absurd (q.2 (subst (IsLarge d c eta v) (one_relation d c eta v a b p.1 q.1 (not_met_large d c eta v a p.2) (not_met_different d c eta v b row col et eu left right q.3)) p.2))
  one_fault (Relation b row col et eu left right) (Large a) p q n m =
      absurd (p.2 (subst (IsLarge d c eta v) (one_relation d c eta v a b q.1 p.1 (not_met_large d c eta v a q.2) (not_met_different d c eta v b row col et eu left right p.3)) q.2))
  one_fault (Relation a row col et eu left right) (Relation b row' col' et' eu' left' right') p q n m =
      let same = one_relation d c eta v a b p.1 q.1 (not_met_different d c eta v a row col et eu left right p.3) (not_met_different d c eta v b row' col' et' eu' left' right' q.3) in
      let there = subst (λ z. IsFirstDifferentEntry (left_matrix d v z) (right_matrix d c eta v z) row' col' et' eu' left' right') (sym same) q.3 in
      let e = same_different (left_matrix d v a) (right_matrix d c eta v a) row col row' col' et eu left right et' eu' left' right' p.3 there in
      let e0 = e.0 in let e1 = e.1 in let e2 = e.2 in let e3 = e.3 in let e4 = e.4 in let e5 = e.5 in cc

pub one_audit_answer : OneAuditAnswer
one_audit_answer d c eta v (Ok a) (Ok b) p q n m = ap Ok (p.0 ∙ sym q.0)
one_audit_answer d c eta v (Ok a) (Err f) p q n m = absurd (m (ap Err (no_fault d c eta v f p.1 q)))
one_audit_answer d c eta v (Err f) (Ok a) p q n m = absurd (n (ap Err (no_fault d c eta v f q.1 p)))
one_audit_answer d c eta v (Err f) (Err g) p q n m = ap Err (one_fault d c eta v f g p q (λ e. n (ap Err e)) (λ e. m (ap Err e)))
