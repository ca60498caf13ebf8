-- The entries of a table: which of them is bad.
use Rattle.std.proofs.Common.{◌≡◌, ℕ, ◌+◌, ◌-◌, ◌<◌, ◌≤◌, ◌⊎◌, List, length, get_or, take, refl, sym, ap, subst, ◌∙◌, arith, Bool, true, false, not, IsTrue, ◌↔◌, ℤ, pos}
use Rattle.std.specs.List.{Any}
use Rattle.std.specs.Ordering.{int_eq}
use lib.Pointwise.{pointwise}
use Rattle.lie_datum.specs.Vectors.{Vector, plus, times}
use Rattle.lie_const.specs.StructureConstants.{same_vector}
use Rattle.lie_weight.proofs.VectorEquality.{same_test, same_vector_is, same_vector_itself}
use Rattle.lie_datum.specs.RootList.{RootDatum}
use Rattle.std.proofs.lemmas.List.{get_or_default}
use Rattle.lie_weight.specs.declared.entry.Entry.{Entry}
use Rattle.lie_weight.specs.Tables.{IsSamePlace, IsGraded, IsBadEntry, AreGoodEntries, IsFirstBadEntry}

module _ (d : RootDatum) (ws : List Vector) (es : List Entry) (n : ℕ) (e z : Entry) (within : n < length es) (is : e ≡ get_or es n z) where
  here_is : get_or es n e ≡ e
  here_is = get_or_default es n e z within ∙ sym is

  pub bad_from : (Any (IsSamePlace e) (take n es) ⊎ (¬ IsGraded d ws e)) → IsBadEntry d ws es n
  bad_from b = record { entry = e; within = within; here = here_is; bad = b }

  pub bad_cases : IsBadEntry d ws es n → Any (IsSamePlace e) (take n es) ⊎ (¬ IsGraded d ws e)
  bad_cases x =
      let same : x.entry ≡ e = sym x.here ∙ get_or_default es n x.entry z within ∙ sym is in
      subst (λ (t : Entry). Any (IsSamePlace t) (take n es) ⊎ (¬ IsGraded d ws t)) same x.bad

-- no entry is bad past the last
pub all_good : (d : RootDatum) (ws : List Vector) (es : List Entry) (n : ℕ) → length es ≤ n → ((m : ℕ) → m < n → ¬ IsBadEntry d ws es m) → AreGoodEntries d ws es
all_good d ws es n l h m x = h m (let w = x.within in omega (arith, w, l)) x

pub first_entry : (d : RootDatum) (ws : List Vector) (es : List Entry) (n : ℕ) → IsBadEntry d ws es n → ((m : ℕ) → m < n → ¬ IsBadEntry d ws es m) → IsFirstBadEntry d ws es (n + 1)
first_entry d ws es n b h = record { first = omega arith; bad = subst (IsBadEntry d ws es) (let e : n ≡ n + 1 - 1 = omega arith in e) b; before = λ m l. h m (omega (arith, l)) }

-- the negation of a test that does not hold
pub is_not : (t : Bool) → ¬ IsTrue t → IsTrue (not t)
is_not true n = absurd (n refl)
is_not false n = refl

pub is_not_not : (t : Bool) → IsTrue (not t) → ¬ IsTrue t
is_not_not true e u = absurd (cc)
is_not_not false e u = absurd (cc)

pub not_both : (t : Bool) → t ≡ true → t ≡ false → ⊥
not_both true e u = absurd (cc)
not_both false e u = absurd (cc)

-- the test of the grading
pub graded_test : (t : Bool) (x y raised u v : Vector) (m : ℤ) (k : ℕ) → t ≡ pointwise int_eq x raised → raised ≡ plus y (times m u) → u ≡ v → m ≡ pos k → IsTrue t ↔ (x ≡ plus y (times (pos k) v))
graded_test t x y raised u v m k g e f h =
    let image = e ∙ ap (λ z. plus y (times z u)) h ∙ ap (λ z. plus y (times (pos k) z)) f in
    (λ a. same_vector_is x raised (sym (same_test x raised) ∙ sym g ∙ a) ∙ image, λ a. g ∙ same_test x raised ∙ ap (same_vector x) (sym (a ∙ sym image)) ∙ same_vector_itself x)
