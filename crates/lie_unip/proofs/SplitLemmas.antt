-- The collected list for the order in which the roots that are kept come first, cut between the two groups.
use Rattle.std.proofs.Common.{◌≡◌, ℕ, Bool, true, false, cond, eqb, refl, arith}
use Rattle.std.proofs.lemmas.Bool.Decides.{nat_tests}
use Rattle.std.specs.Prelude.{nat_lt}
use Rattle.lie_unip.specs.Splitting.{kept_first}
use Rattle.lie_unip.specs.Collection.{IsStrictOrder}

-- the order in which the roots that are kept come first is a strict total one
pub kept_first_order : (kept : ℕ → Bool) → IsStrictOrder (kept_first kept)
kept_first_order kept = record {
  one_way = λ r s. one (kept r) (kept s) r s;
  total = λ r s. all (kept r) (kept s) r s;
  trans = λ r s t. through (kept r) (kept s) (kept t) r s t;
}
  where
    one : (a b : Bool) (r s : ℕ) → cond a (cond b (nat_lt r s) true) (cond b false (nat_lt r s)) ≡ true → cond b (cond a (nat_lt s r) true) (cond a false (nat_lt s r)) ≡ false
    one true true r s e = grind (arith, nat_tests)
    one true false r s e = refl
    one false true r s e = absurd (cc)
    one false false r s e = grind (arith, nat_tests)

    all : (a b : Bool) (r s : ℕ) → eqb r s ≡ false → cond b (cond a (nat_lt s r) true) (cond a false (nat_lt s r)) ≡ false → cond a (cond b (nat_lt r s) true) (cond b false (nat_lt r s)) ≡ true
    all true true r s e f = grind (arith, nat_tests)
    all true false r s e f = refl
    all false true r s e f = absurd (cc)
    all false false r s e f = grind (arith, nat_tests)

    through : (a b c : Bool) (r s t : ℕ) → cond a (cond b (nat_lt r s) true) (cond b false (nat_lt r s)) ≡ true → cond b (cond c (nat_lt s t) true) (cond c false (nat_lt s t)) ≡ true
        → cond a (cond c (nat_lt r t) true) (cond c false (nat_lt r t)) ≡ true
    through true true true r s t e f = grind (arith, nat_tests)
    through true true false r s t e f = refl
    through true false true r s t e f = absurd (cc)
    through true false false r s t e f = refl
    through false true c r s t e f = absurd (cc)
    through false false true r s t e f = absurd (cc)
    through false false false r s t e f = grind (arith, nat_tests)
