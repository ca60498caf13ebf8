use Rattle.std.proofs.Common.{◌≡◌, ℤ, Some, MatchOption, subst, sym, arith}
use Rattle.std.proofs.lemmas.Int.{ints}
use Rattle.lie_datum.specs.Vectors.{plus}
use Rattle.lie_datum.specs.RootList.{NamesRoot}
use Rattle.lie_const.specs.StructureConstants.{IsSpecial, coeffs_of}
use Rattle.lie_const.proofs.SpecialLemmas.{special_none, special_some, special_only}
use Rattle.lie_const.proofs.filling.partner.Goals as goal

pub returns-in_err-s : goal.returns-in_err-s
returns-in_err-s c =
    let d = c.args.datum.now in
    let named = subst (λ t. NamesRoot d (λ v. v.coeffs ≡ plus (coeffs_of d c.args.k) (coeffs_of d t)) c.sum.result) c.opposite.ensures c.sum.ensures in
    subst (λ o. MatchOption o ((s : ℤ) → ¬ (IsSpecial d c.args.r s c.args.k)) (λ s. IsSpecial d c.args.r s c.args.k)) (sym c.from_residual.ensures)
    (special_none d c.loaded.ensures c.args.r c.args.k c.requires.r c.requires.k c.sum.result c.in_err-s.was named)

pub returns-then-number : goal.returns-then-number
returns-then-number c =
    let d = c.args.datum.now in
    let named = subst (λ t. NamesRoot d (λ v. v.coeffs ≡ plus (coeffs_of d c.args.k) (coeffs_of d t)) (Some c.in_ok-s.s)) c.opposite.ensures c.in_ok-s.ensures in
    record { positive = c.requires.positive; before = omega (arith, ints); sum = special_some d c.loaded.ensures c.args.r c.args.k c.requires.r c.requires.k c.in_ok-s.s named }

pub returns-else-number : goal.returns-else-number
returns-else-number c s h =
    let d = c.args.datum.now in
    let named = subst (λ t. NamesRoot d (λ v. v.coeffs ≡ plus (coeffs_of d c.args.k) (coeffs_of d t)) (Some c.in_ok-s.s)) c.opposite.ensures c.in_ok-s.ensures in
    let e = special_only d c.loaded.ensures c.args.r c.args.k c.requires.r c.requires.k c.in_ok-s.s named s h in
    let l = h.before in
    omega (arith, ints, e, l)
