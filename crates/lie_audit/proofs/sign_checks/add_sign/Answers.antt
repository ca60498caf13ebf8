-- The sign is good where it is as asked.
use Rattle.std.proofs.Common.{◌+◌, ◌*◌, ◌-◌, ◌<◌, ℤ, pos, neg_ℤ, ◌<ℤ◌, inl, inr, length, get_or, refl, sym, ap, subst, ◌∙◌, ◌++◌, ◌∷◌, [], arith, lit<, unsigned_abs, FitsSigned}
use Rattle.std.proofs.lemmas.Bool.{false≢true}
use Rattle.std.proofs.lemmas.Int.{to_z-of_z, fits_signed_from_abs}
use mir.Val.{to_z, of_z}
use mir.Syntax.{w128, w8}
use Rattle.lie_datum.specs.Numbers.{place}
use Rattle.lie_datum.proofs.VectorLemmas.{plain}
use Rattle.lie_const.specs.Signs.{sign_entry}
use Rattle.lie_audit.specs.SignParts.{IsSign, entry_bound}
use Rattle.lie_audit.proofs.TestLemmas.{good_from_asked, asked_from_good, more_tested, other_is}
use Rattle.lie_audit.proofs.sign_checks.add_sign.Goals as goal

-- a sign fits eight bits
unit_fits : (z : ℤ) → IsSign z → FitsSigned w8 z
unit_fits z u = fits_signed_from_abs w8 z (small u)
  where
    small : IsSign z → unsigned_abs z < 128
    small (inl e) = subst (λ x. unsigned_abs x < 128) (sym e) (omega arith)
    small (inr e) = subst (λ x. unsigned_abs x < 128) (sym e) (omega arith)

pub returns-then-not-is_asked-clause-err : goal.returns-then-not-is_asked-clause-err
returns-then-not-is_asked-clause-err c =
    let d = c.args.datum.now in
    let v = c.args.adjoint.now in
    let i = c.args.i in
    let s = c.args.s in
    let value = plain c.in_ok-value.value entry_bound c.in_ok-value.ensures.size (lit< tt) ∙ c.in_ok-value.ensures.value in
    let other = λ (n : s <ℤ pos 0). plain c.other_sign-other.result entry_bound c.other_sign-other.ensures.size (lit< tt) ∙ c.other_sign-other.ensures.value n
    ∙ ap (λ xs. get_or xs ((i - 1) * (2 * length d.positive) + place (length d.positive) (neg_ℤ s)) (pos 1)) c.deref.ensures.value ∙ other_is d v c.args.table.now.items i s c.requires.index c.requires.number n c.requires.tested in
    record {
      index = c.requires.index;
      number = c.requires.number;
      value = value;
      bad = λ g. false≢true (c.if-not-is_asked.ensures.1 (asked_from_good (sign_entry d v) i s (to_z w128 (of_z w128 c.in_ok-value.value)) (to_z w128 (of_z w128 c.other_sign-other.result)) value other g));
      earlier = λ j r a b o. c.requires.tested.good j r a b o;
    }

pub overflow_cast-value : goal.overflow_cast-value
overflow_cast-value c = unit_fits (to_z w128 (of_z w128 c.in_ok-value.value)) (c.if-not-is_asked.ensures.0 refl).unit

pub returns-clause-ok : goal.returns-clause-ok
returns-clause-ok c =
    let d = c.args.datum.now in
    let v = c.args.adjoint.now in
    let i = c.args.i in
    let s = c.args.s in
    let value = plain c.in_ok-value.value entry_bound c.in_ok-value.ensures.size (lit< tt) ∙ c.in_ok-value.ensures.value in
    let other = λ (n : s <ℤ pos 0). plain c.other_sign-other.result entry_bound c.other_sign-other.ensures.size (lit< tt) ∙ c.other_sign-other.ensures.value n
    ∙ ap (λ xs. get_or xs ((i - 1) * (2 * length d.positive) + place (length d.positive) (neg_ℤ s)) (pos 1)) c.deref.ensures.value ∙ other_is d v c.args.table.now.items i s c.requires.index c.requires.number n c.requires.tested in
    let asked = c.if-not-is_asked.ensures.0 refl in
    let good = good_from_asked (sign_entry d v) i s (to_z w128 (of_z w128 c.in_ok-value.value)) (to_z w128 (of_z w128 c.other_sign-other.result)) value other asked in
    more_tested d v c.args.table.now.items c.push.new.self.items i s (sign_entry d v i s) c.requires.number c.requires.tested refl good
    (c.in_ok-push.ensures.items ∙ ap (λ z. c.args.table.now.items ++ z ∷ []) (to_z-of_z w8 (to_z w128 (of_z w128 c.in_ok-value.value)) (unit_fits (to_z w128 (of_z w128 c.in_ok-value.value)) asked.unit) ∙ value))
