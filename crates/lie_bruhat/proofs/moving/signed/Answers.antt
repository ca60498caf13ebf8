use Rattle.std.proofs.Common.{◌≡◌, pos, negsuc, sym, ap, subst, ◌∙◌, arith, ⊎_elim}
use Rattle.std.proofs.lemmas.Int.{ints}
use Rattle.lie_const.specs.Signs.{eta_of}
use Rattle.lie_field.specs.Quotient.{mul, neg, of_int}
use Rattle.lie_bruhat.proofs.MovingLemmas.{one_sign, minus_sign}
use Rattle.lie_bruhat.proofs.moving.signed.Goals as goal

pub returns-then-eta-lt0-clause-value : goal.returns-then-eta-lt0-clause-value
returns-then-eta-lt0-clause-value c =
    let F = c.args.frame.now.field in
    let sign : eta_of c.args.frame.now.signs c.args.i c.args.s ≡ negsuc 0 =
    subst (λ z. eta_of z.signs c.args.i c.args.s ≡ negsuc 0) c.frame.view_is
    (sym c.eta.ensures.value ∙ ⊎_elim (λ e. (let t = c.if-eta-lt0.true in omega (arith, ints, e, t))) (λ e. e) c.eta.ensures.unit) in
    subst (λ z. c.neg.result ≡ neg z.field.given c.args.a) c.frame.view_is c.neg.ensures.value
    ∙ sym (ap (λ n. mul F.given (of_int F.given n) c.args.a) sign ∙ minus_sign F c.args.a c.requires.below)

pub returns-else-eta-lt0-clause-value : goal.returns-else-eta-lt0-clause-value
returns-else-eta-lt0-clause-value c =
    let F = c.args.frame.now.field in
    let sign : eta_of c.args.frame.now.signs c.args.i c.args.s ≡ pos 1 =
    subst (λ z. eta_of z.signs c.args.i c.args.s ≡ pos 1) c.frame.view_is
    (sym c.eta.ensures.value ∙ ⊎_elim (λ e. e) (λ e. (let t = c.if-eta-lt0.false in omega (arith, ints, e, t))) c.eta.ensures.unit) in
    sym (ap (λ n. mul F.given (of_int F.given n) c.args.a) sign ∙ one_sign F c.args.a c.requires.below)
