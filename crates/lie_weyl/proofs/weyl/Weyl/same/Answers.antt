use Rattle.std.proofs.Common.{ap, sym, ◌∙◌, take}
use Rattle.std.specs.Cmp.Rules.{signed_items}
use Rattle.lie_weyl.specs.Padding.{unpadded, unpadded-used}
use Rattle.lie_weyl.specs.declared.weyl.Weyl.TheInside.{Inside}
use Rattle.lie_weyl.proofs.weyl.Weyl.same.Goals as goal

pub returns-then-self-b : goal.returns-then-self-b
returns-then-self-b c =
    let a = c.self.inside in
    let b = c.b.inside in (
      (λ e. sym c.self.view_is
          ∙ ap (λ n. take n a.images) c.if-self-b.true ∙ ap (take b.l) ((signed_items a.images b.images).0 (sym c.eq.ensures ∙ e)) ∙ c.b.view_is),
      (λ e. c.eq.ensures ∙ (signed_items a.images b.images).1
          (ap (λ (z : Inside). z.images) (sym (unpadded-used a c.self.invariant) ∙ ap unpadded (c.self.view_is ∙ e ∙ sym c.b.view_is) ∙ unpadded-used b c.b.invariant))),
    )
