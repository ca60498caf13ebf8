use Rattle.std.proofs.Common.{ℕ, List, IfOk, reverse, subst}
use Rattle.lie_weyl.specs.WeylElement.{Spells}
use Rattle.lie_group.specs.Groups.{GroupData}
use Rattle.lie_group.proofs.group.Group.inv.Goals as goal

pub returns-clause-weyl : goal.returns-clause-weyl
returns-clause-weyl c =
    let before = c.args.a.now.weyl in
    subst (λ (z : GroupData). IfOk c.inv.result (λ x. (w : List ℕ) → Spells z.frame.datum w before → Spells z.frame.datum (reverse w) x.weyl)) c.self.view_is c.inv.ensures.weyl
