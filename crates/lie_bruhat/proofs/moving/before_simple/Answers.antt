use Rattle.std.proofs.Common.{◌≡◌, subst}
use Rattle.lie_datum.specs.RootDatum.{reflected}
use Rattle.lie_datum.specs.RootList.{IsNumber, root_of}
use Rattle.lie_bruhat.proofs.MovingLemmas.{before_joined}
use Rattle.lie_bruhat.proofs.moving.before_simple.Goals as goal

pub returns-clause-joined : goal.returns-clause-joined
returns-clause-joined c =
    let f = c.args.frame.now in
    before_joined f c.lawful.ensures c.args.i c.args.x.r c.reflect-r.result c.args.x.a c.signed.result c.requires.index c.requires.root
    (subst (λ z. IsNumber z.datum c.reflect-r.result) c.frame.view_is c.reflect-r.ensures.number)
    (subst (λ z. root_of z.datum c.reflect-r.result ≡ reflected z.datum.base c.args.i (root_of z.datum c.args.x.r)) c.frame.view_is c.reflect-r.ensures.root)
    c.requires.below c.signed.ensures.value
