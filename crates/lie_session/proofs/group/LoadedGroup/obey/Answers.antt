use Rattle.std.proofs.Common.{rules, Ok, Some, refl, sym, subst}
use Rattle.lie_audit.specs.WordMatrix.{IsWordFor}
use Rattle.lie_datum.specs.RootList.{IsLoaded}
use Rattle.lie_letters.specs.SignedFrames.{SignedFrame}
use Rattle.lie_reply.specs.Commands.{ConstantTextOf}
use Rattle.lie_script.specs.declared.line.Line.{Line}
use Rattle.lie_session.specs.Asked.{TellsSame}
use Rattle.lie_session.specs.Held.{LoadedGroup}
use Rattle.lie_session.specs.Outcomes.{Leads}
use Rattle.lie_session.specs.Ready.{Commands}
use Rattle.lie_session.specs.declared.stage.Stage.TheVariants as stage
use Rattle.lie_session.proofs.group.LoadedGroup.obey.Goals as goal

pub printed-requires : goal.printed-requires
printed-requires c =
    subst (λ (f : SignedFrame). IsLoaded f.datum → IsWordFor f.field f.datum c.in-Form.w) (sym c.frame.ensures) (subst (Commands c.args.self.now) c.in-Form.is c.requires)

pub multiplied-requires-clause-left : goal.multiplied-requires-clause-left
multiplied-requires-clause-left c =
    subst (λ (f : SignedFrame). IsLoaded f.datum → IsWordFor f.field f.datum c.in-Mul.w) (sym c.frame-in-Mul.ensures) (subst (Commands c.args.self.now) c.in-Mul.is c.requires).0

pub multiplied-requires-clause-right : goal.multiplied-requires-clause-right
multiplied-requires-clause-right c =
    subst (λ (f : SignedFrame). IsLoaded f.datum → IsWordFor f.field f.datum c.in-Mul.v) (sym c.frame-in-Mul.ensures) (subst (Commands c.args.self.now) c.in-Mul.is c.requires).1

pub inverted-requires : goal.inverted-requires
inverted-requires c =
    subst (λ (f : SignedFrame). IsLoaded f.datum → IsWordFor f.field f.datum c.in-Inv.w) (sym c.frame-in-Inv.ensures) (subst (Commands c.args.self.now) c.in-Inv.is c.requires)

pub same-requires-clause-left : goal.same-requires-clause-left
same-requires-clause-left c =
    subst (λ (g : LoadedGroup). IsLoaded g.frame.datum → IsWordFor g.frame.field g.frame.datum c.in-Same.w) (sym c.self.view_is) (subst (Commands c.args.self.now) c.in-Same.is c.requires).0

pub same-requires-clause-right : goal.same-requires-clause-right
same-requires-clause-right c =
    subst (λ (g : LoadedGroup). IsLoaded g.frame.datum → IsWordFor g.frame.field g.frame.datum c.in-Same.v) (sym c.self.view_is) (subst (Commands c.args.self.now) c.in-Same.is c.requires).1

pub returns-in-Constant : goal.returns-in-Constant
returns-in-Constant c =
    let g = c.args.self.now in
    let text = c.in_ok-constant-in-Constant.field-0 in
    let is : ConstantTextOf g.frame.datum c.in-Constant.r c.in-Constant.s text = search rules in
    subst (λ (said : Line). Leads (stage.Loaded g) said (Ok (stage.Loaded g, Some text))) (sym c.in-Constant.is) (text, is, refl)

pub returns-in-Same : goal.returns-in-Same
returns-in-Same c =
    let g = c.args.self.now in
    let text = c.in_ok-same-in-Same.field-0 in
    let is : TellsSame g.frame c.in-Same.w c.in-Same.v text = subst (λ (h : LoadedGroup). TellsSame h.frame c.in-Same.w c.in-Same.v text) c.self.view_is c.in_ok-same-in-Same.ensures in
    subst (λ (said : Line). Leads (stage.Loaded g) said (Ok (stage.Loaded g, Some text))) (sym c.in-Same.is) (text, is, refl)
