use Rattle.std.proofs.Common.{◌≡◌, ap, arith}
use Rattle.lie_gen.specs.Demonstration.{Sample}
use Rattle.lie_gen.proofs.LetterLemmas.{root_kind, weyl_kind, torus_kind}
use Rattle.lie_gen.proofs.letters.put_letter.Goals as goal

pub returns-in-0 : goal.returns-in-0
returns-in-0 c =
    root_kind c.args.sample.now c.sample.inside.positive c.draw.result c.put_root_letter.result c.args.out.now.items c.put_root_letter.new.out.items c.draw.new.self c.args.draws.now c.put_root_letter.new.draws
    (ap (λ (s : Sample). s.positive) c.sample.view_is) c.in-0.is c.draw.ensures.value c.draw.ensures.state c.put_root_letter.ensures

pub returns-in-1 : goal.returns-in-1
returns-in-1 c =
    weyl_kind c.args.sample.now c.sample.inside.rank c.draw.result c.put_weyl_letter.result c.args.out.now.items c.put_weyl_letter.new.out.items c.draw.new.self c.args.draws.now c.put_weyl_letter.new.draws
    (ap (λ (s : Sample). s.rank) c.sample.view_is) c.in-1.is c.draw.ensures.value c.draw.ensures.state c.put_weyl_letter.ensures

pub returns-in_default : goal.returns-in_default
returns-in_default c =
    let w = c.draw.ensures.within in
    let o = c.in_default in
    let two : c.draw.result ≡ 2 = omega (arith, w, o) in
    torus_kind c.args.sample.now c.sample.inside.rank c.draw.result c.put_torus_letter.result c.args.out.now.items c.put_torus_letter.new.out.items c.draw.new.self c.args.draws.now c.put_torus_letter.new.draws
    (ap (λ (s : Sample). s.rank) c.sample.view_is) two c.draw.ensures.value c.draw.ensures.state c.put_torus_letter.ensures
