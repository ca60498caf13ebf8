use Rattle.std.proofs.Common.{◌≡◌, ◌+◌, ◌≤◌, suc, ap, ◌∙◌, arith}
use Rattle.lie_datum.proofs.ListingLemmas.{ok_map}
use Rattle.lie_weight.specs.Tables.{given_matrix}
use Rattle.lie_weight.specs.Completion.{IsTrimmed, KeepsAll, given_powers}
use Rattle.lie_weight.proofs.DraftLemmas.{first_push, first_keeps}
use Rattle.lie_weight.proofs.GivenLemmas.{given_square, given_none}
use Rattle.lie_weight.proofs.sources.given_powers.Goals as goal

pub loop-k-preserved : goal.loop-k-preserved
loop-k-preserved c =
    let n = c.args.size in
    let es = c.args.entries.now in
    let r = c.args.root in
    let k = c.loop-k.k in
    let M = c.in_ok-given_matrix.field-0 in
    let next : k + 1 ≡ suc k = omega arith in
    let value = c.in_ok-given_matrix.ensures.value in
    first_push n (given_powers n es r) k c.loop-k.list.items c.push.new.self.items M c.loop-k.invariant (value ∙ ap (given_matrix n es r) next) (given_square n es r (k + 1) M value c.in_ok-given_matrix.ensures.fit) c.in_ok-push.ensures.items

pub returns : goal.returns
returns c =
    let n = c.args.size in
    let es = c.args.entries.now in
    let r = c.args.root in
    let k = c.loop-k.k in
    let t = c.loop-k-test.false in
    let few : k ≤ 16 = let a = c.loop-k.auto in omega (arith, a) in
    ok_map (λ l. IsTrimmed n c.loop-k.list.items l.items) (λ l. KeepsAll n (given_powers n es r) l.items)
    (λ l h. first_keeps n (given_powers n es r) k c.loop-k.list.items l.items few c.loop-k.invariant
    (λ j m. given_none n es r (suc j) (λ i z o. (c.requires.entries i z o).power.1) (omega (arith, m, t))) h)
    c.kept.result c.kept.ensures
