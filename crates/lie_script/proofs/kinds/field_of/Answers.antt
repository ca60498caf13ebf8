use Rattle.std.proofs.Common.{arith, rules, ◌≡◌, ◌-◌, pos, nat_abs, true, get_or, take, drop, length}
use Rattle.std.specs.List.{All}
use Rattle.lie_script.specs.Numbers.{is_within}
use Rattle.lie_script.proofs.Digits.{within-behind}
use Rattle.lie_script.proofs.kinds.field_of.Goals as goal

pub overflow_cast-result-3 : goal.overflow_cast-result-3
overflow_cast-result-3 c =
    let all = c.args.all.now in
    let count = c.unsigned_abs-count.result in
    let within : All (λ n. is_within (pos 0) (pos 1000000) n ≡ true) all = c.requires in
    let size : c.unsigned_abs-2.result ≡ nat_abs (get_or (take (length all - 2) (drop 2 all)) count (pos 0)) = search rules in
    omega (arith, size, within-behind all count 1000000 within (omega (arith, c.if-more-count.false)))
