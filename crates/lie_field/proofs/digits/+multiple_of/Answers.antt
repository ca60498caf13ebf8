use Rattle.std.proofs.Common.{◌+◌, ◌*◌, ◌%◌, ◌^◌, ◌<◌, sym, ap, ◌∙◌, arith, rules}
use Rattle.std.proofs.Math.Nat.{mod-lt}
use Rattle.lie_field.proofs.Digitwise.{multiple-none, multiple_step, room, place, product_fits}
use Rattle.lie_field.proofs.digits.+multiple_of.Goals as goal

pub multiple_of-requires : goal.multiple_of-requires
multiple_of-requires t c =
    let r = room c.args.p c.args.k c.requires.p_pos (let k : 0 < c.args.k = search rules in k) in
    (search rules, (c.requires.p_pos, (omega (arith, r.rest_small, c.requires.small), c.requires.c_small)))

pub overflow_mul-result-else-k-eq0 : goal.overflow_mul-result-else-k-eq0
overflow_mul-result-else-k-eq0 t c =
    let p = c.args.p in
    let k : 0 < c.args.k = search rules in
    let d = (c.args.c * (c.args.a % p)) % p in
    let whole = place p c.args.k d c.multiple_of.result c.requires.p_pos k (mod-lt (c.args.c * (c.args.a % p)) c.requires.p_pos) c.multiple_of.ensures.below in
    let b : p * c.multiple_of.result < 2 ^ 32 = omega (arith, whole, c.requires.small) in
    search (rules, b)

pub overflow_add-result : goal.overflow_add-result
overflow_add-result t c =
    let p = c.args.p in
    let k : 0 < c.args.k = search rules in
    let d = (c.args.c * (c.args.a % p)) % p in
    let whole = place p c.args.k d c.multiple_of.result c.requires.p_pos k (mod-lt (c.args.c * (c.args.a % p)) c.requires.p_pos) c.multiple_of.ensures.below in
    let b : d + p * c.multiple_of.result < 2 ^ 32 = omega (arith, whole, c.requires.small) in
    search (rules, b)

pub returns-then-k-eq0-clause-value : goal.returns-then-k-eq0-clause-value
returns-then-k-eq0-clause-value t c = multiple-none c.args.p c.args.k c.args.c c.args.a c.if-k-eq0.true

pub returns-else-k-eq0-clause-value : goal.returns-else-k-eq0-clause-value
returns-else-k-eq0-clause-value t c =
    let k : 0 < c.args.k = search rules in
    ap (λ x. (c.args.c * (c.args.a % c.args.p)) % c.args.p + c.args.p * x) c.multiple_of.ensures.value
    ∙ sym (multiple_step c.args.p c.args.k c.args.c c.args.a k)

pub returns-else-k-eq0-clause-below : goal.returns-else-k-eq0-clause-below
returns-else-k-eq0-clause-below t c =
    let p = c.args.p in
    let k : 0 < c.args.k = search rules in
    place p c.args.k ((c.args.c * (c.args.a % p)) % p) c.multiple_of.result c.requires.p_pos k (mod-lt (c.args.c * (c.args.a % p)) c.requires.p_pos) c.multiple_of.ensures.below

pub overflow_mul-result : goal.overflow_mul-result
overflow_mul-result t c =
    let p = c.args.p in
    let r = room p c.args.k c.requires.p_pos (let k : 0 < c.args.k = search rules in k) in
    let fits = product_fits c.args.c p (c.args.a % p) c.requires.c_small (omega (arith, r.p_small, c.requires.small)) (mod-lt c.args.a c.requires.p_pos) in
    search (rules, fits)
