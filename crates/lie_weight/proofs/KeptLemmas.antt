-- A module that is kept has few matrices of each root.
use Rattle.std.proofs.Common.{◌-◌, ◌*◌, ◌≤◌, ℤ, [], length, ap, arith, ⊎_elim}
use Rattle.std.proofs.lemmas.List.{get_or_past}
use Rattle.std.proofs.lemmas.List.Elements.{All-get_or}
use Rattle.lie_datum.specs.Numbers.{place}
use Rattle.lie_datum.proofs.Entries.{within_or_past}
use Rattle.lie_const.specs.Modules.{Module, dimension, top}
use Rattle.lie_weight.specs.Kept.{ArePowers, IsKeptModule}

-- sixteen matrices for each basis vector but one
pub top_few : (v : Module) → IsKeptModule v → (r : ℤ) → top v r ≤ 16 * (dimension v - 1)
top_few v kept r =
    let p = place v.positive r in
    ⊎_elim (λ l. (All-get_or (ArePowers (dimension v)) v.powers p [] l kept.powers).few) (λ l. (let e = ap length (get_or_past v.powers p [] l) in omega (arith, e))) (within_or_past p (length v.powers))
