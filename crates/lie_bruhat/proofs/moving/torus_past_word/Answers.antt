use Rattle.std.proofs.Common.{◌≡◌, ◌-◌, ◌∷◌, [], get_or, length, map, drop, sym, subst, arith}
use Rattle.lie_letters.specs.Entries.{AreUnits, reflected}
use Rattle.lie_letters.specs.Frames.{dim}
use Rattle.lie_letters.specs.SignedFrames.{unsigned}
use Rattle.lie_letters.specs.GroupSpelled.{JoinedInGroup}
use Rattle.lie_letters.specs.declared.letter.Letter.TheVariants.{H, N}
use Rattle.lie_letters.proofs.CallerLemmas.{JoinedInGroup-over}
use Rattle.lie_bruhat.proofs.MovingLemmas.{last_letters, no_letters, reflected_joined}
use Rattle.lie_bruhat.proofs.PassLemmas.{Passes, passes_empty, passes_through}
use Rattle.lie_bruhat.proofs.moving.torus_past_word.Goals as goal

pub loop-k-init : goal.loop-k-init
loop-k-init c =
    let f = c.args.frame.now in
    let t = c.args.t.now in
    let w = c.args.word.now in
    let none = subst (λ p. Passes f (map N p) (H t ∷ []) (H t ∷ [])) (sym (no_letters w)) (passes_empty f (H t ∷ []) ((c.requires.long, c.requires.units), tt)) in
    subst (λ s. AreUnits f.field s × (dim (unsigned f) ≡ length s) × Passes f (map N (drop (length w - 0) w)) (H t ∷ []) (H s ∷ [])) (sym c.copied-moved.ensures) (c.requires.units, c.requires.long, none)

pub loop-k-preserved : goal.loop-k-preserved
loop-k-preserved c =
    let f = c.args.frame.now in
    let w = c.args.word.now in
    let t = c.args.t.now in
    let k = c.loop-k.k in
    let i = get_or w (length w - 1 - k) 0 in
    let old = c.loop-k.moved in
    let new = c.reflect-moved.result in
    let known = c.loop-k.invariant in
    let t0 = c.loop-k-test.true in
    let step : JoinedInGroup f (N i ∷ H old ∷ []) (H new ∷ N i ∷ []) =
    subst (λ s. JoinedInGroup f (N i ∷ H old ∷ []) (H s ∷ N i ∷ [])) (sym (subst (λ z. new ≡ reflected z.field z.datum.base i old) c.frame.view_is c.reflect-moved.ensures))
    (reflected_joined f c.lawful.ensures i old (c.requires.letters (length w - 1 - k) 0 (omega (arith, t0))) known.0 known.1) in
    let over = (JoinedInGroup-over f (N i ∷ H old ∷ []) (H new ∷ N i ∷ []) step).0 in
    (over.1, over.0, subst (λ p. Passes f (map N p) (H t ∷ []) (H new ∷ [])) (last_letters w k c.loop-k-test.true) (passes_through f (N i ∷ []) (map N (drop (length w - k) w)) (H t ∷ []) (H old ∷ []) (H new ∷ []) known.2 step))
