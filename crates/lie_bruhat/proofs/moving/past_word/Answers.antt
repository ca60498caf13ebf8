use Rattle.std.proofs.Common.{◌≡◌, ◌-◌, ◌∷◌, [], get_or, length, map, drop, refl, sym, ap, subst, ◌∙◌}
use Rattle.lie_datum.specs.RootDatum.{reflected}
use Rattle.lie_datum.specs.RootList.{root_of}
use Rattle.lie_letters.specs.declared.letter.Letter.TheVariants.{X, N}
use Rattle.lie_weyl.specs.WeylElement.{moved}
use Rattle.lie_bruhat.proofs.MovingLemmas.{last_letters, no_letters}
use Rattle.lie_bruhat.proofs.PassLemmas.{Passes, passes_empty, passes_through}
use Rattle.lie_bruhat.proofs.moving.past_word.Goals as goal

pub loop-k-init : goal.loop-k-init
loop-k-init c =
    let f = c.args.frame.now in
    let x = c.args.x in
    let none = sym (no_letters c.args.word.now) in (
      c.requires.root,
      c.requires.below,
      subst (λ p. root_of f.datum x.r ≡ moved f.datum.base p (root_of f.datum x.r)) none refl,
      subst (λ p. Passes f (map N p) (X x.r x.a ∷ []) (X x.r x.a ∷ [])) none (passes_empty f (X x.r x.a ∷ []) ((c.requires.root, c.requires.below), tt)),
    )

pub loop-k-preserved : goal.loop-k-preserved
loop-k-preserved c =
    let f = c.args.frame.now in
    let w = c.args.word.now in
    let x = c.args.x in
    let k = c.loop-k.k in
    let i = get_or w (length w - 1 - k) 0 in
    let old = c.loop-k.moved in
    let new = c.past_simple-moved in
    let known = c.loop-k.invariant in
    let more = last_letters w k c.loop-k-test.true in (
      new.ensures.root,
      new.ensures.below,
      subst (λ p. root_of f.datum new.result.r ≡ moved f.datum.base p (root_of f.datum x.r)) more (new.ensures.image ∙ ap (reflected f.datum.base i) known.2),
      subst (λ p. Passes f (map N p) (X x.r x.a ∷ []) (X new.result.r new.result.a ∷ [])) more
          (passes_through f (N i ∷ []) (map N (drop (length w - k) w)) (X x.r x.a ∷ []) (X old.r old.a ∷ []) (X new.result.r new.result.a ∷ []) known.3 new.ensures.joined),
    )
