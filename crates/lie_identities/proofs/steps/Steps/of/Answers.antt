use Rattle.std.proofs.Common.{◌≡◌, ◌*◌, ◌≤◌, ◌∷◌, [], ◌++◌, map, length, sym, ap, ap₂, subst, ◌∙◌, arith, below_more}
use Rattle.std.specs.List.{range_with_len}
use Rattle.std.proofs.lemmas.List.{map-append}
use Rattle.std.proofs.lemmas.List.FromFn.{map-range_with_len_more}
use Rattle.lie_datum.specs.Numbers.{number_at}
use Rattle.lie_const.specs.Modules.{dimension, top}
use Rattle.lie_identities.specs.StepLists.{root_steps, HasSmallColumns}
use Rattle.lie_identities.proofs.StepWalks.{few-everywhere, small-everywhere, light-pairings}
use Rattle.lie_identities.proofs.steps.Steps.of.Goals as goal

pub loop-place-preserved : goal.loop-place-preserved
loop-place-preserved c =
    let v = c.args.«module».now in
    let m = length c.args.datum.now.positive in
    let k = c.loop-place.place in
    let i = c.loop-place.invariant in
    let is = c.root_at.ensures.value in
    record {
      lists =
          ap (map (λ c. map (λ s. s.items) c.items)) c.in_ok-push.ensures.items
          ∙ map-append (λ c. map (λ s. s.items) c.items) c.loop-place.lists.items (c.in_ok-steps_of_root.field-0 ∷ [])
          ∙ ap₂ (λ ys x. ys ++ x ∷ []) i.lists (c.in_ok-steps_of_root.ensures.value ∙ ap (root_steps v) is)
          ∙ sym (map-range_with_len_more (λ h. root_steps v (number_at m h)) 0 k k (omega arith));
      few = below_more (λ h. top v (number_at m h) ≤ 16384) k i.few (subst (λ r. top v r ≤ 16384) is c.in_ok-steps_of_root.ensures.few);
      small = below_more (λ h. HasSmallColumns v (number_at m h) (dimension v)) k i.small (subst (λ r. HasSmallColumns v r (dimension v)) is c.in_ok-steps_of_root.ensures.small);
    }

pub invariant_of-result : goal.invariant_of-result
invariant_of-result c =
    let v = c.args.«module».now in
    let d = c.args.datum.now in
    let i = c.loop-place.invariant in
    let shape = c.requires.shape in
    let p = shape.positive in
    let m = c.m-place-end.ensures.value in
    let t = c.loop-place-test.false in
    let end = c.loop-place.auto.place-end in
    let full : c.loop-place.place ≡ 2 * v.positive = omega (arith, p, m, t, end) in
    record {
      is_module = shape;
      light = c.requires.light;
      thin = let few = c.dim-dim.ensures.few in let e = c.dim-dim.ensures.value in omega (arith, few, e);
      pairings = light-pairings d v c.loaded.ensures c.requires.light;
      few = few-everywhere d v shape (λ h l. i.few h (omega (arith, l, full, p)));
      small = small-everywhere d v shape (λ h l. i.small h (omega (arith, l, full, p)));
      indexed = i.lists ∙ ap₂ (λ m n. map (λ h. root_steps v (number_at m h)) (range_with_len 0 n)) (sym p) full;
    }
