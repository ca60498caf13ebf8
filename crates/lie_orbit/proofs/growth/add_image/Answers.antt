use Rattle.std.proofs.Common.{◌≡◌, ◌∷◌, [], ◌<◌, ◌*◌, ◌^◌, length, get_or, refl, rules, subst, sym, ap, ◌∙◌}
use Rattle.lie_datum.specs.RootDatum.{IsWithin}
use Rattle.lie_orbit.specs.Growth.{IsGrowing, HasImage}
use Rattle.lie_orbit.specs.Weights.{IsMinuscule}
use Rattle.lie_orbit.specs.Orbits.{reflected_weight}
use Rattle.lie_orbit.proofs.GrowthLemmas.{member_minuscule, member_within, IsGrowing-image, HasImage_there, HasImage_pushed}
use Rattle.lie_orbit.proofs.InsertedVectors.{found_vector, fresh_vector, inserted_vector}
use Rattle.lie_orbit.proofs.growth.add_image.Goals as goal
use Rattle.lie_orbit.proofs.growth.add_image.Goals.{After-reflected-image, else-len-lt-MOST-via-then-len-lt-MOST+else-not-contains, else-len-lt-MOST-via-else-len-lt-MOST}

pub reflected-image-requires-clause-minuscule : goal.reflected-image-requires-clause-minuscule
reflected-image-requires-clause-minuscule c =
    subst (λ (ws : _). IsMinuscule c.args.datum.now (get_or ws c.args.at [])) (sym c.as_slice.ensures.keys) (member_minuscule c.args.datum.now c.loaded.ensures c.args.orbit.now.keys c.args.at [] c.requires.growing c.requires.at)

pub reflected-image-requires-clause-small : goal.reflected-image-requires-clause-small
reflected-image-requires-clause-small c =
    subst (λ (ws : _). IsWithin (25 * 10 ^ 31) (get_or ws c.args.at [])) (sym c.as_slice.ensures.keys) (member_within c.args.datum.now c.loaded.ensures c.args.orbit.now.keys c.args.at [] c.requires.growing c.requires.at)

image_is : (c : After-reflected-image) → c.reflected-image.result ≡ reflected_weight c.args.datum.now c.args.i (get_or c.args.orbit.now.keys c.args.at [])
image_is c = c.reflected-image.ensures ∙ ap (λ ws. reflected_weight c.args.datum.now c.args.i (get_or ws c.args.at [])) c.as_slice.ensures.keys

pub returns-in_ok-insert-clause-growing : goal.returns-in_ok-insert-clause-growing
returns-in_ok-insert-clause-growing c =
    let ws = c.args.orbit.now.keys in
    let x = c.reflected-image.result in
    let absent = sym c.contains.ensures ∙ c.if-not-contains.true in
    let fresh = fresh_vector _ (λ r s. refl) x ws absent in
    let more = c.in_ok-insert.ensures.keys ∙ inserted_vector _ (λ r s. refl) x ws absent in
    let room : length ws < 1025 = let t = c.if-len-lt-MOST.true in let e = c.len.ensures.len in search rules in
    subst (IsGrowing c.args.datum.now) (sym more) (IsGrowing-image c.args.datum.now c.loaded.ensures ws c.args.at c.args.i x [] c.requires.growing c.requires.at c.requires.index (image_is (goal.at.returns-in_ok-insert-clause-growing c).After-reflected-image) fresh room)

pub returns-in_ok-insert-clause-kept : goal.returns-in_ok-insert-clause-kept
returns-in_ok-insert-clause-kept c =
    let ws = c.args.orbit.now.keys in
    let absent = sym c.contains.ensures ∙ c.if-not-contains.true in
    (c.reflected-image.result ∷ [], c.in_ok-insert.ensures.keys ∙ inserted_vector _ (λ r s. refl) c.reflected-image.result ws absent)

pub returns-in_ok-insert-clause-done : goal.returns-in_ok-insert-clause-done
returns-in_ok-insert-clause-done c _ =
    let ws = c.args.orbit.now.keys in
    let absent = sym c.contains.ensures ∙ c.if-not-contains.true in
    let more = c.in_ok-insert.ensures.keys ∙ inserted_vector _ (λ r s. refl) c.reflected-image.result ws absent in
    subst (λ (vs : _). HasImage c.args.datum.now vs c.args.at c.args.i) (sym more) (HasImage_pushed c.args.datum.now ws c.args.at c.args.i c.reflected-image.result [] c.requires.at (image_is (goal.at.returns-in_ok-insert-clause-done c).After-reflected-image))

pub returns-else-len-lt-MOST-clause-kept : goal.returns-else-len-lt-MOST-clause-kept
returns-else-len-lt-MOST-clause-kept c = ([], search rules)

pub returns-else-len-lt-MOST-clause-done : goal.returns-else-len-lt-MOST-clause-done
returns-else-len-lt-MOST-clause-done c room =
    let ws = c.args.orbit.now.keys in
    elim c.else-len-lt-MOST.branch [
      | else-len-lt-MOST-via-then-len-lt-MOST+else-not-contains w ↦
          let found = found_vector _ (λ r s. refl) c.reflected-image.result ws (sym w.contains.ensures ∙ w.if-not-contains.false) in
          HasImage_there c.args.datum.now ws c.args.at c.args.i c.reflected-image.result [] c.requires.at (image_is (goal.at.returns-else-len-lt-MOST-clause-done c).After-reflected-image) found
      | else-len-lt-MOST-via-else-len-lt-MOST w ↦ absurd (let t = w.if-len-lt-MOST.false in let e = c.len.ensures.len in search rules)
    ]
