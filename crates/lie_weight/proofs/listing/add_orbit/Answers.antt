use Rattle.std.proofs.Common.{◌≡◌, suc, ◌+◌, ◌∷◌, [], ◌++◌, map, length, refl, sym, ap, subst, ◌∙◌, arith, rules}
use Rattle.std.proofs.lemmas.Result.{err_from_is_err_and}
use Rattle.std.proofs.lemmas.List.{map_push}
use Rattle.lie_datum.specs.Vectors.{unit}
use Rattle.lie_orbit.specs.Lowering.{Lowers}
use Rattle.lie_weight.specs.Carriers.{joined, IsPassedOver}
use Rattle.lie_weight.specs.CarrierParts.{IsOldAxis, IsListing}
use Rattle.lie_weight.proofs.CarrierLemmas.{listing_old, listing_new, count-last, wide_listed, wide_unlisted, listing_fault}
use Rattle.lie_weight.proofs.listing.add_orbit.Goals as goal
use Rattle.lie_weight.proofs.listing.add_orbit.Goals.{In-Some, In_ok-push}

pub returns-in_default-clause-listing : goal.returns-in_default-clause-listing
returns-in_default-clause-listing c =
    let os = map (λ o. o.items) c.args.orbits.now.items in
    let one : c.args.axis + 1 ≡ suc c.args.axis = omega arith in
    let old : IsOldAxis c.args.datum.now (c.args.axis + 1) os = subst (λ l. IsOldAxis c.args.datum.now (c.args.axis + 1) (map (λ o. o.items) l)) c.deref.ensures.value c.in_default.ensures.lowers in
    subst (λ t. IsListing c.args.datum.now t os) (sym one) (listing_old c.args.datum.now c.args.axis os c.requires.listing (subst (λ t. IsOldAxis c.args.datum.now t os) one old))

lowers_is : (c : In-Some) → Lowers c.args.datum.now (unit 8 (suc c.args.axis)) c.in-Some.weight
lowers_is c = let one : c.args.axis + 1 ≡ suc c.args.axis = omega arith in subst (λ t. Lowers c.args.datum.now (unit 8 t) c.in-Some.weight) one c.in-Some.ensures.lowers

new_is : (c : In-Some) → ¬ IsPassedOver (map (λ o. o.items) c.args.orbits.now.items) c.in-Some.weight
new_is c = subst (λ l. ¬ IsPassedOver (map (λ o. o.items) l) c.in-Some.weight) c.deref.ensures.value c.in-Some.ensures.new

pub returns-in_err-members-clause-fault : goal.returns-in_err-members-clause-fault
returns-in_err-members-clause-fault c =
    let d = c.args.datum.now in
    let a = (goal.at.returns-in_err-members-clause-fault c).In-Some in
    let os = map (λ o. o.items) c.args.orbits.now.items in
    let p = err_from_is_err_and c.from_residual.result c.from_residual.ensures.1 in
    rw (p.1, p.2) (listing_fault d c.in-Some.weight c.in_err-members.field-0.0 c.in_err-members.ensures.cause
    (wide_unlisted d c.args.axis os c.requires.listing c.in-Some.weight (lowers_is a) (new_is a) c.loaded.ensures (let l = c.requires.axis in omega (arith, l))))

pub returns-then-more-gt-LIMIT-clause-fault : goal.returns-then-more-gt-LIMIT-clause-fault
returns-then-more-gt-LIMIT-clause-fault c =
    let d = c.args.datum.now in
    let a = (goal.at.returns-then-more-gt-LIMIT-clause-fault c).In-Some in
    let os = map (λ o. o.items) c.args.orbits.now.items in
    let e : c.len.result ≡ length c.in_ok-members.members.items = let l = c.len.ensures in search rules in (
      refl,
      wide_listed d c.args.axis os c.requires.listing c.in-Some.weight (lowers_is a) (new_is a) c.loaded.ensures (let l = c.requires.axis in omega (arith, l)) c.in_ok-members.members.items c.in_ok-members.ensures.orbit
          (let t = c.if-more-gt-LIMIT.true in let n = c.requires.count in omega (arith, t, n, e)),
    )

pushed : (c : In_ok-push) → map (λ o. o.items) c.push.new.self.items ≡ map (λ o. o.items) c.args.orbits.now.items ++ c.in_ok-members.members.items ∷ []
pushed c = ap (λ l. map (λ o. o.items) l) c.in_ok-push.ensures.items ∙ map_push (λ o. o.items) c.args.orbits.now.items c.in_ok-members.members

pub returns-clause-listing : goal.returns-clause-listing
returns-clause-listing c =
    let d = c.args.datum.now in
    let a = (goal.at.returns-clause-listing c).In-Some in
    let os = map (λ o. o.items) c.args.orbits.now.items in
    let one : c.args.axis + 1 ≡ suc c.args.axis = omega arith in
    let e : c.len.result ≡ length c.in_ok-members.members.items = let l = c.len.ensures in search rules in
    subst (IsListing d (c.args.axis + 1)) (sym (pushed (goal.at.returns-clause-listing c).In_ok-push)) (subst (λ t. IsListing d t (os ++ c.in_ok-members.members.items ∷ [])) (sym one)
    (listing_new d c.args.axis os c.requires.listing c.in-Some.weight (lowers_is a) (new_is a) c.in_ok-members.members.items c.in_ok-members.ensures.orbit (let t = c.if-more-gt-LIMIT.false in let n = c.requires.count in omega (arith, t, n, e))))

pub returns-clause-count : goal.returns-clause-count
returns-clause-count c =
    let os = map (λ o. o.items) c.args.orbits.now.items in
    let e : c.len.result ≡ length c.in_ok-members.members.items = let l = c.len.ensures in search rules in
    let p = ap (λ t. length (joined t)) (pushed (goal.at.returns-clause-count c).In_ok-push) ∙ count-last os c.in_ok-members.members.items in
    let n = c.requires.count in
    omega (arith, p, n, e)
