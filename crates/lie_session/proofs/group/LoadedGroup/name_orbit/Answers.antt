use Rattle.std.proofs.Common.{rules, ◌≡◌, ◌∙◌, Ok, subst}
use Rattle.lie_letters.specs.SignedFrames.{SignedFrame}
use Rattle.lie_const.specs.Signs.{eta_of}
use Rattle.lie_identities.proofs.WeightBounds.{orbit_is_light}
use Rattle.lie_weight.specs.OrbitFaults.{LoadsOrbit}
use Rattle.lie_session.specs.DatumLines.{padded}
use Rattle.lie_session.specs.Outcomes.{NamesModule, NamesOrbit}
use Rattle.lie_session.proofs.GroupLemmas.{answered_so}
use Rattle.lie_session.proofs.group.LoadedGroup.name_orbit.Goals as goal

pub name_module-requires-clause-light : goal.name_module-requires-clause-light
name_module-requires-clause-light c = (orbit_is_light c.frame.inside.datum _ _ c.in_ok-space.space c.in_ok-space.ensures).1

pub returns : goal.returns
returns c =
    let g = c.args.self.now in
    let name = c.args.name.now in
    let v = c.in_ok-space.space in
    let weight : c.padded-weight.result ≡ padded c.args.v.now = search rules in
    let loads : LoadsOrbit g.frame.datum (eta_of g.frame.signs) (padded c.args.v.now) (Ok v) =
    subst (λ (f : SignedFrame). LoadsOrbit f.datum (eta_of f.signs) (padded c.args.v.now) (Ok v)) (c.frame.view_is ∙ c.frame-frame.ensures)
    (subst (λ w. LoadsOrbit c.frame.inside.datum (eta_of c.frame.inside.signs) w (Ok v)) weight c.in_ok-space.ensures) in
    answered_so (NamesModule g name v) (NamesOrbit g name c.args.v.now) g c.name_module.result c.name_module.new.self (λ r names. (Ok v, loads, names)) c.name_module.ensures
