-- The torus of rank 1 over the field of two elements: it loads, by computation, and no other answer comes. Its carrier has one weight.
use Rattle.std.proofs.Common.{◌≡◌, ◌≢◌, ℕ, zero, suc, ◌-◌, ◌<◌, ◌≤◌, List, [], ◌∷◌, Ok, Err, ℤ, pos, refl, sym, subst, arith, get_or, ⊎_elim, inl}
use Rattle.std.specs.Prelude.{unsigned_abs}
use Rattle.std.specs.List.{All}
use Rattle.std.specs.List.Sorted.{IsStrictlySortedBy}
use Rattle.std.proofs.lemmas.Int.{ints}
use Rattle.std.proofs.lemmas.List.Elements.{All-nil, All-cons, All-from_recursion}
use Rattle.lie_datum.specs.Vectors.{Vector}
use Rattle.lie_datum.specs.RootDatum.{IsSimpleIndex, IsWithin}
use Rattle.lie_datum.specs.RootList.{RootDatum, IsLoaded, IsNumber}
use Rattle.lie_datum.proofs.LoadedTest.{loaded_from}
use Rattle.lie_datum.proofs.NumberLemmas.{place_within}
use Rattle.lie_const.specs.ConstantTables.{ConstantTable, LoadsConstants, value_of}
use Rattle.lie_const.specs.Modules.{Module, IsModule, root_element, weyl_element}
use Rattle.lie_const.specs.Adjoint.{IsAdjointOf}
use Rattle.lie_const.specs.Signs.{Signs, SignTable, eta_of}
use Rattle.lie_const.proofs.TableTest.{constants_from}
use Rattle.lie_orbit.specs.Lowering.{low}
use Rattle.lie_orbit.specs.Orbits.{IsReached, start, next, IsOrbit}
use Rattle.lie_letters.specs.SignedFrames.{SignedFrame, AreFrameSigns}
use Rattle.lie_letters.proofs.AdjointTest.{adjoint_from}
use Rattle.lie_letters.proofs.SignTest.{signs_from}
use Rattle.lie_letters.proofs.FrameExamples.{pair, two}
use Rattle.lie_weight.specs.OrbitModules.{IsOrbitModule}
use Rattle.lie_weight.specs.OrbitFaults.{IsHeavyAt}
use Rattle.lie_weight.specs.Sums.{IsSum}
use Rattle.lie_weight.specs.Carriers.{AreOrbitsOf, no_axis, taken, IsPassedOver, IsModuleOfOrbit, IsCarrier}
use Rattle.lie_identities.specs.AuditRelations.{relations}
use Rattle.lie_identities.specs.Audit.{IsMet, MeetsIdentities}
use Rattle.lie_identities.specs.CoverLines.{no_lines}
use Rattle.lie_identities.proofs.CoveredAxes.{cover_axes}
use Rattle.lie_identities.proofs.LineLemmas.{no_cover_lines}
use Rattle.lie_group.specs.declared.faults.LoadFault.{LoadFault}
use Rattle.lie_group.specs.declared.faults.LoadFault.TheVariants.{NoMemory}
use Rattle.lie_group.specs.Loading.{MakesFrame}
use Rattle.lie_group.specs.Groups.{GroupData, IsCarrierOf, LoadsGroup}
use Rattle.lie_group.proofs.OneGroup.{one_group}

-- ---- the frame
abbrev t1 : RootDatum
t1 = record { base = record { dim = 1; roots = []; coroots = [] }; positive = [] }

t1_loaded : IsLoaded t1
t1_loaded = loaded_from t1 refl

abbrev t1_table : ConstantTable
t1_table = record { positive = 0; values = []; terms = [] }

t1_constants : LoadsConstants t1 (Ok t1_table)
t1_constants = constants_from t1 t1_table t1_loaded refl

-- the adjoint module has no basis vector
abbrev nothing : Module
nothing = record { positive = 0; weights = []; powers = [] }

nothing_is_adjoint : IsAdjointOf t1 nothing
nothing_is_adjoint = adjoint_from t1 (value_of t1_table) nothing refl t1_constants.1

abbrev no_signs : SignTable
no_signs = record { rank = 0; positive = 0; signs = [] }

t1_signs : AreFrameSigns t1 no_signs
unfolding weyl_element root_element
t1_signs = signs_from t1 (value_of t1_table) nothing no_signs refl t1_loaded t1_constants.1

abbrev t1_frame : SignedFrame
t1_frame = record { field = two; datum = t1; constants = t1_table; signs = no_signs }

t1_made : MakesFrame two t1 (Ok t1_frame)
t1_made = record { field = refl; datum = refl; lawful = record { lawful = record { loaded = t1_loaded; constants = t1_constants }; signs = t1_signs }; count = refl }

-- ---- no roots
no_number : (r : ℤ) → ¬ IsNumber t1 r
no_number r h = let l = place_within t1 r h in omega (arith, l)

no_index : (i : ℕ) → ¬ IsSimpleIndex t1.base i
no_index i h = let a = h.0 in let b = h.1 in omega (arith, a, b)

-- ---- the carrier: the weight e_1
abbrev eta : Signs
eta = eta_of no_signs

abbrev e1 : Vector
e1 = pair (pos 1) (pos 0)

abbrev line : Module
line = record { positive = 0; weights = e1 ∷ []; powers = [] }

-- the orbit of e_1 is e_1
alone : (x : Vector) → IsReached t1 e1 x → x ≡ e1
alone _ start = refl
alone _ (next i x h p) = absurd (no_index i h)

member : (x : Vector) (k : ℕ) → k < 1 → get_or (e1 ∷ []) k x ≡ x → e1 ≡ x
member x zero l e = e
member x (suc k) l e = absurd (omega (arith, l))

e1_orbit : IsOrbit t1 e1 (e1 ∷ [])
unfolding IsStrictlySortedBy
e1_orbit = record {
  sorted = (tt, tt);
  members = λ x. ((λ m. subst (IsReached t1 e1) (member x m.0 m.1 m.2) start), (λ r. (0, omega arith, sym (alone x r))));
}

line_shape : IsModule t1 line
line_shape = record { positive = refl; roots = refl; square = λ r k n l. absurd (no_number r n); last = λ r k n e. absurd (no_number r n) }

nothing_shape : IsModule t1 nothing
nothing_shape = record { positive = refl; roots = refl; square = λ r k n l. absurd (no_number r n); last = λ r k n e. absurd (no_number r n) }

line_of_orbit : IsOrbitModule t1 eta e1 line
line_of_orbit = record {
  weights = e1_orbit;
  steps = record { shape = line_shape; up = λ i h. absurd (no_index i h); down = λ i h. absurd (no_index i h) };
  completed = λ r i s k l one. absurd (no_index i l.index);
}

not_passed : ¬ IsPassedOver [] e1
not_passed p = ⊎_elim
    (λ z. let one = z 0 in omega (arith, ints, one))
    (λ a. let l = a.2 in omega (arith, l))
    p

orbits : AreOrbitsOf t1 1 ((e1 ∷ []) ∷ [])
orbits = taken 0 [] e1 (e1 ∷ []) no_axis (low e1 (λ r n h. no_number r n)) not_passed e1_orbit

line_sum : IsSum t1 line nothing line
line_sum = record { shape = line_shape; weights = refl; powers = λ r k n one. absurd (no_number r n) }

whole_sum : IsSum t1 nothing line line
whole_sum = record { shape = line_shape; weights = refl; powers = λ r k n one. absurd (no_number r n) }

line_is_carrier : IsCarrier t1 eta nothing line
line_is_carrier = record {
  modules = line ∷ [];
  orbits = orbits;
  of_orbits = All-from_recursion (IsModuleOfOrbit t1 eta) (line ∷ []) ((e1, line_of_orbit), tt);
  sum = (line, (nothing, record { shape = nothing_shape; weights = refl }, line_sum), whole_sum);
}

-- its coordinates are small, so that it is not heavy
pub not_heavy : (ws : List Vector) → All (IsWithin 1000000) ws → (a : ℕ) → ¬ IsHeavyAt ws a
not_heavy ws light a h =
    let first = h.0 in
    let last = h.1 in
    let x = h.2 in
    let within = light (a - 1) [] (omega (arith, first, last)) in
    let small = subst (λ c. unsigned_abs c ≤ 1000000) x.3 (within x.0 x.1 x.2) in
    let large = x.4 in
    omega (arith, small, large)

e1_light : IsWithin 1000000 e1
e1_light = All-from_recursion (λ c. unsigned_abs c ≤ 1000000) e1 (omega arith, (omega arith, (omega arith, (omega arith, (omega arith, (omega arith, (omega arith, (omega arith, tt))))))))

e1_alone_light : All (IsWithin 1000000) (e1 ∷ [])
e1_alone_light = All-cons (IsWithin 1000000) e1 [] e1_light (All-nil (IsWithin 1000000))

line_carrier : IsCarrierOf t1_frame line
line_carrier = (nothing, nothing_is_adjoint, (line_is_carrier, omega arith, not_heavy line.weights e1_alone_light, (λ r k h. no_index h.huge.first.huge.index h.huge.first.huge.lowering.index)))

-- ---- the group
abbrev t1_group : GroupData
t1_group = record { frame = t1_frame; carrier = record { «module» = line; datum = t1; constants = t1_table; signs = no_signs; lines = no_lines } }

t1_meets : MeetsIdentities t1 t1_table eta line
unfolding relations
t1_meets = record { graded = λ r k a b h. no_number r h.number; relations = All-nil (IsMet t1 t1_table eta line) }

t1_loads : LoadsGroup t1_frame (Ok t1_group)
t1_loads = (
  refl,
  record {
    frame = t1_made;
    carrier = record {
      is_carrier = line_carrier;
      audited = record { loaded = t1_loaded; shape = line_shape; light = e1_alone_light; meets = t1_meets; cover = no_cover_lines t1 line };
      audited_for = record { datum = refl; constants = refl; signs = refl };
      no_cover = refl;
    };
    covering = record {
      live = λ k one last. absurd (omega (arith, one, last));
      axes = λ j p q. inl (cover_axes t1 eta nothing line j t1_loaded nothing_is_adjoint line_is_carrier p q);
    };
  },
)

-- no fault comes
t1_not_refused : (why : LoadFault) → why ≢ NoMemory → ¬ LoadsGroup t1_frame (Err why)
t1_not_refused why named h =
    one_group two t1 t1_frame t1_frame (Ok t1_group) (Err why) t1_made t1_made t1_loads h (λ e. absurd cc) (λ e. (let is : why ≡ NoMemory = cc in named is))
