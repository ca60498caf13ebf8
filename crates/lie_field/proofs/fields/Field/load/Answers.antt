use Rattle.std.proofs.Common.{◌≡◌, ℕ, List, ◌^◌, ◌<◌, length, sym, ap, ◌∙◌, T, arith, rules, subst, inl, inr, Vec, Global}
use Rattle.std.proofs.lemmas.Result.{err_from_is_err_and}
use Rattle.lie_field.specs.Quotient.{field_data, degree, order, IsFieldData}
use Rattle.lie_field.specs.Tables.{IsTables}
use Rattle.lie_field.specs.FieldTables.{AreTables}
use Rattle.lie_field.specs.FiniteField.{is_field}
use Rattle.lie_field.specs.Algebra.FieldTest.{field_from}
use Rattle.lie_field.specs.Faults.{IsSize, IsWithinLimit, IsFault, IsTablesFault, AllCoefficientsBelow}
use Rattle.lie_field.specs.declared.faults.FieldFault.{FieldFault}
use Rattle.lie_field.specs.declared.faults.FieldFault.TheVariants.{NoMemory, Size, Coefficient, Element, Generator}
use Rattle.lie_field.specs.declared.tables.Tables.{Tables}
use Rattle.lie_field.proofs.fields.Field.load.Goals as goal
use Rattle.lie_field.proofs.fields.Field.load.Goals.{then-g-eq0-via-then-g-eq0, then-g-eq0-via-else-g-eq0+then-g-q}

-- p and k are within the limits exactly where the data are
size_of_data : (p k : ℕ) (cs : List ℕ) (g : ℕ) → length cs ≡ k → IsWithinLimit (field_data p cs g) → IsSize p k
unfolding order degree
size_of_data p k cs g e s = subst (IsSize p) e (s.p_large, s.has_degree, s.q_small)

sized : (p k q : ℕ) (cs : List ℕ) (g : ℕ) → length cs ≡ k → (q ≡ p ^ k) × IsSize p k → IsWithinLimit (field_data p cs g) × (q ≡ order (field_data p cs g))
unfolding order degree
sized p k q cs g e s =
    let t = subst (IsSize p) (sym e) s.1 in
    (record { p_large = t.0; has_degree = t.1; q_small = t.2 }, s.0 ∙ ap (λ n. p ^ n) (sym e))

degree_is : (p k : ℕ) (cs : List ℕ) (g : ℕ) → length cs ≡ k → k ≡ degree (field_data p cs g)
unfolding degree
degree_is p k cs g e = sym e

fault : (p : ℕ) (cs : List ℕ) (g : ℕ) (e : FieldFault) → IsWithinLimit (field_data p cs g) → AllCoefficientsBelow (field_data p cs g) → 0 < g → g < order (field_data p cs g) →
    IsTablesFault (field_data p cs g) e → IsFault (field_data p cs g) e
fault p cs g NoMemory s all above below h = tt
fault p cs g Size s all above below h = absurd h
fault p cs g (Coefficient i) s all above below h = absurd h
fault p cs g Element s all above below h = absurd h
fault p cs g (Generator e) s all above below h = (s, all, (above, below), h)

-- the coefficients that are kept are those that came
same_data : (p : ℕ) (cs items : List ℕ) (g : ℕ) → items ≡ cs → field_data p cs g ≡ field_data p items g
same_data p cs items g e = ap (λ z. field_data p z g) (sym e)

loaded : (p k q : ℕ) (cs : List ℕ) (g : ℕ) (tables : Tables) (coefficients : Vec ℕ Global) (lawful : T (is_field (field_data p coefficients.items g))) →
    coefficients.items ≡ cs → length cs ≡ k → (q ≡ p ^ k) × IsSize p k → AreTables (field_data p cs g) tables →
    IsTables (record { p = p; k = k; q = q; g = g; coefficients = coefficients; tables = tables; lawful = lawful })
loaded p k q cs g tables coefficients lawful e h s t =
    let d = sized p k q cs g h s in
    let w = subst (λ f. (q ≡ order f) × (k ≡ degree f) × AreTables f tables) (same_data p cs coefficients.items g e) (d.1, degree_is p k cs g h, t) in
    record { k_is = w.1; q_is = w.0; q_small = omega (arith, s.0, s.1.2); tables = w.2 }

pub returns-in_default : goal.returns-in_default
returns-in_default c s = c.in_default.ensures (size_of_data c.args.p c.args.k c.args.coeffs.now c.args.g c.requires s)

pub returns-in-Some-first_above : goal.returns-in-Some-first_above
returns-in-Some-first_above c =
    let s = sized c.args.p c.args.k c.in-Some.q c.args.coeffs.now c.args.g c.requires c.in-Some.ensures in
    (s.0, c.in-Some-first_above.ensures)

pub returns-then-g-eq0 : goal.returns-then-g-eq0
returns-then-g-eq0 c =
    let s = sized c.args.p c.args.k c.in-Some.q c.args.coeffs.now c.args.g c.requires c.in-Some.ensures in (
      s.0,
      c.in_default-first_above.ensures,
      elim c.then-g-eq0.branch [
        | then-g-eq0-via-then-g-eq0 w ↦ inl w.if-g-eq0.true
        | then-g-eq0-via-else-g-eq0+then-g-q w ↦ inr (omega (arith, s.1, w.if-g-q.true))
      ],
    )

pub make-requires-clause-ring : goal.make-requires-clause-ring
make-requires-clause-ring c =
    let s = sized c.args.p c.args.k c.in-Some.q c.args.coeffs.now c.args.g c.requires c.in-Some.ensures in
    record { p_large = s.0.p_large; has_degree = s.0.has_degree; coefficients_below = c.in_default-first_above.ensures }

pub make-requires-clause-q_is : goal.make-requires-clause-q_is
make-requires-clause-q_is c = (sized c.args.p c.args.k c.in-Some.q c.args.coeffs.now c.args.g c.requires c.in-Some.ensures).1

pub returns-in_err-tables : goal.returns-in_err-tables
returns-in_err-tables c =
    let s = sized c.args.p c.args.k c.in-Some.q c.args.coeffs.now c.args.g c.requires c.in-Some.ensures in
    let p = err_from_is_err_and c.from_residual.result c.from_residual.ensures.1 in
    rw (p.1, p.2) (fault c.args.p c.args.coeffs.now c.args.g _ s.0 c.in_default-first_above.ensures (search rules) (omega (arith, s.1, c.if-g-q.false)) c.in_err-tables.ensures)

-- the proof that the value carries
pub invariant_of-result : goal.invariant_of-result
invariant_of-result c =
    let copied : c.in_ok-coefficients.coefficients.items ≡ c.args.coeffs.now = search rules in (
      field_from (field_data c.args.p c.in_ok-coefficients.coefficients.items c.args.g)
          (subst IsFieldData (same_data c.args.p c.args.coeffs.now c.in_ok-coefficients.coefficients.items c.args.g copied) c.in_ok-tables.ensures.0),
      tt,
    )

pub invariant_of-result-2 : goal.invariant_of-result-2
invariant_of-result-2 c =
    let copied : c.in_ok-coefficients.coefficients.items ≡ c.args.coeffs.now = search rules in
    loaded c.args.p c.args.k c.in-Some.q c.args.coeffs.now c.args.g c.in_ok-tables.tables c.in_ok-coefficients.coefficients _
    copied c.requires c.in-Some.ensures c.in_ok-tables.ensures.1

pub returns : goal.returns
returns c =
    let copied : c.in_ok-coefficients.coefficients.items ≡ c.args.coeffs.now = search rules in
    let s = sized c.args.p c.args.k c.in-Some.q c.args.coeffs.now c.args.g c.requires c.in-Some.ensures in
    let same = same_data c.args.p c.args.coeffs.now c.in_ok-coefficients.coefficients.items c.args.g copied in
    (sym same, subst IsWithinLimit same s.0, subst IsFieldData same c.in_ok-tables.ensures.0)
