use Rattle.std.proofs.Common.{length, sym, ap, ◌∙◌, subst}
use Rattle.std.proofs.Math.ListN.{length-map}
use Rattle.lie_field.specs.Quotient.{inv}
use Rattle.lie_datum.specs.RootDatum.{simple_root, simple_coroot}
use Rattle.lie_letters.specs.Entries.{AreUnits, times_each, character, cocharacter}
use Rattle.lie_letters.proofs.TorusLemmas.{AreUnits-inverses}
use Rattle.lie_letters.proofs.ReflectionLemmas.{divisor_is, length-divisor, AreUnits-cocharacter}
use Rattle.lie_letters.proofs.torus.Torus.reflect.Goals as goal

pub inv-requires : goal.inv-requires
inv-requires c =
    subst (AreUnits c.args.field.now) (sym c.coroot-divisor.ensures)
    (AreUnits-cocharacter c.args.field.now c.args.datum.now.base.dim _ c.char_of-a.result c.char_of-a.ensures.unit)

pub mul-requires-clause-same : goal.mul-requires-clause-same
mul-requires-clause-same c =
    let F = c.args.field.now in
    let b = c.args.datum.now.base in
    let a = character F c.args.self.now (simple_root b c.args.i) in
    let is = divisor_is b c.loaded.ensures.axioms.input F c.args.i c.args.self.now _ _ _ _ _ c.requires.index c.simple-r.ensures.root c.root.ensures c.char_of-a.ensures.value c.coroot-divisor.ensures c.inv.ensures.entries in
    sym c.requires.long ∙ sym (ap length is ∙ length-map (cocharacter F b.dim (simple_coroot b c.args.i) a) (inv F.given) ∙ length-divisor b c.loaded.ensures.axioms.input F c.args.i a c.requires.index)

pub mul-requires-clause-right : goal.mul-requires-clause-right
mul-requires-clause-right c =
    subst (AreUnits c.args.field.now) (sym c.inv.ensures.entries)
    (AreUnits-inverses c.args.field.now c.coroot-divisor.result
    (subst (AreUnits c.args.field.now) (sym c.coroot-divisor.ensures)
    (AreUnits-cocharacter c.args.field.now c.args.datum.now.base.dim _ c.char_of-a.result c.char_of-a.ensures.unit)))

pub returns : goal.returns
returns c =
    let F = c.args.field.now in
    let b = c.args.datum.now.base in
    c.mul.ensures.entries
    ∙ ap (times_each F c.args.self.now)
    (divisor_is b c.loaded.ensures.axioms.input F c.args.i c.args.self.now _ _ _ _ _ c.requires.index c.simple-r.ensures.root c.root.ensures c.char_of-a.ensures.value c.coroot-divisor.ensures c.inv.ensures.entries)
