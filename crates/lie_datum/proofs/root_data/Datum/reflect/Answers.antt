use Rattle.std.proofs.Common.{◌<◌, ◌*◌, ap, subst, sym, ◌∙◌, length, arith}
use Rattle.lie_datum.specs.Numbers.{place}
use Rattle.lie_datum.specs.RootDatum.{IsSimpleIndex}
use Rattle.lie_datum.specs.RootList.{RootDatum, IsNumber}
use Rattle.lie_datum.proofs.TableLemmas.{image_within, image_entry}
use Rattle.lie_datum.proofs.root_data.Datum.reflect.Goals as goal

pub index-requires : goal.index-requires
index-requires c =
    let a = c.self.inside in
    let j = c.place.result in
    let within = image_within a c.self.invariant c.args.i j (subst (λ (d : RootDatum). IsSimpleIndex d.base c.args.i) (sym c.self.view_is) c.requires.index) (subst (λ (d : RootDatum). j < 2 * length d.positive) (sym c.self.view_is) c.place.ensures.within) in
    let len = a.images.ok.0 in
    omega (arith, within, len)

pub returns : goal.returns
returns c =
    let a = c.self.inside in
    let r = c.args.r in
    let h = image_entry a c.self.invariant c.args.i c.place.result r c.index.result.now (subst (λ (d : RootDatum). IsSimpleIndex d.base c.args.i) (sym c.self.view_is) c.requires.index)
    (subst (λ d. IsNumber d r) (sym c.self.view_is) c.requires.number) (c.place.ensures.value ∙ ap (λ (d : RootDatum). place (length d.positive) r) (sym c.self.view_is)) c.index.ensures in
    rw (← c.self.view_is) (record { number = h.0; root = h.1 })
