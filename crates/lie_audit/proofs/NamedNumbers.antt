-- The signed numbers of opposite, simple and reflected roots.
use Rattle.std.proofs.Common.{◌≡◌, suc, pos, neg_ℤ, sym, ap, ◌∙◌}
use Rattle.lie_datum.specs.RootDatum.{opposite, reflected}
use Rattle.lie_datum.specs.RootList.{RootDatum, IsLoaded, root_of}
use Rattle.lie_datum.proofs.SignedRoots.{same_number, opposite_number}
use Rattle.lie_datum.proofs.SimplesFirst.{simple_number}
use Rattle.lie_const.specs.Signs.{image}
use Rattle.lie_const.proofs.FoundRoots.{number_of_is}
use Rattle.lie_letters.specs.Names.{RootName, Index, simple_name, opposite_name, reflect_name, signed_number}
use Rattle.lie_letters.proofs.NameLemmas.{named_is, index_is, simple_at, opposite_at, reflect_at}

module _ (d : RootDatum) (loaded : IsLoaded d) where
  -- the number of the opposite root
  pub number_opposite : (r : RootName d) → signed_number d (opposite_name d r) ≡ neg_ℤ (signed_number d r)
  number_opposite r =
      let n = named_is d r in
      let o = named_is d (opposite_name d r) in
      let q = opposite_number d (signed_number d r) n.number in
      same_number d loaded (signed_number d (opposite_name d r)) (neg_ℤ (signed_number d r)) o.number q.0
      (o.root ∙ opposite_at d loaded r ∙ ap opposite (sym n.root) ∙ sym q.1)

  -- the number of the reflected root
  pub number_reflect : (i : Index d) (r : RootName d) → signed_number d (reflect_name d i r) ≡ image d (suc i.number) (signed_number d r)
  number_reflect i r =
      let n = named_is d r in
      let o = named_is d (reflect_name d i r) in
      sym (number_of_is d loaded (signed_number d (reflect_name d i r)) (reflected d.base (suc i.number) (root_of d (signed_number d r))).coeffs o.number
      (ap (λ s. s.coeffs) (o.root ∙ reflect_at d loaded i r ∙ ap (reflected d.base (suc i.number)) (sym n.root))))

  -- the number of a simple root
  pub number_simple : (i : Index d) → signed_number d (simple_name d i) ≡ pos (suc i.number)
  number_simple i =
      let o = named_is d (simple_name d i) in
      let q = simple_number d loaded (suc i.number) (index_is d i) in
      same_number d loaded (signed_number d (simple_name d i)) (pos (suc i.number)) o.number q.0 (o.root ∙ simple_at d i ∙ sym q.1)
