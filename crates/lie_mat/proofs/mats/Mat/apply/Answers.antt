use Rattle.std.proofs.Common.{◌≡◌, ◌∙◌, ◌+◌, suc, ℕ, map, length, [], ◌∷◌, ◌++◌, sym, ap, subst, arith, slice_index_or}
use Rattle.std.specs.List.{range_with_len}
use Rattle.lie_ring.specs.Matrices.{table, product_entry, column, EachFits}
use Rattle.lie_ring.specs.MatrixLemmas.{map-range-last}
use Rattle.lie_mat.proofs.Products.{push-fits}
use Rattle.lie_mat.proofs.mats.Mat.apply.Goals as goal

pub loop-row-preserved : goal.loop-row-preserved
loop-row-preserved g c =
    let R = g.R.Ring.ring c.args.ring.now in
    let M = c.args.self.now in
    let v = c.args.v.now in
    let row = c.loop-row.row in
    let f : ℕ → _ = λ i. product_entry R M (column R.zero v) i 0 in
    let one_more : row + 1 ≡ suc row = omega arith in
    let here : row ≡ 0 + row = omega arith in
    let tall : c.cols-few.result ≡ length v = c.cols-few.ensures.cols ∙ sym c.requires.shape in
    let made = c.in-Ok.ensures.value ∙ ap (λ h. table h 1 (λ i _. slice_index_or v i R.zero)) tall in
    record {
      value =
          c.in-Ok-push.ensures.items
          ∙ ap (λ xs. xs ++ (c.in-Ok-sum_of_products.sum ∷ [])) c.loop-row.invariant.value
          ∙ ap (λ x. map f (range_with_len 0 row) ++ (x ∷ [])) (c.in-Ok-sum_of_products.ensures.value ∙ ap (λ N. product_entry R M N row 0) made ∙ ap f here)
          ∙ sym (ap (λ n. map f (range_with_len 0 n)) one_more ∙ map-range-last f 0 row);
      fits = subst (EachFits R) (sym c.in-Ok-push.ensures.items) (push-fits R c.loop-row.image.items c.in-Ok-sum_of_products.sum c.loop-row.invariant.fits c.in-Ok-sum_of_products.ensures.fits);
    }
