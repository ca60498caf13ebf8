use Rattle.std.proofs.Common.{◌≡◌, ◌+◌, ◌++◌, length, drop, sym, ap, ap₂, ◌-◌, ◌∙◌, inl, inr, ◌⊎◌, arith, append_assoc}
use Rattle.std.specs.Prelude.{pos}
use Rattle.std.proofs.Math.ListN.{length-drop}
use Rattle.std.proofs.lemmas.List.{take_all}
use Rattle.lie_poly.specs.Terms.{Terms, term, collect}
use Rattle.lie_poly.proofs.TermLemmas.{size-at, canonical-drop}
use Rattle.lie_poly.proofs.MergeLemmas.{step-less, step-greater, step-equal, merge-end}
use Rattle.lie_poly.proofs.sums.sum_of.Goals as goal
use Rattle.lie_poly.proofs.sums.sum_of.Goals.{then-merge-test+else-j-ys, else-merge-test}

pub merge-preserved-in-Less : goal.merge-preserved-in-Less
merge-preserved-in-Less c =
    let xs = c.args.xs.now in
    let ys = c.args.ys.now in
    let i = c.merge.i in
    let j = c.merge.j in
    record {
      i_in = omega (arith, c.merge-test.true);
      j_in = c.merge.invariant.j_in;
      merged =
          ap (λ s. s ++ collect (drop (i + 1) xs ++ drop j ys)) c.in_ok-push-in-Less.ensures.items
          ∙ step-less xs ys c.merge.sum.items i j (term (pos 0, pos 0) (pos 0)) c.requires.xs c.requires.ys c.merge-test.true c.if-j-ys.true (sym c.cmp.ensures ∙ c.in-Less.is)
          ∙ c.merge.invariant.merged;
    }

pub merge-preserved-in-Greater : goal.merge-preserved-in-Greater
merge-preserved-in-Greater c =
    let xs = c.args.xs.now in
    let ys = c.args.ys.now in
    let i = c.merge.i in
    let j = c.merge.j in
    record {
      i_in = c.merge.invariant.i_in;
      j_in = omega (arith, c.if-j-ys.true);
      merged =
          ap (λ s. s ++ collect (drop i xs ++ drop (j + 1) ys)) c.in_ok-push-in-Greater.ensures.items
          ∙ step-greater xs ys c.merge.sum.items i j (term (pos 0, pos 0) (pos 0)) c.requires.xs c.requires.ys c.merge-test.true c.if-j-ys.true (sym c.cmp.ensures ∙ c.in-Greater.is)
          ∙ c.merge.invariant.merged;
    }

pub push_sum-requires : goal.push_sum-requires
push_sum-requires c =
    let x = size-at c.args.xs.now c.merge.i (term (pos 0, pos 0) (pos 0)) c.merge-test.true in
    let y = size-at c.args.ys.now c.merge.j (term (pos 0, pos 0) (pos 0)) c.if-j-ys.true in
    record { small = omega (arith, x, y, c.requires.small) }

pub merge-preserved : goal.merge-preserved
merge-preserved c =
    let xs = c.args.xs.now in
    let ys = c.args.ys.now in
    let i = c.merge.i in
    let j = c.merge.j in
    record {
      i_in = omega (arith, c.merge-test.true);
      j_in = omega (arith, c.if-j-ys.true);
      merged =
          ap (λ s. s ++ collect (drop (i + 1) xs ++ drop (j + 1) ys)) c.in_ok-push_sum-in-Equal.ensures
          ∙ step-equal xs ys c.merge.sum.items i j (term (pos 0, pos 0) (pos 0)) c.requires.xs c.requires.ys c.merge-test.true c.if-j-ys.true (sym c.cmp.ensures ∙ c.in-Equal.is)
          ∙ c.merge.invariant.merged;
    }

pub returns : goal.returns
returns c =
    let xs = c.args.xs.now in
    let ys = c.args.ys.now in
    let i = c.merge.i in
    let j = c.merge.j in
    let out = c.merge.sum.items in
    let xs_left = length-drop i xs in
    let ys_left = length-drop j ys in
    let ended : (length (drop i xs) ≡ 0) ⊎ (length (drop j ys) ≡ 0) = elim c.merge-test.branch [
      | then-merge-test+else-j-ys w ↦ inr (omega (arith, ys_left, w.if-j-ys.false))
      | else-merge-test w ↦ inl (omega (arith, xs_left, w.merge-test.false))
    ] in
    c.in_ok-extend_from_slice-2.ensures.items
    ∙ ap₂ (λ (s t : Terms). s ++ t) c.in_ok-extend_from_slice.ensures.items (take_all (length ys - j) (drop j ys) (omega (arith, ys_left)))
    ∙ ap (λ s. (out ++ s) ++ drop j ys) (take_all (length xs - i) (drop i xs) (omega (arith, xs_left)))
    ∙ append_assoc out (drop i xs) (drop j ys)
    ∙ ap (λ s. out ++ s) (sym (merge-end (drop i xs) (drop j ys) (canonical-drop i xs c.requires.xs) (canonical-drop j ys c.requires.ys) ended))
    ∙ c.merge.invariant.merged
