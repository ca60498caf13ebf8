use Rattle.std.proofs.Common.{◌+◌, ◌<◌, ◌-◌, sym, ◌∙◌, arith, inl, inr}
use Rattle.std.proofs.lemmas.Bool.{false≢true, cases_lt}
use Rattle.lie_identities.proofs.ComparisonLemmas.{same-entries, before-next, same-next}
use Rattle.lie_identities.proofs.compare.first_different_row.Goals as goal

pub overflow_add-from : goal.overflow_add-from
overflow_add-from c = let f = c.in-Some.ensures.few in omega (arith, f)

pub loop-row-preserved : goal.loop-row-preserved
loop-row-preserved c =
    let h = c.in-Some.ensures.next in
    let w = h.0.within in
    record {
      low = omega (arith, w);
      same = same-next c.args.left.now c.args.right.now c.loop-row.from c.in-Some.row c.loop-row.invariant.same h.0 (h.1.0 c.if-not-same.false);
    }

pub loop-row-smaller : goal.loop-row-smaller
loop-row-smaller c =
    let h = c.in-Some.ensures.next in
    let w = h.0.within in
    let a = h.0.after in
    let g : c.args.left.now.height - (c.in-Some.row + 1) < c.args.left.now.height - c.loop-row.from = omega (arith, w, a) in g

pub returns-then-not-same : goal.returns-then-not-same
returns-then-not-same c =
    let h = c.in-Some.ensures.next in
    record {
      row = record {
        within = h.0.within;
        differ = λ e. false≢true (sym c.if-not-same.true ∙ h.1.1 e);
        before = before-next c.args.left.now c.args.right.now c.loop-row.from c.in-Some.row c.loop-row.invariant.same h.0;
      };
      few = c.in-Some.ensures.few;
    }

pub returns : goal.returns
returns c = record {
  row = same-entries c.args.left.now.height c.args.left.now c.args.right.now c.requires.left c.requires.right
      (λ a l. elim (cases_lt a c.loop-row.from) [
        | inl low ↦ c.loop-row.invariant.same a low
        | inr high ↦ c.in_default.ensures.next a high l
      ]);
  few = tt;
}
