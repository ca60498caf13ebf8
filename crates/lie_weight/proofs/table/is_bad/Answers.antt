use Rattle.std.proofs.Common.{inl, inr, get_or, refl, ⊎_elim}
use Rattle.lie_weight.proofs.TableLemmas.{bad_from, bad_cases, is_not, is_not_not, not_both}
use Rattle.lie_weight.proofs.GivenLemmas.{blank}
use Rattle.lie_weight.proofs.table.is_bad.Goals as goal

pub returns-then-is_repeated : goal.returns-then-is_repeated
returns-then-is_repeated c =
    let es = c.args.entries.now in
    (λ t. bad_from c.args.datum.now c.args.weights.now es c.args.n (get_or es c.args.n blank) blank c.requires.n refl (inl (c.is_repeated.ensures.0 t)), λ _. c.if-is_repeated.true)

pub returns-else-is_repeated : goal.returns-else-is_repeated
returns-else-is_repeated c =
    let d = c.args.datum.now in
    let ws = c.args.weights.now in
    let es = c.args.entries.now in
    let n = c.args.n in
    let e = get_or es n blank in (
      λ t. bad_from d ws es n e blank c.requires.n refl (inr (λ g. is_not_not c.is_graded.result t (c.is_graded.ensures.1 g))),
      λ b. is_not c.is_graded.result (λ u. ⊎_elim (λ a. not_both c.is_repeated.result (c.is_repeated.ensures.1 a) c.if-is_repeated.false) (λ g. g (c.is_graded.ensures.0 u)) (bad_cases d ws es n e blank c.requires.n refl b)),
    )
