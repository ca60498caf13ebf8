-- A term is the product of two entries, or 0 where the first is 0.
use Rattle.std.proofs.Common.{◌≡◌, ◌-◌, ◌/◌, ◌%◌, ◌^◌, pos, nat_abs, ap, sym, ◌∙◌, arith, ⊎_elim, lit<}
use mir.Val.{to_z}
use mir.Syntax.{w128}
use Rattle.lie_ring.specs.Matrices.{entry}
use Rattle.lie_const.specs.Modules.{dimension}
use Rattle.lie_datum.proofs.VectorLemmas.{plain}
use Rattle.lie_weight.specs.TensorParts.{factor, tensor_term}
use Rattle.lie_weight.proofs.TensorLemmas.{told_ok, le_product, times_zero, term-product, term_abs, term_same}
use Rattle.lie_weight.proofs.tensor_powers.ProductRule.term.Goals as goal

pub returns-then-x-eq0-clause-value : goal.returns-then-x-eq0-clause-value
returns-then-x-eq0-clause-value c =
    let s = c.args.self.now in
    let v = s.first.now in
    let w = s.second.now in
    let x = c.factor_entry-x.result in
    let fit = c.factor_entry-x.ensures.fit in
    let zero : x ≡ pos 0 = sym (plain x (2 ^ 126) (omega (arith, fit)) (lit< tt)) ∙ ap (to_z w128) c.if-x-eq0.true in
    let at = c.factor_entry-x.ensures.value ∙ ap (λ n. entry (pos 0) (factor s.sizes v s.root c.args.i) (c.args.row / n) (c.args.col / n)) c.dim-n.ensures.value in
    sym (term-product v w s.first_kept s.second_kept s.root s.power c.args.row c.args.col c.requires.row c.requires.col s.sizes c.args.i
    ∙ times_zero (entry (pos 0) (factor s.sizes v s.root c.args.i) (c.args.row / dimension w) (c.args.col / dimension w)) (entry (pos 0) (factor s.sizes w s.root (s.power - c.args.i)) (c.args.row % dimension w) (c.args.col % dimension w)) (sym at ∙ zero))

pub returns-clause-value : goal.returns-clause-value
returns-clause-value c =
    let s = c.args.self.now in
    let v = s.first.now in
    let w = s.second.now in
    let x = c.factor_entry-x.result in
    let y = c.factor_entry-y.result in
    let x_fit = c.factor_entry-x.ensures.fit in
    let y_fit = c.factor_entry-y.ensures.fit in
    let x_plain = plain x (2 ^ 126) (omega (arith, x_fit)) (lit< tt) in
    let y_plain = plain y (2 ^ 126) (omega (arith, y_fit)) (lit< tt) in
    let x_is = c.factor_entry-x.ensures.value ∙ ap (λ n. entry (pos 0) (factor s.sizes v s.root c.args.i) (c.args.row / n) (c.args.col / n)) c.dim-n.ensures.value in
    let y_is = c.factor_entry-y.ensures.value ∙ ap (λ n. entry (pos 0) (factor s.sizes w s.root (s.power - c.args.i)) (c.args.row % n) (c.args.col % n)) c.dim-n.ensures.value in
    let is = term-product v w s.first_kept s.second_kept s.root s.power c.args.row c.args.col c.requires.row c.requires.col s.sizes c.args.i in
    told_ok _ (λ t. t ≡ tensor_term s.sizes v w s.root s.power c.args.row c.args.col c.args.i) c.mul.result c.mul.ensures.value (λ t e. cc)

pub returns-clause-wide : goal.returns-clause-wide
returns-clause-wide c e =
    let s = c.args.self.now in
    let v = s.first.now in
    let w = s.second.now in
    let x = c.factor_entry-x.result in
    let y = c.factor_entry-y.result in
    let x_fit = c.factor_entry-x.ensures.fit in
    let y_fit = c.factor_entry-y.ensures.fit in
    let x_plain = plain x (2 ^ 126) (omega (arith, x_fit)) (lit< tt) in
    let y_plain = plain y (2 ^ 126) (omega (arith, y_fit)) (lit< tt) in
    let x_is = c.factor_entry-x.ensures.value ∙ ap (λ n. entry (pos 0) (factor s.sizes v s.root c.args.i) (c.args.row / n) (c.args.col / n)) c.dim-n.ensures.value in
    let y_is = c.factor_entry-y.ensures.value ∙ ap (λ n. entry (pos 0) (factor s.sizes w s.root (s.power - c.args.i)) (c.args.row % n) (c.args.col % n)) c.dim-n.ensures.value in
    let same = sym (term_same v w s.first_kept s.second_kept s.root s.power c.args.row c.args.col c.requires.row c.requires.col s.sizes c.args.i)
    ∙ term_abs v w s.first_kept s.second_kept s.root s.power c.args.row c.args.col c.requires.row c.requires.col s.sizes c.args.i in
    ⊎_elim (λ h. le_product _ _ _ _ _ _ h (ap nat_abs (x_plain ∙ x_is)) (ap nat_abs (y_plain ∙ y_is)) same) (λ h. absurd (omega (arith, h))) (c.mul.ensures.wide e)
