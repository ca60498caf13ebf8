use Rattle.std.proofs.Common.{◌≡◌, ◌++◌, [], ◌∷◌, List, length, ap, subst, sym, ◌∙◌, arith, length-append}
use Rattle.lie_const.specs.declared.term.Term.{Term}
use Rattle.lie_const.specs.Layout.{parts, IsLadder}
use Rattle.lie_const.proofs.PartLemmas.{ladder_push, parts-push}
use Rattle.lie_const.proofs.term_lists.TermLists.pushed.Goals as goal
use Rattle.lie_const.proofs.term_lists.TermLists.pushed.Goals.{In_ok-push}

-- the terms and the places after the writes
terms : (c : In_ok-push) → c.extend_from_slice.new.self.items ≡ c.self.inside.terms.items ++ c.args.list.now
terms c = c.in_ok-extend_from_slice.ensures.items

starts : (c : In_ok-push) → c.push.new.self.items ≡ c.self.inside.starts.items ++ length (c.self.inside.terms.items ++ c.args.list.now) ∷ []
starts c = c.in_ok-push.ensures.items ∙ ap (λ n. c.self.inside.starts.items ++ n ∷ []) (let e = c.len.ensures in let l = c.in_ok-extend_from_slice.ensures.len in let a = length-append c.self.inside.terms.items c.args.list.now in omega (arith, e, l, a))

pub invariant_of-result : goal.invariant_of-result
invariant_of-result c =
    subst (λ (ts : List Term). IsLadder (length ts) c.push.new.self.items) (sym (terms c))
    (subst (IsLadder (length (c.self.inside.terms.items ++ c.args.list.now))) (sym (starts c))
    (ladder_push (length c.self.inside.terms.items) (length (c.self.inside.terms.items ++ c.args.list.now)) c.self.inside.starts.items c.self.invariant (let a = length-append c.self.inside.terms.items c.args.list.now in omega (arith, a))))

pub returns : goal.returns
returns c =
    ap (λ (ts : List Term). parts ts c.push.new.self.items) (terms c) ∙ ap (parts (c.self.inside.terms.items ++ c.args.list.now)) (starts c)
    ∙ parts-push c.self.inside.terms.items c.args.list.now c.self.inside.starts.items c.self.invariant ∙ ap (λ t. t ++ c.args.list.now ∷ []) c.self.view_is
