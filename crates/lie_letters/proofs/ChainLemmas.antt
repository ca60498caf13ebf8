-- Joined words: an equivalence, kept under appending on both sides.
use Rattle.std.proofs.lemmas.List.{append-nil, map-append}
use Rattle.std.proofs.Common.{List, [], ◌∷◌, ◌++◌, map, refl, subst, append_assoc}
use Rattle.lie_letters.specs.Chains.{StepBy, JoinedBy, forward, backward, same, next, IsChain}

module _ {A : Type 0} {R : List A → List A → Type 0} where
  -- an exchange taken back
  pub turned : {u v : List A} → StepBy R u v → StepBy R v u
  turned (forward p q e) = backward p q e
  turned (backward p q e) = forward p q e

  -- one exchange is a chain
  pub one_step : {u v : List A} → StepBy R u v → JoinedBy R u v
  one_step s = next s same

  -- a chain after a chain
  pub trans : {u v w : List A} → JoinedBy R u v → JoinedBy R v w → JoinedBy R u w
  trans same e = e
  trans (next s d) e = next s (trans d e)

  -- a chain taken back
  pub flip : {u v : List A} → JoinedBy R u v → JoinedBy R v u
  flip same = same
  flip (next s d) = trans (flip d) (one_step (turned s))

  -- a step behind a word
  pub step_behind : (a : List A) {u v : List A} → StepBy R u v → StepBy R (a ++ u) (a ++ v)
  step_behind a (forward {l = l} {r = r} p q e) =
      rw (← append_assoc a p (l ++ q), ← append_assoc a p (r ++ q)) (forward (a ++ p) q e)
  step_behind a (backward {l = l} {r = r} p q e) =
      rw (← append_assoc a p (l ++ q), ← append_assoc a p (r ++ q)) (backward (a ++ p) q e)

  -- an exchange before a word
  pub step_before : {u v : List A} (b : List A) → StepBy R u v → StepBy R (u ++ b) (v ++ b)
  step_before b (forward {l = l} {r = r} p q e) =
      rw (append_assoc p (l ++ q) b, append_assoc p (r ++ q) b, append_assoc l q b, append_assoc r q b) (forward p (q ++ b) e)
  step_before b (backward {l = l} {r = r} p q e) =
      rw (append_assoc p (l ++ q) b, append_assoc p (r ++ q) b, append_assoc l q b, append_assoc r q b) (backward p (q ++ b) e)

  -- a chain behind a word
  pub behind : (a : List A) {u v : List A} → JoinedBy R u v → JoinedBy R (a ++ u) (a ++ v)
  behind a same = same
  behind a (next s d) = next (step_behind a s) (behind a d)

  -- a chain before a word
  pub before : {u v : List A} (b : List A) → JoinedBy R u v → JoinedBy R (u ++ b) (v ++ b)
  before b same = same
  before b (next s d) = next (step_before b s) (before b d)

  -- two words joined part by part
  pub both : {u u' v v' : List A} → JoinedBy R u u' → JoinedBy R v v' → JoinedBy R (u ++ v) (u' ++ v')
  both {u' = u'} {v = v} d e = trans (before v d) (behind u' e)

  -- a relation by itself
  pub by_relation : (l r : List A) → R l r → JoinedBy R l r
  by_relation l r e =
      subst (λ u. JoinedBy R u r) (append-nil l)
      (subst (λ v. JoinedBy R (l ++ []) v) (append-nil r) (one_step (forward {l = l} {r = r} [] [] e)))

  -- a chain is the list of the words between
  pub chain_of : {u v : List A} → JoinedBy R u v → (between : List (List A)) × IsChain R u between v
  chain_of same = ([], refl)
  chain_of (next {v = w} s d) = let (between, c) = chain_of d in (w ∷ between, (s, c))

  -- and a list of the words between is a chain
  pub joined_by_chain : (u : List A) (between : List (List A)) (v : List A) → IsChain R u between v → JoinedBy R u v
  joined_by_chain u [] v c = subst (λ w. JoinedBy R u w) c same
  joined_by_chain u (w ∷ between) v c = next c.0 (joined_by_chain w between v c.1)

-- letters carried to other letters, where each relation is carried to a chain
module _ {A B : Type 0} {R : List A → List A → Type 0} {R' : List B → List B → Type 0} (h : A → B)
    (respects : (l r : List A) → R l r → JoinedBy R' (map h l) (map h r)) where
  inside : (p q l r : List A) → JoinedBy R' (map h l) (map h r) → JoinedBy R' (map h (p ++ (l ++ q))) (map h (p ++ (r ++ q)))
  inside p q l r d = simp map-append (behind (map h p) (before (map h q) d))

  step_carried : {u v : List A} → StepBy R u v → JoinedBy R' (map h u) (map h v)
  step_carried (forward {l = l} {r = r} p q e) = inside p q l r (respects l r e)
  step_carried (backward {l = l} {r = r} p q e) = inside p q r l (flip (respects l r e))

  -- a chain is carried to a chain
  pub carried : {u v : List A} → JoinedBy R u v → JoinedBy R' (map h u) (map h v)
  carried same = same
  carried (next s d) = trans (step_carried s) (carried d)
