-- Bytes taken from a source, one piece after another.
use Rattle.std.proofs.Common.{◌≡◌, ℕ, ◌≤◌, List, [], ◌∷◌, ◌++◌, length, take, Option, ap, sym, ◌∙◌, subst, arith}
use Rattle.std.proofs.lemmas.List.{take_all, take-append-le}
use Rattle.lie_kit.specs.Streams.{after_bytes, IsSpent}
use Rattle.lie_session.specs.Runs.{Gave, IsRead, input_limit}
use Rattle.lie_session.proofs.ToldLemmas.{after-after}

-- one more piece was given
pub gave-more : (left mid left' : Option (List ℕ)) (bytes piece : List ℕ) → Gave left bytes mid → mid ≡ after_bytes piece left' → Gave left (bytes ++ piece) left'
gave-more left mid left' bytes piece gave took = gave ∙ ap (after_bytes bytes) took ∙ after-after left' bytes piece

-- where one byte was asked for, one was taken
pub one-byte : (n : ℕ) (into : List ℕ) → 1 ≤ n → n ≤ length into → length into ≡ 1 → (b : ℕ) × (take n into ≡ b ∷ [])
one-byte n [] some fits one = let no : ⊥ = omega (arith, one) in absurd no
one-byte n (b ∷ []) some fits one = (b, take_all n (b ∷ []) (omega (arith, some)))
one-byte n (b ∷ c ∷ into) some fits one = let no : ⊥ = omega (arith, one) in absurd no

-- the front of a buffer whose first part was written
pub front-written : (n : ℕ) (into behind : List ℕ) → n ≤ length into → take n (into ++ behind) ≡ take n into
front-written n into behind fits = take-append-le n into behind fits

-- the input was read to its end
pub read-end : (left mid left' : Option (List ℕ)) (seen : List ℕ) → Gave left seen mid → (left' ≡ mid) × IsSpent mid → length seen ≤ input_limit → IsRead left seen left'
read-end left mid left' seen gave ended within =
    record { gave = gave ∙ ap (after_bytes seen) (sym ended.0); spent = subst IsSpent (sym ended.0) ended.1; within = within }
