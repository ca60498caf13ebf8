-- Told bytes, one step after another.
use Rattle.std.proofs.Common.{◌≡◌, ℕ, ◌<◌, List, [], ◌++◌, length, Option, Some, None, refl, ap, sym, append_assoc, append-nil, length-append, arith}
use Rattle.std.proofs.Common.{Bool, true, false, ◌≢◌, ◌↔◌, ◌∷◌}
use Rattle.std.proofs.lemmas.Bool.{iff_false}
use Rattle.std.specs.Option.{IfSome}
use Rattle.lie_kit.specs.Streams.{after_bytes, with_bytes}

pub with-with : (old : Option (List ℕ)) (a b : List ℕ) → with_bytes (with_bytes old a) b ≡ with_bytes old (a ++ b)
with-with None a b = refl
with-with (Some xs) a b = ap Some (append_assoc xs a b)

pub after-after : (new : Option (List ℕ)) (a b : List ℕ) → after_bytes a (after_bytes b new) ≡ after_bytes (a ++ b) new
after-after None a b = refl
after-after (Some xs) a b = ap Some (sym (append_assoc a b xs))

pub with_none : (old : Option (List ℕ)) → with_bytes old [] ≡ old
with_none None = refl
with_none (Some xs) = ap Some (append-nil xs)

-- a source that has given these bytes had told at least as many
pub had_more : (old : Option (List ℕ)) (bytes : List ℕ) (new : Option (List ℕ)) (n : ℕ) → old ≡ after_bytes bytes new → n < length bytes → IfSome old (λ input. n < length input)
had_more old bytes None n is more = rw is tt
had_more old bytes (Some xs) n is more = rw is (let long : n < length (bytes ++ xs) = rw (length-append bytes xs) (omega arith) in long)

-- a list of which the test says that nothing is there
pub none-from : (b : Bool) (xs : List ℕ) → ((b ≡ true) ↔ (xs ≢ [])) → b ≡ false → xs ≡ []
none-from b [] iff none = refl
none-from b (x ∷ xs) iff none = absurd (iff_false iff none (λ e. absurd cc))

pub some-from : (b : Bool) (xs : List ℕ) → ((b ≡ true) ↔ (xs ≢ [])) → b ≡ true → xs ≢ []
some-from b xs iff some = iff.0 some
