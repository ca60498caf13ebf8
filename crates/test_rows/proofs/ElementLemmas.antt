-- Elements of a field by their numbers.
use Rattle.std.proofs.Common.{ℕ, ◌<◌, List}
use Rattle.std.specs.List.{All, AllByRecursion}
use Rattle.std.proofs.lemmas.List.Elements.{recursion_from_All}

-- numbers below q, by recursion on their list
pub by_recursion : (q : ℕ) (xs : List ℕ) → All (λ n. n < q) xs → AllByRecursion (λ n. n < q) xs
by_recursion q xs all = recursion_from_All (λ n. n < q) xs all
