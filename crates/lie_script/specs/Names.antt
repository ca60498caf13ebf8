-- Names of modules.
-- Own.
use Rattle.std.specs.Prelude.{ℕ, List, [], Option, bytes_eq}
use Rattle.std.specs.List.{IsDistinct}
use Rattle.std.specs.Map.{lookup, keys_of}

-- names with their dimensions
abbrev pub Listed : Type 0
Listed = List (List ℕ × ℕ)

-- the dimension of the module of this name
abbrev pub dimension_of : Listed → List ℕ → Option ℕ
dimension_of listed name = lookup (λ other. bytes_eq other name) listed

-- no names
abbrev pub none_listed : Listed
none_listed = []

-- among no names none repeats
pub none-repeats : IsDistinct bytes_eq (keys_of none_listed)
unfolding IsDistinct
none-repeats = tt
