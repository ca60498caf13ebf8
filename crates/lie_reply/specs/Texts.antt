-- The texts of replies, each ended by an LF.
-- Own.
--
--   loaded q d n e     the elements of the field, the coordinates, the roots, and the dimension of the carrier
--   n | i j k c ..      N_rs, then a term: the exponents, the number of the root i r + j s, and C_ijrs
--   n | w | r          the length, the least word and the images of the simple roots; `-` stands for an empty list
--   roots m            then a line for each positive root: its number, its coefficients, its vector and that of its coroot
use Rattle.std.specs.Prelude.{ℕ, ◌+◌, ◌*◌, Bool, if◌then◌else◌, ℤ, pos, List, [], ◌∷◌, ◌++◌, map, flat_map, take, length, codes, decimal}
use Rattle.std.specs.Fmt.{signed_decimal}
use Rattle.lie_const.specs.declared.term.Term.{Term}
use Rattle.lie_datum.specs.RootDatum.{Base, rank, vector, covector}
use Rattle.lie_datum.specs.declared.root_pair.Root.{Root}
use Rattle.lie_datum.specs.RootList.{RootDatum}
use Rattle.lie_field.specs.FiniteField.{FiniteField}
use Rattle.lie_field.specs.Quotient.{order}
use Rattle.lie_script.specs.Texts.{spaced}

-- the reply to `same`
abbrev pub same_text : Bool → List ℕ
same_text joined = if joined then codes "yes\n" else codes "no\n"

-- the reply to `load`, for a carrier of this dimension
abbrev pub loaded_text : FiniteField → RootDatum → ℕ → List ℕ
loaded_text F D dimension =
    codes "loaded " ++ decimal (order F.given) ++ codes " " ++ decimal D.base.dim ++ codes " " ++ decimal (2 * length D.positive)
    ++ codes " " ++ decimal dimension ++ codes "\n"

-- the line of the positive root with the number k
abbrev pub root_text : Base → ℕ → Root → List ℕ
root_text b k r =
    decimal k ++ spaced (take (rank b) r.coeffs) ++ codes " |" ++ spaced (take b.dim (vector b r)) ++ codes " |"
    ++ spaced (take b.dim (covector b r)) ++ codes "\n"

-- the lines of the positive roots from the number k on
abbrev pub root_texts : Base → ℕ → List Root → List ℕ
root_texts b k [] = []
root_texts b k (r ∷ rs) = root_text b k r ++ root_texts b (k + 1) rs

-- the reply to `roots`
abbrev pub roots_text : RootDatum → List ℕ
roots_text D = codes "roots " ++ decimal (length D.positive) ++ codes "\n" ++ root_texts D.base 1 D.positive

-- a term: its exponents, the number of its root, and its coefficient
abbrev pub term_text : Term → List ℕ
term_text t = codes " |" ++ spaced (pos t.i ∷ pos t.j ∷ t.root ∷ t.value ∷ [])

-- the reply to `constant`, by N_rs and the terms of r and s
abbrev pub constant_text : ℤ → List Term → List ℕ
constant_text n terms = signed_decimal n ++ flat_map term_text terms ++ codes "\n"

-- numbers, each after a space, or ` -` where there is none
abbrev pub listed_text : List ℤ → List ℕ
listed_text [] = codes " -"
listed_text (n ∷ ns) = spaced (n ∷ ns)

-- the reply to `weyl`, by the length, the least word and the images of the simple roots
abbrev pub weyl_text : ℕ → List ℕ → List ℤ → List ℕ
weyl_text n least images =
    decimal n ++ codes " |" ++ listed_text (map (λ i. pos i) least) ++ codes " |" ++ listed_text images ++ codes "\n"
