-- The word n_i n_i' of a loaded datum.
use Rattle.std.proofs.Common.{◌≡◌, ℕ, List, [], ◌∷◌, sym, subst}
use Rattle.lie_field.specs.FiniteField.{FiniteField}
use Rattle.lie_datum.specs.RootDatum.{IsSimpleIndex, IsRoot, simple}
use Rattle.lie_datum.specs.RootList.{RootDatum, IsLoaded, all_roots}
use Rattle.lie_datum.proofs.ClosureLemmas.{contains_from_in}
use Rattle.lie_datum.proofs.LoadedLaws.{all_in}
use Rattle.lie_letters.specs.declared.letter.Letter.{Letter as CodeLetter}
use Rattle.lie_letters.specs.declared.letter.Letter.TheVariants.{N, Ninv}
use Rattle.lie_letters.specs.Spelled.{IsIndex}
use Rattle.lie_audit.specs.WordMatrix.{IsWordFor}

-- a simple index is that of a letter
index : (d : RootDatum) (i : ℕ) → IsLoaded d → IsSimpleIndex d.base i → IsIndex d i
index d i loaded s = (s, contains_from_in (all_roots d) (simple i) (all_in d loaded (simple i) (IsRoot.is_simple i s)))

-- n_i n_i' is a word
pub weyl_word : (f : FiniteField) (d : RootDatum) (i : ℕ) (w : List CodeLetter) → IsLoaded d → IsSimpleIndex d.base i → w ≡ N i ∷ Ninv i ∷ [] → IsWordFor f d w
weyl_word f d i w loaded s e = let x = index d i loaded s in subst (IsWordFor f d) (sym e) (λ c. (x, (x, tt)))
