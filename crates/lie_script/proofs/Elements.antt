-- Elements and letters that were read are those of the frame.
use Rattle.std.proofs.Common.{◌≡◌, ℕ, zero, suc, ◌+◌, ◌<◌, ◌≤◌, ℤ, pos, neg_ℤ, Bool, true, false, cond, Option, Some, None, List, [], ◌∷◌, length, take, drop, sym, subst, arith, Ok}
use Rattle.lie_datum.specs.RootList.{RootDatum, IsLoaded, IsNumber}
use Rattle.lie_datum.specs.RootDatum.{rank}
use Rattle.lie_datum.proofs.SignedRoots.{opposite_number}
use Rattle.lie_letters.proofs.NameLemmas.{index_of, number_of_index}
use Rattle.lie_datum.proofs.NumberLemmas.{some_within}
use Rattle.std.specs.Prelude.{not, ◌&&◌, nat_eq, nat_lt, nat_le, filter, IfOk}
use Rattle.lie_field.specs.FiniteField.{FiniteField}
use Rattle.lie_field.specs.Quotient.{order}
use Rattle.lie_letters.specs.Entries.{IsUnit, AreUnits}
use Rattle.lie_letters.specs.Frames.{FrameData}
use Rattle.lie_letters.specs.Spelled.{IsIndex, IsLetterOver, IsWordOver}
use Rattle.lie_letters.specs.declared.letter.Letter.{Letter}
use Rattle.lie_letters.specs.declared.letter.Letter.TheVariants.{X, H, N, Ninv}
use Rattle.lie_script.specs.Checks.{◌>>=◌, unless, found}
use Rattle.lie_script.specs.Fields.{Span, begins_with, behind_first, place_of, before_last}
use Rattle.lie_script.specs.Letters.{element, root, root_element, root_letter, simple, weyl_by, weyl_letter, unit, units, spelled, spelled_list, torus_letter, letter_from, letter, letters, few_letters, word, is_letter}
use Rattle.lie_script.specs.Numbers.{unsigned, signed}
use Rattle.lie_script.specs.Setting.{HasField, HasDatum}
use Rattle.lie_script.specs.declared.faults.Fault.{Fault}
use Rattle.lie_script.specs.declared.faults.FaultName.TheVariants as fault
use Rattle.lie_script.specs.declared.faults.Fault.TheVariants.{At}
use Rattle.lie_script.specs.declared.sizes.Sizes.{Sizes}
use Rattle.lie_script.proofs.Steps.{bind-ok, unless-ok, Ok-is, each-ok, bind-all, unless-all, if-all, each-all}

-- an element that was read isn't 0
unit-ok : (F : FiniteField) (q column a b : ℕ) → order F.given ≡ q → unit q column a ≡ Ok b → IsUnit F b
unfolding unit
unit-ok F q column a b same h =
    let below = unless-ok (nat_lt a q) (At fault.Value column) (unless (not (nat_eq a 0)) (At fault.Torus column) >>= λ nonzero. Ok a) b h in
    let nonzero = unless-ok (not (nat_eq a 0)) (At fault.Torus column) (Ok a) b below.1 in
    subst (IsUnit F) (Ok-is a b nonzero.1) (grind (arith, nonzero.0), grind (arith, below.0, same))

-- as many elements are read as numbers are there, and none is 0
pub units-ok : (F : FiniteField) (q column : ℕ) (numbers t : List ℕ) → order F.given ≡ q → units q column numbers ≡ Ok t → (length t ≡ length numbers) × AreUnits F t
unfolding units
units-ok F q column numbers t same h = each-ok (IsUnit F) (unit q column) (λ a b. unit-ok F q column a b same) numbers t h

-- numbers, as many as there are coordinates, give a letter of the frame
entries-over : (f : FrameData) (sizes : Sizes) (column : ℕ) (numbers : List ℕ) (e : Fault) → HasField sizes f.field → HasDatum sizes f.datum
    → IfOk (unless (nat_eq (length numbers) sizes.d) e >>= λ sized. units sizes.q column numbers >>= λ t. Ok (H t)) (IsLetterOver f)
entries-over f sizes column numbers e q_is has =
    unless-all (IsLetterOver f) (nat_eq (length numbers) sizes.d) e (units sizes.q column numbers >>= λ t. Ok (H t)) (λ sized.
    bind-all (IsLetterOver f) (units sizes.q column numbers) (λ t. Ok (H t)) (λ t read.
    let found = units-ok f.field sizes.q column numbers t q_is read in
    (grind (arith, sized, found.0, has.d_is), found.1)))

-- a torus letter has an entry for each coordinate, and none is 0
torus_letter-over : (f : FrameData) (sizes : Sizes) (column : ℕ) (bytes : List ℕ) → HasField sizes f.field → HasDatum sizes f.datum → IfOk (torus_letter sizes column bytes) (IsLetterOver f)
unfolding torus_letter
torus_letter-over f sizes column bytes q_is has =
    let P = IsLetterOver f in
    bind-all P (found (behind_first 40 bytes) (At fault.Letter column)) _ (λ opened is. bind-all P (found (before_last 41 opened) (At fault.Letter column)) _ (λ inner is. bind-all P (spelled_list column inner) _ (λ numbers is. entries-over f sizes column numbers (At fault.Torus column) q_is has)))

-- an element that was read is below q
element-ok : (q column a b : ℕ) → element q column a ≡ Ok b → b < q
element-ok q column a b h =
    let below = unless-ok (nat_lt a q) (At fault.Value column) (Ok a) b h in
    subst (λ n. n < q) (Ok-is a b below.1) (grind (arith, below.0))

-- a number that was read is that of a root
root-ok : (m column : ℕ) (number : List ℕ) (k : ℕ) (r : ℤ) → root m column number k ≡ Ok r → (1 ≤ k) × (k ≤ m) × (r ≡ signed number k)
root-ok m column number k r h =
    let named = unless-ok (nat_le 1 k && nat_le k m) (At fault.Root column) (Ok (signed number k)) r h in
    (grind (arith, named.0), grind (arith, named.0), sym (Ok-is (signed number k) r named.1))

-- P of each root element
abbrev IfRoot : (Letter → Type 0) → Sizes → Type 0
IfRoot P sizes = (number : List ℕ) (k a : ℕ) → 1 ≤ k → k ≤ sizes.m → a < sizes.q → P (X (signed number k) a)

-- what holds of each root element holds of what is read
root_element-all : (P : Letter → Type 0) (sizes : Sizes) (column : ℕ) (number inner : List ℕ) → IfRoot P sizes → IfOk (root_element sizes column number inner) P
root_element-all P sizes column number inner h =
    bind-all P (spelled column (unsigned number)) _ (λ k is. bind-all P (spelled column inner) _ (λ a is. bind-all P (root sizes.m column number k) _ (λ r is.
    bind-all P (element sizes.q column a) _ (λ b are. (let named = root-ok sizes.m column number k r is in
    subst (λ z. P (X z b)) (sym named.2) (h number k b named.0 named.1 (element-ok sizes.q column a b are)))))))

root_letter-all : (P : Letter → Type 0) (sizes : Sizes) (column : ℕ) (bytes : List ℕ) → IfRoot P sizes → IfOk (root_letter sizes column bytes) P
unfolding root_letter
root_letter-all P sizes column bytes h =
    unless-all P (nat_lt (place_of 40 bytes) (length bytes)) _ _ (λ opened. bind-all P (found (before_last 41 (drop (place_of 40 bytes + 1) bytes)) (At fault.Letter column)) _ (λ inner is.
    root_element-all P sizes column (take (place_of 40 bytes) bytes) inner h))

-- an index that was read is that of a simple root
simple-ok : (l column : ℕ) (digits : List ℕ) (i : ℕ) → simple l column digits ≡ Ok i → (1 ≤ i) × (i ≤ l)
simple-ok l column digits i h =
    let read = bind-ok (spelled column digits) _ i h in
    let named = unless-ok (nat_le 1 read.0 && nat_le read.0 l) (At fault.Simple column) (Ok read.0) i read.2 in
    subst (λ n. (1 ≤ n) × (n ≤ l)) (Ok-is read.0 i named.1) (grind (arith, named.0), grind (arith, named.0))

weyl_by-all : (P : Letter → Type 0) (sizes : Sizes) (column : ℕ) (bytes : List ℕ) (o : Option (List ℕ)) → ((i : ℕ) → 1 ≤ i → i ≤ sizes.l → P (N i) × P (Ninv i)) → IfOk (weyl_by sizes column bytes o) P
weyl_by-all P sizes column bytes None h = bind-all P (simple sizes.l column bytes) _ (λ i is. (let named = simple-ok sizes.l column bytes i is in (h i named.0 named.1).0))
weyl_by-all P sizes column bytes (Some digits) h = bind-all P (simple sizes.l column digits) _ (λ i is. (let named = simple-ok sizes.l column digits i is in (h i named.0 named.1).1))

weyl_letter-all : (P : Letter → Type 0) (sizes : Sizes) (column : ℕ) (bytes : List ℕ) → ((i : ℕ) → 1 ≤ i → i ≤ sizes.l → P (N i) × P (Ninv i)) → IfOk (weyl_letter sizes column bytes) P
unfolding weyl_letter
weyl_letter-all P sizes column bytes h = weyl_by-all P sizes column bytes (before_last 39 bytes) h

-- numbers up to m in absolute value are those of roots
number-within : (D : RootDatum) (k : ℕ) → 1 ≤ k → k ≤ length D.positive → IsNumber D (pos k)
number-within D zero low high = absurd (omega (arith, low))
number-within D (suc k) low high = some_within D.positive k (omega (arith, high))

signed-within : (D : RootDatum) (number : List ℕ) (k : ℕ) → 1 ≤ k → k ≤ length D.positive → IsNumber D (signed number k)
signed-within D number k low high = by (begins_with 45 number) where
  by : (t : Bool) → IsNumber D (cond t (neg_ℤ (pos k)) (pos k))
  by true = (opposite_number D (pos k) (number-within D k low high)).0
  by false = number-within D k low high

-- indices up to l are those of simple roots
index-within : (D : RootDatum) → IsLoaded D → (i : ℕ) → 1 ≤ i → i ≤ rank D.base → IsIndex D i
index-within D loaded zero low high = absurd (omega (arith, low))
index-within D loaded (suc k) low high = let i = index_of D loaded k (omega (arith, high)) in subst (λ n. IsIndex D (suc n)) i.1 (number_of_index D i.0)

root_letter-over : (f : FrameData) (sizes : Sizes) (column : ℕ) (bytes : List ℕ) → HasField sizes f.field → HasDatum sizes f.datum → IfOk (root_letter sizes column bytes) (IsLetterOver f)
root_letter-over f sizes column bytes q_is has =
    root_letter-all (IsLetterOver f) sizes column bytes (λ number k a low high below. (signed-within f.datum number k low (omega (arith, high, has.m_is)), omega (arith, below, q_is)))

weyl_letter-over : (f : FrameData) (sizes : Sizes) (column : ℕ) (bytes : List ℕ) → HasDatum sizes f.datum → IsLoaded f.datum → IfOk (weyl_letter sizes column bytes) (IsLetterOver f)
weyl_letter-over f sizes column bytes has loaded =
    weyl_letter-all (IsLetterOver f) sizes column bytes (λ i low high. (let index = index-within f.datum loaded i low (omega (arith, high, has.l_is)) in (index, index)))

-- a letter that was read is a letter of the frame
letter-over : (f : FrameData) (sizes : Sizes) (column : ℕ) (bytes : List ℕ) → HasField sizes f.field → HasDatum sizes f.datum → IsLoaded f.datum → IfOk (letter_from sizes column bytes) (IsLetterOver f)
letter-over f sizes column [] q_is has loaded = tt
letter-over f sizes column (b ∷ bytes) q_is has loaded =
    let P = IsLetterOver f in
    if-all P (nat_eq b 104) _ _ (torus_letter-over f sizes column bytes q_is has) (if-all P (nat_eq b 120) _ _ (root_letter-over f sizes column bytes q_is has)
    (if-all P (nat_eq b 110) _ _ (weyl_letter-over f sizes column bytes has loaded) tt))

-- letters that were read are a word of the frame
pub letters-over : (f : FrameData) (sizes : Sizes) (fields : List Span) → HasField sizes f.field → HasDatum sizes f.datum → IsLoaded f.datum → IfOk (letters sizes fields) (IsWordOver f)
unfolding letters letter
letters-over f sizes fields q_is has loaded = each-all (IsLetterOver f) (letter sizes) (λ field. letter-over f sizes field.column field.bytes q_is has loaded) (filter is_letter fields)

-- a word that was read is a word of the frame
pub word-over : (f : FrameData) (sizes : Sizes) (fields : List Span) → HasField sizes f.field → HasDatum sizes f.datum → IsLoaded f.datum → IfOk (word sizes fields) (IsWordOver f)
unfolding word
word-over f sizes fields q_is has loaded = bind-all (IsWordOver f) (few_letters fields) (λ few. letters sizes fields) (λ few is. letters-over f sizes fields q_is has loaded)
