-- Reading fields one after the other, as a loop does.
use Rattle.std.proofs.Common.{◌≡◌, ℕ, ◌+◌, ◌<◌, ◌≤◌, Bool, true, false, cond, List, [], ◌∷◌, ◌++◌, length, get_or, drop, Result, Ok, Err, refl, sym, ap, ◌∙◌, append_assoc}
use Rattle.std.specs.Prelude.{map, filter}
use Rattle.std.proofs.lemmas.List.{append-nil, drop_more, drop_all}
use Rattle.lie_script.specs.Checks.{◌>>=◌, each, Fails}
use Rattle.lie_script.specs.declared.faults.Stop.{Stop}
use Rattle.lie_script.specs.declared.faults.Stop.TheVariants as stop
use Rattle.lie_script.specs.declared.faults.Fault.{Fault}

-- what was read before, and what is still read
abbrev pub with_front : {A : Type 0} → List A → Result (List A) Fault → Result (List A) Fault
with_front front read = read >>= λ rest. Ok (front ++ rest)

regroup : {A : Type 0} (front : List A) (x : A) (read : Result (List A) Fault) → with_front front (read >>= λ rest. Ok (x ∷ rest)) ≡ with_front (front ++ x ∷ []) read
regroup front x (Ok rest) = ap Ok (sym (append_assoc front (x ∷ []) rest))
regroup front x (Err fault) = refl

-- What is left begins with an item whose value is `first`, and goes on with the rest.
abbrev pub Begins : {A : Type 0} → Result (List A) Fault → Result A Fault → Result (List A) Fault → Type 0
Begins left first rest = left ≡ (first >>= λ x. rest >>= λ others. Ok (x ∷ others))

-- one item more is read
pub goes-on : {A : Type 0} (front : List A) (left rest whole : Result (List A) Fault) (first : Result A Fault) (x : A)
    → Begins left first rest → first ≡ Ok x → with_front front left ≡ whole → with_front (front ++ x ∷ []) rest ≡ whole
goes-on front left rest whole first x begins is so_far =
    sym (ap (with_front front) (begins ∙ ap (λ r. r >>= λ y. rest >>= λ others. Ok (y ∷ others)) is) ∙ regroup front x rest) ∙ so_far

-- the next item has a fault
pub stops : {A : Type 0} (front : List A) (left rest whole : Result (List A) Fault) (first : Result A Fault) (fault : Fault)
    → Begins left first rest → first ≡ Err fault → with_front front left ≡ whole → whole ≡ Err fault
stops front left rest whole first fault begins is so_far =
    sym so_far ∙ ap (with_front front) (begins ∙ ap (λ r. r >>= λ y. rest >>= λ others. Ok (y ∷ others)) is)

-- the next item gives no value
pub fails : {A : Type 0} (stop : Stop) (front : List A) (left rest whole : Result (List A) Fault) (first : Result A Fault)
    → Begins left first rest → Fails stop first → with_front front left ≡ whole → Fails stop whole
fails stop.NoMemory front left rest whole first begins is so_far = tt
fails (stop.Faulty fault) front left rest whole first begins is so_far = stops front left rest whole first fault begins is so_far

-- no item is left
pub ends : {A : Type 0} (front : List A) (left whole : Result (List A) Fault) → left ≡ Ok [] → with_front front left ≡ whole → whole ≡ Ok front
ends front left whole none so_far = sym so_far ∙ ap (with_front front) none ∙ ap Ok (append-nil front)

-- the same for items of a list that are seen by a view
pub begins-at : {A B C : Type 0} (reader : B → Result A Fault) (view : C → B) (items : List C) (i : ℕ) (d : C) → i < length items
    → Begins (each reader (map view (drop i items))) (reader (view (get_or items i d))) (each reader (map view (drop (i + 1) items)))
begins-at reader view items i d lt = ap (λ left. each reader (map view left)) (drop_more items i d lt)

pub none-at : {A B C : Type 0} (reader : B → Result A Fault) (view : C → B) (items : List C) (i : ℕ) → length items ≤ i
    → each reader (map view (drop i items)) ≡ Ok []
none-at reader view items i le = ap (λ left. each reader (map view left)) (drop_all i items le)

-- the same without a view
pub begins-plain : {A B : Type 0} (reader : B → Result A Fault) (items : List B) (i : ℕ) (d : B) → i < length items
    → Begins (each reader (drop i items)) (reader (get_or items i d)) (each reader (drop (i + 1) items))
begins-plain reader items i d lt = ap (each reader) (drop_more items i d lt)

pub none-plain : {A B : Type 0} (reader : B → Result A Fault) (items : List B) (i : ℕ) → length items ≤ i → each reader (drop i items) ≡ Ok []
none-plain reader items i le = ap (each reader) (drop_all i items le)

-- nothing is read yet
pub starts : {A : Type 0} (front : List A) (whole : Result (List A) Fault) → front ≡ [] → with_front front whole ≡ whole
starts front (Ok rest) none = rw none refl
starts front (Err fault) none = refl

-- ---- fields that a test picks

pub begins-kept : {A B C : Type 0} (reader : B → Result A Fault) (p : B → Bool) (view : C → B) (items : List C) (i : ℕ) (d : C) → i < length items → p (view (get_or items i d)) ≡ true
    → Begins (each reader (filter p (map view (drop i items)))) (reader (view (get_or items i d))) (each reader (filter p (map view (drop (i + 1) items))))
begins-kept reader p view items i d lt kept =
    ap (λ left. each reader (filter p (map view left))) (drop_more items i d lt)
    ∙ ap (λ (t : Bool). each reader (cond t (view (get_or items i d) ∷ filter p (map view (drop (i + 1) items))) (filter p (map view (drop (i + 1) items))))) kept

pub skipped : {B C : Type 0} (p : B → Bool) (view : C → B) (items : List C) (i : ℕ) (d : C) → i < length items → p (view (get_or items i d)) ≡ false
    → filter p (map view (drop i items)) ≡ filter p (map view (drop (i + 1) items))
skipped p view items i d lt left_out =
    ap (λ left. filter p (map view left)) (drop_more items i d lt)
    ∙ ap (λ (t : Bool). cond t (view (get_or items i d) ∷ filter p (map view (drop (i + 1) items))) (filter p (map view (drop (i + 1) items)))) left_out

pub kept : {B C : Type 0} (p : B → Bool) (view : C → B) (items : List C) (i : ℕ) (d : C) → i < length items → p (view (get_or items i d)) ≡ true
    → filter p (map view (drop i items)) ≡ view (get_or items i d) ∷ filter p (map view (drop (i + 1) items))
kept p view items i d lt is =
    ap (λ left. filter p (map view left)) (drop_more items i d lt)
    ∙ ap (λ (t : Bool). cond t (view (get_or items i d) ∷ filter p (map view (drop (i + 1) items))) (filter p (map view (drop (i + 1) items)))) is

pub none-kept : {A B C : Type 0} (reader : B → Result A Fault) (p : B → Bool) (view : C → B) (items : List C) (i : ℕ) → length items ≤ i
    → each reader (filter p (map view (drop i items))) ≡ Ok []
none-kept reader p view items i le = ap (λ left. each reader (filter p (map view left))) (drop_all i items le)
