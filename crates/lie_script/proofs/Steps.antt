-- Steps of a reader that did not fail.
use Rattle.std.proofs.Common.{◌≡◌, suc, Bool, true, false, List, [], ◌∷◌, length, refl, ap, subst, Result, Ok, Err}
use Rattle.std.specs.Prelude.{if◌then◌else◌, IfOk}
use Rattle.std.specs.List.{AllByRecursion}
use Rattle.std.proofs.lemmas.Result.{IfOk-at_ok}
use Rattle.lie_script.specs.Checks.{◌>>=◌, unless, each}
use Rattle.lie_script.specs.declared.faults.Fault.{Fault}

-- the value of a step that did not fail
pub bind-ok : {A B : Type 0} (r : Result A Fault) (f : A → Result B Fault) (y : B) → (r >>= f) ≡ Ok y → (x : A) × (r ≡ Ok x) × (f x ≡ Ok y)
bind-ok (Ok x) f y e = (x, refl, e)
bind-ok (Err e') f y e = absurd cc

-- a check that passed
pub unless-ok : {B : Type 0} (t : Bool) (e : Fault) (r : Result B Fault) (y : B) → (unless t e >>= λ passed. r) ≡ Ok y → (t ≡ true) × (r ≡ Ok y)
unless-ok true e r y h = (refl, h)
unless-ok false e r y h = absurd cc

-- the same of the last check
pub unless-passed : (t : Bool) (e : Fault) (u : Unit {0}) → unless t e ≡ Ok u → t ≡ true
unless-passed true e u h = refl
unless-passed false e u h = absurd cc

-- a value that was given
pub Ok-is : {A : Type 0} (x y : A) → ◌≡◌ {A = Result A Fault} (Ok x) (Ok y) → x ≡ y
Ok-is x y e = cc

-- as many values are read as items are there, and what holds of each value that is read holds of all
pub each-ok : {A B : Type 0} (P : A → Type 0) (reader : B → Result A Fault) → ((item : B) (x : A) → reader item ≡ Ok x → P x)
    → (items : List B) (xs : List A) → each reader items ≡ Ok xs → (length xs ≡ length items) × AllByRecursion P xs
each-ok P reader h [] xs e = subst (λ (l : List _). (length l ≡ 0) × AllByRecursion P l) (Ok-is [] xs e) (refl, tt)
each-ok P reader h (item ∷ items) xs e =
    let first = bind-ok (reader item) (λ x. each reader items >>= λ others. Ok (x ∷ others)) xs e in
    let rest = bind-ok (each reader items) (λ others. Ok (first.0 ∷ others)) xs first.2 in
    let inner = each-ok P reader h items rest.0 rest.1 in
    subst (λ (l : List _). (length l ≡ suc (length items)) × AllByRecursion P l) (Ok-is (first.0 ∷ rest.0) xs rest.2)
    (ap suc inner.0, (h item first.0 first.1, inner.1))

-- what holds after every value of a step holds after the step
pub bind-all : {A B : Type 0} (P : B → Type 0) (r : Result A Fault) (f : A → Result B Fault) → ((x : A) → r ≡ Ok x → IfOk (f x) P) → IfOk (r >>= f) P
bind-all P (Ok x) f h = h x refl
bind-all P (Err e) f h = tt

-- the same of a check
pub unless-all : {B : Type 0} (P : B → Type 0) (t : Bool) (e : Fault) (r : Result B Fault) → (t ≡ true → IfOk r P) → IfOk (unless t e >>= λ passed. r) P
unless-all P true e r h = h refl
unless-all P false e r h = tt

-- the same of two readers
pub if-all : {B : Type 0} (P : B → Type 0) (t : Bool) (r s : Result B Fault) → IfOk r P → IfOk s P → IfOk (if t then r else s) P
if-all P true r s h k = h
if-all P false r s h k = k

-- what holds of each value that is read holds of all
pub each-all : {A B : Type 0} (P : A → Type 0) (reader : B → Result A Fault) → ((item : B) → IfOk (reader item) P) → (items : List B) → IfOk (each reader items) (AllByRecursion P)
each-all P reader h [] = tt
each-all P reader h (item ∷ items) =
    bind-all (AllByRecursion P) (reader item) _ (λ x is. bind-all (AllByRecursion P) (each reader items) _ (λ others are. (IfOk-at_ok P is (h item), IfOk-at_ok (AllByRecursion P) are (each-all P reader h items))))
