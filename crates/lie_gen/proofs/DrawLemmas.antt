-- Texts that are drawn one after the other.
use Rattle.std.proofs.Common.{◌≡◌, ℕ, suc, List, ◌++◌, refl, sym, ap, ap₂, subst, ◌∙◌, append_assoc, append-nil}
use Rattle.std.specs.Prelude.{OnOk, Result, Ok, Err}
use Rattle.lie_gen.specs.Draws.{Drawing, fixed, ◌>>◌, times, Puts}

-- nothing is drawn for a text
pub plain : (t : List ℕ) {a b : List ℕ} {x : ℕ} → b ≡ a ++ t → Puts (fixed t) a x b x
plain t e = record { text = e; state = refl }

-- nothing is appended
pub none : (f : Drawing) {a : List ℕ} {x : ℕ} → Puts (times 0 f) a x a x
none f {a} = record { text = sym (append-nil a); state = refl }

-- a text, and then another
pub both : (f g : Drawing) {a b c : List ℕ} {x y z : ℕ} → Puts f a x b y → Puts g b y c z → Puts (f >> g) a x c z
unfolding ◌>>◌
both f g {a} {b} {c} {x} p q = record {
  text = q.text ∙ ap₂ (λ s t. s ++ (g t).0) p.text p.state ∙ append_assoc a (f x).0 (g (f x).1).0;
  state = q.state ∙ ap (λ t. (g t).1) p.state;
}

-- the same where the second call may fail
pub after : {A E : Type 0} (f g : Drawing) (r : Result A E) (c : List ℕ) (z : ℕ) {a b : List ℕ} {x y : ℕ} → Puts f a x b y → OnOk r (Puts g b y c z) → OnOk r (Puts (f >> g) a x c z)
after f g (Ok o) c z p q = both f g p q
after f g (Err e) c z p q = tt

-- one more of the same
pub more : (f : Drawing) (n m : ℕ) {a b c : List ℕ} {x y z : ℕ} → m ≡ suc n → Puts (times n f) a x b y → Puts f b y c z → Puts (times m f) a x c z
more f n m {a} {b} {c} {x} {y} {z} e p q = subst (λ k. Puts (times k f) a x c z) (sym e) (both (times n f) f p q)
