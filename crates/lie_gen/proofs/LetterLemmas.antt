-- Letters by their kinds.
use Rattle.std.proofs.Common.{◌≡◌, ℕ, List, subst}
use Rattle.std.specs.Prelude.{OnOk, Result, Ok, Err}
use Rattle.lie_gen.specs.Draws.{drawn, next, Puts}
use Rattle.lie_gen.specs.Demonstration.{Sample, root_letter, weyl_letter, torus_letter, letter_of, letter}

-- the letter of the kind k
kind : (s : Sample) (k : ℕ) (a b : List ℕ) (z y : ℕ) → k ≡ drawn 3 z → Puts (letter_of s k) a (next z) b y → Puts (letter s) a z b y
unfolding letter
kind s k a b z y e p = let q = subst (λ j. Puts (letter_of s j) a (next z) b y) e p in record { text = q.text; state = q.state }

kind_of : {A E : Type 0} (s : Sample) (k : ℕ) (r : Result A E) (a b : List ℕ) (x z y : ℕ) → k ≡ drawn 3 z → x ≡ next z → OnOk r (Puts (letter_of s k) a x b y) → OnOk r (Puts (letter s) a z b y)
kind_of s k (Ok o) a b x z y e n p = kind s k a b z y e (subst (λ t. Puts (letter_of s k) a t b y) n p)
kind_of s k (Err o) a b x z y e n p = tt

pub root_kind : {A E : Type 0} (s : Sample) (m k : ℕ) (r : Result A E) (a b : List ℕ) (x z y : ℕ) → m ≡ s.positive → k ≡ 0 → k ≡ drawn 3 z → x ≡ next z → OnOk r (Puts (root_letter m) a x b y) → OnOk r (Puts (letter s) a z b y)
root_kind s m k r a b x z y h t e n p = kind_of s 0 r a b x z y (subst (λ j. j ≡ drawn 3 z) t e) n (subst (λ j. OnOk r (Puts (root_letter j) a x b y)) h p)

pub weyl_kind : {A E : Type 0} (s : Sample) (l k : ℕ) (r : Result A E) (a b : List ℕ) (x z y : ℕ) → l ≡ s.rank → k ≡ 1 → k ≡ drawn 3 z → x ≡ next z → OnOk r (Puts (weyl_letter l) a x b y) → OnOk r (Puts (letter s) a z b y)
weyl_kind s l k r a b x z y h t e n p = kind_of s 1 r a b x z y (subst (λ j. j ≡ drawn 3 z) t e) n (subst (λ j. OnOk r (Puts (weyl_letter j) a x b y)) h p)

pub torus_kind : {A E : Type 0} (s : Sample) (d k : ℕ) (r : Result A E) (a b : List ℕ) (x z y : ℕ) → d ≡ s.rank → k ≡ 2 → k ≡ drawn 3 z → x ≡ next z → OnOk r (Puts (torus_letter d) a x b y) → OnOk r (Puts (letter s) a z b y)
torus_kind s d k r a b x z y h t e n p = kind_of s 2 r a b x z y (subst (λ j. j ≡ drawn 3 z) t e) n (subst (λ j. OnOk r (Puts (torus_letter j) a x b y)) h p)
