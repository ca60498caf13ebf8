-- The answers on signs and on braid values exclude one another: of two that are first, neither comes before the other.
use Rattle.std.proofs.Common.{◌≡◌, ◌-◌, ℕ, zero, suc, ℤ, pos, ◌*ℤ◌, List, [], ◌∷◌, length, refl, sym, ap, ap₂, subst, ◌∙◌, ⊎_elim, inl, inr}
use Rattle.lie_datum.specs.Numbers.{place}
use Rattle.lie_datum.specs.RootDatum.{IsSimpleIndex, reflected, is_reflected}
use Rattle.lie_datum.specs.RootList.{RootDatum, IsLoaded, IsNumber, root_of}
use Rattle.lie_datum.proofs.NumberLemmas.{place_within}
use Rattle.lie_datum.proofs.SignedRoots.{same_place, opposite_number, root_is, number_is}
use Rattle.lie_weyl.specs.Orders.{IsOrder}
use Rattle.lie_const.specs.Modules.{Module}
use Rattle.lie_const.specs.Signs.{Signs, image, sign_entry, SignTable, eta_of}
use Rattle.lie_letters.specs.Braids.{HasBraids, IsBraidValue, IsFirstBadBraid, carried_sign, alternating}
use Rattle.lie_weight.proofs.NumberOf.{number_of-root}
use Rattle.lie_audit.specs.BraidAnswers.{OneBraidAnswer}
use Rattle.lie_audit.specs.SignAnswers.{AreTestedSigns, OneSignAnswer}
use Rattle.lie_audit.proofs.SimpleNumbers.{simple_number}
use Rattle.lie_audit.proofs.TestLemmas.{good_same, compare}
use Rattle.lie_datum.specs.Laws.{SimplesFirst}

-- a module has one answer on signs
pub one_sign : OneSignAnswer
one_sign = record {
  good = λ d v t i s e a f. f.bad (good_same (sign_entry d v) _ i s (sym (a.signs.entries i s f.index f.number))
      (sym (a.signs.entries i _ f.index (opposite_number d s f.number).0)) (a.signs.good i s f.index f.number));
  first = λ d v i j s r c e f g.
      (let m = length d.positive in
      ⊎_elim (λ l. absurd (f.bad (g.earlier i s f.index f.number (inl l)))) (λ o. ⊎_elim (λ l. absurd (g.bad (f.earlier j r g.index g.number (inl l)))) (λ same.
      ⊎_elim (λ l. absurd (f.bad (g.earlier i s f.index f.number (inr (same, l))))) (λ p. ⊎_elim (λ l. absurd (g.bad (f.earlier j r g.index g.number (inr (sym same, l))))) (λ q.
      (let root = same_place m s r (place_within d s f.number) (place_within d r g.number) q in
      (same, root, f.value ∙ ap₂ (sign_entry d v) same root ∙ sym g.value))) p) (compare (place m s) (place m r))) o) (compare i j));
}

-- ---- braid values

-- the order of a product is one
pub one_order : (d : RootDatum) (w : List ℕ) (m n : ℕ) → IsOrder d w m → IsOrder d w n → m ≡ n
one_order d w m n p q = ⊎_elim (λ l. absurd (q.least m p.some l p.one)) (λ o. ⊎_elim (λ l. absurd (p.least n q.some l q.one)) (λ e. e) o) (compare m n)

pub one_value : (d : RootDatum) (eta : Signs) (i j : ℕ) (c e : ℤ) → IsBraidValue d eta i j c → IsBraidValue d eta i j e → c ≡ e
one_value d eta i j c e p q =
    p.value ∙ ap (λ m. carried_sign d eta (alternating j i (m - 1)) (pos i)) (one_order d (i ∷ (j ∷ [])) p.order q.order p.is_order q.is_order) ∙ sym q.value

-- a pair that is bad is not among those that are good
not_earlier : (d : RootDatum) (eta : Signs) (i j : ℕ) (c : ℤ) → IsFirstBadBraid d eta i j c → IsBraidValue d eta i j (pos 1) → ⊥
not_earlier d eta i j c f v = f.bad (one_value d eta i j c (pos 1) f.value v)

-- signs have one answer on braid values
pub one_braid : OneBraidAnswer
one_braid = record {
  good = λ d eta i j c h f. not_earlier d eta i j c f (h i j f.left f.right f.before);
  first = λ d eta i j k l c e f g.
      ⊎_elim (λ m. absurd (not_earlier d eta i j c f (g.earlier i j f.left f.right f.before (inl m)))) (λ o. ⊎_elim (λ m. absurd (not_earlier d eta k l e g (f.earlier k l g.left g.right g.before (inl m)))) (λ same.
      ⊎_elim (λ m. absurd (not_earlier d eta i j c f (g.earlier i j f.left f.right f.before (inr (same, m))))) (λ p. ⊎_elim (λ m. absurd (not_earlier d eta k l e g (f.earlier k l g.left g.right g.before (inr (sym same, m))))) (λ other.
      (same, other, one_value d eta k l c e (subst (λ x. IsBraidValue d eta x l c) same (subst (λ y. IsBraidValue d eta i y c) other f.value)) g.value)) p) (compare j l)) o) (compare i k);
}

-- ---- signs that agree where they are read

-- signs of two tables agree on the simple indices and the roots
abbrev pub Agree : RootDatum → Signs → Signs → Type 0
Agree d eta eta' = (i : ℕ) (s : ℤ) → IsSimpleIndex d.base i → IsNumber d s → eta i s ≡ eta' i s

-- two tables of the signs of a module agree
pub signs_agree : (d : RootDatum) (v : Module) (t u : SignTable) → AreTestedSigns d v t → AreTestedSigns d v u → Agree d (eta_of t) (eta_of u)
signs_agree d v t u p q i s h n = p.signs.entries i s h n ∙ sym (q.signs.entries i s h n)

module _ (d : RootDatum) (loaded : IsLoaded d) where
  -- s_i s is the number of a root
  image_number : (i : ℕ) (s : ℤ) → IsSimpleIndex d.base i → IsNumber d s → IsNumber d (image d i s)
  image_number i s h n =
      let k = number_is d loaded (reflected d.base i (root_of d s)) (is_reflected i (root_of d s) h (root_is d loaded s n)) in
      subst (IsNumber d) (sym (number_of-root d loaded (reflected d.base i (root_of d s)).coeffs k.0 k.1 (ap (λ r. r.coeffs) k.2))) k.1

  module _ (eta eta' : Signs) (agree : Agree d eta eta') (i j : ℕ) (left : IsSimpleIndex d.base i) (right : IsSimpleIndex d.base j) where
    -- the products along a walk of two letters are equal
    carried_same : (n : ℕ) (s : ℤ) → IsNumber d s → (carried_sign d eta (alternating i j n) s ≡ carried_sign d eta' (alternating i j n) s) × (carried_sign d eta (alternating j i n) s ≡ carried_sign d eta' (alternating j i n) s)
    carried_same zero s m = (refl, refl)
    carried_same (suc n) s m = (
      ap₂ ◌*ℤ◌ (agree i s left m) (carried_same n (image d i s) (image_number i s left m)).1,
      ap₂ ◌*ℤ◌ (agree j s right m) (carried_same n (image d j s) (image_number j s right m)).0,
    )

  -- braid values of signs that agree are equal
  pub value_same : (eta eta' : Signs) → Agree d eta eta' → (i j : ℕ) (c : ℤ) → IsNumber d (pos i) → IsSimpleIndex d.base i → IsSimpleIndex d.base j → IsBraidValue d eta i j c → IsBraidValue d eta' i j c
  value_same eta eta' agree i j c m h k v = record { order = v.order; is_order = v.is_order; value = v.value ∙ (carried_same eta eta' agree i j h k (v.order - 1) (pos i) m).1 }

  module _ (first : SimplesFirst d) (eta eta' : Signs) (agree : Agree d eta eta') where
    -- so are all 1 for both, or for none
    pub braids_same : HasBraids d eta → HasBraids d eta'
    braids_same h i j p q l = value_same eta eta' agree i j (pos 1) (simple_number d first i p) p q (h i j p q l)

    -- and the first that is not is the first for both
    pub bad_braid_same : (i j : ℕ) (c : ℤ) → IsFirstBadBraid d eta i j c → IsFirstBadBraid d eta' i j c
    bad_braid_same i j c f = record {
      left = f.left;
      right = f.right;
      before = f.before;
      value = value_same eta eta' agree i j c (simple_number d first i f.left) f.left f.right f.value;
      bad = f.bad;
      earlier = λ k l p q m o. value_same eta eta' agree k l (pos 1) (simple_number d first k p) p q (f.earlier k l p q m o);
    }
