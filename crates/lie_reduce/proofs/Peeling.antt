-- The coefficients of a product of root elements, one after the other by rising heights, are determined by the product.
-- Own: at a place where the root vector of the first factor has an entry, all later factors have 0.
use Rattle.std.proofs.Common.{◌≡◌, ℕ, zero, suc, ◌+◌, ◌<◌, ◌≤◌, cond, sym, ap, ap₂, ◌∙◌, inl, inr, subst, arith}
use Rattle.std.specs.Prelude.{ℤ, pos, ◌+ℤ◌, ◌≤ℤ◌}
use Rattle.std.proofs.lemmas.Int.{ints}
use Rattle.std.proofs.lemmas.Bool.{cases_lt, ne_eqb}
use mathlib.Core.Logic.{⊎_elim}
use Rattle.lie_ring.specs.Rings.{RingOn, IsElem, IsRing}
use Rattle.lie_ring.specs.Matrices.{Matrix, entry, table, identity, product, product_entry}
use Rattle.lie_ring.specs.MatrixLemmas.{entry-table, table-shaped}
use Rattle.lie_ring.specs.MatrixElements.{identity-elem, product-elem}
use Rattle.lie_ring.specs.MatrixLaws.{product-assoc, one-product}
use Rattle.lie_reduce.specs.Triangular.{IsSquare}
use Rattle.lie_reduce.specs.Levels.{unit_entry, Raises}
use Rattle.lie_reduce.proofs.LevelLemmas.{raises-product, product-first, product-second}

module _ {A : Type 0} (R : RingOn A) (ring : IsRing R) (n : ℕ) where
  -- the identity is square
  pub identity-square : IsSquare R n (identity R n)
  identity-square = record { shape = table-shaped R.zero n n (unit_entry R); elem = identity-elem R ring n }

  -- a product of square matrices is square
  pub product-square : (M N : Matrix A) → IsSquare R n M → IsSquare R n N → IsSquare R n (product R M N)
  product-square M N s t =
      let mh : M.height ≡ n = ap (λ L. L.height) s.shape in
      let mw : M.width ≡ n = ap (λ L. L.width) s.shape in
      let nh : N.height ≡ n = ap (λ L. L.height) t.shape in
      let nw : N.width ≡ n = ap (λ L. L.width) t.shape in
      record {
        shape = table-shaped R.zero M.height N.width (product_entry R M N) ∙ ap₂ (λ a b. table a b (entry R.zero (product R M N))) mh nw;
        elem = product-elem R ring M N (mw ∙ sym nh) s.elem t.elem;
      }

  -- the identity raises levels by anything
  pub raises-identity : (level : ℕ → ℤ) (g : ℤ) → Raises R n level g (identity R n)
  raises-identity level g i j p q = inl (entry-table R.zero n n (unit_entry R) i j p q)

  -- and what raises by more raises by less
  pub raises-weaken : (level : ℕ → ℤ) (g h : ℤ) (M : Matrix A) → h ≤ℤ g → Raises R n level g M → Raises R n level h M
  raises-weaken level g h M less u i j p q = ⊎_elim (λ d. inl d) (λ up. inr (omega (arith, ints, up, less))) (u i j p q)

-- factors x_i(a), i from 0, that raise levels by g_i, with a place at which x_i(a) is a multiple of a and all later factors are 0
pub record ArePeelable {A : Type 0} (R : RingOn A) (n m : ℕ) (level : ℕ → ℤ) (x : ℕ → A → Matrix A) : Type 0 where
  pub gap : ℕ → ℤ
  pub row : ℕ → ℕ
  pub col : ℕ → ℕ
  pub value : ℕ → A
  pub square : (i : ℕ) (a : A) → i < m → IsElem R a → IsSquare R n (x i a)
  pub raises : (i : ℕ) (a : A) → i < m → IsElem R a → Raises R n level (gap i) (x i a)
  pub rising : (i : ℕ) → i < m → pos 1 ≤ℤ gap i
  pub order : (i j : ℕ) → i < j → j < m → gap i ≤ℤ gap j
  pub row_low : (i : ℕ) → i < m → row i < n
  pub col_low : (i : ℕ) → i < m → col i < n
  pub apart : (i : ℕ) → i < m → level (row i) ≡ level (col i) +ℤ gap i
  pub own : (i : ℕ) (a : A) → i < m → IsElem R a → entry R.zero (x i a) (row i) (col i) ≡ R.mul a (value i)
  pub others : (i j : ℕ) (a : A) → i < j → j < m → IsElem R a → entry R.zero (x j a) (row i) (col i) ≡ R.zero
  pub determines : (i : ℕ) (a b : A) → i < m → IsElem R a → IsElem R b → R.mul a (value i) ≡ R.mul b (value i) → a ≡ b
  pub inverse : (i : ℕ) (a : A) → i < m → IsElem R a → product R (x i (R.neg a)) (x i a) ≡ identity R n

module _ {A : Type 0} (R : RingOn A) (ring : IsRing R) (n m : ℕ) (level : ℕ → ℤ) (x : ℕ → A → Matrix A) (peel : ArePeelable R n m level x) where
  -- c factors from j on
  abbrev pub factors_from : ℕ → ℕ → (ℕ → A) → Matrix A
  factors_from zero j u = identity R n
  factors_from (suc c) j u = product R (x j (u j)) (factors_from c (suc j) u)

  -- the coefficients are elements
  abbrev pub IsEntries : (ℕ → A) → Type 0
  IsEntries u = (i : ℕ) → i < m → IsElem R (u i)

  pub factors-square : (c j : ℕ) (u : ℕ → A) → j + c ≤ m → IsEntries u → IsSquare R n (factors_from c j u)
  factors-square zero j u low p = identity-square R ring n
  factors-square (suc c) j u low p =
      product-square R ring n (x j (u j)) (factors_from c (suc j) u) (peel.square j (u j) (omega (arith, low)) (p j (omega (arith, low)))) (factors-square c (suc j) u (omega (arith, low)) p)

  -- factors from j on raise levels as that at i does, for i up to j
  factors-raise : (i c j : ℕ) (u : ℕ → A) → i ≤ j → i < m → j + c ≤ m → IsEntries u → Raises R n level (peel.gap i) (factors_from c j u)
  factors-raise i zero j u before small low p = raises-identity R ring n level (peel.gap i)
  factors-raise i (suc c) j u before small low p =
      let here : j < m = omega (arith, low) in
      let head : Raises R n level (peel.gap i) (x j (u j)) = elim (cases_lt i j) [
        | inl less ↦ raises-weaken R ring n level (peel.gap j) (peel.gap i) (x j (u j)) (peel.order i j less here) (peel.raises j (u j) here (p j here))
        | inr more ↦ let e : j ≡ i = omega (arith, before, more) in subst (λ k. Raises R n level (peel.gap k) (x j (u j))) e (peel.raises j (u j) here (p j here))
      ] in
      raises-product R ring n level (peel.gap i) (peel.rising i small) (x j (u j)) (factors_from c (suc j) u)
      (peel.square j (u j) here (p j here)) (factors-square c (suc j) u (omega (arith, low)) p) head (factors-raise i c (suc j) u (omega (arith, before)) small (omega (arith, low)) p)

  -- the later factors are 0 at the place of i
  factors-later : (i c j : ℕ) (u : ℕ → A) → i < j → i < m → j + c ≤ m → IsEntries u → entry R.zero (factors_from c j u) (peel.row i) (peel.col i) ≡ R.zero
  factors-later i zero j u before small low p =
      entry-table R.zero n n (unit_entry R) (peel.row i) (peel.col i) (peel.row_low i small) (peel.col_low i small)
      ∙ ap (λ b. cond b R.one R.zero) (ne_eqb (peel.row i) (peel.col i) (λ e.
      let same = ap level e in let far = peel.apart i small in let up = peel.rising i small in absurd (let never : ⊥ = omega (arith, ints, same, far, up) in never)))
  factors-later i (suc c) j u before small low p =
      let here : j < m = omega (arith, low) in
      product-second R ring n level (peel.gap i) (peel.rising i small) (x j (u j)) (factors_from c (suc j) u)
      (peel.square j (u j) here (p j here)) (factors-square c (suc j) u (omega (arith, low)) p)
      (raises-weaken R ring n level (peel.gap j) (peel.gap i) (x j (u j)) (peel.order i j before here) (peel.raises j (u j) here (p j here)))
      (factors-raise i c (suc j) u (omega (arith, before)) small (omega (arith, low)) p)
      (peel.row i) (peel.col i) (peel.row_low i small) (peel.col_low i small) (peel.apart i small) (peel.others i j (u j) before here (p j here))
      ∙ factors-later i c (suc j) u (omega (arith, before)) small (omega (arith, low)) p

  -- at the place of i the product has the entry of its first factor
  pub factors-first : (i c : ℕ) (u : ℕ → A) → i + suc c ≤ m → IsEntries u → entry R.zero (factors_from (suc c) i u) (peel.row i) (peel.col i) ≡ R.mul (u i) (peel.value i)
  factors-first i c u low p =
      let here : i < m = omega (arith, low) in
      product-first R ring n level (peel.gap i) (peel.rising i here) (x i (u i)) (factors_from c (suc i) u)
      (peel.square i (u i) here (p i here)) (factors-square c (suc i) u (omega (arith, low)) p)
      (peel.raises i (u i) here (p i here)) (factors-raise i c (suc i) u (omega arith) here (omega (arith, low)) p)
      (peel.row i) (peel.col i) (peel.row_low i here) (peel.col_low i here) (peel.apart i here) (factors-later i c (suc i) u (omega arith) here (omega (arith, low)) p)
      ∙ peel.own i (u i) here (p i here)

  -- the first factor cancels
  pub factors-cancel : (i c : ℕ) (u : ℕ → A) → i + suc c ≤ m → IsEntries u → product R (x i (R.neg (u i))) (factors_from (suc c) i u) ≡ factors_from c (suc i) u
  factors-cancel i c u low p =
      let here : i < m = omega (arith, low) in
      let neg = ring.laws.neg_elem (u i) (p i here) in
      let X = x i (R.neg (u i)) in
      let Y = x i (u i) in
      let Z = factors_from c (suc i) u in
      let s = peel.square i (R.neg (u i)) here neg in
      let t = peel.square i (u i) here (p i here) in
      let z = factors-square c (suc i) u (omega (arith, low)) p in
      let X_width : X.width ≡ n = ap (λ L. L.width) s.shape in
      let Y_height : Y.height ≡ n = ap (λ L. L.height) t.shape in
      let Y_width : Y.width ≡ n = ap (λ L. L.width) t.shape in
      let Z_height : Z.height ≡ n = ap (λ L. L.height) z.shape in
      let Z_width : Z.width ≡ n = ap (λ L. L.width) z.shape in
      sym (product-assoc R ring X Y Z (X_width ∙ sym Y_height) (Y_width ∙ sym Z_height) s.elem t.elem z.elem)
      ∙ ap (λ L. product R L Z) (peel.inverse i (u i) here (p i here) ∙ ap (identity R) (sym Z_height))
      ∙ one-product R ring Z (z.shape ∙ sym (ap₂ (λ a b. table a b (entry R.zero Z)) Z_height Z_width)) z.elem

  -- equal products have equal coefficients
  pub peeled : (c i : ℕ) (u v : ℕ → A) → i + c ≤ m → IsEntries u → IsEntries v → factors_from c i u ≡ factors_from c i v → (j : ℕ) → i ≤ j → j < i + c → u j ≡ v j
  peeled zero i u v low p q same j after before = absurd (let never : ⊥ = omega (arith, after, before) in never)
  peeled (suc c) i u v low p q same j after before =
      let here : i < m = omega (arith, low) in
      let first : u i ≡ v i = peel.determines i (u i) (v i) here (p i here) (q i here)
      (sym (factors-first i c u low p) ∙ ap (λ M. entry R.zero M (peel.row i) (peel.col i)) same ∙ factors-first i c v low q) in
      let rest : factors_from c (suc i) u ≡ factors_from c (suc i) v =
      sym (factors-cancel i c u low p) ∙ ap₂ (λ a M. product R (x i (R.neg a)) M) first same ∙ factors-cancel i c v low q in
      elim (cases_lt i j) [
        | inl later ↦ peeled c (suc i) u v (omega (arith, low)) p q rest j (omega (arith, later)) (omega (arith, before))
        | inr at ↦ let e : i ≡ j = omega (arith, after, at) in subst (λ k. u k ≡ v k) e first
      ]
