-- Matrices applied to columns, which are given as the lists of their entries.
-- For proofs: no public clause cites it.
use Rattle.std.proofs.Common.{◌≡◌, ℕ, ◌<◌, List, length, map, get_or, sym, ap, ap₂, ◌∙◌, subst, arith}
use Rattle.std.specs.List.{range_with_len}
use Rattle.std.proofs.lemmas.List.{length-map, ext_get_or}
use Rattle.std.proofs.Math.ListN.{get_or-map}
use Rattle.std.proofs.lemmas.List.FromFn.{get_or-map-range_with_len, length-map-range_with_len}
use Rattle.lie_ring.specs.Rings.{RingOn, IsElem, IsRing, IsHom, sum_below}
use Rattle.lie_ring.specs.SumLemmas.{sum-same, sum_products-assoc}
use Rattle.lie_ring.specs.HomLemmas.{hom-sum}
use Rattle.lie_ring.specs.MatrixLemmas.{entry-table, table-shaped, map-range, map-range-same}
use Rattle.lie_ring.specs.MatrixElements.{table-elem, product_term-elem, product_entry-elem}
use Rattle.lie_ring.specs.MatrixLaws.{one-product}
use Rattle.lie_ring.specs.MatrixImages.{image-entry}
use Rattle.lie_ring.specs.Matrices.{Matrix, entry, AllElem, EachElem, IsShaped, identity, product, product_entry, product_term, column, applied, image}

-- the entries of a column
pub column-entry : {A : Type 0} (z : A) (v : List A) (i : ℕ) → i < length v → entry z (column z v) i 0 ≡ get_or v i z
column-entry z v i a = entry-table z (length v) 1 (λ i _. get_or v i z) i 0 a (omega arith)

-- the length of the answer
pub applied-length : {A : Type 0} (R : RingOn A) (M : Matrix A) (v : List A) → length (applied R M v) ≡ M.height
applied-length R M v = length-map-range_with_len (λ i. product_entry R M (column R.zero v) i 0) 0 M.height

-- an entry of the answer
pub applied-entry : {A : Type 0} (R : RingOn A) (M : Matrix A) (v : List A) (i : ℕ) (d : A) → i < M.height → get_or (applied R M v) i d ≡ product_entry R M (column R.zero v) i 0
applied-entry R M v i d a = get_or-map-range_with_len (λ i. product_entry R M (column R.zero v) i 0) 0 M.height i i d a (omega arith)

-- a list is that of its entries
pub list-entries : {A : Type 0} (z : A) (v : List A) → map (λ i. get_or v i z) (range_with_len 0 (length v)) ≡ v
list-entries z v = ext_get_or z (map (λ i. get_or v i z) (range_with_len 0 (length v))) v (length-map-range_with_len (λ i. get_or v i z) 0 (length v))
    (λ i a. get_or-map-range_with_len (λ i. get_or v i z) 0 (length v) i i z (subst (λ n. i < n) (length-map-range_with_len (λ i. get_or v i z) 0 (length v)) a) (omega arith))

module _ {A : Type 0} (R : RingOn A) (ring : IsRing R) where
  -- a column of elements
  pub column-elem : (v : List A) → EachElem R v → AllElem R (column R.zero v)
  column-elem v p = table-elem R ring (length v) 1 (λ i _. get_or v i R.zero) (λ i _ a _. p i a)

  -- the entries of the answer are elements
  pub applied-elem : (M : Matrix A) (v : List A) → M.width ≡ length v → AllElem R M → EachElem R v → EachElem R (applied R M v)
  applied-elem M v shape p q i a =
      let b : i < M.height = subst (λ n. i < n) (applied-length R M v) a in
      subst (IsElem R) (sym (applied-entry R M v i R.zero b)) (product_entry-elem R ring M (column R.zero v) shape p (column-elem v q) i 0 b (omega arith))

  -- (L M) v = L (M v)
  pub applied-product : (L M : Matrix A) (v : List A) → L.width ≡ M.height → M.width ≡ length v → AllElem R L → AllElem R M → EachElem R v → applied R (product R L M) v ≡ applied R L (applied R M v)
  applied-product L M v first second p q r =
      let z = R.zero in
      let V = column z v in
      map-range-same (λ i. product_entry R (product R L M) V i 0) (λ i. product_entry R L (column z (applied R M v)) i 0) 0 L.height (λ i _ b.
      let a : i < L.height = omega (arith, b) in
      sum-same R M.width _ (λ k. R.mul (sum_below R L.width (λ l. R.mul (entry z L i l) (entry z M l k))) (entry z V k 0)) (λ k c.
      ap (λ e. R.mul e (entry z V k 0)) (entry-table z L.height M.width (product_entry R L M) i k a c))
      ∙ sum_products-assoc R ring.laws L.width M.width (entry z L i) (entry z M) (λ k. entry z V k 0)
      (λ l d. p i l a d) (λ l k d c. q l k (omega (arith, first, d)) c) (λ k c. column-elem v r k 0 (omega (arith, second, c)) (omega arith))
      ∙ sum-same R L.width _ _ (λ l d.
      let e : l < M.height = omega (arith, first, d) in
      ap (R.mul (entry z L i l)) (sym (column-entry z (applied R M v) l (subst (λ n. l < n) (sym (applied-length R M v)) e) ∙ applied-entry R M v l z e))))

  -- 1 v = v
  pub applied-identity : (v : List A) → EachElem R v → applied R (identity R (length v)) v ≡ v
  applied-identity v p =
      let V = column R.zero v in
      let shaped : IsShaped R.zero V = table-shaped R.zero (length v) 1 (λ i _. get_or v i R.zero) in
      map-range-same (λ i. product_entry R (identity R (length v)) V i 0) (λ i. get_or v i R.zero) 0 (length v) (λ i _ b.
      let a : i < length v = omega (arith, b) in
      sym (entry-table R.zero (length v) 1 (product_entry R (identity R (length v)) V) i 0 a (omega arith))
      ∙ ap (λ M. entry R.zero M i 0) (one-product R ring V shaped (column-elem v p))
      ∙ column-entry R.zero v i a)
      ∙ list-entries R.zero v

module _ {A B : Type 0} (R : RingOn A) (S : RingOn B) (h : A → B) (ring : IsRing R) (hom : IsHom R S h) where
  -- the image of M v is the image of M applied to the image of v
  pub image-applied : (M : Matrix A) (v : List A) → M.width ≡ length v → AllElem R M → EachElem R v → map h (applied R M v) ≡ applied S (image h M) (map h v)
  image-applied M v shape p q =
      let V = column R.zero v in
      map-range h (λ i. product_entry R M V i 0) 0 M.height
      ∙ map-range-same (λ i. h (product_entry R M V i 0)) (λ i. product_entry S (image h M) (column S.zero (map h v)) i 0) 0 M.height (λ i _ b.
      let a : i < M.height = omega (arith, b) in
      hom-sum R S h ring hom M.width (product_term R M V i 0) (λ k c. product_term-elem R ring M V shape p (column-elem R ring v q) i 0 k a (omega arith) c)
      ∙ sum-same S M.width _ _ (λ k c.
      let d : k < length v = omega (arith, shape, c) in
      hom.mul (entry R.zero M i k) (entry R.zero V k 0) (p i k a c) (column-elem R ring v q k 0 d (omega arith))
      ∙ ap₂ S.mul (image-entry R S h ring hom M i k)
      (ap h (column-entry R.zero v k d) ∙ sym (get_or-map h v k R.zero) ∙ ap (get_or (map h v) k) hom.zero
      ∙ sym (column-entry S.zero (map h v) k (subst (λ n. k < n) (sym (length-map v h)) d)))))
