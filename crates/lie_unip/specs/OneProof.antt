-- What a collector keeps has one proof at most, so that it can stand on its type.
-- For proofs: no public clause cites it.
use Rattle.std.specs.Prelude.{ℕ, Bool, List, [], ◌∷◌}
use Rattle.std.specs.Coded.{Coded, Coded-set, coded_ℕ, coded_bool, ×_prop, Unit-prop, le_prop}
use Rattle.lie_const.specs.ConstantTables.{ConstantTable}
use Rattle.lie_ring.specs.Rings.{RingOn, Fits}
use Rattle.lie_letters.specs.RingLetters.{CommutatorTerm}
use Rattle.lie_unip.specs.Collection.{ComeAfter, AreCollectable}
use Rattle.lie_unip.specs.Placing.{BeforeRoots, AreSorted, AreRoots, NoneKept, StayApart, IsCollector}

ComeAfter-prop : (m s : ℕ) (cs : List CommutatorTerm) → IsProp (ComeAfter m s cs)
ComeAfter-prop m s [] a b = Unit-prop a b
ComeAfter-prop m s (c ∷ cs) a b = λ i. (le_prop a.0 b.0 i, le_prop a.1 b.1 i, le_prop a.2 b.2 i, le_prop a.3 b.3 i, ComeAfter-prop m s cs a.4 b.4 i)

AreCollectable-prop : (m : ℕ) (terms : ℕ → ℕ → List CommutatorTerm) → IsProp (AreCollectable m terms)
AreCollectable-prop m terms a b = λ i. record {
  later = λ r s p q l. ComeAfter-prop m s (terms r s) (a.later r s p q l) (b.later r s p q l) i;
  few = λ r s p q l. le_prop (a.few r s p q l) (b.few r s p q l) i;
}

BeforeRoots-prop : (before : ℕ → ℕ → Bool) (r : ℕ) (ks : List ℕ) → IsProp (BeforeRoots before r ks)
BeforeRoots-prop before r [] = Unit-prop
BeforeRoots-prop before r (k ∷ ks) = ×_prop (Coded-set coded_bool _ _) (BeforeRoots-prop before r ks)

AreSorted-prop : (before : ℕ → ℕ → Bool) (ks : List ℕ) → IsProp (AreSorted before ks)
AreSorted-prop before [] = Unit-prop
AreSorted-prop before (k ∷ ks) = ×_prop (BeforeRoots-prop before k ks) (AreSorted-prop before ks)

AreRoots-prop : (m : ℕ) (ks : List ℕ) → IsProp (AreRoots m ks)
AreRoots-prop m [] a b = Unit-prop a b
AreRoots-prop m (k ∷ ks) a b = λ i. (le_prop a.0 b.0 i, le_prop a.1 b.1 i, AreRoots-prop m ks a.2 b.2 i)

NoneKept-prop : (kept : ℕ → Bool) (cs : List CommutatorTerm) → IsProp (NoneKept kept cs)
NoneKept-prop kept [] = Unit-prop
NoneKept-prop kept (c ∷ cs) = ×_prop (Coded-set coded_bool _ _) (NoneKept-prop kept cs)

StayApart-prop : (m : ℕ) (terms : ℕ → ℕ → List CommutatorTerm) (kept : ℕ → Bool) → IsProp (StayApart m terms kept)
StayApart-prop m terms kept a b = λ i. λ r s p q l e f. NoneKept-prop kept (terms r s) (a r s p q l e f) (b r s p q l e f) i

Fits-prop : {A : Type 0} (R : RingOn A) (a : A) → IsProp (Fits R a)
Fits-prop R a = ×_prop (Coded-set coded_bool _ _) le_prop

pub IsCollector-prop : {A : Type 0} → Coded A → (R : RingOn A) (zero : A) (t : ConstantTable) (kept : List Bool) (roots places : List ℕ) → IsProp (IsCollector R zero t kept roots places)
IsCollector-prop code R zero t kept roots places a b = λ i. record {
  roomy = Coded-set coded_bool _ _ a.roomy b.roomy i;
  zero_is = Coded-set code _ _ a.zero_is b.zero_is i;
  zero_fits = Fits-prop R zero a.zero_fits b.zero_fits i;
  bound = le_prop a.bound b.bound i;
  count = Coded-set coded_ℕ _ _ a.count b.count i;
  collectable = AreCollectable-prop _ _ a.collectable b.collectable i;
  apart = StayApart-prop _ _ _ a.apart b.apart i;
  sorted = AreSorted-prop _ _ a.sorted b.sorted i;
  within = AreRoots-prop _ _ a.within b.within i;
  placed = λ k l h. ×_prop le_prop (Coded-set coded_ℕ _ _) (a.placed k l h) (b.placed k l h) i;
}
