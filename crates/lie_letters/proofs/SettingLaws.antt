-- The laws of a lawful frame's setting.
use Rattle.std.proofs.Common.{◌≡◌, ℕ, suc, sym, ap, ◌∙◌, arith}
use Rattle.std.proofs.lemmas.Int.{ints}
use Rattle.std.specs.Prelude.{ℤ, pos, neg_ℤ, ◌*ℤ◌}
use Rattle.lie_field.specs.Elements
use Rattle.lie_datum.specs.declared.root_pair.Root.{Root}
use Rattle.lie_datum.specs.Vectors.{Vector, pairing, plus, times, minus, unit}
use Rattle.lie_datum.specs.RootDatum.{Base, vector, covector, opposite, reflected, simple_coroot, simple_root}
use Rattle.lie_datum.specs.RootList.{RootDatum, IsLoaded}
use Rattle.lie_datum.proofs.Linear.{pairing-times, times-pairing}
use Rattle.lie_datum.proofs.Roots.{same_root as same_pair}
use Rattle.lie_letters.proofs.TorusLaws
use Rattle.lie_letters.specs.Names.{RootName, Index, root_at, opposite_name, reflect_name}
use Rattle.lie_letters.specs.Frames.{FrameData, dim, setting, IsLawfulFrame}
use Rattle.lie_letters.specs.Laws.{Laws}
use Rattle.lie_letters.proofs.NameLemmas.{same_name, opposite_at, reflect_at, opposite_twice}
use Rattle.lie_letters.proofs.CharacterLemmas.{times-plus, times-times, combination-times, coroot_mul, coroot_one, character_mul, character_one, character_nonzero, character_opposite}

-- a reflection and the opposite change places
turned : (c u : Vector) (k m : ℤ) → m ≡ neg_ℤ (pos 1) *ℤ k → plus (minus c) (times (neg_ℤ m) u) ≡ minus (plus c (times (neg_ℤ k) u))
turned c u k m e =
    let factor : neg_ℤ m ≡ neg_ℤ (pos 1) *ℤ neg_ℤ k = omega (arith, ints, e) in
    ap (λ j. plus (minus c) (times j u)) factor
    ∙ ap (plus (minus c)) (sym (times-times (neg_ℤ (pos 1)) (neg_ℤ k) u))
    ∙ sym (times-plus (neg_ℤ (pos 1)) c (times (neg_ℤ k) u))

-- the reflection of the opposite root is the opposite of the reflection
pub reflected-opposite : (b : Base) (i : ℕ) (r : Root) → reflected b i (opposite r) ≡ opposite (reflected b i r)
reflected-opposite b i r =
    let minus_one = neg_ℤ (pos 1) in
    same_pair (reflected b i (opposite r)) (opposite (reflected b i r))
    (turned r.coeffs (unit 8 i) (pairing (vector b r) (simple_coroot b i)) (pairing (vector b (opposite r)) (simple_coroot b i))
    (ap (λ v. pairing v (simple_coroot b i)) (combination-times minus_one r.coeffs b.roots) ∙ pairing-times minus_one (vector b r) (simple_coroot b i)))
    (turned r.co_coeffs (unit 8 i) (pairing (simple_root b i) (covector b r)) (pairing (simple_root b i) (covector b (opposite r)))
    (ap (λ v. pairing (simple_root b i) v) (combination-times minus_one r.co_coeffs b.coroots) ∙ times-pairing (simple_root b i) minus_one (covector b r)))

-- and so for names
pub reflect_opposite : (d : RootDatum) → IsLoaded d → (i : Index d) (r : RootName d) → reflect_name d i (opposite_name d r) ≡ opposite_name d (reflect_name d i r)
reflect_opposite d loaded i r =
    same_name d loaded (reflect_name d i (opposite_name d r)) (opposite_name d (reflect_name d i r))
    (reflect_at d loaded i (opposite_name d r) ∙ ap (reflected d.base (suc i.number)) (opposite_at d loaded r)
    ∙ reflected-opposite d.base (suc i.number) (root_at d r)
    ∙ ap opposite (sym (reflect_at d loaded i r)) ∙ sym (opposite_at d loaded (reflect_name d i r)))

module _ (f : FrameData) where
  -- all laws of a lawful frame
  pub frame_laws : IsLawfulFrame f → Laws (setting f)
  frame_laws lawful = record {
    add_assoc = Elements.elem_add_assoc f.field;
    add_comm = Elements.elem_add_comm f.field;
    add_zero = Elements.elem_add_zero f.field;
    add_neg = Elements.elem_add_neg f.field;
    mul_assoc = Elements.elem_mul_assoc f.field;
    mul_comm = Elements.elem_mul_comm f.field;
    mul_one = Elements.elem_mul_one f.field;
    mul_add = Elements.elem_mul_add f.field;
    mul_inv = Elements.elem_mul_inv f.field;
    one_not_zero = Elements.one_not_zero f.field;
    torus_assoc = TorusLaws.torus_assoc f.field (dim f);
    torus_comm = TorusLaws.torus_comm f.field (dim f);
    torus_mul_one = TorusLaws.torus_mul_one f.field (dim f);
    torus_mul_inv = TorusLaws.torus_mul_inv f.field (dim f);
    coroot_mul = coroot_mul f;
    coroot_one = coroot_one f;
    character_mul = character_mul f;
    character_one = character_one f;
    character_nonzero = character_nonzero f;
    character_opposite = character_opposite f lawful.loaded;
    opposite_twice = opposite_twice f.datum lawful.loaded;
    reflect_opposite = reflect_opposite f.datum lawful.loaded;
  }
