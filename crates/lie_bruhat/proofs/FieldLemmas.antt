-- Facts on the elements of a field, from its laws.
use Rattle.std.proofs.Common.{◌≡◌, sym, ◌∙◌, ap}
use Rattle.lie_letters.specs.Setting.{Setting}
use Rattle.lie_letters.specs.Laws.{Laws}

module _ (S : Setting) (laws : Laws S) where
  pub zero_add : (a : S.Elem) → S.add S.zero a ≡ a
  zero_add a = laws.add_comm S.zero a ∙ laws.add_zero a

  pub one_mul : (a : S.Elem) → S.mul S.one a ≡ a
  one_mul a = laws.mul_comm S.one a ∙ laws.mul_one a

  pub neg_unique : (a b : S.Elem) → S.add a b ≡ S.zero → b ≡ S.neg a
  neg_unique a b e =
      let left : S.add (S.neg a) (S.add a b) ≡ b =
      rw (← laws.add_assoc (S.neg a) a b, laws.add_comm (S.neg a) a, laws.add_neg a) (zero_add b) in
      sym left ∙ ap (S.add (S.neg a)) e ∙ laws.add_zero (S.neg a)

  pub neg_neg : (a : S.Elem) → S.neg (S.neg a) ≡ a
  neg_neg a = sym (neg_unique (S.neg a) a (laws.add_comm (S.neg a) a ∙ laws.add_neg a))

  pub mul_zero : (a : S.Elem) → S.mul a S.zero ≡ S.zero
  mul_zero a =
      let twice : S.add (S.mul a S.zero) (S.mul a S.zero) ≡ S.mul a S.zero =
      sym (laws.mul_add a S.zero S.zero) ∙ ap (S.mul a) (laws.add_zero S.zero) in
      let b = S.mul a S.zero in
      let here : S.add (S.add b b) (S.neg b) ≡ S.add b (S.neg b) = ap (λ x. S.add x (S.neg b)) twice in
      let there : S.add (S.add b b) (S.neg b) ≡ b =
      laws.add_assoc b b (S.neg b) ∙ ap (S.add b) (laws.add_neg b) ∙ laws.add_zero b in
      sym there ∙ here ∙ laws.add_neg b

  pub mul_neg : (a b : S.Elem) → S.mul a (S.neg b) ≡ S.neg (S.mul a b)
  mul_neg a b = neg_unique (S.mul a b) (S.mul a (S.neg b))
      (sym (laws.mul_add a b (S.neg b)) ∙ ap (S.mul a) (laws.add_neg b) ∙ mul_zero a)

  pub neg_zero : S.neg S.zero ≡ S.zero
  neg_zero = sym (neg_unique S.zero S.zero (laws.add_zero S.zero))

  pub minus_one_squared : S.mul (S.neg S.one) (S.neg S.one) ≡ S.one
  minus_one_squared = mul_neg (S.neg S.one) S.one ∙ ap S.neg (laws.mul_one (S.neg S.one)) ∙ neg_neg S.one

  pub neg_nonzero : (a : S.Elem) → ¬ (a ≡ S.zero) → ¬ (S.neg a ≡ S.zero)
  neg_nonzero a h e = h (sym (neg_neg a) ∙ ap S.neg e ∙ neg_zero)

  pub inv_unique : (a b : S.Elem) → ¬ (a ≡ S.zero) → S.mul a b ≡ S.one → b ≡ S.inv a
  inv_unique a b h e =
      let left : S.mul (S.inv a) (S.mul a b) ≡ b =
      rw (← laws.mul_assoc (S.inv a) a b, laws.mul_comm (S.inv a) a, laws.mul_inv a h) (one_mul b) in
      sym left ∙ ap (S.mul (S.inv a)) e ∙ laws.mul_one (S.inv a)

  pub inv_nonzero : (a : S.Elem) → ¬ (a ≡ S.zero) → ¬ (S.inv a ≡ S.zero)
  inv_nonzero a h e = laws.one_not_zero (sym (laws.mul_inv a h) ∙ ap (S.mul a) e ∙ mul_zero a)

  pub inv_inv : (a : S.Elem) → ¬ (a ≡ S.zero) → S.inv (S.inv a) ≡ a
  inv_inv a h = sym (inv_unique (S.inv a) a (inv_nonzero a h) (laws.mul_comm (S.inv a) a ∙ laws.mul_inv a h))

  pub inv_one : S.inv S.one ≡ S.one
  inv_one = sym (inv_unique S.one S.one laws.one_not_zero (laws.mul_one S.one))

  pub inv_minus_one : S.inv (S.neg S.one) ≡ S.neg S.one
  inv_minus_one = sym (inv_unique (S.neg S.one) (S.neg S.one) (neg_nonzero S.one laws.one_not_zero) minus_one_squared)

  pub inv_neg : (a : S.Elem) → ¬ (a ≡ S.zero) → S.inv (S.neg a) ≡ S.neg (S.inv a)
  inv_neg a h = sym (inv_unique (S.neg a) (S.neg (S.inv a)) (neg_nonzero a h)
      (mul_neg (S.neg a) (S.inv a) ∙ ap S.neg (laws.mul_comm (S.neg a) (S.inv a) ∙ mul_neg (S.inv a) a
      ∙ ap S.neg (laws.mul_comm (S.inv a) a ∙ laws.mul_inv a h)) ∙ neg_neg S.one))
