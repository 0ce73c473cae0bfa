-- What follows from the laws of a field.
use Rattle.std.proofs.Common.{◌≡◌, ℕ, ◌<◌, sym, ap, ap₂, ◌∙◌, ℤ, pos, ◌+ℤ◌, neg_ℤ, arith}
use Rattle.std.proofs.Math.IntN.{+ℤ_invr}
use Rattle.std.proofs.lemmas.Int.{ints}
use Rattle.normal_forms.proofs.Field.{Field}

module _ {K : Type 0} (k : Field K) where
  pub none_plus : (a : K) → k.plus k.none a ≡ a
  none_plus a = k.plus_comm k.none a ∙ k.plus_none a

  pub times_one : (a : K) → k.times a k.one ≡ a
  times_one a = k.times_comm a k.one ∙ k.one_times a

  pub plus_times : (a b c : K) → k.times (k.plus a b) c ≡ k.plus (k.times a c) (k.times b c)
  plus_times a b c = k.times_comm (k.plus a b) c ∙ k.times_plus c a b ∙ ap₂ k.plus (k.times_comm c a) (k.times_comm c b)

  pub minus_plus : (a b : K) → k.plus (k.minus a) (k.plus a b) ≡ b
  minus_plus a b = sym (k.plus_assoc (k.minus a) a b) ∙ ap (λ z. k.plus z b) (k.plus_comm (k.minus a) a ∙ k.plus_minus a) ∙ none_plus b

  pub plus_cancel : (a b c : K) → k.plus a b ≡ k.plus a c → b ≡ c
  plus_cancel a b c e = sym (minus_plus a b) ∙ ap (λ z. k.plus (k.minus a) z) e ∙ minus_plus a c

  pub times_none : (a : K) → k.times a k.none ≡ k.none
  times_none a = plus_cancel (k.times a k.none) (k.times a k.none) k.none
      (sym (k.times_plus a k.none k.none) ∙ ap (λ z. k.times a z) (k.plus_none k.none) ∙ sym (k.plus_none (k.times a k.none)))

  pub none_times : (a : K) → k.times k.none a ≡ k.none
  none_times a = k.times_comm k.none a ∙ times_none a

  pub minus_unique : (a b : K) → k.plus a b ≡ k.none → b ≡ k.minus a
  minus_unique a b e = plus_cancel a b (k.minus a) (e ∙ sym (k.plus_minus a))

  pub minus_times : (a b : K) → k.times (k.minus a) b ≡ k.minus (k.times a b)
  minus_times a b = minus_unique (k.times a b) (k.times (k.minus a) b)
      (sym (plus_times a (k.minus a) b) ∙ ap (λ z. k.times z b) (k.plus_minus a) ∙ none_times b)

  pub times_minus : (a b : K) → k.times a (k.minus b) ≡ k.minus (k.times a b)
  times_minus a b = k.times_comm a (k.minus b) ∙ minus_times b a ∙ ap k.minus (k.times_comm b a)

  pub minus_one : (a : K) → k.times (k.minus k.one) a ≡ k.minus a
  minus_one a = minus_times k.one a ∙ ap k.minus (k.one_times a)

  pub middle : (a b c d : K) → k.plus (k.plus a b) (k.plus c d) ≡ k.plus (k.plus a c) (k.plus b d)
  middle a b c d = k.plus_assoc a b (k.plus c d) ∙ ap (λ z. k.plus a z)
      (sym (k.plus_assoc b c d) ∙ ap (λ z. k.plus z d) (k.plus_comm b c) ∙ k.plus_assoc c b d) ∙ sym (k.plus_assoc a c (k.plus b d))

  pub plus_swap : (a b c : K) → k.plus a (k.plus b c) ≡ k.plus b (k.plus a c)
  plus_swap a b c = sym (k.plus_assoc a b c) ∙ ap (λ z. k.plus z c) (k.plus_comm a b) ∙ k.plus_assoc b a c

  pub times_swap : (a b c : K) → k.times a (k.times b c) ≡ k.times b (k.times a c)
  times_swap a b c = sym (k.times_assoc a b c) ∙ ap (λ z. k.times z c) (k.times_comm a b) ∙ k.times_assoc b a c

  pub int_none : k.int (pos 0) ≡ k.none
  int_none = plus_cancel (k.int (pos 0)) (k.int (pos 0)) k.none (sym (k.int_plus (pos 0) (pos 0)) ∙ sym (k.plus_none (k.int (pos 0))))

  -- a positive integer cancels
  part_times : {n : ℕ} (a : K) → 0 < n → a ≡ k.times (k.part n) (k.times (k.int (pos n)) a)
  part_times {n} a h = sym (k.one_times a) ∙ ap (λ z. k.times z a) (sym (k.part_is n h) ∙ k.times_comm (k.int (pos n)) (k.part n))
      ∙ k.times_assoc (k.part n) (k.int (pos n)) a

  pub part_cancel : {n : ℕ} {a b : K} → 0 < n → k.times (k.int (pos n)) a ≡ k.times (k.int (pos n)) b → a ≡ b
  part_cancel {n} {a} {b} h e = part_times a h ∙ ap (k.times (k.part n)) e ∙ sym (part_times b h)

  pub int_cancel : {n : ℕ} (a : K) → 0 < n → k.times (k.int (pos n)) a ≡ k.none → a ≡ k.none
  int_cancel {n} a h e = part_cancel h (e ∙ sym (times_none (k.int (pos n))))

  pub int_same : (a b : ℤ) → k.int a ≡ k.int b → a ≡ b
  int_same a b e = let z : a +ℤ neg_ℤ b ≡ pos 0 = k.int_only (a +ℤ neg_ℤ b) (k.int_plus a (neg_ℤ b) ∙ ap (λ z. k.plus z (k.int (neg_ℤ b))) e
      ∙ sym (k.int_plus b (neg_ℤ b)) ∙ ap k.int (+ℤ_invr b) ∙ int_none) in omega (arith, ints, z)

  -- two differ by nothing
  pub equal_from_rest : (a b : K) → k.plus a (k.minus b) ≡ k.none → a ≡ b
  equal_from_rest a b e = sym (k.plus_none a) ∙ ap (λ z. k.plus a z) (sym (k.plus_comm (k.minus b) b ∙ k.plus_minus b)) ∙ sym (k.plus_assoc a (k.minus b) b)
      ∙ ap (λ z. k.plus z b) e ∙ none_plus b
