-- Fractions in lowest terms.
use Rattle.std.proofs.Common.{◌≡◌, ◌≢◌, ℕ, ◌*◌, ◌/◌, ◌<◌, zero, suc, refl, arith, subst, sym, ap, ap₂, ◌∙◌, ℤ, pos, negsuc, ◌+ℤ◌, ◌*ℤ◌, neg_ℤ, true, false}
use Rattle.std.proofs.Math.Bridge.{le_prop}
use Rattle.std.proofs.Math.IntN.{*ℤ_comm, zero-*ℤ, +ℤ_idr, +ℤ_invr}
use Rattle.std.proofs.Math.Nat.{mul-one, mul_comm, mul_assoc, dvd-mul_left, eq-one_of_dvd-one, mul-div_cancel', eq-zero_of_zero-dvd, ℕ_set, dvd_of_mul-dvd-mul_left, mul-dvd-mul_left}
use Rattle.std.proofs.lemmas.Int.{ints}
use Rattle.std.proofs.lemmas.Nat.Gcd.{dvd_antisymm, same_from_IsGcd}
use Rattle.std.specs.Int.{IsGcd}
use Rattle.std.specs.Int.RustNames.{unsigned_abs}
use Rattle.definitions.proofs.Integers.{+ℤ-*ℤ, *ℤ-+ℤ, *ℤ_assoc, *ℤ-neg_ℤ}
use Rattle.coef_int.proofs.Divisors.{gcd_of-IsGcd, gcd_of-scaled}
use Rattle.coef_int.specs.Divisor.{gcd_of}
use Rattle.confluence.proofs.Integers.{neg_ℤ-*ℤ, *ℤ_cancel}
use Rattle.confluence.proofs.Spans.{mul_swap}
use Rattle.normal_forms.specs.Fractions.{Fraction, IsLowest, is_zero, quotient, over as fraction_over, fraction_sum, fraction_product, fraction_negative, whole, part_of, fractions}
use Prim.Native.Nat.{◌∣◌}
use Rattle.normal_forms.proofs.Field.{Field, numbers_of}
use Rattle.normal_forms.proofs.Homomorphisms.{IsHomomorphism}

turn : (p q r : ℤ) → (p *ℤ q) *ℤ r ≡ (p *ℤ r) *ℤ q
turn p q r = *ℤ_assoc p q r ∙ ap (λ z. p *ℤ z) (*ℤ_comm q r) ∙ sym (*ℤ_assoc p r q)

-- what divides a product and has nothing in common with the one divides the other
divides_other : (a b c : ℕ) → IsGcd a b 1 → a ∣ b * c → a ∣ c
divides_other a b c apart divides =
    let g = unsigned_abs (gcd_of (pos a) (pos b)) in
    let one : g ≡ 1 = same_from_IsGcd a b g 1 (gcd_of-IsGcd (pos a) (pos b)) apart in
    subst (λ z. a ∣ z) (ap (λ z. c * z) one ∙ mul-one c) (gcd_of-scaled (pos a) (pos b) c a (dvd-mul_left a c) (subst (λ z. a ∣ z) (mul_comm b c) divides))

-- a fraction with the proof that it is in lowest terms
pub record Rational : Type 0 where
  pub top : ℤ
  pub bottom : ℕ
  pub lowest : IsLowest top bottom

lowest_same : {a : ℤ} {b : ℕ} (p q : IsLowest a b) → p ≡ q
lowest_same p q = λ i. record { positive = le_prop p.positive q.positive i; apart = λ d h j. ℕ_set d 1 (p.apart d h j) (q.apart d h j) i }

abbrev made : (a : ℤ) (b : ℕ) → IsLowest a b → Rational
made a b h = record { top = a; bottom = b; lowest = h }

pub rational_same : (x y : Rational) → x.top ≡ y.top → x.bottom ≡ y.bottom → x ≡ y
rational_same x y e f = go x.top y.top x.bottom y.bottom e f x.lowest y.lowest
  where
    go : (a c : ℤ) (b d : ℕ) → a ≡ c → b ≡ d → (p : IsLowest a b) (q : IsLowest c d) → made a b p ≡ made c d q
    go a c b d e f p = subst (λ z. (q : IsLowest z d) → made a b p ≡ made z d q) e
        (subst (λ z. (q : IsLowest a z) → made a b p ≡ made a z q) f (λ q. ap (made a b) (lowest_same p q)))

unsigned_abs-neg : (a : ℤ) → unsigned_abs (neg_ℤ a) ≡ unsigned_abs a
unsigned_abs-neg (pos zero) = refl
unsigned_abs-neg (pos (suc n)) = refl
unsigned_abs-neg (negsuc n) = refl

unsigned_abs-times : (a : ℤ) (n : ℕ) → unsigned_abs (a *ℤ pos n) ≡ unsigned_abs a * n
unsigned_abs-times (pos m) n = refl
unsigned_abs-times (negsuc m) n = ap unsigned_abs (neg_ℤ-*ℤ (pos (suc m)) (pos n)) ∙ unsigned_abs-neg (pos (suc m) *ℤ pos n)

quotient_back : (a : ℤ) (g : ℕ) → g ∣ unsigned_abs a → pos g *ℤ quotient a g ≡ a
quotient_back (pos n) g h = ap pos (mul-div_cancel' g h)
quotient_back (negsuc n) g h = *ℤ-neg_ℤ (pos g) (pos (suc n / g)) ∙ ap (λ z. neg_ℤ (pos z)) (mul-div_cancel' g h)

unsigned_abs-quotient : (a : ℤ) (g : ℕ) → unsigned_abs (quotient a g) ≡ unsigned_abs a / g
unsigned_abs-quotient (pos n) g = refl
unsigned_abs-quotient (negsuc n) g = unsigned_abs-neg (pos (suc n / g))

divisor_positive : (g : ℕ) {b : ℕ} → g ∣ b → 0 < b → 0 < g
divisor_positive zero {b} h p = absurd (omega (arith, (eq-zero_of_zero-dvd h)))
divisor_positive (suc g) h p = omega arith

factor_positive : (g m : ℕ) {b : ℕ} → g * m ≡ b → 0 < b → 0 < m
factor_positive g zero e p = omega (arith, e)
factor_positive g (suc m) e p = omega arith

quotient_lowest : (a : ℤ) {b : ℕ} (g : ℕ) → 0 < b → IsGcd (unsigned_abs a) b g → IsLowest (quotient a g) (b / g)
quotient_lowest a {b} g p h = record {
  positive = factor_positive g (b / g) (mul-div_cancel' g h.1) p;
  apart =
      λ d i j. eq-one_of_dvd-one (dvd_of_mul-dvd-mul_left d (divisor_positive g h.1 p) (subst (λ z. g * d ∣ z) (sym (omega arith))
      (h.2 (g * d) (subst (λ z. g * d ∣ z) (mul-div_cancel' g h.0) (mul-dvd-mul_left d g (subst (λ z. d ∣ z) (unsigned_abs-quotient a g) i)))
      (subst (λ z. g * d ∣ z) (mul-div_cancel' g h.1) (mul-dvd-mul_left d g j)))));
}

pub zero_in_lowest : IsLowest (pos 0) 1
zero_in_lowest = record { positive = omega arith; apart = λ d i j. eq-one_of_dvd-one j }

-- a over b, and zero over zero
pub over : ℤ → ℕ → Rational
over a zero = made (pos 0) 1 zero_in_lowest
over a (suc b) =
    let g = unsigned_abs (gcd_of a (pos (suc b))) in
    made (quotient a g) (suc b / g) (quotient_lowest a g (omega arith) (gcd_of-IsGcd a (pos (suc b))))

-- x is a over b
pub record Value (x : Rational) (a : ℤ) (b : ℕ) : Type 0 where
  pub positive : 0 < b
  pub cross : x.top *ℤ pos b ≡ a *ℤ pos x.bottom

pub over_value : (a : ℤ) (b : ℕ) → 0 < b → Value (over a b) a b
unfolding over
over_value a zero h = absurd (omega arith)
over_value a (suc b) h = from (unsigned_abs (gcd_of a (pos (suc b)))) (gcd_of-IsGcd a (pos (suc b)))
  where
    from : (g : ℕ) (divides : IsGcd (unsigned_abs a) (suc b) g)
        → Value (made (quotient a g) (suc b / g) (quotient_lowest a g (omega arith) divides)) a (suc b)
    from g divides = record {
      positive = omega arith;
      cross = ap (λ z. quotient a g *ℤ z) (ap pos (sym (mul-div_cancel' g divides.1))) ∙ mul_swap (quotient a g) (pos g) (pos (suc b / g))
          ∙ sym (*ℤ_assoc (pos g) (quotient a g) (pos (suc b / g))) ∙ ap (λ z. z *ℤ pos (suc b / g)) (quotient_back a g divides.0);
    }

pub self_value : (x : Rational) → Value x x.top x.bottom
self_value x = record { positive = x.lowest.positive; cross = refl }

cancel : {n : ℕ} (a b : ℤ) → 0 < n → a *ℤ pos n ≡ b *ℤ pos n → a ≡ b
cancel {n} a b h e = apart a b
    (*ℤ_cancel n (a +ℤ neg_ℤ b) h (*ℤ_comm (pos n) (a +ℤ neg_ℤ b) ∙ +ℤ-*ℤ a (neg_ℤ b) (pos n) ∙ ap₂ ◌+ℤ◌ e (neg_ℤ-*ℤ b (pos n)) ∙ +ℤ_invr (b *ℤ pos n)))
  where
    apart : (a b : ℤ) → a +ℤ neg_ℤ b ≡ pos 0 → a ≡ b
    apart a b h = omega (arith, ints)

lowest_gcd : (x : Rational) → IsGcd x.bottom (unsigned_abs x.top) 1
lowest_gcd x = subst (λ g. IsGcd x.bottom (unsigned_abs x.top) g) (x.lowest.apart g is_gcd.1 is_gcd.0) is_gcd
  where
    g : ℕ
    g = unsigned_abs (gcd_of (pos x.bottom) x.top)

    is_gcd : IsGcd x.bottom (unsigned_abs x.top) g
    is_gcd = gcd_of-IsGcd (pos x.bottom) x.top

pub cross_unique : (x y : Rational) → x.top *ℤ pos y.bottom ≡ y.top *ℤ pos x.bottom → x ≡ y
cross_unique x y e = rational_same x y tops bottoms
  where
    sizes : unsigned_abs x.top * y.bottom ≡ unsigned_abs y.top * x.bottom
    sizes = sym (unsigned_abs-times x.top y.bottom) ∙ ap unsigned_abs e ∙ unsigned_abs-times y.top x.bottom

    bottoms : x.bottom ≡ y.bottom
    bottoms = dvd_antisymm
        (divides_other x.bottom (unsigned_abs x.top) y.bottom (lowest_gcd x)
        (subst (λ z. x.bottom ∣ z) (sym sizes) (dvd-mul_left x.bottom (unsigned_abs y.top))))
        (divides_other y.bottom (unsigned_abs y.top) x.bottom (lowest_gcd y) (subst (λ z. y.bottom ∣ z) sizes (dvd-mul_left y.bottom (unsigned_abs x.top))))

    tops : x.top ≡ y.top
    tops = cancel x.top y.top y.lowest.positive (e ∙ ap (λ z. y.top *ℤ pos z) bottoms)

pub value_unique : {x y : Rational} {a : ℤ} {b : ℕ} → Value x a b → Value y a b → x ≡ y
value_unique {x} {y} {a} {b} v w = cross_unique x y (cancel _ _ v.positive
    (turn x.top (pos y.bottom) (pos b) ∙ ap (λ z. z *ℤ pos y.bottom) v.cross ∙ turn a (pos x.bottom) (pos y.bottom)
    ∙ ap (λ z. z *ℤ pos x.bottom) (sym w.cross) ∙ turn y.top (pos b) (pos x.bottom)))

pub value_change : {x : Rational} {a c : ℤ} {b d : ℕ} → a ≡ c → b ≡ d → Value x a b → Value x c d
value_change {x} {a} {d} e f v = subst (λ z. Value x z d) e (subst (λ z. Value x a z) f v)

-- enlarged
pub value_times : {x : Rational} {a : ℤ} {b n : ℕ} → 0 < n → Value x a b → Value x (a *ℤ pos n) (b * n)
value_times {x} {a} {b} {n} h v = record {
  positive = grind arith;
  cross = sym (*ℤ_assoc x.top (pos b) (pos n)) ∙ ap (λ z. z *ℤ pos n) v.cross
      ∙ *ℤ_assoc a (pos x.bottom) (pos n) ∙ ap (λ z. a *ℤ z) (*ℤ_comm (pos x.bottom) (pos n)) ∙ sym (*ℤ_assoc a (pos n) (pos x.bottom));
}

pub rational_plus : Rational → Rational → Rational
rational_plus x y = over (x.top *ℤ pos y.bottom +ℤ y.top *ℤ pos x.bottom) (x.bottom * y.bottom)

pub rational_times : Rational → Rational → Rational
rational_times x y = over (x.top *ℤ y.top) (x.bottom * y.bottom)

pub rational_minus : Rational → Rational
rational_minus x = made (neg_ℤ x.top) x.bottom
    (record { positive = x.lowest.positive; apart = λ d i j. x.lowest.apart d (subst (λ z. d ∣ z) (unsigned_abs-neg x.top) i) j })

swap4 : (a b c d : ℤ) → (a *ℤ b) *ℤ (c *ℤ d) ≡ (a *ℤ c) *ℤ (b *ℤ d)
swap4 a b c d = *ℤ_assoc a b (c *ℤ d) ∙ ap (λ z. a *ℤ z) (mul_swap b c d) ∙ sym (*ℤ_assoc a c (b *ℤ d))

pub carry : {x : Rational} {a : ℤ} (c : ℤ) {b : ℕ} (d : ℕ) → Value x a b → a *ℤ pos d ≡ c *ℤ pos b → x.top *ℤ pos d ≡ c *ℤ pos x.bottom
carry {x} {a} c {b} d v e = cancel _ _ v.positive
    (turn x.top (pos d) (pos b) ∙ ap (λ z. z *ℤ pos d) v.cross ∙ turn a (pos x.bottom) (pos d) ∙ ap (λ z. z *ℤ pos x.bottom) e
    ∙ turn c (pos b) (pos x.bottom))

pub plus_value : {x y : Rational} {a c : ℤ} {b d : ℕ} → Value x a b → Value y c d → Value (rational_plus x y) (a *ℤ pos d +ℤ c *ℤ pos b) (b * d)
unfolding rational_plus
plus_value {x} {y} {a} {c} {b} {d} v w = through
    (over_value (x.top *ℤ pos y.bottom +ℤ y.top *ℤ pos x.bottom) (x.bottom * y.bottom) (grind arith))
  where
    S : Rational
    S = over (x.top *ℤ pos y.bottom +ℤ y.top *ℤ pos x.bottom) (x.bottom * y.bottom)

    same : (x.top *ℤ pos y.bottom +ℤ y.top *ℤ pos x.bottom) *ℤ pos (b * d) ≡ (a *ℤ pos d +ℤ c *ℤ pos b) *ℤ pos (x.bottom * y.bottom)
    same = +ℤ-*ℤ (x.top *ℤ pos y.bottom) (y.top *ℤ pos x.bottom) (pos b *ℤ pos d) ∙ ap₂ ◌+ℤ◌ first second
        ∙ sym (+ℤ-*ℤ (a *ℤ pos d) (c *ℤ pos b) (pos x.bottom *ℤ pos y.bottom))
      where
        first : (x.top *ℤ pos y.bottom) *ℤ (pos b *ℤ pos d) ≡ (a *ℤ pos d) *ℤ (pos x.bottom *ℤ pos y.bottom)
        first = swap4 x.top (pos y.bottom) (pos b) (pos d) ∙ ap₂ (λ p q. p *ℤ q) v.cross (*ℤ_comm (pos y.bottom) (pos d))
            ∙ swap4 a (pos x.bottom) (pos d) (pos y.bottom)

        second : (y.top *ℤ pos x.bottom) *ℤ (pos b *ℤ pos d) ≡ (c *ℤ pos b) *ℤ (pos x.bottom *ℤ pos y.bottom)
        second = ap (λ z. (y.top *ℤ pos x.bottom) *ℤ z) (*ℤ_comm (pos b) (pos d)) ∙ swap4 y.top (pos x.bottom) (pos d) (pos b)
            ∙ ap₂ (λ p q. p *ℤ q) w.cross (*ℤ_comm (pos x.bottom) (pos b)) ∙ swap4 c (pos y.bottom) (pos b) (pos x.bottom)
            ∙ ap (λ z. (c *ℤ pos b) *ℤ z) (*ℤ_comm (pos y.bottom) (pos x.bottom))

    through : Value S (x.top *ℤ pos y.bottom +ℤ y.top *ℤ pos x.bottom) (x.bottom * y.bottom) → Value S (a *ℤ pos d +ℤ c *ℤ pos b) (b * d)
    through u = record {
      positive = grind arith;
      cross = carry (a *ℤ pos d +ℤ c *ℤ pos b) (b * d) u same;
    }

pub times_value : {x y : Rational} {a c : ℤ} {b d : ℕ} → Value x a b → Value y c d → Value (rational_times x y) (a *ℤ c) (b * d)
unfolding rational_times
times_value {x} {y} {a} {c} {b} {d} v w = record {
  positive = grind arith;
  cross = carry (a *ℤ c) (b * d) (over_value (x.top *ℤ y.top) (x.bottom * y.bottom) (grind arith))
      (swap4 x.top y.top (pos b) (pos d) ∙ ap₂ (λ p q. p *ℤ q) v.cross w.cross ∙ swap4 a (pos x.bottom) c (pos y.bottom));
}

pub minus_value : {x : Rational} {a : ℤ} {b : ℕ} → Value x a b → Value (rational_minus x) (neg_ℤ a) b
unfolding rational_minus
minus_value {x} {a} {b} v = record { positive = v.positive; cross = neg_ℤ-*ℤ x.top (pos b) ∙ ap neg_ℤ v.cross ∙ sym (neg_ℤ-*ℤ a (pos x.bottom)) }

pub rational_none : Rational
rational_none = made (pos 0) 1 zero_in_lowest

pub rational_int : ℤ → Rational
rational_int a = made a 1 (record { positive = omega arith; apart = λ d i j. eq-one_of_dvd-one j })

pub rational_part : ℕ → Rational
rational_part n = over (pos 1) n

is_zero_true : (a : ℤ) → is_zero a ≡ true → a ≡ pos 0
is_zero_true (pos zero) e = refl
is_zero_true (pos (suc n)) e = absurd (cc)
is_zero_true (negsuc n) e = absurd (cc)

times_one : (a : ℤ) → a *ℤ pos 1 ≡ a
times_one a = *ℤ_comm a (pos 1) ∙ omega (arith, ints)

int_value : (a : ℤ) → Value (rational_int a) a 1
unfolding rational_int
int_value a = self_value (rational_int a)

none_value : {n : ℕ} → 0 < n → Value rational_none (pos 0) n
unfolding rational_none
none_value {n} h = value_change (zero-*ℤ (pos n)) (omega arith) (value_times h (self_value rational_none))

part_value : {n : ℕ} → 0 < n → Value (rational_part n) (pos 1) n
unfolding rational_part
part_value {n} h = over_value (pos 1) n h

plus_assoc : (x y z : Rational) → rational_plus (rational_plus x y) z ≡ rational_plus x (rational_plus y z)
plus_assoc x y z = value_unique (plus_value (plus_value (self_value x) (self_value y)) (self_value z))
    (value_change (sym (tops x.top y.top z.top (pos x.bottom) (pos y.bottom) (pos z.bottom))) (sym (mul_assoc x.bottom y.bottom z.bottom))
    (plus_value (self_value x) (plus_value (self_value y) (self_value z))))
  where
    tops : (a b c d e f : ℤ) → (a *ℤ e +ℤ b *ℤ d) *ℤ f +ℤ c *ℤ (d *ℤ e) ≡ a *ℤ (e *ℤ f) +ℤ (b *ℤ f +ℤ c *ℤ e) *ℤ d
    tops a b c d e f = simp (+ℤ-*ℤ, *ℤ_assoc)
        (let p : b *ℤ (d *ℤ f) ≡ b *ℤ (f *ℤ d) = ap (λ z. b *ℤ z) (*ℤ_comm d f) in let q : c *ℤ (d *ℤ e) ≡ c *ℤ (e *ℤ d) =
        ap (λ z. c *ℤ z) (*ℤ_comm d e) in omega (arith, ints, p, q))

plus_comm : (x y : Rational) → rational_plus x y ≡ rational_plus y x
plus_comm x y = value_unique (plus_value (self_value x) (self_value y))
    (value_change (omega (arith, ints)) (mul_comm y.bottom x.bottom)
    (plus_value (self_value y) (self_value x)))

plus_none : (x : Rational) → rational_plus x rational_none ≡ x
plus_none x = value_unique (value_change (ap₂ ◌+ℤ◌ (times_one x.top) (zero-*ℤ (pos x.bottom)) ∙ +ℤ_idr x.top) (omega arith)
    (plus_value (self_value x) (none_value (omega arith)))) (self_value x)

plus_minus : (x : Rational) → rational_plus x (rational_minus x) ≡ rational_none
plus_minus x = value_unique (value_change
    (ap (λ z. x.top *ℤ pos x.bottom +ℤ z) (neg_ℤ-*ℤ x.top (pos x.bottom)) ∙ +ℤ_invr (x.top *ℤ pos x.bottom)) refl
    (plus_value (self_value x) (minus_value (self_value x)))) (none_value (grind arith))

times_assoc : (x y z : Rational) → rational_times (rational_times x y) z ≡ rational_times x (rational_times y z)
times_assoc x y z = value_unique (times_value (times_value (self_value x) (self_value y)) (self_value z))
    (value_change (sym (*ℤ_assoc x.top y.top z.top)) (sym (mul_assoc x.bottom y.bottom z.bottom))
    (times_value (self_value x) (times_value (self_value y) (self_value z))))

times_comm : (x y : Rational) → rational_times x y ≡ rational_times y x
times_comm x y = value_unique (times_value (self_value x) (self_value y))
    (value_change (*ℤ_comm y.top x.top) (mul_comm y.bottom x.bottom) (times_value (self_value y) (self_value x)))

one_times : (x : Rational) → rational_times (rational_int (pos 1)) x ≡ x
one_times x = value_unique (value_change (*ℤ_comm (pos 1) x.top ∙ times_one x.top) (omega arith)
    (times_value (int_value (pos 1)) (self_value x))) (self_value x)

times_plus : (x y z : Rational) → rational_times x (rational_plus y z) ≡ rational_plus (rational_times x y) (rational_times x z)
times_plus x y z = value_unique (value_change (tops x.top y.top z.top (pos x.bottom) (pos y.bottom) (pos z.bottom))
    (mul_assoc x.bottom (y.bottom * z.bottom) x.bottom ∙ ap (λ z. x.bottom * z) (mul_assoc y.bottom z.bottom x.bottom ∙ ap
    (λ z. y.bottom * z) (mul_comm z.bottom x.bottom)) ∙ sym (mul_assoc x.bottom y.bottom (x.bottom * z.bottom)))
    (value_times x.lowest.positive
    (times_value (self_value x) (plus_value (self_value y) (self_value z))))) (plus_value (times_value (self_value x) (self_value y))
    (times_value (self_value x) (self_value z)))
  where
    tops : (a b c d e f : ℤ) → (a *ℤ (b *ℤ f +ℤ c *ℤ e)) *ℤ d ≡ (a *ℤ b) *ℤ (d *ℤ f) +ℤ (a *ℤ c) *ℤ (d *ℤ e)
    tops a b c d e f = simp (*ℤ-+ℤ, +ℤ-*ℤ, *ℤ_assoc)
        (let p : a *ℤ (b *ℤ (f *ℤ d)) ≡ a *ℤ (b *ℤ (d *ℤ f)) = ap (λ z. a *ℤ (b *ℤ z)) (*ℤ_comm f d) in let q : a *ℤ (c *ℤ (e *ℤ d)) ≡ a *ℤ (c *ℤ (d *ℤ e)) =
        ap (λ z. a *ℤ (c *ℤ z)) (*ℤ_comm e d) in omega (arith, ints, p, q))

int_plus : (a b : ℤ) → rational_int (a +ℤ b) ≡ rational_plus (rational_int a) (rational_int b)
int_plus a b = value_unique (int_value (a +ℤ b)) (value_change (ap₂ ◌+ℤ◌ (times_one a) (times_one b)) refl
    (plus_value (int_value a) (int_value b)))

int_times : (a b : ℤ) → rational_int (a *ℤ b) ≡ rational_times (rational_int a) (rational_int b)
int_times a b = value_unique (int_value (a *ℤ b)) (times_value (int_value a) (int_value b))

int_only : (a : ℤ) → rational_int a ≡ rational_none → a ≡ pos 0
unfolding rational_int rational_none
int_only a e = ap (λ x. x.top) e

part_is : (n : ℕ) → 0 < n → rational_times (rational_int (pos n)) (rational_part n) ≡ rational_int (pos 1)
part_is n h = value_unique (times_value (int_value (pos n)) (part_value h))
    (value_change (*ℤ_comm (pos 1) (pos n)) refl (value_times h (int_value (pos 1))))

split : (x : Rational) → (a : ℤ) × (n : ℕ) × (0 < n) × (x ≡ rational_times (rational_int a) (rational_part n))
split x = (
  x.top,
  x.bottom,
  x.lowest.positive,
  value_unique (self_value x) (value_change (times_one x.top) (omega arith)
      (times_value (int_value x.top) (part_value x.lowest.positive))),
)

none_true : (x : Rational) → is_zero x.top ≡ true → x ≡ rational_none
none_true x e = value_unique (value_change (is_zero_true x.top e) refl (self_value x)) (none_value x.lowest.positive)

none_false : (x : Rational) → is_zero x.top ≡ false → x ≢ rational_none
unfolding rational_none
none_false x e h = cc (sym (ap (λ z. is_zero z.top) h) ∙ e)

pub rationals : Field Rational
rationals = record {
  none = rational_none;
  one = rational_int (pos 1);
  plus = rational_plus;
  minus = rational_minus;
  times = rational_times;
  int = rational_int;
  part = rational_part;
  is_none = λ x. is_zero x.top;
  plus_assoc = plus_assoc;
  plus_comm = plus_comm;
  plus_none = plus_none;
  plus_minus = plus_minus;
  times_assoc = times_assoc;
  times_comm = times_comm;
  one_times = one_times;
  times_plus = times_plus;
  int_one = refl;
  int_plus = int_plus;
  int_times = int_times;
  int_only = int_only;
  part_is = part_is;
  split = split;
  is_none_true = none_true;
  is_none_false = none_false;
}

pub none_test : (x : Rational) → rationals.is_none x ≡ is_zero x.top
unfolding rationals
none_test x = refl

-- the fraction alone
abbrev pub raw : Rational → Fraction
raw x = record { top = x.top; bottom = x.bottom }

pub none_is_none : rationals.is_none rationals.none ≡ true
unfolding rationals rational_none
none_is_none = refl

pub raw-none : raw rationals.none ≡ whole (pos 0)
unfolding rationals rational_none whole
raw-none = refl

raw-over : (a : ℤ) (b : ℕ) → raw (over a b) ≡ fraction_over a b
unfolding over fraction_over
raw-over a zero = refl
raw-over a (suc b) = refl

raw-plus : (x y : Rational) → raw (rational_plus x y) ≡ fraction_sum (raw x) (raw y)
unfolding rational_plus fraction_sum
raw-plus x y = raw-over (x.top *ℤ pos y.bottom +ℤ y.top *ℤ pos x.bottom) (x.bottom * y.bottom)

raw-times : (x y : Rational) → raw (rational_times x y) ≡ fraction_product (raw x) (raw y)
unfolding rational_times fraction_product
raw-times x y = raw-over (x.top *ℤ y.top) (x.bottom * y.bottom)

raw-minus : (x : Rational) → raw (rational_minus x) ≡ fraction_negative (raw x)
unfolding rational_minus fraction_negative
raw-minus x = refl

raw-int : (a : ℤ) → raw (rational_int a) ≡ whole a
unfolding rational_int whole
raw-int a = refl

raw-part : (n : ℕ) → raw (rational_part n) ≡ part_of n
unfolding rational_part part_of
raw-part n = raw-over (pos 1) n

pub raw_is_homomorphism : IsHomomorphism (numbers_of rationals) fractions raw
unfolding rationals
raw_is_homomorphism =
    record { one = raw-int (pos 1); plus = raw-plus; minus = raw-minus; times = raw-times; int = raw-int; part = raw-part; is_none = λ x. refl }

-- and read again
abbrev pub read : Fraction → Rational
read x = over x.top x.bottom

pub read_raw : (x : Rational) → read (raw x) ≡ x
read_raw x = value_unique (over_value x.top x.bottom x.lowest.positive) (self_value x)

pub raw_read : (x : Fraction) → IsLowest x.top x.bottom → raw (read x) ≡ x
raw_read x lowest = ap raw (read_raw (record { top = x.top; bottom = x.bottom; lowest = lowest }))
