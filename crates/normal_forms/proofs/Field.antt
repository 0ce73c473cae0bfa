-- Fields that the integers are in, each of whose numbers is an integer over a positive one.
use Rattle.std.proofs.Common.{◌≡◌, ◌≢◌, ℕ, ◌<◌, ℤ, pos, ◌+ℤ◌, ◌*ℤ◌, Bool, true, false}
use Rattle.normal_forms.specs.Numbers.{Numbers}

pub record Field (K : Type 0) : Type 0 where
  pub none : K
  pub one : K
  pub plus : K → K → K
  pub minus : K → K
  pub times : K → K → K
  -- the integer as a number of the field, and 1 over a positive one
  pub int : ℤ → K
  pub part : ℕ → K
  pub is_none : K → Bool
  pub plus_assoc : (a b c : K) → plus (plus a b) c ≡ plus a (plus b c)
  pub plus_comm : (a b : K) → plus a b ≡ plus b a
  pub plus_none : (a : K) → plus a none ≡ a
  pub plus_minus : (a : K) → plus a (minus a) ≡ none
  pub times_assoc : (a b c : K) → times (times a b) c ≡ times a (times b c)
  pub times_comm : (a b : K) → times a b ≡ times b a
  pub one_times : (a : K) → times one a ≡ a
  pub times_plus : (a b c : K) → times a (plus b c) ≡ plus (times a b) (times a c)
  pub int_one : int (pos 1) ≡ one
  pub int_plus : (a b : ℤ) → int (a +ℤ b) ≡ plus (int a) (int b)
  pub int_times : (a b : ℤ) → int (a *ℤ b) ≡ times (int a) (int b)
  pub int_only : (a : ℤ) → int a ≡ none → a ≡ pos 0
  pub part_is : (n : ℕ) → 0 < n → times (int (pos n)) (part n) ≡ one
  pub split : (x : K) → (a : ℤ) × (n : ℕ) × (0 < n) × (x ≡ times (int a) (part n))
  pub is_none_true : (x : K) → is_none x ≡ true → x ≡ none
  pub is_none_false : (x : K) → is_none x ≡ false → x ≢ none

-- its operations
abbrev pub numbers_of : {K : Type 0} → Field K → Numbers K
numbers_of k = record { none = k.none; one = k.one; plus = k.plus; minus = k.minus; times = k.times; int = k.int; part = k.part; is_none = k.is_none }
