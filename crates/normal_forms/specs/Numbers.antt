-- The numbers beside the words of normal forms.
use Rattle.std.specs.Prelude.{ℕ, ℤ, Bool}

-- The operations of a field: it has each integer, and 1 over each positive number.
pub record Numbers (K : Type 0) : Type 0 where
  pub none : K
  pub one : K
  pub plus : K → K → K
  pub minus : K → K
  pub times : K → K → K
  pub int : ℤ → K
  pub part : ℕ → K
  pub is_none : K → Bool
