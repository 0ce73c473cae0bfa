-- Reductions as the code has them.
use Rattle.std.specs.Prelude.{◌≡◌, ◌<◌, ℕ, List, length, Result, Ok, IfOk, MatchResult}
use Rattle.std.specs.List.{All}
use Rattle.coef_int.specs.Range.{IsCoefficient}
use Rattle.word_core.specs.Letters.{IsOver}
use Rattle.word_orders.specs.Admissible.{Compare}
use Rattle.nc_polynomial.specs.declared.poly.Poly.{Poly}
use Rattle.rule_reduce.specs.declared.fault.ReduceFault.{ReduceFault}
use Rattle.rule_reduce.specs.declared.rule.Rule.{Rule}
use Rattle.rule_reduce.specs.declared.rules.Reduced.{Reduced}
use Rattle.rule_reduce.specs.declared.state.State.{State}
use Rattle.traced_completion.specs.declared.first_reductions.First.{First as Kept}
use Rattle.ambiguities.specs.declared.ambiguity.Ambiguity.{Ambiguity}
use Rattle.traced_completion.specs.Results.{Explains}
use Rattle.rule_making.specs.Records.{AreRows}
use Rattle.traced_completion.specs.Works.{First, first_of}

-- with the rest as a list
abbrev pub plain : Reduced → State
plain r = record { multiplier = r.multiplier; rest = r.rest.terms; rows = r.rows; used = r.used }

abbrev pub plain_first : Kept → First
plain_first f = record { rows = f.rows; reduced = plain f.reduced }

-- The multiplier and the rows are in range; no word of the rest is empty, and all letters are below a number
pub record IsKept (letters count : ℕ) (s : State) : Type 0 where
  pub multiplier : IsCoefficient s.multiplier
  pub rows : AreRows count s.rows
  pub nonempty : All (λ t. 0 < length t.1) s.rest
  pub over : All (λ t. IsOver letters t.1) s.rest

pub record IsKeptFirst (letters count : ℕ) (f : First) : Type 0 where
  pub rows : AreRows count f.rows
  pub reduced : IsKept letters count f.reduced

-- no word of the polynomial is empty, and all letters are below a number
pub record IsReducible (letters : ℕ) (p : Poly) : Type 0 where
  pub nonempty : All (λ t. 0 < length t.1) p.terms
  pub over : All (λ t. IsOver letters t.1) p.terms

-- the first reduction of the ambiguity, or its fault
pub record IsAnswer (letters : ℕ) (compare : Compare) (steps : ℕ) (rules : List Rule) (which : Ambiguity) (answer : Result Kept ReduceFault) : Type 0 where
  pub exact : MatchResult answer (λ f. first_of compare steps rules which ≡ Ok (plain_first f)) (Explains (first_of compare steps rules which))
  pub kept : IfOk answer (λ f. IsKeptFirst letters (length rules) (plain_first f))
