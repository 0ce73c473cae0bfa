-- How many pairs are enough for a claim that follows below a word.
use Rattle.std.specs.Prelude.{◌≡◌, ◌≢◌, ℕ, suc, ◌*◌, ◌<◌, ◌≤◌, List, length, filter, ⊤}
use Rattle.std.specs.List.{AllZip, range_with_len}
use Rattle.word_orders.specs.declared.any.OrderSpec.TheVariants as asked
use Rattle.quiver.specs.Declarations.{letter_count}
use Rattle.traced_rows.specs.declared.evidence.Format.{Format}
use Rattle.cofactor_trace.specs.declared.halt.Cause.TheVariants as cause
use Rattle.adjoint_rules.specs.declared.problem.Problem.{Problem}
use Rattle.adjoint_rules.specs.Problem.{numbers, is_in_play}
use Rattle.adjoint_rules.specs.Claims.{claim_at}
use Rattle.traced_completion.specs.Limits.{round_limit}
use Rattle.traced_completion.specs.declared.budget.Budget.{Budget}
use Rattle.traced_completion.specs.PlainRun.{RunState, setting_of}
use Rattle.claim_decider.specs.declared.outcome.Outcome.{Outcome}
use Rattle.claim_decider.specs.declared.outcome.Outcome.TheVariants as outcome
use Rattle.claim_decider.specs.Outcomes.{IsOpen}
use Rattle.claim_decider.specs.Decided.{AreOutcomesOf}
use Rattle.outcome_laws.specs.Meanings.{IsOutcomeAt}
use Rattle.outcome_laws.specs.Halts.{FollowsBelow}
use Rattle.outcome_laws.specs.Counts.{short_ambiguities}

-- the letters that are in play, ascending
abbrev pub letters_in_play : Problem → List ℕ
letters_in_play problem = filter (is_in_play problem.parts.quiver problem.parts.starred (numbers problem.parts.marked))
    (range_with_len 0 (letter_count problem.parts.quiver))

-- A round treats at most as many ambiguities as its limit, and while a claim that follows below the word is open, at least one of them has an
-- overlap word below it. In the canonical order that has at most as many letters as the word.
abbrev pub enough_pairs : Problem → List ℕ → ℕ
enough_pairs problem word = round_limit * short_ambiguities (length (letters_in_play problem)) (length word)

-- The order is the canonical one, and some positive multiple of the claim with this number is a combination of the
-- generators in which all words are below the word.
pub record IsShownBelow (problem : Problem) (number : ℕ) (word : List ℕ) : Type 0 where
  pub order : problem.parts.order ≡ asked.Degree
  pub follows : FollowsBelow problem word number

-- and the budget has enough pairs for the word
pub record HasEnough (problem : Problem) (budget : Budget) (number : ℕ) (word : List ℕ) : Type 0 where
  pub shown : IsShownBelow problem number word
  pub enough : enough_pairs problem word ≤ budget.pairs

-- The claim is derived, or halted with another cause than that the budget of pairs was used up.
abbrev pub PairsSuffice : Outcome → Type 0
PairsSuffice (outcome.Derived e) = ⊤
PairsSuffice (outcome.Closed rest) = ⊥
PairsSuffice (outcome.Halted h) = (spent : ℕ) → h.cause ≢ cause.Pairs spent

-- After a whole round that leaves a rest of such a claim, fewer pairs were treated than are enough for the word.
abbrev pub OpenRunsTreatFew : Type 0
OpenRunsTreatFew = (problem : Problem) (budget : Budget) (number : ℕ) (word : List ℕ) (rounds : ℕ) (s : RunState)
    → IsShownBelow problem number word → IsOpen (setting_of problem budget) (claim_at problem number) (suc rounds) s
    → length s.treated < enough_pairs problem word

-- With enough pairs for the word, pairs suffice for such a claim.
abbrev pub PairsAreEnough : Type 0
PairsAreEnough = (problem : Problem) (budget : Budget) (form : Format) (number : ℕ) (word : List ℕ) (o : Outcome)
    → HasEnough problem budget number word → IsOutcomeAt problem budget form number o → PairsSuffice o

-- The same for each of several such claims. `decide_all` ensures the premise in `outcomes`, with the numbers of all claims, and
-- `decide` in `outcome`, with one.
abbrev pub PairsAreEnoughForEach : Type 0
PairsAreEnoughForEach = (problem : Problem) (budget : Budget) (form : Format) (claims : List ℕ) (outcomes : List Outcome)
    → AreOutcomesOf (setting_of problem budget) form problem claims outcomes
    → AllZip (λ number o. (word : List ℕ) → HasEnough problem budget number word → PairsSuffice o) claims outcomes
