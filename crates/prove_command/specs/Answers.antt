-- What `prove` and `bench` answer over the problem of a statement.
use Rattle.std.specs.Prelude.{◌≡◌, ◌==◌, ℕ, true, false, List, [], ◌∷◌, if◌then◌else◌, ⊤}
use Rattle.nc_polynomial.specs.declared.poly.Poly.{Poly}
use Rattle.quiver.specs.Declarations.{Declaration}
use Rattle.traced_rows.specs.declared.evidence.Evidence.{Evidence}
use Rattle.cofactor_trace.specs.declared.halt.Halt.{Halt}
use Rattle.traced_rows.specs.declared.evidence.Format.{Format}
use Rattle.traced_rows.specs.declared.evidence.Format.TheVariants as format
use Rattle.matrix_models.specs.declared.model.Model.{Model}
use Rattle.adjoint_rules.specs.declared.problem.Problem.{Problem}
use Rattle.adjoint_rules.specs.Claims.{claim_numbers}
use Rattle.traced_completion.specs.PlainRun.{setting_of}
use Rattle.claim_decider.specs.declared.outcome.Outcome.{Outcome}
use Rattle.claim_decider.specs.declared.outcome.Outcome.TheVariants as outcome
use Rattle.claim_decider.specs.Decided.{AreOutcomesOf, AreLastRules}
use Rattle.model_candidates.specs.Candidates.{NoneBreaks}
use Rattle.model_search.specs.LeastBreaking.{LeastBreaks}
use Rattle.report_text.specs.declared.verdict.Verdict.{Verdict}
use Rattle.report_text.specs.declared.verdict.Verdict.TheVariants as verdict
use Rattle.report_text.specs.Report.{report_of, heads_of, status_of}
use Rattle.command_shape.specs.Limits.{default_pairs, default_steps, default_seed, default_format}
use Rattle.command_shape.specs.declared.call.ProveCall.{ProveCall}
use Rattle.prove_command.specs.declared.prove.Asked.{Asked}
use Rattle.prove_command.specs.declared.prove.Extent.{Extent}
use Rattle.prove_command.specs.declared.prove.Extent.TheVariants as extent
use Rattle.command_shape.specs.Ending.{Ending}

-- the format with this number
abbrev pub format_of : ℕ → Format
format_of number = if number == 1 then format.Plain else format.Lemmas

abbrev pub asked_by : ProveCall → Asked
asked_by p = record { budget = record { pairs = p.pairs; steps = p.steps }; form = format_of p.format; seed = p.seed; models = p.models }

-- what `bench` asks for: the same as `prove` with no option but `--no-models`
abbrev pub asked_by_bench : Asked
asked_by_bench = record {
  budget = record { pairs = default_pairs; steps = default_steps };
  form = format_of default_format;
  seed = default_seed;
  models = false;
}

-- The verdict on the claim with this number by its outcome. One that halted is refuted by the least candidate that breaks it, where models are
-- searched and there is one.
pub data IsVerdictOn (problem : Problem) (asked : Asked) (claim : ℕ) (o : Outcome) (v : Verdict) : Type 0 where
  proved : (e : Evidence) → o ≡ outcome.Derived e → v ≡ verdict.Proved e → IsVerdictOn problem asked claim o v
  not_derivable : (rest : Poly) → o ≡ outcome.Closed rest → v ≡ verdict.NotDerivable rest → IsVerdictOn problem asked claim o v
  refuted : (halt : Halt) (m : Model) → o ≡ outcome.Halted halt → asked.models ≡ true → LeastBreaks problem claim asked.seed m → v ≡ verdict.Refuted m
      → IsVerdictOn problem asked claim o v
  undecided : (halt : Halt) → o ≡ outcome.Halted halt → (asked.models ≡ true → NoneBreaks problem claim asked.seed) → v ≡ verdict.Undecided halt
      → IsVerdictOn problem asked claim o v

-- one verdict on each claim by its outcome, in order
abbrev pub AreVerdictsOn : Problem → Asked → List ℕ → List Outcome → List Verdict → Type 0
AreVerdictsOn problem asked [] [] [] = ⊤
AreVerdictsOn problem asked [] [] (v ∷ verdicts) = ⊥
AreVerdictsOn problem asked [] (o ∷ outcomes) verdicts = ⊥
AreVerdictsOn problem asked (claim ∷ claims) [] verdicts = ⊥
AreVerdictsOn problem asked (claim ∷ claims) (o ∷ outcomes) [] = ⊥
AreVerdictsOn problem asked (claim ∷ claims) (o ∷ outcomes) (v ∷ verdicts) = IsVerdictOn problem asked claim o v
    × AreVerdictsOn problem asked claims outcomes verdicts

-- The claims of the problem have outcomes with these verdicts, and these are the last rules.
pub record Decides (problem : Problem) (asked : Asked) (verdicts : List Verdict) (rules : List Poly) : Type 0 where
  pub outcomes : List Outcome
  pub are_outcomes : AreOutcomesOf (setting_of problem asked.budget) asked.form problem (claim_numbers problem) outcomes
  pub are_verdicts : AreVerdictsOn problem asked (claim_numbers problem) outcomes verdicts
  pub are_rules : AreLastRules (setting_of problem asked.budget) asked.form problem (claim_numbers problem) rules

-- the text of verdicts and rules, where letters have their names by declarations
abbrev pub Print : Type 0
Print = List Declaration → List Poly → List Verdict → List ℕ

-- the whole report, or only the head lines
abbrev pub print_of : Extent → Print
print_of extent.Report = report_of
print_of extent.Heads = heads_of

-- The verdicts on the claims of the problem are printed, and the status is theirs.
pub record AnswersClaims (print : Print) (asked : Asked) (problem : Problem) (ending : Ending) : Type 0 where
  pub verdicts : List Verdict
  pub rules : List Poly
  pub decides : Decides problem asked verdicts rules
  pub says : ending ≡ record { status = status_of verdicts; report = print problem.parts.quiver rules verdicts }
