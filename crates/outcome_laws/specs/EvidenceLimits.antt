-- The limits of evidence: those of the texts in which it is written.
use Rattle.std.specs.Prelude.{◌≡◌, ◌≤◌, ◌<ℤ◌, ℕ, pos, length}
use Rattle.std.specs.List.{All}
use Rattle.coef_int.specs.Range.{IsCoefficient}
use Rattle.traced_rows.specs.declared.certificate.CertRow.{CertRow}
use Rattle.traced_rows.specs.declared.certificate.Certificate.{Certificate}
use Rattle.traced_rows.specs.declared.evidence.LemmaRow.{LemmaRow}
use Rattle.traced_rows.specs.declared.evidence.Lemma.{Lemma}
use Rattle.traced_rows.specs.declared.evidence.LemmaCertificate.{LemmaCertificate}
use Rattle.traced_rows.specs.declared.evidence.Evidence.{Evidence}
use Rattle.traced_rows.specs.declared.evidence.Evidence.TheVariants as evidence
use Rattle.traced_rows.specs.declared.evidence.Format.{Format}
use Rattle.cofactor_trace.specs.Expansion.{letter_count}
use Rattle.cofactor_trace.specs.Lemmas as gathering
use Rattle.cofactor_trace.specs.GatheringLaws.{parts_of, NamesWithin, NameEarlier}
use Rattle.adjoint_rules.specs.declared.problem.Problem.{Problem}
use Rattle.adjoint_rules.specs.Claims.{claim_at}
use Rattle.traced_completion.specs.declared.budget.Budget.{Budget}
use Rattle.traced_completion.specs.PlainRun.{setting_of}
use Rattle.claim_decider.specs.declared.outcome.Outcome.TheVariants as outcome
use Rattle.claim_decider.specs.Outcomes.{IsOutcomeOf}
use Rattle.nc_polynomial.specs.Limits.{word_limit}
use Rattle.cofactor_trace.specs.Limits.{row_limit, letter_limit}

-- The coefficient is in range, no word has more than 500 letters, and the row is over one of this many generators.
pub record IsRowWithin (generators : ℕ) (row : CertRow) : Type 0 where
  pub coefficient : IsCoefficient row.coef
  pub short_left : length row.left ≤ word_limit
  pub short_right : length row.right ≤ word_limit
  pub first : 1 ≤ row.generator
  pub last : row.generator ≤ generators

-- The claim is the one with this number. The denominator is positive and a coefficient. There are at most 200,000 rows, which
-- have at most 1,000,000 letters.
pub record IsCertificateWithin (generators number : ℕ) (c : Certificate) : Type 0 where
  pub claim : c.claim ≡ number
  pub positive : pos 0 <ℤ c.denominator
  pub denominator : IsCoefficient c.denominator
  pub rows : All (IsRowWithin generators) c.rows
  pub few : length c.rows ≤ row_limit
  pub letters : letter_count c.rows ≤ letter_limit

-- The coefficient is in range, and no word has more than 500 letters.
pub record IsLemmaRowWithin (row : LemmaRow) : Type 0 where
  pub coefficient : IsCoefficient row.coef
  pub short_left : length row.left ≤ word_limit
  pub short_right : length row.right ≤ word_limit

-- The scale is positive and a coefficient, and each row is within the limits.
pub record IsLemmaWithin (l : Lemma) : Type 0 where
  pub positive : pos 0 <ℤ l.scale
  pub scale : IsCoefficient l.scale
  pub rows : All IsLemmaRowWithin l.rows

-- The claim is the one with this number. The denominator is positive and a coefficient. Each lemma is over this many generators
-- and earlier lemmas, and the goal over generators and lemmas. There are at most 200,000 lemmas;
-- with the goal they have at most 200,000 rows, which have at most 1,000,000 letters.
pub record IsLemmaCertificateWithin (generators number : ℕ) (c : LemmaCertificate) : Type 0 where
  pub claim : c.claim ≡ number
  pub positive : pos 0 <ℤ c.denominator
  pub denominator : IsCoefficient c.denominator
  pub lemmas : All IsLemmaWithin c.lemmas
  pub goal : IsLemmaWithin c.goal
  pub earlier : NameEarlier generators 0 c.lemmas
  pub goal_names : NamesWithin generators (length c.lemmas) c.goal
  pub few_lemmas : length c.lemmas ≤ row_limit
  pub few_rows : gathering.row_count (parts_of c) ≤ row_limit
  pub letters : gathering.letter_count (parts_of c) ≤ letter_limit

-- The evidence is of the claim with this number, is over the generators of the problem, and is within the limits of its format.
abbrev pub IsWithinLimits : Problem → ℕ → Evidence → Type 0
IsWithinLimits problem number (evidence.Plain c) = IsCertificateWithin (length problem.generators) number c
IsWithinLimits problem number (evidence.Lemmas c) = IsLemmaCertificateWithin (length problem.generators) number c

-- So is the evidence of each derived claim.
abbrev pub EvidenceFits : Type 0
EvidenceFits = (problem : Problem) (budget : Budget) (form : Format) (number : ℕ) (e : Evidence)
    → IsOutcomeOf (setting_of problem budget) form number (claim_at problem number) (outcome.Derived e) → IsWithinLimits problem number e
