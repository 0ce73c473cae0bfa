-- What is put of verdicts means what it says.
use Rattle.command_runs.proofs.Prelude.{◌≡◌, ◌<◌, ◌≤◌, ◌+◌, ◌≢◌, ℕ, true, List, ◌∷◌, ◌++◌, arith, refl, sym, ap, subst, ◌∙◌, length, drop, get_or, codes, IsTrue, decimal, signed_decimal, list_all, decimal_injective, append_assoc, Structure, denominator_of, Evidence, Poly, Declaration, Problem, Budget, Model, model_text, is_named, ProvedMeans, RefutedMeans, SaysEquations, claim_there, Verdict, row_count, said_of, IsStated, VerdictMeans, positive_denominator, HasLineBefore, claim_line, block_line, number_limit, IsProved, SaysProved, IsRefuted, IsNext, IsNotDerivable, IsSharp, IsUndecided, LinesAreMeant, lacks, LineAt}
use Rattle.report_text.specs.declared.verdict.Verdict.TheVariants as verdict
use Rattle.command_runs.proofs.PromisedFiles.{has_no_fault}
use Rattle.command_runs.proofs.PromisedGenerators.{is_not_derivable}
use Rattle.command_runs.proofs.ReportLines.{at_start, claim_said, IsOfVerdict}

-- the text of a verdict begins with a blank
abbrev told_of : List Declaration → ℕ → Verdict → List ℕ
told_of ds rules v = drop 1 (said_of ds rules v)

said_is : (ds : List Declaration) (rules : ℕ) (v : Verdict) → said_of ds rules v ≡ 32 ∷ told_of ds rules v
said_is ds rules (verdict.Proved e) = refl
said_is ds rules (verdict.NotDerivable rest) = refl
said_is ds rules (verdict.Refuted m) = refl
said_is ds rules (verdict.Undecided h) = refl
said_is ds rules (verdict.NotRefuted candidates) = refl

-- characters at one place of two texts
pub differ : (place m n : ℕ) (one other : List ℕ) → one ≡ other → get_or one place 0 ≡ m → get_or other place 0 ≡ n → m ≢ n → ⊥
differ place m n one other same first second apart = apart (sym first ∙ ap (λ (t : List ℕ). get_or t place 0) same ∙ second)

module _ {Object Arrow : Type 0} {s : Structure Object Arrow} (equations : SaysEquations s) (budget : Budget) (bytes : List ℕ) (problem : Problem) (stated : IsStated bytes problem) where
  -- a claim that is proved by this denominator, and one that a model refutes
  pub is_proved : (number : ℕ) (e : Evidence) → 1 ≤ number → number ≤ length problem.parts.claims → ProvedMeans s problem number e → IsProved s bytes number (denominator_of e)
  is_proved number e least most means =
      let there = claim_there stated.statements problem number stated.elaborated least most in
      record {
        statements = stated.statements;
        file = has_no_fault bytes problem stated;
        claim = there.0;
        is_claim = there.1;
        positive = positive_denominator problem number e means.sum;
        proves = equations.proved stated.statements problem number (denominator_of e) stated.elaborated means.means;
      }

  pub is_refuted : (number : ℕ) (m : Model) (IsShown : List Declaration → Model → Type 0) → 1 ≤ number → number ≤ length problem.parts.claims → RefutedMeans problem number m → IsShown problem.parts.quiver m
      → IsRefuted bytes number IsShown
  is_refuted number m IsShown least most means shown =
      let there = claim_there stated.statements problem number stated.elaborated least most in
      record {
        statements = stated.statements;
        file = has_no_fault bytes problem stated;
        claim = there.0;
        is_claim = there.1;
        model = m;
        shown = subst (λ ds. IsShown ds m) stated.elaborated.parts.quiver shown;
        refutes = equations.refuted stated.statements problem number m stated.elaborated means;
      }

  module _ (P : ℕ → Verdict → Type 0) (means : (claim : ℕ) (v : Verdict) → P claim v → VerdictMeans s problem budget claim v)
      (sharp : (claim : ℕ) (rest : Poly) → P claim (verdict.NotDerivable rest) → IsSharp bytes claim) (shown : ℕ → Verdict → List ℕ)
      (models : (claim : ℕ) (m : Model) → P claim (verdict.Refuted m) → shown claim (verdict.Refuted m) ≡ model_text problem.parts.quiver m)
      (known : IsTrue (list_all is_named problem.parts.quiver)) (rules : ℕ) (put : List ℕ)
      (find : (l after : List ℕ) → lacks 10 (35 ∷ l) ≡ true → LineAt true put (35 ∷ l) after
      → IsOfVerdict problem.parts.quiver known P rules 1 (1 + length problem.parts.claims) shown (35 ∷ l) after) where
    -- the verdict on the claim with the number, of which this is said
    record Found (number : ℕ) (said after : List ℕ) : Type 0 where
      verdict : Verdict
      holds : P number verdict
      least : 1 ≤ number
      most : number ≤ length problem.parts.claims
      says : said ≡ told_of problem.parts.quiver rules verdict
      rest : List ℕ
      then : after ≡ shown number verdict ++ rest

    found : (number : ℕ) (said after : List ℕ) → number < number_limit → HasLineBefore put (claim_line number said) after → Found number said after
    found number said after below has =
        let of = find _ after has.one (at_start put (claim_line number said) after has) in
        let both = claim_said number of.claim said (told_of problem.parts.quiver rules of.verdict) (of.says ∙ ap (λ t. codes "# claim " ++ decimal of.claim ++ t) (said_is problem.parts.quiver rules of.verdict)) in
        let few = problem.posed.few_claims in
        let same : of.claim ≡ number = sym (decimal_injective number of.claim below (omega (arith, of.below, few)) both.0) in
        record {
          verdict = of.verdict;
          holds = subst (λ (n : ℕ). P n of.verdict) same of.holds;
          least = omega (arith, of.least, same);
          most = omega (arith, of.below, same);
          says = both.1;
          rest = of.rest;
          then = of.then ∙ ap (λ n. shown n of.verdict ++ of.rest) same;
        }

    -- proved
    proved_by : (number : ℕ) (text : List ℕ) (v : Verdict) → P number v → 1 ≤ number → number ≤ length problem.parts.claims
        → codes "proved " ++ text ≡ told_of problem.parts.quiver rules v → SaysProved s bytes number text
    proved_by number text (verdict.Proved e) holds least most says = record {
      d = denominator_of e;
      rows = row_count e;
      says = ap (drop 7) says ∙ sym (append_assoc (codes "denominator " ++ signed_decimal (denominator_of e)) (codes " rows ") (decimal (row_count e)));
      proved = is_proved number e least most (means number (verdict.Proved e) holds);
    }
    proved_by number text (verdict.NotDerivable rest) holds least most says = absurd (differ 0 112 110 _ _ says refl refl (λ e. omega (arith, e)))
    proved_by number text (verdict.Refuted m) holds least most says = absurd (differ 0 112 114 _ _ says refl refl (λ e. omega (arith, e)))
    proved_by number text (verdict.Undecided h) holds least most says = absurd (differ 0 112 117 _ _ says refl refl (λ e. omega (arith, e)))
    proved_by number text (verdict.NotRefuted candidates) holds least most says = absurd (differ 0 112 110 _ _ says refl refl (λ e. omega (arith, e)))

    -- refuted
    refuted_by : (number : ℕ) (after rest : List ℕ) (v : Verdict) → P number v → 1 ≤ number → number ≤ length problem.parts.claims → after ≡ shown number v ++ rest
        → codes "refuted" ≡ told_of problem.parts.quiver rules v → IsRefuted bytes number (IsNext after)
    refuted_by number after rest (verdict.Proved e) holds least most then says = absurd (differ 0 114 112 _ _ says refl refl (λ e. omega (arith, e)))
    refuted_by number after rest (verdict.NotDerivable p) holds least most then says = absurd (differ 0 114 110 _ _ says refl refl (λ e. omega (arith, e)))
    refuted_by number after rest (verdict.Refuted m) holds least most then says =
        is_refuted number m (IsNext after) least most (means number (verdict.Refuted m) holds) (rest, then ∙ ap (λ t. t ++ rest) (models number m holds))
    refuted_by number after rest (verdict.Undecided h) holds least most then says = absurd (differ 0 114 117 _ _ says refl refl (λ e. omega (arith, e)))
    refuted_by number after rest (verdict.NotRefuted candidates) holds least most then says = absurd (differ 0 114 110 _ _ says refl refl (λ e. omega (arith, e)))

    -- not derivable
    rest_of : (text : List ℕ) (v : Verdict) → codes "not derivable " ++ text ≡ told_of problem.parts.quiver rules v → (rest : Poly) × (v ≡ verdict.NotDerivable rest)
    rest_of text (verdict.Proved e) says = absurd (differ 0 110 112 _ _ says refl refl (λ e. omega (arith, e)))
    rest_of text (verdict.NotDerivable rest) says = (rest, refl)
    rest_of text (verdict.Refuted m) says = absurd (differ 0 110 114 _ _ says refl refl (λ e. omega (arith, e)))
    rest_of text (verdict.Undecided h) says = absurd (differ 0 110 117 _ _ says refl refl (λ e. omega (arith, e)))
    rest_of text (verdict.NotRefuted candidates) says = absurd (differ 4 100 114 _ _ says refl refl (λ e. omega (arith, e)))

    not_derivable_by : (number : ℕ) (text : List ℕ) (v : Verdict) → P number v → 1 ≤ number → number ≤ length problem.parts.claims
        → codes "not derivable " ++ text ≡ told_of problem.parts.quiver rules v → IsNotDerivable bytes number
    not_derivable_by number text v holds least most says =
        let rest = rest_of text v says in
        is_not_derivable bytes problem stated number least most (means number (verdict.NotDerivable rest.0) (subst (P number) rest.1 holds))

    sharp_by : (number : ℕ) (text : List ℕ) (v : Verdict) → P number v → codes "not derivable " ++ text ≡ told_of problem.parts.quiver rules v → IsSharp bytes number
    sharp_by number text v holds says = let rest = rest_of text v says in sharp number rest.0 (subst (P number) rest.1 holds)

    -- undecided
    undecided_by : (number : ℕ) (text : List ℕ) (v : Verdict) → P number v → codes "undecided " ++ text ≡ told_of problem.parts.quiver rules v → IsUndecided budget bytes number text
    undecided_by number text (verdict.Proved e) holds says = absurd (differ 0 117 112 _ _ says refl refl (λ e. omega (arith, e)))
    undecided_by number text (verdict.NotDerivable rest) holds says = absurd (differ 0 117 110 _ _ says refl refl (λ e. omega (arith, e)))
    undecided_by number text (verdict.Refuted m) holds says = absurd (differ 0 117 114 _ _ says refl refl (λ e. omega (arith, e)))
    undecided_by number text (verdict.Undecided h) holds says =
        record { problem = problem; stated = stated; halt = h; says = ap (drop 10) says; means = means number (verdict.Undecided h) holds }
    undecided_by number text (verdict.NotRefuted candidates) holds says = absurd (differ 0 117 110 _ _ says refl refl (λ e. omega (arith, e)))

    -- there is no line on a block
    no_block : (block : ℕ) (said after : List ℕ) → HasLineBefore put (block_line block said) after → ⊥
    no_block block said after has =
        let of = find _ after has.one (at_start put (block_line block said) after has) in
        differ 2 98 99 _ _ of.says refl refl (λ e. omega (arith, e))

    pub verdicts_are_meant : (evidence : List ℕ) → LinesAreMeant s budget bytes evidence put
    verdicts_are_meant evidence = record {
      proved = record {
        proved = λ number text below has. let is = found number (codes "proved " ++ text) has.0 below has.1 in proved_by number text is.verdict is.holds is.least is.most is.says;
        explained = λ block text has. absurd (no_block block (codes "explained " ++ text) has.0 has.1);
      };
      accepted = record { accepted = λ block text has. absurd (no_block block (codes "accepted " ++ text) has.0 has.1) };
      refuted = record {
        refuted = λ number after below has. let is = found number (codes "refuted") after below has in refuted_by number after is.rest is.verdict is.holds is.least is.most is.then is.says;
      };
      confirmed = record { confirmed = λ block text after below has. absurd (no_block block (codes "confirmed " ++ text) after has) };
      not_derivable = record {
        not_derivable = λ number text below has.
            let is = found number (codes "not derivable " ++ text) has.0 below has.1 in not_derivable_by number text is.verdict is.holds is.least is.most is.says;
        closed = λ block text has. absurd (no_block block (codes "closed " ++ text) has.0 has.1);
      };
      sharp = record {
        not_derivable = λ number text below has. let is = found number (codes "not derivable " ++ text) has.0 below has.1 in sharp_by number text is.verdict is.holds is.says;
        sharp = λ block number below has. absurd (no_block block (codes "closed claim " ++ decimal number ++ codes " sharp") has.0 has.1);
      };
      undecided = record {
        undecided = λ number text below has. let is = found number (codes "undecided " ++ text) has.0 below has.1 in undecided_by number text is.verdict is.holds is.says;
      };
    }
