-- What a command of evidence puts means what it says: what is said of blocks is meant, whatever the command.
use Rattle.command_runs.proofs.Prelude.{◌≡◌, ◌≢◌, ◌⊎◌, inl, inr, ◌<◌, ◌≤◌, ◌+◌, ◌==◌, ℕ, zero, suc, ℤ, Bool, true, false, not, List, [], ◌∷◌, ◌++◌, Some, arith, refl, sym, ap, subst, ◌∙◌, length, map, drop, get_or, slice_get, codes, decimal, signed_decimal, All, AllByRecursion, decimal_injective, and_parts, append_assoc, append-nil, length-map, All-head, All-tail, Structure, PreadditiveLaws, Representation, Represents, StarRepresents, IsSound, HasValueZero, IsEvidenceSound, Poly, Declaration, quiver_of, Problem, Budget, polynomials, claim_at, Model, IsCancellationSound, declarations_of, assumptions_of, block_limit, own_in, on_count, zip_length, model_kind, read_in, AssumptionsHold, IsClaim, ClaimHolds, reading, IsRead, SaysEquations, claim_there, zeros_from_held, claim_is_read, Ending, IsStated, SharpMeans, StarSharpMeans, Kind, AnswersText, letters_text, HasLineBefore, HasLine, claim_line, block_line, number_limit, SaysExplained, ProvesClaimWith, SaysAccepted, IsBlock, SaysConfirmed, SaysClosed, IsSharp, LinesAreMeant, Letter, Equation, sharp_ending, claim_closed, models, IsJudged, lacks, cut, decimal_lacks, Said, says_accepted, says_explained, says_confirmed, says_closed, says_another, said_text, SaidMeans, AcceptedSaid, ClosedSaid}
use Rattle.block_text.specs.Blocks.{on_block, Keeps}
use Rattle.command_runs.proofs.PromisedFiles.{has_no_fault}
use Rattle.command_runs.proofs.PromisedGenerators.{is_not_derivable}
use Rattle.cofactor_checker.specs.Rows.{IsNumberUpTo}
use Rattle.command_runs.proofs.PromisedBlocks.{Found, no_claim, found}
use Rattle.command_runs.proofs.PromisedVerdicts.{differ, is_refuted}

-- a number, a text and an integer, in one order and in another
moved : (claim d : List ℕ) → codes "claim " ++ (claim ++ (codes " denominator " ++ d)) ≡ codes "claim " ++ claim ++ codes " denominator " ++ d
moved claim d = simp append_assoc refl

stepped : (claim d steps : List ℕ) → codes "claim " ++ (claim ++ (codes " denominator " ++ (d ++ (codes " steps " ++ steps)))) ≡ codes "claim " ++ claim ++ codes " denominator " ++ d ++ codes " steps " ++ steps
stepped claim d steps = simp append_assoc refl

module _ {Object Arrow : Type 0} {s : Structure Object Arrow} (equations : SaysEquations s) (budget : Budget) (bytes : List ℕ) (problem : Problem) (is : IsStated bytes problem) (evidence : List ℕ) where
  abbrev ds : List Declaration
  ds = problem.parts.quiver

  -- a claim of the problem is one of the file
  there : (number : ℕ) → IsNumberUpTo (length (polynomials problem.parts.claims)) number → (claim : Equation) × IsClaim is.statements number claim
  there number names =
      let count : length (polynomials problem.parts.claims) ≡ length problem.parts.claims = length-map problem.parts.claims (λ (x : Poly). x.terms) in
      claim_there is.statements problem number is.elaborated names.least (subst (λ (n : ℕ). number ≤ n) count names.most)

  -- accepted
  -- in a representation by which the equations are read
  held : (involution : Arrow → Arrow) (f : Representation Object Arrow) (number : ℕ) → IsRead s involution f is.statements problem
      → (AllByRecursion (HasValueZero s (quiver_of ds) f) (polynomials problem.parts.assumptions) → HasValueZero s (quiver_of ds) f (claim_at problem number))
      → AssumptionsHold (read_in s involution is.statements f) is.statements → ClaimHolds (read_in s involution is.statements f) is.statements number
  held involution f number read vanishes assumed =
      let claimed : AssumptionsHold (reading s involution ds f) is.statements → ClaimHolds (reading s involution ds f) is.statements number =
      λ assumed. record {
        at = λ e is_claim. (claim_is_read s involution ds f is.statements problem read.claims number e is_claim).0
            (vanishes (zeros_from_held s involution ds f problem.parts.assumptions (assumptions_of ds is.statements) read.assumptions assumed));
      } in
      subst (λ (d : List Declaration). AssumptionsHold (reading s involution d f) is.statements → ClaimHolds (reading s involution d f) is.statements number) is.elaborated.parts.quiver claimed assumed

  proves_with : (number : ℕ) (d : ℤ) (monic epic : List Letter) → AcceptedSaid s problem number d monic epic → ProvesClaimWith s is.statements number d monic epic
  proves_with number d monic epic means =
      let same : ds ≡ declarations_of is.statements = is.elaborated.parts.quiver in
      record {
        by_star = λ involution star_laws f rep allows.
            let represents = subst (λ (d : List Declaration). StarRepresents s involution (quiver_of d) f) (sym same) rep in
            held involution f number (equations.by_star involution star_laws is.statements problem f is.elaborated represents)
            (means.by_star involution star_laws f represents allows.cancels allows.monic_arrows allows.epic_arrows);
        plain = λ unstarred involution f rep allows.
            let represents = subst (λ (d : List Declaration). Represents s (quiver_of d) f) (sym same) rep in
            let plain = is.elaborated.parts.starred ∙ unstarred in
            held involution f number (equations.plain involution is.statements problem f is.elaborated plain represents)
            (means.plain plain f represents allows.cancels allows.monic_arrows allows.epic_arrows);
      }

  accepted_by : (place : ℕ) (text : List ℕ) (said : Said) → SaidMeans s problem evidence place said → codes "accepted " ++ text ≡ said_text ds said → SaysAccepted s bytes text
  accepted_by place text (says_accepted number d monic epic) means says =
      let claim = there number means.names in
      record {
        statements = is.statements;
        file = has_no_fault bytes problem is;
        number = number;
        d = d;
        monic = monic;
        epic = epic;
        says = ap (drop 9) says ∙ ap (λ t. t ++ letters_text ds monic epic) (moved (decimal number) (signed_decimal d))
            ∙ ap (λ (ds : List Declaration). codes "claim " ++ decimal number ++ codes " denominator " ++ signed_decimal d ++ letters_text ds monic epic) is.elaborated.parts.quiver;
        claim = claim.0;
        is_claim = claim.1;
        positive = means.positive;
        proves = proves_with number d monic epic means;
      }
  accepted_by place text (says_explained number d steps) means says = absurd (differ 2 99 112 _ _ says refl refl (λ e. omega (arith, e)))
  accepted_by place text (says_confirmed m) means says = absurd (differ 2 99 110 _ _ says refl refl (λ e. omega (arith, e)))
  accepted_by place text (says_closed number sharp) means says = absurd (differ 2 99 111 _ _ says refl refl (λ e. omega (arith, e)))
  accepted_by place text (says_another said) means says = absurd (means.not_accepted text says)

  -- explained
  explained_by : (place : ℕ) (text : List ℕ) (said : Said) → SaidMeans s problem evidence place said → codes "explained " ++ text ≡ said_text ds said → SaysExplained s bytes text
  explained_by place text (says_explained number d steps) means says =
      let claim = there number means.names in
      record {
        number = number;
        d = d;
        steps = steps;
        says = ap (drop 10) says ∙ stepped (decimal number) (signed_decimal d) (decimal steps);
        proved = record {
          statements = is.statements;
          file = has_no_fault bytes problem is;
          claim = claim.0;
          is_claim = claim.1;
          positive = means.positive;
          proves = equations.proved is.statements problem number d is.elaborated means.means;
        };
      }
  explained_by place text (says_accepted number d monic epic) means says = absurd (differ 2 112 99 _ _ says refl refl (λ e. omega (arith, e)))
  explained_by place text (says_confirmed m) means says = absurd (differ 2 112 110 _ _ says refl refl (λ e. omega (arith, e)))
  explained_by place text (says_closed number sharp) means says = absurd (differ 2 112 111 _ _ says refl refl (λ e. omega (arith, e)))
  explained_by place text (says_another said) means says = absurd (means.not_explained text says)

  -- confirmed
  -- the numbers of blocks are small
  last_holds : {X : Type 0} (P : X → Type 0) (xs : List X) (x : X) → All P (xs ++ x ∷ []) → P x
  last_holds P [] x each = All-head P x [] each
  last_holds P (y ∷ xs) x each = last_holds P xs x (All-tail P y (xs ++ x ∷ []) each)

  few_models : (ms : List Model) → models.AreBlocks ds evidence ms → length ms ≤ block_limit
  few_models ms are =
      let kind = model_kind ds in
      let count : length (own_in are.has.blocks) ≤ block_limit = last_holds (Keeps kind are.has.blocks) (map on_block kind.bounds) on_count are.has.within in
      omega (arith, count, zip_length kind.Says (own_in are.has.blocks) ms are.has.says)

  inside : {X : Type 0} (xs : List X) (place : ℕ) (x : X) → slice_get xs place ≡ Some x → place < length xs
  inside [] place x at = absurd (cc)
  inside (y ∷ xs) zero x at = omega arith
  inside (y ∷ xs) (suc place) x at = let rest = inside xs place x at in omega (arith, rest)

  confirmed_by : (block place : ℕ) (text : List ℕ) → block < number_limit → decimal block ≡ decimal (1 + place) → (said : Said) → SaidMeans s problem evidence place said
      → codes "confirmed " ++ text ≡ said_text ds said → SaysConfirmed bytes evidence block text
  confirmed_by block place text below numbered (says_confirmed m) means says =
      let few = few_models means.at.blocks means.at.read in
      let small : place < length means.at.blocks = inside means.at.blocks place m means.at.at in
      let counted : block ≡ 1 + place = decimal_injective block (1 + place) below (omega (arith, few, small)) numbered in
      record {
        number = m.claim;
        says = ap (drop 10) says;
        refuted = is_refuted equations budget bytes problem is m.claim m (IsBlock evidence block) means.names.least means.names.most means.means
            (record { models = means.at.blocks; read = means.at.read; place = place; counted = let is : block ≡ suc place = omega (arith, counted) in is; at = means.at.at });
      }
  confirmed_by block place text below numbered (says_accepted number d monic epic) means says = absurd (differ 2 110 99 _ _ says refl refl (λ e. omega (arith, e)))
  confirmed_by block place text below numbered (says_explained number d steps) means says = absurd (differ 2 110 112 _ _ says refl refl (λ e. omega (arith, e)))
  confirmed_by block place text below numbered (says_closed number sharp) means says = absurd (differ 2 110 111 _ _ says refl refl (λ e. omega (arith, e)))
  confirmed_by block place text below numbered (says_another said) means says = absurd (means.not_confirmed text says)

  -- closed
  record IsClosed (text : List ℕ) : Type 0 where
    number : ℕ
    sharp : Bool
    means : ClosedSaid problem number sharp
    says : codes "closed " ++ text ≡ claim_closed number sharp

  is_closed : (place : ℕ) (text : List ℕ) (said : Said) → SaidMeans s problem evidence place said → codes "closed " ++ text ≡ said_text ds said → IsClosed text
  is_closed place text (says_closed number sharp) means says = record { number = number; sharp = sharp; means = means; says = says }
  is_closed place text (says_accepted number d monic epic) means says = absurd (differ 2 111 99 _ _ says refl refl (λ e. omega (arith, e)))
  is_closed place text (says_explained number d steps) means says = absurd (differ 2 111 112 _ _ says refl refl (λ e. omega (arith, e)))
  is_closed place text (says_confirmed m) means says = absurd (differ 2 111 110 _ _ says refl refl (λ e. omega (arith, e)))
  is_closed place text (says_another said) means says = absurd (means.not_closed text says)

  ending_by : (sharp : Bool) (claim text : List ℕ) → text ≡ claim ++ sharp_ending sharp → (text ≡ claim) ⊎ (text ≡ claim ++ codes " sharp")
  ending_by true claim text same = inr same
  ending_by false claim text same = inl (same ∙ append-nil claim)

  closed_by : (text : List ℕ) → IsClosed text → SaysClosed bytes text
  closed_by text closed = record {
    number = closed.number;
    says = ending_by closed.sharp (codes "claim " ++ decimal closed.number) text (ap (drop 7) closed.says);
    outside = is_not_derivable bytes problem is closed.number closed.means.names.least closed.means.names.most closed.means.outside;
  }

  -- no number has a blank in it
  blank_lacks : (text more : List ℕ) → lacks 32 (text ++ 32 ∷ more) ≡ true → ⊥
  blank_lacks [] more known = absurd (cc)
  blank_lacks (c ∷ text) more known = blank_lacks text more (and_parts (not (c == 32)) (lacks 32 (text ++ 32 ∷ more)) known).1

  sharp_end : (sharp : Bool) (number claim : ℕ) → decimal number ++ codes " sharp" ≡ decimal claim ++ sharp_ending sharp → (decimal number ≡ decimal claim) × (sharp ≡ true)
  sharp_end true number claim same =
      ((cut 32 (decimal number) (decimal claim) (drop 1 (codes " sharp")) (drop 1 (codes " sharp")) (decimal_lacks 32 (omega arith) number) (decimal_lacks 32 (omega arith) claim) same).0, refl)
  sharp_end false number claim same =
      let lone : decimal number ++ codes " sharp" ≡ decimal claim = same ∙ append-nil (decimal claim) in
      absurd (blank_lacks (decimal number) (drop 1 (codes " sharp")) (subst (λ (t : List ℕ). lacks 32 t ≡ true) (sym lone) (decimal_lacks 32 (omega arith) claim)))

  sharp_by : (number : ℕ) → number < number_limit → IsClosed (codes "claim " ++ decimal number ++ codes " sharp") → IsSharp bytes number
  sharp_by number below closed =
      let ends = sharp_end closed.sharp number closed.number (ap (drop 13) closed.says) in
      let few = problem.posed.few_claims in
      let most = closed.means.names.most in
      let same : closed.number ≡ number = sym (decimal_injective number closed.number below (omega (arith, most, few)) ends.0) in
      let rules = closed.means.rules in
      record {
        problem = problem;
        stated = is;
        rules = rules;
        sharp = subst (λ (n : ℕ). SharpMeans problem.parts rules (claim_at problem n)) same (closed.means.sharp_means ends.1);
        star_sharp = λ starred. subst (λ (n : ℕ). StarSharpMeans problem.parts rules (claim_at problem n)) same (closed.means.star_sharp ends.1 starred);
      }

  -- where no line is on a claim, and each line on a block that isn't refused says what is meant
  lines_are_meant : (put : List ℕ) → ((number : ℕ) (text after : List ℕ) → HasLineBefore put (claim_line number text) after → ⊥)
      → ((block : ℕ) (told after : List ℕ) → HasLineBefore put (block_line block told) after → get_or told 1 0 ≢ 101 → Found s problem evidence block told) → LinesAreMeant s budget bytes evidence put
  lines_are_meant put none found =
      let closed : (block : ℕ) (text : List ℕ) → HasLine put (block_line block (codes "closed " ++ text)) → IsClosed text =
      λ block text has. let at = found block (codes "closed " ++ text) has.0 has.1 (λ e. omega (arith, e)) in is_closed at.place text at.said at.means at.says in
      record {
        proved = record {
          proved = λ number text below has. absurd (none number (codes "proved " ++ text) has.0 has.1);
          explained = λ block text has. let at = found block (codes "explained " ++ text) has.0 has.1 (λ e. omega (arith, e)) in explained_by at.place text at.said at.means at.says;
        };
        accepted = record {
          accepted = λ block text has. let at = found block (codes "accepted " ++ text) has.0 has.1 (λ e. omega (arith, e)) in accepted_by at.place text at.said at.means at.says;
        };
        refuted = record { refuted = λ number after below has. absurd (none number (codes "refuted") after has) };
        confirmed = record {
          confirmed = λ block text after below has.
              let at = found block (codes "confirmed " ++ text) after has (λ e. omega (arith, e)) in confirmed_by block at.place text below at.numbered at.said at.means at.says;
        };
        not_derivable = record {
          not_derivable = λ number text below has. absurd (none number (codes "not derivable " ++ text) has.0 has.1);
          closed = λ block text has. closed_by text (closed block text has);
        };
        sharp = record {
          not_derivable = λ number text below has. absurd (none number (codes "not derivable " ++ text) has.0 has.1);
          sharp = λ block number below has. sharp_by number below (closed block (codes "claim " ++ decimal number ++ codes " sharp") has);
        };
        undecided = record { undecided = λ number text below has. absurd (none number (codes "undecided " ++ text) has.0 has.1) };
      }

pub text_is_meant : {Block Refusal : Type 0} (kind : Kind Block Refusal) → IsJudged kind → {Object Arrow : Type 0} {s : Structure Object Arrow} → PreadditiveLaws s → IsSound s → IsEvidenceSound s → IsCancellationSound s
    → SaysEquations s → (budget : Budget) (bytes : List ℕ) (problem : Problem) → IsStated bytes problem → (evidence : List ℕ) (ending : Ending) → AnswersText kind evidence problem ending
    → LinesAreMeant s budget bytes evidence ending.report
text_is_meant kind judged laws sound with_lemmas cancelling equations budget bytes problem is evidence ending ends =
    lines_are_meant equations budget bytes problem is evidence ending.report
    (no_claim kind judged laws sound with_lemmas cancelling bytes problem is evidence ending ends)
    (found kind judged laws sound with_lemmas cancelling bytes problem is evidence ending ends)
