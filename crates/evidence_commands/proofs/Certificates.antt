-- Certificates are judged, and what an accepted one means.
use Rattle.evidence_commands.proofs.Prelude.{◌≡◌, ◌<ℤ◌, ℕ, pos, List, [], ◌∷◌, ◌++◌, length, get_or, codes, refl, sym, ap, arith, IsTrue, list_all, length-append, append-nil, Structure, PreadditiveLaws, IsSound, IsEvidenceSound, Declaration, Lemma, LemmaRow, Evidence, Plain, Lemmas, denominator_of, is_named, IsMemory, IsNumberUpTo, row_count, IsRanged, all_polynomials, IsReadableEvidence, ShowsClaim, EvidenceAddsUp, accepted_evidence_adds_up, evidence_is_judged, evidence_refusal_is_unique, accepted_evidence_is_not_refused, proved_means, Problem, polynomials, IsCheckableLemma, IsCheckableEvidence, each_text_is_read, evidence_is_unique, first_fault_is_unique, evidence_has_no_fault, claim_number, IsAccepted, named_text, AcceptedMeans, certificates, flat_map}
use Rattle.traced_rows.specs.declared.evidence.Format.TheVariants as format
use Rattle.evidence_commands.proofs.Causes.{told, refusal_text, caused}
use Rattle.evidence_commands.proofs.QuietBlocks.{nothing_is_quiet}
use Rattle.evidence_commands.proofs.Said.{Said, says_accepted, said_text, AcceptedSaid, IsTold, accepted_is_part}
use Rattle.evidence_commands.proofs.Owed.{IsJudged}

-- what a reader gives can be checked
row_count-flat : (lemmas : List Lemma) → row_count lemmas ≡ length (flat_map (λ l. l.rows) lemmas)
row_count-flat [] = refl
row_count-flat (l ∷ lemmas) =
    let rest : List LemmaRow = flat_map (λ m. m.rows) lemmas in
    let more = length-append l.rows rest in
    let same = row_count-flat lemmas in
    omega (arith, more, same)

ranged : (ds : List Declaration) (l : Lemma) → IsCheckableLemma ds l → IsRanged l
ranged ds l checkable = record { scale = checkable.scale; rows = checkable.coefficients }

pub readable : (ds : List Declaration) (e : Evidence) → IsCheckableEvidence ds e → IsReadableEvidence e
readable ds (Plain c) checkable = let few = checkable.few in record { few_rows = omega arith; denominator = checkable.denominator; coefficients = checkable.coefficients }
readable ds (Lemmas c) checkable =
    let lemmas = checkable.few_lemmas in
    let rows = checkable.few_rows in
    let same = row_count-flat c.lemmas in
    record {
      denominator = checkable.denominator;
      lemmas = λ k d below. ranged ds _ (checkable.lemmas k d below);
      goal = ranged ds c.goal checkable.goal;
      few_lemmas = omega arith;
      few_rows = omega (arith, same);
    }

-- no cause begins as the text of an accepted certificate
other_text : (e : Evidence) (cause more : List ℕ) → codes "refused " ++ cause ≡ named_text e ++ more → ⊥
other_text e cause more same =
    let first : (let n : ℕ = 114 in n) ≡ 97 = ap (λ l. get_or l 0 0) same in
    absurd (omega arith)

-- evidence that is accepted names a claim
pub names : (problem : Problem) (e : Evidence) → IsAccepted problem e → IsNumberUpTo (length (polynomials problem.parts.claims)) (claim_number e)
names problem (Plain c) accepted = accepted.adds_up.begins.posed.claim
names problem (Lemmas c) accepted = accepted.adds_up.lemmas.begins.shares.posed.claim

-- and adds up to it
shows_claim : (problem : Problem) (e : Evidence) → ShowsClaim (polynomials problem.parts.claims) (polynomials problem.generators) e → EvidenceAddsUp problem (claim_number e) e
shows_claim problem (Plain c) shows = record { claim = refl; combination = shows }
shows_claim problem (Lemmas c) shows = record { claim = refl; lemmas = all_polynomials (polynomials problem.generators) c; evidence = shows }

pub adds_up : (problem : Problem) (e : Evidence) → IsAccepted problem e → EvidenceAddsUp problem (claim_number e) e
adds_up problem e accepted = shows_claim problem e (accepted_evidence_adds_up (polynomials problem.parts.claims) (polynomials problem.generators) e accepted)

pub accepted_means : {Object Arrow : Type 0} {s : Structure Object Arrow} → PreadditiveLaws s → IsSound s → IsEvidenceSound s
    → (problem : Problem) (e : Evidence) → IsAccepted problem e → AcceptedMeans s problem e
accepted_means laws sound with_lemmas problem e accepted =
    let named = names problem e accepted in
    proved_means laws sound with_lemmas problem (claim_number e) e named.least named.most (adds_up problem e accepted)

-- with a positive denominator
pub positive_denominator : (problem : Problem) (number : ℕ) (e : Evidence) → EvidenceAddsUp problem number e → pos 0 <ℤ denominator_of e
positive_denominator problem number (Plain c) sum = sum.combination.positive
positive_denominator problem number (Lemmas c) sum = sum.evidence.positive

-- its line says so, and calls no letters
abbrev said_of : Evidence → Said
said_of e = says_accepted (claim_number e) (denominator_of e) [] []

named_is_told : (ds : List Declaration) → IsTrue (list_all is_named ds) → (e : Evidence) → IsTold (said_text ds (said_of e)) (named_text e)
named_is_told ds known e = record {
  rest = [];
  splits = ap (λ t. t ++ 10 ∷ []) (sym (append-nil (named_text e)));
  one = (accepted_is_part ds known (claim_number e) (denominator_of e) [] []).is;
  quiet = nothing_is_quiet;
}

accepted_said : {Object Arrow : Type 0} {s : Structure Object Arrow} (problem : Problem) (e : Evidence) → IsAccepted problem e → AcceptedMeans s problem e
    → AcceptedSaid s problem (claim_number e) (denominator_of e) [] []
accepted_said problem e holds means = record {
  names = names problem e holds;
  positive = positive_denominator problem (claim_number e) e means.sum;
  by_star = λ adjoint involution f rep cancels monic epic. means.means.by_star.zero adjoint involution f rep cancels;
  plain = λ unstarred f rep cancels monic epic. (means.means.plain unstarred).zero f rep cancels;
}

pub certificates_are_judged : IsJudged certificates
certificates_are_judged = record {
  IsMemory = IsMemory;
  is_kind = λ problem text.
      let ds = problem.parts.quiver in
      let claims = polynomials problem.parts.claims in
      let generators = polynomials problem.generators in
      record {
        each_text = each_text_is_read format.Lemmas ds text;
        one_list = evidence_is_unique format.Lemmas ds text;
        one_fault = first_fault_is_unique format.Lemmas ds text;
        no_fault = evidence_has_no_fault format.Lemmas ds text;
        each_block = evidence_is_judged claims generators;
        one_refusal = evidence_refusal_is_unique claims generators;
        not_refused = accepted_evidence_is_not_refused claims generators;
        has_text = refusal_text ds;
        no_text = told ds;
        other_text = other_text;
      };
  IsReadable = λ ds e. Unit {0};
  readable = λ ds text es are k d below. tt;
  shown = λ problem e readable. adds_up problem e;
  means = λ laws sound with_lemmas cancelling problem e readable. accepted_means laws sound with_lemmas problem e;
  caused = caused;
  said = λ problem e. said_of e;
  told = λ problem known e holds. named_is_told problem.parts.quiver known e;
  meant = λ problem text place e at. accepted_said problem e;
}
