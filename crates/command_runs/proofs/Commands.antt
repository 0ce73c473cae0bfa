-- What all commands owe.
use Rattle.command_runs.proofs.Prelude.{◌≡◌, ◌≤◌, ◌<◌, ℕ, zero, suc, List, [], ◌∷◌, Result, length, get_or, refl, sym, subst, arith, AllZip, AllZip-long, Structure, PreadditiveLaws, IsSound, IsEvidenceSound, IsCancellationSound, heads_of, BenchCall, Call, Prove, Refute, Bench, Stop, FileWord, statement_limit, evidence_limit, statement_file, pair_files, Ending, EndsAs, OverStatement, IsOwn, OwesEnding, ends_weaker, asked_by, asked_by_bench, claims_owe, reports_owe, search_owes, evidence_owes, files_of, AreContents, written_by, statement_of, evidence_of, AnswersOver, Answers, SaysOver, Says, AnswersOnce, EachCallHasAnEnding}
use Rattle.command_shape.specs.declared.call.Call.TheVariants.{Evidence}

-- a call
call_owes : (call : Call) (statement evidence : List ℕ)
    → OwesEnding (OverStatement statement (AnswersOver call evidence)) (λ Object Arrow s ending. SaysOver s call statement evidence ending)
call_owes (Prove p) statement evidence = reports_owe (asked_by p) statement
call_owes (Refute p) statement evidence = search_owes p.seed statement
call_owes (Bench b) statement evidence = claims_owe heads_of asked_by_bench statement
call_owes (Evidence command p) statement evidence = evidence_owes command statement evidence

owed : (call : Call) (contents : List (List ℕ)) → OwesEnding (OverStatement (statement_of call contents) (AnswersOver call (evidence_of contents)))
    (λ Object Arrow s ending. SaysOver s call (statement_of call contents) (evidence_of contents) ending)
owed call contents = call_owes call (statement_of call contents) (evidence_of contents)

-- what follows for all calls
pub answers_once : AnswersOnce
answers_once call contents ending ending' answer answer' = (owed call contents).no_other ending ending' answer.1 answer'.1

pub answer_status : (call : Call) (contents : List (List ℕ)) (ending : Ending) → Answers call contents ending → IsOwn ending.status
answer_status call contents ending answer = (owed call contents).own ending answer.1

pub answers_say : {Object Arrow : Type 0} {s : Structure Object Arrow} → PreadditiveLaws s → IsSound s → IsEvidenceSound s → IsCancellationSound s → (call : Call) (contents : List (List ℕ)) (ending : Ending)
    → Answers call contents ending → Says s call contents ending
answers_say {s} laws sound with_lemmas cancelling call contents ending answer = (answer.0, (owed call contents).sentence _ _ s laws sound with_lemmas cancelling ending answer.1)

pub each_call_has_an_ending : EachCallHasAnEnding
each_call_has_an_ending call contents as_many = let one = (owed call contents).one in (one.0, (as_many, one.1))

-- a statement and a text of evidence within their limits
pub record AreShort (contents : List (List ℕ)) : Type 0 where
  pub statement : length (get_or contents 0 []) ≤ statement_limit
  pub evidence : length (get_or contents 1 []) ≤ evidence_limit

abbrev AreWithin : List FileWord → List (List ℕ) → Type 0
AreWithin files contents = AllZip (λ file bytes. length bytes ≤ file.limit) files contents

none_short : (contents : List (List ℕ)) → AreWithin [] contents → AreShort contents
none_short [] fit = record { statement = omega arith; evidence = omega arith }
none_short (bytes ∷ contents) fit = absurd fit

one_short : (name : List ℕ) (contents : List (List ℕ)) → AreWithin (statement_file name) contents → AreShort contents
one_short name [] fit = absurd fit
one_short name (statement ∷ []) fit = record { statement = fit.0; evidence = omega arith }
one_short name (statement ∷ second ∷ more) fit = absurd fit.1

two_short : (name other : List ℕ) (contents : List (List ℕ)) → AreWithin (pair_files name other) contents → AreShort contents
two_short name other [] fit = absurd fit
two_short name other (statement ∷ []) fit = absurd fit.1
two_short name other (statement ∷ evidence ∷ []) fit = record { statement = fit.0; evidence = fit.1.0 }
two_short name other (statement ∷ evidence ∷ third ∷ more) fit = absurd fit.1.1

pub are_short : (call : Call) (contents : List (List ℕ)) → AreWithin (files_of call) contents → AreShort contents
are_short (Prove p) contents fit = one_short p.file contents fit
are_short (Refute p) contents fit = one_short p.file contents fit
are_short (Bench b) contents fit = none_short contents fit
are_short (Evidence command p) contents fit = two_short p.statement p.evidence contents fit

-- a call with files writes no statement
pub no_file_written : (call : Call) → ((b : BenchCall) → call ≡ Bench b → ⊥) → written_by call ≡ []
no_file_written (Prove p) other = refl
no_file_written (Refute p) other = refl
no_file_written (Bench b) other = absurd (other b refl)
no_file_written (Evidence command p) other = refl

-- an item that is there needs no other in its place
pub other_default : {Item : Type 0} (xs : List Item) (place : ℕ) (one other : Item) → place < length xs → get_or xs place one ≡ get_or xs place other
other_default [] place one other inside = absurd (omega arith)
other_default (x ∷ xs) zero one other inside = refl
other_default (x ∷ xs) (suc place) one other inside = other_default xs place one other (omega arith)

-- an item past the end is the other one
pub no_item : {Item : Type 0} (xs : List Item) (place : ℕ) (other : Item) → length xs ≤ place → get_or xs place other ≡ other
no_item [] place other past = refl
no_item (x ∷ xs) zero other past = absurd (omega arith)
no_item (x ∷ xs) (suc place) other past = no_item xs place other (omega arith)

-- there are as many as files
pub are_contents : (call : Call) (contents : List (List ℕ))
    → AllZip (λ file bytes. length bytes ≤ file.limit) (files_of call) contents → AreContents call contents
are_contents call contents fit = AllZip-long (λ file bytes. length bytes ≤ file.limit) (files_of call) contents fit

-- what is answered over the statement and the text of evidence
pub answered : (call : Call) (contents : List (List ℕ)) (statement evidence : List ℕ) (result : Result Ending (Stop Ending))
    → AreContents call contents → statement_of call contents ≡ statement → evidence_of contents ≡ evidence
    → EndsAs (OverStatement statement (AnswersOver call evidence)) result → EndsAs (Answers call contents) result
answered call contents statement evidence result as_many same_statement same_evidence ends =
    ends_weaker (OverStatement statement (AnswersOver call evidence)) (Answers call contents)
    (λ ending over. (
      as_many,
      subst (λ (t : List ℕ). OverStatement t (AnswersOver call (evidence_of contents)) ending) (sym same_statement)
          (subst (λ (e : List ℕ). OverStatement statement (AnswersOver call e) ending) (sym same_evidence) over),
    ))
    result ends
