-- What the line on a block of evidence says, whatever the command, and that no line is on a claim.
use Rattle.command_runs.proofs.Prelude.{◌≡◌, ◌≢◌, ◌⊎◌, inl, inr, ◌+◌, ℕ, zero, suc, Bool, true, false, cond, ◌==◌, List, [], ◌∷◌, ◌++◌, Some, arith, refl, ap, subst, get_or, slice_get, codes, decimal, All, All-head, All-tail, Structure, PreadditiveLaws, IsSound, IsEvidenceSound, Problem, Ending, limit_text, line_text, evidence_fault, faulty, read, RefusesBlock, IsCancellationSound, IsStated, Kind, AnswersText, IsJudged, told_is_part, Said, said_text, SaidMeans, IsTold, HasLineBefore, claim_line, block_line, lacks, LineAt, first_or_later, no_line, lacks-append, number_is_part}
use Rattle.command_runs.proofs.Promised.{known}
use Rattle.command_runs.proofs.ReportLines.{at_start, block_said, other_head, IsOnBlock, accepts, refuses_one, line_of_blocks}

-- an element at a place has what all have
at_place : {X : Type 0} (P : X → Type 0) (xs : List X) (place : ℕ) (x : X) → All P xs → slice_get xs place ≡ Some x → P x
at_place P [] place x each at = absurd (cc)
at_place P (y ∷ ys) zero x each at = let same : y ≡ x = some_is at in subst P same (All-head P y ys each)
  where
    some_is : ◌≡◌ {A = _} (Some y) (Some x) → y ≡ x
    some_is e = cc
at_place P (y ∷ ys) (suc place) x each at = at_place P ys place x (All-tail P y ys each) at

-- the line on a fault of the text
either : (b : Bool) (xs ys : List ℕ) → lacks 10 xs ≡ true → lacks 10 ys ≡ true → lacks 10 (cond b xs ys) ≡ true
either true xs ys left right = left
either false xs ys left right = right

numbered : (label : List ℕ) (n : ℕ) → lacks 10 label ≡ true → lacks 10 (cond (n == 0) [] (label ++ decimal n)) ≡ true
numbered label n is = either (n == 0) [] (label ++ decimal n) refl (lacks-append 10 label (decimal n) is (number_is_part n))

limit_is_part : (limit : ℕ) → lacks 10 (limit_text limit) ≡ true
limit_is_part limit = numbered (codes " limit ") limit refl

line_is_part : (n : ℕ) → lacks 10 (line_text n) ≡ true
line_is_part n = numbered (codes " line ") n refl

fault_is_part : (code n limit : ℕ) → lacks 10 (evidence_fault code n limit) ≡ true
fault_is_part code n limit =
    lacks-append 10 (codes "# refused K") (decimal code ++ (line_text n ++ limit_text limit)) refl (lacks-append 10 (decimal code) (line_text n ++ limit_text limit) (number_is_part code) (lacks-append 10 (line_text n) (limit_text limit) (line_is_part n) (limit_is_part limit)))

-- The line is on an accepted block with this number, and says this of it, which means what it says.
pub record Found {Object Arrow : Type 0} (s : Structure Object Arrow) (problem : Problem) (evidence : List ℕ) (block : ℕ) (told : List ℕ) : Type 0 where
  pub place : ℕ
  pub numbered : decimal block ≡ decimal (1 + place)
  pub said : Said
  pub says : told ≡ said_text problem.parts.quiver said
  pub means : SaidMeans s problem evidence place said

module _ {Block Refusal : Type 0} (kind : Kind Block Refusal) (judged : IsJudged kind) {Object Arrow : Type 0} {s : Structure Object Arrow} (laws : PreadditiveLaws s) (sound : IsSound s)
    (with_lemmas : IsEvidenceSound s) (cancelling : IsCancellationSound s) (bytes : List ℕ) (problem : Problem) (stated : IsStated bytes problem) (evidence : List ℕ) where
  abbrev first : Block → List ℕ
  first b = said_text problem.parts.quiver (judged.said problem b)

  abbrev refuses : Block → List ℕ → Type 0
  refuses = RefusesBlock (kind.IsRefused problem) (kind.cause problem.parts.quiver)

  abbrev told : (b : Block) → kind.Passes problem b → IsTold (first b) (kind.shows problem b)
  told = judged.told problem (known bytes problem stated)

  abbrev caused : (b : Block) (cause : List ℕ) → refuses b cause → lacks 10 cause ≡ true
  caused b cause is = told_is_part (kind.cause problem.parts.quiver is.refusal) cause (judged.caused problem.parts.quiver (known bytes problem stated) is.refusal) is.says

  abbrev Ends : Ending → Type 0
  Ends ending = AnswersText kind evidence problem ending

  abbrev On : List Block → List ℕ → Type 0
  On blocks l = IsOnBlock (kind.Passes problem) first (kind.shows problem) refuses told caused 1 blocks l

  -- what an ending has a line for: a fault of the text, or a block
  data Way (line : List ℕ) : Type 0 where
    by_fault : (code n limit : ℕ) → line ≡ evidence_fault code n limit → Way line
    by_block : (blocks : List Block) → kind.AreBlocks problem.parts.quiver evidence blocks → On blocks line → Way line

  one_line : (code n limit : ℕ) (l after : List ℕ) → ((35 ∷ l ≡ evidence_fault code n limit) × (after ≡ [])) ⊎ LineAt true [] (35 ∷ l) after → Way (35 ∷ l)
  one_line code n limit l after (inl is) = by_fault code n limit is.0
  one_line code n limit l after (inr at) = absurd (no_line true (35 ∷ l) after at)

  way : (ending : Ending) → Ends ending → (l after : List ℕ) → HasLineBefore ending.report (35 ∷ l) after → Way (35 ∷ l)
  way ending (faulty fault is ends) l after has =
      let text = evidence_fault fault.code fault.line fault.limit in
      let at = subst (λ (t : List ℕ). LineAt true t (35 ∷ l) after) (ap (λ (e : Ending). e.report) ends) (at_start ending.report (35 ∷ l) after has) in
      one_line fault.code fault.line fault.limit l after (first_or_later text [] (35 ∷ l) after (fault_is_part fault.code fault.line fault.limit) has.one at)
  way ending (read blocks are judges) l after has =
      by_block blocks are
      (line_of_blocks (kind.Passes problem) first (kind.shows problem) refuses told caused 1 blocks ending.report ending.status judges l after has.one (at_start ending.report (35 ∷ l) after has))

  module _ (ending : Ending) (ends : Ends ending) where
    -- no line is on a claim
    pub no_claim : (number : ℕ) (said after : List ℕ) → HasLineBefore ending.report (claim_line number said) after → ⊥
    no_claim number said after has = by (way ending ends _ after has)
      where
        by : Way (claim_line number said) → ⊥
        by (by_fault code n limit is) = let third : 99 ≡ 114 = ap (λ (t : List ℕ). get_or t 2 0) is in omega (arith, third)
        by (by_block blocks are (accepts place b holds at is)) = other_head number (1 + place) said (first b) is
        by (by_block blocks are (refuses_one block cause is)) = other_head number block said (codes "refused " ++ cause) is

    -- the block of which this is said, where it begins as no refusal does
    pub found : (block : ℕ) (said after : List ℕ) → HasLineBefore ending.report (block_line block said) after → get_or said 1 0 ≢ 101 → Found s problem evidence block said
    found block said after has apart = by (way ending ends _ after has)
      where
        by : Way (block_line block said) → Found s problem evidence block said
        by (by_fault code n limit is) = let third : 98 ≡ 114 = ap (λ (t : List ℕ). get_or t 2 0) is in absurd (omega (arith, third))
        by (by_block blocks are (accepts place b holds at is)) =
            let both = block_said block (1 + place) said (first b) is in
            let readable = at_place (judged.IsReadable problem.parts.quiver) blocks place b (judged.readable problem.parts.quiver evidence blocks are) at in
            record {
              place = place;
              numbered = both.0;
              said = judged.said problem b;
              says = both.1;
              means = judged.meant problem evidence place b (record { blocks = blocks; read = are; at = at }) holds (judged.means laws sound with_lemmas cancelling problem b readable holds);
            }
        by (by_block blocks are (refuses_one other cause is)) =
            let both = block_said block other said (codes "refused " ++ cause) is in
            absurd (apart (ap (λ (t : List ℕ). get_or t 1 0) both.1))
