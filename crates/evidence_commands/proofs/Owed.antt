-- What a kind of evidence owes, and what follows for its command.
use Rattle.evidence_commands.proofs.Prelude.{◌≡◌, ◌⊎◌, inl, inr, ℕ, List, [], ◌∷◌, ◌++◌, refl, sym, subst, ◌∙◌, arith, IsTrue, IfSome, All, AllByRecursion, list_all, append-nil, All-head, All-tail, Structure, PreadditiveLaws, IsSound, IsEvidenceSound, IsCancellationSound, Declaration, Problem, is_named, Ending, IsKind, text_answered, text_answered_once, text_status, passing_answered, zero_answered, first_answered, all_first, faulty, stated, stated_leads, over_problem, OwesEnding, owed_over, zero_or_past, Kind, AnswersText, AnswersBoth, Says, PassingAreAnswered, ZeroIsPassing, ZeroMeans, FaultsAreAnswered, ThreeIsFaulty}
use Rattle.evidence_commands.proofs.Parts.{IsPart}
use Rattle.evidence_commands.proofs.Said.{Said, said_text, SaidMeans, IsBlockAt, IsTold}

pub record IsJudged {Block Refusal : Type 0} (kind : Kind Block Refusal) : Type 1 where
  -- blocks are read in one way, and each passes or is refused for one test
  pub IsMemory : Refusal → Type 0
  pub is_kind : (problem : Problem) (text : List ℕ)
      → IsKind (kind.Passes problem) (kind.shows problem) (kind.IsRefused problem) (kind.cause problem.parts.quiver) IsMemory
      (kind.AreBlocks problem.parts.quiver text) (kind.IsFirstFault problem.parts.quiver text)
  -- what is read can be judged
  pub IsReadable : List Declaration → Block → Type 0
  pub readable : (ds : List Declaration) (text : List ℕ) (blocks : List Block) → kind.AreBlocks ds text blocks → All (IsReadable ds) blocks
  -- and a block that passes shows what its text says, and means it
  pub shown : (problem : Problem) (block : Block) → IsReadable problem.parts.quiver block → kind.Passes problem block → kind.Shown problem block
  pub means : {Object Arrow : Type 0} {s : Structure Object Arrow} → PreadditiveLaws s → IsSound s → IsEvidenceSound s → IsCancellationSound s
      → (problem : Problem) (block : Block) → IsReadable problem.parts.quiver block → kind.Passes problem block → kind.Means Object Arrow s problem block
  -- where each declaration has a name of the language, a cause is a line, and so is what is said of a block that passes, before lines that don't begin with #
  pub caused : (ds : List Declaration) → IsTrue (list_all is_named ds) → (refusal : Refusal) → IfSome (kind.cause ds refusal) IsPart
  pub said : Problem → Block → Said
  pub told : (problem : Problem) → IsTrue (list_all is_named problem.parts.quiver) → (block : Block) → kind.Passes problem block
      → IsTold (said_text problem.parts.quiver (said problem block)) (kind.shows problem block)
  -- which means what it says
  pub meant : {Object Arrow : Type 0} {s : Structure Object Arrow} → (problem : Problem) (text : List ℕ) (place : ℕ) (block : Block)
      → IsBlockAt (kind.AreBlocks problem.parts.quiver text) place block → kind.Passes problem block → kind.Means Object Arrow s problem block
      → SaidMeans s problem text place (said problem block)

each_passing : {Block : Type 0} (Readable Passes Holds : Block → Type 0) → ((block : Block) → Readable block → Passes block → Holds block)
    → (blocks : List Block) → All Readable blocks → AllByRecursion Passes blocks → AllByRecursion Holds blocks
each_passing Readable Passes Holds holds [] readable pass = tt
each_passing Readable Passes Holds holds (block ∷ blocks) readable pass = (
  holds block (All-head Readable block blocks readable) pass.0,
  each_passing Readable Passes Holds holds blocks (All-tail Readable block blocks readable) pass.1,
)

-- 0 and 7 are not 3
not_three : (n : ℕ) → (n ≡ 0) ⊎ (n ≡ 7) → n ≡ 3 → ⊥
not_three n (inl is) three = omega arith
not_three n (inr is) three = omega arith

module _ {Block Refusal : Type 0} (kind : Kind Block Refusal) (judged : IsJudged kind) where
  -- what its command owes
  says : {Object Arrow : Type 0} {s : Structure Object Arrow} → PreadditiveLaws s → IsSound s → IsEvidenceSound s → IsCancellationSound s
      → (statement text : List ℕ) (ending : Ending) → AnswersBoth kind statement text ending → Says kind s statement text ending.report
  says {Object} {Arrow} {s} laws sound with_lemmas cancelling statement text ending answers = record {
    each = λ problem first others rest is are begins.
        let ds = problem.parts.quiver in
        each_passing (judged.IsReadable ds) (kind.Passes problem) (kind.Means Object Arrow s problem)
        (judged.means laws sound with_lemmas cancelling problem) first
        (all_first (judged.IsReadable ds) first others (judged.readable ds text (first ++ others) are))
        (first_answered (judged.is_kind problem text) ending first others rest are begins
        (stated_leads statement (AnswersText kind text) ending problem is answers));
  }

  pub owes : (statement text : List ℕ)
      → OwesEnding (AnswersBoth kind statement text) (λ Object Arrow s ending. Says kind s statement text ending.report)
  owes statement text = owed_over statement (AnswersText kind text) (λ Object Arrow s ending. Says kind s statement text ending.report)
      (record {
        one = λ problem. text_answered (judged.is_kind problem text);
        no_other = λ problem. text_answered_once (judged.is_kind problem text);
        own = λ problem ending answer. zero_or_past ending.status (text_status (judged.is_kind problem text) ending answer);
      })
      (λ Object Arrow s laws sound with_lemmas cancelling ending. says laws sound with_lemmas cancelling statement text ending)

  -- the laws for users
  pub passing_are_answered : PassingAreAnswered kind
  passing_are_answered statement text problem blocks is are all = stated problem is (passing_answered (judged.is_kind problem text) blocks are all)

  pub zero_is_passing : ZeroIsPassing kind
  zero_is_passing statement text ending answers is_zero =
      let over = over_problem statement (AnswersText kind text) ending answers is_zero in
      let ds = over.0.parts.quiver in
      let all = zero_answered (judged.is_kind over.0 text) ending over.2 is_zero in
      record {
        problem = over.0;
        blocks = all.all;
        stated = over.1;
        read = all.are;
        pass = all.pass;
        shown = each_passing (judged.IsReadable ds) (kind.Passes over.0) (kind.Shown over.0) (judged.shown over.0) all.all
            (judged.readable ds text all.all all.are) all.pass;
        report = all.says;
      }

  pub zero_means : {Object Arrow : Type 0} (s : Structure Object Arrow) → ZeroMeans kind s
  zero_means s statement text ending answers says is_zero =
      let all = zero_is_passing statement text ending answers is_zero in
      record {
        problem = all.problem;
        blocks = all.blocks;
        stated = all.stated;
        read = all.read;
        each = says.each all.problem all.blocks [] [] all.stated
            (subst (λ (blocks : List Block). kind.AreBlocks all.problem.parts.quiver text blocks) (sym (append-nil all.blocks)) all.read)
            (all.report ∙ sym (append-nil _));
      }

  pub faults_are_answered : FaultsAreAnswered kind
  faults_are_answered statement text refusal refused = faulty refusal refused refl

  pub three_is_faulty : ThreeIsFaulty kind
  three_is_faulty statement text ending (faulty refusal refused ends) is_three = (refusal, refused, ends)
  three_is_faulty statement text ending (stated problem is leads) is_three =
      absurd (not_three ending.status (text_status (judged.is_kind problem text) ending leads) is_three)
