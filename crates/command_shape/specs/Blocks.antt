-- The ending of an evidence text: its first fault, or its blocks, judged one after another.
use Rattle.std.specs.Prelude.{ℕ, ◌+◌, ◌≡◌, List, [], ◌∷◌, ◌++◌, Option, Some, codes, decimal}
use Rattle.block_text.specs.Fault.{Fault}
use Rattle.command_shape.specs.Ending.{Ending, line, refused_evidence}
use Rattle.command_shape.specs.Texts.{evidence_fault}

-- this is the text of the block with this number
abbrev pub block_text : ℕ → List ℕ → List ℕ
block_text block text = codes "# block " ++ (decimal block ++ (codes " " ++ text))

-- it is refused for this cause
abbrev pub refused_text : ℕ → List ℕ → List ℕ
refused_text block cause = block_text block (codes "refused " ++ cause)

-- The evidence text is refused, for its first fault, or its blocks lead to the ending.
pub data OverEvidence {Block : Type 0} (are_blocks : List Block → Type 0) (is_first_fault : Fault → Type 0) (next : List Block → Ending
    → Type 0) (ending : Ending) : Type 0 where
  faulty : (fault : Fault) → is_first_fault fault → ending ≡ refused_evidence (evidence_fault fault.code fault.line fault.limit)
      → OverEvidence are_blocks is_first_fault next ending
  read : (blocks : List Block) → are_blocks blocks → next blocks ending → OverEvidence are_blocks is_first_fault next ending

-- A block passes all tests, and this is what that shows;
pub record AcceptsBlock {Block : Type 0} (passes : Block → Type 0) (shows : Block → List ℕ) (block : Block) (text : List ℕ) : Type 0 where
  pub holds : passes block
  pub says : text ≡ shows block

-- or this test is the first that fails, and it is the cause.
pub record RefusesBlock {Block Refusal : Type 0} (is_refused : Block → Refusal → Type 0) (told : Refusal → Option (List ℕ)) (block : Block)
    (cause : List ℕ) : Type 0 where
  pub refusal : Refusal
  pub fails : is_refused block refusal
  pub says : told refusal ≡ Some cause

-- A block is accepted, and the next ones follow; or it is refused, and it is the last one of the report. `accepts` and `refuses`
-- say with which text.
pub data JudgesBlock {Block : Type 0} (accepts refuses : Block → List ℕ → Type 0) (number : ℕ) (block : Block) (next : List ℕ → ℕ → Type 0)
    (lines : List ℕ) (status : ℕ) : Type 0 where
  accepted : (text : List ℕ) → accepts block text → (rest : List ℕ) → next rest status → lines ≡ line (block_text number text) ++ rest
      → JudgesBlock accepts refuses number block next lines status
  refused : (cause : List ℕ) → refuses block cause → lines ≡ line (refused_text number cause) → status ≡ 7
      → JudgesBlock accepts refuses number block next lines status

-- the blocks in their order, counted from this number on: the lines on them, and the status
abbrev pub JudgesFrom : {Block : Type 0} → (Block → List ℕ → Type 0) → (Block → List ℕ → Type 0) → ℕ → List Block → List ℕ → ℕ → Type 0
JudgesFrom accepts refuses number [] lines status = (lines ≡ []) × (status ≡ 0)
JudgesFrom accepts refuses number (block ∷ blocks) lines status = JudgesBlock accepts refuses number block
    (JudgesFrom accepts refuses (number + 1) blocks) lines status

-- how a run ends over blocks
abbrev pub Judges : {Block : Type 0} → (Block → List ℕ → Type 0) → (Block → List ℕ → Type 0) → List Block → Ending → Type 0
Judges accepts refuses blocks ending = JudgesFrom accepts refuses 1 blocks ending.report ending.status

-- the lines on blocks that are all accepted
abbrev pub lines_on : {Block : Type 0} → (Block → List ℕ) → ℕ → List Block → List ℕ
lines_on shows number [] = []
lines_on shows number (block ∷ blocks) = line (block_text number (shows block)) ++ lines_on shows (number + 1) blocks
