-- A stop may say less, and it is returned.
use Rattle.command_shape.proofs.Prelude.{◌≡◌, List, Result, Ok, Err, IfErr, subst, sym, IsErr, IsErrAnd, IsMemory, Stop, Fault, Ending, StopsBy, EndsAs}
use Rattle.lists.specs.declared.stop.Stop.TheVariants as why
use Rattle.command_shape.specs.Blocks as blocks

pub stops_weaker : (P Q : Ending → Type 0) → ((ending : Ending) → P ending → Q ending) → (stop : Stop Ending) → StopsBy P stop → StopsBy Q stop
stops_weaker P Q weaker (why.Fault ending) holds = weaker ending holds
stops_weaker P Q weaker (why.Memory failed) holds = tt

pub ends_weaker : (P Q : Ending → Type 0) → ((ending : Ending) → P ending → Q ending) → (result : Result Ending (Stop Ending)) → EndsAs P result → EndsAs Q result
ends_weaker P Q weaker (Ok ending) holds = weaker ending holds
ends_weaker P Q weaker (Err stop) holds = stops_weaker P Q weaker stop holds

-- a stop that `?` returns
pub handed_on : {A : Type 0} (P : Stop Ending → Type 0) (result : Result A (Stop Ending)) (stop : Stop Ending) → result ≡ Err stop → P stop → IfErr result P
handed_on {A} P result stop is holds = let F : Result A (Stop Ending) → Type 0 = λ r. IfErr r P in subst F (sym is) holds

pub ended_by : (P : Ending → Type 0) (result : Result Ending (Stop Ending)) (stop : Stop Ending) → result ≡ Err stop → StopsBy P stop → EndsAs P result
ended_by P result stop is holds = let F : Result Ending (Stop Ending) → Type 0 = λ r. EndsAs P r in subst F (sym is) holds

-- a step that ends the run ends it as is allowed
pub ended_as : (P : Ending → Type 0) (result : Result Ending (Stop Ending)) (ending : Ending) → result ≡ Err (why.Fault ending) → EndsAs P result → P ending
ended_as P result ending is holds = let F : Result Ending (Stop Ending) → Type 0 = λ r. EndsAs P r in subst F is holds

-- a step that wants memory has no ending
pub memory_ends : (P : Ending → Type 0) (result : Result Ending (Stop Ending)) → IsErr result → IsErrAnd result IsMemory → EndsAs P result
memory_ends P (Ok ending) fails wants = absurd (cc)
memory_ends P (Err (why.Fault ending)) fails wants = absurd wants
memory_ends P (Err (why.Memory failed)) fails wants = tt

pub over_evidence : {Block : Type 0} (are_blocks : List Block → Type 0) (is_first_fault : Fault → Type 0) (P Q : List Block → Ending → Type 0) (ending : Ending)
    → ((bs : List Block) → P bs ending → Q bs ending) → blocks.OverEvidence are_blocks is_first_fault P ending → blocks.OverEvidence are_blocks is_first_fault Q ending
over_evidence are_blocks is_first_fault P Q ending weaker (blocks.faulty fault is ends) = blocks.faulty fault is ends
over_evidence are_blocks is_first_fault P Q ending weaker (blocks.read bs is next) = blocks.read bs is (weaker bs next)

-- an evidence text that is refused ends the run
pub refused_evidence_ends : {Block : Type 0} (are_blocks : List Block → Type 0) (is_first_fault : Fault → Type 0) (next : List Block → Ending → Type 0) (result : Result Ending (Stop Ending)) (stop : Stop Ending) → result ≡ Err stop
    → StopsBy (blocks.OverEvidence are_blocks is_first_fault (λ _ _. ⊥)) stop → EndsAs (blocks.OverEvidence are_blocks is_first_fault next) result
refused_evidence_ends are_blocks is_first_fault next result stop is stops =
    ended_by (blocks.OverEvidence are_blocks is_first_fault next) result stop is
    (stops_weaker (blocks.OverEvidence are_blocks is_first_fault (λ _ _. ⊥)) (blocks.OverEvidence are_blocks is_first_fault next)
    (λ ending. over_evidence are_blocks is_first_fault (λ _ _. ⊥) next ending (λ bs none. absurd none)) stop stops)

-- over an evidence text that is read the run ends as over its blocks
pub read_ends : {Block : Type 0} (are_blocks : List Block → Type 0) (is_first_fault : Fault → Type 0) (next : List Block → Ending → Type 0) (bs : List Block) (result : Result Ending (Stop Ending)) → are_blocks bs
    → EndsAs (next bs) result → EndsAs (blocks.OverEvidence are_blocks is_first_fault next) result
read_ends are_blocks is_first_fault next bs result is ends = ends_weaker (next bs) (blocks.OverEvidence are_blocks is_first_fault next) (λ ending. blocks.read bs is) result ends
