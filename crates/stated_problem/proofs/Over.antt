-- The ending of a statement may say less, and it is returned.
use Rattle.stated_problem.proofs.Prelude.{◌≡◌, ℕ, List, Result, Err, Stop, Problem, Ending, StopsBy, EndsAs, stops_weaker, ends_weaker, ended_by, OverStatement, faulty, stated, IsStated}

pub over_stated : (bytes : List ℕ) (P Q : Problem → Ending → Type 0) (ending : Ending) → ((problem : Problem) → IsStated bytes problem → P problem ending → Q problem ending)
    → OverStatement bytes P ending → OverStatement bytes Q ending
over_stated bytes P Q ending weaker (faulty text refused is) = faulty text refused is
over_stated bytes P Q ending weaker (stated problem is next) = stated problem is (weaker problem is next)

pub over_statement : (bytes : List ℕ) (P Q : Problem → Ending → Type 0) (ending : Ending) → ((problem : Problem) → P problem ending → Q problem ending) → OverStatement bytes P ending → OverStatement bytes Q ending
over_statement bytes P Q ending weaker = over_stated bytes P Q ending (λ problem is. weaker problem)

-- a statement that is refused ends the run
pub refused_statement_ends : (bytes : List ℕ) (next : Problem → Ending → Type 0) (result : Result Ending (Stop Ending)) (stop : Stop Ending) → result ≡ Err stop → StopsBy (OverStatement bytes (λ _ _. ⊥)) stop
    → EndsAs (OverStatement bytes next) result
refused_statement_ends bytes next result stop is stops =
    ended_by (OverStatement bytes next) result stop is
    (stops_weaker (OverStatement bytes (λ _ _. ⊥)) (OverStatement bytes next) (λ ending. over_statement bytes (λ _ _. ⊥) next ending (λ problem none. absurd none)) stop stops)

-- over a statement that is read the run ends as over its problem
pub stated_ends : (bytes : List ℕ) (next : Problem → Ending → Type 0) (problem : Problem) (result : Result Ending (Stop Ending)) → IsStated bytes problem → EndsAs (next problem) result
    → EndsAs (OverStatement bytes next) result
stated_ends bytes next problem result is ends = ends_weaker (next problem) (OverStatement bytes next) (λ ending. stated problem is) result ends
