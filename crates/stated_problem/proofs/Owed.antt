-- What a command owes: one ending for each contents of its files, a status of its own, and the sentence that its ending says.
use Rattle.stated_problem.proofs.Prelude.{◌≡◌, ◌≢◌, ◌≤◌, ◌⊎◌, inl, inr, ℕ, List, ap, arith, Structure, PreadditiveLaws, IsSound, IsEvidenceSound, IsCancellationSound, Problem, Ending, OverStatement, faulty, stated}
use Rattle.stated_problem.proofs.Statements.{statement_ends, statement_once}

-- no status that the run gives by itself
pub record IsOwn (status : ℕ) : Type 0 where
  pub not_usage : status ≢ 2
  pub not_loading : status ≢ 4
  pub not_cut : status ≢ 5
  pub not_memory : status ≢ 6

own_three : (status : ℕ) → status ≡ 3 → IsOwn status
own_three status is =
    record { not_usage = λ e. omega arith; not_loading = λ e. omega arith; not_cut = λ e. omega arith; not_memory = λ e. omega arith }

-- 0, or above those of the run
pub own_status : (status : ℕ) → (status ≡ 0) ⊎ (7 ≤ status) → IsOwn status
own_status status (inl is) = record { not_usage = λ e. omega arith; not_loading = λ e. omega arith; not_cut = λ e. omega arith; not_memory = λ e. omega arith }
own_status status (inr past) = record { not_usage = λ e. omega arith; not_loading = λ e. omega arith; not_cut = λ e. omega arith; not_memory = λ e. omega arith }

-- 0 or 7 is one of these
pub zero_or_past : (status : ℕ) → (status ≡ 0) ⊎ (status ≡ 7) → (status ≡ 0) ⊎ (7 ≤ status)
zero_or_past status (inl is) = inl is
zero_or_past status (inr is) = inr (omega (arith, is))

own_statement : (statement : List ℕ) (next : Problem → Ending → Type 0) (ending : Ending)
    → ((problem : Problem) → next problem ending → (ending.status ≡ 0) ⊎ (7 ≤ ending.status))
    → OverStatement statement next ending → IsOwn ending.status
own_statement statement next ending each (faulty text refused ends) = own_three ending.status (ap (λ (e : Ending). e.status) ends)
own_statement statement next ending each (stated problem is leads) = own_status ending.status (each problem leads)

-- what an ending says in a category
abbrev pub Sentence : Type 1
Sentence = (Object Arrow : Type 0) → Structure Object Arrow → Ending → Type 0

-- each of these endings says this, in each category
abbrev pub AreSaid : (Ending → Type 0) → Sentence → Type 1
AreSaid answers says = (Object Arrow : Type 0) (s : Structure Object Arrow) → PreadditiveLaws s → IsSound s → IsEvidenceSound s → IsCancellationSound s
    → (ending : Ending) → answers ending → says Object Arrow s ending

pub record OwesEnding (answers : Ending → Type 0) (says : Sentence) : Type 1 where
  pub one : (ending : Ending) × answers ending
  pub no_other : (ending ending' : Ending) → answers ending → answers ending' → ending ≡ ending'
  pub own : (ending : Ending) → answers ending → IsOwn ending.status
  pub sentence : AreSaid answers says

-- The same over each problem of a statement: it has one ending, whose status is 0 or above those of the run.
pub record OwesOver (answers : Problem → Ending → Type 0) : Type 0 where
  pub one : (problem : Problem) → (ending : Ending) × answers problem ending
  pub no_other : (problem : Problem) (ending ending' : Ending) → answers problem ending → answers problem ending' → ending ≡ ending'
  pub own : (problem : Problem) (ending : Ending) → answers problem ending → (ending.status ≡ 0) ⊎ (7 ≤ ending.status)

-- what is owed over each problem of a statement is owed over the statement
pub owed_over : (statement : List ℕ) (answers : Problem → Ending → Type 0) (says : Sentence) → OwesOver answers
    → AreSaid (OverStatement statement answers) says → OwesEnding (OverStatement statement answers) says
owed_over statement answers says owes sentence = record {
  one = statement_ends statement answers owes.one;
  no_other = λ ending ending' one other. statement_once statement answers ending ending' (λ problem. owes.no_other problem ending ending') one other;
  own = λ ending. own_statement statement answers ending (λ problem. owes.own problem ending);
  sentence = sentence;
}
