-- Each text has a tree or a first fault.
use Rattle.statement_syntax.proofs.Prelude.{◌≡◌, ◌⊎◌, inl, inr, ℕ, Bool, true, false, List, [], ◌∷◌, ◌++◌, Result, Ok, Err, refl, sym, ap, ◌∙◌, append_assoc, true≢false, IsUtf8, is_utf8, chars, utf8_valid_len, IsUtf8-from_is_utf8, is_utf8-from_IsUtf8, Spot, Token, Statement, Progress, Fault, fault, run, file_step, language_of, AreTokens, HasTokensOrFault, each_text_has_tokens_or_fault, IsFirstFault, not_utf8, TellsFirstFault, fault_at, IsTreeOf, begun, left, StoppedAt, AllRead, EachTextIsRead}
use Rattle.std.proofs.Common.{append-nil}
use Rattle.statement_syntax.proofs.Stopping.{Runs, goes_on, is_found, is_first, told_scanned}

-- all tokens are read, or one is the first that isn't
data Comes (ts : List Token) : Type 0 where
  to_end : (statements : List Statement) → AllRead ts statements → Comes ts
  to_misfit : (misfit : Fault) (at : Spot) → StoppedAt ts (fault_at misfit at) → Comes ts

comes_from : (ts front rest : List Token) (p : Progress) → left ts ≡ front ++ rest → Runs ts front p → Comes ts
comes_from ts front [] p splits ran = to_end p.statements (p, ap (run (file_step (language_of ts)) (begun ts)) (splits ∙ append-nil front) ∙ ran, refl)
comes_from ts front (t ∷ rest) p splits ran =
    by (file_step (language_of ts) p t) refl (λ next steps. comes_from ts (front ++ t ∷ []) rest next (splits ∙ sym (append_assoc front (t ∷ []) rest)) (goes_on ts front t p next ran steps))
  where
    by : (next : Result Progress Fault) → file_step (language_of ts) p t ≡ next → ((state : Progress) → file_step (language_of ts) p t ≡ Ok state → Comes ts) → Comes ts
    by (Ok next) steps more = more next steps
    by (Err misfit) stops more = to_misfit misfit t.at (record { front = front; token = t; rest = rest; splits = splits; progress = p; ran = ran; misfit = misfit; stops = stops; tells = refl })

comes : (ts : List Token) → Comes ts
unfolding run
comes ts = comes_from ts [] (left ts) (begun ts) refl refl

-- a text has a tree or a first fault
abbrev IsRead : List ℕ → Type 0
IsRead bytes = ((statements : List Statement) × IsTreeOf bytes statements) ⊎ ((f : Fault) × ((at : Spot) × IsFirstFault bytes f at))

module _ (bytes : List ℕ) (utf8 : IsUtf8 bytes) where
  faulted : (f : Fault) (at : Spot) → TellsFirstFault bytes (fault_at f at) → IsRead bytes
  faulted f at tells = inr (tells.0, (at, tells.2))

  read_on : (ts : List Token) → AreTokens (chars bytes) ts → Comes ts → IsRead bytes
  read_on ts read (to_end statements all) = inl (statements, is_found bytes ts statements utf8 read all)
  read_on ts read (to_misfit misfit at stopped) =
      faulted misfit at (is_first bytes ts (fault_at misfit at) utf8 read stopped)

  by_tokens : HasTokensOrFault (chars bytes) → IsRead bytes
  by_tokens (inl (ts, are)) = read_on ts are (comes ts)
  by_tokens (inr (f, at, first)) = faulted f at (told_scanned bytes _ f at refl utf8 first)

pub each_text_is_read : EachTextIsRead
each_text_is_read bytes = by (is_utf8 bytes) refl
  where
    by : (b : Bool) → is_utf8 bytes ≡ b → IsRead bytes
    by true is = by_tokens bytes (IsUtf8-from_is_utf8 bytes is) (each_text_has_tokens_or_fault (chars bytes))
    by false is = inr (fault.NotUtf8, (record { line = 0; column = utf8_valid_len bytes }, not_utf8 refl (λ utf8. true≢false (sym (is_utf8-from_IsUtf8 bytes utf8) ∙ is)) refl))
