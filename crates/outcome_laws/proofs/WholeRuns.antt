-- The invariant of whole runs, and what is pending.
use Rattle.outcome_laws.proofs.Prelude.{◌≡◌, inl, inr, zero, suc, List, [], ◌∷◌, refl, sym, ap, ◌∙◌, subst, arith, tied_itself, Less, Compare, Rule, Ambiguity, overlap_word_of, Waiting, IsWaitingBefore, NothingPending, AreAllPending, closed, RunsAreKept, ClosedIsNothingPending, FirstIsLeastPending, Contains}
use Rattle.outcome_laws.proofs.RoundEnds.{later_ends}
use Rattle.outcome_laws.proofs.Walks.{nothing_kept, run}

pub runs_are_kept : RunsAreKept
runs_are_kept q play letters rank setting n s laws each in_range is =
    let now = (run q play letters rank setting laws each in_range (λ r. Unit {0}) (nothing_kept q play letters rank setting laws each) n s is).0 in
    record { kept = now.0; typed = now.1 }

-- what is pending
pub none_pending : (compare : Compare) (rules : List Rule) (treated : List Ambiguity) → AreAllPending compare rules treated [] → NothingPending rules treated
none_pending compare rules treated all a is untreated =
    let found = (all.members (record { which = a; word = overlap_word_of rules a })).1 (record { is = is; untreated = untreated; overlap = refl }) in
    omega (arith, found.1)

pub closed_is_nothing_pending : ClosedIsNothingPending
closed_is_nothing_pending setting n s round = none_pending setting.compare s.rules s.treated (later_ends setting s (suc n) closed round)

pub first_is_least_pending : FirstIsLeastPending
first_is_least_pending letters compare rank rules treated w ws laws all a is untreated below = go ((all.members waiting).1 (record { is = is; untreated = untreated; overlap = refl }))
  where
    waiting : Waiting
    waiting = record { which = a; word = overlap_word_of rules a }

    not_above : IsWaitingBefore compare w waiting → ⊥
    not_above (inl less) = cc (sym (tied_itself laws.total w.word) ∙ (laws.total.trans w.word (overlap_word_of rules a) w.word less below.less))
    not_above (inr (same, later)) = cc (sym (tied_itself laws.total w.word) ∙ (subst (λ u. compare u w.word ≡ Less) (sym same) below.less))

    go : Contains (w ∷ ws) waiting → ⊥
    go (zero, inside, here) = cc (sym (tied_itself laws.total w.word) ∙ (subst (λ u. compare u w.word ≡ Less) (sym (ap (λ (v : Waiting). v.word) here)) below.less))
    go (suc k, inside, here) = not_above (subst (IsWaitingBefore compare w) here (all.ascending 0 (suc k) waiting (omega arith) inside))
