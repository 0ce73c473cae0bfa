-- The statuses of verdicts.
use Rattle.report_text.proofs.Prelude.{◌≡◌, ◌≤◌, ◌⊎◌, inl, inr, ℕ, Bool, true, false, List, if◌then◌else◌, refl, arith, list_any, list_all, Verdict, status_of, is_proved, is_refuted, is_undecided, is_not_refuted}

by_tests : (status : ℕ) (some_undecided some_not_refuted some_refuted all_proved : Bool)
    → status ≡ (if some_undecided then 12 else (if some_not_refuted then 13 else (if some_refuted then 11 else (if all_proved then 0 else 10))))
    → (status ≡ 0) ⊎ (7 ≤ status)
by_tests status true some_not_refuted some_refuted all_proved is = inr (omega (arith, is))
by_tests status false true some_refuted all_proved is = inr (omega (arith, is))
by_tests status false false true all_proved is = inr (omega (arith, is))
by_tests status false false false true is = inl is
by_tests status false false false false is = inr (omega (arith, is))

-- 0, or above those that a run gives by itself
pub verdicts_status : (status : ℕ) (verdicts : List Verdict) → status ≡ status_of verdicts → (status ≡ 0) ⊎ (7 ≤ status)
verdicts_status status verdicts is = by_tests status (list_any is_undecided verdicts) (list_any is_not_refuted verdicts) (list_any is_refuted verdicts) (list_all is_proved verdicts) is
