-- What follows of an ending that is allowed, once it is put.
use Rattle.command_runs.proofs.Prelude.{take, ◌≡◌, ◌≢◌, ◌⊎◌, inl, inr, ℕ, List, map, string_bytes, refl, sym, ◌∙◌, ap, subst, arith, String, Global, Structure, PreadditiveLaws, IsSound, IsEvidenceSound, IsCancellationSound, subcommand_of, command_set, usage_text, one_call, FileWord, Call, files_of, IsCalled, IsTaken, Ending, usage, too_long, AfterFiles, AreHeld, IsMissing, IsFirstTooLong, Answers, EndsBy, MayEnd, other_words, called, IsPut, whole, in_part, SaysLoadFailed, SaysTooLong, SaysAnswer, Run, Says, HasMeaning, IsMeant, PutsWhatIsMeant, SaysEquations}
use Rattle.command_runs.proofs.AfterFiles.{Failed, Long, All, Kind, failed, long, all, kind, held, missing, first_too_long, after_weaker}
use Rattle.command_runs.proofs.Commands.{answers_once, answer_status, answers_say}
use Rattle.command_runs.proofs.PromisedCalls.{call_is_meant}

status_is : {ending end : Ending} → ending ≡ end → ending.status ≡ end.status
status_is same = ap (λ (e : Ending). e.status) same

-- the words of two calls
same_call : (words : List (String Global)) (call other : Call) → IsCalled words call → IsCalled words other → call ≡ other
same_call words call other one two = one_call (subcommand_of command_set (map string_bytes words)) call other one.names two.names

module _ (words : List (String Global)) (run : Run) (ending : Ending) (status : ℕ) (may : MayEnd words run.told run.rose ending) (put : IsPut run.put run.finished run.sink_rose ending status) where
  -- the ending of a call goes by its files
  at_files : (call : Call) → IsCalled words call → AfterFiles run.told run.rose (files_of call) (Answers call) ending
  at_files call is = by may
    where
      by : MayEnd words run.told run.rose ending → AfterFiles run.told run.rose (files_of call) (Answers call) ending
      by (other_words not_taken ends) = absurd (not_taken is.taken)
      by (called other is' after) = let P : Call → Type 0 = λ c. AfterFiles run.told run.rose (files_of c) (Answers c) ending in subst P (same_call words other call is' is) after

  -- where it is put with the status of an end that isn't 5
  as_put : (end : Ending) → ending ≡ end → status ≢ 5 → (status ≡ end.status) × run.put end.report × run.finished
  as_put end is not_five = by put
    where
      P : Ending → Type 0
      P e = (status ≡ e.status) × run.put e.report × run.finished

      by : IsPut run.put run.finished run.sink_rose ending status → (status ≡ end.status) × run.put end.report × run.finished
      by (whole same report finished) = let Q : Ending → Type 0 = λ e. (status ≡ e.status) × run.put e.report × run.finished in subst Q is (same, report, finished)
      by (in_part five rose count first) = absurd (not_five five)

  -- how a run ends
  pub data Way : Type 0 where
    by_words : (IsTaken words → ⊥) → ending ≡ usage usage_text → Way
    by_load : (call : Call) → IsCalled words call → Failed run.told run.rose (files_of call) ending → Way
    by_limit : (call : Call) → IsCalled words call → Long run.told run.rose (files_of call) ending → Way
    by_answer : (call : Call) → IsCalled words call → All run.told run.rose (files_of call) (Answers call) ending → Way

  way : Way
  way = by may
    where
      cases : (call : Call) → IsCalled words call → Kind run.told run.rose (files_of call) (Answers call) ending → Way
      cases call is (failed f) = by_load call is f
      cases call is (long l) = by_limit call is l
      cases call is (all a) = by_answer call is a

      by : MayEnd words run.told run.rose ending → Way
      by (other_words not_taken ends) = by_words not_taken ends
      by (called call is after) = cases call is (kind run.told run.rose (files_of call) (Answers call) ending after)

  -- an ending has none of the statuses of a run that is cut short
  not_five : ending.status ≡ 5 → ⊥
  not_five five = by way
    where
      by : Way → ⊥
      by (by_words _ is) = let two = status_is is in omega arith
      by (by_load call _ f) = let four = status_is f.is in omega arith
      by (by_limit call _ l) = let four = status_is l.is in omega arith
      by (by_answer call _ a) = (answer_status call a.contents ending a.leads).not_cut five

  not_six : ending.status ≡ 6 → ⊥
  not_six six = by way
    where
      by : Way → ⊥
      by (by_words _ is) = let two = status_is is in omega arith
      by (by_load call _ f) = let four = status_is f.is in omega arith
      by (by_limit call _ l) = let four = status_is l.is in omega arith
      by (by_answer call _ a) = (answer_status call a.contents ending a.leads).not_memory six

  pub never_six : status ≡ 6 → ⊥
  never_six six = by put
    where
      by : IsPut run.put run.finished run.sink_rose ending status → ⊥
      by (whole same report finished) = not_six (sym same ∙ six)
      by (in_part five rose count first) = omega arith

  pub reported : status ≢ 5 → (end : Ending) × MayEnd words run.told run.rose end × (end.status ≡ status) × run.put end.report × run.finished
  reported other = let done = as_put ending refl other in (ending, may, sym done.0, done.1, done.2)

  pub sink_failed : status ≡ 5 → run.sink_rose
  sink_failed five = by put
    where
      by : IsPut run.put run.finished run.sink_rose ending status → run.sink_rose
      by (whole same report finished) = absurd (not_five (sym same ∙ five))
      by (in_part _ rose count first) = rose

  pub cut_short : status ≡ 5 → (end : Ending) × MayEnd words run.told run.rose end × ((count : ℕ) × run.put (take count end.report))
  cut_short five = by put
    where
      by : IsPut run.put run.finished run.sink_rose ending status → (end : Ending) × MayEnd words run.told run.rose end × ((count : ℕ) × run.put (take count end.report))
      by (whole same report finished) = absurd (not_five (sym same ∙ five))
      by (in_part _ rose count first) = (ending, may, (count, first))

  pub only_usage : status ≡ 2 → IsTaken words → ⊥
  only_usage two taken = by way
    where
      same : status ≡ ending.status
      same = (as_put ending refl (λ e. omega arith)).0

      by : Way → ⊥
      by (by_words not_taken is) = not_taken taken
      by (by_load call _ f) = let four = status_is f.is in omega (arith, same)
      by (by_limit call _ l) = let four = status_is l.is in omega (arith, same)
      by (by_answer call _ a) = (answer_status call a.contents ending a.leads).not_usage (sym same ∙ two)

  pub told_other_words : (IsTaken words → ⊥) → (status ≡ 2) ⊎ (status ≡ 5) ⊎ (status ≡ 6)
  told_other_words not_taken = by way put
    where
      by : Way → IsPut run.put run.finished run.sink_rose ending status → (status ≡ 2) ⊎ (status ≡ 5) ⊎ (status ≡ 6)
      by _ (in_part five rose count first) = inr (inl five)
      by (by_words _ is) (whole same report finished) = inl (same ∙ status_is is)
      by (by_load call is f) (whole same report finished) = absurd (not_taken is.taken)
      by (by_limit call is l) (whole same report finished) = absurd (not_taken is.taken)
      by (by_answer call is a) (whole same report finished) = absurd (not_taken is.taken)

  says_load_failed : (call : Call) → Failed run.told run.rose (files_of call) ending → status ≢ 5 → SaysLoadFailed run (files_of call)
  says_load_failed call f other = record { file = f.file; reached = f.reached; cause = f.cause; printed = (as_put _ f.is other).1 }

  pub not_loaded : status ≡ 4 → (call : Call) × IsCalled words call × (SaysLoadFailed run (files_of call) ⊎ SaysTooLong run (files_of call))
  not_loaded four = by way
    where
      other : status ≢ 5
      other = λ e. omega arith

      by : Way → (call : Call) × IsCalled words call × (SaysLoadFailed run (files_of call) ⊎ SaysTooLong run (files_of call))
      by (by_words _ is) = let two = (as_put (usage usage_text) is (λ e. omega arith)).0 in absurd (omega arith)
      by (by_load call is f) = (call, is, inl (says_load_failed call f (λ e. omega arith)))
      by (by_limit call is l) = (call, is, inr (record { file = l.file; reached = l.reached; long = l.long; printed = (as_put _ l.is (λ e. omega arith)).1 }))
      by (by_answer call is a) = absurd ((answer_status call a.contents ending a.leads).not_loading (sym (as_put ending refl (λ e. omega arith)).0 ∙ four))

  pub told_missing : (call : Call) → IsCalled words call → IsMissing run.told (files_of call) → ((status ≡ 4) × SaysLoadFailed run (files_of call)) ⊎ (status ≡ 5)
  told_missing call is is_missing = by put
    where
      gone : Failed run.told run.rose (files_of call) ending
      gone = missing run.told run.rose (files_of call) (Answers call) ending is_missing (at_files call is)

      by : IsPut run.put run.finished run.sink_rose ending status → ((status ≡ 4) × SaysLoadFailed run (files_of call)) ⊎ (status ≡ 5)
      by (whole same report finished) =
          let four : status ≡ 4 = same ∙ status_is gone.is in
          inl (four, says_load_failed call gone (λ e. omega arith))
      by (in_part five rose count first) = inr five

  pub told_too_long : (call : Call) (file : FileWord) → IsCalled words call → IsFirstTooLong run.told run.rose (files_of call) file → ((status ≡ 4) × run.put (too_long file.name file.limit).report) ⊎ (status ≡ 5)
  told_too_long call file is past = by put
    where
      ends : ending ≡ too_long file.name file.limit
      ends = first_too_long run.told run.rose (files_of call) file (Answers call) ending past (at_files call is)

      by : IsPut run.put run.finished run.sink_rose ending status → ((status ≡ 4) × run.put (too_long file.name file.limit).report) ⊎ (status ≡ 5)
      by (whole same report finished) =
          let four : status ≡ 4 = same ∙ status_is ends in
          inl (four, (as_put _ ends (λ e. omega arith)).1)
      by (in_part five rose count first) = inr five

  pub answered : status ≢ 2 → status ≢ 4 → status ≢ 5 → SaysAnswer words run status
  answered not_two not_four other = by way
    where
      by : Way → SaysAnswer words run status
      by (by_words _ is) = absurd (not_two (as_put (usage usage_text) is other).0)
      by (by_load call _ f) = absurd (not_four (as_put _ f.is other).0)
      by (by_limit call _ l) = absurd (not_four (as_put _ l.is other).0)
      by (by_answer call is a) =
          let done = as_put ending refl other in
          record { call = call; is_called = is; contents = a.contents; loaded = a.loaded; ending = ending; answer = a.leads; same_status = done.0; printed = done.1 }

  pub complete : (call : Call) (contents : List (List ℕ)) (end : Ending) → IsCalled words call → AreHeld run.told run.rose (files_of call) contents → (run.sink_rose → ⊥) → Answers call contents end
      → (status ≡ end.status) × run.put end.report × run.finished
  complete call contents end is are steady answer = by put
    where
      same : ending ≡ end
      same = answers_once call contents ending end (held run.told run.rose (files_of call) (Answers call) contents ending are (at_files call is)) answer

      by : IsPut run.put run.finished run.sink_rose ending status → (status ≡ end.status) × run.put end.report × run.finished
      by (whole at report finished) = let P : Ending → Type 0 = λ e. (status ≡ e.status) × run.put e.report × run.finished in subst P same (at, report, finished)
      by (in_part five rose count first) = absurd (steady rose)

  pub meaning : {Object Arrow : Type 0} {s : Structure Object Arrow} → PreadditiveLaws s → IsSound s → IsEvidenceSound s → IsCancellationSound s → HasMeaning s words run status
  meaning {s} laws sound with_lemmas cancelling = record { ending = ending; put = put; ends = by may }
    where
      by : MayEnd words run.told run.rose ending → EndsBy (λ call contents end. Answers call contents end × Says s call contents end) words run.told run.rose ending
      by (other_words not_taken ends) = other_words not_taken ends
      by (called call is after) =
          called call is
          (after_weaker run.told run.rose (files_of call) (Answers call) (λ contents end. Answers call contents end × Says s call contents end) ending (λ contents answer. (answer, answers_say laws sound with_lemmas cancelling call contents ending answer)) after)

  -- each line of what was put means what it says
  pub meant : {Object Arrow : Type 0} {s : Structure Object Arrow} → PreadditiveLaws s → IsSound s → IsEvidenceSound s → IsCancellationSound s → SaysEquations s → PutsWhatIsMeant s words run status
  meant {s} laws sound with_lemmas cancelling equations not_two not_three not_four not_five not_six = by way
    where
      by : Way → IsMeant s words run
      by (by_words _ is) = absurd (not_two (as_put (usage usage_text) is not_five).0)
      by (by_load call _ f) = absurd (not_four (as_put _ f.is not_five).0)
      by (by_limit call _ l) = absurd (not_four (as_put _ l.is not_five).0)
      by (by_answer call is a) =
          let done = as_put ending refl not_five in
          record {
            call = call;
            is_called = is;
            contents = a.contents;
            loaded = a.loaded;
            bytes = ending.report;
            put = done.1;
            lines = call_is_meant laws sound with_lemmas cancelling equations call a.contents ending a.leads (λ three. not_three (done.0 ∙ three));
          }
