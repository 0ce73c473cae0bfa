-- While a claim that follows below a word is open, fewer pairs were treated than are enough for the word.
use Rattle.outcome_laws.proofs.Prelude.{◌≡◌, ◌⊎◌, inl, inr, ◌≤◌, ◌<◌, ◌-◌, ℕ, zero, suc, List, [], ◌∷◌, ◌++◌, length, take, min, Some, refl, sym, ap, ◌∙◌, subst, arith, append-nil, All, Less, cases_lt, length-map, length-take, All-head, Term, word_cmp, IsOver, word_cmp-cases, word_cmp-less_trans, word_cmp-length, Compare, asked_cmp, letter_count, quiver_of, Rule, IsRule, rule_at, leading-all, rule_at-all, Ambiguity, IsAmbiguity, overlap_word_of, Problem, claim_at, AreApart, NothingPendingBelow, ambiguity_more, overlap_word-more, overlap_in_play, round_limit, Budget, Waiting, AreAllPending, ambiguities_of, went, Setting, RunState, taken_count, setting_of, contains-first, pending-over, IsOpen, done_after, IsKeptState, asked_rank, open_run, letters_in_play, enough_pairs, IsShownBelow, OpenRunsTreatFew, Contains}
use Rattle.outcome_laws.proofs.RunsKept.{BeginsWith}
use Rattle.outcome_laws.proofs.WholeRuns.{first_is_least_pending}
use Rattle.outcome_laws.proofs.OpenRuns.{open_not_below}
use Rattle.outcome_laws.proofs.Cells.{HaveDistinctLeads, IsShort, short_are_few}
use Rattle.outcome_laws.proofs.Counting.{HasFirsts, none_taken, firsts_weaker, distinct_more, asked_more, firsts_more}
use Rattle.outcome_laws.proofs.LettersInPlay.{problem_play, all_in}
use Rattle.outcome_laws.proofs.ProblemStates.{order_laws, state_kept, rules_begin}
use Rattle.outcome_laws.proofs.RoundEnds.{zero_ends, later_ends}

-- leading words
leads_apart : (letters : ℕ) (compare : Compare) (rules : List Rule) → AreApart rules → All (IsRule letters compare) rules → HaveDistinctLeads rules
leads_apart letters compare rules apart are = record { nonempty = some; distinct = same }
  where
    some : (n : ℕ) (g : Rule) → rule_at rules n ≡ Some g → 0 < length g.lead
    some n g numbered =
        let is = rule_at-all (IsRule letters compare) rules n g numbered are in
        leading-all (λ t. 0 < length t.1) compare g.poly.terms (g.leading, g.lead) is.leading is.nonempty

    earlier : (i j : ℕ) (g h : Rule) → rule_at rules i ≡ Some g → rule_at rules j ≡ Some h → g.lead ≡ h.lead → i < j → ⊥
    earlier i j g h first second is before = apart.each i j g h first second before 0 (record { before = []; after = []; splits = sym is ∙ sym (append-nil g.lead); at_place = refl })

    same : (i j : ℕ) (g h : Rule) → rule_at rules i ≡ Some g → rule_at rules j ≡ Some h → g.lead ≡ h.lead → i ≡ j
    same i j g h first second is = go (cases_lt i j) (cases_lt j i)
      where
        go : (i < j) ⊎ (j ≤ i) → (j < i) ⊎ (i ≤ j) → i ≡ j
        go (inl before) _ = absurd (earlier i j g h first second is before)
        go (inr _) (inl before) = absurd (earlier j i h g second first (sym is) before)
        go (inr after) (inr before) = omega (arith, after, before)

-- a claim that follows below a word
module _ (problem : Problem) (budget : Budget) (number : ℕ) (word : List ℕ) (shown : IsShownBelow problem number word) where
  abbrev setting : Setting
  setting = setting_of problem budget

  abbrev letters : ℕ
  letters = letter_count problem.parts.quiver

  abbrev compare : Compare
  compare = asked_cmp problem.parts.order

  abbrev claim : List Term
  claim = claim_at problem number

  canonical : compare ≡ word_cmp
  canonical = ap asked_cmp shown.order

  -- an ambiguity of the rules whose overlap word is below the word
  record IsAsked (rules : List Rule) (a : Ambiguity) : Type 0 where
    is : IsAmbiguity rules a
    less : word_cmp (overlap_word_of rules a) word ≡ Less

  asked_stays : (rules after : List Rule) → BeginsWith rules after → (a : Ambiguity) → IsAsked rules a → IsAsked after a
  asked_stays rules after begins a asked =
      subst (λ rs. IsAsked rs a) (sym begins.is)
      (record { is = ambiguity_more rules begins.more a asked.is; less = subst (λ w. word_cmp w word ≡ Less) (sym (overlap_word-more rules begins.more a asked.is)) asked.less })

  -- after a whole round that leaves a rest of the claim
  module _ (n : ℕ) (s : RunState) (opened : IsOpen setting claim (suc n) s) where
    now : IsKeptState (quiver_of problem.parts.quiver) (problem_play problem) letters setting (done_after setting (suc n)) s
    now = state_kept problem budget (suc n) s (open_run setting claim (suc n) s opened)

    leads : HaveDistinctLeads s.rules
    leads = leads_apart letters compare s.rules now.kept.apart now.kept.are_rules

    short : (a : Ambiguity) → IsAsked s.rules a → IsShort s.rules (letters_in_play problem) (length word) a
    short a asked = record {
      is = asked.is;
      in_letters = all_in problem (overlap_word_of s.rules a) (overlap_in_play (quiver_of problem.parts.quiver) (problem_play problem) letters compare s.rules now.kept.are_rules now.typed a asked.is);
      short = word_cmp-length (overlap_word_of s.rules a) word asked.less;
    }

    -- where one more is pending, the counted ones are few
    treated_few : HasFirsts (IsAsked s.rules) s.treated → (a : Ambiguity) → IsAsked s.rules a → (Contains s.treated a → ⊥) → length s.treated < enough_pairs problem word
    treated_few firsts a asked new =
        omega (
          arith,
          firsts.many,
          short_are_few s.rules leads (letters_in_play problem) (length word) (a ∷ firsts.firsts) (distinct_more (IsAsked s.rules) s.treated firsts a asked new)
              (λ b m. short b (asked_more (IsAsked s.rules) s.treated firsts a asked new b m)),
        )

    none_below : NothingPendingBelow letters compare s.rules s.treated word → ⊥
    none_below none = open_not_below problem budget number n s opened word none shown.follows

    -- the first pending one is below the word
    first_below : (w : Waiting) (ws : List Waiting) → AreAllPending compare s.rules s.treated (w ∷ ws) → word_cmp w.word word ≡ Less
    first_below w ws all = go (word_cmp-cases w.word word)
      where
        least : NothingPendingBelow letters compare s.rules s.treated w.word
        least = first_is_least_pending letters compare (asked_rank letters problem.parts.order) s.rules s.treated w ws (order_laws problem budget) all

        over : IsOver letters w.word
        over = All-head (λ (v : Waiting). IsOver letters v.word) w ws (pending-over letters compare s.rules s.treated (w ∷ ws) now.kept.are_rules all)

        go : (w.word ≡ word) ⊎ ((word_cmp w.word word ≡ Less) ⊎ (word_cmp word w.word ≡ Less)) → word_cmp w.word word ≡ Less
        go (inl same) = absurd (none_below (subst (NothingPendingBelow letters compare s.rules s.treated) same least))
        go (inr (inl less)) = less
        go (inr (inr above)) = absurd (none_below (λ a is new below. least a is new
            (record {
              left = below.left;
              right = over;
              less = subst (λ c. c (overlap_word_of s.rules a) w.word ≡ Less) (sym canonical)
                  (word_cmp-less_trans (overlap_word_of s.rules a) word w.word (subst (λ c. c (overlap_word_of s.rules a) word ≡ Less) canonical below.less) above);
            })))

  -- rounds
  small : (pairs treated pending : ℕ) → min round_limit (min (pairs - treated) pending) ≤ round_limit
  small pairs treated pending = omega arith

  some_taken : (pairs treated pending : ℕ) → treated < pairs → 0 < min round_limit (min (pairs - treated) (suc pending))
  some_taken pairs treated pending left = omega (arith, left)

  takes : (count : ℕ) (w : Waiting) (ws : List Waiting) → 0 < count → Contains (ambiguities_of (take count (w ∷ ws))) w.which
  takes zero w ws some = absurd (omega (arith, some))
  takes (suc count) w ws some = (0, omega arith, refl)

  firsts_of : (n : ℕ) (s : RunState) → IsOpen setting claim (suc n) s → HasFirsts (IsAsked s.rules) s.treated
  firsts_of zero s opened =
      subst (HasFirsts (IsAsked s.rules)) (sym ((zero_ends setting opened.before (went s) opened.round).1 ∙ ap (λ (t : RunState). t.treated) opened.is_before.1)) (none_taken (IsAsked s.rules))
  firsts_of (suc n) s opened =
      let before = opened.before in
      let round = later_ends setting before (suc n) (went s) opened.round in
      let taken = round.takes in
      let begins = rules_begin problem budget n before s (open_run setting claim (suc n) before opened.is_before) round in
      let pending = taken.first ∷ taken.others in
      let count = taken_count budget before pending in
      let waits = (taken.all_pending.members taken.first).0 (contains-first taken.first taken.others) in
      let asked : IsAsked before.rules taken.first.which = record { is = waits.is; less = subst (λ w. word_cmp w word ≡ Less) waits.overlap (first_below n before opened.is_before taken.first taken.others taken.all_pending) } in
      subst (HasFirsts (IsAsked s.rules)) (sym round.treated)
      (firsts_weaker (IsAsked before.rules) (IsAsked s.rules) (asked_stays before.rules s.rules begins) (before.treated ++ ambiguities_of (take count pending))
      (firsts_more (IsAsked before.rules) before.treated (firsts_of n before opened.is_before) taken.first.which asked waits.untreated (ambiguities_of (take count pending))
      (takes count taken.first taken.others (some_taken budget.pairs (length before.treated) (length taken.others) taken.pairs_left))
      (omega (arith, length-map (take count pending) (λ w. w.which), length-take count pending, small budget.pairs (length before.treated) (length pending)))))

  few : (n : ℕ) (s : RunState) → IsOpen setting claim (suc n) s → length s.treated < enough_pairs problem word
  few n s opened = go (cases_lt (length s.treated) (enough_pairs problem word))
    where
      go : (length s.treated < enough_pairs problem word) ⊎ (enough_pairs problem word ≤ length s.treated) → length s.treated < enough_pairs problem word
      go (inl less) = less
      go (inr over) = absurd (none_below n s opened (λ a is new below.
          let less = treated_few n s opened (firsts_of n s opened) a (record { is = is; less = subst (λ c. c (overlap_word_of s.rules a) word ≡ Less) canonical below.less }) new in
          omega (arith, less, over)))

pub open_runs_treat_few : OpenRunsTreatFew
open_runs_treat_few problem budget number word rounds s shown opened = few problem budget number word shown rounds s opened
