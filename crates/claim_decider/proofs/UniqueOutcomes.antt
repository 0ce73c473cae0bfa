-- A claim has one outcome.
use Rattle.claim_decider.proofs.Prelude.{◌≡◌, ◌<◌, ◌≤◌, ◌⊎◌, inl, inr, ℕ, zero, suc, List, [], ◌∷◌, length, Result, Ok, Err, refl, sym, ap, subst, ◌∙◌, arith, cases_lt, Term, IsAdmissible, Made, Cofactors, Format, LemmaCertificate, ExpandFault, GatherFault, Cause, Place, expansion_of, gathered_of, Rule, State, ReduceFault, normal_form_of, Setting, RunState, Result_of_round, start, went, closed, stopped, IsCauseOf, IsRound, IsRunState, same_poly, cause_one, rounds_unique, states_unique, Outcome, IsCauseOfExpansion, IsCauseOfGathering, halted_at, IsHalted, record_of, Expands, Gathers, IsProved, IsLeft, IsDoneWith, IsDoneBy, IsDone, IsOpen, IsClosedWith, evidence_of_zero, GetsOutcome, at_once, after_round, by_closing, by_stop, OutcomesAreUnique}
use Rattle.traced_rows.specs.declared.evidence.Format.TheVariants as format
use Rattle.cofactor_trace.specs.declared.fault.ExpandFault.TheVariants as expand
use Rattle.cofactor_trace.specs.declared.fault.GatherFault.TheVariants as gather
use Rattle.cofactor_trace.specs.declared.halt.Place.TheVariants as place
use Rattle.claim_decider.specs.declared.outcome.Outcome.TheVariants as outcome

-- after one round
halted_once : (IsCause : Cause → Type 0) (at : Place) (one other : Outcome) → ((c d : Cause) → IsCause c → IsCause d → c ≡ d) → IsHalted IsCause at one → IsHalted IsCause at other → one ≡ other
halted_once IsCause at one other each first second =
    first.halts ∙ ap (halted_at at) (each first.reason second.reason first.reason_of second.reason_of) ∙ sym second.halts

expansion_cause_once : (e : ExpandFault) (c d : Cause) → IsCauseOfExpansion e c → IsCauseOfExpansion e d → c ≡ d
expansion_cause_once (expand.Overflow o) c d first second = first ∙ sym second
expansion_cause_once (expand.Rows letters) c d first second = first ∙ sym second
expansion_cause_once expand.Size c d first second = first ∙ sym second
expansion_cause_once (expand.Memory e) c d first second = absurd first

gathering_cause_once : (e : GatherFault) (c d : Cause) → IsCauseOfGathering e c → IsCauseOfGathering e d → c ≡ d
gathering_cause_once (gather.Overflow o) c d first second = first ∙ sym second
gathering_cause_once (gather.Rows letters) c d first second = first ∙ sym second
gathering_cause_once (gather.Memory e) c d first second = absurd first

expands_once : (number : ℕ) (at : Place) (r : Result Cofactors ExpandFault) (one other : Outcome) → Expands number at r one → Expands number at r other → one ≡ other
expands_once number at (Ok c) one other first second = first ∙ sym second
expands_once number at (Err e) one other first second = halted_once (IsCauseOfExpansion e) at one other (expansion_cause_once e) first second

gathers_once : (at : Place) (r : Result LemmaCertificate GatherFault) (one other : Outcome) → Gathers at r one → Gathers at r other → one ≡ other
gathers_once at (Ok c) one other first second = first ∙ sym second
gathers_once at (Err e) one other first second = halted_once (IsCauseOfGathering e) at one other (gathering_cause_once e) first second

proved_once : (form : Format) (number : ℕ) (at : Place) (made : List Made) (claim : Made) (one other : Outcome) → IsProved form number at made claim one → IsProved form number at made claim other → one ≡ other
proved_once format.Plain number at made claim one other first second = expands_once number at (expansion_of made claim) one other first second
proved_once format.Lemmas number at made claim one other first second = gathers_once at (gathered_of number made claim) one other first second

module _ (form : Format) (number round : ℕ) (made : List Made) where
  done_with_once : (reduced : State) (rest : List Term) (one other : Outcome) → IsDoneWith form number round made reduced rest one → IsDoneWith form number round made reduced rest other → one ≡ other
  done_with_once reduced [] one other first second = proved_once form number (place.Certificate round) made (record_of reduced) one other first second
  done_with_once reduced (t ∷ rest) one other first second = absurd first

  done_once : (r : Result State ReduceFault) (one other : Outcome) → IsDoneBy form number round made r one → IsDoneBy form number round made r other → one ≡ other
  done_once (Ok reduced) one other first second = done_with_once reduced reduced.rest one other first second
  done_once (Err e) one other first second = halted_once (IsCauseOf e) (place.Claim round) one other (cause_one e) first second

  not_left : (reduced : State) (rest : List Term) (o : Outcome) → 0 < length rest → IsDoneWith form number round made reduced rest o → ⊥
  not_left reduced [] o some done = omega (arith, some)
  not_left reduced (t ∷ rest) o some done = done

same_state : (x y : State) → ◌≡◌ {A = Result State ReduceFault} (Ok x) (Ok y) → x ≡ y
same_state x y same = cc

module _ (setting : Setting) (claim : List Term) where
  -- a claim of which something is left has no outcome yet
  left_is_not_done : (form : Format) (number round : ℕ) (s : RunState) (rest : List Term) (o : Outcome) → IsLeft setting s.rules claim rest → IsDone setting form number round s claim o → ⊥
  left_is_not_done form number round s rest o left done =
      let some : 0 < length left.reduced.rest = subst (λ (p : List Term). 0 < length p) (sym left.rest_is) left.nonzero in
      not_left form number round s.made left.reduced left.reduced.rest o some (subst (λ r. IsDoneBy form number round s.made r o) left.reduction done)

  closed_once : (rules : List Rule) (one other : Outcome) → IsClosedWith setting rules claim one → IsClosedWith setting rules claim other → one ≡ other
  closed_once rules one other first second =
      let reduced = same_state first.left.reduced second.left.reduced (sym first.left.reduction ∙ second.left.reduction) in
      let terms = sym first.left.rest_is ∙ ap (λ (s : State). s.rest) reduced ∙ second.left.rest_is in
      first.closes ∙ ap outcome.Closed (same_poly first.rest second.rest terms) ∙ sym second.closes

  -- the run
  pub open_claim : (n : ℕ) (s : RunState) → IsOpen setting claim n s → 0 < length claim
  open_claim zero s open_yet = open_yet.0
  open_claim (suc n) s open_yet = open_claim n open_yet.before open_yet.is_before

  pub open_run : (n : ℕ) (s : RunState) → IsOpen setting claim n s → IsRunState setting n s
  open_run zero s open_yet = open_yet.1
  open_run (suc n) s open_yet = record { before = open_yet.before; is_before = open_run n open_yet.before open_yet.is_before; round = open_yet.round }

  -- the claim was open before
  record Opened (n : ℕ) : Type 0 where
    state : RunState
    is : IsOpen setting claim n state

  open_before : (n m : ℕ) (s : RunState) → m ≤ n → IsOpen setting claim n s → Opened m
  open_before zero m s most open_yet = let none : 0 ≡ m = omega (arith, most) in record { state = s; is = subst (λ k. IsOpen setting claim k s) none open_yet }
  open_before (suc n) m s most open_yet = go (cases_lt n m) (λ (less : m ≤ n). open_before n m open_yet.before less open_yet.is_before)
    where
      go : (n < m) ⊎ (m ≤ n) → (m ≤ n → Opened m) → Opened m
      go (inl above) earlier = let same : suc n ≡ m = omega (arith, above, most) in record { state = s; is = subst (λ k. IsOpen setting claim k s) same open_yet }
      go (inr less) earlier = earlier less

  -- how many whole rounds there are with this one, and their state
  abbrev rounds_with : Result_of_round → ℕ → ℕ
  rounds_with (went s) n = suc n
  rounds_with closed n = n
  rounds_with (stopped halt) n = n

  abbrev state_with : Result_of_round → RunState → RunState
  state_with (went s) before = s
  state_with closed before = before
  state_with (stopped halt) before = before

  abbrev Decides : Format → ℕ → ℕ → RunState → Result_of_round → Outcome → Type 0
  Decides form number n before (went s) o = IsDone setting form number n s claim o
  Decides form number n before closed o = IsClosedWith setting before.rules claim o
  Decides form number n before (stopped halt) o = o ≡ outcome.Halted halt

  -- the round in which a claim gets its outcome
  record InRound (form : Format) (number rounds : ℕ) (s : RunState) (o : Outcome) : Type 0 where
    round : ℕ
    before : RunState
    result : Result_of_round
    is_open : IsOpen setting claim round before
    is_round : IsRound setting round before result
    decides : Decides form number round before result o
    rounds_are : rounds ≡ rounds_with result round
    state_is : s ≡ state_with result before

  -- at once, or in a round
  data Ways (form : Format) (number rounds : ℕ) (s : RunState) (o : Outcome) : Type 0 where
    none_needed : claim ≡ [] → rounds ≡ 0 → s ≡ start → o ≡ outcome.Derived (evidence_of_zero form number) → Ways form number rounds s o
    needed : InRound form number rounds s o → Ways form number rounds s o

  ways : (form : Format) (number rounds : ℕ) (s : RunState) (o : Outcome) → GetsOutcome setting form number claim rounds s o → Ways form number rounds s o
  ways form number rounds s o (at_once no_terms none_yet at_start is) = none_needed no_terms none_yet at_start is
  ways form number rounds s o (after_round n before more is_open round done) =
      needed (record { round = n; before = before; result = went s; is_open = is_open; is_round = round; decides = done; rounds_are = more; state_is = refl })
  ways form number rounds s o (by_closing is_open round closes) =
      needed (record { round = rounds; before = s; result = closed; is_open = is_open; is_round = round; decides = closes; rounds_are = refl; state_is = refl })
  ways form number rounds s o (by_stop halt is_open round is) =
      needed (record { round = rounds; before = s; result = stopped halt; is_open = is_open; is_round = round; decides = is; rounds_are = refl; state_is = refl })

  -- the same rounds, state and outcome
  pub record Same (r q : ℕ) (s t : RunState) (one other : Outcome) : Type 0 where
    pub rounds : r ≡ q
    pub states : s ≡ t
    pub outcomes : one ≡ other

  decided_once : (form : Format) (number n : ℕ) (before : RunState) (result : Result_of_round) (one other : Outcome) → Decides form number n before result one → Decides form number n before result other → one ≡ other
  decided_once form number n before (went s) one other first second = done_once form number n s.made (normal_form_of setting.compare s.rules claim setting.budget.steps) one other first second
  decided_once form number n before closed one other first second = closed_once before.rules one other first second
  decided_once form number n before (stopped halt) one other first second = first ∙ sym second

  module _ (letters : ℕ) (rank : List ℕ → List ℕ) (laws : IsAdmissible letters setting.compare rank) where
    same_open : (n : ℕ) (s t : RunState) → IsOpen setting claim n s → IsOpen setting claim n t → s ≡ t
    same_open n s t first second = states_unique letters rank setting n s t laws (open_run n s first) (open_run n t second)

    -- a claim that has its outcome isn't open later
    not_later : (form : Format) (number rounds q : ℕ) (s t : RunState) (o : Outcome) (one : InRound form number rounds s o) → one.round < q → IsOpen setting claim q t → ⊥
    not_later form number rounds q s t o one less open_later =
        let opened = open_before q (suc one.round) t less open_later in
        let same = same_open one.round opened.is.before one.before opened.is.is_before one.is_open in
        let round = subst (λ b. IsRound setting one.round b (went opened.state)) same opened.is.round in
        let result : one.result ≡ went opened.state = rounds_unique letters rank setting one.round one.before one.result (went opened.state) laws one.is_round round in
        left_is_not_done form number one.round opened.state opened.is.rest o opened.is.left (subst (λ x. Decides form number one.round one.before x o) result one.decides)

    same_round : (form : Format) (number r q : ℕ) (s t : RunState) (o p : Outcome) (one : InRound form number r s o) (other : InRound form number q t p) → one.round ≡ other.round → Same r q s t o p
    same_round form number r q s t o p one other same =
        let open_here : IsOpen setting claim other.round one.before = subst (λ k. IsOpen setting claim k one.before) same one.is_open in
        let before : one.before ≡ other.before = same_open other.round one.before other.before open_here other.is_open in
        let round_here : IsRound setting other.round other.before one.result =
        subst (λ b. IsRound setting other.round b one.result) before (subst (λ k. IsRound setting k one.before one.result) same one.is_round) in
        let result : one.result ≡ other.result = rounds_unique letters rank setting other.round other.before one.result other.result laws round_here other.is_round in
        let decides : Decides form number other.round other.before other.result o =
        subst (λ x. Decides form number other.round other.before x o) result
        (subst (λ b. Decides form number other.round b one.result o) before (subst (λ k. Decides form number k one.before one.result o) same one.decides)) in
        record {
          rounds = one.rounds_are ∙ (λ i. rounds_with (result i) (same i)) ∙ sym other.rounds_are;
          states = one.state_is ∙ (λ i. state_with (result i) (before i)) ∙ sym other.state_is;
          outcomes = decided_once form number other.round other.before other.result o p decides other.decides;
        }

    both_ways : (form : Format) (number r q : ℕ) (s t : RunState) (o p : Outcome) → Ways form number r s o → Ways form number q t p → Same r q s t o p
    both_ways form number r q s t o p (none_needed no_terms none_yet at_start is) (none_needed no_terms_too none_too at_start_too is_too) =
        record { rounds = none_yet ∙ sym none_too; states = at_start ∙ sym at_start_too; outcomes = is ∙ sym is_too }
    both_ways form number r q s t o p (none_needed no_terms none_yet at_start is) (needed other) = absurd (omega (arith, open_claim other.round other.before other.is_open, ap length no_terms))
    both_ways form number r q s t o p (needed one) (none_needed no_terms none_yet at_start is) = absurd (omega (arith, open_claim one.round one.before one.is_open, ap length no_terms))
    both_ways form number r q s t o p (needed one) (needed other) = go (cases_lt one.round other.round) (cases_lt other.round one.round)
      where
        go : (one.round < other.round) ⊎ (other.round ≤ one.round) → (other.round < one.round) ⊎ (one.round ≤ other.round) → Same r q s t o p
        go (inl less) _ = absurd (not_later form number r other.round s other.before o one less other.is_open)
        go (inr _) (inl more) = absurd (not_later form number q one.round t one.before p other more one.is_open)
        go (inr most) (inr least) = same_round form number r q s t o p one other (omega (arith, most, least))

    pub gets_once : (form : Format) (number r q : ℕ) (s t : RunState) (o p : Outcome) → GetsOutcome setting form number claim r s o → GetsOutcome setting form number claim q t p → Same r q s t o p
    gets_once form number r q s t o p first second = both_ways form number r q s t o p (ways form number r s o first) (ways form number q t p second)

pub outcomes_unique : OutcomesAreUnique
outcomes_unique letters rank setting form number claim one other laws first second =
    (gets_once setting claim letters rank laws form number first.rounds second.rounds first.state second.state one other first.gets second.gets).outcomes
