-- What a step of the completion makes of a claim.
use Rattle.claim_decider.proofs.Prelude.{list_any_at, ◌≡◌, ◌<◌, ◌≤◌, ◌⊎◌, inl, inr, ℕ, suc, ◌+◌, ◌-◌, List, [], ◌∷◌, length, get_or, Bool, true, false, refl, sym, ap, subst, arith, ⊤, All, AllZip, list_any, AllZip-get_or, length_all_zip, All-nil, All-cons, All-map, get_or-map, length-map, Term, Poly, Format, Made, Rule, Ambiguity, Problem, claim_at, Completion, Step, Setting, RunState, went, IsRound, setting_of, outcome_of, rounds_after, IsUnchangedAfter, state_of, Outcome, Case, Standing, Open, Settled, IsDone, IsOpen, GetsOutcome, after_round, by_closing, by_stop, IsOutcomeOf, GetsOutcomeAt, GetsOutcomeBy, OneGetsOutcomeAt, IsLastRound, AreOutcomesOf, IsJudged, OpenFollows, StandingFollows, Follows, HasGot, IsOpenWith, Stands, IsCase, HasOutcome, IsSettled, Gives, case_numbers}
use Rattle.traced_completion.specs.declared.completion.Step.TheVariants as step
use Rattle.claim_decider.proofs.CaseLists.{AllZip-kept, AllZip-mapped}

-- a claim that has just got its outcome, or is open
abbrev pub IsLate : Setting → Format → ℕ → List Term → ℕ → RunState → Standing → Type 0
IsLate setting form number claim rounds s (Open rest) = ⊤
IsLate setting form number claim rounds s (Settled o) = GetsOutcome setting form number claim rounds s o

abbrev pub IsLateCase : Setting → Format → Problem → ℕ → RunState → Case → Type 0
IsLateCase setting form problem rounds s x = IsLate setting form x.number (claim_at problem x.number) rounds s x.standing

-- one of the claims is such
pub record LateOne (setting : Setting) (form : Format) (problem : Problem) (cases : List Case) (rounds : ℕ) (s : RunState) : Type 0 where
  pub place : ℕ
  pub within : place < length cases
  pub late : (d : Case) → IsLateCase setting form problem rounds s (get_or cases place d)

-- one of the claims is open
pub record OpenOne (cases : List Case) : Type 0 where
  pub place : ℕ
  pub within : place < length cases
  pub yet : (d : Case) → HasOutcome (get_or cases place d).standing → ⊥

open_first : (x : Case) (cases : List Case) (standing : Standing) → x.standing ≡ standing → (All IsSettled (x ∷ cases) → ⊥)
    → ((All IsSettled cases → ⊥) → OpenOne cases) → OpenOne (x ∷ cases)
open_first x cases (Open rest) is yet later = record { place = 0; within = omega arith; yet = λ d has. subst HasOutcome is has }
open_first x cases (Settled o) is yet later =
    let one = later (λ each. yet (All-cons IsSettled x cases (subst HasOutcome (sym is) tt) each)) in
    record { place = suc one.place; within = omega (arith, one.within); yet = one.yet }

pub find_open : (cases : List Case) → (All IsSettled cases → ⊥) → OpenOne cases
find_open [] yet = absurd (yet (All-nil IsSettled))
find_open (x ∷ cases) yet = open_first x cases x.standing refl yet (find_open cases)

-- how many rounds there can still be, where a claim is open
abbrev pub is_open : Standing → Bool
is_open (Open rest) = true
is_open (Settled o) = false

abbrev pub if_any : Bool → ℕ → ℕ
if_any true n = n
if_any false n = 0

abbrev pub left_for : List Case → ℕ → ℕ → ℕ
left_for cases rounds pairs = if_any (list_any (λ x. is_open x.standing) cases) ((pairs + 2) - rounds)

-- the run ends with this step
abbrev pub EndsRun : Step → Type 0
EndsRun step.Went = ⊥
EndsRun step.Closed = ⊤
EndsRun (step.Stopped halt) = ⊤

-- nothing has changed, unless the round was made whole
abbrev pub UnlessWent : Step → Type 0 → Type 0
UnlessWent step.Went P = ⊤
UnlessWent step.Closed P = P
UnlessWent (step.Stopped halt) P = P

-- The step from one state to the next.
pub record Steps (setting : Setting) (st : Step) (n rounds : ℕ) (before s : RunState) : Type 0 where
  pub round : IsRound setting n before (outcome_of st s)
  pub rounds_are : rounds ≡ rounds_after st n
  pub unless_went : UnlessWent st (s ≡ before)

-- both facts of the standing after it
pub record Stood (setting : Setting) (form : Format) (number : ℕ) (claim : List Term) (rounds : ℕ) (s : RunState) (new : Standing) : Type 0 where
  pub stands : Stands setting form number claim rounds s new
  pub late : IsLate setting form number claim rounds s new

module _ (setting : Setting) (form : Format) (number : ℕ) (claim : List Term) where
  judged : (n rounds : ℕ) (before s : RunState) (rest : Poly) (new : Standing) → IsOpenWith setting claim n before rest.terms → IsRound setting n before (went s) → rounds ≡ suc n
      → IsJudged setting form number claim (rounds - 1) s new → Stood setting form number claim rounds s new
  judged n rounds before s rest (Open left) is_open round more judges =
      record {
        stands = record {
          open_yet = subst (λ k. IsOpen setting claim k s) (sym more) (record { before = before; is_before = is_open.open_yet; round = round; rest = left.terms; left = judges });
          left = judges;
        };
        late = tt;
      }
  judged n rounds before s rest (Settled o) is_open round more judges =
      let same : rounds - 1 ≡ n = omega arith in
      let gets = after_round n before more is_open.open_yet round (subst (λ k. IsDone setting form number k s claim o) same judges) in
      record { stands = record { rounds = rounds; state = s; gets = gets; early = omega arith }; late = gets }

  settled_by : (rounds : ℕ) (s : RunState) (o : Outcome) (new : Standing) → new ≡ Settled o → GetsOutcome setting form number claim rounds s o → Stood setting form number claim rounds s new
  settled_by rounds s o new is gets =
      subst (Stood setting form number claim rounds s) (sym is) (record { stands = record { rounds = rounds; state = s; gets = gets; early = omega arith }; late = gets })

  open_stood : (st : Step) (n rounds : ℕ) (before s : RunState) (rest : Poly) (new : Standing) → Steps setting st n rounds before s → IsOpenWith setting claim n before rest.terms
      → OpenFollows setting form number claim (rounds - 1) s rest st new → Stood setting form number claim rounds s new
  open_stood step.Went n rounds before s rest new steps is_open follows = judged n rounds before s rest new is_open steps.round steps.rounds_are follows
  open_stood step.Closed n rounds before s rest new steps is_open follows =
      let here : IsOpenWith setting claim rounds s rest.terms = subst (λ k. IsOpenWith setting claim k s rest.terms) (sym steps.rounds_are) (subst (λ t. IsOpenWith setting claim n t rest.terms) (sym steps.unless_went) is_open) in
      let round = subst (λ k. IsRound setting k s (outcome_of step.Closed s)) (sym steps.rounds_are) (subst (λ t. IsRound setting n t (outcome_of step.Closed s)) (sym steps.unless_went) steps.round) in
      settled_by rounds s _ new follows (by_closing here.open_yet round (record { rest = rest; left = here.left; closes = refl }))
  open_stood (step.Stopped halt) n rounds before s rest new steps is_open follows =
      let here : IsOpenWith setting claim rounds s rest.terms = subst (λ k. IsOpenWith setting claim k s rest.terms) (sym steps.rounds_are) (subst (λ t. IsOpenWith setting claim n t rest.terms) (sym steps.unless_went) is_open) in
      let round = subst (λ k. IsRound setting k s (outcome_of (step.Stopped halt) s)) (sym steps.rounds_are) (subst (λ t. IsRound setting n t (outcome_of (step.Stopped halt) s)) (sym steps.unless_went) steps.round) in
      settled_by rounds s _ new follows (by_stop halt here.open_yet round refl)

  no_less : (st : Step) (n : ℕ) → n ≤ rounds_after st n
  no_less step.Went n = omega arith
  no_less step.Closed n = omega arith
  no_less (step.Stopped halt) n = omega arith

  stands_after : (st : Step) (n rounds : ℕ) (before s : RunState) (old new : Standing) → Steps setting st n rounds before s → Stands setting form number claim n before old
      → StandingFollows setting form number claim (rounds - 1) s st old new → Stands setting form number claim rounds s new
  stands_after st n rounds before s (Open rest) new steps stood follows = (open_stood st n rounds before s rest new steps stood follows).stands
  stands_after st n rounds before s (Settled o) new steps stood follows =
      subst (Stands setting form number claim rounds s) (sym follows)
      (record { rounds = stood.rounds; state = stood.state; gets = stood.gets; early = omega (arith, no_less st n, steps.rounds_are, stood.early) })

  late_after : (st : Step) (n rounds : ℕ) (before s : RunState) (old new : Standing) → Steps setting st n rounds before s → (HasOutcome old → ⊥) → Stands setting form number claim n before old
      → StandingFollows setting form number claim (rounds - 1) s st old new → IsLate setting form number claim rounds s new
  late_after st n rounds before s (Open rest) new steps yet stood follows = (open_stood st n rounds before s rest new steps stood follows).late
  late_after st n rounds before s (Settled o) new steps yet stood follows = absurd (yet tt)

-- all claims
module _ (setting : Setting) (form : Format) (problem : Problem) (c : Completion) (st : Step) (same : setting_of problem c.budget ≡ setting) where
  -- the step in the setting
  pub follows_in : (old new : Case) → Follows form problem c st old new → StandingFollows setting form old.number (claim_at problem old.number) (c.rounds - 1) (state_of c) st old.standing new.standing
  follows_in old new follows = subst (λ x. StandingFollows x form old.number (claim_at problem old.number) (c.rounds - 1) (state_of c) st old.standing new.standing) same follows.standing

  case_next : (n : ℕ) (before : RunState) → Steps setting st n c.rounds before (state_of c) → (old new : Case) → IsCase setting form problem n before old → Follows form problem c st old new
      → IsCase setting form problem c.rounds (state_of c) new
  case_next n before steps old new is follows =
      subst (λ k. Stands setting form k (claim_at problem k) c.rounds (state_of c) new.standing) (sym follows.same)
      (stands_after setting form old.number (claim_at problem old.number) st n c.rounds before (state_of c) old.standing new.standing steps is (follows_in old new follows))

  pub cases_next : (n : ℕ) (before : RunState) → Steps setting st n c.rounds before (state_of c) → (olds news : List Case) → All (IsCase setting form problem n before) olds
      → AllZip (Follows form problem c st) olds news → All (IsCase setting form problem c.rounds (state_of c)) news
  cases_next n before steps olds news are zipped =
      AllZip-kept (IsCase setting form problem n before) (IsCase setting form problem c.rounds (state_of c)) (Follows form problem c st) olds news (case_next n before steps) are zipped

  -- where a claim was open, one has just got its outcome or is open
  pub late_next : (n : ℕ) (before : RunState) → Steps setting st n c.rounds before (state_of c) → (olds news : List Case) → All (IsCase setting form problem n before) olds
      → AllZip (Follows form problem c st) olds news → OpenOne olds → LateOne setting form problem news c.rounds (state_of c)
  late_next n before steps olds news are zipped one =
      let long : length olds ≡ length news = length_all_zip (Follows form problem c st) olds news zipped in
      let late : (d : Case) → IsLateCase setting form problem c.rounds (state_of c) (get_or news one.place d) = λ d.
      let old = get_or olds one.place d in
      let new = get_or news one.place d in
      let follows : Follows form problem c st old new = AllZip-get_or (Follows form problem c st) olds news one.place d d zipped one.within in
      subst (λ k. IsLate setting form k (claim_at problem k) c.rounds (state_of c) new.standing) (sym follows.same)
      (late_after setting form old.number (claim_at problem old.number) st n c.rounds before (state_of c) old.standing new.standing steps (one.yet d) (are one.place d one.within) (follows_in old new follows)) in
      record { place = one.place; within = omega (arith, one.within); late = late }

-- a step that a completion takes
same_state : (rules more : List Rule) (made others : List Made) (treated taken : List Ambiguity) → more ≡ rules → others ≡ made → taken ≡ treated
    → ◌≡◌ {A = RunState} (record { rules = more; made = others; treated = taken }) (record { rules = rules; made = made; treated = treated })
same_state rules more made others treated taken rules_are made_are treated_are = λ i. record { rules = rules_are i; made = made_are i; treated = treated_are i }

unless_went : (st : Step) (old new : Completion) → IsUnchangedAfter st old new → UnlessWent st (state_of new ≡ state_of old)
unless_went step.Went old new is = tt
unless_went step.Closed old new is = same_state old.rules.rules new.rules.rules old.made new.made old.treated new.treated is.rules is.made is.treated
unless_went (step.Stopped halt) old new is = same_state old.rules.rules new.rules.rules old.made new.made old.treated new.treated is.rules is.made is.treated

pub step_taken : (setting : Setting) (st : Step) (old new : Completion) → IsRound setting old.rounds (state_of old) (outcome_of st (state_of new)) → new.rounds ≡ rounds_after st old.rounds
    → IsUnchangedAfter st old new → Steps setting st old.rounds new.rounds (state_of old) (state_of new)
step_taken setting st old new round rounds_are unchanged = record { round = round; rounds_are = rounds_are; unless_went = unless_went st old new unchanged }

-- the measure
settles : (setting : Setting) (form : Format) (number round : ℕ) (claim : List Term) (s : RunState) (st : Step) (old new : Standing) → EndsRun st → StandingFollows setting form number claim round s st old new → is_open new ≡ false
settles setting form number round claim s step.Went (Open rest) new ends follows = absurd ends
settles setting form number round claim s step.Closed (Open rest) new ends follows = ap is_open follows
settles setting form number round claim s (step.Stopped halt) (Open rest) new ends follows = ap is_open follows
settles setting form number round claim s st (Settled o) new ends follows = ap is_open follows

pub none_open : (form : Format) (problem : Problem) (c : Completion) (st : Step) → EndsRun st → (olds news : List Case) → AllZip (Follows form problem c st) olds news → list_any (λ x. is_open x.standing) news ≡ false
none_open form problem c st ends [] [] zipped = refl
none_open form problem c st ends [] (new ∷ news) zipped = absurd zipped
none_open form problem c st ends (old ∷ olds) [] zipped = absurd zipped
none_open form problem c st ends (old ∷ olds) (new ∷ news) zipped =
    let one = settles (setting_of problem c.budget) form old.number (c.rounds - 1) (claim_at problem old.number) (state_of c) st old.standing new.standing ends zipped.0.standing in
    rw one (none_open form problem c st ends olds news zipped.1)

at_most_left : (test : Bool) (n : ℕ) → if_any test n ≤ n
at_most_left true n = omega arith
at_most_left false n = omega arith

smaller_after : (form : Format) (problem : Problem) (c : Completion) (st : Step) (n pairs : ℕ) (olds news : List Case) → AllZip (Follows form problem c st) olds news → n ≤ suc pairs → c.rounds ≡ rounds_after st n
    → left_for news c.rounds pairs < (pairs + 2) - n
smaller_after form problem c step.Went n pairs olds news zipped few rounds_are =
    let most = at_most_left (list_any (λ x. is_open x.standing) news) ((pairs + 2) - c.rounds) in
    omega (arith, most, rounds_are)
smaller_after form problem c step.Closed n pairs olds news zipped few rounds_are =
    let none : left_for news c.rounds pairs ≡ 0 = ap (λ b. if_any b ((pairs + 2) - c.rounds)) (none_open form problem c step.Closed tt olds news zipped) in
    omega (arith, none)
smaller_after form problem c (step.Stopped halt) n pairs olds news zipped few rounds_are =
    let none : left_for news c.rounds pairs ≡ 0 = ap (λ b. if_any b ((pairs + 2) - c.rounds)) (none_open form problem c (step.Stopped halt) tt olds news zipped) in
    omega (arith, none)

some_open : (olds : List Case) → (All IsSettled olds → ⊥) → list_any (λ x. is_open x.standing) olds ≡ true
some_open [] yet = absurd (yet (All-nil IsSettled))
some_open (x ∷ olds) yet =
    let one = find_open (x ∷ olds) yet in
    list_any_at (λ y. is_open y.standing) (x ∷ olds) one.place x one.within (is_open_yet (get_or (x ∷ olds) one.place x).standing (one.yet x))
  where
    is_open_yet : (s : Standing) → (HasOutcome s → ⊥) → is_open s ≡ true
    is_open_yet (Open rest) yet = refl
    is_open_yet (Settled o) yet = absurd (yet tt)

pub smaller : (form : Format) (problem : Problem) (c : Completion) (st : Step) (n pairs : ℕ) (olds news : List Case) → AllZip (Follows form problem c st) olds news → (All IsSettled olds → ⊥)
    → n ≤ suc pairs → c.rounds ≡ rounds_after st n → left_for news c.rounds pairs < left_for olds n pairs
smaller form problem c st n pairs olds news zipped yet few rounds_are =
    subst (λ b. left_for news c.rounds pairs < if_any b ((pairs + 2) - n)) (sym (some_open olds yet)) (smaller_after form problem c st n pairs olds news zipped few rounds_are)

-- the end
pub outcomes_of_all : (setting : Setting) (form : Format) (problem : Problem) (rounds : ℕ) (s : RunState) (cases : List Case) (outcomes : List Outcome) → All (IsCase setting form problem rounds s) cases
    → AllZip Gives cases outcomes → AreOutcomesOf setting form problem (case_numbers cases) outcomes
outcomes_of_all setting form problem rounds s cases outcomes are zipped =
    AllZip-mapped (λ (x : Case). x.number) Gives (λ n o. IsOutcomeOf setting form n (claim_at problem n) o) (IsCase setting form problem rounds s) cases outcomes given are zipped
  where
    given : (x : Case) (o : Outcome) → IsCase setting form problem rounds s x → Gives x o → IsOutcomeOf setting form x.number (claim_at problem x.number) o
    given x o is gives =
        let got : HasGot setting form x.number (claim_at problem x.number) rounds o = subst (Stands setting form x.number (claim_at problem x.number) rounds s) gives is in
        record { rounds = got.rounds; state = got.state; gets = got.gets }

got_by : (setting : Setting) (form : Format) (problem : Problem) (rounds : ℕ) (s : RunState) (number : ℕ) (standing : Standing) → Stands setting form number (claim_at problem number) rounds s standing → HasOutcome standing
    → GetsOutcomeBy setting form problem rounds number
got_by setting form problem rounds s number (Open rest) stands has = absurd has
got_by setting form problem rounds s number (Settled o) stands has =
    record { rounds = stands.rounds; gets = record { state = stands.state; outcome = o; gets = stands.gets }; early = stands.early }

late_got : (setting : Setting) (form : Format) (problem : Problem) (rounds : ℕ) (s : RunState) (number : ℕ) (standing : Standing) → IsLate setting form number (claim_at problem number) rounds s standing → HasOutcome standing
    → GetsOutcomeAt setting form problem rounds number
late_got setting form problem rounds s number (Open rest) late has = absurd has
late_got setting form problem rounds s number (Settled o) late has = record { state = s; outcome = o; gets = late }

one_got : (setting : Setting) (form : Format) (problem : Problem) (rounds : ℕ) (s : RunState) (cases : List Case) → All IsSettled cases
    → (rounds ≡ 0) ⊎ LateOne setting form problem cases rounds s → (rounds ≡ 0) ⊎ OneGetsOutcomeAt setting form problem (case_numbers cases) rounds
one_got setting form problem rounds s cases settled (inl none) = inl none
one_got setting form problem rounds s [] settled (inr one) = absurd (omega (arith, one.within))
one_got setting form problem rounds s (x ∷ cases) settled (inr one) =
    let late = get_or (x ∷ cases) one.place x in
    let within : one.place < length (case_numbers (x ∷ cases)) = omega (arith, one.within, length-map (x ∷ cases) (λ (y : Case). y.number)) in
    inr (record {
      number = late.number;
      among = (one.place, within, get_or-map (λ (y : Case). y.number) (x ∷ cases) one.place x late.number one.within);
      gets = late_got setting form problem rounds s late.number late.standing (one.late x) (settled one.place x one.within);
    })

pub last_round : (setting : Setting) (form : Format) (problem : Problem) (rounds : ℕ) (s : RunState) (cases : List Case) → All (IsCase setting form problem rounds s) cases → All IsSettled cases
    → (rounds ≡ 0) ⊎ LateOne setting form problem cases rounds s → IsLastRound setting form problem (case_numbers cases) rounds
last_round setting form problem rounds s cases are settled needed = record {
  enough = All-map (GetsOutcomeBy setting form problem rounds) (λ (x : Case). x.number) cases
      (λ i x below. got_by setting form problem rounds s (get_or cases i x).number (get_or cases i x).standing (are i x below) (settled i x below));
  needed = one_got setting form problem rounds s cases settled needed;
}
