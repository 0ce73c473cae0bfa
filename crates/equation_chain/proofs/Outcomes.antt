-- Each certificate has a chain, or one thing is the first that is wrong.
use Rattle.equation_chain.proofs.Prelude.{◌≡◌, ◌⊎◌, inl, inr, ℕ, zero, suc, ◌+◌, ◌<◌, ◌≤◌, pos, neg_ℤ, ◌++◌, Bool, true, false, List, length, Option, Some, None, Result, Ok, Err, slice_get, sym, refl, ap, subst, ◌∙◌, arith, cases_lt, cases_order, slice_get_within, Overflow, first_overflow, Term, poly_between, scaled, products, added, sums, combined, PolyFault, sized, has_long_word, unless_overflow, finished, IsMemoryFault, term_limit, moved_result, and_then, nat_lt, if◌then◌else◌, CertRow, Certificate, Problem, polynomials, Refusal, Refuses, IsMemoryRefusal, each_certificate_is_judged, refusal_is_unique, accepted_is_not_refused, ChainFault, letter_limit, generator_of, is_step, less_step, IsAccepted, line_before, letters_before, result_at, StepPasses, StepsPass, IsExplained, Reaches, IsFirstFault, IsMemory, EachCertificateIsExplained, FirstFaultIsUnique, ExplainedHasNoFault}
use Rattle.nc_polynomial.specs.declared.fault.PolyFault.TheVariants as poly
use Rattle.equation_chain.specs.declared.fault.ChainFault.TheVariants as fault

-- no exact result is want of memory
abbrev IsNoMemory : Result (List Term) PolyFault → Type 0
IsNoMemory (Ok p) = Unit {0}
IsNoMemory (Err e) = IsMemoryFault e → ⊥

sized_no_memory : (p : List Term) → IsNoMemory (sized p)
sized_no_memory p = go (has_long_word p) (nat_lt term_limit (length p))
  where
    go : (a b : Bool) → IsNoMemory (if a then Err (poly.Size (record { letters = true })) else (if b then Err (poly.Size (record { letters = false })) else Ok p))
    go true b = λ none. none
    go false true = λ none. none
    go false false = tt

finished_no_memory : (os : List Overflow) (p : List Term) → IsNoMemory (finished os p)
finished_no_memory os p = go (first_overflow os)
  where
    go : (o : Option Overflow) → IsNoMemory (unless_overflow o (sized p))
    go None = sized_no_memory p
    go (Some o) = λ none. none

then_no_memory : (r : Result (List Term) PolyFault) (next : List Term → Result (List Term) PolyFault) → IsNoMemory r → ((p : List Term) → IsNoMemory (next p)) → IsNoMemory (and_then r next)
then_no_memory (Ok p) next first later = later p
then_no_memory (Err e) next first later = first

pub step_no_memory : (line g : List Term) (step : CertRow) → IsNoMemory (less_step line g step)
step_no_memory line g step =
    then_no_memory (moved_result step.left g step.right) (λ moved. combined (pos 1) line (neg_ℤ step.coef) moved) (sized_no_memory (poly_between step.left g step.right))
    (λ p. finished_no_memory (products (pos 1) line ++ (products (neg_ℤ step.coef) p ++ sums (scaled (pos 1) line) (scaled (neg_ℤ step.coef) p))) (added (scaled (pos 1) line) (scaled (neg_ℤ step.coef) p)))

module _ (problem : Problem) (c : Certificate) where
  -- each row in turn
  pub one_more : (n : ℕ) → StepsPass problem c n → ((row : CertRow) → slice_get c.rows n ≡ Some row → is_step problem c.claim row ≡ true → StepPasses problem c n row) → StepsPass problem c (n + 1)
  one_more n passed here = record { at = λ i row below got step. by i row (cases_lt i n) below got step }
    where
      by : (i : ℕ) (row : CertRow) → (i < n) ⊎ (n ≤ i) → i < n + 1 → slice_get c.rows i ≡ Some row → is_step problem c.claim row ≡ true → StepPasses problem c i row
      by i row (inl earlier) below got step = passed.at i row earlier got step
      by i row (inr later) below got step =
          let at : n ≡ i = omega arith in
          subst (λ (k : ℕ). StepPasses problem c k row) at (here row (ap (slice_get c.rows) at ∙ got) step)

  -- the first rows pass, or one is the first that doesn't
  data Tested (n : ℕ) : Type 0 where
    all_pass : StepsPass problem c n → Tested n
    stops : (f : ChainFault) → IsFirstFault problem c f → (IsMemory f → ⊥) → Tested n

  module _ (accepted : IsAccepted problem c) where
    same_row : (n : ℕ) (row other : CertRow) → slice_get c.rows n ≡ Some row → slice_get c.rows n ≡ Some other → row ≡ other
    same_row n row other is is' = let both : Some row ≡ Some other = sym is ∙ is' in cc

    by_result : (n : ℕ) (row : CertRow) → StepsPass problem c n → slice_get c.rows n ≡ Some row → is_step problem c.claim row ≡ true
        → (r : Result (List Term) PolyFault) → result_at problem c n row ≡ r → IsNoMemory r → Tested (n + 1)
    by_result n row passed is step (Ok line) made no_memory = go (cases_lt letter_limit (letters_before problem c (n + 1)))
      where
        go : (letter_limit < letters_before problem c (n + 1)) ⊎ (letters_before problem c (n + 1) ≤ letter_limit) → Tested (n + 1)
        go (inl long) =
            stops (fault.Long (n + 1)) (record { before = n; row = row; reached = record { accepted = accepted; numbered = refl; there = is; step = step; earlier = passed }; line = line; made = made; letters = long })
            (λ none. none)
        go (inr short) =
            all_pass (one_more n passed (λ other got _. subst (StepPasses problem c n) (same_row n row other is got) (record { line = line; made = made; letters = short })))
    by_result n row passed is step (Err (poly.Overflow o)) made no_memory =
        stops (fault.Overflow (n + 1) o) (record { before = n; row = row; reached = record { accepted = accepted; numbered = refl; there = is; step = step; earlier = passed }; operation = made }) (λ none. none)
    by_result n row passed is step (Err (poly.Size s)) made no_memory =
        stops (fault.Size (n + 1)) (record { before = n; row = row; reached = record { accepted = accepted; numbered = refl; there = is; step = step; earlier = passed }; size = s; outsized = made }) (λ none. none)
    by_result n row passed is step (Err (poly.Memory e)) made no_memory = absurd (no_memory tt)

    by_step : (n : ℕ) (row : CertRow) → StepsPass problem c n → slice_get c.rows n ≡ Some row → (b : Bool) → is_step problem c.claim row ≡ b → Tested (n + 1)
    by_step n row passed is true step = by_result n row passed is step (result_at problem c n row) refl (step_no_memory (line_before problem c n) (generator_of problem row) row)
    by_step n row passed is false step =
        all_pass (one_more n passed (λ other got yes. absurd (let one : row ≡ other = same_row n row other is got in let both : (let b : Bool = false in b) ≡ true = sym step ∙ ap (is_step problem c.claim) one ∙ yes in cc)))

    next_row : (n : ℕ) → Tested n → Tested (n + 1)
    next_row n (stops f is no_memory) = stops f is no_memory
    next_row n (all_pass passed) = by (slice_get c.rows n) refl
      where
        by : (o : Option CertRow) → slice_get c.rows n ≡ o → Tested (n + 1)
        by None is = all_pass (one_more n passed (λ row got _. absurd (let both : (let o : Option CertRow = None in o) ≡ Some row = sym is ∙ got in cc)))
        by (Some row) is = by_step n row passed is (is_step problem c.claim row) refl

    tested : (n : ℕ) → Tested n
    tested zero = all_pass (record { at = λ i row below got step. absurd (omega arith) })
    tested (suc n) = subst (λ (k : ℕ). Tested k) (add_one n) (next_row n (tested n))
      where
        add_one : (n : ℕ) → n + 1 ≡ suc n
        add_one n = omega arith

  -- one fault
  abbrev Outcome : Type 0
  Outcome = IsExplained problem c ⊎ ((f : ChainFault) × IsFirstFault problem c f × (IsMemory f → ⊥))

  by_steps : IsAccepted problem c → Tested (length c.rows) → Outcome
  by_steps accepted (all_pass passed) = inl (record { accepted = accepted; steps = passed })
  by_steps accepted (stops f is no_memory) = inr (f, is, no_memory)

  pub judged : Outcome
  judged = by (each_certificate_is_judged (polynomials problem.parts.claims) (polynomials problem.generators) c)
    where
      by : IsAccepted problem c ⊎ ((r : Refusal) × Refuses (polynomials problem.parts.claims) (polynomials problem.generators) c r × (IsMemoryRefusal r → ⊥)) → Outcome
      by (inl accepted) = by_steps accepted (tested accepted (length c.rows))
      by (inr refused) = inr (fault.Refused refused.0, refused.1, refused.2)

-- the fault of a step, by its result
abbrev told_by : ℕ → Result (List Term) PolyFault → Option ChainFault
told_by number (Ok line) = Some (fault.Long number)
told_by number (Err (poly.Overflow o)) = Some (fault.Overflow number o)
told_by number (Err (poly.Size s)) = Some (fault.Size number)
told_by number (Err (poly.Memory e)) = None

module _ (problem : Problem) (c : Certificate) where
  record Stopped (f : ChainFault) : Type 0 where
    before : ℕ
    row : CertRow
    number : ℕ
    reached : Reaches problem c number before row
    fails : StepPasses problem c before row → ⊥
    told : Some f ≡ told_by number (result_at problem c before row)

  no_ok : (line : List Term) (e : PolyFault) → ◌≡◌ {A = Result (List Term) PolyFault} (Err e) (Ok line) → ⊥
  no_ok line e same = absurd cc

  -- a fault is a refusal, or a step stops
  stopped : (f : ChainFault) → IsFirstFault problem c f → (IsMemory f → ⊥)
      → ((r : Refusal) × (f ≡ fault.Refused r) × Refuses (polynomials problem.parts.claims) (polynomials problem.generators) c r) ⊎ Stopped f
  stopped (fault.Refused r) is no_memory = inl (r, refl, is)
  stopped (fault.Overflow row o) is no_memory = inr (record {
    before = is.before;
    row = is.row;
    number = row;
    reached = is.reached;
    fails = λ pass. no_ok pass.line (poly.Overflow o) (sym is.operation ∙ pass.made);
    told = sym (ap (told_by row) is.operation);
  })
  stopped (fault.Size row) is no_memory = inr (record {
    before = is.before;
    row = is.row;
    number = row;
    reached = is.reached;
    fails = λ pass. no_ok pass.line (poly.Size is.size) (sym is.outsized ∙ pass.made);
    told = sym (ap (told_by row) is.outsized);
  })
  stopped (fault.Long row) is no_memory = inr (record {
    before = is.before;
    row = is.row;
    number = row;
    reached = is.reached;
    fails = λ pass. let short = pass.letters in let long = is.letters in omega (arith, short, long);
    told = sym (ap (told_by row) is.made);
  })
  stopped (fault.Memory e) is no_memory = absurd (no_memory tt)

  -- a step that stops the chain is the only one
  stopped_once : (e f : ChainFault) → Stopped e → Stopped f → e ≡ f
  stopped_once e f h k = go (cases_order h.before k.before)
    where
      go : (h.before ≡ k.before) ⊎ ((h.before < k.before) ⊎ (k.before < h.before)) → e ≡ f
      go (inr (inl less)) = absurd (h.fails (k.reached.earlier.at h.before h.row less h.reached.there h.reached.step))
      go (inr (inr greater)) = absurd (k.fails (h.reached.earlier.at k.before k.row greater k.reached.there k.reached.step))
      go (inl same) =
          let rows : Some h.row ≡ Some k.row = sym h.reached.there ∙ ap (slice_get c.rows) same ∙ k.reached.there in
          let row : h.row ≡ k.row = cc in
          let number : h.number ≡ k.number = h.reached.numbered ∙ ap (λ n. n + 1) same ∙ sym k.reached.numbered in
          let both : Some e ≡ Some f = h.told ∙ (λ i. told_by (number i) (result_at problem c (same i) (row i))) ∙ sym k.told in
          cc

  not_accepted : (r : Refusal) → (IsMemoryRefusal r → ⊥) → Refuses (polynomials problem.parts.claims) (polynomials problem.generators) c r → IsAccepted problem c → ⊥
  not_accepted r no_memory refused accepted = no_memory (accepted_is_not_refused accepted r refused)

  pub one_fault : (e f : ChainFault) → IsFirstFault problem c e → IsFirstFault problem c f → (IsMemory e → ⊥) → (IsMemory f → ⊥) → e ≡ f
  one_fault e f is is' no_memory no_memory' = go (stopped e is no_memory) (stopped f is' no_memory')
    where
      go : ((r : Refusal) × (e ≡ fault.Refused r) × Refuses (polynomials problem.parts.claims) (polynomials problem.generators) c r) ⊎ Stopped e
          → ((r : Refusal) × (f ≡ fault.Refused r) × Refuses (polynomials problem.parts.claims) (polynomials problem.generators) c r) ⊎ Stopped f → e ≡ f
      go (inl (r, one, refused)) (inl (r', one', refused')) =
          one
          ∙ ap (λ x. fault.Refused x) (refusal_is_unique (polynomials problem.parts.claims) (polynomials problem.generators) c r r' refused refused' (λ m. no_memory (subst IsMemory (sym one) m)) (λ m. no_memory' (subst IsMemory (sym one') m)))
          ∙ sym one'
      go (inl (r, one, refused)) (inr halts) = absurd (not_accepted r (λ m. no_memory (subst IsMemory (sym one) m)) refused halts.reached.accepted)
      go (inr halts) (inl (r, one, refused)) = absurd (not_accepted r (λ m. no_memory' (subst IsMemory (sym one) m)) refused halts.reached.accepted)
      go (inr halts) (inr halts') = stopped_once e f halts halts'

  pub no_fault : (f : ChainFault) → IsExplained problem c → IsFirstFault problem c f → IsMemory f
  no_fault (fault.Refused r) explained is = accepted_is_not_refused explained.accepted r is
  no_fault (fault.Overflow row o) explained is =
      absurd (no_ok _ (poly.Overflow o) (sym is.operation ∙ (explained.steps.at is.before is.row (slice_get_within c.rows is.before is.row is.reached.there) is.reached.there is.reached.step).made))
  no_fault (fault.Size row) explained is =
      absurd (no_ok _ (poly.Size is.size) (sym is.outsized ∙ (explained.steps.at is.before is.row (slice_get_within c.rows is.before is.row is.reached.there) is.reached.there is.reached.step).made))
  no_fault (fault.Long row) explained is =
      let passes = explained.steps.at is.before is.row (slice_get_within c.rows is.before is.row is.reached.there) is.reached.there is.reached.step in
      let short = passes.letters in
      let long = is.letters in
      absurd (omega (arith, short, long))
  no_fault (fault.Memory e) explained is = tt

pub each_is_explained : EachCertificateIsExplained
each_is_explained problem c = judged problem c

pub first_fault_is_unique : FirstFaultIsUnique
first_fault_is_unique problem c = one_fault problem c

pub explained_has_no_fault : ExplainedHasNoFault
explained_has_no_fault problem c f = no_fault problem c f
