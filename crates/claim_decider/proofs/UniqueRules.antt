-- Claims have one list of last rules.
use Rattle.claim_decider.proofs.Prelude.{◌≡◌, ◌≤◌, ◌⊎◌, inl, inr, ℕ, List, sym, ap, subst, ◌∙◌, arith, All, All-contains, Poly, IsAdmissible, Format, Problem, claim_at, Setting, RunState, IsRunState, states_unique, GetsOutcomeBy, OneGetsOutcomeAt, AreLastRules, polynomials_in, LastRulesAreUnique}
use Rattle.claim_decider.proofs.UniqueOutcomes.{gets_once}

module _ (letters : ℕ) (rank : List ℕ → List ℕ) (setting : Setting) (laws : IsAdmissible letters setting.compare rank) (form : Format) (problem : Problem) (numbers : List ℕ) where
  -- no claim gets its outcome after the last round
  no_later : (r q : ℕ) → (r ≡ 0) ⊎ OneGetsOutcomeAt setting form problem numbers r → All (GetsOutcomeBy setting form problem q) numbers → r ≤ q
  no_later r q (inl none) enough = omega (arith, none)
  no_later r q (inr one) enough =
      let by : GetsOutcomeBy setting form problem q one.number = All-contains (GetsOutcomeBy setting form problem q) numbers one.number enough one.among in
      let same = gets_once setting (claim_at problem one.number) letters rank laws form one.number r by.rounds one.gets.state by.gets.state one.gets.outcome by.gets.outcome one.gets.gets by.gets.gets in
      omega (arith, same.rounds, by.early)

  once : (one other : List Poly) → AreLastRules setting form problem numbers one → AreLastRules setting form problem numbers other → one ≡ other
  once one other first second =
      let least = no_later first.rounds second.rounds first.last.needed second.last.enough in
      let most = no_later second.rounds first.rounds second.last.needed first.last.enough in
      let same : first.rounds ≡ second.rounds = omega (arith, least, most) in
      let states = states_unique letters rank setting second.rounds first.state second.state laws (subst (λ n. IsRunState setting n first.state) same first.run) second.run in
      first.are ∙ ap (λ (s : RunState). polynomials_in s.rules) states ∙ sym second.are

pub last_rules_unique : LastRulesAreUnique
last_rules_unique letters rank setting form problem numbers one other laws first second = once letters rank setting laws form problem numbers one other first second
