-- The verdicts on claims, one after another, by their outcomes and by what was found for those for which a model is searched.
use Rattle.prove_command.proofs.Prelude.{◌≡◌, ◌≤◌, ◌<◌, ◌+◌, ℕ, suc, Bool, true, false, true≢false, refl, sym, ap, subst, ◌∙◌, arith, List, [], ◌∷◌, ◌++◌, length, take, get_or, append_assoc, append-nil, Option, Some, None, IfSome, IfNone, IsSome, All, AllZip, range_with_len, option_flatten, option_to_list, take_more, length-take-le, All-nil, All-cons, AllZip-long, Problem, claim_numbers, Outcome, Evidence, Halt, IsLeastBreaking, NoneBreaks, IsClaimNumber, Found, Poly, Verdict, Asked, IsVerdictOn, proved, not_derivable, refuted, undecided, AreVerdictsOn, halted_from, searched_from}
use Rattle.claim_decider.specs.declared.outcome.Outcome.TheVariants as outcome
use Rattle.report_text.specs.declared.verdict.Verdict.TheVariants as verdict

-- the numbers of claims that halted, with one more outcome
halted_push : (claim : ℕ) (os : List Outcome) (o : Outcome)
    → halted_from claim (os ++ o ∷ []) ≡ halted_from claim os ++ halted_from (claim + length os) (o ∷ [])
halted_push claim [] o = let here : claim ≡ claim + 0 = omega arith in ap (λ n. halted_from n (o ∷ [])) here
halted_push claim (outcome.Derived e ∷ os) o =
    let further : claim + 1 + length os ≡ claim + suc (length os) = omega arith in
    halted_push (claim + 1) os o ∙ ap (λ n. halted_from (claim + 1) os ++ halted_from n (o ∷ [])) further
halted_push claim (outcome.Closed rest ∷ os) o =
    let further : claim + 1 + length os ≡ claim + suc (length os) = omega arith in
    halted_push (claim + 1) os o ∙ ap (λ n. halted_from (claim + 1) os ++ halted_from n (o ∷ [])) further
halted_push claim (outcome.Halted halt ∷ os) o =
    let further : claim + 1 + length os ≡ claim + suc (length os) = omega arith in
    ap (λ claims. claim ∷ claims) (halted_push (claim + 1) os o ∙ ap (λ n. halted_from (claim + 1) os ++ halted_from n (o ∷ [])) further)

pub halted_more : (os : List Outcome) (place : ℕ) (o : Outcome) → place < length os → o ≡ get_or os place o
    → halted_from 1 (take (place + 1) os) ≡ halted_from 1 (take place os) ++ halted_from (place + 1) (o ∷ [])
halted_more os place o within is =
    let number : 1 + length (take place os) ≡ place + 1 = ap (λ n. 1 + n) (length-take-le place os (omega arith)) ∙ omega arith in
    ap (halted_from 1) (take_more os place o within ∙ ap (λ one. take place os ++ one ∷ []) (sym is))
    ∙ halted_push 1 (take place os) o
    ∙ ap (λ n. halted_from 1 (take place os) ++ halted_from n (o ∷ [])) number

-- one that didn't halt is none of them
pub not_halted : (claim : ℕ) (o : Outcome) → ((halt : Halt) → o ≡ outcome.Halted halt → ⊥) → halted_from claim (o ∷ []) ≡ []
not_halted claim (outcome.Derived e) none = refl
not_halted claim (outcome.Closed rest) none = refl
not_halted claim (outcome.Halted halt) none = absurd (none halt refl)

-- they are numbers of claims
module _ (problem : Problem) where
  halted_are_claims : (claim : ℕ) (os : List Outcome) → 1 ≤ claim → claim + length os ≤ length problem.parts.claims + 1
      → All (IsClaimNumber problem) (halted_from claim os)
  halted_are_claims claim [] least most = All-nil (IsClaimNumber problem)
  halted_are_claims claim (outcome.Derived e ∷ os) least most = halted_are_claims (claim + 1) os (omega arith) (omega arith)
  halted_are_claims claim (outcome.Closed rest ∷ os) least most = halted_are_claims (claim + 1) os (omega arith) (omega arith)
  halted_are_claims claim (outcome.Halted halt ∷ os) least most =
      All-cons (IsClaimNumber problem) claim (halted_from (claim + 1) os) (record { least = least; most = omega arith })
      (halted_are_claims (claim + 1) os (omega arith) (omega arith))

  pub searched_are_claims : (models : Bool) (os : List Outcome) → length os ≡ length problem.parts.claims
      → All (IsClaimNumber problem) (searched_from models 1 os)
  searched_are_claims false os each = All-nil (IsClaimNumber problem)
  searched_are_claims true os each = halted_are_claims 1 os (omega arith) (omega (arith, each))

-- one whose outcome isn't that it halted is none of them
derived_is_none : (models : Bool) (claim : ℕ) (e : Evidence) (os : List Outcome)
    → searched_from models claim (outcome.Derived e ∷ os) ≡ searched_from models (claim + 1) os
derived_is_none false claim e os = refl
derived_is_none true claim e os = refl

closed_is_none : (models : Bool) (claim : ℕ) (rest : Poly) (os : List Outcome)
    → searched_from models claim (outcome.Closed rest ∷ os) ≡ searched_from models (claim + 1) os
closed_is_none false claim rest os = refl
closed_is_none true claim rest os = refl

-- The next is taken of what is left of what was found, where something is.
pub record TakesNext (found : List (Option Found)) (next : Option (Option Found)) (later : List (Option Found)) : Type 0 where
  pub items : found ≡ option_to_list next ++ later
  pub some : 0 < length found → IsSome next

-- what is said by it of a claim that halted
pub record IsSaidBy (halt : Halt) (found : Option Found) (v : Verdict) : Type 0 where
  pub refuted : IfSome found (λ f. v ≡ verdict.Refuted f.model)
  pub undecided : IfNone found (v ≡ verdict.Undecided halt)

module _ (problem : Problem) (asked : Asked) where
  -- the least candidates that break these claims are found, where there are any
  abbrev pub AreFoundFor : List ℕ → List (Option Found) → Type 0
  AreFoundFor claims found =
      AllZip (λ n one. IfSome one (λ (f : Found). IsLeastBreaking problem n asked.seed f.shape f.candidate f.model)) claims found
      × AllZip (λ n one. IfNone one (NoneBreaks problem n asked.seed)) claims found

  -- The verdict on a claim that halted, and what is left of what was found. Nothing is found where no model is searched.
  halted_said : (models : Bool) → asked.models ≡ models → (claim : ℕ) (halt : Halt) (later : List Outcome) (found : List (Option Found))
      (next : Option (Option Found)) (rest : List (Option Found)) (v : Verdict) → AreFoundFor (searched_from models claim (outcome.Halted halt ∷ later)) found
      → TakesNext found next rest → IsSaidBy halt (option_flatten next) v
      → IsVerdictOn problem asked claim (outcome.Halted halt) v × AreFoundFor (searched_from models (claim + 1) later) rest
  halted_said false off claim halt later found None rest v are takes says =
      (undecided halt refl (λ on. absurd (true≢false (sym on ∙ off))) says.undecided, subst (AreFoundFor []) takes.items are)
  halted_said false off claim halt later found (Some one) rest v are takes says = absurd (subst (AreFoundFor []) takes.items are).0
  halted_said true on claim halt later found None rest v are takes says =
      let long = AllZip-long (λ n one. IfNone one (NoneBreaks problem n asked.seed)) (claim ∷ halted_from (claim + 1) later) found are.1 in
      absurd (true≢false (sym (takes.some (omega (arith, long)))))
  halted_said true on claim halt later found (Some None) rest v are takes says =
      let both : AreFoundFor (claim ∷ halted_from (claim + 1) later) (None ∷ rest) =
      subst (AreFoundFor (claim ∷ halted_from (claim + 1) later)) takes.items are in
      (undecided halt refl (λ _. both.1.0) says.undecided, (both.0.1, both.1.1))
  halted_said true on claim halt later found (Some (Some f)) rest v are takes says =
      let both : AreFoundFor (claim ∷ halted_from (claim + 1) later) (Some f ∷ rest) =
      subst (AreFoundFor (claim ∷ halted_from (claim + 1) later)) takes.items are in
      (refuted halt f.model refl on (f.shape, f.candidate, both.0.0) says.refuted, (both.0.1, both.1.1))

  -- The first claims have their verdicts: with verdicts on the others, from this claim on, all have theirs. For the others what was found is left.
  pub record SaidSoFar (outcomes : List Outcome) (verdicts : List Verdict) (left : List Outcome) (found : List (Option Found)) : Type 0 where
    pub claim : ℕ
    pub said : (later : List Verdict) → AreVerdictsOn problem asked (range_with_len claim (length left)) left later
        → AreVerdictsOn problem asked (claim_numbers problem) outcomes (verdicts ++ later)
    pub found_for : AreFoundFor (searched_from asked.models claim left) found

  -- at first
  pub said_none : (outcomes : List Outcome) (found : List (Option Found)) → length outcomes ≡ length problem.parts.claims
      → AreFoundFor (searched_from asked.models 1 outcomes) found → SaidSoFar outcomes [] outcomes found
  said_none outcomes found each are = record {
    claim = 1;
    said = λ later. subst (λ n. AreVerdictsOn problem asked (range_with_len 1 n) outcomes later
        → AreVerdictsOn problem asked (claim_numbers problem) outcomes later) (sym each) (λ all. all);
    found_for = are;
  }

  module _ {outcomes : List Outcome} {verdicts : List Verdict} {left later : List Outcome} {found : List (Option Found)}
      (so_far : SaidSoFar outcomes verdicts left found) where
    -- one more has its verdict
    said_one : (o : Outcome) (v : Verdict) (rest : List (Option Found)) → left ≡ o ∷ later → IsVerdictOn problem asked so_far.claim o v
        → AreFoundFor (searched_from asked.models (so_far.claim + 1) later) rest → SaidSoFar outcomes (verdicts ++ v ∷ []) later rest
    said_one o v rest steps is are = record {
      claim = so_far.claim + 1;
      said = λ others all. subst (AreVerdictsOn problem asked (claim_numbers problem) outcomes) (sym (append_assoc verdicts (v ∷ []) others))
          (so_far.said (v ∷ others)
          (subst (λ os. AreVerdictsOn problem asked (range_with_len so_far.claim (length os)) os (v ∷ others)) (sym steps) (is, all)));
      found_for = are;
    }

    pub said_derived : (e : Evidence) → left ≡ outcome.Derived e ∷ later → SaidSoFar outcomes (verdicts ++ verdict.Proved e ∷ []) later found
    said_derived e steps =
        let claims = ap (searched_from asked.models so_far.claim) steps ∙ derived_is_none asked.models so_far.claim e later in
        said_one (outcome.Derived e) (verdict.Proved e) found steps (proved e refl refl) (subst (λ ns. AreFoundFor ns found) claims so_far.found_for)

    pub said_closed : (rest : Poly) → left ≡ outcome.Closed rest ∷ later → SaidSoFar outcomes (verdicts ++ verdict.NotDerivable rest ∷ []) later found
    said_closed rest steps =
        let claims = ap (searched_from asked.models so_far.claim) steps ∙ closed_is_none asked.models so_far.claim rest later in
        said_one (outcome.Closed rest) (verdict.NotDerivable rest) found steps (not_derivable rest refl refl)
        (subst (λ ns. AreFoundFor ns found) claims so_far.found_for)

    pub said_halted : (halt : Halt) (next : Option (Option Found)) (rest : List (Option Found)) (v : Verdict) → left ≡ outcome.Halted halt ∷ later
        → TakesNext found next rest → IsSaidBy halt (option_flatten next) v → SaidSoFar outcomes (verdicts ++ v ∷ []) later rest
    said_halted halt next rest v steps takes says =
        let are = subst (λ os. AreFoundFor (searched_from asked.models so_far.claim os) found) steps so_far.found_for in
        let here = halted_said asked.models refl so_far.claim halt later found next rest v are takes says in
        said_one (outcome.Halted halt) v rest steps here.0 here.1

  -- and all have theirs at the end
  pub said_all : {outcomes : List Outcome} {verdicts : List Verdict} {left : List Outcome} {found : List (Option Found)}
      → SaidSoFar outcomes verdicts left found → left ≡ [] → AreVerdictsOn problem asked (claim_numbers problem) outcomes verdicts
  said_all {outcomes} {verdicts} so_far empty =
      subst (AreVerdictsOn problem asked (claim_numbers problem) outcomes) (append-nil verdicts)
      (so_far.said [] (subst (λ os. AreVerdictsOn problem asked (range_with_len so_far.claim (length os)) os []) (sym empty) tt))
