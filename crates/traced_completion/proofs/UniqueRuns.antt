-- A round has one outcome, and a run one state after each number of rounds.
use Rattle.traced_completion.proofs.Prelude.{◌≡◌, ◌≢◌, ℕ, zero, suc, ℤ, pos, negsuc, neg_ℤ, ◌+ℤ◌, ◌*ℤ◌, List, [], ◌∷◌, ◌++◌, length, map, take, Bool, true, false, leb, Option, Some, None, Result, Ok, Err, refl, sym, ap, ap₂, ◌∙◌, subst, arith, ints, *ℤ_comm, *ℤ-neg_ℤ, *ℤ-+ℤ, *ℤ_zero, Term, poly_multiple, Compare, IsAdmissible, IsCanonical, Poly, Made, Cause, Rule, ReduceFault, rule_from, one_content, Ambiguity, Waiting, each_in_turn, Recorded, Rest, leads_negative, IsMadeFrom, Adds, Work, generator_work, First, first_of, Goes, InTurn, InTwoPasses, second_work, ambiguities_of, Setting, RunState, Outcome, went, stopped, IsCauseOf, Ends, recorded, IsTreated, TreatsFirst, TreatsPending, IsRoundZero, IsLaterRound, IsRound, taken_count, RoundsAreUnique, StatesAreUnique, signed, signed_nonzero}
use Rattle.std.proofs.Props as std
use Rattle.cofactor_trace.specs.declared.halt.Place.TheVariants as place
use Rattle.rule_reduce.specs.declared.fault.ReduceFault.TheVariants as fault
use Rattle.traced_completion.proofs.StoreLemmas.{stores-unique}

-- rules
IsCanonical-prop : (p : List Term) → IsProp (IsCanonical p)
IsCanonical-prop p = Prim.hlevel std.props

pub same_poly : (a b : Poly) → a.terms ≡ b.terms → a ≡ b
same_poly a b same =
    subst (λ (p : List Term). (c : IsCanonical p) → ◌≡◌ {A = Poly} a (record { terms = p; canonical = c })) same (λ c. λ i. record { terms = a.terms; canonical = IsCanonical-prop a.terms a.canonical c i }) b.canonical

same_by_positive : (n : ℕ) (x y : ℤ) → pos (suc n) *ℤ x ≡ pos (suc n) *ℤ y → x ≡ y
same_by_positive n x y same =
    let difference : pos (suc n) *ℤ (x +ℤ neg_ℤ y) ≡ pos 0 =
    *ℤ-+ℤ (pos (suc n)) x (neg_ℤ y) ∙ ap (λ z. pos (suc n) *ℤ x +ℤ z) (*ℤ-neg_ℤ (pos (suc n)) y) ∙ none (pos (suc n) *ℤ x) (pos (suc n) *ℤ y) same in
    let zero_is = *ℤ_zero n (x +ℤ neg_ℤ y) difference in
    omega (arith, ints, zero_is)
  where
    none : (a b : ℤ) → a ≡ b → a +ℤ neg_ℤ b ≡ pos 0
    none a b e = omega (arith, ints, e)

turned : (n : ℕ) (x : ℤ) → negsuc n *ℤ x ≡ neg_ℤ (pos (suc n) *ℤ x)
turned n x = *ℤ_comm (negsuc n) x ∙ *ℤ-neg_ℤ x (pos (suc n)) ∙ ap neg_ℤ (*ℤ_comm x (pos (suc n)))

pub same_factor : (k x y : ℤ) → k ≢ pos 0 → k *ℤ x ≡ k *ℤ y → x ≡ y
same_factor (pos zero) x y nonzero same = absurd (nonzero refl)
same_factor (pos (suc n)) x y nonzero same = same_by_positive n x y same
same_factor (negsuc n) x y nonzero same = same_by_positive n x y (positive (pos (suc n) *ℤ x) (pos (suc n) *ℤ y) (sym (turned n x) ∙ same ∙ turned n y))
  where
    positive : (a b : ℤ) → neg_ℤ a ≡ neg_ℤ b → a ≡ b
    positive a b e = omega (arith, ints, e)

same_terms : (k : ℤ) → k ≢ pos 0 → (p q : List Term) → poly_multiple k p ≡ poly_multiple k q → p ≡ q
same_terms k nonzero [] [] same = refl
same_terms k nonzero [] (u ∷ q) same = absurd (cc)
same_terms k nonzero (t ∷ p) [] same = absurd (cc)
same_terms k nonzero (t ∷ p) (u ∷ q) same =
    let heads : ◌≡◌ {A = Term} (k *ℤ t.0, t.1) (k *ℤ u.0, u.1) = cc in
    let tails : poly_multiple k p ≡ poly_multiple k q = cc in
    let coefficients = same_factor k t.0 u.0 nonzero (ap (λ (v : Term). v.0) heads) in
    ap₂ (λ (v : Term) r. v ∷ r) (λ i. (coefficients i, (heads i).1)) (same_terms k nonzero p q tails)

same_rule : (g h : Rule) → ◌≡◌ {A = Option Rule} (Some g) (Some h) → g ≡ h
same_rule g h same = cc

module _ (compare : Compare) (rest : Rest) where
  same_made : (g h : Rule) (m n : Made) → IsMadeFrom compare rest g m → IsMadeFrom compare rest h n → (g ≡ h) × (m ≡ n)
  same_made g h m n one other =
      let scale : m.scale ≡ n.scale = one_content rest.polynomial m.scale n.scale one.content other.content in
      let negative = leads_negative compare rest.polynomial in
      let terms : g.poly.terms ≡ h.poly.terms =
      same_terms (signed negative m.scale) (signed_nonzero negative m.scale one.positive) g.poly.terms h.poly.terms
      (one.divided ∙ sym (subst (λ s. poly_multiple (signed negative s) h.poly.terms ≡ rest.polynomial) (sym scale) other.divided)) in
      let poly = same_poly g.poly h.poly terms in
      (same_rule g h (sym one.leading ∙ ap (rule_from compare) poly ∙ other.leading), (λ i. record { scale = scale i; rows = (one.rows ∙ sym other.rows) i }))

adds_one : (compare : Compare) (rest : Option Rest) (before one other : Recorded) → Adds compare rest before one → Adds compare rest before other → one ≡ other
adds_one compare None before one other first second = first ∙ sym second
adds_one compare (Some rest) before one other first second =
    let same = same_made compare rest first.rule second.rule first.made second.made first.made_from second.made_from in
    first.appended ∙ (λ i. record { rules = before.rules ++ (same.0 i) ∷ []; made = before.made ++ (same.1 i) ∷ [] }) ∙ sym second.appended

-- works
goes_one : (compare : Compare) (r : Result (Option Rest) ReduceFault) (before : Recorded) (One Other : Recorded → Type 0) (one other : Result Recorded ReduceFault)
    → ((s : Recorded) → One s → Other s → one ≡ other) → Goes compare r before One one → Goes compare r before Other other → one ≡ other
goes_one compare (Err e) before One Other one other each first second = first ∙ sym second
goes_one compare (Ok rest) before One Other one other each first second =
    each second.between (subst One (adds_one compare rest before first.between second.between first.added second.added) first.next) second.next

turns_one : (compare : Compare) (works : List Work) (before : Recorded) (one other : Result Recorded ReduceFault) → InTurn compare works before one → InTurn compare works before other → one ≡ other
turns_one compare [] before one other first second = first ∙ sym second
turns_one compare (work ∷ works) before one other first second =
    goes_one compare (work before.rules) before (λ s. InTurn compare works s one) (λ s. InTurn compare works s other) one other (λ s. turns_one compare works s one other) first second

passes_one : (compare : Compare) (steps : ℕ) (r : Result (List First) ReduceFault) (before : Recorded) (one other : Result Recorded ReduceFault) → InTwoPasses compare steps r before one → InTwoPasses compare steps r before other → one ≡ other
passes_one compare steps (Err e) before one other first second = first ∙ sym second
passes_one compare steps (Ok firsts) before one other first second = turns_one compare (map (second_work compare steps) firsts) before one other first second

-- outcomes
pub cause_one : (e : ReduceFault) (c d : Cause) → IsCauseOf e c → IsCauseOf e d → c ≡ d
cause_one (fault.Steps limit) c d first second = first ∙ sym second
cause_one (fault.Overflow o) c d first second = first ∙ sym second
cause_one (fault.Size s) c d first second = first ∙ sym second
cause_one (fault.Memory e) c d first second = absurd first

ends_one : (number : ℕ) (least : Option (List ℕ)) (treated : List Ambiguity) (r : Result Recorded ReduceFault) (one other : Outcome) → Ends number least treated r one → Ends number least treated r other → one ≡ other
ends_one number least treated (Ok s) one other first second = first ∙ sym second
ends_one number least treated (Err e) one other first second =
    first.stops ∙ ap (λ c. stopped (record { cause = c; place = place.Round number; least = least })) (cause_one e first.reason second.reason first.reason_of second.reason_of) ∙ sym second.stops

ends_both : (number : ℕ) (least : Option (List ℕ)) (treated : List Ambiguity) (r q : Result Recorded ReduceFault) → r ≡ q → (one other : Outcome) → Ends number least treated r one → Ends number least treated q other → one ≡ other
ends_both number least treated r q same one other first second = ends_one number least treated q one other (subst (λ x. Ends number least treated x one) same first) second

module _ (setting : Setting) (number : ℕ) (s : RunState) (one other : Outcome) where
  treated_one : (least : List ℕ) (taken : List Ambiguity) → IsTreated setting number s least taken one → IsTreated setting number s least taken other → one ≡ other
  treated_one least taken first second =
      ends_both number (Some least) (s.treated ++ taken) first.result second.result
      (passes_one setting.compare setting.budget.steps (each_in_turn (first_of setting.compare setting.budget.steps s.rules) taken) (recorded s) first.result second.result first.passes second.passes)
      one other first.ends second.ends

  first_one : (least : List ℕ) (pending : List Waiting) (b : Bool) → TreatsFirst setting number s least pending b one → TreatsFirst setting number s least pending b other → one ≡ other
  first_one least pending true first second = first ∙ sym second
  first_one least pending false first second = treated_one least (ambiguities_of (take (taken_count setting.budget s pending) pending)) first second

  pending_one : (pending : List Waiting) → TreatsPending setting number s pending one → TreatsPending setting number s pending other → one ≡ other
  pending_one [] first second = first ∙ sym second
  pending_one (w ∷ ws) first second = first_one w.word (w ∷ ws) (leb setting.budget.pairs (length s.treated)) first second

  module _ (letters : ℕ) (rank : List ℕ → List ℕ) (laws : IsAdmissible letters setting.compare rank) where
    later_one : IsLaterRound setting number s one → IsLaterRound setting number s other → one ≡ other
    later_one first second =
        let same = stores-unique letters setting.compare rank s.rules s.treated first.pending second.pending laws first.all_pending second.all_pending in
        pending_one second.pending (subst (λ ws. TreatsPending setting number s ws one) same first.treats) second.treats

zero_one : (setting : Setting) (s : RunState) (one other : Outcome) → IsRoundZero setting s one → IsRoundZero setting s other → one ≡ other
zero_one setting s one other first second =
    ends_both 0 None s.treated first.result second.result
    (turns_one setting.compare (map (generator_work setting.compare setting.budget.steps setting.generators) setting.in_turn) (recorded s) first.result second.result first.generators second.generators)
    one other first.ends second.ends

pub rounds_unique : RoundsAreUnique
rounds_unique letters rank setting zero s one other laws first second = zero_one setting s one other first second
rounds_unique letters rank setting (suc n) s one other laws first second = later_one setting (suc n) s one other letters rank laws first second

same_went : (s t : RunState) → went s ≡ went t → s ≡ t
same_went s t same = cc

pub states_unique : StatesAreUnique
states_unique letters rank setting zero one other laws first second = first ∙ sym second
states_unique letters rank setting (suc n) one other laws first second =
    let before = states_unique letters rank setting n first.before second.before laws first.is_before second.is_before in
    same_went one other (rounds_unique letters rank setting n second.before (went one) (went other) laws (subst (λ s. IsRound setting n s (went one)) before first.round) second.round)
