-- The invariant of a run holds after one more generator, and after one more ambiguity.
use Rattle.outcome_laws.proofs.Prelude.{◌≡◌, ◌≤◌, ℕ, zero, suc, Bool, List, [], ◌∷◌, ◌++◌, length, take, Ok, refl, sym, ap, ◌∙◌, subst, arith, append_assoc, Option, Some, None, All, All-weaker, All-get_or, All-take, take-append_seam, Term, coefficient_of, generator_at, Quiver, IsOver, Compare, IsAdmissible, Rule, State, IsRule, normal_form_of, words_with_coefficients, Ambiguity, IsAmbiguity, s_rows_of, s_polynomial_of, s_polynomials_balance, over_terms, HasLettersBelow, IsReduced, IsAppended, HaveLettersBelow, Kept, IsTypedInPlay, AreTypedInPlay, normal_forms_are_reduced, normal_forms_are_shaped, rests_have_letters_below, s_polynomials_are_shaped, generators_are_kept, ambiguities_are_kept, resolved_at_once_is_kept, normal_forms_stay_typed, rules_stay_typed, s_polynomials_stay_typed, Recorded, Rest, rest_with, Adds, generator_rows, First, second_rows, Setting, IsGenerator}
use Rattle.outcome_laws.proofs.Adding.{appended}
use Rattle.outcome_laws.proofs.Results.{generator_all}

-- generators
pub letters_below : (q : Quiver) (play : ℕ → Bool) (letters : ℕ) (generators : List (List Term)) → All (IsGenerator q play letters) generators → HaveLettersBelow letters generators
letters_below q play letters generators each =
    generator_all (HasLettersBelow letters) generators
    (All-weaker (IsGenerator q play letters) (HasLettersBelow letters)
    (λ g is. record { at = words_with_coefficients (IsOver letters) g is.over }) generators each)
    (record { at = λ w some. absurd (some refl) })

-- the rules with what was added still begin with those from the start
pub record BeginsWith (start rules : List Rule) : Type 0 where
  pub more : List Rule
  pub is : rules ≡ start ++ more

pub all_front : (P : Rule → Type 0) (start rules : List Rule) → BeginsWith start rules → All P rules → All P start
all_front P start rules front each = subst (All P) (ap (take (length start)) front.is ∙ take-append_seam start front.more) (All-take P (length start) rules each)

pub begins_with : (start : List Rule) (compare : Compare) (rest : Option Rest) (before after : Recorded) → BeginsWith start before.rules → Adds compare rest before after → BeginsWith start after.rules
begins_with start compare None before after front same = record { more = front.more; is = ap (λ (r : Recorded). r.rules) same ∙ front.is }
begins_with start compare (Some rest) before after front extended = record {
  more = front.more ++ (extended.rule ∷ []);
  is = ap (λ (r : Recorded). r.rules) extended.appended ∙ ap (λ rs. rs ++ (extended.rule ∷ [])) front.is ∙ append_assoc start front.more (extended.rule ∷ []);
}

-- an ambiguity whose first reduction was made
pub record IsFirst (setting : Setting) (start : List Rule) (a : Ambiguity) (s : State) : Type 0 where
  pub is : IsAmbiguity start a
  pub polynomial : List Term
  pub made : s_polynomial_of start a ≡ Ok polynomial
  pub reduced : normal_form_of setting.compare start polynomial setting.budget.steps ≡ Ok s

abbrev pub first_with : List Rule → Ambiguity → State → First
first_with rules a s = record { rows = s_rows_of rules a; reduced = s }

module _ (q : Quiver) (play : ℕ → Bool) (letters : ℕ) (rank : List ℕ → List ℕ) (setting : Setting) (laws : IsAdmissible letters setting.compare rank) (each : All (IsGenerator q play letters) setting.generators) where
  abbrev compare : Compare
  compare = setting.compare

  abbrev generators : List (List Term)
  generators = setting.generators

  abbrev pub KeptNow : Recorded → List ℕ → List Ambiguity → Type 0
  KeptNow r done treated = Kept letters compare generators r.rules r.made done treated × AreTypedInPlay q play r.rules

  over_all : HaveLettersBelow letters generators
  over_all = letters_below q play letters generators each

  generator_of : (n : ℕ) → (1 ≤ n) × (n ≤ length generators) → IsGenerator q play letters (generator_at generators n)
  generator_of zero in_range = absurd (omega (arith, in_range.0))
  generator_of (suc n) in_range = All-get_or (IsGenerator q play letters) generators n [] (omega (arith, in_range.1)) each

  -- what a reduction by rules of one signature leaves
  left : (rules : List Rule) (p : List Term) (s : State) → All (IsRule letters compare) rules → AreTypedInPlay q play rules → IsGenerator q play letters p
      → normal_form_of compare rules p setting.budget.steps ≡ Ok s
      → IsReduced letters compare rules p s × IsGenerator q play letters s.rest
  left rules p s are rules_typed is ends =
      let reduced = normal_forms_are_reduced letters compare rank rules p setting.budget.steps s laws are is.shaped is.over ends in
      let shaped = normal_forms_are_shaped compare rules p setting.budget.steps s is.shaped ends in (
        reduced,
        record {
          shaped = shaped;
          over = rests_have_letters_below letters compare rules p s (record { at = words_with_coefficients (IsOver letters) p is.over }) reduced shaped;
          typed = normal_forms_stay_typed q play letters compare rules p setting.budget.steps s are rules_typed is.shaped is.typed ends;
        },
      )

  pub generator_kept : (n : ℕ) → (1 ≤ n) × (n ≤ length generators) → (before after : Recorded) (done : List ℕ) (treated : List Ambiguity) (s : State) → KeptNow before done treated
      → normal_form_of compare before.rules (generator_at generators n) setting.budget.steps ≡ Ok s
      → Adds compare (rest_with s.rest (generator_rows n s.multiplier s.rows)) before after → KeptNow after (done ++ (n ∷ [])) treated
  generator_kept n in_range before after done treated s now ends added =
      let is = left before.rules (generator_at generators n) s now.0.are_rules now.1 (generator_of n in_range) ends in
      let rows = generator_rows n s.multiplier s.rows in
      let adds = appended q play letters compare s.rest rows before after is.1 added in (
        generators_are_kept letters compare rank generators before.rules before.made done treated n s after.rules after.made laws over_all in_range.0 in_range.1 now.0 is.0 adds,
        rules_stay_typed q play letters compare s.rest rows before.rules before.made after.rules after.made now.1 is.1.typed adds,
      )

  -- an ambiguity of the rules from before a round
  module _ (start : List Rule) (a : Ambiguity) (first : State) (is : IsFirst setting start a first) (before : Recorded) (front : BeginsWith start before.rules)
      (done : List ℕ) (treated : List Ambiguity) (now : KeptNow before done treated) where
    first_left : IsReduced letters compare start is.polynomial first × IsGenerator q play letters first.rest
    first_left =
        let are = all_front (IsRule letters compare) start before.rules front now.0.are_rules in
        let typed = all_front (λ g. IsTypedInPlay q play g.poly.terms) start before.rules front now.1 in
        let shaped = s_polynomials_are_shaped start a is.polynomial is.made in
        left start is.polynomial first are typed (record {
          shaped = shaped;
          over = over_terms letters compare rank start a is.polynomial laws are is.is is.made shaped;
          typed = s_polynomials_stay_typed q play letters compare start a is.polynomial are typed is.is is.made;
        }) is.reduced

    kept_before : Kept letters compare generators (start ++ front.more) before.made done treated
    kept_before = subst (λ rs. Kept letters compare generators rs before.made done treated) front.is now.0

    -- its first rest is zero
    pub at_once_kept : first.rest ≡ [] → KeptNow before done (treated ++ (a ∷ []))
    at_once_kept none = (
      subst (λ rs. Kept letters compare generators rs before.made done (treated ++ (a ∷ []))) (sym front.is)
          (resolved_at_once_is_kept letters compare rank generators start front.more before.made done treated a is.polynomial first laws kept_before is.is
          (s_polynomials_balance start a is.polynomial is.made) first_left.0 (record { at = λ w. ap (λ r. coefficient_of r w) none })),
      now.1,
    )

    -- it is reduced again
    pub ambiguity_kept : (after : Recorded) (s : State) → normal_form_of compare before.rules first.rest setting.budget.steps ≡ Ok s
        → Adds compare (rest_with s.rest (second_rows (first_with start a first) s)) before after → KeptNow after done (treated ++ (a ∷ []))
    ambiguity_kept after s ends added =
        let second = left before.rules first.rest s now.0.are_rules now.1 first_left.1 ends in
        let rows = second_rows (first_with start a first) s in
        let adds = appended q play letters compare s.rest rows before after second.1 added in (
          ambiguities_are_kept letters compare rank generators start front.more before.made done treated a after.rules after.made laws over_all kept_before
              (record {
                ambiguity = is.is;
                s_polynomial = is.polynomial;
                is_sum = s_polynomials_balance start a is.polynomial is.made;
                first = first;
                is_first = first_left.0;
                second = s;
                is_second = subst (λ rs. IsReduced letters compare rs first.rest s) front.is second.0;
                appended = subst (λ rs. IsAppended letters compare s.rest rows rs before.made after.rules after.made) front.is adds;
              }),
          rules_stay_typed q play letters compare s.rest rows before.rules before.made after.rules after.made now.1 second.1.typed adds,
        )
