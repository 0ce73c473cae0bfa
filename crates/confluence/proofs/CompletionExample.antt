-- The generator x x - x, with the letter x = 0 in the canonical order: closed after one ambiguity, and x is outside.
use Rattle.confluence.proofs.Prelude.{◌≡◌, ◌<◌, ◌+◌, ℕ, zero, suc, pos, negsuc, List, [], ◌∷◌, length, Ok, false, refl, sym, ap, ◌∙◌, subst, arith, ints, All, length-append, All-nil, Term, coefficient_of, generator_at, InRationalIdeal, word_cmp, IsOver, IsAdmissible, rank_of, word_cmp-admissible, IsShaped, IsCanonical, Made, Rule, State, IsRule, polynomials_of, start_of, words_with_coefficients, Kind, Overlap, Inclusion, Ambiguity, MeetsAs, IsAmbiguity, overlap_word_of, s_polynomial_of, IsResolved, Resolved, s_polynomials_balance, IsZero, IsReduced, generator_rows, IsAppended, rule_made, HaveLettersBelow, Kept, AreAllDone, NothingPending, all_one, all_two}
use Rattle.traced_rows.specs.declared.Origin.TheVariants as origin
use Rattle.confluence.proofs.Examples.{only_rule}
use Rattle.confluence.proofs.Ideals.{ideals_stay_inside}
use Rattle.confluence.proofs.RestLaws.{normal_forms_are_reduced, rests_of_ideal_are_zero, zero_rests_are_inside, zero_rests_are_resolved}
use Rattle.confluence.proofs.WrittenTerms.{shaped_as_written, canonical_as_written}
use Rattle.confluence.proofs.ShapeLaws.{zero_is_shaped}
use Rattle.confluence.proofs.Steps.{start_is_kept, generators_are_kept, resolved_at_once_is_kept}
use Rattle.confluence.proofs.OutsideIdeals.{nonzero_is_outside}

-- x x - x
abbrev terms : List Term
terms = (pos 1, 0 ∷ 0 ∷ []) ∷ (negsuc 0, 0 ∷ []) ∷ []

canonical : IsCanonical terms
canonical =
    canonical_as_written terms
    (shaped_as_written terms ((refl, tt), (tt, tt)) ((λ e. cc), ((λ e. cc), tt)) (omega arith, (omega arith, tt)))
    (omega arith, (omega arith, tt)) (omega arith)

laws : IsAdmissible 1 word_cmp (rank_of 1)
laws = word_cmp-admissible 1

one_letter : IsOver 1 (0 ∷ [])
one_letter = all_one (λ a. a < 1) 0 (omega arith)

two_letters : IsOver 1 (0 ∷ 0 ∷ [])
two_letters = all_two (λ a. a < 1) 0 0 (omega arith) (omega arith)

over : All (λ t. IsOver 1 t.1) terms
over = all_two (λ (t : Term). IsOver 1 t.1) (pos 1, 0 ∷ 0 ∷ []) (negsuc 0, 0 ∷ []) two_letters one_letter

abbrev rule : Rule
rule = record { leading = pos 1; lead = 0 ∷ 0 ∷ []; poly = record { terms = terms; canonical = canonical } }

is_rule : IsRule 1 word_cmp rule
is_rule = record {
  leading = refl;
  positive = omega (arith, ints);
  in_range = omega arith;
  nonempty = all_two (λ (t : Term). 0 < length t.1) (pos 1, 0 ∷ 0 ∷ []) (negsuc 0, 0 ∷ []) (omega arith) (omega arith);
  over = over;
}

abbrev generators : List (List Term)
generators = terms ∷ []

-- round 0: no rule reduces the generator, and it is made the rule
reduced : IsReduced 1 word_cmp [] terms (start_of terms)
reduced = normal_forms_are_reduced 1 word_cmp (rank_of 1) [] terms 0 (start_of terms) laws (All-nil (IsRule 1 word_cmp)) canonical.shaped over refl

abbrev made : Made
made = record { scale = pos 1; rows = generator_rows 1 (start_of terms) }

appended : IsAppended 1 word_cmp terms (generator_rows 1 (start_of terms)) [] [] (rule ∷ []) (made ∷ [])
appended = rule_made rule made (record { is_rule = is_rule; positive = omega (arith, ints); negated = false; divided = record { at = λ w. refl }; rows_are = refl }) refl refl

letters_below : HaveLettersBelow 1 generators
letters_below zero = record { at = λ w some. absurd (some refl) }
letters_below (suc zero) = record { at = words_with_coefficients (IsOver 1) terms over }
letters_below (suc (suc n)) = record { at = λ w some. absurd (some (past n w)) }
  where
    past : (n : ℕ) (w : List ℕ) → coefficient_of (generator_at generators (suc (suc n))) w ≡ pos 0
    past zero w = refl
    past (suc n) w = refl

after_round_zero : Kept 1 word_cmp generators (rule ∷ []) (made ∷ []) (1 ∷ []) []
after_round_zero = generators_are_kept 1 word_cmp (rank_of 1) generators [] [] [] [] 1 (start_of terms) (rule ∷ []) (made ∷ []) laws letters_below (omega arith) (omega arith) (start_is_kept 1 word_cmp generators) reduced appended

-- round 1: the one ambiguity, with the overlap word x x x
abbrev itself : Ambiguity
itself = record { i = 1; j = 1; kind = Overlap; place = 1 }

is_one : IsAmbiguity (rule ∷ []) itself
is_one = record {
  first = rule;
  second = rule;
  first_numbered = refl;
  second_numbered = refl;
  meets = record { before = 0 ∷ []; shared = 0 ∷ []; after = 0 ∷ []; left_splits = refl; right_splits = refl; at_place = refl; before_letters = omega arith; shared_letters = omega arith; after_letters = omega arith };
}

word : overlap_word_of (rule ∷ []) itself ≡ 0 ∷ 0 ∷ 0 ∷ []
word = refl

difference : s_polynomial_of (rule ∷ []) itself ≡ Ok []
difference = refl

rules_are : All (IsRule 1 word_cmp) (rule ∷ [])
rules_are = all_one (IsRule 1 word_cmp) rule is_rule

zero_reduced : IsReduced 1 word_cmp (rule ∷ []) [] (start_of [])
zero_reduced = normal_forms_are_reduced 1 word_cmp (rank_of 1) (rule ∷ []) [] 0 (start_of []) laws rules_are zero_is_shaped (All-nil (λ (t : Term). IsOver 1 t.1)) refl

closed : Kept 1 word_cmp generators (rule ∷ []) (made ∷ []) (1 ∷ []) (itself ∷ [])
closed = resolved_at_once_is_kept 1 word_cmp (rank_of 1) generators (rule ∷ []) [] (made ∷ []) (1 ∷ []) [] itself [] (start_of []) laws after_round_zero is_one
    (s_polynomials_balance (rule ∷ []) itself [] difference) zero_reduced (record { at = λ w. refl })

-- there is no other ambiguity
only_itself : (a : Ambiguity) → IsAmbiguity (rule ∷ []) a → a ≡ itself
only_itself a is = by_kind a.kind refl is.meets
  where
    i : a.i ≡ 1
    i = (only_rule a.i is.first is.first_numbered).0

    j : a.j ≡ 1
    j = (only_rule a.j is.second is.second_numbered).0

    first_lead : is.first.lead ≡ 0 ∷ 0 ∷ []
    first_lead = ap (λ (g : Rule). g.lead) (only_rule a.i is.first is.first_numbered).1

    by_kind : (k : Kind) → a.kind ≡ k → MeetsAs k a.i a.j is.first.lead is.second.lead a.place → a ≡ itself
    by_kind Inclusion kind at = absurd (at.0 (i ∙ sym j))
    by_kind Overlap kind at =
        let whole : 2 ≡ length at.before + length at.shared = ap length (sym first_lead ∙ at.left_splits) ∙ length-append at.before at.shared in
        let place : a.place ≡ 1 = omega (arith, whole, at.at_place, at.before_letters, at.shared_letters) in
        λ t. record { i = i t; j = j t; kind = kind t; place = place t }

nothing_pending : NothingPending (rule ∷ []) (itself ∷ [])
nothing_pending a is untreated = untreated (zero, omega arith, sym (only_itself a is))

all_done : AreAllDone generators (1 ∷ [])
all_done n first last = (zero, omega arith, (omega (arith, first, last)))

-- x is its own normal form, and so it is outside
abbrev x : List Term
x = (pos 1, 0 ∷ []) ∷ []

x_shaped : IsShaped x
x_shaped = shaped_as_written x (tt, tt) ((λ e. cc), tt) (omega arith, tt)

x_over : All (λ t. IsOver 1 t.1) x
x_over = all_one (λ (t : Term). IsOver 1 t.1) (pos 1, 0 ∷ []) one_letter

x_reduced : IsReduced 1 word_cmp (rule ∷ []) x (start_of x)
x_reduced = normal_forms_are_reduced 1 word_cmp (rank_of 1) (rule ∷ []) x 0 (start_of x) laws rules_are x_shaped x_over refl

x_is_outside : InRationalIdeal generators x → ⊥
x_is_outside = nonzero_is_outside 1 word_cmp (rank_of 1) generators (rule ∷ []) (made ∷ []) (1 ∷ []) (itself ∷ []) x (start_of x) laws closed all_done nothing_pending
    (record { at = words_with_coefficients (IsOver 1) x x_over }) x_reduced (record { word = 0 ∷ []; occurs = λ e. cc })

-- so it is by the rule alone, whatever made it: the generator and the S-polynomial are reduced to zero
abbrev generator_reduced : State
generator_reduced = record { multiplier = pos 1; rest = []; rows = record { coef = pos 1; left = []; from = origin.Rule 1; right = [] } ∷ []; used = 1 }

generators_inside : All (InRationalIdeal (polynomials_of (rule ∷ []))) generators
generators_inside = all_one (InRationalIdeal (polynomials_of (rule ∷ []))) terms
    (zero_rests_are_inside 1 word_cmp (rule ∷ []) terms generator_reduced (normal_forms_are_reduced 1 word_cmp (rank_of 1) (rule ∷ []) terms 1 generator_reduced laws rules_are canonical.shaped over refl) (record { at = λ w. refl }))

resolved_alone : Resolved 1 word_cmp (rule ∷ [])
resolved_alone = record { each = λ a is. subst (IsResolved 1 word_cmp (rule ∷ [])) (sym (only_itself a is)) (zero_rests_are_resolved 1 word_cmp (rank_of 1) (rule ∷ []) itself [] (start_of []) laws rules_are is_one (s_polynomials_balance (rule ∷ []) itself [] difference) zero_reduced (record { at = λ w. refl })) }

x_is_outside_alone : InRationalIdeal generators x → ⊥
x_is_outside_alone inside = clash (rests_of_ideal_are_zero 1 word_cmp (rank_of 1) (rule ∷ []) x (start_of x) laws rules_are resolved_alone (ideals_stay_inside (polynomials_of (rule ∷ [])) generators x generators_inside inside)
    (record { at = words_with_coefficients (IsOver 1) x x_over }) x_reduced)
  where
    clash : IsZero x → ⊥
    clash none = cc (none.at (0 ∷ []))

-- with the ambiguity left out nothing can be concluded: it is pending
left_out : NothingPending (rule ∷ []) [] → ⊥
left_out nothing = nothing itself is_one (λ c. omega (arith, c.1))
