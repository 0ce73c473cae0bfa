-- Typed rules in play make typed rules in play.
use Rattle.confluence.proofs.Prelude.{◌≡◌, ◌≢◌, inl, inr, ◌<◌, ℕ, pos, Bool, List, [], ◌∷◌, ◌++◌, length, take, drop, Some, sym, ◌∙◌, subst, arith, All, list_all, and_parts, and_from, ints, take-append-drop, All-weaker, All-push, list_all-append, Word, Term, coefficient_of, poly_between, Quiver, IsPath, coefficient_of-multiple, Compare, Row, Made, Rule, IsRule, rule_at, IsTypedRule, IsInPlay, IsPolyInPlay, types_are_kept, letters_are_kept, rule_at-all, Kind, Overlap, Inclusion, Ambiguity, IsAmbiguity, joined_word, overlap_word_of, first_row, second_row, of_either, coefficient_of-s_polynomial, overlap_word-is, first_splits, second_splits, leading_coefficient, s_polynomials_are_typed, signed, IsMadeOf, nothing_left, rule_made, IsTypedInPlay, AreTypedInPlay, NormalFormsStayTyped, SPolynomialsStayTyped, RulesStayTyped, TypedHasNoEmptyWord}
use Rattle.confluence.proofs.Shifts.{between_word}
use Rattle.confluence.proofs.MoreRules.{cancel_nonzero}
use Rattle.confluence.proofs.Steps.{signed_nonzero}

typed_rules : (q : Quiver) (play : ℕ → Bool) (rules : List Rule) → AreTypedInPlay q play rules → All (IsTypedRule q) rules
typed_rules q play rules typed = All-weaker (λ (g : Rule). IsTypedInPlay q play g.poly.terms) (IsTypedRule q) (λ g is. record { source = is.source; target = is.target; typed = is.typed }) rules typed

rules_in_play : (q : Quiver) (play : ℕ → Bool) (rules : List Rule) → AreTypedInPlay q play rules → All (λ g. IsPolyInPlay play g.poly.terms) rules
rules_in_play q play rules typed = All-weaker (λ (g : Rule). IsTypedInPlay q play g.poly.terms) (λ (g : Rule). IsPolyInPlay play g.poly.terms) (λ g is. is.in_play) rules typed

pub normal_forms_stay_typed : NormalFormsStayTyped
normal_forms_stay_typed q play letters compare rules p steps s are typed shaped p_typed ends = record {
  source = p_typed.source;
  target = p_typed.target;
  typed = record { at = (types_are_kept q p_typed.source p_typed.target letters compare rules p steps s are (typed_rules q play rules typed) shaped p_typed.typed ends).rest };
  in_play = record { at = (letters_are_kept play compare rules p steps s (rules_in_play q play rules typed) shaped p_typed.in_play ends).rest };
}

-- letters in play
parts_in_play : (play : ℕ → Bool) (u v : Word) → IsInPlay play (u ++ v) → IsInPlay play u × IsInPlay play v
parts_in_play play u v whole = and_parts (list_all play u) (list_all play v) (sym (list_all-append play u v) ∙ whole)

joined_in_play : (play : ℕ → Bool) (u v : Word) → IsInPlay play u → IsInPlay play v → IsInPlay play (u ++ v)
joined_in_play play u v left right = list_all-append play u v ∙ and_from (list_all play u) (list_all play v) left right

lead_in_play : (play : ℕ → Bool) (letters : ℕ) (compare : Compare) (g : Rule) → IsRule letters compare g → IsPolyInPlay play g.poly.terms → IsInPlay play g.lead
lead_in_play play letters compare g is in_play = in_play.at g.lead (λ none. (omega (arith, ints, is.positive, (sym (leading_coefficient compare g.poly.terms (g.leading, g.lead) g.poly.canonical.shaped is.leading) ∙ none))))

-- words of l g r, where l lead r is in play
between_in_play : (play : ℕ → Bool) (g : Rule) (l r : Word) → IsPolyInPlay play g.poly.terms → IsInPlay play (l ++ (g.lead ++ r)) → (w : Word) → coefficient_of (poly_between l g.poly.terms r) w ≢ pos 0 → IsInPlay play w
between_in_play play g l r in_play whole w some = elim (between_word l r g.poly.terms w) [
  | inl none ↦ absurd (some none)
  | inr (v, is, occurs) ↦ subst (IsInPlay play) (sym is)
      (joined_in_play play l (v ++ r) outer.0 (joined_in_play play v r (in_play.at v occurs) (parts_in_play play g.lead r outer.1).1))
]
  where
    outer : IsInPlay play l × IsInPlay play (g.lead ++ r)
    outer = parts_in_play play l (g.lead ++ r) whole

-- the letters of the overlap word are letters of the two leading words
module _ (q : Quiver) (play : ℕ → Bool) (letters : ℕ) (compare : Compare) (rules : List Rule) (are : All (IsRule letters compare) rules) (typed : AreTypedInPlay q play rules) where
  rule_in_play : (n : ℕ) (g : Rule) → rule_at rules n ≡ Some g → IsPolyInPlay play g.poly.terms
  rule_in_play n g numbered = (rule_at-all (λ (f : Rule). IsTypedInPlay q play f.poly.terms) rules n g numbered typed).in_play

  pub overlap_in_play : (a : Ambiguity) → IsAmbiguity rules a → IsInPlay play (overlap_word_of rules a)
  overlap_in_play a is = subst (IsInPlay play) (sym (overlap_word-is rules a is)) (joined a.kind)
    where
      lead : (n : ℕ) (g : Rule) → rule_at rules n ≡ Some g → IsInPlay play g.lead
      lead n g numbered = lead_in_play play letters compare g (rule_at-all (IsRule letters compare) rules n g numbered are) (rule_in_play n g numbered)

      joined : (k : Kind) → IsInPlay play (joined_word k is.first.lead is.second.lead a.place)
      joined Overlap = joined_in_play play (take a.place is.first.lead) is.second.lead ((parts_in_play play (take a.place is.first.lead)
          (drop a.place is.first.lead) (subst (IsInPlay play) (sym (take-append-drop a.place is.first.lead))
          (lead a.i is.first is.first_numbered))).0) (lead a.j is.second is.second_numbered)
      joined Inclusion = lead a.i is.first is.first_numbered

pub s_polynomials_stay_typed : SPolynomialsStayTyped
s_polynomials_stay_typed q play letters compare rules a p are typed is ends =
    let signature = s_polynomials_are_typed q letters compare rules a p are (typed_rules q play rules typed) is ends in
    record { source = signature.source; target = signature.target; typed = signature.typed; in_play = record { at = each } }
  where
    in_play_of : (n : ℕ) (g : Rule) → rule_at rules n ≡ Some g → IsPolyInPlay play g.poly.terms
    in_play_of = rule_in_play q play letters compare rules are typed

    whole : IsInPlay play (overlap_word_of rules a)
    whole = overlap_in_play q play letters compare rules are typed a is

    each : (w : Word) → coefficient_of p w ≢ pos 0 → IsInPlay play w
    each w some = of_either (first_row rules a).coef (second_row rules a).coef (poly_between (first_row rules a).left is.first.poly.terms (first_row rules a).right) (poly_between (second_row rules a).left is.second.poly.terms (second_row rules a).right) p
        (coefficient_of-s_polynomial rules a is p ends) (IsInPlay play)
        (between_in_play play is.first (first_row rules a).left (first_row rules a).right (in_play_of a.i is.first is.first_numbered) (subst (IsInPlay play) (first_splits rules a is) whole))
        (between_in_play play is.second (second_row rules a).left (second_row rules a).right (in_play_of a.j is.second is.second_numbered) (subst (IsInPlay play) (second_splits rules a is) whole)) w some

-- the rule of a rest
made_typed : (q : Quiver) (play : ℕ → Bool) (letters : ℕ) (compare : Compare) (rest : List Term) (rows : List Row) (g : Rule) (m : Made) → IsTypedInPlay q play rest → IsMadeOf letters compare rest rows g m → IsTypedInPlay q play g.poly.terms
made_typed q play letters compare rest rows g m typed is = record {
  source = typed.source;
  target = typed.target;
  typed = record { at = λ w some. typed.typed.at w (occurs w some) };
  in_play = record { at = λ w some. typed.in_play.at w (occurs w some) };
}
  where
    occurs : (w : Word) → coefficient_of g.poly.terms w ≢ pos 0 → coefficient_of rest w ≢ pos 0
    occurs w some none = some (cancel_nonzero (signed is.negated m.scale) (coefficient_of g.poly.terms w) (signed_nonzero is.negated m.scale is.positive) (sym (coefficient_of-multiple (signed is.negated m.scale) g.poly.terms w) ∙ is.divided.at w ∙ none))

pub rules_stay_typed : RulesStayTyped
rules_stay_typed q play letters compare rest rows rules made rules_after made_after typed rest_typed (nothing_left none rules_same made_same) = subst (AreTypedInPlay q play) (sym rules_same) typed
rules_stay_typed q play letters compare rest rows rules made rules_after made_after typed rest_typed (rule_made g m is rules_are made_are) =
    let P = λ (f : Rule). IsTypedInPlay q play f.poly.terms in
    subst (AreTypedInPlay q play) (sym rules_are) (All-push P rules g typed (made_typed q play letters compare rest rows g m rest_typed is))

pub typed_has_no_empty_word : TypedHasNoEmptyWord
typed_has_no_empty_word q play p typed = record { at = λ w some. letters_in w (typed.typed.at w some) }
  where
    letters_in : (w : Word) → IsPath q typed.source typed.target w → 0 < length w
    letters_in [] path = absurd (cc)
    letters_in (a ∷ w) path = omega arith
