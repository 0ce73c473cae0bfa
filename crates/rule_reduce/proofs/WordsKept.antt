-- A property of words that replacing a leading word by the other words of its rule keeps is kept by a reduction.
use Rattle.std.proofs.Common.{◌≡◌, ◌≢◌, ℕ, ◌+◌, pos, List, [], ◌∷◌, ◌++◌, length, take, drop, Some, Ok, refl, sym, ap, ap₂, ◌∙◌, subst, arith, inl, inr}
use Rattle.std.proofs.lemmas.Bool.{cases_Bool}
use Rattle.std.proofs.lemmas.List.{take_at, drop_at, drop-drop}
use Rattle.std.proofs.lemmas.List.Elements.{All-nil, All-tail, All-contains}
use Rattle.std.proofs.lemmas.Option.{same_Some}
use Rattle.std.specs.List.{All}
use Rattle.definitions.proofs.Linear.{word_eq-true, coefficient_other}
use Rattle.definitions.specs.Poly.{Term, word_eq, coefficient_of}
use Rattle.word_core.specs.Occurrence.{OccursAt}
use Rattle.traced_rows.specs.Traces.{origin_poly}
use Rattle.traced_rows.specs.declared.Row.{Row}
use Rattle.word_orders.specs.Admissible.{Compare}
use Rattle.rule_reduce.specs.Choices.{choice_of}
use Rattle.rule_reduce.specs.KeptWords.{EachWord}
use Rattle.rule_reduce.specs.NormalForms.{start_of, normal_form_of}
use Rattle.rule_reduce.specs.RuleLists.{rule_at, polynomials_of, entries_of}
use Rattle.rule_reduce.specs.Steps.{move_row, moved, move_of}
use Rattle.rule_reduce.specs.declared.rule.Rule.{Rule}
use Rattle.rule_reduce.specs.declared.state.Choice.{Choice}
use Rattle.rule_reduce.specs.declared.state.State.{State}
use Rattle.rule_reduce.proofs.Numbers.{rule_at-polynomial}
use Rattle.rule_reduce.proofs.Rows.{all-multiplied}
use Rattle.rule_reduce.proofs.Runs.{reduction_keeps}
use Rattle.rule_reduce.proofs.LettersKept.{each-moved}
use Rattle.rule_reduce.proofs.Chosen.{found}

-- what holds of each word that stands there holds of each word with a coefficient
pub words_with_coefficients : (P : List ℕ → Type 0) (p : List Term) → All (λ t. P t.1) p → (w : List ℕ) → coefficient_of p w ≢ pos 0 → P w
words_with_coefficients P [] each w some = absurd (some refl)
words_with_coefficients P (t ∷ p) each w some = elim (cases_Bool (word_eq t.1 w)) [
  | inl same ↦ subst P (word_eq-true t.1 w same) (each 0 t (omega arith))
  | inr other ↦ words_with_coefficients P p (All-tail (λ (u : Term). P u.1) t p each) w (λ none. some (coefficient_other w t p other ∙ none))
]

-- a word is what stands before a place at which another occurs, the other, and what stands behind it
pub split_at : (w sub : List ℕ) (place : ℕ) → OccursAt w sub place → w ≡ take place w ++ (sub ++ drop (place + length sub) w)
split_at w sub place occurs =
    let before : take place w ≡ occurs.before = ap (take place) occurs.splits ∙ take_at occurs.before (sub ++ occurs.after) place occurs.at_place in
    let behind : drop (place + length sub) w ≡ occurs.after =
    sym (drop-drop (length sub) place w)
    ∙ ap (λ v. drop (length sub) (drop place v)) occurs.splits ∙ ap (drop (length sub)) (drop_at occurs.before (sub ++ occurs.after) place occurs.at_place)
    ∙ drop_at sub occurs.after (length sub) refl in
    occurs.splits ∙ sym (ap₂ (λ l r. l ++ (sub ++ r)) before behind)

module _ (P : List ℕ → Type 0) (compare : Compare) (rules : List Rule) (replaces : (n : ℕ) (g : Rule) → rule_at rules n ≡ Some g → (l r : List ℕ) → P (l ++ (g.lead ++ r)) → All (λ t. P (l ++ (t.1 ++ r))) g.poly.terms) where
  abbrev RowHolds : Row → Type 0
  RowHolds row = (w : List ℕ) → coefficient_of (origin_poly [] (polynomials_of rules) row.from) w ≢ pos 0 → P (row.left ++ (w ++ row.right))

  record Kept (s : State) : Type 0 where
    rest : All (λ t. P t.1) s.rest
    rows : All RowHolds s.rows

  step_keeps_words : (c : Choice) (g : Rule) (s : State) → choice_of compare (entries_of rules) s.rest ≡ Some c → rule_at rules c.number ≡ Some g → Kept s → Kept (moved (move_of c g) s)
  step_keeps_words c g s chosen has before =
      let l = take c.place c.word in
      let r = drop (c.place + length g.lead) c.word in
      let one = found compare rules s.rest c chosen in
      let same : one.match.rule ≡ g = same_Some one.match.rule g (sym one.match.numbered ∙ has) in
      let occurs : OccursAt c.word g.lead c.place = subst (λ f. OccursAt c.word f.lead c.place) same one.match.leftmost.occurs in
      let word : P c.word = All-contains (λ (t : Term). P t.1) s.rest (c.coefficient, c.word) before.rest one.term in
      let others = replaces c.number g has l r (subst P (split_at c.word g.lead c.place occurs) word) in
      let around : (w : List ℕ) → coefficient_of g.poly.terms w ≢ pos 0 → P (l ++ (w ++ r)) = words_with_coefficients (λ w. P (l ++ (w ++ r))) g.poly.terms others in
      record {
        rest = each-moved P (move_of c g) s before.rest others;
        rows = all-multiplied RowHolds (λ by row held. held) (move_of c g).by s.rows (move_row (move_of c g)) before.rows (subst (λ f. (w : List ℕ) → coefficient_of f w ≢ pos 0 → P (l ++ (w ++ r))) (sym (rule_at-polynomial rules c.number g has)) around);
      }

  pub words_kept : (p : List Term) (steps : ℕ) (s : State) → All (λ t. P t.1) p → normal_form_of compare rules p steps ≡ Ok s → EachWord P rules s
  words_kept p steps s each ends =
      let kept = (reduction_keeps Kept compare rules step_keeps_words steps steps (start_of p) s ends (record { rest = each; rows = All-nil RowHolds })).kept in
      record { rest = words_with_coefficients P s.rest kept.rest; rows = kept.rows }
