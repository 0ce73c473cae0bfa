-- Polynomials and rows over letters below a number: reductions keep them, and S-polynomials have such rows.
use Rattle.ambiguities.proofs.Prelude.{◌≡◌, ◌<◌, ℕ, ◌+◌, List, ◌++◌, length, take, drop, Some, Ok, get_or, All, All-nil, All-append, All-take, All-drop, All-contains, Term, IsOver, Compare, Row, Rule, State, Choice, IsRule, rule_at, entries_of, choice_of, moved, move_of, move_row, start_of, normal_form_of, found, each-moved, rule_at-all, all-multiplied, reduction_keeps, Ambiguity, IsAmbiguity, lead_at, overlap_word_of, first_row, second_row, s_rows_of, all_two}
use Rattle.ambiguities.proofs.Bounds.{over_overlap_word}

module _ (letters : ℕ) where
  abbrev pub AreOver : List Term → Type 0
  AreOver p = All (λ t. IsOver letters t.1) p

  abbrev pub IsOverRow : Row → Type 0
  IsOverRow r = IsOver letters r.left × IsOver letters r.right

  over_around : (l r : List ℕ) → IsOver letters l → IsOver letters r → (p : List Term) → AreOver p → All (λ t. IsOver letters (l ++ (t.1 ++ r))) p
  over_around l r left right p each i t k = All-append (λ a. a < letters) l ((get_or p i t).1 ++ r) left (All-append (λ a. a < letters) (get_or p i t).1 r (each i t k) right)

  module _ (compare : Compare) (rules : List Rule) (are : All (IsRule letters compare) rules) where
    -- the words of the rest, and of the rows
    abbrev IsOverState : State → Type 0
    IsOverState s = AreOver s.rest × All IsOverRow s.rows

    step_over : (c : Choice) (g : Rule) (s : State) → choice_of compare (entries_of rules) s.rest ≡ Some c → rule_at rules c.number ≡ Some g → IsOverState s → IsOverState (moved (move_of c g) s)
    step_over c g s chosen has before =
        let word : IsOver letters c.word =
        All-contains (λ (t : Term). IsOver letters t.1) s.rest (c.coefficient, c.word) before.0 (found compare rules s.rest c chosen).term in
        let left = All-take (λ a. a < letters) c.place c.word word in
        let right = All-drop (λ a. a < letters) (c.place + length g.lead) c.word word in
        let rule = (rule_at-all (IsRule letters compare) rules c.number g has are).over in (
          each-moved (IsOver letters) (move_of c g) s before.0 (over_around (take c.place c.word) (drop (c.place + length g.lead) c.word) left right g.poly.terms rule),
          all-multiplied IsOverRow (λ by row held. held) (move_of c g).by s.rows (move_row (move_of c g)) before.1 (left, right),
        )

    pub reduced_over : (p : List Term) (steps : ℕ) (s : State) → AreOver p → normal_form_of compare rules p steps ≡ Ok s → IsOverState s
    reduced_over p steps s each ends = (reduction_keeps IsOverState compare rules step_over steps steps (start_of p) s ends (each, All-nil IsOverRow)).kept

    pub s_rows_over : (a : Ambiguity) → IsAmbiguity rules a → All IsOverRow (s_rows_of rules a)
    s_rows_over a is =
        let word : IsOver letters (overlap_word_of rules a) = over_overlap_word letters compare rules a are is in
        all_two IsOverRow (first_row rules a) (second_row rules a)
        (All-nil (λ n. n < letters), All-drop (λ n. n < letters) (length (lead_at rules a.i)) (overlap_word_of rules a) word)
        (All-take (λ n. n < letters) a.place (overlap_word_of rules a) word, All-drop (λ n. n < letters) (a.place + length (lead_at rules a.j)) (overlap_word_of rules a) word)
