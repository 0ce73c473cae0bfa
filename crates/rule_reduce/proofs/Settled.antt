-- A step brings in no word above the one that it reduces, so the words above that one still have no match.
use Rattle.rule_reduce.proofs.Prelude.{◌≡◌, inl, inr, ℕ, ◌+◌, List, ◌++◌, length, get_or, take, drop, Option, Some, None, IfSome, Ok, Bor, sym, ap, ◌∙◌, subst, option_copied, All, same_Some, OccursAt, Term, Compare, IsAdmissible, Rule, State, Choice, IsRule, rule_at, entries_of, choice_of, IsSettled, moved, move_of, step_result}
use Rattle.rule_reduce.proofs.Numbers.{rule_at-all}
use Rattle.rule_reduce.proofs.Runs.{step_keeps}
use Rattle.rule_reduce.proofs.AtMost.{IsAtMost, at_most-greater, leading-greatest}
use Rattle.rule_reduce.proofs.Chosen.{found, none_above}
use Rattle.rule_reduce.proofs.LettersKept.{each-moved}
use Rattle.rule_reduce.proofs.WordsKept.{split_at}

-- what holds of a value holds where it is borrowed
pub if_borrowed : {X : Type 0} (P : X → Type 0) (o : Option (Bor X)) (v : Option X) → option_copied o ≡ v → IfSome v P → IfSome o (λ w. P w.now)
if_borrowed P None v same held = tt
if_borrowed P (Some w) v same held = subst (λ o. IfSome o P) (sym same) held

module _ (letters : ℕ) (compare : Compare) (rank : List ℕ → List ℕ) (laws : IsAdmissible letters compare rank) (rules : List Rule) (c : Choice) where
  abbrev Settled : List ℕ → Type 0
  Settled = IsSettled compare (entries_of rules) c.word

  abbrev AllSettled : State → Type 0
  AllSettled s = All (λ t. Settled t.1) s.rest

  -- words around two words keep their order
  around_at_most : (l u v r : List ℕ) → IsAtMost compare u v → IsAtMost compare (l ++ (u ++ r)) (l ++ (v ++ r))
  around_at_most l u v r (inl same) = inl (ap (λ w. l ++ (w ++ r)) same)
  around_at_most l u v r (inr less) = inr (laws.around l u v r less)

  at_most_settled : (w : List ℕ) → IsAtMost compare w c.word → Settled w
  at_most_settled w most = λ greater. absurd (at_most-greater letters compare rank laws w c.word most greater)

  around_settled : (l r : List ℕ) (lead : List ℕ) → c.word ≡ l ++ (lead ++ r) → (p : List Term) → All (λ t. IsAtMost compare t.1 lead) p → All (λ t. Settled (l ++ (t.1 ++ r))) p
  around_settled l r lead splits p below i t k =
      let w = (get_or p i t).1 in
      at_most_settled (l ++ (w ++ r)) (subst (IsAtMost compare (l ++ (w ++ r))) (sym splits) (around_at_most l w lead r (below i t k)))

  pub step_settles : All (IsRule letters compare) rules → (s t : State) → choice_of compare (entries_of rules) s.rest ≡ Some c → step_result rules c s ≡ Ok t → All (λ u. Settled u.1) t.rest
  step_settles are_rules s t chosen stepped =
      let one = found compare rules s.rest c chosen in
      step_keeps AllSettled rules c (keeps one.match.rule one.match.numbered one.match.leftmost.occurs) s t stepped (none_above letters compare rank laws rules s.rest c chosen)
    where
      keeps : (f : Rule) → rule_at rules c.number ≡ Some f → OccursAt c.word f.lead c.place → (g : Rule) (u : State) → rule_at rules c.number ≡ Some g → AllSettled u → AllSettled (moved (move_of c g) u)
      keeps f numbered occurs g u has settled =
          let l = take c.place c.word in
          let r = drop (c.place + length g.lead) c.word in
          let occurs_there : OccursAt c.word g.lead c.place = subst (λ h. OccursAt c.word h.lead c.place) (same_Some f g (sym numbered ∙ has)) occurs in
          let is_rule = rule_at-all (IsRule letters compare) rules c.number g has are_rules in
          let below = leading-greatest letters compare rank laws g.poly.terms (g.leading, g.lead) is_rule.leading in
          each-moved Settled (move_of c g) u settled (around_settled l r g.lead (split_at c.word g.lead c.place occurs_there) g.poly.terms below)
