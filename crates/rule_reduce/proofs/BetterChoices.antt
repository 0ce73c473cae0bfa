-- What holds of the choice so far and of one by the next term holds of the better one.
use Rattle.rule_reduce.proofs.Prelude.{ℕ, List, Option, Some, None, IfSome, Less, Equal, Greater, Term, by_order, match_of, Compare, Choice, better_choice, choice_or}

module _ (P : Choice → Type 0) (compare : Compare) (entries : List (List ℕ × ℕ)) (t : Term) (each : (m : ℕ × ℕ) → P (record { coefficient = t.0; word = t.1; number = m.0; place = m.1 })) where
  holds-or : (m : Option (ℕ × ℕ)) (best : Option Choice) → IfSome best P → IfSome (choice_or t m best) P
  holds-or None best held = held
  holds-or (Some m) best held = each m

  pub holds-better : (best : Option Choice) → IfSome best P → IfSome (better_choice compare entries best t) P
  holds-better None held = holds-or (match_of entries t.1) None held
  holds-better (Some b) held =
      elim (compare t.1 b.word) as (λ o. IfSome (by_order o (Some b) (Some b) (choice_or t (match_of entries t.1) (Some b))) P) [ Less ↦ held | Equal ↦ held | Greater ↦ holds-or (match_of entries t.1) (Some b) held ]
