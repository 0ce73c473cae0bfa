-- The lists that give an order its weights or its block.
use Rattle.std.specs.Prelude.{ℕ, Bool, List, Option, nat_eq}
use Rattle.std.specs.List.{find, list_any}
use Rattle.std.specs.Option.{option_map, unwrap_or}
use Rattle.word_core.specs.declared.letter.Letter.{Letter}

-- whether the letter with this number is in the list
abbrev pub is_listed : List Letter → ℕ → Bool
is_listed listed number = list_any (λ letter. nat_eq letter.0 number) listed

-- the weight that the list gives it, if it gives it one
abbrev pub listed_weight : List (Letter × ℕ) → ℕ → Option ℕ
listed_weight weights number = option_map (λ entry. entry.1) (find (λ entry. nat_eq entry.0.0 number) weights)

-- its weight, which is 1 where the list gives it none
abbrev pub weight_of : List (Letter × ℕ) → ℕ → ℕ
weight_of weights number = unwrap_or (listed_weight weights number) 1
