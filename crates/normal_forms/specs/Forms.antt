-- Sums of words with numbers beside them.
use Rattle.std.specs.Prelude.{Bool, List, [], ◌∷◌, ◌++◌, if◌then◌else◌}
use Rattle.definitions.specs.Poly.{Word, word_eq}
use Rattle.normal_forms.specs.Numbers.{Numbers}

-- a list of words, each with a number beside it
abbrev pub Form : Type 0 → Type 0
Form K = List (K × Word)

-- a function applied to the words
abbrev pub with_words : {K : Type 0} → (Word → Word) → Form K → Form K
with_words h [] = []
with_words h (t ∷ p) = (t.0, h t.1) ∷ with_words h p

module _ {K : Type 0} (k : Numbers K) where
  -- c p
  abbrev pub multiple_form : K → Form K → Form K
  multiple_form c [] = []
  multiple_form c (t ∷ p) = (k.times c t.0, t.1) ∷ multiple_form c p

  -- p q, each word of p before each word of q
  abbrev pub product_form : Form K → Form K → Form K
  product_form [] q = []
  product_form (t ∷ p) q = with_words (λ u. t.1 ++ u) (multiple_form t.0 q) ++ product_form p q

  module _ (before : Word → Word → Bool) where
    -- a term before the others, unless its number is zero
    abbrev pub put : K × Word → Form K → Form K
    put t p = if k.is_none t.0 then p else (t ∷ p)

    -- a term inserted into a list whose words ascend
    abbrev pub insert_term : K × Word → Form K → Form K
    insert_term t [] = put t []
    insert_term t (s ∷ p) = if word_eq t.1 s.1 then put (k.plus t.0 s.0, s.1) p else (if before t.1 s.1 then put t (s ∷ p) else (s ∷ insert_term t p))

    -- the sum of the terms: each word once, ascending, with the sum of the numbers beside it where that isn't zero
    abbrev pub collected : Form K → Form K
    collected [] = []
    collected (t ∷ p) = insert_term t (collected p)
