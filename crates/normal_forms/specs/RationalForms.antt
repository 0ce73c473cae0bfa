-- The rational normal form of a word, and of a sum of words.
use Rattle.std.specs.Prelude.{◌≡◌, ℕ, ◌+◌, Bool, true, false, not, refl, List, [], ◌∷◌, ◌++◌, length, take, drop, filter, Option, Some, None}
use Rattle.std.specs.Int.RustNames.{unsigned_abs}
use Rattle.definitions.specs.Poly.{Word, Term, word_eq}
use Rattle.rule_index.specs.Matches.{place_in}
use Rattle.rule_reduce.specs.declared.rule.Rule.{Rule}
use Rattle.normal_forms.specs.Numbers.{Numbers}
use Rattle.normal_forms.specs.Forms.{Form, multiple_form}

-- Each way down from the word ends, by a test of what is below.
pub data IsGrounded (below : Word → Word → Bool) : Word → Type 0 where
  grounded : (M : Word) → ((L : Word) → below L M ≡ true → IsGrounded below L) → IsGrounded below M

-- a rule whose leading word occurs at the place, or else the later one
abbrev pub rule_or : Rule → Option ℕ → Option (Rule × ℕ) → Option (Rule × ℕ)
rule_or g (Some place) later = Some (g, place)
rule_or g None later = later

-- the first rule whose leading word occurs in the word, with its leftmost place
abbrev pub first_rule : List Rule → Word → Option (Rule × ℕ)
first_rule [] word = None
first_rule (g ∷ rules) word = rule_or g (place_in word g.lead) (first_rule rules word)

-- the terms of a rule but its leading one
abbrev pub other_terms : Rule → List Term
other_terms g = filter (λ t. not (word_eq g.lead t.1)) g.poly.terms

module _ {K : Type 0} (k : Numbers K) (below : Word → Word → Bool) (rules : List Rule) where
  -- the form of a word that is below
  abbrev pub form_where : (b : Bool) → (b ≡ true → Form K) → Form K
  form_where true form = form refl
  form_where false form = []

  -- the sum over the terms (c, w) of -c/q times the form of l w r, for the words below M
  abbrev pub lower_forms : (M : Word) → ((L : Word) → below L M ≡ true → Form K) → ℕ → Word → Word → List Term → Form K
  lower_forms M form q l r [] = []
  lower_forms M form q l r (t ∷ p) =
      multiple_form k (k.times (k.minus (k.int t.0)) (k.part q))
      (form_where (below (l ++ (t.1 ++ r)) M) (form (l ++ (t.1 ++ r)))) ++ lower_forms M form q l r p

  -- Where no leading word occurs, once the word itself; else, with l lead r the word, the sum over the other terms.
  abbrev pub form_by : (M : Word) → ((L : Word) → below L M ≡ true → Form K) → Option (Rule × ℕ) → Form K
  form_by M form None = (k.one, M) ∷ []
  form_by M form (Some (g, place)) = lower_forms M form (unsigned_abs g.leading) (take place M) (drop (place + length g.lead) M) (other_terms g)

  -- the rational normal form of a word
  abbrev pub word_form : (M : Word) → IsGrounded below M → Form K
  word_form _ (grounded M lower) = form_by M (λ L e. word_form L (lower L e)) (first_rule rules M)

  -- and of a sum of words
  abbrev pub rational_normal_form : ((w : Word) → IsGrounded below w) → Form K → Form K
  rational_normal_form all_grounded [] = []
  rational_normal_form all_grounded (t ∷ p) = multiple_form k t.0 (word_form t.1 (all_grounded t.1)) ++ rational_normal_form all_grounded p
