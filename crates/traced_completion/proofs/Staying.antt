-- What stays of ambiguities where rules are appended.
use Rattle.traced_completion.proofs.Prelude.{◌≡◌, ℕ, zero, suc, ◌<◌, ◌≤◌, List, [], ◌∷◌, ◌++◌, length, slice_get, refl, sym, ap, ap₂, ◌∙◌, arith, option_map, unwrap_or, Rule, rule_at, Ambiguity, IsAmbiguity, lead_at, joined_word, overlap_word_of, rule_at-last, IsAmbiguityBefore, AmbiguitiesStay}

slice_get-append : (rules more : List Rule) (n : ℕ) → n < length rules → slice_get (rules ++ more) n ≡ slice_get rules n
slice_get-append [] more n inside = absurd (omega (arith, inside))
slice_get-append (g ∷ rules) more zero inside = refl
slice_get-append (g ∷ rules) more (suc n) inside = slice_get-append rules more n (omega (arith, inside))

-- a rule keeps its number
pub rule_at-append : (rules more : List Rule) (n : ℕ) → n ≤ length rules → rule_at (rules ++ more) n ≡ rule_at rules n
rule_at-append rules more zero inside = refl
rule_at-append rules more (suc n) inside = slice_get-append rules more n (omega (arith, inside))

lead_at-append : (rules more : List Rule) (n : ℕ) → n ≤ length rules → lead_at (rules ++ more) n ≡ lead_at rules n
lead_at-append rules more n inside = ap (λ r. unwrap_or (option_map (λ (g : Rule). g.lead) r) []) (rule_at-append rules more n inside)

pub overlap_word-append : (rules more : List Rule) (a : Ambiguity) → a.i ≤ length rules → a.j ≤ length rules → overlap_word_of (rules ++ more) a ≡ overlap_word_of rules a
overlap_word-append rules more a first second = ap₂ (λ p q. joined_word a.kind p q a.place) (lead_at-append rules more a.i first) (lead_at-append rules more a.j second)

pub first-within : (rules : List Rule) (a : Ambiguity) → IsAmbiguity rules a → a.i ≤ length rules
first-within rules a is = rule_at-last rules a.i is.first is.first_numbered

pub second-within : (rules : List Rule) (a : Ambiguity) → IsAmbiguity rules a → a.j ≤ length rules
second-within rules a is = rule_at-last rules a.j is.second is.second_numbered

pub ambiguity-append : (rules more : List Rule) (a : Ambiguity) → IsAmbiguity rules a → IsAmbiguity (rules ++ more) a
ambiguity-append rules more a is = record {
  first = is.first;
  second = is.second;
  first_numbered = rule_at-append rules more a.i (first-within rules a is) ∙ is.first_numbered;
  second_numbered = rule_at-append rules more a.j (second-within rules a is) ∙ is.second_numbered;
  meets = is.meets;
}

pub ambiguity-before : (rules more : List Rule) (a : Ambiguity) → IsAmbiguity (rules ++ more) a → a.i ≤ length rules → a.j ≤ length rules → IsAmbiguity rules a
ambiguity-before rules more a is first second = record {
  first = is.first;
  second = is.second;
  first_numbered = sym (rule_at-append rules more a.i first) ∙ is.first_numbered;
  second_numbered = sym (rule_at-append rules more a.j second) ∙ is.second_numbered;
  meets = is.meets;
}

pub ambiguities-stay : AmbiguitiesStay
ambiguities-stay rules more a = (into, back)
  where
    into : IsAmbiguityBefore rules more a → IsAmbiguity (rules ++ more) a × (a.i ≤ length rules) × (a.j ≤ length rules)
    into before = (ambiguity-append rules more a before.is, first-within rules a before.is, second-within rules a before.is)

    back : IsAmbiguity (rules ++ more) a × (a.i ≤ length rules) × (a.j ≤ length rules) → IsAmbiguityBefore rules more a
    back both = record { is = ambiguity-before rules more a both.0 both.1 both.2; same_word = sym (overlap_word-append rules more a both.1 both.2) }
