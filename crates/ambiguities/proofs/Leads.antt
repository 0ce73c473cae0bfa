-- Leading words are short, and not empty.
use Rattle.ambiguities.proofs.Prelude.{◌≤◌, ◌<◌, ℕ, List, length, All, All-weaker, Compare, Rule, IsRule, leading-all}

module _ (letters : ℕ) (compare : Compare) where
  short_lead : (g : Rule) → IsRule letters compare g → length g.lead ≤ 500
  short_lead g is_rule = leading-all (λ t. length t.1 ≤ 500) compare g.poly.terms (g.leading, g.lead) is_rule.leading g.poly.canonical.short

  nonempty_lead : (g : Rule) → IsRule letters compare g → 0 < length g.lead
  nonempty_lead g is_rule = leading-all (λ t. 0 < length t.1) compare g.poly.terms (g.leading, g.lead) is_rule.leading is_rule.nonempty

  pub short_leads : (rules : List Rule) → All (IsRule letters compare) rules → All (λ g. length g.lead ≤ 500) rules
  short_leads rules each = All-weaker (IsRule letters compare) (λ g. length g.lead ≤ 500) short_lead rules each

  pub nonempty_leads : (rules : List Rule) → All (IsRule letters compare) rules → All (λ g. 0 < length g.lead) rules
  nonempty_leads rules each = All-weaker (IsRule letters compare) (λ g. 0 < length g.lead) nonempty_lead rules each
