-- The rules of a basis, one polynomial after another.
use Rattle.closed_checker.proofs.Prelude.{◌≡◌, ◌<◌, ◌<ℤ◌, ℕ, ◌+◌, pos, List, [], ◌∷◌, ◌++◌, length, take, get_or, Option, Some, None, option_to_list, refl, sym, ap, ◌∙◌, All, option_map, IsSomeAnd, take_more, flat_map-append, slice_get_read, Term, Compare, Poly, Rule, leading_term, rule_from, Problem, Basis, order_of, rules_from, MayBeRule, NamesClaim, LacksRule}
use Rattle.std.proofs.Common.{append-nil}

module _ (compare : Compare) where
  abbrev made : Poly → List Rule
  made p = option_to_list (rule_from compare p)

  abbrev rule_by : Poly → Term → Rule
  rule_by p t = record { leading = t.0; lead = t.1; poly = p }

  -- what may be a rule has one
  pub one_rule : (p : Poly) → MayBeRule compare p → length (made p) ≡ 1
  one_rule p may = go (leading_term compare p.terms) may.positive
    where
      go : (o : Option Term) → IsSomeAnd o (λ t. pos 0 <ℤ t.0) → length (option_to_list (option_map (rule_by p) o)) ≡ 1
      go None none = absurd none
      go (Some t) some = refl

  pub rules_more : (polys : List Poly) (i : ℕ) (p : Poly) → i < length polys → p ≡ get_or polys i p → rules_from compare (take (i + 1) polys) ≡ rules_from compare (take i polys) ++ made p
  rules_more polys i p inside is =
      ap (rules_from compare) (take_more polys i p inside) ∙ flat_map-append made (take i polys) (get_or polys i p ∷ [])
      ∙ ap (λ q. rules_from compare (take i polys) ++ (made q ++ [])) (sym is) ∙ ap (λ rs. rules_from compare (take i polys) ++ rs) (append-nil (made p))

pub lacks_rule : (problem : Problem) (b : Basis) (number i : ℕ) (p : Poly) → NamesClaim problem b → number ≡ i + 1 → i < length b.rules → p ≡ get_or b.rules i p
    → All (MayBeRule (order_of problem)) (take i b.rules) → (MayBeRule (order_of problem) p → ⊥) → LacksRule problem b number
lacks_rule problem b number i p claim numbered inside is passed refused =
    record { claim = claim; before = i; poly = p; numbered = numbered; there = slice_get_read b.rules (length b.rules) i p refl inside is; earlier = passed; refused = refused }
