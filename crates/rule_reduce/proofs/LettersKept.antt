-- A step brings in no letters but those of the polynomial and of the rule.
use Rattle.std.proofs.Common.{◌≡◌, ◌<◌, ℕ, ◌+◌, ℤ, ◌*ℤ◌, List, [], ◌∷◌, ◌++◌, length, get_or, take, drop, neg_ℤ, Some, Ok, arith, subst}
use Rattle.std.proofs.lemmas.List.Elements.{All-tail, All-map, All-append, All-take, All-drop}
use Rattle.std.specs.List.{All}
use Rattle.definitions.specs.Poly.{Term, poly_between}
use Rattle.word_core.specs.Letters.{IsOver}
use Rattle.nc_polynomial.proofs.Products.{scaled-between}
use Rattle.nc_polynomial.proofs.Shapes.{all-keep, all-totals, all-aligned, all-scaled}
use Rattle.nc_polynomial.specs.Terms.{multiplied, negated, shifted, aligned}
use Rattle.rule_reduce.specs.RuleLists.{rule_at}
use Rattle.rule_reduce.specs.Steps.{Move, moved, move_of, step_result}
use Rattle.rule_reduce.specs.declared.rule.Rule.{Rule}
use Rattle.rule_reduce.specs.declared.state.Choice.{Choice}
use Rattle.rule_reduce.specs.declared.state.State.{State}
use Rattle.rule_reduce.proofs.Numbers.{rule_at-all}
use Rattle.rule_reduce.proofs.Runs.{step_keeps}

-- what holds of each word holds of each word of a multiple, of the negative, of a sum
module _ (P : List ℕ → Type 0) where
  pub each-multiplied : (p : List Term) (k : ℤ) → All (λ t. P t.1) p → All (λ t. P t.1) (multiplied p k)
  each-multiplied [] k each = each
  each-multiplied (t ∷ p) k each = all-keep (λ (u : Term). P u.1) (t.0 *ℤ k) t.1 (multiplied p k) (λ e. each 0 t (omega arith)) (each-multiplied p k (All-tail (λ (u : Term). P u.1) t p each))

  each-shifted : (k : ℤ) (l : List ℕ) (g : List Term) (r : List ℕ) → All (λ t. P (l ++ (t.1 ++ r))) g → All (λ t. P t.1) (shifted k l g r)
  each-shifted k l g r each = subst (All (λ (u : Term). P u.1)) (scaled-between k l g r) (all-scaled P k (poly_between l g r) (All-map (λ (u : Term). P u.1) (λ (u : Term). (u.0, l ++ (u.1 ++ r))) g each))

  pub each-moved : (m : Move) (s : State) → All (λ t. P t.1) s.rest → All (λ t. P (m.left ++ (t.1 ++ m.right))) m.rule → All (λ t. P t.1) (moved m s).rest
  each-moved m s rest rule =
      let taken = negated (shifted m.times m.left m.rule m.right) in
      all-totals P (aligned (multiplied s.rest m.by) taken)
      (all-aligned P (multiplied s.rest m.by) taken (each-multiplied s.rest m.by rest) (All-map (λ (u : Term). P u.1) (λ (u : Term). (neg_ℤ u.0, u.1)) (shifted m.times m.left m.rule m.right) (each-shifted m.times m.left m.rule m.right rule)))

-- letters below a number
over-around : (n : ℕ) (l : List ℕ) (g : List Term) (r : List ℕ) → IsOver n l → IsOver n r → All (λ t. IsOver n t.1) g → All (λ t. IsOver n (l ++ (t.1 ++ r))) g
over-around n l g r left right each i t k = All-append (λ a. a < n) l ((get_or g i t).1 ++ r) left (All-append (λ a. a < n) (get_or g i t).1 r (each i t k) right)

pub step_letters : (n : ℕ) (rules : List Rule) (c : Choice) (s t : State) → step_result rules c s ≡ Ok t → All (λ g. All (λ u. IsOver n u.1) g.poly.terms) rules → IsOver n c.word
    → All (λ u. IsOver n u.1) s.rest → All (λ u. IsOver n u.1) t.rest
step_letters n rules c s t is rules_over word_over rest_over =
    step_keeps (λ u. All (λ v. IsOver n v.1) u.rest) rules c keeps s t is rest_over
  where
    keeps : (g : Rule) (u : State) → rule_at rules c.number ≡ Some g → All (λ v. IsOver n v.1) u.rest → All (λ v. IsOver n v.1) (moved (move_of c g) u).rest
    keeps g u has over =
        let rule_over = rule_at-all (λ f. All (λ v. IsOver n v.1) f.poly.terms) rules c.number g has rules_over in
        each-moved (IsOver n) (move_of c g) u over
        (over-around n (take c.place c.word) g.poly.terms (drop (c.place + length g.lead) c.word) (All-take (λ a. a < n) c.place c.word word_over) (All-drop (λ a. a < n) (c.place + length g.lead) c.word word_over) rule_over)
