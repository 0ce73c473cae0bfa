-- Rows of records name what is there before, and a record more.
use Rattle.rule_making.proofs.Prelude.{◌≡◌, ℕ, zero, suc, ◌+◌, List, [], ◌∷◌, ◌++◌, length, slice_get, Option, Some, None, sym, ap, ◌∙◌, subst, arith, All, All-map, length-append, Row, Made, IsAmongFirst, IsRecord, Rule, negated_row, negated_rows, HasRecords}

abbrev pub AreNamed : ℕ → List Row → Type 0
AreNamed count rows = All (λ (r : Row). IsAmongFirst count r.from) rows

pub negated_named : (count : ℕ) (rows : List Row) → AreNamed count rows → AreNamed count (negated_rows rows)
negated_named count rows named = All-map (λ (r : Row). IsAmongFirst count r.from) negated_row rows named

-- one record more
none_some : (x : Made) → ◌≡◌ {A = Option Made} None (Some x) → ⊥
none_some x is = cc

same_some : (x y : Made) → ◌≡◌ {A = Option Made} (Some x) (Some y) → x ≡ y
same_some x y is = cc

plus_zero : (n : ℕ) → n + 0 ≡ n
plus_zero n = omega arith

plus_suc : (n p : ℕ) → suc n + p ≡ n + suc p
plus_suc n p = omega arith

push_record : (made : List Made) (m : Made) (n : ℕ) → ((place : ℕ) (x : Made) → slice_get made place ≡ Some x → IsRecord (n + place) x) → IsRecord (n + length made) m
    → (place : ℕ) (x : Made) → slice_get (made ++ m ∷ []) place ≡ Some x → IsRecord (n + place) x
push_record [] m n each last zero x is = subst (IsRecord (n + 0)) (same_some m x is) last
push_record [] m n each last (suc p) x is = absurd (none_some x is)
push_record (y ∷ made) m n each last zero x is = each zero x is
push_record (y ∷ made) m n each last (suc p) x is =
    subst (λ k. IsRecord k x) (plus_suc n p)
    (push_record made m (suc n) (λ q z has. subst (λ k. IsRecord k z) (sym (plus_suc n q)) (each (suc q) z has)) (subst (λ k. IsRecord k m) (sym (plus_suc n (length made))) last) p x is)

pub records_push : (rules rules' : List Rule) (g : Rule) (made made' : List Made) (m : Made) → HasRecords (record { rules = rules; made = made }) → IsRecord (length rules) m
    → rules' ≡ rules ++ g ∷ [] → made' ≡ made ++ m ∷ [] → HasRecords (record { rules = rules'; made = made' })
records_push rules rules' g made made' m has is rules_are made_are = record {
  one_each = omega (arith, has.one_each, ap length rules_are, ap length made_are, length-append rules (g ∷ []), length-append made (m ∷ []));
  records = record {
    at = λ place x at.
        subst (λ k. IsRecord k x) (sym (zero_plus place))
        (push_record made m 0 (λ q z z_at. subst (λ k. IsRecord k z) (zero_plus q) (has.records.at q z z_at)) (subst (λ k. IsRecord k m) (sym has.one_each ∙ zero_plus (length made)) is)
        place x (sym (ap (λ ms. slice_get ms place) made_are) ∙ at));
  };
}
  where
    zero_plus : (n : ℕ) → n ≡ 0 + n
    zero_plus n = omega arith
