use Rattle.rule_reduce.proofs.Prelude.{rules, ◌≡◌, ◌<◌, length, IsTrue, sym, subst, All, Term}
use Rattle.rule_reduce.proofs.rules.Rules.may_push.Goals as goal
use Rattle.rule_reduce.proofs.rules.Rules.may_push.Goals.{then-is_primitive, else-is_primitive, then-is_led_by_positive, else-is_led_by_positive}

pub returns-else-has_no_empty_word : goal.returns-else-has_no_empty_word
returns-else-has_no_empty_word g c =
    let terms : c.as_slice-terms.result.now ≡ c.args.poly.now.terms = search rules in (
      λ yes. absurd (cc),
      λ all. elim c.if-is_led_by_positive.branch [
        | then-is_led_by_positive w ↦ subst IsTrue (sym w.value-is) (w.has_no_empty_word.ensures.1 (subst (All (λ (t : Term). 0 < length t.1)) (sym terms) all.2))
        | else-is_led_by_positive w ↦ elim c.if-is_primitive.branch [ then-is_primitive v ↦ search rules | else-is_primitive v ↦ search rules ]
      ],
    )
