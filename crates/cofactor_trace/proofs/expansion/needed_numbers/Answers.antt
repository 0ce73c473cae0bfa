use Rattle.cofactor_trace.proofs.Prelude.{rules, ◌≡◌, ◌+◌, ◌-◌, ◌<◌, ◌≤◌, ◌^◌, ◌∷◌, ◌++◌, [], length, refl, true, false, ◌||◌, get_or, Some, sym, ap, subst, ◌∙◌, arith, All, slice_get, list_any, common_steps, get_or_default, All-weaker, slice_get_read, Row, IsAmongFirst, IsRecord, is_rule, Made, all_push, below}
use Rattle.cofactor_trace.proofs.NeededLaws.{IsMarked, among_more, marked-start, marked-yes, marked-no}
use Rattle.cofactor_trace.proofs.expansion.needed_numbers.Goals as goal

pub mark-requires-then-named-place : goal.mark-requires-then-named-place
mark-requires-then-named-place c =
    let made = c.args.made.now in
    let m = c.index-made-place.result in
    let p = c.loop-place.place - 1 in
    let size = c.loop-place.invariant.marked.sized in
    let inside : p < length made = omega arith in
    let item : slice_get made p ≡ Some m = slice_get_read made (length made) p m refl inside c.index-made-place.is in
    let entry : IsRecord p m = c.requires.records.at p m item in
    let more : p ≤ length c.loop-place.named = omega (arith, size) in
    let rows_are : c.as_slice-then-named-place.result.now ≡ m.rows = c.as_slice-then-named-place.ensures ∙ ap (λ (x : Made). x.rows) (sym c.index-made-place.is) in
    subst (All (λ (r : Row). IsAmongFirst (length c.loop-place.named) r.from)) (sym rows_are)
    (All-weaker (λ (r : Row). IsAmongFirst p r.from) (λ (r : Row). IsAmongFirst (length c.loop-place.named) r.from) (λ r h. among_more p (length c.loop-place.named) r.from more h) m.rows entry.earlier)

pub loop-place-init : goal.loop-place-init
loop-place-init c =
    record {
      marked =
          marked-start c.args.made.now c.args.target.now c.mark.new.named c.new-numbers.result.items
          (grind (arith, common_steps)) (λ k h. grind (arith, common_steps)) (search rules);
      far = λ k h. c.mark.ensures.far k h ∙ grind (arith, common_steps);
      in_range = search rules;
    }

pub loop-place-preserved-in-Continue-branch-2 : goal.loop-place-preserved-in-Continue-branch-2
loop-place-preserved-in-Continue-branch-2 c =
    let made = c.args.made.now in
    let target = c.args.target.now in
    let behind = c.loop-place.place in
    let p = behind - 1 in
    let m = c.index-made-place.result in
    let old = c.loop-place.named in
    let new = c.mark-then-named-place.new.named in
    let inside : p < length made = omega arith in
    let next : behind ≡ p + 1 = omega arith in
    let here : get_or old p false ≡ true = search rules in
    let size : length new ≡ length old = search rules in
    let rows_are : c.as_slice-then-named-place.result.now ≡ m.rows = c.as_slice-then-named-place.ensures ∙ ap (λ (x : Made). x.rows) (sym c.index-made-place.is) in
    let pushed : c.push.new.self.items ≡ c.loop-place.numbers.items ++ (p + 1) ∷ [] = c.in_ok-push.ensures.items in
    let near : p + 1 < 2 ^ 32 = below (2 ^ 32) (p + 1) (λ (h : 2 ^ 32 ≤ p + 1). absurd (cc (c.loop-place.invariant.far p h, here))) in
    record {
      marked =
          subst (IsMarked made target p new) (sym pushed)
          (marked-yes made target p m inside c.index-made-place.is behind next old c.loop-place.numbers.items c.loop-place.invariant.marked new here size
          (λ k h. c.mark-then-named-place.ensures.marks k h ∙ ap (λ l. get_or old k false || list_any (λ (r : Row). is_rule (k + 1) r.from) l) rows_are));
      far = λ k h. c.mark-then-named-place.ensures.far k h ∙ c.loop-place.invariant.far k h;
      in_range = all_push (λ n. n < 2 ^ 32) c.loop-place.numbers.items c.push.new.self.items (p + 1) c.loop-place.invariant.in_range near pushed;
    }

pub loop-place-preserved : goal.loop-place-preserved
loop-place-preserved c =
    let made = c.args.made.now in
    let behind = c.loop-place.place in
    let p = behind - 1 in
    let old = c.loop-place.named in
    let inside : p < length made = omega arith in
    let next : behind ≡ p + 1 = omega arith in
    let here : get_or old p false ≡ false = search rules in
    let m = get_or made p c.args.target.now in
    record {
      marked = marked-no made c.args.target.now p m inside (get_or_default made p c.args.target.now m inside) behind next old c.loop-place.numbers.items c.loop-place.invariant.marked here;
      far = c.loop-place.invariant.far;
      in_range = c.loop-place.invariant.in_range;
    }
