use Rattle.rule_index.proofs.Prelude.{◌≡◌, Vec, Global, ◌<◌, ◌+◌, ℕ, length, get_or, set, arith, subst, sym, ap, get_or_read, IsAdvanced, IsChild, words_of}
use Rattle.rule_index.proofs.Spelled.{child-single}
use Rattle.rule_index.proofs.Advancing.{IsAdvancing, advance-skip, advance-keep, advance-done}
use Rattle.rule_index.proofs.insertion.advance.Goals as goal
use Rattle.rule_index.proofs.insertion.advance.Goals.{in-Some, in_default}

pub loop-place-preserved : goal.loop-place-preserved
loop-place-preserved c =
    let nodes = c.args.nodes.now in
    let now = c.loop-place.ends.items in
    let initial = c.args.ends.now.items in
    let place = c.loop-place.place in
    let kept = c.loop-place.kept in
    let letter = c.args.letter in
    let h = c.loop-place.invariant in
    let inside : place < length initial = omega (arith, h.len) in
    let read : c.index.result.now ≡ get_or now place 0 = get_or_read now place c.index.result.now (omega (arith, inside, h.len)) c.index.ensures 0 in
    elim c.match-child.branch [
      | in-Some w ↦
          let node = w.in-Some.node in
          let items : c.match-child.ends.items ≡ set now kept node = ap (λ (v : Vec ℕ Global). v.items) w.ends-is in
          let child : IsChild nodes (get_or now place 0) letter node = subst (λ p. IsChild nodes p letter node) read w.in-Some.ensures.found in
          let next : IsAdvancing nodes letter initial (set now kept node) (place + 1) (kept + 1) =
          advance-keep nodes letter initial now place kept h node inside (λ p j k. child-single nodes (words_of nodes) c.requires.spelled p letter j k) child in
          subst (λ items. IsAdvancing nodes letter initial items (place + 1) c.match-child.kept) (sym items)
          (subst (λ kept'. IsAdvancing nodes letter initial (set now kept node) (place + 1) kept') (sym w.kept-is) next)
      | in_default w ↦
          let items : c.match-child.ends.items ≡ now = ap (λ (v : Vec ℕ Global). v.items) w.ends-is in
          let next : IsAdvancing nodes letter initial now (place + 1) kept =
          advance-skip nodes letter initial now place kept h (λ k child. w.in_default.ensures.absent k (subst (λ p. IsChild nodes p letter k) (sym read) child)) in
          subst (λ items. IsAdvancing nodes letter initial items (place + 1) c.match-child.kept) (sym items)
          (subst (λ kept'. IsAdvancing nodes letter initial now (place + 1) kept') (sym w.kept-is) next)
    ]

pub returns : goal.returns
returns c =
    let h = c.loop-place.invariant in
    subst (λ items. IsAdvanced c.args.nodes.now c.args.letter c.args.ends.now.items items) (sym c.truncate.ensures.items)
    (advance-done c.args.nodes.now c.args.letter c.args.ends.now.items c.loop-place.ends.items c.loop-place.place c.loop-place.kept h (omega (arith, h.len)) (omega (arith, h.len)))
