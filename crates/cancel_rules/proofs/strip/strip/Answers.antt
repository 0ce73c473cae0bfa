use Rattle.cancel_rules.proofs.Prelude.{rules, ◌≡◌, ◌<◌, ◌≤◌, get_or, ℕ, ℤ, List, [], ◌∷◌, ◌++◌, length, take, sym, ap, ap₂, subst, ◌∙◌, take_all, IsCanonical, take_next, all_more, all_whole, stripped, HasAtEnd}
use Rattle.cancel_rules.proofs.Without.{canonical_stripped, stripped_push}
use Rattle.cancel_rules.proofs.strip.strip.Goals as goal

pub invariant_of-result : goal.invariant_of-result
invariant_of-result c =
    let p = c.args.poly.now in
    let past : length p.terms ≤ c.loop-term.term-index = search rules in
    let at_end = all_whole (λ t. HasAtEnd c.args.side c.args.letter.0 t.1) p.terms c.loop-term.term-index past c.loop-term.invariant.at_end in
    let is : c.loop-term.terms ≡ stripped c.args.side p.terms = c.loop-term.invariant.made ∙ ap (stripped c.args.side) (take_all c.loop-term.term-index p.terms past) in
    record { canonical = subst IsCanonical (sym is) (canonical_stripped c.args.side c.args.letter.0 p.terms p.canonical at_end) }

pub loop-term-preserved : goal.loop-term-preserved
loop-term-preserved c =
    let p = c.args.poly.now.terms in
    let i = c.loop-term.term-index in
    let t = c.term-item.result in
    let end = c.args.side in
    let rest = c.in-Some.rest in
    let same : c.as_slice-term-items.result.now ≡ p = search rules in
    let below : i < length p = subst (λ (terms : List (ℤ × List ℕ)). i < length terms) same c.loop-term-test.true in
    let is : t ≡ get_or p i t = subst (λ (terms : List (ℤ × List ℕ)). t ≡ get_or terms i t) same c.term-item.is in
    let has = rw c.in-Some.is at c.in_ok-rest.ensures in
    let pushed : c.push.new.self ≡ c.loop-term.terms ++ (t.0, rest) ∷ [] = search rules in
    record {
      at_end = all_more (λ (u : ℤ × List ℕ). HasAtEnd c.args.side c.args.letter.0 u.1) p i t below is c.loop-term.invariant.at_end has.0;
      made = pushed ∙ ap₂ (λ (ts : List (ℤ × List ℕ)) (w : List ℕ). ts ++ (t.0, w) ∷ []) c.loop-term.invariant.made has.1
          ∙ sym (ap (stripped end) (take_next p i t below is) ∙ stripped_push end (take i p) t);
    }
