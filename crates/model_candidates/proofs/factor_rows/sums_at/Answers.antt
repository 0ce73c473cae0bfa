use Rattle.model_candidates.proofs.Prelude.{◌≡◌, ◌+◌, ◌%◌, ◌<◌, ℕ, ◌++◌, length, get_or, take, sym, ap, subst, ◌∙◌, arith, take_at, take_all, term_factor, terms_factor}
use Rattle.model_candidates.proofs.FactorRows.{AreSums, term_added, residues}
use Rattle.model_candidates.proofs.factor_rows.sums_at.Goals as goal

pub loop-term-preserved : goal.loop-term-preserved
loop-term-preserved c =
    let m = c.args.modulus in
    let n = c.args.count in
    let now = c.loop-term.invariant in
    let ts = c.args.terms.now in
    let index = c.loop-term.term-index in
    let t = c.term-item.result in
    let old = c.loop-term.sums.items in
    let new = c.add_products.new.factors in
    let same : c.deref_mut.result.now ≡ old = c.deref_mut.ensures.value in
    let size : length new ≡ length old = c.add_products.ensures.len ∙ ap length same in
    let each : (k : ℕ) → k < n → get_or new k 0 % m ≡ (get_or old k 0 + term_factor t c.args.row c.args.column k) % m =
    λ k inside. subst (λ xs. get_or new k 0 % m ≡ (get_or xs k 0 + term_factor t c.args.row c.args.column k) % m) same
    (c.add_products.ensures.each k (omega (arith, inside, now.size, ap length same))) in
    let list_is : take c.loop-term.sums.len (new ++ _) ≡ new = take_at new _ _ (size ∙ sym c.loop-term.sums.ok.0) in
    subst (AreSums m n (take (index + 1) ts) c.args.row c.args.column) (sym list_is) record {
      size = size ∙ now.size;
      below = c.add_products.ensures.below;
      each = λ k inside. term_added m c.args.row c.args.column k (get_or old k 0) (get_or new k 0) ts c.loop-term-test.true
          c.term-item.is (each k inside) (now.each k inside);
    }

pub returns : goal.returns
returns c =
    let now = c.loop-term.invariant in
    let ts = c.args.terms.now in
    let f : ℕ → ℕ = terms_factor ts c.args.row c.args.column in
    let all : take c.loop-term.term-index ts ≡ ts = take_all c.loop-term.term-index ts c.loop-term-test.false in
    residues f now.size now.below (λ k inside.
    now.each k inside ∙ ap (λ xs. terms_factor xs c.args.row c.args.column k % c.args.modulus) all)
