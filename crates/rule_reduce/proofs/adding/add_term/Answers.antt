use Rattle.rule_reduce.proofs.Prelude.{rules, ◌≡◌, ◌+◌, ◌-◌, ◌<◌, ◌≤◌, ◌+ℤ◌, ℕ, List, length, take, drop, Err, sym, ap, ◌∙◌, subst, arith, HoldsAt, IsBinarySearchResult, Equal, take_rest, drop-drop, length-drop, IsCoefficient, sum_of, Term, word_cmp, IsShaped, term_at, IsPut}
use Rattle.nc_polynomial.specs.declared.fault.PolyFault.TheVariants as fault
use Rattle.rule_reduce.proofs.InPlace.{put_behind, shaped-drop, added_found, found_fails, added_absent}
use Rattle.rule_reduce.proofs.adding.add_term.Goals as goal
use Rattle.rule_reduce.proofs.adding.add_term.Goals.{In-Ok, In-Err}

-- the search is in the terms from the place on
slice_is : (p : List Term) (n : ℕ) (r : List Term) → r ≡ p → take (length r - n) (drop n r) ≡ drop n p
slice_is p n r is = take_rest r n ∙ ap (drop n) is

there_is : (c : In-Ok) → HoldsAt (λ (t : Term). word_cmp c.args.word t.1 ≡ Equal) (drop c.args.from c.args.terms.now.items) c.in-Ok.place
there_is c =
    subst (λ (l : List Term). HoldsAt (λ (t : Term). word_cmp c.args.word t.1 ≡ Equal) l c.in-Ok.place) (slice_is c.args.terms.now.items c.args.from c.deref.result.now c.deref.ensures.value) c.in-Ok.ensures.place

inside_is : (c : In-Ok) → c.args.from + c.in-Ok.place < length c.args.terms.now.items
inside_is c =
    let inside = subst (λ (l : List Term). c.in-Ok.place < length l) (slice_is c.args.terms.now.items c.args.from c.deref.result.now c.deref.ensures.value) c.in-Ok.ensures.in_range in
    omega (arith, inside, length-drop c.args.from c.args.terms.now.items)

found_is : (c : In-Err) → IsBinarySearchResult (λ (t : Term). word_cmp c.args.word t.1) (drop c.args.from c.args.terms.now.items) (Err c.in-Err.place)
found_is c =
    subst (λ (l : List Term). IsBinarySearchResult (λ (t : Term). word_cmp c.args.word t.1) l (Err c.in-Err.place)) (slice_is c.args.terms.now.items c.args.from c.deref.result.now c.deref.ensures.value) c.in-Err.ensures.place

pub returns-in_ok-add_at-in-Ok-clause-exact : goal.returns-in_ok-add_at-in-Ok-clause-exact
returns-in_ok-add_at-in-Ok-clause-exact c =
    let passed = (goal.at.returns-in_ok-add_at-in-Ok-clause-exact c).In-Ok in
    let p = c.args.terms.now.items in
    let n = c.args.from in
    let i = c.in-Ok.place in
    let put : IsPut (take (n + i) p) ((term_at p (n + i)).0 +ℤ c.args.coefficient) (term_at p (n + i)).1 (drop (n + i + 1) p) c.in_ok-add_at-in-Ok.field-0 c.add_at.new.terms.items = search rules in
    let fits : IsCoefficient ((term_at p (n + i)).0 +ℤ c.args.coefficient) = search rules in
    added_found p n c.requires.shaped c.args.coefficient c.args.word i (inside_is passed) (there_is passed) c.in_ok-add_at-in-Ok.field-0 c.add_at.new.terms.items put fits

pub returns-in_ok-add_at-in-Ok-clause-shaped : goal.returns-in_ok-add_at-in-Ok-clause-shaped
returns-in_ok-add_at-in-Ok-clause-shaped c =
    let p = c.args.terms.now.items in
    let n = c.args.from in
    let i = c.in-Ok.place in
    let x = term_at p (n + i) in
    let put : IsPut (take (n + i) p) (x.0 +ℤ c.args.coefficient) x.1 (drop (n + i + 1) p) c.in_ok-add_at-in-Ok.field-0 c.add_at.new.terms.items = search rules in
    let behind = put_behind (take (n + i) p) (drop (n + i + 1) p) c.add_at.new.terms.items (x.0 +ℤ c.args.coefficient) x.1 c.in_ok-add_at-in-Ok.field-0 put in
    let back : drop (n + i + 1) p ≡ drop (i + 1) (drop n p) = sym (drop-drop (i + 1) n p ∙ ap (λ m. drop m p) (omega arith)) in
    subst IsShaped (sym (behind ∙ back)) (shaped-drop (i + 1) (drop n p) c.requires.shaped)

pub returns-in_err-add_at-in-Ok-clause-exact : goal.returns-in_err-add_at-in-Ok-clause-exact
returns-in_err-add_at-in-Ok-clause-exact c =
    let passed = (goal.at.returns-in_err-add_at-in-Ok-clause-exact c).In-Ok in
    let p = c.args.terms.now.items in
    let n = c.args.from in
    let i = c.in-Ok.place in
    let x = term_at p (n + i) in
    let fails : ¬ IsCoefficient (x.0 +ℤ c.args.coefficient) = search rules in
    let back : c.from_residual.result ≡ Err (fault.Overflow (sum_of x.0 c.args.coefficient)) = search rules in
    rw back (found_fails p n c.requires.shaped c.args.coefficient c.args.word i (inside_is passed) (there_is passed) fails)

pub returns-in_ok-put_at-in-Err-clause-exact : goal.returns-in_ok-put_at-in-Err-clause-exact
returns-in_ok-put_at-in-Err-clause-exact c =
    let passed = (goal.at.returns-in_ok-put_at-in-Err-clause-exact c).In-Err in
    let p = c.args.terms.now.items in
    let n = c.args.from in
    let i = c.in-Err.place in
    let put : IsPut (take (n + i) p) c.args.coefficient c.args.word (drop (n + i) p) c.in_ok-put_at-in-Err.field-0 c.put_at.new.terms.items = search rules in
    let inside : i ≤ length (drop n p) = subst (λ (l : List Term). i ≤ length l) (slice_is p n c.deref.result.now c.deref.ensures.value) c.in-Err.ensures.in_range in
    added_absent p n c.requires.shaped c.args.coefficient c.args.word i (found_is passed) inside c.in_ok-put_at-in-Err.field-0 c.put_at.new.terms.items put c.requires.coefficient_in

pub returns-in_ok-put_at-in-Err-clause-shaped : goal.returns-in_ok-put_at-in-Err-clause-shaped
returns-in_ok-put_at-in-Err-clause-shaped c =
    let p = c.args.terms.now.items in
    let n = c.args.from in
    let i = c.in-Err.place in
    let put : IsPut (take (n + i) p) c.args.coefficient c.args.word (drop (n + i) p) c.in_ok-put_at-in-Err.field-0 c.put_at.new.terms.items = search rules in
    let behind = put_behind (take (n + i) p) (drop (n + i) p) c.put_at.new.terms.items c.args.coefficient c.args.word c.in_ok-put_at-in-Err.field-0 put in
    subst IsShaped (sym (behind ∙ sym (drop-drop i n p))) (shaped-drop i (drop n p) c.requires.shaped)
