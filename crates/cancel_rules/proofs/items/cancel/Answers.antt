use Rattle.cancel_rules.proofs.Prelude.{◌-◌, ◌<◌, All, sym, subst, ap, ◌∙◌, arith, HasSignature, letter_count, quiver_of, letters-quiver_of, polynomials, posed_quiver, IsNumberUpTo, Names, named, length-polynomials, IsOver, Cancellation, stripped, HasAtEnd, IsTypedItem, MarksDeclared, IsPolyOver, clash}
use Rattle.cancel_rules.proofs.Found.{holds_there, some_object}
use Rattle.cancel_rules.proofs.Without.{stripped_over}
use Rattle.cancel_rules.proofs.items.cancel.Goals as goal
use Rattle.cancel_rules.proofs.items.cancel.Goals.{In-Some, After-strip}

-- the item stands before
names : (c : In-Some) → Names c.args.before.now c.args.item c.in-Some.whole.now
names c = named c.args.before.now c.args.item c.in-Some.whole.now c.in-Some.ensures.in_range c.in-Some.ensures.found

pub returns-in_default-clause-refused : goal.returns-in_default-clause-refused
returns-in_default-clause-refused c = λ proof rows marked.
    let long = length-polynomials c.args.before.now in
    record { numbered = omega arith; earlier = λ h. c.in_default.ensures.absent (subst (λ k. IsNumberUpTo k c.args.item) (length-polynomials c.args.before.now) h) }

pub returns-then-not-has-clause-refused : goal.returns-then-not-has-clause-refused
returns-then-not-has-clause-refused c = λ proof rows marked.
    let passed = goal.at.returns-then-not-has-clause-refused c in
    let long = length-polynomials c.args.before.now in
    record { numbered = omega arith; earlier = (names passed.In-Some).number; declared = λ h. clash c.has.result ((c.has.ensures proof marked).1 h) c.if-not-has.true }

pub returns-then-not-is_typed-clause-refused : goal.returns-then-not-is_typed-clause-refused
returns-then-not-is_typed-clause-refused c = λ proof rows marked.
    let passed = goal.at.returns-then-not-is_typed-clause-refused c in
    let it = names passed.In-Some in
    let long = length-polynomials c.args.before.now in
    let q = quiver_of c.args.problem.now.parts.quiver in
    record {
      numbered = omega arith;
      of_letter = record { earlier = it.number; declared = (c.has.ensures proof marked).0 c.if-not-has.false };
      typed = λ h. clash c.is_typed.result (c.is_typed.ensures.1 (subst (HasSignature q) (sym it.terms) h)) c.if-not-is_typed.true;
    }

pub is_typed-requires-clause-quiver : goal.is_typed-requires-clause-quiver
is_typed-requires-clause-quiver c = posed_quiver c.args.problem.now.parts c.args.problem.now.posed

pub is_typed-requires-clause-object : goal.is_typed-requires-clause-object
is_typed-requires-clause-object c =
    let ds = c.args.problem.now.parts.quiver in
    some_object (quiver_of ds) (posed_quiver c.args.problem.now.parts c.args.problem.now.posed) c.args.letter.0 (subst (λ n. c.args.letter.0 < n) (sym (letters-quiver_of ds)) c.requires.letter)

pub is_typed-requires-clause-letters : goal.is_typed-requires-clause-letters
is_typed-requires-clause-letters c = holds_there (IsPolyOver c.args.problem.now.parts.quiver) c.args.before.now (c.args.item - 1) c.in-Some.whole.now c.requires.letters c.in-Some.ensures.found

-- the polynomial is typed
typed_item : (c : After-strip) (proof : Cancellation) → MarksDeclared proof c.args.marks.now → Names c.args.before.now c.args.item c.in-Some.whole.now
    → IsTypedItem (quiver_of c.args.problem.now.parts.quiver) proof (polynomials c.args.before.now) c.args.letter c.args.side c.args.item
typed_item c proof marked it = record {
  of_letter = record { earlier = it.number; declared = (c.has.ensures proof marked).0 c.if-not-has.false };
  typed = subst (HasSignature (quiver_of c.args.problem.now.parts.quiver)) it.terms (c.is_typed.ensures.0 c.if-not-is_typed.false);
}

pub returns-in-None-clause-refused : goal.returns-in-None-clause-refused
returns-in-None-clause-refused c = λ proof rows marked.
    let passed = goal.at.returns-in-None-clause-refused c in
    let it = names passed.In-Some in
    let long = length-polynomials c.args.before.now in
    let lacks = rw c.in-None.is at c.in_ok-stripped.ensures in
    record {
      numbered = omega arith;
      item = typed_item passed.After-strip proof marked it;
      words = λ h. lacks (subst (All (λ t. HasAtEnd c.args.side c.args.letter.0 t.1)) (sym it.terms) h);
    }

pub returns-in-Some-stripped-clause-polynomial : goal.returns-in-Some-stripped-clause-polynomial
returns-in-Some-stripped-clause-polynomial c =
    let passed = goal.at.returns-in-Some-stripped-clause-polynomial c in
    let it = names passed.In-Some in
    let has = rw c.in-Some-stripped.is at c.in_ok-stripped.ensures in
    has.1 ∙ ap (stripped c.args.side) it.terms

pub returns-in-Some-stripped-clause-letters : goal.returns-in-Some-stripped-clause-letters
returns-in-Some-stripped-clause-letters c =
    let has = rw c.in-Some-stripped.is at c.in_ok-stripped.ensures in
    let n = letter_count c.args.problem.now.parts.quiver in
    let over = holds_there (IsPolyOver c.args.problem.now.parts.quiver) c.args.before.now (c.args.item - 1) c.in-Some.whole.now c.requires.letters c.in-Some.ensures.found in
    subst (All (λ t. IsOver n t.1)) (sym has.1) (stripped_over n c.args.side c.in-Some.whole.now.terms over)

pub returns-in-Some-stripped-clause-comes_off : goal.returns-in-Some-stripped-clause-comes_off
returns-in-Some-stripped-clause-comes_off c = λ proof marked.
    let passed = goal.at.returns-in-Some-stripped-clause-comes_off c in
    let it = names passed.In-Some in
    let has = rw c.in-Some-stripped.is at c.in_ok-stripped.ensures in
    record { item = typed_item passed.After-strip proof marked it; words = subst (All (λ t. HasAtEnd c.args.side c.args.letter.0 t.1)) it.terms has.0 }
