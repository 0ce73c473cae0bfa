use Rattle.equation_chain.proofs.Prelude.{rules, arith, ◌≡◌, ◌≢◌, ◌<◌, ◌≤◌, ◌++◌, ◌+◌, drop, length, get_or, sym, ap, subst, refl, ◌∙◌, drop_all, source, target, leads, letter_count, quiver_of, letters-quiver_of}
use Rattle.equation_chain.proofs.Leads.{meets, strange, apart}
use Rattle.equation_chain.proofs.step.start_of.Goals as goal

pub loop-place-init : goal.loop-place-init
loop-place-init c = λ u rest. refl

pub loop-place-preserved : goal.loop-place-preserved
loop-place-preserved c =
    let ds = c.args.quiver.now in
    let word = c.args.word.now in
    let place = c.loop-place.place in
    let below : place < length word = search rules in
    let letter : c.letter-letter.result.0 ≡ get_or word place 0 = c.letter-letter.ensures in
    let known : c.letter-letter.result.0 < letter_count ds = omega arith in
    let in_range = subst (λ n. get_or word place 0 < n) (sym (letters-quiver_of ds)) (subst (λ a. a < letter_count ds) letter known) in
    let meet : c.signature_of-ends.result.target.0 ≡ c.loop-place.object.0 = search rules in
    let target_is = sym (c.signature_of-ends.ensures.target ∙ ap (target (quiver_of ds)) letter) ∙ meet in
    let source_is = c.signature_of-ends.ensures.source ∙ ap (source (quiver_of ds)) letter in
    λ u rest. c.loop-place.invariant u rest ∙ meets (quiver_of ds) word place below u c.loop-place.object.0 rest in_range target_is
    ∙ ap (λ v. leads (quiver_of ds) u v (drop (place + 1) word ++ rest)) (sym source_is)

pub returns-then-from-letters-clause-misfits : goal.returns-then-from-letters-clause-misfits
returns-then-from-letters-clause-misfits c =
    let ds = c.args.quiver.now in
    let word = c.args.word.now in
    let place = c.loop-place.place in
    let below : place < length word = search rules in
    let letter : c.letter-letter.result.0 ≡ get_or word place 0 = c.letter-letter.ensures in
    let past : letter_count ds ≤ c.letter-letter.result.0 = omega arith in
    let beyond = subst (λ n. n ≤ get_or word place 0) (sym (letters-quiver_of ds)) (subst (λ a. letter_count ds ≤ a) letter past) in
    λ u rest. c.loop-place.invariant u rest ∙ strange (quiver_of ds) word place below u c.loop-place.object.0 rest beyond

pub returns-then-ne-clause-misfits : goal.returns-then-ne-clause-misfits
returns-then-ne-clause-misfits c =
    let ds = c.args.quiver.now in
    let word = c.args.word.now in
    let place = c.loop-place.place in
    let below : place < length word = search rules in
    let letter : c.letter-letter.result.0 ≡ get_or word place 0 = c.letter-letter.ensures in
    let elsewhere : c.signature_of-ends.result.target.0 ≢ c.loop-place.object.0 = search rules in
    λ u rest. c.loop-place.invariant u rest ∙ apart (quiver_of ds) word place below u c.loop-place.object.0 rest
    (λ meet. elsewhere (c.signature_of-ends.ensures.target ∙ ap (target (quiver_of ds)) letter ∙ meet))

pub returns-clause-leads : goal.returns-clause-leads
returns-clause-leads c =
    let word = c.args.word.now in
    let past : length word ≤ c.loop-place.place = search rules in
    λ u rest. c.loop-place.invariant u rest ∙ ap (λ w. leads (quiver_of c.args.quiver.now) u c.loop-place.object.0 (w ++ rest)) (drop_all c.loop-place.place word past)
