use Rattle.quiver.proofs.Prelude.{rules, arith, ◌≡◌, ◌≢◌, ◌<◌, ◌≤◌, ℕ, length, get_or, Some, None, sym, ap, subst, ◌∙◌, source, target, signature_of, signature_from_path, path_from_signature, quiver_of, ends_of}
use Rattle.quiver.proofs.Continued.{signature_of-begun, continued-next, continued-stops, continued-ends}
use Rattle.quiver.proofs.Counts.{letters-quiver_of}
use Rattle.quiver.proofs.quiver.Quiver.word_signature.Goals as goal

-- the first letter, with its ends
pub loop-place-init : goal.loop-place-init
loop-place-init c =
    let ds = c.args.self.now in
    let word = c.args.word.now in
    let some : 0 < length word = search rules in
    let letter : c.letter.result.0 ≡ get_or word 0 0 = c.letter.ensures in
    let in_range = subst (λ n. get_or word 0 0 < n) (sym (letters-quiver_of ds)) (c.requires 0 0 some) in
    record {
      within = omega (arith, some);
      same = signature_of-begun (quiver_of ds) word (ends_of c.signature_of-signature.result) some in_range
          (c.signature_of-signature.ensures.source ∙ ap (source (quiver_of ds)) letter) (c.signature_of-signature.ensures.target ∙ ap (target (quiver_of ds)) letter);
    }

pub loop-place-preserved : goal.loop-place-preserved
loop-place-preserved c =
    let ds = c.args.self.now in
    let word = c.args.word.now in
    let place = c.loop-place.place in
    let below : place < length word = search rules in
    let letter : c.letter-in-loop-place.result.0 ≡ get_or word place 0 = c.letter-in-loop-place.ensures in
    let in_range = subst (λ n. get_or word place 0 < n) (sym (letters-quiver_of ds)) (c.requires place 0 below) in
    let meets : c.loop-place.signature.source.0 ≡ c.signature_of-next.result.target.0 = search rules in
    record {
      within = omega (arith, below);
      same = c.loop-place.invariant.same ∙ continued-next (quiver_of ds) word (ends_of c.loop-place.signature) c.signature_of-next.result.source.0 place below in_range
          (meets ∙ c.signature_of-next.ensures.target ∙ ap (target (quiver_of ds)) letter) (c.signature_of-next.ensures.source ∙ ap (source (quiver_of ds)) letter);
    }

-- where two letters don't meet there is no signature, and so no path
none : (c : goal.Then-ne) → signature_of (quiver_of c.args.self.now) c.args.word.now ≡ None
none c =
    let word = c.args.word.now in
    let place = c.loop-place.place in
    let below : place < length word = search rules in
    let letter : c.letter-in-loop-place.result.0 ≡ get_or word place 0 = c.letter-in-loop-place.ensures in
    let apart : c.loop-place.signature.source.0 ≢ c.signature_of-next.result.target.0 = search rules in
    c.loop-place.invariant.same ∙ continued-stops (quiver_of c.args.self.now) word (ends_of c.loop-place.signature) place below
    (λ meets. apart (meets ∙ sym (c.signature_of-next.ensures.target ∙ ap (target (quiver_of c.args.self.now)) letter)))

pub returns-then-ne-clause-exact : goal.returns-then-ne-clause-exact
returns-then-ne-clause-exact c = sym (none c)

pub returns-then-ne-clause-no_path : goal.returns-then-ne-clause-no_path
returns-then-ne-clause-no_path c = λ u v path. absurd (some_or_none (u, v) (sym (signature_from_path (quiver_of c.args.self.now) u v c.args.word.now path) ∙ none c))
  where
    some_or_none : (s : ℕ × ℕ) → Some s ≡ None → ⊥
    some_or_none s e = cc

pub returns-clause-path : goal.returns-clause-path
returns-clause-path c =
    let past : length c.args.word.now ≤ c.loop-place.place = search rules in
    path_from_signature (quiver_of c.args.self.now) _ _ c.args.word.now
    (c.loop-place.invariant.same ∙ continued-ends (quiver_of c.args.self.now) c.args.word.now (ends_of c.loop-place.signature) c.loop-place.place past)
