use Rattle.model_candidates.proofs.Prelude.{◌≡◌, ◌<◌, ℕ, Bool, List, ◌||◌, sym, ap, subst, ◌∙◌, arith, All, AllByRecursion, recursion_from_All, IsQuiver, letters, star, Letter, Declaration, letter_count, quiver_of, letters-quiver_of, is_solved, is_solved_map}
use Rattle.model_candidates.proofs.SolvedLetters.{solved_by_maps}
use Rattle.model_candidates.proofs.plan.is_solved.Goals as goal

-- one of the maps, or the adjoint of one
either_solved : (d : List Declaration) (solved : List Letter) {a : ℕ} → IsQuiver (quiver_of d) → All (λ l. l.0 < letter_count d) solved → a < letter_count d → {own : Bool}
    → own ≡ is_solved_map solved a → (own || is_solved_map solved (star (quiver_of d) a)) ≡ is_solved (quiver_of d) solved a
either_solved d solved {a} quiver each letter is =
    let count : letters (quiver_of d) ≡ letter_count d = letters-quiver_of d in
    let all = subst (λ n. AllByRecursion (λ l. l.0 < n) solved) (sym count) (recursion_from_All (λ l. l.0 < letter_count d) solved each) in
    ap (λ b. b || is_solved_map solved (star (quiver_of d) a)) is ∙ solved_by_maps solved a quiver (omega (arith, letter, count)) all

pub returns-then-is_among : goal.returns-then-is_among
returns-then-is_among c =
    c.if-is_among.true
    ∙ either_solved c.args.quiver.now c.args.solved.now c.requires.quiver c.requires.solved c.requires.letter (sym c.if-is_among.true ∙ c.is_among.ensures)

pub returns-else-is_among : goal.returns-else-is_among
returns-else-is_among c =
    c.is_among-else-is_among.ensures ∙ ap (is_solved_map c.args.solved.now) c.star_of.ensures.star
    ∙ either_solved c.args.quiver.now c.args.solved.now c.requires.quiver c.requires.solved c.requires.letter (sym c.if-is_among.false ∙ c.is_among.ensures)
