use Rattle.equation_chain.proofs.Prelude.{◌≡◌, ◌*◌, ◌≤◌, take, letters_in}
use Rattle.equation_chain.proofs.line.letters_in.Given as goal

-- the letters of the terms so far, of at most 500 each
abbrev pub invariant-loop-term : goal.invariant-loop-term
invariant-loop-term l = record { so_far : l.letters ≡ letters_in (take l.term-index l.terms); few : l.letters ≤ 500 * l.term-index }
