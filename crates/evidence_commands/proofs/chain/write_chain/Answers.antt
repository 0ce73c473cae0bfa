use Rattle.evidence_commands.proofs.Prelude.{rules, ◌≡◌, ◌++◌, ℕ, List, length, codes, ap, ◌∙◌, append_assoc, opening_text, steps_of, lines_of, lines_text, head_text}
use Rattle.evidence_commands.proofs.chain.write_chain.Goals as goal

pub returns-clause-written : goal.returns-clause-written
returns-clause-written c =
    let problem = c.args.problem.now in
    let certificate = c.args.certificate.now in
    let first : List ℕ = head_text certificate.claim certificate.denominator (length (steps_of problem certificate)) in
    let second : List ℕ = opening_text (codes "chain 1\nclaim ") certificate.claim certificate.denominator in
    let lines : List ℕ = lines_text problem.parts.quiver (steps_of problem certificate) (lines_of problem certificate) in
    let head : c.put_head.new.out.items ≡ first = search rules in
    let opening : c.put_opening.new.out.items ≡ c.put_head.new.out.items ++ second = search rules in
    let end : c.put.new.out.items ≡ c.put_lines.new.out.items ++ codes "end" = search rules in
    end
    ∙ ap (λ (t : List ℕ). t ++ codes "end") (c.in_ok-put_lines.ensures.written ∙ ap (λ (t : List ℕ). t ++ lines) (opening ∙ ap (λ (t : List ℕ). t ++ second) head))
    ∙ append_assoc (first ++ second) lines (codes "end")
    ∙ append_assoc first second (lines ++ codes "end")

pub returns-clause-explained : goal.returns-clause-explained
returns-clause-explained c = record { accepted = c.in_ok-accept.ensures.accepted; steps = c.in_ok-put_lines.ensures.passed }
