use Rattle.evidence_commands.proofs.Prelude.{◌≡◌, Err, subst, rules, Judges, EndsAs, refused_evidence_ends, read_ends, Accepts, Refuses}
use Rattle.evidence_commands.proofs.kind.answer_text.Goals as goal

-- the text is refused
pub returns-in_err-blocks : goal.returns-in_err-blocks
returns-in_err-blocks g c =
    let kind = g.K.EvidenceKind.kind in
    let problem = c.args.problem.now in
    let stop = c.in_err-blocks.field-0.0 in
    let back : c.from_residual.result ≡ Err stop = search rules in
    refused_evidence_ends (kind.AreBlocks problem.parts.quiver c.args.text.now) (kind.IsFirstFault problem.parts.quiver c.args.text.now)
    (Judges (Accepts kind problem) (Refuses kind problem)) c.from_residual.result stop back c.in_err-blocks.ensures.stopped

-- its blocks are judged
pub returns : goal.returns
returns g c =
    let kind = g.K.EvidenceKind.kind in
    let problem = c.args.problem.now in
    let same : c.as_slice.result.now ≡ c.in_ok-blocks.blocks = search rules in
    read_ends (kind.AreBlocks problem.parts.quiver c.args.text.now) (kind.IsFirstFault problem.parts.quiver c.args.text.now)
    (Judges (Accepts kind problem) (Refuses kind problem)) c.in_ok-blocks.blocks c.judge_blocks.result c.in_ok-blocks.ensures.read
    (subst (λ blocks. EndsAs (Judges (Accepts kind problem) (Refuses kind problem) blocks) c.judge_blocks.result) same c.judge_blocks.ensures)
