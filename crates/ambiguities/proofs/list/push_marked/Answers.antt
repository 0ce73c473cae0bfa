use Rattle.ambiguities.proofs.Prelude.{rules, ◌≡◌, false, is_marked, first_of, lead_at, IsOfPair}
use Rattle.ambiguities.proofs.Exactly.{grown-none}
use Rattle.ambiguities.proofs.Marked.{pair_nowhere}
use Rattle.ambiguities.proofs.list.push_marked.Goals as goal

pub returns-then-not-has_mark : goal.returns-then-not-has_mark
returns-then-not-has_mark c =
    let all = c.args.rules.now in
    let i = c.args.i in
    let j = c.args.j in
    let no : is_marked c.args.marks.now c.args.first_letter ≡ false = search rules in
    let unmarked : is_marked c.args.marks.now (first_of (lead_at all j)) ≡ false = search rules in
    grown-none (IsOfPair all i j) c.args.found.now (pair_nowhere all c.args.marks.now i j c.requires.marked c.requires.some unmarked)
