use Rattle.evidence_commands.proofs.Prelude.{rules, ◌≡◌, ◌++◌, ℕ, List, OnOk, codes, refl, subst, append_assoc, four_put, cause_text, part_text}
use Rattle.evidence_commands.proofs.confirm.put_stop.Goals as goal

grouped : (code part blank cause : List ℕ) → ((code ++ part) ++ blank) ++ cause ≡ code ++ (part ++ (blank ++ cause))
grouped code part blank cause = simp append_assoc refl

pub returns : goal.returns
returns c =
    let before : List ℕ = c.args.out.now.items in
    let part : List ℕ = part_text c.args.part in
    let cause : List ℕ = cause_text c.args.cause.now in
    let coded : c.put.new.out.items ≡ before ++ codes "B7 " = search rules in
    let named : c.put_part.new.out.items ≡ c.put.new.out.items ++ part = search rules in
    let parted : c.put-2.new.out.items ≡ c.put_part.new.out.items ++ codes " " = search rules in
    let told : OnOk c.put_cause.result (c.put_cause.new.out.items ≡ c.put-2.new.out.items ++ cause) = search rules in
    subst (λ (t : List ℕ). OnOk c.put_cause.result (c.put_cause.new.out.items ≡ before ++ t)) (grouped (codes "B7 ") part (codes " ") cause)
    (four_put c.put_cause.result before (codes "B7 ") part (codes " ") cause c.put.new.out.items c.put_part.new.out.items c.put-2.new.out.items c.put_cause.new.out.items coded named parted told)
