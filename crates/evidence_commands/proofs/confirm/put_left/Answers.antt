use Rattle.evidence_commands.proofs.Prelude.{rules, ◌≡◌, ◌++◌, ℕ, List, OnOk, codes, refl, subst, append_assoc, poly_text, four_put, part_text}
use Rattle.evidence_commands.proofs.confirm.put_left.Goals as goal

grouped : (code part rest poly : List ℕ) → ((code ++ part) ++ rest) ++ poly ≡ code ++ (part ++ (rest ++ poly))
grouped code part rest poly = simp append_assoc refl

pub returns : goal.returns
returns c =
    let before : List ℕ = c.args.out.now.items in
    let code : List ℕ = c.args.code.now in
    let part : List ℕ = part_text c.args.part in
    let poly : List ℕ = poly_text c.args.quiver.now c.args.rest.now.terms in
    let coded : c.put.new.out.items ≡ before ++ code = search rules in
    let named : c.put_part.new.out.items ≡ c.put.new.out.items ++ part = search rules in
    let parted : c.put-2.new.out.items ≡ c.put_part.new.out.items ++ codes " rest " = search rules in
    let left : OnOk c.put_poly.result (c.put_poly.new.out.items ≡ c.put-2.new.out.items ++ poly) = search rules in
    subst (λ (t : List ℕ). OnOk c.put_poly.result (c.put_poly.new.out.items ≡ before ++ t)) (grouped code part (codes " rest ") poly)
    (four_put c.put_poly.result before code part (codes " rest ") poly c.put.new.out.items c.put_part.new.out.items c.put-2.new.out.items c.put_poly.new.out.items coded named parted left)
