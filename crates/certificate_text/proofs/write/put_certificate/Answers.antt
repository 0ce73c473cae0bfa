use Rattle.certificate_text.proofs.Prelude.{◌≡◌, ◌++◌, OnOk, rules, sym, subst, codes, flat_map, IsRowOver, opening_text, row_text, three_put, All}
use Rattle.certificate_text.proofs.write.put_certificate.Goals as goal

pub put_rows-requires : goal.put_rows-requires
put_rows-requires c = subst (λ rows. All (IsRowOver c.args.quiver.now) rows) (sym c.as_slice.ensures) c.requires

pub returns : goal.returns
returns c =
    let opening : c.put_opening.new.out.items ≡ c.args.out.now.items ++ opening_text (codes "certificate 1\nclaim ") c.args.certificate.now.claim c.args.certificate.now.denominator = search rules in
    subst (λ rows. OnOk c.put.result (c.put.new.out.items ≡ c.args.out.now.items ++ ((opening_text (codes "certificate 1\nclaim ") c.args.certificate.now.claim c.args.certificate.now.denominator ++ flat_map (row_text c.args.quiver.now) rows) ++ codes "end\n")))
    c.as_slice.ensures
    (three_put c.put.result c.args.out.now.items _ _ _ c.put_opening.new.out.items c.put_rows.new.out.items c.put.new.out.items opening c.in_ok-put_rows.ensures c.put.ensures)
