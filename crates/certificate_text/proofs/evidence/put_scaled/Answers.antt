use Rattle.certificate_text.proofs.Prelude.{◌≡◌, ◌++◌, OnOk, rules, sym, subst, codes, signed_decimal, flat_map, lemma_row_text, IsLemmaRowOver, four_put, All}
use Rattle.certificate_text.proofs.evidence.put_scaled.Goals as goal

pub returns : goal.returns
returns c =
    let scale : c.put_integer.new.out.items ≡ c.put.new.out.items ++ signed_decimal c.args.lemma.now.scale = search rules in
    subst (λ rows. OnOk c.put_lemma_rows.result (c.put_lemma_rows.new.out.items ≡ c.args.out.now.items ++ (((codes " scale " ++ signed_decimal c.args.lemma.now.scale) ++ codes "\n") ++ flat_map (lemma_row_text c.args.quiver.now) rows)))
    c.as_slice.ensures
    (four_put c.put_lemma_rows.result c.args.out.now.items _ _ _ _ c.put.new.out.items c.put_integer.new.out.items c.put-2.new.out.items c.put_lemma_rows.new.out.items
    c.in_ok-put.ensures scale c.in_ok-put-2.ensures c.put_lemma_rows.ensures)

pub put_lemma_rows-requires : goal.put_lemma_rows-requires
put_lemma_rows-requires c = subst (λ rows. All (IsLemmaRowOver c.args.quiver.now) rows) (sym c.as_slice.ensures) c.requires
