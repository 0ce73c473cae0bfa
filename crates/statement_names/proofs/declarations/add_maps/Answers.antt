use Rattle.statement_names.proofs.Prelude.{◌≡◌, List, ◌++◌, ◌∷◌, ℕ, ◌+◌, ◌<◌, Bool, map, drop, None, arith, ap, ap₂, sym, subst, ◌∙◌, Declaration, arrow, object_count, map_fault, object_count-append, Name, maps_in, AreFirst}
use Rattle.statement_names.proofs.Items.{map_split}
use Rattle.statement_names.proofs.Fresh.{no_map_fault}
use Rattle.statement_names.proofs.declarations.add_maps.Goals as goal

abbrev declaration : ℕ → ℕ → Bool → Name → Declaration
declaration u v selfmade n = arrow n.text u v selfmade

-- a quiver with more declarations has the objects that it had
in_more : (before after more : List Declaration) (v : ℕ) → after ≡ before ++ more → v < object_count before → v < object_count after
in_more before after more v is below = omega (arith, ap object_count is, object_count-append before more, below)

pub declare_map-requires-clause-source_in : goal.declare_map-requires-clause-source_in
declare_map-requires-clause-source_in c =
    in_more c.args.quiver.now c.loop-name.quiver _ c.object_of-source.result.0 c.loop-name.invariant c.object_of-source.ensures.in_range

pub declare_map-requires-clause-target_in : goal.declare_map-requires-clause-target_in
declare_map-requires-clause-target_in c =
    in_more c.args.quiver.now c.loop-name.quiver _ c.object_of-target.result.0 c.loop-name.invariant c.object_of-target.ensures.in_range

pub declare_map-requires-clause-sound : goal.declare_map-requires-clause-sound
declare_map-requires-clause-sound c =
    let names = c.as_slice-name-items.result.now in
    let u = c.object_of-source.result.0 in
    let v = c.object_of-target.result.0 in
    let made = declaration u v c.in-Maps.selfmade in
    let rest = map made (drop (c.loop-name.name-index + 1) names) in
    let whole : c.args.quiver.now ++ maps_in c.args.quiver.now c.args.statement.now ≡ c.loop-name.quiver ++ made c.name-item.result ∷ rest =
    ap (λ k. c.args.quiver.now ++ maps_in c.args.quiver.now k) c.in-Maps.is
    ∙ ap₂ (λ s t. c.args.quiver.now ++ map (declaration s t c.in-Maps.selfmade) c.in-Maps.names) (sym c.object_of-source.ensures.number) (sym c.object_of-target.ensures.number)
    ∙ ap (λ ns. c.args.quiver.now ++ map made ns) (sym c.as_slice-name-items.ensures)
    ∙ map_split names c.loop-name.name-index c.name-item.result c.loop-name-test.true c.name-item.is made c.args.quiver.now
    ∙ ap (λ q. q ++ made c.name-item.result ∷ rest) (sym c.loop-name.invariant) in
    subst (λ t. map_fault c.loop-name.quiver t u v c.in-Maps.selfmade ≡ None) (sym c.as_str.ensures)
    (no_map_fault c.loop-name.quiver c.name-item.result.text u v c.in-Maps.selfmade rest (subst AreFirst whole c.requires.fits))
