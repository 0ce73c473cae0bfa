use Rattle.command_shape.proofs.Prelude.{rules, ◌≡◌, ◌++◌, ◌∙◌, ap, sym, codes, map, map-map, App, app_of, shape_of, command_set, names_after}
use Rattle.std.proofs.Common.{append_assoc}
use Rattle.command_shape.proofs.usage.usage_text.Goals as goal

-- the set that is made is the command set
pub returns : goal.returns
returns c =
    let set : App = app_of c.in_ok-set.set in
    let same : set ≡ command_set = c.in_ok-set.ensures in
    let first : c.in_ok-text.text.items ≡ codes "# usage: " = search rules in
    let name : c.as_bytes.result.now ≡ set.top.name = c.as_bytes.ensures.value ∙ ap (λ n. n.now) c.get_name.ensures in
    let named : c.extend_from_slice.new.self.items ≡ c.in_ok-text.text.items ++ c.as_bytes.result.now = search rules in
    let subs : map (λ k. (shape_of k).name) c.get_subcommands.result.now ≡ map (λ s. s.name) set.subs =
    ap (map (λ k. (shape_of k).name)) c.get_subcommands.ensures ∙ sym (map-map (λ s. s.name) shape_of _) in
    c.in_ok-put_names.ensures ∙ (λ i. (named ∙ (λ j. first j ++ name j)) i ++ names_after (codes " ") (subs i))
    ∙ append_assoc (codes "# usage: ") set.top.name (names_after (codes " ") (map (λ s. s.name) set.subs))
    ∙ ap (λ (a : App). codes "# usage: " ++ (a.top.name ++ names_after (codes " ") (map (λ s. s.name) a.subs))) same
