use Rattle.flow_io.proofs.Prelude.{rules, ◌≡◌, inl, inr, ◌∙◌, with_items_is, place_of, LoadFails}
use Rattle.flow_io.proofs.FileLemmas.{is_with_fault}
use Rattle.flow_io.proofs.memory_shelf.MemoryShelfShelf.load.Goals as goal
use Rattle.flow_io.proofs.memory_shelf.MemoryShelfShelf.load.Goals.{then-place-len-via-then-place-len, then-place-len-via-else-place-len+then-contains}

-- the load fails, as it is listed or no file has the name, and it is counted under the name
pub returns-then-place-len-clause-exact : goal.returns-then-place-len-clause-exact
returns-then-place-len-clause-exact c =
    let fails : LoadFails c.args.self.now c.args.name.now = elim c.then-place-len.branch [ then-place-len-via-then-place-len w ↦ inr (search rules) | then-place-len-via-else-place-len+then-contains w ↦ inl (search rules) ] in
    let place_is : c.place_in-place.result ≡ place_of c.self.inside.files c.args.name.now = search rules in
    let counts_are = with_items_is c.self.inside.counts c.raise.new.counts (search rules) in
    (fails, rw (← c.self.view_is) (is_with_fault _ c.args.name.now _ _ _ _ c.saturating_add-self-inside.ensures place_is c.deref_mut.ensures.value (counts_are ∙ c.raise.ensures.exact)))
