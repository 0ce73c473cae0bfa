-- Values are drawn at the entries that aren't solved for exactly where they are where the flag isn't set.
use Rattle.model_candidates.proofs.Prelude.{◌≡◌, ℕ, ◌<◌, Bool, true, false, not, List, length, get_or, Some, refl, sym, ap, subst, ◌∙◌, position, false≢true, length-map, get_or-map, position-Some, Quiver, Letter, Shape, Entry, entry, is_same_entry, is_solved_map, entries_of, solved_flags}
use Rattle.model_candidates.proofs.EntryPlaces.{place_of_own, same_entry}
use Rattle.model_candidates.proofs.SolvedEntries.{IsAsDrawn}

not_set : (b : Bool) → not b ≡ true → b ≡ false
not_set true h = absurd (false≢true h)
not_set false h = refl

module _ (q : Quiver) (s : Shape) (maps : List Letter) where
  abbrev flags : List Bool
  flags = solved_flags q s maps

  -- at each entry that isn't solved for the value is the draw
  abbrev pub DrawnAtEntries : List ℕ → List ℕ → Type 0
  DrawnAtEntries drawn values = (place : ℕ) (x : Entry) → position (is_same_entry x) (entries_of q s) ≡ Some place
      → not (is_solved_map maps x.map) ≡ true → get_or values place 0 ≡ get_or drawn place 0

  pub flag_of_each : length flags ≡ length (entries_of q s)
  flag_of_each = length-map (entries_of q s) (λ x. is_solved_map maps x.map)

  pub flag_at : {place : ℕ} → place < length flags → get_or flags place false ≡ is_solved_map maps
      (get_or (entries_of q s) place (entry 0 0 0)).map
  flag_at {place} inside = get_or-map (λ x. is_solved_map maps x.map) (entries_of q s) place (entry 0 0 0) false
      (subst (λ n. place < n) flag_of_each inside)

  pub drawn_by_flags : (drawn values : List ℕ) → DrawnAtEntries drawn values → IsAsDrawn flags drawn values
  drawn_by_flags drawn values drawn_at place inside unset =
      drawn_at place (get_or (entries_of q s) place (entry 0 0 0)) (place_of_own q s (subst (λ n. place < n) flag_of_each inside))
      (ap not (sym (flag_at inside) ∙ unset))

  pub drawn_by_entries : (drawn values : List ℕ) → IsAsDrawn flags drawn values → DrawnAtEntries drawn values
  drawn_by_entries drawn values as_drawn place x there unsolved =
      let found = position-Some (is_same_entry x) (entries_of q s) place (entry 0 0 0) there in
      let inside : place < length flags = subst (λ n. place < n) (sym flag_of_each) found.0 in
      let map_is = same_entry x (get_or (entries_of q s) place (entry 0 0 0)) found.1 in
      as_drawn place inside (flag_at inside ∙ ap (is_solved_map maps) (sym map_is) ∙ not_set (is_solved_map maps x.map) unsolved)
