-- How a search for the first fault goes on, and how it stops.
use Rattle.statement_names.proofs.Prelude.{◌≡◌, ℕ, ◌+◌, ◌<◌, List, [], ◌∷◌, ◌++◌, length, drop, get_or, Option, Some, None, Result, Ok, Err, refl, sym, ap, ◌∙◌, result_err, flat_map, Placed, Stop, stop, Survey, Occurrence, Explains, Gives, fault_at, behind, goes_on, run}
use Rattle.statement_names.proofs.Items.{rest_is}

-- some occurrences and then others
abbrev pub then_run : Result Survey Placed → List Occurrence → Result Survey Placed
then_run (Ok s) os = run s os
then_run (Err fault) os = Err fault

then_run-goes_on : (f : Option Placed) (r : Result Survey Placed) (os : List Occurrence) → goes_on f (then_run r os) ≡ then_run (goes_on f r) os
then_run-goes_on None r os = refl
then_run-goes_on (Some fault) r os = refl

run-append : (s : Survey) (xs ys : List Occurrence) → run s (xs ++ ys) ≡ then_run (run s xs) ys
run-append s [] ys = refl
run-append s (x ∷ xs) ys = ap (goes_on (fault_at s x)) (run-append (behind s x) xs ys) ∙ then_run-goes_on (fault_at s x) (run (behind s x) xs) ys

-- after the first there is a survey from which the others are searched, or a fault
pub run_on : (s : Survey) (xs ys : List Occurrence) (found : Result Survey Placed) → run s xs ≡ found → run s (xs ++ ys) ≡ then_run found ys
run_on s xs ys found is = run-append s xs ys ∙ ap (λ r. then_run r ys) is

-- the occurrences of items, one after another
module _ {A : Type 0} (of : A → List Occurrence) (items : List A) (i : ℕ) (x : A) (below : i < length items) (at : x ≡ get_or items i x) where
  pub items_on : (first s : Survey) (found : Result Survey Placed) → run s (flat_map of (drop i items)) ≡ run first (flat_map of items)
      → run s (of x) ≡ found
      → then_run found (flat_map of (drop (i + 1) items)) ≡ run first (flat_map of items)
  items_on first s found so_far is =
      sym (ap (λ xs. run s (flat_map of xs)) (rest_is items i x below at) ∙ run_on s (of x) (flat_map of (drop (i + 1) items)) found is) ∙ so_far

  pub items_end : (first s t : Survey) (why : Stop Placed) → run s (flat_map of (drop i items)) ≡ run first (flat_map of items)
      → Gives {X = Unit {0}} (λ done. t) (Err why) (run s (of x))
      → Explains (λ fault. result_err (run first (flat_map of items)) ≡ Some fault) why
  items_end first s t (stop.Fault fault) so_far is = ap result_err (sym (items_on first s (Err fault) so_far is))
  items_end first s t (stop.Memory e) so_far is = tt
