-- A system that has a solution has a greedy one, and one at most: values below the modulus are tried, in order.
use Rattle.matrix_models.proofs.Prelude.{◌≡◌, ℕ, ◌<◌, List, length, inl, inr, cases_eq, IsDecided, both_decided, decided_by, lt_decided, each_decided, System, Holds, Solves, HasGreedySolution, IsGreedy}
use Rattle.matrix_models.proofs.GreedyLists.{IsGreedyList, greedy_or_none, one_greedy}

module _ (s : System) where
  solves_decided : (values : List ℕ) → IsDecided (Solves s values)
  solves_decided values = decided_by
      (λ h. record { are_values = record { one_each = h.0; below = h.1.0 }; each_holds = h.1.1 })
      (λ solves. (solves.are_values.one_each, (solves.are_values.below, solves.each_holds)))
      (both_decided (cases_eq (length values) s.unknowns) (both_decided
      (each_decided (λ value. value < s.modulus) (λ value. lt_decided value s.modulus) values)
      (each_decided (Holds s.modulus values) (λ row. cases_eq _ _) s.rows)))

  one_for_each : (values : List ℕ) → Solves s values → length values ≡ s.unknowns
  one_for_each values solves = solves.are_values.one_each

  module _ (prefer : List ℕ) where
    as_list : {values : List ℕ} → IsGreedy s prefer values → IsGreedyList (Solves s) s.unknowns one_for_each prefer values
    as_list greedy = record {
      passes = greedy.solves;
      chosen = λ place within. record {
        preferred_if = λ can. greedy.preferred place within (record { rest = can.rest; solves = can.passes });
        least_else = λ other cannot can. greedy.least place other within
            (λ extends. cannot (record { rest = extends.rest; passes = extends.solves })) (record { rest = can.rest; solves = can.passes });
      };
    }

    pub greedy_is_unique : (values others : List ℕ) → IsGreedy s prefer values → IsGreedy s prefer others → values ≡ others
    greedy_is_unique values others first second = one_greedy (Solves s) s.unknowns one_for_each prefer (as_list first) (as_list second)

    pub has_greedy_solution : (values : List ℕ) → Solves s values → HasGreedySolution s prefer
    has_greedy_solution values solves =
        elim (greedy_or_none (Solves s) s.unknowns one_for_each prefer s.modulus (λ xs is. is.are_values.below) solves_decided) [
          | inl found ↦ record {
            values = found.0;
            greedy = record {
              solves = found.1.passes;
              preferred = λ place within can. (found.1.chosen place within).preferred_if
                  (record { rest = can.rest; passes = can.solves });
              least = λ place value within cannot can. (found.1.chosen place within).least_else value
                  (λ begins. cannot (record { rest = begins.rest; solves = begins.passes }))
                  (record { rest = can.rest; passes = can.solves });
            };
          }
          | inr none ↦ absurd (none values solves)
        ]
