-- What the parts of the check ask of one another: tables that mark letters.
use Rattle.std.specs.Prelude.{◌↔◌, Bool, false, List, get_or, Contains, IsTrue}
use Rattle.word_core.specs.declared.letter.Letter.{Letter}
use Rattle.definitions.specs.Poly.{Term}
use Rattle.definitions.specs.Quiver.{Quiver}
use Rattle.cofactor_checker.specs.Lemmas.{IsMade}
use Rattle.cancel_rules.specs.declared.cancellation.Item.{Item}
use Rattle.cancel_rules.specs.declared.cancellation.Item.TheVariants as item
use Rattle.cancel_rules.specs.declared.cancellation.Cancellation.{Cancellation}
use Rattle.cancel_rules.specs.Items.{ComesOff}
use Rattle.cancel_rules.specs.declared.marks.Marks.{Marks}

-- By its number a letter is marked exactly where it is among the letters.
pub record MarksLetters (letters : List Letter) (marks : List Bool) : Type 0 where
  pub each : (a : Letter) → IsTrue (get_or marks a.0 false) ↔ Contains letters a

-- the letters that the proof declares are marked
pub record MarksDeclared (proof : Cancellation) (marks : Marks) : Type 0 where
  pub monic : MarksLetters proof.monic marks.monic.items
  pub epic : MarksLetters proof.epic marks.epic.items

-- Each test of the item passes but the last, which counts the terms of all items.
abbrev pub IsMadeItem : Quiver → Cancellation → List (List Term) → List (List Term) → Item → Type 0
IsMadeItem q proof generators before (item.Lemma l) = IsMade generators before l
IsMadeItem q proof generators before (item.Cancel letter end number) = ComesOff q proof before letter end number
