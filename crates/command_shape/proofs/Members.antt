-- The command set, a line a command: what names it, and what its words have.
use Rattle.command_shape.proofs.Prelude.{◌≡◌, inl, inr, refl, false, [], List, codes, if◌then◌else◌, AllByRecursion, bytes_eq, Text, rows_after, nothing_held, Shape, built, level_fault, clap_on_literals, EvidenceCommand, Check, Model, Confirm, Explain, Cancel, command_set, name_of, prove_command, refute_command, bench_command, pair_command, HasCommand, IsEvidenceName}
use Rattle.command_shape.proofs.Taken.{prove_has, refute_has, bench_has, pair_has}
use Rattle.command_shape.proofs.Top.{leaf, IsNamed}

-- the name of a command of evidence is that of no other command,
abbrev IsNo : Text → Text → Type 0
IsNo name other = bytes_eq name other ≡ false

pub not_other : (command : EvidenceCommand) → IsNo (name_of command) (codes "prove") × IsNo (name_of command) (codes "refute") × IsNo (name_of command) (codes "bench")
not_other Check = (refl, refl, refl)
not_other Model = (refl, refl, refl)
not_other Confirm = (refl, refl, refl)
not_other Explain = (refl, refl, refl)
not_other Cancel = (refl, refl, refl)

-- and of one of these alone
pub command_at : Text → EvidenceCommand
command_at name = if bytes_eq name (name_of Check) then Check
    else (if bytes_eq name (name_of Model) then Model
    else (if bytes_eq name (name_of Confirm) then Confirm
    else (if bytes_eq name (name_of Explain) then Explain else Cancel)))

pub command_at-name_of : (command : EvidenceCommand) → command_at (name_of command) ≡ command
unfolding command_at
command_at-name_of Check = refl
command_at-name_of Model = refl
command_at-name_of Confirm = refl
command_at-name_of Explain = refl
command_at-name_of Cancel = refl

-- the name of none of the others is that of the last one
pub last_named : (name : Text) → IsEvidenceName name → (name ≡ codes "check" → ⊥) → (name ≡ codes "model" → ⊥) → (name ≡ codes "confirm" → ⊥) → (name ≡ codes "explain" → ⊥)
    → name ≡ codes "cancel"
last_named name (Check, is) check model confirm explain = absurd (check is)
last_named name (Model, is) check model confirm explain = absurd (model is)
last_named name (Confirm, is) check model confirm explain = absurd (confirm is)
last_named name (Explain, is) check model confirm explain = absurd (explain is)
last_named name (Cancel, is) check model confirm explain = is

-- it names a command of the set
pub named : IsNamed (codes "prove") prove_command × IsNamed (codes "refute") refute_command × IsNamed (codes "bench") bench_command
unfolding command_set clap_on_literals
named = (
  record { entry = refl; well = refl; found = refl; name_is = refl },
  record { entry = refl; well = refl; found = refl; name_is = refl },
  record { entry = refl; well = refl; found = refl; name_is = refl },
)

pub evidence_named : (command : EvidenceCommand) → IsNamed (name_of command) (pair_command (name_of command))
unfolding command_set clap_on_literals
evidence_named Check = record { entry = refl; well = refl; found = refl; name_is = refl }
evidence_named Model = record { entry = refl; well = refl; found = refl; name_is = refl }
evidence_named Confirm = record { entry = refl; well = refl; found = refl; name_is = refl }
evidence_named Explain = record { entry = refl; well = refl; found = refl; name_is = refl }
evidence_named Cancel = record { entry = refl; well = refl; found = refl; name_is = refl }

-- the words of a command without a fault have what its name says
abbrev pub IsRead : Shape → Type 0
IsRead s = (words : List Text) → level_fault s [] nothing_held words false [] ≡ [] → HasCommand s.name (rows_after s.rules [] words)

evidence_read : (command : EvidenceCommand) → IsRead (leaf (pair_command (name_of command)))
evidence_read command words e = inr (inr (inr ((command, refl), pair_has (name_of command) words e)))

pub all_read : AllByRecursion IsRead (built command_set).subs
unfolding command_set clap_on_literals
all_read = (
  λ words e. inl (refl, prove_has words e),
  (
    evidence_read Check,
    (
      λ words e. inr (inl (refl, refute_has words e)),
      (
        evidence_read Model,
        (
          λ words e. inr (inr (inl (refl, bench_has words e))),
          (evidence_read Confirm, (evidence_read Explain, (evidence_read Cancel, tt))),
        ),
      ),
    ),
  ),
)
