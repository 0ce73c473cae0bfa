-- What accepted proofs show, and that each proof has one outcome.
use Rattle.std.specs.Prelude.{◌≡◌, ◌⊎◌, ◌<◌, List}
use Rattle.std.specs.List.{All}
use Rattle.definitions.specs.Poly.{Poly}
use Rattle.definitions.specs.Quiver.{Quiver, letters}
use Rattle.cancel_rules.specs.declared.cancellation.Side.{Side}
use Rattle.cancel_rules.specs.declared.cancellation.Cancellation.{Cancellation}
use Rattle.cancel_rules.specs.declared.refusal.CancelRefusal.{CancelRefusal}
use Rattle.cancel_rules.specs.Cancellations.{declared_for, IsCancellationOf}
use Rattle.cancel_rules.specs.Acceptance.{claim_named, all_items, AcceptsCancellation, RefusesCancellation, IsMemory}

-- A proof that passes each test, and whose declared letters are letters of the quiver, leads to the claim that it names.
abbrev pub AcceptedCancellationLeads : Type 0
AcceptedCancellationLeads =
    (q : Quiver) (claims generators : List Poly) (proof : Cancellation) → ((end : Side) → All (λ a. a.0 < letters q) (declared_for proof end))
    → AcceptsCancellation q claims generators proof → IsCancellationOf q generators (all_items generators proof) proof (claim_named claims proof)

-- Of one proof there is one refusal at most, apart from want of memory.
abbrev pub CancellationRefusalIsUnique : Type 0
CancellationRefusalIsUnique =
    (q : Quiver) (claims generators : List Poly) (proof : Cancellation) (e f : CancelRefusal)
    → RefusesCancellation q claims generators proof e → RefusesCancellation q claims generators proof f
    → (IsMemory e → ⊥) → (IsMemory f → ⊥) → e ≡ f

-- A proof that passes each test is refused for want of memory alone.
abbrev pub AcceptedCancellationIsNotRefused : Type 0
AcceptedCancellationIsNotRefused =
    (q : Quiver) (claims generators : List Poly) (proof : Cancellation) (e : CancelRefusal)
    → AcceptsCancellation q claims generators proof → RefusesCancellation q claims generators proof e → IsMemory e

-- Each proof is accepted, or one of its tests is the first that fails.
abbrev pub CancellationIsJudged : Type 0
CancellationIsJudged =
    (q : Quiver) (claims generators : List Poly) (proof : Cancellation)
    → AcceptsCancellation q claims generators proof ⊎ ((e : CancelRefusal) × RefusesCancellation q claims generators proof e × (IsMemory e → ⊥))
