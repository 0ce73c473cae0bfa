-- Each proof has exactly one outcome: it is accepted, or one of its tests is the first that fails.
use Rattle.cancel_rules.proofs.Prelude.{◌≡◌, ◌⊎◌, inl, inr, ℕ, ◌+◌, ◌≤◌, ℤ, List, [], ◌∷◌, ◌++◌, length, All, Result, Ok, Err, IfErr, refl, sym, subst, ap, arith, Contains, cases_eq, Contains-append_right, Contains-append_cases, Contains-push_cases, Letter, Quiver, generator_at, HasSignature, Lemma, IsDecided, le_decided, HasOneOutcome, each_decided, no_test, one_test, then_test, reworded, IsNumberUpTo, term_total, kept_limit, HasScale, IsTight, ArePositive, IsLoose, AreTight, Starts, TellsStart, RefusesGoal, Refusal, numbered_or, memory_decided, goal_outcome, divides_or, positive_or, lemma_outcome, start_outcome, Side, Item, Cancellation, CancelRefusal, declared_for, stripped, item_polynomial, row_total, rows_in, HasAtEnd, IsDeclaredLetter, IsTypedItem, ComesOff, InCommon, CancelPasses, RefusesCancel, ItemPasses, ItemsPass, RefusesItem, RefusesItems, claim_named, all_items, OfLemma, HasPositiveScales, CancelHasShares, CancelBegins, AcceptsCancellation, IsFirstLooseItem, CancelHasLooseGoal, RefusesBeginning, RefusesParts, RefusesCommon, RefusesCancellation, IsMemory, CancellationIsJudged, CancellationRefusalIsUnique, AcceptedCancellationIsNotRefused}
use Rattle.definitions.specs.Poly.{Poly}
use Rattle.cofactor_checker.specs.Acceptance as certificates
use Rattle.cofactor_checker.specs.declared.refusal.Refusal.TheVariants as common
use Rattle.cancel_rules.specs.declared.cancellation.Item.TheVariants as item
use Rattle.cancel_rules.specs.declared.refusal.CancelRefusal.TheVariants as refusal
use Rattle.cancel_rules.proofs.Outcomes.{refuses_from_beginning, refuses_from_items, refuses_from_goal}
use Rattle.cancel_rules.proofs.Typing.{has_signature_or}
use Rattle.cancel_rules.proofs.Without.{at_end_or}

-- a letter is among letters or not
letter_or : (letters : List Letter) (a : Letter) → IsDecided (Contains letters a)
letter_or [] a = inr (λ h. let inside = h.1 in absurd (omega arith))
letter_or (x ∷ letters) a = by (cases_eq x.0 a.0) (letter_or letters a)
  where
    by : (x.0 ≡ a.0) ⊎ (x.0 ≡ a.0 → ⊥) → IsDecided (Contains letters a) → IsDecided (Contains (x ∷ letters) a)
    by (inl same) rest = inl (0, omega arith, ap (λ (n : ℕ). record { 0 = n }) same)
    by (inr apart) (inl later) = inl (Contains-append_right (x ∷ []) letters a later)
    by (inr apart) (inr none) = inr (λ h. split (Contains-append_cases (x ∷ []) letters a h))
      where
        first : Contains [] a ⊎ (x ≡ a) → ⊥
        first (inl nowhere) = let inside = nowhere.1 in absurd (omega arith)
        first (inr same) = apart (ap (λ (l : Letter). l.0) same)

        split : Contains (x ∷ []) a ⊎ Contains letters a → ⊥
        split (inl here) = first (Contains-push_cases [] x a here)
        split (inr later) = none later

is_memory_decided : (e : CancelRefusal) → IsDecided (IsMemory e)
is_memory_decided (refusal.Common e) = memory_decided e
is_memory_decided other = inr (λ none. none)

-- what is tested of certificates too
in_common : {P : Type 0} {R : Refusal → Type 0} → HasOneOutcome certificates.IsMemory P R → HasOneOutcome IsMemory P (InCommon R)
in_common {P = P} {R = R} outcome = record { judged = by outcome.judged; not_refused = passed; unique = once }
  where
    by : P ⊎ ((e : Refusal) × R e × (certificates.IsMemory e → ⊥)) → P ⊎ ((e : CancelRefusal) × InCommon R e × (IsMemory e → ⊥))
    by (inl p) = inl p
    by (inr refused) = inr (refusal.Common refused.0, refused.1, refused.2)

    passed : P → (e : CancelRefusal) → InCommon R e → IsMemory e
    passed p (refusal.Common e) h = outcome.not_refused p e h
    passed p other h = absurd h

    once : (e f : CancelRefusal) → InCommon R e → InCommon R f → (IsMemory e → ⊥) → (IsMemory f → ⊥) → e ≡ f
    once (refusal.Common e) (refusal.Common f) h k not not' = ap refusal.Common (outcome.unique e f h k not not')
    once (refusal.Common e) other h k not not' = absurd k
    once other f h k not not' = absurd h

-- an item
module _ (q : Quiver) (proof : Cancellation) where
  module _ (before : List Poly) (rows : ℕ) (letter : Letter) (end : Side) (number : ℕ) where
    abbrev whole : Poly
    whole = generator_at before number

    abbrev IsEarlier : Type 0
    IsEarlier = IsNumberUpTo (length before) number

    abbrev IsDeclared : Type 0
    IsDeclared = Contains (declared_for proof end) letter

    abbrev HasLetter : ℤ × List ℕ → Type 0
    HasLetter t = HasAtEnd end letter.0 t.1

    abbrev IsKept : Type 0
    IsKept = term_total before + length (stripped end whole) ≤ kept_limit

    abbrev Tells : CancelRefusal → Type 0
    Tells e =
        ((e ≡ refusal.NoSuchItem (length before + 1)) × (IsEarlier → ⊥))
        ⊎ (IsEarlier × (((e ≡ refusal.NotDeclared (length before + 1)) × (IsDeclared → ⊥))
        ⊎ (IsDeclared × (((e ≡ refusal.NotTyped (length before + 1)) × (HasSignature q whole → ⊥))
        ⊎ (HasSignature q whole × (((e ≡ refusal.NotStripped (length before + 1)) × (All HasLetter whole → ⊥))
        ⊎ (All HasLetter whole × ((e ≡ refusal.Common (common.Kept rows)) × (IsKept → ⊥)))))))))

    of_letter : IsEarlier → IsDeclared → IsDeclaredLetter proof before letter end number
    of_letter earlier declared = record { earlier = earlier; declared = declared }

    of_type : IsEarlier → IsDeclared → HasSignature q whole → IsTypedItem q proof before letter end number
    of_type earlier declared typed = record { of_letter = of_letter earlier declared; typed = typed }

    comes_off : IsEarlier → IsDeclared → HasSignature q whole → All HasLetter whole → ComesOff q proof before letter end number
    comes_off earlier declared typed words = record { item = of_type earlier declared typed; words = words }

    told : (e : CancelRefusal) → Tells e → RefusesCancel q proof before rows letter end number e
    told e (inl (is, none)) = subst (RefusesCancel q proof before rows letter end number) (sym is) (record { numbered = refl; earlier = none })
    told e (inr (earlier, inl (is, none))) = subst (RefusesCancel q proof before rows letter end number) (sym is) (record { numbered = refl; earlier = earlier; declared = none })
    told e (inr (earlier, inr (declared, inl (is, none)))) = subst (RefusesCancel q proof before rows letter end number) (sym is) (record { numbered = refl; of_letter = of_letter earlier declared; typed = none })
    told e (inr (earlier, inr (declared, inr (typed, inl (is, none))))) =
        subst (RefusesCancel q proof before rows letter end number) (sym is) (record { numbered = refl; item = of_type earlier declared typed; words = none })
    told e (inr (earlier, inr (declared, inr (typed, inr (words, (is, more)))))) =
        subst (RefusesCancel q proof before rows letter end number) (sym is) (record { last_row = refl; comes_off = comes_off earlier declared typed words; kept = omega (arith, more) })

    tells : (e : CancelRefusal) → RefusesCancel q proof before rows letter end number e → (IsMemory e → ⊥) → Tells e
    tells (refusal.NoSuchItem n) h not = inl (ap refusal.NoSuchItem h.numbered, h.earlier)
    tells (refusal.NotDeclared n) h not = inr (h.earlier, inl (ap refusal.NotDeclared h.numbered, h.declared))
    tells (refusal.NotTyped n) h not = inr (h.of_letter.earlier, inr (h.of_letter.declared, inl (ap refusal.NotTyped h.numbered, h.typed)))
    tells (refusal.NotStripped n) h not = let i = h.item in inr (i.of_letter.earlier, inr (i.of_letter.declared, inr (i.typed, inl (ap refusal.NotStripped h.numbered, h.words))))
    tells (refusal.Common (common.Kept row)) h not =
        let i = h.comes_off.item in
        inr (i.of_letter.earlier, inr (i.of_letter.declared, inr (i.typed, inr (h.comes_off.words, (ap (λ n. refusal.Common (common.Kept n)) h.last_row, λ small. let large = h.kept in omega (arith, small, large))))))
    tells (refusal.Common (common.Memory failed)) h not = absurd (not tt)
    tells (refusal.Common other) h not = absurd h

    cancel_outcome : HasOneOutcome IsMemory (CancelPasses q proof before letter end number) (RefusesCancel q proof before rows letter end number)
    cancel_outcome =
        reworded is_memory_decided (λ h. record { comes_off = comes_off h.0 h.1.0 h.1.1.0 h.1.1.1.0; kept = h.1.1.1.1 })
        (λ h. let i = h.comes_off.item in (i.of_letter.earlier, (i.of_letter.declared, (i.typed, (h.comes_off.words, h.kept))))) (λ e h not. told e h) tells
        (then_test (one_test (refusal.NoSuchItem (length before + 1)) (λ none. none) (numbered_or (length before) number))
        (λ h. then_test (one_test (refusal.NotDeclared (length before + 1)) (λ none. none) (letter_or (declared_for proof end) letter))
        (λ h. then_test (one_test (refusal.NotTyped (length before + 1)) (λ none. none) (has_signature_or q whole))
        (λ h. then_test (one_test (refusal.NotStripped (length before + 1)) (λ none. none) (each_decided HasLetter (λ t. at_end_or end letter.0 t.1) whole))
        (λ h. one_test (refusal.Common (common.Kept rows)) (λ none. none) (le_decided (term_total before + length (stripped end whole)) kept_limit))))))

  module _ (generators : List Poly) where
    item_outcome : (before : List Poly) (rows : ℕ) (i : Item) → HasOneOutcome IsMemory (ItemPasses q proof generators before i) (RefusesItem q proof generators before rows i)
    item_outcome before rows (item.Lemma l) = in_common (lemma_outcome generators before rows l)
    item_outcome before rows (item.Cancel letter end number) = cancel_outcome before rows letter end number

    items_outcome : (before : List Poly) (rows : ℕ) (items : List Item) → HasOneOutcome IsMemory (ItemsPass q proof generators before items) (RefusesItems q proof generators before rows items)
    items_outcome before rows [] = no_test
    items_outcome before rows (i ∷ items) = then_test (item_outcome before rows i) (λ passes. items_outcome (before ++ item_polynomial generators before i ∷ []) (rows + rows_in i) items)

-- scales
of_lemma_or : (P : Lemma → Type 0) → ((l : Lemma) → IsDecided (P l)) → (i : Item) → IsDecided (OfLemma P i)
of_lemma_or P test (item.Lemma l) = test l
of_lemma_or P test (item.Cancel letter end number) = inl tt

-- the tests of a proof
module _ (q : Quiver) (claims generators : List Poly) (proof : Cancellation) where
  abbrev Positive : Type 0
  Positive = ArePositive (OfLemma HasScale) proof.denominator proof.items proof.goal

  abbrev Tight : Type 0
  Tight = AreTight (OfLemma (IsTight proof.denominator)) proof.items (IsTight proof.denominator proof.goal)

  abbrev Loose : ℕ → Type 0
  Loose = IsLoose (OfLemma (IsTight proof.denominator)) proof.items (IsTight proof.denominator proof.goal)

  abbrev StartsSo : Type 0
  StartsSo = Starts (OfLemma HasScale) (λ d. OfLemma (IsTight d)) claims proof.claim proof.denominator proof.items proof.goal

  abbrev TellsBeginning : Refusal → Type 0
  TellsBeginning = TellsStart (OfLemma HasScale) (λ d. OfLemma (IsTight d)) claims proof.claim proof.denominator proof.items proof.goal

  abbrev RefusesItsGoal : Refusal → Type 0
  RefusesItsGoal = RefusesGoal generators (all_items generators proof) (row_total proof.items) proof.goal (claim_named claims proof)

  abbrev TellsAll : CancelRefusal → Type 0
  TellsAll e = InCommon TellsBeginning e ⊎ (StartsSo × (RefusesItems q proof generators [] 0 proof.items e ⊎ (ItemsPass q proof generators [] proof.items × InCommon RefusesItsGoal e)))

  positive : Positive → HasPositiveScales proof
  positive h = record { denominator = h.0; items = h.1.0; goal = h.1.1 }

  are_positive : HasPositiveScales proof → Positive
  are_positive h = (h.denominator, (h.items, h.goal))

  loose : (n : ℕ) → Loose n → IsFirstLooseItem proof.denominator proof.items n ⊎ CancelHasLooseGoal proof n
  loose n (inl (first, numbered)) = inl (record { before = first.before; item = first.item; numbered = numbered; there = first.there; earlier = first.earlier; loose = first.fails })
  loose n (inr (each, (numbered, fails))) = inr (record { numbered = numbered; items = each; loose = fails })

  is_loose : (n : ℕ) → IsFirstLooseItem proof.denominator proof.items n ⊎ CancelHasLooseGoal proof n → Loose n
  is_loose n (inl h) = inl (record { before = h.before; item = h.item; there = h.there; earlier = h.earlier; fails = h.loose }, h.numbered)
  is_loose n (inr h) = inr (h.items, (h.numbered, h.loose))

  shares : IsNumberUpTo (length claims) proof.claim → Positive → Tight → CancelHasShares claims proof
  shares claim are tight = record { posed = record { claim = claim; positive = positive are }; tight = record { items = tight.0; goal = tight.1 } }

  pub begun : StartsSo → CancelBegins claims proof
  begun (claim, (are, (tight, fits))) = record { shares = shares claim are tight; products = fits }

  begins : CancelBegins claims proof → StartsSo
  begins h = let s = h.shares in (s.posed.claim, (are_positive s.posed.positive, ((s.tight.items, s.tight.goal), h.products)))

  pub told_start : (e : Refusal) → TellsBeginning e → RefusesBeginning claims proof e
  told_start e (inl (is, none)) = subst (RefusesBeginning claims proof) (sym is) none
  told_start e (inr (claim, inl (is, none))) = subst (RefusesBeginning claims proof) (sym is) (record { claim = claim; positive = λ h. none (are_positive h) })
  told_start e (inr (claim, inr (are, inl (n, is, h)))) = subst (RefusesBeginning claims proof) (sym is) (record { claim = claim; positive = positive are }, loose n h)
  told_start e (inr (claim, inr (are, inr (tight, (o, is, some))))) = subst (RefusesBeginning claims proof) (sym is) (record { before_rows = refl; shares = shares claim are tight; products = some })

  told_all : (e : CancelRefusal) → TellsAll e → RefusesCancellation q claims generators proof e
  told_all (refusal.Common e) (inl h) = refuses_from_beginning q claims generators proof e (told_start e h)
  told_all other (inl h) = absurd h
  told_all e (inr (h, inl refused)) = refuses_from_items q claims generators proof (begun h) e refused
  told_all (refusal.Common e) (inr (h, inr (pass, refused))) = refuses_from_goal q claims generators proof (record { begins = begun h; items = pass }) e refused
  told_all other (inr (h, inr (pass, refused))) = absurd refused

  start_tells : (e : Refusal) → RefusesBeginning claims proof e → TellsBeginning e
  start_tells common.NoSuchClaim h = inl (refl, h)
  start_tells common.ZeroDenominator h = inr (h.claim, inl (refl, λ are. h.positive (positive are)))
  start_tells (common.LooseScale n) h = inr (h.0.claim, inr (are_positive h.0.positive, inl (n, refl, is_loose n h.1)))
  start_tells (common.Overflow row o) h = let s = h.shares in inr (s.posed.claim, inr (are_positive s.posed.positive, inr ((s.tight.items, s.tight.goal), (o, ap (λ n. common.Overflow n o) h.before_rows, h.products))))
  start_tells other h = absurd h

  parts_tell : (e : CancelRefusal) → RefusesParts q claims generators proof e → TellsAll e
  parts_tell e (inl h) = inr (begins h.0, inl h.1)
  parts_tell e (inr h) = inr (begins h.0.begins, inr (h.0.items, h.1))

  common_tells : (e : Refusal) → RefusesCommon q claims generators proof e → (certificates.IsMemory e → ⊥) → TellsAll (refusal.Common e)
  common_tells (common.Memory failed) h not = absurd (not tt)
  common_tells other (inl h) not = inl (start_tells other h)
  common_tells other (inr h) not = parts_tell (refusal.Common other) h

  tells_all : (e : CancelRefusal) → RefusesCancellation q claims generators proof e → (IsMemory e → ⊥) → TellsAll e
  tells_all (refusal.Common e) h not = common_tells e h not
  tells_all other h not = parts_tell other h

  pub cancellation_outcome : HasOneOutcome IsMemory (AcceptsCancellation q claims generators proof) (RefusesCancellation q claims generators proof)
  cancellation_outcome =
      reworded is_memory_decided (λ h. record { items = record { begins = begun h.0; items = h.1.0 }; goal = h.1.1 }) (λ h. (begins h.items.begins, (h.items.items, h.goal))) (λ e h not. told_all e h) tells_all
      (then_test (in_common (start_outcome (OfLemma HasScale) (λ d. OfLemma (IsTight d)) claims proof.claim proof.denominator proof.items proof.goal (of_lemma_or HasScale (λ l. positive_or l.scale)) (of_lemma_or (IsTight proof.denominator) (λ l. divides_or l.scale proof.denominator))))
      (λ start. then_test (items_outcome q proof generators [] 0 proof.items)
      (λ pass. in_common (goal_outcome generators (all_items generators proof) (row_total proof.items) proof.goal (claim_named claims proof)))))

pub cancellation_is_judged : CancellationIsJudged
cancellation_is_judged q claims generators proof = (cancellation_outcome q claims generators proof).judged

pub cancellation_refusal_is_unique : CancellationRefusalIsUnique
cancellation_refusal_is_unique q claims generators proof = (cancellation_outcome q claims generators proof).unique

pub accepted_cancellation_is_not_refused : AcceptedCancellationIsNotRefused
accepted_cancellation_is_not_refused q claims generators proof e accepted = (cancellation_outcome q claims generators proof).not_refused accepted e

-- so what is refused of an accepted one is want of memory
pub complete : {A : Type 0} (q : Quiver) (claims generators : List Poly) (proof : Cancellation) (r : Result A CancelRefusal) → IfErr r (RefusesCancellation q claims generators proof) → AcceptsCancellation q claims generators proof → IfErr r IsMemory
complete q claims generators proof (Ok a) refused accepted = tt
complete q claims generators proof (Err e) refused accepted = accepted_cancellation_is_not_refused q claims generators proof e accepted refused
