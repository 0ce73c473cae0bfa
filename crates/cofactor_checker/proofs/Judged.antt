-- Evidence of either format has exactly one outcome: it is accepted, or one of its tests is the first that fails.
use Rattle.cofactor_checker.proofs.Prelude.{◌≡◌, ◌⊎◌, inl, inr, ℕ, ◌+◌, ℤ, pos, ◌≤ℤ◌, List, [], length, All, Option, Some, None, Result, Ok, Err, IfErr, refl, sym, subst, ap, ◌∙◌, arith, ints, Overflow, first_overflow, poly_multiple, row_sum, products, Certificate, Lemma, LemmaCertificate, Plain, Lemmas, row_of, rows_of, IsDecided, both_decided, HasOneOutcome, FirstNot, each_decided, one_test, value_test, each_test, then_test, reworded, Accepted, IsNumberUpTo, RowsPass, StopsAt, overflows, outgrows, tell_generator, LemmasPass, RefusesLemmaRows, RefusesLemmas, row_count, claim_of, Begins, Accepts, Refuses, IsMemory, goal_claim, all_polynomials, HasScale, IsTight, IsPositive, HasShares, GoalBegins, IsFirstLoose, HasLooseGoal, AcceptsLemmas, RefusesBlock, RefusesLemmaCertificate, ArePositive, IsLoose, AreTight, multiple, Starts, TellsStart, RefusesGoal, AcceptsEvidence, RefusesEvidence, EachCertificateIsJudged, RefusalIsUnique, EvidenceIsJudged, EvidenceRefusalIsUnique, AcceptedEvidenceIsNotRefused, Refusal, Evidence}
use Rattle.definitions.specs.Poly.{Poly}
use Rattle.cofactor_checker.specs.declared.refusal.Refusal.TheVariants as refusal
use Rattle.cofactor_checker.proofs.Differences.{TellsDifference, difference_outcome}
use Rattle.cofactor_checker.proofs.RowTests.{memory_decided, numbered_or, stops_lacking, certificate_rows, goal_outcome}
use Rattle.cofactor_checker.proofs.LemmaTests.{divides_or, positive_or, below_one, lemmas_outcome}
use Rattle.cofactor_checker.proofs.Outcomes.{refuses_from_row}
use Rattle.cofactor_checker.proofs.LemmaOutcomes.{refuses_from_lemmas, refuses_from_goal}

-- a certificate of rows over generators alone
module _ (claims gs : List Poly) (c : Certificate) where
  abbrev IsClaim : Type 0
  IsClaim = IsNumberUpTo (length claims) c.claim

  abbrev first : Option Overflow
  first = first_overflow (products c.denominator (claim_of claims c))

  abbrev PassRows : Type 0
  PassRows = RowsPass gs (rows_of c.rows) (length (rows_of c.rows))

  abbrev Tells : Refusal → Type 0
  Tells e =
      ((e ≡ refusal.NoSuchClaim) × (IsClaim → ⊥))
      ⊎ (IsClaim × (((e ≡ refusal.ZeroDenominator) × (pos 1 ≤ℤ c.denominator → ⊥))
      ⊎ ((pos 1 ≤ℤ c.denominator) × (((o : Overflow) × (e ≡ refusal.Overflow 0 o) × (first ≡ Some o))
      ⊎ ((first ≡ None) × (StopsAt gs row_of tell_generator (λ n. n) c.rows e
      ⊎ (PassRows × TellsDifference (poly_multiple c.denominator (claim_of claims c)) (row_sum gs (rows_of c.rows)) e)))))))

  told : (e : Refusal) → Tells e → Refuses claims gs c e
  told e (inl (is, none)) = subst (Refuses claims gs c) (sym is) none
  told e (inr (claim, inl (is, none))) = subst (Refuses claims gs c) (sym is) (record { claim = claim; denominator = below_one c.denominator none })
  told e (inr (claim, inr (least, inl (o, is, some)))) = subst (Refuses claims gs c) (sym is) (inl (record { before_rows = refl; posed = record { claim = claim; denominator = least }; products = some }))
  told e (inr (claim, inr (least, inr (fits, inl h)))) = let begun : Begins claims c = record { posed = record { claim = claim; denominator = least }; products = fits } in refuses_from_row begun e h
  told e (inr (claim, inr (least, inr (fits, inr (rows, d))))) =
      subst (Refuses claims gs c) (sym d.is) (record { adds_up = record { begins = record { posed = record { claim = claim; denominator = least }; products = fits }; rows = rows }; difference = d.least })

  of_row : Begins claims c → (e : Refusal) → StopsAt gs row_of tell_generator (λ n. n) c.rows e → Tells e
  of_row begins e h = inr (begins.posed.claim, inr (begins.posed.denominator, inr (begins.products, inl h)))

  tells : (e : Refusal) → Refuses claims gs c e → (IsMemory e → ⊥) → Tells e
  tells refusal.NoSuchClaim h not = inl (refl, h)
  tells refusal.ZeroDenominator h not = inr (h.claim, inl (refl, λ least. let less = h.denominator in omega (arith, ints, least, less)))
  tells (refusal.Overflow row o) (inl h) not = inr (h.posed.claim, inr (h.posed.denominator, inl (o, ap (λ n. refusal.Overflow n o) h.before_rows, h.products)))
  tells (refusal.Overflow row o) (inr h) not = of_row h.0 (refusal.Overflow row o) (overflows row o refl h.1)
  tells (refusal.NoSuchGenerator row) h not = of_row h.0 (refusal.NoSuchGenerator row) (stops_lacking gs c.rows row h.1)
  tells (refusal.Size row) h not = of_row h.0 (refusal.Size row) (outgrows row refl h.1)
  tells (refusal.Differs word want got) h not =
      let begins = h.adds_up.begins in
      inr (begins.posed.claim, inr (begins.posed.denominator, inr (begins.products, inr (h.adds_up.rows, record { word = word; want = want; got = got; is = refl; least = h.difference }))))
  tells (refusal.Memory failed) h not = absurd (not tt)
  tells other h not = absurd h

  pub certificate_outcome : HasOneOutcome IsMemory (Accepts claims gs c) (Refuses claims gs c)
  certificate_outcome =
      reworded memory_decided (λ h. record { adds_up = record { begins = record { posed = record { claim = h.0; denominator = h.1.0 }; products = h.1.1.0 }; rows = h.1.1.1.0 }; sum = h.1.1.1.1 })
      (λ h. (h.adds_up.begins.posed.claim, (h.adds_up.begins.posed.denominator, (h.adds_up.begins.products, (h.adds_up.rows, h.sum))))) (λ e h not. told e h) tells
      (then_test (one_test refusal.NoSuchClaim (λ none. none) (numbered_or (length claims) c.claim))
      (λ claim. then_test (one_test refusal.ZeroDenominator (λ none. none) (positive_or c.denominator))
      (λ least. then_test (value_test (refusal.Overflow 0) (λ o none. none) first)
      (λ fits. then_test (certificate_rows gs c.rows) (λ rows. difference_outcome (poly_multiple c.denominator (claim_of claims c)) (row_sum gs (rows_of c.rows)))))))

-- what is tested before items, whatever these are
module _ {X : Type 0} (positive : X → Type 0) (tight : ℤ → X → Type 0) (claims : List Poly) (number : ℕ) (d : ℤ) (items : List X) (goal : Lemma) (are_positive : (x : X) → IsDecided (positive x)) (are_tight : (x : X) → IsDecided (tight d x)) where
  abbrev TellsLoose : Refusal → Type 0
  TellsLoose e = (n : ℕ) × (e ≡ refusal.LooseScale n) × IsLoose (tight d) items (IsTight d goal) n

  abbrev FailsLoose : Refusal → Type 0
  FailsLoose e = ((first : FirstNot (tight d) items) × (e ≡ refusal.LooseScale (first.before + 1))) ⊎ (All (tight d) items × ((e ≡ refusal.LooseScale 0) × (IsTight d goal → ⊥)))

  loose_told : (e : Refusal) → FailsLoose e → TellsLoose e
  loose_told e (inl (first, is)) = (first.before + 1, is, inl (first, refl))
  loose_told e (inr (each, (is, loose))) = (0, is, inr (each, (refl, loose)))

  loose_fails : (e : Refusal) → TellsLoose e → FailsLoose e
  loose_fails e (n, is, inl (first, numbered)) = inl (first, is ∙ ap refusal.LooseScale numbered)
  loose_fails e (n, is, inr (each, (numbered, loose))) = inr (each, (is ∙ ap refusal.LooseScale numbered, loose))

  pub start_outcome : HasOneOutcome IsMemory (Starts positive tight claims number d items goal) (TellsStart positive tight claims number d items goal)
  start_outcome =
      then_test (one_test refusal.NoSuchClaim (λ none. none) (numbered_or (length claims) number))
      (λ h. then_test (one_test refusal.ZeroDenominator (λ none. none) (both_decided (positive_or d) (both_decided (each_decided positive are_positive items) (positive_or goal.scale))))
      (λ h. then_test (reworded memory_decided (λ h. h) (λ h. h) (λ e h not. loose_told e h) (λ e h not. loose_fails e h)
      (then_test (each_test (tight d) refusal.LooseScale (λ n none. none) items (λ i x there. are_tight x)) (λ h. one_test (refusal.LooseScale 0) (λ none. none) (divides_or goal.scale d))))
      (λ h. value_test (refusal.Overflow 0) (λ o none. none) (multiple positive tight claims number d items goal))))

-- a certificate with lemmas
module _ (claims gs : List Poly) (c : LemmaCertificate) where
  abbrev StartsSo : Type 0
  StartsSo = Starts HasScale IsTight claims c.claim c.denominator c.lemmas c.goal

  abbrev TellsBeginning : Refusal → Type 0
  TellsBeginning = TellsStart HasScale IsTight claims c.claim c.denominator c.lemmas c.goal

  abbrev RefusesItsGoal : Refusal → Type 0
  RefusesItsGoal = RefusesGoal gs (all_polynomials gs c) (row_count c.lemmas) c.goal (goal_claim claims c)

  abbrev TellsLater : Refusal → Type 0
  TellsLater e = RefusesLemmas gs [] 0 c.lemmas e ⊎ (LemmasPass gs [] c.lemmas × RefusesItsGoal e)

  positive : ArePositive HasScale c.denominator c.lemmas c.goal → IsPositive c
  positive h = record { denominator = h.0; lemmas = h.1.0; goal = h.1.1 }

  are_positive : IsPositive c → ArePositive HasScale c.denominator c.lemmas c.goal
  are_positive h = (h.denominator, (h.lemmas, h.goal))

  loose : (n : ℕ) → IsLoose (IsTight c.denominator) c.lemmas (IsTight c.denominator c.goal) n → IsFirstLoose c.denominator c.lemmas n ⊎ HasLooseGoal c n
  loose n (inl (first, numbered)) = inl (record { before = first.before; lemma = first.item; numbered = numbered; there = first.there; earlier = record { each = first.earlier }; loose = first.fails })
  loose n (inr (each, (numbered, fails))) = inr (record { numbered = numbered; lemmas = record { each = each }; loose = fails })

  is_loose : (n : ℕ) → IsFirstLoose c.denominator c.lemmas n ⊎ HasLooseGoal c n → IsLoose (IsTight c.denominator) c.lemmas (IsTight c.denominator c.goal) n
  is_loose n (inl h) = inl (record { before = h.before; item = h.lemma; there = h.there; earlier = h.earlier.each; fails = h.loose }, h.numbered)
  is_loose n (inr h) = inr (h.lemmas.each, (h.numbered, h.loose))

  shares : IsNumberUpTo (length claims) c.claim → ArePositive HasScale c.denominator c.lemmas c.goal → AreTight (IsTight c.denominator) c.lemmas (IsTight c.denominator c.goal) → HasShares claims c
  shares claim are tight = record { posed = record { claim = claim; positive = positive are }; tight = record { lemmas = record { each = tight.0 }; goal = tight.1 } }

  pub begun : StartsSo → GoalBegins claims c
  begun (claim, (are, (tight, fits))) = record { shares = shares claim are tight; products = fits }

  begins : GoalBegins claims c → StartsSo
  begins h = let s = h.shares in (s.posed.claim, (are_positive s.posed.positive, ((s.tight.lemmas.each, s.tight.goal), h.products)))

  pub told_start : (e : Refusal) → TellsBeginning e → RefusesLemmaCertificate claims gs c e
  told_start e (inl (is, none)) = subst (RefusesLemmaCertificate claims gs c) (sym is) none
  told_start e (inr (claim, inl (is, none))) = subst (RefusesLemmaCertificate claims gs c) (sym is) (record { claim = claim; positive = λ h. none (are_positive h) })
  told_start e (inr (claim, inr (are, inl (n, is, h)))) = subst (RefusesLemmaCertificate claims gs c) (sym is) (record { claim = claim; positive = positive are }, loose n h)
  told_start e (inr (claim, inr (are, inr (tight, (o, is, some))))) = subst (RefusesLemmaCertificate claims gs c) (sym is) (inl (record { before_rows = refl; shares = shares claim are tight; products = some }))

  told_later : (e : Refusal) → TellsBeginning e ⊎ (StartsSo × TellsLater e) → RefusesLemmaCertificate claims gs c e
  told_later e (inl h) = told_start e h
  told_later e (inr (h, inl refused)) = refuses_from_lemmas claims gs c (begun h) e refused
  told_later e (inr (h, inr (pass, refused))) = refuses_from_goal claims gs c (record { begins = begun h; lemmas = pass }) e refused

  block_tells : (e : Refusal) → (RefusesLemmaRows gs (all_polynomials gs c) (row_count c.lemmas) c.goal.rows e → RefusesItsGoal e) → RefusesBlock claims gs c e → TellsBeginning e ⊎ (StartsSo × TellsLater e)
  block_tells e goal (inl h) = inr (begins h.0, inl h.1)
  block_tells e goal (inr h) = inr (begins h.0.begins, inr (h.0.lemmas, goal h.1))

  tells_later : (e : Refusal) → RefusesLemmaCertificate claims gs c e → (IsMemory e → ⊥) → TellsBeginning e ⊎ (StartsSo × TellsLater e)
  tells_later refusal.NoSuchClaim h not = inl (inl (refl, h))
  tells_later refusal.ZeroDenominator h not = inl (inr (h.claim, inl (refl, λ are. h.positive (positive are))))
  tells_later (refusal.LooseScale lemma) h not = inl (inr (h.0.claim, inr (are_positive h.0.positive, inl (lemma, refl, is_loose lemma h.1))))
  tells_later (refusal.Overflow row o) (inl h) not =
      let s = h.shares in inl (inr (s.posed.claim, inr (are_positive s.posed.positive, inr ((s.tight.lemmas.each, s.tight.goal), (o, ap (λ n. refusal.Overflow n o) h.before_rows, h.products)))))
  tells_later (refusal.Overflow row o) (inr h) not = block_tells (refusal.Overflow row o) (λ k. k) h
  tells_later (refusal.Differs word want got) h not = inr (begins h.adds_up.lemmas.begins, inr (h.adds_up.lemmas.lemmas, record { rows = h.adds_up.rows; difference = h.difference }))
  tells_later (refusal.Memory failed) h not = absurd (not tt)
  tells_later other h not = block_tells other (λ k. k) h

  pub lemma_certificate_outcome : HasOneOutcome IsMemory (AcceptsLemmas claims gs c) (RefusesLemmaCertificate claims gs c)
  lemma_certificate_outcome =
      reworded memory_decided (λ h. record { adds_up = record { lemmas = record { begins = begun h.0; lemmas = h.1.0 }; rows = h.1.1.rows }; sum = h.1.1.sum })
      (λ h. (begins h.adds_up.lemmas.begins, (h.adds_up.lemmas.lemmas, record { rows = h.adds_up.rows; sum = h.sum }))) (λ e h not. told_later e h) tells_later
      (then_test (start_outcome HasScale IsTight claims c.claim c.denominator c.lemmas c.goal (λ l. positive_or l.scale) (λ l. divides_or l.scale c.denominator))
      (λ start. then_test (lemmas_outcome gs [] 0 c.lemmas) (λ pass. goal_outcome gs (all_polynomials gs c) (row_count c.lemmas) c.goal (goal_claim claims c))))

-- either
pub evidence_outcome : (claims gs : List Poly) (e : Evidence) → HasOneOutcome IsMemory (AcceptsEvidence claims gs e) (RefusesEvidence claims gs e)
evidence_outcome claims gs (Plain c) = certificate_outcome claims gs c
evidence_outcome claims gs (Lemmas c) = lemma_certificate_outcome claims gs c

pub each_certificate_is_judged : EachCertificateIsJudged
each_certificate_is_judged claims gs c = (certificate_outcome claims gs c).judged

pub refusal_is_unique : RefusalIsUnique
refusal_is_unique claims gs c = (certificate_outcome claims gs c).unique

pub accepted_is_not_refused : {claims gs : List Poly} {c : Certificate} → Accepts claims gs c → (e : Refusal) → Refuses claims gs c e → IsMemory e
accepted_is_not_refused {claims = claims} {gs = gs} {c = c} = (certificate_outcome claims gs c).not_refused

pub evidence_is_judged : EvidenceIsJudged
evidence_is_judged claims gs e = (evidence_outcome claims gs e).judged

pub evidence_refusal_is_unique : EvidenceRefusalIsUnique
evidence_refusal_is_unique claims gs e = (evidence_outcome claims gs e).unique

pub accepted_evidence_is_not_refused : AcceptedEvidenceIsNotRefused
accepted_evidence_is_not_refused claims gs evidence e accepted = (evidence_outcome claims gs evidence).not_refused accepted e

pub not_refused_result : (claims gs : List Poly) (e : Evidence) → AcceptsEvidence claims gs e → (r : Result Accepted Refusal) → IfErr r (RefusesEvidence claims gs e) → IfErr r IsMemory
not_refused_result claims gs e accepted (Ok a) h = tt
not_refused_result claims gs e accepted (Err r) h = (evidence_outcome claims gs e).not_refused accepted r h
