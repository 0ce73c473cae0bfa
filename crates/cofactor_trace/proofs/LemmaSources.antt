-- The replacements of the generators and rules that a lemma or the target names: generators, direct rules, earlier lemmas.
use Rattle.cofactor_trace.proofs.Prelude.{◌≡◌, inl, inr, ℕ, ◌-◌, ◌<◌, ◌≤◌, ℤ, pos, negsuc, Bool, true, false, ◌&&◌, cond, List, [], ◌∷◌, ◌++◌, filter, length, nat_eq, eqb-true, eq-eqb, Option, Some, None, unwrap_or, is_none, sym, refl, ap, subst, ◌∙◌, arith, Decides-int_eq, nat_tests, and_parts, cond_both, or_cases, or_left, or_right, AllByRecursion, slice_get, option_and_then, int_eq, Origin, Row, Made, Replacement, IsRecord, AreRecords, is_rule, Numbered, needed_rules, signed_generator, single_row, direct_of, is_lemma, lemma_at, lemma_rules, lemma_number, naming_of, signed}
use Rattle.traced_rows.specs.declared.Origin.TheVariants as origin
use Rattle.traced_rows.specs.declared.evidence.CertFrom.TheVariants as cert
use Rattle.cofactor_trace.proofs.Closure.{names, record_names, is_numbered, Above, above_lower, needed_ascend, numbered_above}
use Rattle.cofactor_trace.proofs.NeededLaws.{AreNumbered, all_numbered}
use Rattle.cofactor_trace.proofs.LemmaLaws.{NamesNeeded, needed_name}

-- a generator or its negative, as a record
pub record IsDirect (m : Made) (x : Replacement) : Type 0 where
  pub generator : ℕ
  pub from_is : x.from ≡ cert.Generator generator
  pub scale_is : m.scale ≡ pos 1
  pub rows_are : m.rows ≡ record { coef = signed x.negative (pos 1); left = []; from = origin.Generator generator; right = [] } ∷ []

-- the same of one row
record IsSigned (r : Row) (x : Replacement) : Type 0 where
  generator : ℕ
  from_is : x.from ≡ cert.Generator generator
  row_is : r ≡ record { coef = signed x.negative (pos 1); left = []; from = origin.Generator generator; right = [] }

empty_is : (w : List ℕ) → nat_eq (length w) 0 ≡ true → w ≡ []
empty_is [] e = refl
empty_is (a ∷ w) e = let none : length (a ∷ w) ≡ 0 = eqb-true (length (a ∷ w)) 0 e in absurd (omega (arith, none))

signed_is : (coef : ℤ) (left right : List ℕ) (o : Origin) (x : Replacement) → left ≡ [] → right ≡ [] → signed_generator coef o ≡ Some x → IsSigned (record { coef = coef; left = left; from = o; right = right }) x
signed_is coef left right (origin.Rule n) x l r h = absurd (cc)
signed_is coef left right (origin.Generator n) x l r h = go (int_eq coef (pos 1)) (int_eq coef (negsuc 0)) refl refl h
  where
    made_of : (negative : Bool) → coef ≡ signed negative (pos 1) → ◌≡◌ {A = Replacement} (record { negative = negative; from = cert.Generator n }) x → IsSigned (record { coef = coef; left = left; from = origin.Generator n; right = right }) x
    made_of negative c e =
        subst (λ (y : Replacement). IsSigned (record { coef = coef; left = left; from = origin.Generator n; right = right }) y) e
        (record { generator = n; from_is = refl; row_is = λ i. record { coef = c i; left = l i; from = origin.Generator n; right = r i } })

    go : (a b : Bool) → int_eq coef (pos 1) ≡ a → int_eq coef (negsuc 0) ≡ b
        → cond a (Some (record { negative = false; from = cert.Generator n })) (cond b (Some (record { negative = true; from = cert.Generator n })) None) ≡ Some x
        → IsSigned (record { coef = coef; left = left; from = origin.Generator n; right = right }) x
    go true b one minus e = made_of false ((Decides-int_eq coef (pos 1)).0 one) (cc)
    go false true one minus e = made_of true ((Decides-int_eq coef (negsuc 0)).0 minus) (cc)
    go false false one minus e = absurd (cc)

direct_from : (m : Made) (r : Row) (x : Replacement) → m.scale ≡ pos 1 → m.rows ≡ r ∷ [] → IsSigned r x → IsDirect m x
direct_from m r x scale_is rows_are s = record { generator = s.generator; from_is = s.from_is; scale_is = scale_is; rows_are = rows_are ∙ ap (λ (y : Row). y ∷ []) s.row_is }

single_is : (rows : List Row) (x : Replacement) → single_row rows ≡ Some x → (m : Made) → m.scale ≡ pos 1 → m.rows ≡ rows → IsDirect m x
single_is [] x h m scale_is rows_are = absurd (cc)
single_is (r ∷ (s ∷ rows)) x h m scale_is rows_are = absurd (cc)
single_is (r ∷ []) x h m scale_is rows_are =
    let empty : nat_eq (length r.left) 0 && nat_eq (length r.right) 0 ≡ true = grind arith in
    let both = and_parts (nat_eq (length r.left) 0) (nat_eq (length r.right) 0) empty in
    let some : signed_generator r.coef r.from ≡ Some x = grind arith in
    direct_from m r x scale_is rows_are (signed_is r.coef r.left r.right r.from x (empty_is r.left both.0) (empty_is r.right both.1) some)

pub direct_is : (m : Made) (x : Replacement) → direct_of m ≡ Some x → IsDirect m x
direct_is m x h =
    let one : int_eq m.scale (pos 1) ≡ true = grind arith in
    let some : single_row m.rows ≡ Some x = grind arith in
    single_is m.rows x some m ((Decides-int_eq m.scale (pos 1)).0 one) refl

-- the place of a rule among the lemmas
pub number_positive : (n : ℕ) (es : List Numbered) → 1 ≤ lemma_number n es
number_positive n [] = omega arith
number_positive n (e ∷ es) = grind arith

pub number_within : (n : ℕ) (done rest : List Numbered) → is_numbered n done ≡ true → lemma_number n (done ++ rest) ≤ length done
number_within n [] rest h = absurd (cc)
number_within n (e ∷ done) rest h = let later = number_within n done rest in grind arith

-- ascending lists of rules
module _ (target : Made) where
  above_filtered : (p : Numbered → Bool) (place : ℕ) (es : List Numbered) → Above target place es → Above target place (filter p es)
  above_filtered p place [] above = tt
  above_filtered p place (e ∷ es) above =
      let rest = above_filtered p e.0 es above.1 in
      cond_both (p e) _ _ (Above target place) (λ _. (above.0, rest)) (λ _. above_lower target place e.0 (filter p es) (omega (arith, above.0)) rest)

  stands_before : (place n : ℕ) (done : List Numbered) (e : Numbered) (rest : List Numbered) → Above target place (done ++ e ∷ rest) → n < e.0 → is_numbered n (done ++ e ∷ rest) ≡ true → is_numbered n done ≡ true
  stands_before place n [] e rest above less listed = let past = numbered_above target n e.0 rest above.1 in grind (arith, nat_tests)
  stands_before place n (d ∷ done) e rest above less listed = let later = stands_before d.0 n done e rest above.1 less in grind arith

module _ (made : List Made) (target : Made) (records : AreRecords made) (is_record : IsRecord (length made) target) where
  -- what is known of a needed rule
  record HasRecord (n : ℕ) (es : List Numbered) : Type 0 where
    m : Made
    positive : 1 ≤ n
    item : slice_get made (n - 1) ≡ Some m
    kept : is_lemma m ≡ true → is_numbered n (filter (λ e. is_lemma e.1) es) ≡ true

  has_record : (n : ℕ) (es : List Numbered) → AreNumbered made es → is_numbered n es ≡ true → HasRecord n es
  has_record n [] numbered listed = absurd (cc)
  has_record n (e ∷ es) numbered listed = elim (or_cases (nat_eq n e.0) (is_numbered n es) listed) [
    | inl same ↦
        let number : e.0 ≡ n = sym (eqb-true n e.0 same) in
        record {
          m = e.1;
          positive = subst (λ k. 1 ≤ k) number numbered.0.0;
          item = subst (λ k. slice_get made (k - 1) ≡ Some e.1) number numbered.0.1;
          kept = λ lemma. grind arith;
        }
    | inr there ↦
        let r = has_record n es numbered.1 there in
        record { m = r.m; positive = r.positive; item = r.item; kept = λ lemma. let later = r.kept lemma in grind arith }
  ]

  -- what a row names is needed, and a lemma that it names comes before it
  abbrev pub IsKnown : List Numbered → Origin → Type 0
  IsKnown done o = (n : ℕ) → is_rule n o ≡ true → (is_numbered n (needed_rules made target) ≡ true) × (is_numbered n (lemma_rules made target) ≡ true → is_numbered n done ≡ true)

  -- its replacement is the generator, or the one that the direct rule is, or an earlier lemma
  pub by_source : (P : Origin → Replacement → Type 0) (done rest : List Numbered) → done ++ rest ≡ lemma_rules made target
      → ((n : ℕ) → P (origin.Generator n) (record { negative = false; from = cert.Generator n }))
      → ((n : ℕ) (m : Made) (x : Replacement) → 1 ≤ n → slice_get made (n - 1) ≡ Some m → direct_of m ≡ Some x → P (origin.Rule n) x)
      → ((n : ℕ) → is_numbered n done ≡ true → P (origin.Rule n) (lemma_at (lemma_number n (done ++ rest))))
      → (o : Origin) → IsKnown done o → P o (naming_of made target o)
  by_source P done rest whole generator direct lemma (origin.Generator n) known = generator n
  by_source P done rest whole generator direct lemma (origin.Rule n) known =
      let k = known n (eq-eqb n n refl) in
      let r = has_record n (needed_rules made target) (all_numbered made target) k.0 in
      subst (P (origin.Rule n)) (sym (ap (λ o. unwrap_or (option_and_then direct_of o) (lemma_at (lemma_number n (lemma_rules made target)))) r.item))
      (go r.m r.positive r.item r.kept k.1 (direct_of r.m) refl)
    where
      go : (m : Made) → 1 ≤ n → slice_get made (n - 1) ≡ Some m → (is_lemma m ≡ true → is_numbered n (lemma_rules made target) ≡ true)
          → (is_numbered n (lemma_rules made target) ≡ true → is_numbered n done ≡ true) → (x : Option Replacement) → direct_of m ≡ x
          → P (origin.Rule n) (unwrap_or x (lemma_at (lemma_number n (lemma_rules made target))))
      go m positive item kept before (Some x) e = direct n m x positive item e
      go m positive item kept before None e = subst (λ es. P (origin.Rule n) (lemma_at (lemma_number n es))) whole (lemma n (before (kept (ap is_none e))))

  each_known : (done : List Numbered) (rows : List Row) → ((n : ℕ) → names n rows ≡ true → (is_numbered n (needed_rules made target) ≡ true) × (is_numbered n (lemma_rules made target) ≡ true → is_numbered n done ≡ true))
      → AllByRecursion (λ r. IsKnown done r.from) rows
  each_known done [] h = tt
  each_known done (r ∷ rows) h = (
    λ n e. h n (or_left (is_rule n r.from) (names n rows) e),
    each_known done rows (λ n e. h n (or_right (is_rule n r.from) (names n rows) e)),
  )

  lemmas_ascend : Above target 0 (lemma_rules made target)
  lemmas_ascend = above_filtered target (λ e. is_lemma e.1) 0 (needed_rules made target) (needed_ascend target 0 made)

  -- the rows of a lemma
  pub lemma_knows : (done : List Numbered) (e : Numbered) (rest : List Numbered) → done ++ e ∷ rest ≡ lemma_rules made target → IsRecord (e.0 - 1) e.1 → 1 ≤ e.0 → NamesNeeded made target records is_record e.1
      → AllByRecursion (λ r. IsKnown done r.from) e.1.rows
  lemma_knows done e rest whole entry positive needed =
      each_known done e.1.rows (λ n named. (
        needed n named,
        λ listed.
            let range = record_names (e.0 - 1) n e.1 entry named in
            stands_before target 0 n done e rest (subst (Above target 0) (sym whole) lemmas_ascend) (omega (arith, range.1, positive))
            (subst (λ es. is_numbered n es ≡ true) (sym whole) listed),
      ))

  -- the rows of the target
  pub target_knows : NamesNeeded made target records is_record target → AllByRecursion (λ r. IsKnown (lemma_rules made target) r.from) target.rows
  target_knows needed = each_known (lemma_rules made target) target.rows (λ n named. (needed n named, λ listed. listed))

  -- the records of the lemmas
  abbrev pub IsEntry : Numbered → Type 0
  IsEntry e = (1 ≤ e.0) × (slice_get made (e.0 - 1) ≡ Some e.1) × NamesNeeded made target records is_record e.1

  entries_kept : (es : List Numbered) → AreNumbered made es → AllByRecursion (λ e. NamesNeeded made target records is_record e.1) es → AllByRecursion IsEntry (filter (λ e. is_lemma e.1) es)
  entries_kept [] numbered needed = tt
  entries_kept (e ∷ es) numbered needed =
      let rest = entries_kept es numbered.1 needed.1 in
      cond_both (is_lemma e.1) _ _ (AllByRecursion IsEntry) (λ _. ((numbered.0.0, numbered.0.1, needed.0), rest)) (λ _. rest)

  pub lemma_entries : AllByRecursion IsEntry (lemma_rules made target)
  lemma_entries = entries_kept (needed_rules made target) (all_numbered made target) (needed_name made target records is_record)
