-- Lemmas vanish one after another, and with them the claim.
use Rattle.representations.proofs.Prelude.{◌≡◌, ℕ, zero, suc, ◌<◌, ℤ, ◌*ℤ◌, int_div, List, [], ◌∷◌, ◌++◌, sym, refl, ap, ap₂, subst, ◌∙◌, append_assoc, recursion_from_All, append-nil, *ℤ_comm, AllByRecursion, Structure, IsArrow, PreadditiveLaws, InvolutionLaws, poly_multiple, poly_between, Quiver, Representation, Represents, Cancels, value_at, multiple, generator_at, HasSignature, HasValueZero, IsGroup, linear, linear_in, linear-append, linear-scale, linear_same, times, times-*ℤ, times-none, between_is_zero, all-append, star_sound, multiple-times, word_at, word_at_is_arrow, group_at, value_at-linear, quotient_times, CertFrom, LemmaRow, Lemma, LemmaCertificate, cert_poly, lemma_row_poly, lemma_sum, AddsUpTo, AreOfLemmas, IsShareOf, IsEvidenceOf, between-append, between-multiple, between-between, between-nothing, between-same, IsEvidenceSound, IsEvidenceStarSound}
use Rattle.traced_rows.specs.declared.evidence.CertFrom.TheVariants as cert

module _ {Object Arrow : Type 0} {s : Structure Object Arrow} (laws : PreadditiveLaws s) (q : Quiver) (f : Representation Object Arrow) (rep : Represents s q f) where
  module _ (u v : ℕ) (in_u : u < q.objects) (in_v : v < q.objects) where
    abbrev pub none : Arrow
    none = s.zero (f.object u) (f.object v)

    -- the sum of p at the signature (u, v)
    abbrev pub sum_at : List (ℤ × List ℕ) → Arrow
    sum_at p = linear none s.add s.negate (word_at laws q f rep u v) p

    abbrev times_at : ℤ → Arrow → Arrow
    times_at = times none s.add s.negate

    abbrev pub group : IsGroup (IsArrow s (f.object u) (f.object v)) (s.zero (f.object u) (f.object v)) s.add s.negate
    group = group_at laws q f rep u v in_u in_v

    pub word_in : (w : List ℕ) → IsArrow s (f.object u) (f.object v) (word_at laws q f rep u v w)
    word_in = word_at_is_arrow laws q f rep u v in_u in_v

    -- between any two words the polynomial has the sum zero
    abbrev pub IsNothing : List (ℤ × List ℕ) → Type 0
    IsNothing p = (l r : List ℕ) → sum_at (poly_between l p r) ≡ none

    pub generators_vanish : (generators : List (List (ℤ × List ℕ))) → AllByRecursion (HasSignature q) generators → AllByRecursion (HasValueZero s q f) generators → AllByRecursion IsNothing generators
    generators_vanish [] typed vanish = tt
    generators_vanish (g ∷ generators) typed vanish = (
      λ l r.
          let h = typed.0 in
          between_is_zero laws q f rep u v h.source h.target in_u in_v h.source_is_object h.target_is_object l r g h.typed
          (vanish.0.at h.source h.target h.source_is_object h.target_is_object h.typed),
      generators_vanish generators typed.1 vanish.1,
    )

    pub nothing_at : (ps : List (List (ℤ × List ℕ))) → AllByRecursion IsNothing ps → (n : ℕ) → IsNothing (generator_at ps n)
    nothing_at ps h zero l r = refl
    nothing_at [] h (suc n) l r = refl
    nothing_at (p ∷ ps) h (suc zero) l r = h.0 l r
    nothing_at (p ∷ ps) h (suc (suc n)) l r = nothing_at ps h.1 (suc n) l r

    module _ (generators lemmas : List (List (ℤ × List ℕ))) (none_of : AllByRecursion IsNothing generators) (none_so_far : AllByRecursion IsNothing lemmas) where
      source_vanishes : (o : CertFrom) → IsNothing (cert_poly generators lemmas o)
      source_vanishes (cert.Generator n) = nothing_at generators none_of n
      source_vanishes (cert.Lemma n) = nothing_at lemmas none_so_far n

      row_vanishes : (row : LemmaRow) → IsNothing (lemma_row_poly generators lemmas row)
      row_vanishes row l r =
          let p = cert_poly generators lemmas row.from in
          ap sum_at (between-multiple l r row.coef (poly_between row.left p row.right) ∙ ap (poly_multiple row.coef) (between-between l row.left row.right r p))
          ∙ linear-scale group (word_at laws q f rep u v) word_in row.coef (poly_between (l ++ row.left) p (row.right ++ r))
          ∙ ap (times_at row.coef) (source_vanishes row.from (l ++ row.left) (row.right ++ r)) ∙ times-none group row.coef

      pub rows_vanish : (rows : List LemmaRow) → IsNothing (lemma_sum generators lemmas rows)
      rows_vanish [] l r = refl
      rows_vanish (row ∷ rows) l r =
          let first = lemma_row_poly generators lemmas row in
          let rest = lemma_sum generators lemmas rows in
          ap sum_at (between-append l r first rest)
          ∙ linear-append group (word_at laws q f rep u v) word_in (poly_between l first r) (poly_between l rest r)
          ∙ ap₂ s.add (row_vanishes row l r) (rows_vanish rows l r) ∙ group.add_zero none group.zero_in

      -- a polynomial vanishes with its rows, where the scale divides an integer that cancels
      pub lemma_vanishes : (d : ℤ) → Cancels s d → (lemma : Lemma) (p : List (ℤ × List ℕ)) → IsShareOf d lemma → AddsUpTo generators lemmas lemma p → IsNothing p
      lemma_vanishes d cancels lemma p share adds_up l r =
          let k = lemma.scale in
          let m = int_div d k in
          let whole : m *ℤ k ≡ d = *ℤ_comm m k ∙ quotient_times d k share.1 in
          let x = sum_at (poly_between l p r) in
          let x_in : IsArrow s (f.object u) (f.object v) x = linear_in group (word_at laws q f rep u v) word_in (poly_between l p r) in
          let scaled : times_at k x ≡ none =
          sym (linear-scale group (word_at laws q f rep u v) word_in k (poly_between l p r)) ∙ ap sum_at (sym (between-multiple l r k p))
          ∙ sym (linear_same group (word_at laws q f rep u v) word_in (poly_between l (lemma_sum generators lemmas lemma.rows) r) (poly_between l (poly_multiple k p) r)
          (between-same l r (lemma_sum generators lemmas lemma.rows) (poly_multiple k p) adds_up))
          ∙ rows_vanish lemma.rows l r in
          let ends : none ≡ s.zero (s.source x) (s.target x) = ap₂ s.zero (sym x_in.source) (sym x_in.target) in
          let multiplied : multiple s d x ≡ none =
          multiple-times laws (f.object u) (f.object v) d x x_in ∙ ap (λ z. times_at z x) (sym whole)
          ∙ times-*ℤ group m k x x_in ∙ ap (times_at m) scaled ∙ times-none group m in
          cancels.at x x_in.arrow (multiplied ∙ ends) ∙ sym ends

    lemmas_vanish : (d : ℤ) → Cancels s d → (generators before : List (List (ℤ × List ℕ))) → AllByRecursion IsNothing generators → AllByRecursion IsNothing before
        → (lemmas : List Lemma) (ps : List (List (ℤ × List ℕ))) → AllByRecursion (IsShareOf d) lemmas → AreOfLemmas generators before lemmas ps → AllByRecursion IsNothing (before ++ ps)
    lemmas_vanish d cancels generators before none_of none_so_far [] [] shares adds_up = subst (AllByRecursion IsNothing) (sym (append-nil before)) none_so_far
    lemmas_vanish d cancels generators before none_of none_so_far [] (p ∷ ps) shares adds_up = absurd adds_up
    lemmas_vanish d cancels generators before none_of none_so_far (l ∷ lemmas) [] shares adds_up = absurd adds_up
    lemmas_vanish d cancels generators before none_of none_so_far (l ∷ lemmas) (p ∷ ps) shares adds_up =
        let here = lemma_vanishes generators before none_of none_so_far d cancels l p shares.0 adds_up.0 in
        subst (AllByRecursion IsNothing) (append_assoc before (p ∷ []) ps)
        (lemmas_vanish d cancels generators (before ++ p ∷ []) none_of (all-append IsNothing before (p ∷ []) none_so_far (here, tt)) lemmas ps shares.1 adds_up.1)

    claim_vanishes : (generators lemmas : List (List (ℤ × List ℕ))) (c : LemmaCertificate) (claim : List (ℤ × List ℕ))
        → AllByRecursion (HasSignature q) generators → IsEvidenceOf generators lemmas c claim → Cancels s c.denominator → AllByRecursion (HasValueZero s q f) generators
        → value_at s q f u v claim ≡ none
    claim_vanishes generators lemmas c claim typed evidence cancels vanish =
        let none_of = generators_vanish generators typed vanish in
        let shares = parted c.lemmas (recursion_from_All (IsShareOf c.denominator) (c.lemmas ++ c.goal ∷ []) evidence.shares) in
        let none_so_far = lemmas_vanish c.denominator cancels generators [] none_of tt c.lemmas lemmas shares.0 evidence.lemmas_add_up in
        let at_words = lemma_vanishes generators lemmas none_of none_so_far c.denominator cancels c.goal claim shares.1 evidence.goal_adds_up [] [] in
        value_at-linear laws q f rep u v in_u in_v claim ∙ ap sum_at (sym (between-nothing claim)) ∙ at_words
      where
        parted : (ls : List Lemma) → AllByRecursion (IsShareOf c.denominator) (ls ++ c.goal ∷ []) → AllByRecursion (IsShareOf c.denominator) ls × IsShareOf c.denominator c.goal
        parted [] h = (tt, h.0)
        parted (l ∷ ls) h = let rest = parted ls h.1 in ((h.0, rest.0), rest.1)

-- the laws
pub lemmas_sound : {Object Arrow : Type 0} {s : Structure Object Arrow} → PreadditiveLaws s → IsEvidenceSound s
lemmas_sound laws = record {
  evidence = λ q generators lemmas c claim quiver typed evidence. record {
    zero = λ f rep cancels vanish. record { at = λ u v in_u in_v claim_typed. claim_vanishes laws q f rep u v in_u in_v generators lemmas c claim typed evidence cancels vanish };
  };
}

pub lemmas_star_sound : {Object Arrow : Type 0} {s : Structure Object Arrow} {adjoint : Arrow → Arrow} → PreadditiveLaws s → InvolutionLaws s adjoint → IsEvidenceStarSound s adjoint
lemmas_star_sound laws involution = record {
  evidence = λ q starred marked assumptions lemmas c claim quiver in_range typed evidence f rep cancels vanish.
      ((lemmas_sound laws).evidence q _ lemmas c claim quiver typed evidence).zero f rep.represents cancels
      ((star_sound laws involution).generators q starred marked assumptions quiver in_range f rep vanish);
}
