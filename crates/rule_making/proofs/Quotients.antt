-- A polynomial divided by its content, or by the negative of that.
use Rattle.rule_making.proofs.Prelude.{◌≡◌, ◌≢◌, ◌<◌, ◌≤◌, ◌<ℤ◌, ℕ, zero, suc, ◌*◌, ℤ, pos, negsuc, neg_ℤ, ◌*ℤ◌, List, [], ◌∷◌, length, Bool, true, false, cond, Option, Some, None, IsSomeAnd, refl, sym, ap, ◌∙◌, subst, arith, get_or, All, option_map, Ordering, Less, Equal, Greater, ◌∣◌, unsigned_abs, ints, unsigned_abs-mul, All-map, mul-dvd-mul_left, dvd_of_mul-dvd-mul_left, one-dvd, mul-one, le-mul_of_pos_right, pos-*ℤ-negsuc, negsuc-*ℤ-negsuc, *ℤ-zero, Term, poly_multiple, Compare, by_order, IsContent, DividesEach, abs_positive, at_multiple, leading-all, greater_term, greatest_from, leading_term, is_negative, is_term_negative, leads_negative}

abbrev pub multiple_term : ℤ → Term → Term
multiple_term k t = (k *ℤ t.0, t.1)

-- the leading term of a multiple
module _ (compare : Compare) (k : ℤ) where
  multiple_of_greater : (o : Ordering) (b t : Term) → by_order o (multiple_term k b) (multiple_term k b) (multiple_term k t) ≡ multiple_term k (by_order o b b t)
  multiple_of_greater Less b t = refl
  multiple_of_greater Equal b t = refl
  multiple_of_greater Greater b t = refl

  multiple_of_greatest : (b : Term) (v : List Term) → greatest_from compare (multiple_term k b) (poly_multiple k v) ≡ multiple_term k (greatest_from compare b v)
  multiple_of_greatest b [] = refl
  multiple_of_greatest b (t ∷ v) =
      ap (λ x. greatest_from compare x (poly_multiple k v)) (multiple_of_greater (compare t.1 b.1) b t)
      ∙ multiple_of_greatest (greater_term compare b t) v

  pub leading-multiple : (v : List Term) → leading_term compare (poly_multiple k v) ≡ option_map (multiple_term k) (leading_term compare v)
  leading-multiple [] = refl
  leading-multiple (t ∷ v) = ap Some (multiple_of_greatest t v)

-- words
module _ (P : List ℕ → Type 0) (k : ℤ) where
  -- the words are the same
  pub quotient_words : (v p : List Term) → poly_multiple k v ≡ p → All (λ t. P t.1) p → All (λ t. P t.1) v
  quotient_words v p is each = at_multiple k (λ (t : Term). P t.1) v (subst (All (λ t. P t.1)) (sym is) each)

-- the content
multiples_divided : (k : ℤ) (d : ℕ) (v : List Term) → DividesEach d v → DividesEach (unsigned_abs k * d) (poly_multiple k v)
multiples_divided k d v each = All-map (λ (t : Term). (unsigned_abs k * d) ∣ unsigned_abs t.0) (λ (t : Term). (k *ℤ t.0, t.1)) v
    (λ i t below. subst (λ n. (unsigned_abs k * d) ∣ n) (sym (unsigned_abs-mul k (get_or v i t).0)) (mul-dvd-mul_left d (unsigned_abs k) (each i t below)))

-- divided by a number as large as the content, the content is 1
pub quotient_content : (k g : ℤ) (v p : List Term) → k ≢ pos 0 → poly_multiple k v ≡ p → IsContent p g → unsigned_abs k ≡ unsigned_abs g → IsContent v (pos 1)
quotient_content k g v p nonzero is content size = record {
  nonnegative = omega (arith, ints);
  divides = λ i t below. one-dvd (unsigned_abs (get_or v i t).0);
  greatest = λ d each.
      let times : DividesEach (unsigned_abs k * d) p =
      subst (DividesEach (unsigned_abs k * d)) is (multiples_divided k d v each) in
      let below : (unsigned_abs k * d) ∣ unsigned_abs g = content.greatest (unsigned_abs k * d) times in
      let shared : (unsigned_abs k * d) ∣ (unsigned_abs k * 1) = subst (λ n. (unsigned_abs k * d) ∣ n) (sym size ∙ sym (mul-one (unsigned_abs k))) below in
      dvd_of_mul-dvd-mul_left d (abs_positive k nonzero) shared;
}

-- what a number is divided by
abbrev pub signed : Bool → ℤ → ℤ
signed negative s = cond negative (neg_ℤ s) s

product : (a b : ℕ) → suc a ≤ suc a * suc b
product a b = le-mul_of_pos_right (suc a) (positive_suc b)
  where
    positive_suc : (n : ℕ) → 0 < suc n
    positive_suc n = omega arith

pub positive_quotient : (s x z : ℤ) → pos 0 <ℤ s → signed (is_negative z) s *ℤ x ≡ z → z ≢ pos 0 → pos 0 <ℤ x
positive_quotient (pos zero) x z positive is nonzero = absurd (omega (arith, ints, positive))
positive_quotient (negsuc a) x z positive is nonzero = absurd (omega (arith, ints, positive))
positive_quotient (pos (suc a)) (pos zero) (pos n) positive is nonzero = absurd (nonzero (sym is ∙ *ℤ-zero (pos (suc a))))
positive_quotient (pos (suc a)) (pos (suc b)) (pos n) positive is nonzero = omega (arith, ints)
positive_quotient (pos (suc a)) (negsuc b) (pos n) positive is nonzero = absurd (omega (arith, ints, pos-*ℤ-negsuc (suc a) b, is, product a b))
positive_quotient (pos (suc a)) (pos zero) (negsuc n) positive is nonzero = absurd (nonzero (sym is ∙ *ℤ-zero (negsuc a)))
positive_quotient (pos (suc a)) (pos (suc b)) (negsuc n) positive is nonzero = omega (arith, ints)
positive_quotient (pos (suc a)) (negsuc b) (negsuc n) positive is nonzero = absurd (omega (arith, ints, negsuc-*ℤ-negsuc a b, is))

none_some : (t : Term) → ◌≡◌ {A = Option Term} None (Some t) → ⊥
none_some t is = cc

same_some : (t u : Term) → ◌≡◌ {A = Option Term} (Some t) (Some u) → t ≡ u
same_some t u is = cc

some_term : (compare : Compare) (p : List Term) → 0 < length p → leading_term compare p ≡ None → ⊥
some_term compare [] some none = omega (arith, some)
some_term compare (t ∷ p) some none = cc

-- the leading term of the quotient is positive
pub leading_positive : (compare : Compare) (s : ℤ) (v p : List Term) → pos 0 <ℤ s → poly_multiple (signed (leads_negative compare p) s) v ≡ p → 0 < length p → All (λ t. t.0 ≢ pos 0) p
    → IsSomeAnd (leading_term compare v) (λ t. pos 0 <ℤ t.0)
leading_positive compare s v p positive is some nonzero = go (leading_term compare v) refl (leading_term compare p) refl
  where
    terms : leading_term compare p ≡ option_map (multiple_term (signed (leads_negative compare p) s)) (leading_term compare v)
    terms = sym (ap (leading_term compare) is) ∙ leading-multiple compare (signed (leads_negative compare p) s) v

    go : (o : Option Term) → leading_term compare v ≡ o → (q : Option Term) → leading_term compare p ≡ q → IsSomeAnd o (λ t. pos 0 <ℤ t.0)
    go None none (Some top) has = absurd (none_some top (sym (ap (option_map (multiple_term (signed (leads_negative compare p) s))) none) ∙ sym terms ∙ has))
    go None none None has = absurd (some_term compare p some has)
    go (Some t) has None none = absurd (none_some (multiple_term (signed (leads_negative compare p) s) t) (sym none ∙ terms ∙ ap (option_map (multiple_term (signed (leads_negative compare p) s))) has))
    go (Some t) has (Some top) is_top =
        let product_is : top ≡ multiple_term (signed (leads_negative compare p) s) t = same_some top _ (sym is_top ∙ terms ∙ ap (option_map (multiple_term (signed (leads_negative compare p) s))) has) in
        let sign : leads_negative compare p ≡ is_negative top.0 = ap is_term_negative is_top in
        positive_quotient s t.0 top.0 positive (sym (ap (λ (u : Term). u.0) product_is ∙ ap (λ b. signed b s *ℤ t.0) sign))
        (leading-all (λ u. u.0 ≢ pos 0) compare p top is_top nonzero)

signed_size : (b : Bool) (s : ℤ) → unsigned_abs (signed b s) ≡ unsigned_abs s
signed_size true s = omega (arith, ints)
signed_size false s = refl

pub signed_nonzero : (b : Bool) (s : ℤ) → pos 0 <ℤ s → signed b s ≢ pos 0
signed_nonzero true s positive is = omega (arith, ints, positive, is)
signed_nonzero false s positive is = omega (arith, ints, positive, is)

-- the quotient by the content is primitive
pub quotient_primitive : (b : Bool) (s : ℤ) (v p : List Term) → pos 0 <ℤ s → IsContent p s → poly_multiple (signed b s) v ≡ p → IsContent v (pos 1)
quotient_primitive b s v p positive content is = quotient_content (signed b s) s v p (signed_nonzero b s positive) is content (signed_size b s)

-- what the content divides its negative divides
pub negative_divides : (s : ℤ) (p : List Term) → DividesEach (unsigned_abs s) p → DividesEach (unsigned_abs (neg_ℤ s)) p
negative_divides s p divides = subst (λ n. DividesEach n p) (sym (signed_size true s)) divides

-- only the content of zero is zero
pub content_positive : (s : ℤ) (p : List Term) → IsContent p s → (s ≡ pos 0 → p ≡ []) → 0 < length p → pos 0 <ℤ s
content_positive (pos zero) p content empty some = absurd (omega (arith, some, ap length (empty refl)))
content_positive (pos (suc n)) p content empty some = omega (arith, ints)
content_positive (negsuc n) p content empty some = absurd (omega (arith, ints, content.nonnegative))
