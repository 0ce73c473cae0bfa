-- The rational normal form of a sum of words is a normal form by the rules.
use Rattle.std.proofs.Common.{◌≡◌, ◌≢◌, ℕ, zero, ℤ, suc, ◌+◌, pos, Bool, true, false, not, ◌&&◌, cond, List, [], ◌∷◌, ◌++◌, length, take, drop, filter, Option, Some, None, MatchOption, refl, sym, ap, ap₂, ◌∙◌, subst, append-nil}
use Rattle.std.proofs.lemmas.Bool.{false_from_ne_true}
use Rattle.std.proofs.lemmas.Bool.Decides.{Decides-int_eq}
use Rattle.std.proofs.lemmas.List.Elements.{All-nil, All-cons, All-head, All-tail}
use Rattle.std.specs.Int.RustNames.{unsigned_abs}
use Rattle.std.specs.List.{All}
use Rattle.std.specs.Ordering.{int_eq}
use Rattle.definitions.specs.Poly.{Word, Term, word_eq, coefficient_of}
use Rattle.word_core.specs.Occurrence.{IsFirstPlace, OccursNowhere}
use Rattle.nc_polynomial.proofs.Distinct.{AreDistinct, distinct-descending, words_listed}
use Rattle.nc_polynomial.proofs.Shapes.{recursion_from_IsDescending}
use Rattle.word_orders.proofs.Orders.{order_from_laws, over_range, less_below}
use Rattle.word_orders.specs.Admissible.{Compare, IsAdmissible}
use Rattle.word_orders.specs.Orders.{Order}
use Rattle.rule_index.proofs.PlacesOfWords.{place_in-tells}
use Rattle.rule_index.specs.Matches.{place_in}
use Rattle.rule_reduce.proofs.Numbers.{rule_at-all}
use Rattle.rule_reduce.proofs.WordsKept.{split_at}
use Rattle.rule_reduce.specs.RuleLists.{IsRule, rule_at}
use Rattle.rule_reduce.specs.declared.rule.Rule.{Rule}
use Rattle.ambiguities.specs.Resolved.{is_below}
use Rattle.confluence.proofs.Led.{Led, HasLed, led_at, led_of, led_at-is}
use Rattle.confluence.proofs.LedRules.{ordered, filtered, is_lower, parted}
use Rattle.confluence.proofs.Meets.{Rules}
use Rattle.confluence.proofs.TermWords.{AllWords}
use Rattle.confluence.proofs.Tests.{below_from_test, test_from_below}
use Rattle.normal_forms.specs.Forms.{Form, with_words}
use Rattle.normal_forms.specs.RationalForms.{IsGrounded, grounded, rule_or, first_rule, other_terms, form_where, lower_forms, form_by, word_form, rational_normal_form}
use Rattle.normal_forms.proofs.Field.{Field, numbers_of}
use Rattle.normal_forms.proofs.FieldLaws.{times_one, minus_times}
use Rattle.normal_forms.proofs.Forms.{Each, scaled}
use Rattle.normal_forms.proofs.Congruence.{lifted, Irreducible}
use Rattle.normal_forms.proofs.Normal.{Normal, done, keep, step, normal-append, normal_scaled, tail_less}

-- the first rule whose leading word occurs in the word, with its number and its place
pub record IsFound (rules : List Rule) (word : Word) (found : Rule × ℕ) : Type 0 where
  pub number : ℕ
  pub numbered : rule_at rules number ≡ Some found.0
  pub splits : word ≡ take found.1 word ++ (found.0.lead ++ drop (found.1 + length found.0.lead) word)

-- no leading word occurs in it
abbrev pub HasNoLead : List Rule → Word → Type 0
HasNoLead rules word = All (λ g. OccursNowhere word g.lead) rules

pub first_rule-tells : (rules : List Rule) (word : Word) → MatchOption (first_rule rules word) (HasNoLead rules word) (IsFound rules word)
first_rule-tells [] word = All-nil (λ g. OccursNowhere word g.lead)
first_rule-tells (g ∷ rules) word = go (place_in word g.lead) (place_in-tells word g.lead) (first_rule rules word) (first_rule-tells rules word)
  where
    go : (p : Option ℕ) → MatchOption p (OccursNowhere word g.lead) (IsFirstPlace word g.lead) → (later : Option (Rule × ℕ))
        → MatchOption later (HasNoLead rules word) (IsFound rules word)
        → MatchOption (rule_or g p later) (HasNoLead (g ∷ rules) word) (IsFound (g ∷ rules) word)
    go (Some place) at later rest = record { number = 1; numbered = refl; splits = split_at word g.lead place at.occurs }
    go None nowhere None rest = All-cons (λ f. OccursNowhere word f.lead) g rules nowhere rest
    go None nowhere (Some f) rest = record { number = suc rest.number; numbered = up rest.number rest.numbered; splits = rest.splits }
      where
        up : (n : ℕ) → rule_at rules n ≡ Some f.0 → rule_at (g ∷ rules) (suc n) ≡ Some f.0
        up zero e = absurd (cc)
        up (suc n) e = e

-- the other terms of a rule are those below its leading word
same_kept : (p : List Term) (one other : Word → Bool) → All (λ t. one t.1 ≡ other t.1) p → filter (λ t. one t.1) p ≡ filtered other p
same_kept [] one other each = refl
same_kept (t ∷ p) one other each =
    ap₂ (λ b rest. cond b (t ∷ rest) rest) (All-head (λ (u : Term). one u.1 ≡ other u.1) t p each) (same_kept p one other (All-tail (λ (u : Term). one u.1 ≡ other u.1) t p each))

pub other_terms-parted : {letters : ℕ} {compare : Compare} {g : Rule} → IsRule letters compare g → other_terms g ≡ (parted (led_of g)).tail
other_terms-parted {g} is = same_kept g.poly.terms (λ w. not (word_eq g.lead w)) (is_lower (led_of g))
    (words_listed Same g.poly.terms distinct g.poly.canonical.shaped.nonzero each)
  where
    Same : Word → Type 0
    Same w = not (word_eq g.lead w) ≡ is_lower (led_of g) w

    distinct : AreDistinct g.poly.terms
    distinct = distinct-descending g.poly.terms (recursion_from_IsDescending g.poly.terms g.poly.canonical.shaped.descending)

    each : (w : Word) → coefficient_of g.poly.terms w ≢ pos 0 → Same w
    each w some = (elim (not (word_eq g.lead w)) as (λ b. b ≡ (b && true)) [ true ↦ refl | false ↦ refl ])
        ∙ ap (λ b. not (word_eq g.lead w) && not b)
        (sym (false_from_ne_true (int_eq (coefficient_of g.poly.terms w) (pos 0)) (λ e. some ((Decides-int_eq (coefficient_of g.poly.terms w) (pos 0)).0 e))))

module _ {K : Type 0} (k : Field K) (letters : ℕ) (compare : Compare) (rank : List ℕ → List ℕ) (laws : IsAdmissible letters compare rank) (rules : List Rule)
    (are : All (IsRule letters compare) rules) where
  abbrev o : Order
  o = order_from_laws letters compare rank laws

  abbrev g : Rules o
  g = ordered letters compare rank laws rules are

  abbrev below : Word → Word → Bool
  below = is_below letters compare

  pub no_lead : {word : Word} → HasNoLead rules word → Irreducible k o g word
  no_lead {word} none = record {
    at = λ i l r (f, numbered) e. rule_at-all (λ f. OccursNowhere word f.lead) rules i f numbered none (length l)
        (record { before = l; after = r; splits = e ∙ ap (λ x. l ++ (x.lead ++ r)) (led_at-is rules i f numbered); at_place = refl });
  }

  -- what a term of a rule is replaced by, written both ways
  factor : (q : ℕ) (c : ℤ) → k.times (k.times (k.minus (k.int c)) (k.part q)) k.one ≡ k.times (k.minus (k.times k.one (k.part q))) (k.int c)
  factor q c = times_one k _ ∙ minus_times k (k.int c) (k.part q) ∙ ap k.minus (k.times_comm (k.int c) (k.part q))
      ∙ sym (ap (λ x. k.times (k.minus x) (k.int c)) (k.one_times (k.part q)) ∙ minus_times k (k.part q) (k.int c))

  -- the form of a word that is below
  taken : {p : Form K} (b : Bool) → b ≡ true → (form : b ≡ true → Form K) → ((e : b ≡ true) → Normal k o g p (form e))
      → Normal k o g p (form_where (numbers_of k) below rules b form)
  taken true e form each = each refl
  taken false e form each = absurd (cc)

  -- at the place of a rule, the sum over its other terms
  module _ (M : Word) (form : (L : Word) → below L M ≡ true → Form K) (each : (L : Word) (e : below L M ≡ true) → Normal k o g ((k.one, L) ∷ []) (form L e))
      (q : ℕ) (l r : Word) where
    lower_normal : (p : List Term) → AllWords (λ u. o.Less (l ++ (u ++ r)) M) p
        → Normal k o g (with_words (λ u. l ++ (u ++ r)) (lifted k (k.minus (k.times k.one (k.part q))) p))
        (lower_forms (numbers_of k) below rules M form q l r p)
    lower_normal [] less = done
    lower_normal (t ∷ p) less = normal-append k o g
        (subst (λ c. Normal k o g ((c, L) ∷ []) (scaled k d (form_where (numbers_of k) below rules (below L M) (form L)))) (factor q t.0)
        (normal_scaled k o g d
        (taken (below L M) (test_from_below letters compare L M (less_below letters compare rank laws L M less.0)) (form L) (each L))))
        (lower_normal p less.1)
      where
        L : Word
        L = l ++ (t.1 ++ r)

        d : K
        d = k.times (k.minus (k.int t.0)) (k.part q)

  pub word_normal : {M : Word} (a : IsGrounded below M) → o.Range M → Normal k o g ((k.one, M) ∷ []) (word_form (numbers_of k) below rules M a)
  word_normal (grounded M down) range = go (first_rule rules M) (first_rule-tells rules M) (λ L e. word_normal (down L e))
    where
      form : (L : Word) → below L M ≡ true → Form K
      form L e = word_form (numbers_of k) below rules L (down L e)

      go : (f : Option (Rule × ℕ)) → MatchOption f (HasNoLead rules M) (IsFound rules M)
          → ((L : Word) (e : below L M ≡ true) → o.Range L → Normal k o g ((k.one, L) ∷ []) (form L e))
          → Normal k o g ((k.one, M) ∷ []) (form_by (numbers_of k) below rules M form f)
      go None none each = keep k.one M [] [] (no_lead none) done
      go (Some f) found each = subst (Normal k o g ((k.one, M) ∷ [])) (append-nil _)
          (step k.one M found.number l r _ [] [] has splits (subst Replaced (sym is) at_terms) done)
        where
          l : Word
          l = take f.1 M

          r : Word
          r = drop (f.1 + length f.0.lead) M

          has : HasLed rules found.number
          has = (f.0, found.numbered)

          is : led_at rules found.number ≡ led_of f.0
          is = led_at-is rules found.number f.0 found.numbered

          splits : M ≡ l ++ ((g.rule found.number).lead ++ r)
          splits = found.splits ∙ ap (λ x. l ++ (x.lead ++ r)) (sym is)

          forms : List Term → Form K
          forms = lower_forms (numbers_of k) below rules M form (unsigned_abs f.0.leading) l r

          Replaced : Led → Type 0
          Replaced x = Normal k o g (with_words (λ u. l ++ (u ++ r)) (lifted k (k.minus (k.times k.one (k.part x.leading))) (parted x).tail))
              (forms (other_terms f.0))

          less : AllWords (λ u. o.Less (l ++ (u ++ r)) M) (parted (led_of f.0)).tail
          less = subst (λ x. AllWords (λ u. o.Less (l ++ (u ++ r)) M) (parted x).tail) is (tail_less k o g l r has splits range)

          at_terms : Replaced (led_of f.0)
          at_terms = subst
              (λ p. Normal k o g
              (with_words (λ u. l ++ (u ++ r)) (lifted k (k.minus (k.times k.one (k.part (unsigned_abs f.0.leading)))) (parted (led_of f.0)).tail)) (forms p))
              (sym (other_terms-parted (rule_at-all (IsRule letters compare) rules found.number f.0 found.numbered are)))
              (lower_normal M form (λ L e. each L e (over_range letters compare rank laws L (below_from_test letters compare L M e).left))
              (unsigned_abs f.0.leading) l r (parted (led_of f.0)).tail less)

  pub normal_form_is : (all : (w : Word) → IsGrounded below w) (p : Form K) → Each o.Range p
      → Normal k o g p (rational_normal_form (numbers_of k) below rules all p)
  normal_form_is all [] range = done
  normal_form_is all (t ∷ p) range = normal-append k o g
      (subst (λ c. Normal k o g ((c, t.1) ∷ []) (scaled k t.0 (word_form (numbers_of k) below rules t.1 (all t.1)))) (times_one k t.0)
      (normal_scaled k o g t.0 (word_normal (all t.1) range.0))) (normal_form_is all p range.1)
