-- The walk through a sorted table from one place of a word on: which ambiguities it meets.
use Rattle.closed_checker.proofs.Prelude.{◌≡◌, ◌≢◌, ◌⊎◌, inl, inr, ℕ, suc, ◌+◌, ◌<◌, ◌≤◌, Bool, true, false, not, nat_eq, List, [], ◌∷◌, ◌++◌, length, take, drop, get_or, filter, refl, sym, ap, ◌∙◌, subst, arith, Decides, All, AllPairs, Contains, cases_lt, Decides-eqb, eqb_tells, take-append-drop, length-take-le, length-drop, length-append, take-take, take_at, drop_at, get_or-take, get_or_default, All-contains, OccursAt, OverlapsAt, OccursAt-length, drop-OccursAt, Kind, Overlap, Inclusion, Ambiguity, MeetsAs, ListsExactly, ambiguity_at, overlaps_within, Lead, StandsBefore, rank_at, IsAdded, MayMeet, IsOfOne, IsWith, IsOfFirst}
use Rattle.closed_checker.proofs.Fronts.{BeginsWith, begins-more, begins-itself, begins-shorter, ended-is, rank_at-itself, rank_at-longer, longer-by_rank}
use Rattle.closed_checker.proofs.Picked.{exactly-filter, contains-more, added-append, added-same, added-none, added-one}

-- The words of a table that begin with some letters, and have such a rank behind them.
pub record IsGoing (table : List Lead) (front : List ℕ) (Q : ℕ → Type 0) (l : Lead) : Type 0 where
  pub among : Contains table l
  pub begins : BeginsWith front l.letters
  pub rank : Q (rank_at (length front) l.letters)

-- those that are these letters, and the longer ones
abbrev pub IsEnded : List Lead → List ℕ → Lead → Type 0
IsEnded table front = IsGoing table front (λ n. n ≡ 0)

abbrev pub IsLonger : List Lead → List ℕ → Lead → Type 0
IsLonger table front = IsGoing table front (λ n. 0 < n)

-- The words meet at the place as the ambiguity says.
pub record IsMet (table : List Lead) (first : Lead) (place : ℕ) (kind : Kind) (a : Ambiguity) : Type 0 where
  pub second : Lead
  pub among : Contains table second
  pub meets : MeetsAs kind first.number second.number first.letters second.letters place
  pub is : ambiguity_at first.number second.number kind place ≡ a

-- the inclusions at a place of words with at most so many letters
pub record IsIncluded (table : List Lead) (first : Lead) (place most : ℕ) (a : Ambiguity) : Type 0 where
  pub met : IsMet table first place Inclusion a
  pub short : length met.second.letters ≤ most

-- a rule has one word in the table
module _ (table : List Lead) (sorted : AllPairs StandsBefore table) where
  pub same_word : (l m : Lead) → Contains table l → Contains table m → l.number ≡ m.number → l ≡ m
  same_word l m one other number = go (cases_lt one.0 other.0) (cases_lt other.0 one.0)
    where
      at_other : get_or table other.0 l ≡ m
      at_other = get_or_default table other.0 l m other.1 ∙ other.2

      go : (one.0 < other.0) ⊎ (other.0 ≤ one.0) → (other.0 < one.0) ⊎ (one.0 ≤ other.0) → l ≡ m
      go (inl less) q =
          absurd ((sorted one.0 other.0 l less other.1).1 (ap (λ (x : Lead). x.number) one.2 ∙ number ∙ sym (ap (λ (x : Lead). x.number) at_other)))
      go (inr p) (inl more) =
          absurd ((sorted other.0 one.0 l more one.1).1 (ap (λ (x : Lead). x.number) at_other ∙ sym number ∙ sym (ap (λ (x : Lead). x.number) one.2)))
      go (inr p) (inr q) = let level : one.0 ≡ other.0 = omega (arith, p, q) in sym one.2 ∙ ap (λ k. get_or table k l) level ∙ at_other

-- those of the first words, and of one word more, where an ambiguity tells the number of its word
module _ (leads : List Lead) (sorted : AllPairs StandsBefore leads) (P : Lead → Ambiguity → Type 0) (number_of : Ambiguity → ℕ) (numbered : (l : Lead) (a : Ambiguity) → P l a → l.number ≡ number_of a) where
  abbrev OfThe : ℕ → Ambiguity → Type 0
  OfThe n = IsOfOne (take n leads) P

  pub one-more : (n : ℕ) (l : Lead) (old mid new : List Ambiguity) → n < length leads → get_or leads n l ≡ l → IsAdded (OfThe n) old mid → IsAdded (P l) mid new → IsAdded (OfThe (n + 1)) old new
  one-more n l old mid new inside here before more =
      added-append (OfThe n) (P l) (OfThe (n + 1)) old mid new before more across (λ a. (λ of. split a of ((contains-more leads n l of.lead inside).0 of.among), join a))
    where
      across : (a b : Ambiguity) → OfThe n a → P l b → a ≢ b
      across a b of met alike =
          let k = of.among.0 in
          let low : k < n = omega (arith, of.among.1, length-take-le n leads (omega (arith, inside))) in
          let at_k : get_or leads k of.lead ≡ of.lead = sym (get_or-take n leads k of.lead low) ∙ of.among.2 in
          let at_n : get_or leads n of.lead ≡ l = get_or_default leads n of.lead l inside ∙ here in
          let numbers : of.lead.number ≡ l.number = numbered of.lead a of.meeting ∙ ap number_of alike ∙ sym (numbered l b met) in
          (sorted k n of.lead low inside).1 (ap (λ (x : Lead). x.number) at_k ∙ numbers ∙ sym (ap (λ (x : Lead). x.number) at_n))

      split : (a : Ambiguity) (of : OfThe (n + 1) a) → Contains (take n leads) of.lead ⊎ (get_or leads n l ≡ of.lead) → OfThe n a ⊎ P l a
      split a of (inl among) = inl (record { lead = of.lead; among = among; meeting = of.meeting })
      split a of (inr last) = inr (subst (λ (x : Lead). P x a) (sym (sym here ∙ last)) of.meeting)

      join : (a : Ambiguity) → OfThe n a ⊎ P l a → OfThe (n + 1) a
      join a (inl of) = record { lead = of.lead; among = (contains-more leads n l of.lead inside).1 (inl of.among); meeting = of.meeting }
      join a (inr met) = record { lead = l; among = (contains-more leads n l l inside).1 (inr here); meeting = met }

-- those with the words of a part
module _ (seconds : List Lead) (sorted : AllPairs StandsBefore seconds) (i : ℕ) (kind : Kind) (place : ℕ) where
  module _ (n : ℕ) (l : Lead) (inside : n < length seconds) (here : get_or seconds n l ≡ l) (old mid : List Ambiguity) (before : IsAdded (IsWith (take n seconds) i kind place) old mid) where
    abbrev Meets : Lead → Ambiguity → Type 0
    Meets m a = MayMeet kind i m.number × (ambiguity_at i m.number kind place ≡ a)

    with-more : (new : List Ambiguity) → IsAdded (Meets l) mid new → IsAdded (IsWith (take (n + 1) seconds) i kind place) old new
    with-more new = one-more seconds sorted Meets (λ (a : Ambiguity). a.j) (λ m a met. ap (λ (c : Ambiguity). c.j) met.1) n l old mid new inside here before

    pub with-met : MayMeet kind i l.number → IsAdded (IsWith (take (n + 1) seconds) i kind place) old (mid ++ ambiguity_at i l.number kind place ∷ [])
    with-met may_meet =
        let x = ambiguity_at i l.number kind place in
        with-more (mid ++ x ∷ []) (added-same (λ a. x ≡ a) (Meets l) mid (mid ++ x ∷ []) (λ a. (λ met. met.1, λ is. (may_meet, is))) (added-one x mid))

    pub with-apart : (MayMeet kind i l.number → ⊥) → IsAdded (IsWith (take (n + 1) seconds) i kind place) old mid
    with-apart apart = with-more mid (added-none (Meets l) mid (λ a met. apart met.0))

-- the parts of a table
pub some_rank : (n : ℕ) → Decides (not (nat_eq n 0)) (0 < n)
some_rank n = go (eqb_tells n 0)
  where
    go : ((nat_eq n 0 ≡ true) × (n ≡ 0)) ⊎ ((nat_eq n 0 ≡ false) × (n ≢ 0)) → Decides (not (nat_eq n 0)) (0 < n)
    go (inl none) = (λ e. let is = none.0 in absurd (cc), λ less. absurd (omega (arith, less, none.1)))
    go (inr some) = (λ e. omega (arith, some.1), λ less. ap not some.0)

module _ (table : List Lead) (front : List ℕ) (depth : ℕ) (is_depth : length front ≡ depth) (leads : List Lead) where
  pub walk-narrow : (letter : ℕ) → ListsExactly StandsBefore (IsLonger table front) leads
      → ListsExactly StandsBefore (IsGoing table (front ++ letter ∷ []) (λ n. Unit {0})) (filter (λ (l : Lead). nat_eq (rank_at depth l.letters) (suc letter)) leads)
  walk-narrow letter exact =
      exactly-filter (λ (l : Lead). nat_eq (rank_at depth l.letters) (suc letter)) StandsBefore (IsLonger table front)
      (λ (l : Lead). rank_at depth l.letters ≡ suc letter)
      (IsGoing table (front ++ letter ∷ []) (λ n. Unit {0})) leads (λ (l : Lead). Decides-eqb (rank_at depth l.letters) (suc letter)) (λ l. (into l, back l)) exact
    where
      into : (l : Lead) → IsGoing table (front ++ letter ∷ []) (λ n. Unit {0}) l → IsLonger table front l × (rank_at depth l.letters ≡ suc letter)
      into l going =
          let both = (begins-more front letter l.letters).0 going.begins in
          (record { among = going.among; begins = both.0; rank = omega (arith, both.1) }, ap (λ n. rank_at n l.letters) (sym is_depth) ∙ both.1)

      back : (l : Lead) → IsLonger table front l × (rank_at depth l.letters ≡ suc letter) → IsGoing table (front ++ letter ∷ []) (λ n. Unit {0}) l
      back l both =
          record { among = both.0.among; begins = (begins-more front letter l.letters).1 (both.0.begins, ap (λ n. rank_at n l.letters) is_depth ∙ both.1); rank = tt }

  pub walk-part : (p : ℕ → Bool) (Q : ℕ → Type 0) → ((n : ℕ) → Decides (p n) (Q n)) → ListsExactly StandsBefore (IsGoing table front (λ n. Unit {0})) leads
      → ListsExactly StandsBefore (IsGoing table front Q) (filter (λ (l : Lead). p (rank_at depth l.letters)) leads)
  walk-part p Q tells exact =
      exactly-filter (λ (l : Lead). p (rank_at depth l.letters)) StandsBefore (IsGoing table front (λ n. Unit {0})) (λ (l : Lead). Q (rank_at depth l.letters))
      (IsGoing table front Q) leads (λ (l : Lead). tells (rank_at depth l.letters))
      (λ l. (
        λ is. (record { among = is.among; begins = is.begins; rank = tt }, subst (λ n. Q (rank_at n l.letters)) is_depth is.rank),
        λ both. record { among = both.0.among; begins = both.0.begins; rank = subst (λ n. Q (rank_at n l.letters)) (sym is_depth) both.1 },
      )) exact

-- from one place of a word on
module _ (table : List Lead) (sorted : AllPairs StandsBefore table) (nonempty : All (λ (l : Lead). 0 < length l.letters) table) where
  module _ (first : Lead) (place : ℕ) (inside : place < length first.letters) where
    abbrev rest : List ℕ
    rest = drop place first.letters

    abbrev AtPlace : Ambiguity → Type 0
    AtPlace = IsOfFirst table first (λ p. p ≡ place)

    rest-length : length rest + place ≡ length first.letters
    rest-length = omega (arith, inside, length-drop place first.letters)

    -- words
    occurs_front : (n : ℕ) → OccursAt first.letters (take n rest) place
    occurs_front n = record {
      before = take place first.letters;
      after = drop n rest;
      splits = sym (take-append-drop place first.letters) ∙ ap (λ w. take place first.letters ++ w) (sym (take-append-drop n rest));
      at_place = length-take-le place first.letters (omega (arith, inside));
    }

    front-of : (w : List ℕ) → OccursAt first.letters w place → take (length w) rest ≡ w
    front-of w at = ap (take (length w)) (drop-OccursAt first.letters w place at) ∙ take_at w at.after (length w) refl

    overlap_begins : (w : List ℕ) → OverlapsAt first.letters w place → BeginsWith rest w × (length rest < length w)
    overlap_begins w at =
        let shared : rest ≡ at.shared = ap (drop place) at.left_splits ∙ drop_at at.before at.shared place at.at_place in (
          ap (λ v. take (length rest) v) at.right_splits ∙ take_at at.shared at.after (length rest) (sym (ap length shared)) ∙ sym shared,
          omega (arith, ap length shared, ap length at.right_splits, length-append at.shared at.after, at.after_letters),
        )

    overlap_from : (w : List ℕ) → 0 < place → BeginsWith rest w → length rest < length w → OverlapsAt first.letters w place
    overlap_from w some begins longer = record {
      before = take place first.letters;
      shared = rest;
      after = drop (length rest) w;
      left_splits = sym (take-append-drop place first.letters);
      right_splits = sym (take-append-drop (length rest) w) ∙ ap (λ v. v ++ drop (length rest) w) begins;
      at_place = length-take-le place first.letters (omega (arith, inside));
      before_letters = omega (arith, some, length-take-le place first.letters (omega (arith, inside)));
      shared_letters = omega (arith, rest-length, inside);
      after_letters = omega (arith, longer, length-drop (length rest) w);
    }

    -- one letter more
    module _ (depth : ℕ) (further : depth < length rest) (ended : List Lead)
        (exact : ListsExactly StandsBefore (IsEnded table (take (depth + 1) rest)) ended) where
      front-length : length (take (depth + 1) rest) ≡ depth + 1
      front-length = length-take-le (depth + 1) rest (omega (arith, further))

      ended-letters : (l : Lead) → Contains ended l → l.letters ≡ take (depth + 1) rest
      ended-letters l at = let is = (exact.members l).0 at in ended-is (take (depth + 1) rest) l.letters is.begins is.rank

      pub included-more : (old mid new : List Ambiguity) → IsAdded (IsIncluded table first place depth) old mid
          → IsAdded (IsWith ended first.number Inclusion place) mid new
          → IsAdded (IsIncluded table first place (depth + 1)) old new
      included-more old mid new before more =
          added-append (IsIncluded table first place depth) (IsWith ended first.number Inclusion place) (IsIncluded table first place (depth + 1)) old mid
          new before more across
          (λ a. (λ included. split a included (cases_lt depth (length included.met.second.letters)), join a))
        where
          across : (a b : Ambiguity) → IsIncluded table first place depth a → IsWith ended first.number Inclusion place b → a ≢ b
          across a b included with alike =
              let number : included.met.second.number ≡ with.lead.number = ap (λ (c : Ambiguity). c.j) (included.met.is ∙ alike ∙ sym with.meeting.1) in
              let same : included.met.second ≡ with.lead =
              same_word table sorted included.met.second with.lead included.met.among ((exact.members with.lead).0 with.among).among number in
              omega (arith, included.short, ap (λ (l : Lead). length l.letters) same, ap length (ended-letters with.lead with.among), front-length)

          split : (a : Ambiguity) (included : IsIncluded table first place (depth + 1) a)
              → (depth < length included.met.second.letters) ⊎ (length included.met.second.letters ≤ depth)
              → IsIncluded table first place depth a ⊎ IsWith ended first.number Inclusion place a
          split a included (inr short) = inl (record { met = included.met; short = short })
          split a included (inl long) =
              let m = included.met in
              let w = m.second.letters in
              let whole : length w ≡ depth + 1 = omega (arith, long, included.short) in
              let front : take (depth + 1) rest ≡ w = ap (λ n. take n rest) (sym whole) ∙ front-of w m.meets.1 in
              inr (record {
                lead = m.second;
                among = (exact.members m.second).1 (record {
                  among = m.among;
                  begins = subst (λ f. BeginsWith f w) (sym front) (begins-itself w);
                  rank = rank_at-itself w (length (take (depth + 1) rest)) (sym (ap length front));
                });
                meeting = (m.meets.0, m.is);
              })

          join : (a : Ambiguity) → IsIncluded table first place depth a ⊎ IsWith ended first.number Inclusion place a
              → IsIncluded table first place (depth + 1) a
          join a (inl included) = record { met = included.met; short = omega (arith, included.short) }
          join a (inr with) =
              let letters = ended-letters with.lead with.among in
              record {
                met = record {
                  second = with.lead;
                  among = ((exact.members with.lead).0 with.among).among;
                  meets = (with.meeting.0, subst (λ w. OccursAt first.letters w place) (sym letters) (occurs_front (depth + 1)));
                  is = with.meeting.1;
                };
                short = omega (arith, ap length letters, front-length);
              }

    met-of : (a : Ambiguity) → AtPlace a → IsMet table first place a.kind a
    met-of a of =
        let is : ambiguity_at first.number of.second.number a.kind place ≡ a =
        λ n. record { i = of.first_numbered n; j = of.second_numbered n; kind = a.kind; place = sym of.at_place n } in
        record {
          second = of.second;
          among = of.among;
          meets = subst (λ (b : Ambiguity). MeetsAs b.kind b.i b.j first.letters of.second.letters b.place) (sym is) of.meets;
          is = is;
        }

    of-met : (kind : Kind) (a : Ambiguity) → IsMet table first place kind a → AtPlace a
    of-met kind a met = record {
      second = met.second;
      among = met.among;
      first_numbered = ap (λ (b : Ambiguity). b.i) met.is;
      second_numbered = ap (λ (b : Ambiguity). b.j) met.is;
      meets = subst (λ (b : Ambiguity). MeetsAs b.kind b.i b.j first.letters met.second.letters b.place) met.is met.meets;
      at_place = sym (ap (λ (b : Ambiguity). b.place) met.is);
    }

    -- where no word overlaps and no longer one is included
    only-included : (most : ℕ) (old new : List Ambiguity) → ((l : Lead) → Contains table l → OccursAt first.letters l.letters place → length l.letters ≤ most)
        → ((l : Lead) → Contains table l → OverlapsAt first.letters l.letters place → ⊥) → IsAdded (IsIncluded table first place most) old new
        → IsAdded AtPlace old new
    only-included most old new short none added =
        added-same (IsIncluded table first place most) AtPlace old new (λ a. (λ of. by_kind a a.kind (met-of a of), λ included. of-met Inclusion a included.met)) added
      where
        by_kind : (a : Ambiguity) (kind : Kind) → IsMet table first place kind a → IsIncluded table first place most a
        by_kind a Overlap met = absurd (none met.second met.among met.meets)
        by_kind a Inclusion met = record { met = met; short = short met.second met.among met.meets.1 }

    occurs_short : (l : Lead) → OccursAt first.letters l.letters place → length l.letters ≤ length rest
    occurs_short l at = omega (arith, OccursAt-length first.letters l.letters place at, rest-length)

    -- at the first place nothing overlaps
    pub at_first : (old new : List Ambiguity) → place ≡ 0 → IsAdded (IsIncluded table first place (length rest)) old new → IsAdded AtPlace old new
    at_first old new none =
        only-included (length rest) old new (λ l among at. occurs_short l at) (λ l among at. omega (arith, none, at.at_place, at.before_letters))

    -- where no word goes on as this one does
    pub cut_off : (depth : ℕ) (old new : List Ambiguity) → depth ≤ length rest → ListsExactly StandsBefore (IsLonger table (take depth rest)) []
        → IsAdded (IsIncluded table first place depth) old new → IsAdded AtPlace old new
    cut_off depth old new within nothing = only-included depth old new (λ l among at. included l among at (cases_lt depth (length l.letters))) overlapping
      where
        longer : (l : Lead) → Contains table l → BeginsWith (take depth rest) l.letters → depth < length l.letters → ⊥
        longer l among begins long =
            let at =
            (nothing.members l).1 (record { among = among; begins = begins; rank = rank_at-longer (length (take depth rest)) l.letters (omega (arith, long, length-take-le depth rest within)) }) in
            omega (arith, at.1)

        included : (l : Lead) → Contains table l → OccursAt first.letters l.letters place → (depth < length l.letters) ⊎ (length l.letters ≤ depth)
            → length l.letters ≤ depth
        included l among at (inr short) = short
        included l among at (inl long) =
            let whole : take depth (take (length l.letters) rest) ≡ take depth rest = take-take depth (length l.letters) rest (omega (arith, long)) in
            let begins : BeginsWith (take depth l.letters) l.letters =
            begins-shorter depth l.letters l.letters (omega (arith, long)) (begins-itself l.letters) in
            absurd (longer l among (subst (λ f. BeginsWith f l.letters) (ap (take depth) (sym (front-of l.letters at)) ∙ whole) begins) long)

        overlapping : (l : Lead) → Contains table l → OverlapsAt first.letters l.letters place → ⊥
        overlapping l among at =
            let both = overlap_begins l.letters at in
            longer l among (begins-shorter depth rest l.letters within both.0) (omega (arith, both.1, within))

    -- at the word's end, what is longer overlaps
    pub at_end : (longer : List Lead) (old mid new : List Ambiguity) → 0 < place → ListsExactly StandsBefore (IsLonger table rest) longer
        → IsAdded (IsIncluded table first place (length rest)) old mid → IsAdded (IsWith longer first.number Overlap place) mid new → IsAdded AtPlace old new
    at_end longer old mid new some exact before more =
        added-append (IsIncluded table first place (length rest)) (IsWith longer first.number Overlap place) AtPlace old mid new before more across
        (λ a. (λ of. by_kind a a.kind (met-of a of), join a))
      where
        kinds_differ : Inclusion ≡ Overlap → ⊥
        kinds_differ e = cc

        across : (a b : Ambiguity) → IsIncluded table first place (length rest) a → IsWith longer first.number Overlap place b → a ≢ b
        across a b included with alike = kinds_differ (ap (λ (c : Ambiguity). c.kind) (included.met.is ∙ alike ∙ sym with.meeting.1))

        by_kind : (a : Ambiguity) (kind : Kind) → IsMet table first place kind a → IsIncluded table first place (length rest) a ⊎ IsWith longer first.number Overlap place a
        by_kind a Inclusion met = inl (record { met = met; short = occurs_short met.second met.meets.1 })
        by_kind a Overlap met =
            let both = overlap_begins met.second.letters met.meets in
            inr (record {
              lead = met.second;
              among =
                  (exact.members met.second).1 (record { among = met.among; begins = both.0; rank = rank_at-longer (length rest) met.second.letters both.1 });
              meeting = (tt, met.is);
            })

        join : (a : Ambiguity) → IsIncluded table first place (length rest) a ⊎ IsWith longer first.number Overlap place a → AtPlace a
        join a (inl included) = of-met Inclusion a included.met
        join a (inr with) =
            let is = (exact.members with.lead).0 with.among in
            of-met Overlap a (record {
              second = with.lead;
              among = is.among;
              meets = overlap_from with.lead.letters some is.begins (longer-by_rank (length rest) with.lead.letters is.rank);
              is = with.meeting.1;
            })

-- all places of a word, and all words
module _ (table : List Lead) where
  module _ (first : Lead) where
    abbrev Below : ℕ → Ambiguity → Type 0
    Below n = IsOfFirst table first (λ p. p < n)

    abbrev AtThat : ℕ → Ambiguity → Type 0
    AtThat n = IsOfFirst table first (λ p. p ≡ n)

    moved : (P Q : ℕ → Type 0) (a : Ambiguity) (of : IsOfFirst table first P a) → Q a.place → IsOfFirst table first Q a
    moved P Q a of at =
        record { second = of.second; among = of.among; first_numbered = of.first_numbered; second_numbered = of.second_numbered; meets = of.meets; at_place = at }

    pub places-more : (n : ℕ) (old mid new : List Ambiguity) → IsAdded (Below n) old mid → IsAdded (AtThat n) mid new → IsAdded (Below (n + 1)) old new
    places-more n old mid new before more =
        added-append (Below n) (AtThat n) (Below (n + 1)) old mid new before more
        (λ a b below at alike. omega (arith, below.at_place, at.at_place, ap (λ (c : Ambiguity). c.place) alike))
        (λ a. (λ below. split a below (cases_lt a.place n), join a))
      where
        split : (a : Ambiguity) → Below (n + 1) a → (a.place < n) ⊎ (n ≤ a.place) → Below n a ⊎ AtThat n a
        split a below (inl less) = inl (moved (λ p. p < n + 1) (λ p. p < n) a below less)
        split a below (inr past) = inr (moved (λ p. p < n + 1) (λ p. p ≡ n) a below (omega (arith, past, below.at_place)))

        join : (a : Ambiguity) → Below n a ⊎ AtThat n a → Below (n + 1) a
        join a (inl below) = moved (λ p. p < n) (λ p. p < n + 1) a below (omega (arith, below.at_place))
        join a (inr at) = moved (λ p. p ≡ n) (λ p. p < n + 1) a at (omega (arith, at.at_place))

    pub places-all : (nonempty : All (λ (l : Lead). 0 < length l.letters) table) (n : ℕ) (old new : List Ambiguity) → length first.letters ≤ n
        → IsAdded (Below n) old new
        → IsAdded (IsOfFirst table first (λ p. Unit {0})) old new
    places-all nonempty n old new past added =
        added-same (Below n) (IsOfFirst table first (λ p. Unit {0})) old new
        (λ a. (λ of. moved (λ p. Unit {0}) (λ p. p < n) a of (within a of a.kind of.meets), λ below. moved (λ p. p < n) (λ p. Unit {0}) a below tt)) added
      where
        within : (a : Ambiguity) (of : IsOfFirst table first (λ p. Unit {0}) a) (kind : Kind) → MeetsAs kind a.i a.j first.letters of.second.letters a.place
            → a.place < n
        within a of Overlap meets = omega (arith, past, overlaps_within first.letters of.second.letters a.place meets)
        within a of Inclusion meets =
            omega (
              arith,
              past,
              OccursAt-length first.letters of.second.letters a.place meets.1,
              All-contains (λ (l : Lead). 0 < length l.letters) table
                  of.second nonempty of.among,
            )
