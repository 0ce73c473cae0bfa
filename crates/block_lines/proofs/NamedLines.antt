-- Lines up to the end of a block, no two of which have the same name, are read.
use Rattle.block_lines.proofs.Prelude.{arith, ◌≡◌, ◌++◌, ◌∷◌, [], ℕ, false, List, Option, Some, Result, Ok, Err, refl, sym, ap, ap₂, ◌∙◌, subst, map, append_assoc, append-nil, All, AllZip, list_any, bytes_eq, map-append, All-nil, All-head, All-tail, All-push, All-map, All-weaker, same_Some, Flaw, BadLine, Line, is_end, before, Meets, reads, passes, then_meets, meets-weaker, Begins, IsStopped, misfit, everywhere, AllZip-unique, zip_push, LineKind, Section, named_lines, SectionSteps, named_steps, bytes_eq-Decides}
use Rattle.block_text.proofs.Owed as owed
use Rattle.block_lines.proofs.Outcomes.{Told, gives, refuses, told_given, told_refused, then_told, result_told, asked_told, test_told}
use Rattle.block_lines.proofs.Names.{AreDistinct, distinct_push, distinct_apart}
use Rattle.block_lines.proofs.SectionReaders.{read_from, kind_by, AreFit, IsSectionReader}

module _ {Bound V : Type 0} (flaw_of : Bound → Flaw) (bounds : List Bound) (line : LineKind Bound V) where
  -- the tokens say this, where all bounds are kept; or one is the first that is passed
  pub data IsJudged (t : line.Tokens) (r : Result V Flaw) : Type 0 where
    fine : (v : V) → r ≡ Ok v → ((bound : Bound) → line.Keeps bound t) → line.Says t v → IsJudged t r
    fails : (bound : Bound) → r ≡ Err (flaw_of bound) → All (λ b. line.Keeps b t) (before flaw_of bounds bound) → (line.Keeps bound t → ⊥) → IsJudged t r

  -- a line is read by its tokens
  pub record AreTokens (tokens : Line → Option line.Tokens) : Type 0 where
    pub are : (l : Line) (t : line.Tokens) → tokens l ≡ Some t → (l ≡ line.line_of t) × line.IsLine t
    pub there : (t : line.Tokens) → line.IsLine t → tokens (line.line_of t) ≡ Some t
    pub unended : (t : line.Tokens) → is_end (line.line_of t) ≡ false
    pub unique : (t : line.Tokens) (v w : V) → line.Says t v → line.Says t w → v ≡ w

  module _ (name : line.Tokens → List ℕ) where
    abbrev Lines : Section Bound (List V)
    Lines = named_lines line name

    none_are : Lines.IsTree []
    none_are = (All-nil line.IsLine, λ i j d less within. absurd (omega (arith, within)))

    pub named_fit : (tokens : Line → Option line.Tokens) → AreTokens tokens → AreFit flaw_of bounds Lines
    named_fit tokens known = record {
      example = [];
      is_example = none_are;
      example_keeps = λ b. All-nil (line.Keeps b);
      unended = λ ts is. All-map (λ l. is_end l ≡ false) line.line_of ts (All-weaker line.IsLine (λ t. is_end (line.line_of t) ≡ false) (λ t _. known.unended t) ts is.0);
      unique = AllZip-unique line.Says known.unique;
    }

    abbrev Place : Type 0
    Place = List (List ℕ) × List V

    record AreNamed (p : Place) (front : List Line) : Type 0 where
      ts : List line.Tokens
      is_tree : Lines.IsTree ts
      keep : (bound : Bound) → All (line.Keeps bound) ts
      say : AllZip line.Says ts p.1
      names : p.0 ≡ map name ts
      are : front ≡ map line.line_of ts

    module _ (tokens : Line → Option line.Tokens) (value : line.Tokens → Result V Flaw) (known : AreTokens tokens) (judged : (t : line.Tokens) → IsJudged t (value t)) where
      abbrev Steps : SectionSteps Place (List V)
      Steps = named_steps tokens name value

      module _ (p : Place) (front : List Line) (here : AreNamed p front) (l : Line) (t : line.Tokens) (is : l ≡ line.line_of t) (is_line : line.IsLine t) (fresh : list_any (bytes_eq (name t)) p.0 ≡ false) where
        -- with one more line
        tree_with : Lines.IsTree (here.ts ++ t ∷ [])
        tree_with = (All-push line.IsLine here.ts t here.is_tree.0 is_line, rw map-append (distinct_push bytes_eq bytes_eq-Decides (map name here.ts) (name t) here.is_tree.1 (rw here.names at fresh)))

        front_with : front ++ l ∷ [] ≡ map line.line_of (here.ts ++ t ∷ [])
        front_with = ap₂ (λ ls x. ls ++ x ∷ []) here.are is ∙ sym (map-append line.line_of here.ts (t ∷ []))

        named_with : (v : V) → value t ≡ Ok v → IsJudged t (value t) → AreNamed (p.0 ++ name t ∷ [], p.1 ++ v ∷ []) (front ++ l ∷ [])
        named_with v v_is (fails bound told keeps passed) = absurd (cc)
        named_with v v_is (fine w told keeps says) =
            let same : w ≡ v = cc in
            record {
              ts = here.ts ++ t ∷ [];
              is_tree = tree_with;
              keep = λ b. All-push (line.Keeps b) here.ts t (here.keep b) (keeps b);
              say = zip_push line.Says here.ts p.1 t v here.say (subst (line.Says t) same says);
              names = ap (λ ns. ns ++ name t ∷ []) here.names ∙ sym (map-append name here.ts (t ∷ []));
              are = front_with;
            }

        stopped_at : (f : Flaw) → value t ≡ Err f → IsJudged t (value t) → IsStopped (kind_by flaw_of bounds Lines) f (front ++ l ∷ [])
        stopped_at f none (fine v told keeps says) = absurd (cc)
        stopped_at f none (fails bound told keeps passed) =
            owed.passes bound (cc) (record {
              tree = here.ts ++ t ∷ [];
              more = [];
              are = sym (append-nil (front ++ l ∷ []) ∙ front_with);
              is_tree = tree_with;
              keeps = All-weaker (λ b. line.Keeps b t) (λ b. All (line.Keeps b) (here.ts ++ t ∷ [])) (λ b kept. All-push (line.Keeps b) here.ts t (here.keep b) kept) (before flaw_of bounds bound) keeps;
            })

      line_told : (p : Place) (front : List Line) (l : Line) → AreNamed p front → Told (λ q. AreNamed q (front ++ l ∷ [])) (λ f. IsStopped (kind_by flaw_of bounds Lines) f (front ++ l ∷ [])) (Steps.next p l)
      line_told p front l here =
          then_told _ (asked_told BadLine (tokens l) (λ none. misfit refl)) (λ t t_is.
          test_told (list_any (bytes_eq (name t)) p.0) _ _ (λ again. refuses BadLine refl (misfit refl)) (λ fresh.
          let found = known.are l t t_is in
          then_told _ (result_told (value t) (λ f none. stopped_at p front here l t found.0 found.1 fresh f none (judged t)))
          (λ v v_is. gives (p.0 ++ name t ∷ [], p.1 ++ v ∷ []) refl (named_with p front here l t found.0 found.1 fresh v v_is (judged t)))))

      goes_on : (p : Place) (front : List Line) → AreNamed p front → Begins (kind_by flaw_of bounds Lines) bounds front
      goes_on p front here = record { tree = here.ts; more = []; are = sym (append-nil front ∙ here.are); is_tree = here.is_tree; keeps = everywhere (λ b. All (line.Keeps b) here.ts) here.keep bounds }

      module _ (K : Bound → Type 0) where
        record AreRead (p : Place) (ts : List line.Tokens) (vs : List V) : Type 0 where
          us : List V
          each : AllZip line.Says ts us
          is : vs ≡ p.1 ++ us

        one_meets : (t : line.Tokens) → ((b : Bound) → K b → line.Keeps b t) → IsJudged t (value t) → Meets flaw_of K (line.Says t) (value t)
        one_meets t keeps (fine v is kept says) = reads v is says
        one_meets t keeps (fails bound is kept passed) = passes bound is (λ k. passed (keeps bound k))

        abbrev IsNext : Place → line.Tokens → Place → Type 0
        IsNext p t q = (v : V) × line.Says t v × (q ≡ (p.0 ++ name t ∷ [], p.1 ++ v ∷ []))

        next_meets : (p : Place) (t : line.Tokens) → line.IsLine t → list_any (bytes_eq (name t)) p.0 ≡ false → ((b : Bound) → K b → line.Keeps b t) → Meets flaw_of K (IsNext p t) (Steps.next p (line.line_of t))
        next_meets p t is fresh keeps =
            rw (known.there t is, fresh) (then_meets {P = line.Says t} {Q = IsNext p t} (λ v. Ok (p.0 ++ name t ∷ [], p.1 ++ v ∷ [])) (one_meets t keeps (judged t)) (λ v _ says. reads (p.0 ++ name t ∷ [], p.1 ++ v ∷ []) refl (v, says, refl)))

        lines_meet : (p : Place) (ts : List line.Tokens) → All line.IsLine ts → AreDistinct (p.0 ++ map name ts) → ((b : Bound) → K b → All (line.Keeps b) ts) → Meets flaw_of K (AreRead p ts) (read_from Steps p (map line.line_of ts))
        lines_meet p [] each distinct keeps = reads p.1 refl (record { us = []; each = tt; is = sym (append-nil p.1) })
        lines_meet p (t ∷ ts) each distinct keeps =
            then_meets (λ q. read_from Steps q (map line.line_of ts))
            (next_meets p t (All-head line.IsLine t ts each) (distinct_apart bytes_eq bytes_eq-Decides p.0 (name t) (map name ts) distinct) (λ b kept. All-head (line.Keeps b) t ts (keeps b kept)))
            (λ q _ found.
            rw found.2
            (meets-weaker
            (lines_meet (p.0 ++ name t ∷ [], p.1 ++ found.0 ∷ []) ts (All-tail line.IsLine t ts each) (subst AreDistinct (sym (append_assoc p.0 (name t ∷ []) (map name ts))) distinct) (λ b kept. All-tail (line.Keeps b) t ts (keeps b kept)))
            (λ vs _ rest. record { us = found.0 ∷ rest.us; each = (found.1, rest.each); is = rest.is ∙ append_assoc p.1 (found.0 ∷ []) rest.us })))

      pub named_read : IsSectionReader flaw_of bounds Lines Steps
      named_read = record {
        fit = named_fit tokens known;
        IsOpen = AreNamed;
        starts = record { ts = []; is_tree = none_are; keep = λ b. All-nil (line.Keeps b); say = tt; names = refl; are = refl };
        goes = λ p q front l here. told_given (line_told p front l here) q;
        goes_on = goes_on;
        ends = λ p front vs here made. record { tree = here.ts; are = here.are; is_tree = here.is_tree; keeps = here.keep; says = subst (AllZip line.Says here.ts) (same_Some p.1 vs made) here.say };
        stops = λ p front l f here. told_refused (line_told p front l here) f;
        reads = λ K ts is keeps. meets-weaker (lines_meet K ([], []) ts is.0 is.1 keeps) (λ vs _ found. subst (AllZip line.Says ts) (sym found.is) found.each);
      }
