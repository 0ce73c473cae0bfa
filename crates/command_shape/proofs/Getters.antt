-- what the getters of clap's matches read
use Rattle.command_shape.proofs.Prelude.{◌≡◌, ◌∙◌, inl, inr, ap, sym, refl, ℕ, true, false, List, arith, Option, Some, None, Result, Ok, Err, codes, option_map, IsSome, Bor, bytes_eq, bytes_eq-Decides, ParsesUnsigned, digits_value, without_leading_plus, IsUnsignedIn, ReadsOne, Row, worker_limit, pair_limit, step_limit, seed_limit, format_limit, size_limit, name_of, HasNumber, HasProve, HasRefute, HasBench, HasPair, HasCommand, IsEvidenceName, MatchesHave, number_of, IsWithin, IsInRange, GivesCall, MatchesGive, Call, Prove, Refute, Bench, Evidence}
use Rattle.command_shape.proofs.Members.{not_other}

pub some_text : (o : Option (Bor (List ℕ))) (t : List ℕ) → option_map (λ s. s.now) o ≡ Some t → IsSome o
some_text None t e = cc
some_text (Some s) t e = refl

pub got_number : (E : Type 0) (G : List ℕ → Result ℕ E → Type 0) (low high : ℕ) (t : List ℕ) (r : Option ℕ) → ReadsOne G t r
    → ((u : List ℕ) (x : Result ℕ E) → G u x → ParsesUnsigned 64 10 u x) → IsUnsignedIn low high t → r ≡ Some (digits_value 10 (without_leading_plus t))
got_number E G low high t (Some v) h only fits = ap Some (only t (Ok v) h).1
got_number E G low high t None h only fits = absurd (only t (Err h.0) h.1 (fits.0, fits.1))

pub some_number : (r : Option ℕ) (n : ℕ) → r ≡ Some n → IsSome r
some_number None n e = cc
some_number (Some v) n e = refl

apart : (a b : List ℕ) → bytes_eq a b ≡ false → a ≡ b → ⊥
apart a b differ e =
    let yes : bytes_eq a b ≡ true = (bytes_eq-Decides a b).1 e in
    absurd cc

pub is_prove : (name : List ℕ) (rows : List Row) → HasCommand name rows → name ≡ codes "prove" → HasProve rows
is_prove name rows (inl h) e = h.1
is_prove name rows (inr (inl h)) e = absurd (apart (codes "refute") (codes "prove") refl (sym h.0 ∙ e))
is_prove name rows (inr (inr (inl h))) e = absurd (apart (codes "bench") (codes "prove") refl (sym h.0 ∙ e))
is_prove name rows (inr (inr (inr h))) e = absurd (apart (name_of h.0.0) (codes "prove") (not_other h.0.0).0 (sym h.0.1 ∙ e))

pub is_refute : (name : List ℕ) (rows : List Row) → HasCommand name rows → name ≡ codes "refute" → HasRefute rows
is_refute name rows (inl h) e = absurd (apart (codes "prove") (codes "refute") refl (sym h.0 ∙ e))
is_refute name rows (inr (inl h)) e = h.1
is_refute name rows (inr (inr (inl h))) e = absurd (apart (codes "bench") (codes "refute") refl (sym h.0 ∙ e))
is_refute name rows (inr (inr (inr h))) e = absurd (apart (name_of h.0.0) (codes "refute") (not_other h.0.0).1 (sym h.0.1 ∙ e))

pub is_bench : (name : List ℕ) (rows : List Row) → HasCommand name rows → name ≡ codes "bench" → HasBench rows
is_bench name rows (inl h) e = absurd (apart (codes "prove") (codes "bench") refl (sym h.0 ∙ e))
is_bench name rows (inr (inl h)) e = absurd (apart (codes "refute") (codes "bench") refl (sym h.0 ∙ e))
is_bench name rows (inr (inr (inl h))) e = h.1
is_bench name rows (inr (inr (inr h))) e = absurd (apart (name_of h.0.0) (codes "bench") (not_other h.0.0).2 (sym h.0.1 ∙ e))

-- another command is one of evidence
pub is_evidence : (name : List ℕ) (rows : List Row) → HasCommand name rows → (name ≡ codes "prove" → ⊥) → (name ≡ codes "refute" → ⊥) → (name ≡ codes "bench" → ⊥)
    → IsEvidenceName name × HasPair rows
is_evidence name rows (inl h) prove refute bench = absurd (prove h.0)
is_evidence name rows (inr (inl h)) prove refute bench = absurd (refute h.0)
is_evidence name rows (inr (inr (inl h))) prove refute bench = absurd (bench h.0)
is_evidence name rows (inr (inr (inr h))) prove refute bench = h

within : (id : List ℕ) (low high n : ℕ) (rows : List Row) → HasNumber id low high rows → number_of id rows ≡ Some n → IsWithin low high n
within id low high n rows h e =
    let value : Some (digits_value 10 (without_leading_plus h.0)) ≡ Some n = sym (ap (option_map (λ text. digits_value 10 (without_leading_plus text))) h.1) ∙ e in
    let is : digits_value 10 (without_leading_plus h.0) ≡ n = cc in
    (omega (arith, is, h.2.2), omega (arith, is, h.2.3))

-- the numbers of a taken command are in range
in_range : (name : List ℕ) (rows : List Row) (call : Call) → HasCommand name rows → GivesCall name rows call → IsInRange call
in_range name rows (Prove p) has g =
    let h = is_prove name rows has g.0 in (
      within (codes "pairs") 1 pair_limit p.pairs rows h.pairs g.1.pairs,
      within (codes "steps") 1 step_limit p.steps rows h.steps g.1.steps,
      within (codes "workers") 1 worker_limit p.workers rows h.workers g.1.workers,
      within (codes "seed") 0 seed_limit p.seed rows h.seed g.1.seed,
      within (codes "format") 1 format_limit p.format rows h.format g.1.format,
    )
in_range name rows (Refute r) has g =
    let h = is_refute name rows has g.0 in
    (within (codes "workers") 1 worker_limit r.workers rows h.workers g.1.workers, within (codes "seed") 0 seed_limit r.seed rows h.seed g.1.seed)
in_range name rows (Bench b) has g =
    let h = is_bench name rows has g.0 in
    (within (codes "size") 1 size_limit b.size rows h.size g.1.size, within (codes "workers") 1 worker_limit b.workers rows h.workers g.1.workers)
in_range name rows (Evidence command p) has g = tt

pub call_in_range : (o : Option (List ℕ × List Row)) (call : Call) → MatchesHave o → MatchesGive o call → IsInRange call
call_in_range None call has g = absurd g
call_in_range (Some m) call has g = in_range m.0 m.1 call has g
