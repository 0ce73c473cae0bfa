-- Streams a word further.
use Rattle.model_candidates.proofs.Prelude.{◌≡◌, ℕ, zero, suc, ◌+◌, refl, sym, ap, ◌∙◌, arith, Lcg, advance, next, next_state, state_after}

-- a step behind n others
state_after-suc : (w m increment n state : ℕ) → state_after w m increment (suc n) state ≡ next_state w m increment (state_after w m increment n state)
unfolding state_after
state_after-suc w m increment zero state = refl
state_after-suc w m increment (suc n) state = state_after-suc w m increment n (next_state w m increment state)

pub advance_more : (w m n : ℕ) (g : Lcg) → next w m (advance w m n g) ≡ advance w m (n + 1) g
advance_more w m n g =
    let one : suc n ≡ n + 1 = omega arith in
    ap (λ state. record g { state = state }) (sym (state_after-suc w m g.increment n g.state) ∙ ap (λ k. state_after w m g.increment k g.state) one)
