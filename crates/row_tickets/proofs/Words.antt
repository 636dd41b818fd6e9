-- A step after a jump is a jump of one more.
use Rattle.std.proofs.Common.{◌≡◌, ℕ, zero, suc, ◌+◌, refl, ap, add-one}
use Rattle.rand_pcg.specs.Lcg.{Lcg, next_state, state_after, next, advance}

state_after-last : (w m increment n state : ℕ)
    → next_state w m increment (state_after w m increment n state)
    ≡ state_after w m increment n (next_state w m increment state)
unfolding state_after
state_after-last w m increment zero state = refl
state_after-last w m increment (suc n) state = state_after-last w m increment n (next_state w m increment state)

-- a generator that has jumped over n words and draws one stands where a jump over n + 1 leads
pub next-advance : (w m n : ℕ) (g : Lcg) → next w m (advance w m n g) ≡ advance w m (n + 1) g
unfolding state_after
next-advance w m n g = rw add-one (ap (λ (state : ℕ). record g { state = state })
    (state_after-last w m g.increment n g.state))
