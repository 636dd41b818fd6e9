-- The links of a run, and who sends to whom.
use Rattle.std.proofs.Common.{◌≡◌, ℕ, ◌<◌, ◌^◌, ◌↔◌, refl, sym, subst, Bool, true, false, inl, inr, true≢false, arith}
use Rattle.std.specs.Prelude.{IsTrue}
use Rattle.std.proofs.Math.Pow.{pow-lt, pow_mono}
use Rattle.std.proofs.lemmas.Bool.{cases_lt}
use Rattle.epoch_tags.specs.Links.{HasLink, feeder_joiner, joiner_joiner, controller_feeder, feeder_controller}
use Rattle.epoch_tags.specs.Links.{joiner_controller, joiner_collector}
use Rattle.epoch_tags.specs.declared.actor.Actor.{Actor}
use Rattle.epoch_tags.specs.declared.actor.Actor.TheVariants.{Feeder, Joiner, Controller, Collector}
use Rattle.actor_core.specs.Numbers.{AreJoined}

-- powers of two keep the order of their exponents
pub below : (low k : ℕ) → 2 ^ low < 2 ^ k → low < k
below low k less = elim (cases_lt low k) [
  | inl is ↦ is
  | inr high ↦ let more = pow_mono {i = k} {j = low} high in absurd (omega arith)
]

joined : (k feeders : ℕ) (from to : Actor) → HasLink k feeders from to → AreJoined (2 ^ k) feeders from to
joined k feeders _ _ (feeder_joiner low high) = (low, high)
joined k feeders _ _ (joiner_joiner {low = low} high within) =
    (high, record { low = low; below = pow-lt within; other = refl })
joined k feeders _ _ (controller_feeder low) = low
joined k feeders _ _ (feeder_controller low) = low
joined k feeders _ _ (joiner_controller low) = low
joined k feeders _ _ (joiner_collector low) = low

link : (k feeders : ℕ) (from to : Actor) → AreJoined (2 ^ k) feeders from to → HasLink k feeders from to
link k feeders (Feeder p) (Feeder q) is = absurd is
link k feeders (Feeder p) (Joiner j) is = feeder_joiner is.0 is.1
link k feeders (Feeder p) Controller is = feeder_controller is
link k feeders (Feeder p) Collector is = absurd is
link k feeders (Joiner i) (Feeder q) is = absurd is
link k feeders (Joiner i) (Joiner j) is = subst (λ (z : ℕ). HasLink k feeders (Joiner i) (Joiner z)) (sym is.1.other)
    (joiner_joiner is.0 (below is.1.low k is.1.below))
link k feeders (Joiner i) Controller is = joiner_controller is
link k feeders (Joiner i) Collector is = joiner_collector is
link k feeders Controller (Feeder q) is = controller_feeder is
link k feeders Controller (Joiner j) is = absurd is
link k feeders Controller Controller is = absurd is
link k feeders Controller Collector is = absurd is
link k feeders Collector to is = absurd (none to is)
  where
    none : (to : Actor) → AreJoined (2 ^ k) feeders Collector to → ⊥
    none (Feeder q) is = is
    none (Joiner q) is = is
    none Controller is = is
    none Collector is = is

-- a test that is true where they are joined, and false where they aren't, tells the links
pub links : (k joiners feeders : ℕ) (from to : Actor) (b : Bool) → (b ≡ true → AreJoined joiners feeders from to)
    → (b ≡ false → ¬ AreJoined joiners feeders from to)
    → joiners ≡ 2 ^ k → (IsTrue b ↔ HasLink k feeders from to)
links k joiners feeders from to true up down grid =
    (λ is. link k feeders from to (subst (λ n. AreJoined n feeders from to) grid (up refl)), λ is. refl)
links k joiners feeders from to false up down grid = (
  λ is. absurd (true≢false (sym is)),
  λ is. absurd (down refl (subst (λ n. AreJoined n feeders from to) (sym grid) (joined k feeders from to is))),
)
