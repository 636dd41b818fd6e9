-- The ends of a plan's waves are one behind the other in what is joined.
use Rattle.std.proofs.Common.{◌≡◌, ℕ, suc, List, [], ◌∷◌, arith, subst, sym}
use Rattle.std.specs.List.{AllByRecursion, AllPairs}
use Rattle.std.proofs.lemmas.List.Elements.{recursion_from_All}
use Rattle.trace_law.specs.declared.input.Input.{Input}
use Rattle.actor_core.specs.Rests.{IsWithin}
use Rattle.join_plan.specs.declared.waves.WaveEnd.{WaveEnd}
use Rattle.join_plan.specs.declared.fitting.Planned.{Planned}
use Rattle.join_plan.specs.Waves.{AreEnds, IsUpTo, end_of}
use Rattle.join_cli.specs.Plan.{input_of}
use Rattle.join_cli.specs.WaveSteps.{AreAhead, AreFewWaves}
use Rattle.join_cli.specs.Waves.{no_rows, upto_of}

ahead_of : (input : Input) (end : WaveEnd) (ends : List WaveEnd) → AllPairs IsUpTo (end ∷ ends)
    → AllByRecursion (λ e. IsWithin (upto_of e) input) ends → AreAhead input (upto_of end) ends
ahead_of input end [] rising within = tt
ahead_of input end (next ∷ ends) rising (here, more) =
    let low : IsUpTo end next = rising 0 1 end (omega arith) (omega arith) in (
      low.rows_r,
      low.rows_s,
      here,
      ahead_of input next ends (λ i j d before low. rising (suc i) (suc j) d (omega (arith, before))
          (omega (arith, low))) more,
    )

all_within : (seed : ℕ) (planned : Planned) (ends : List WaveEnd)
    → AllByRecursion (λ e. IsUpTo e (end_of planned.tables)) ends
    → AllByRecursion (λ e. IsWithin (upto_of e) (input_of seed planned)) ends
all_within seed planned [] each = tt
all_within seed planned (end ∷ ends) (here, more) =
    (record { rows_r = here.rows_r; rows_s = here.rows_s }, all_within seed planned ends more)

-- they are one behind the other in what is joined
ends_ahead : (seed : ℕ) (planned : Planned) (input : Input) → input ≡ input_of seed planned
    → AreEnds planned.tables planned.ends → AreAhead input no_rows planned.ends
ends_ahead seed planned input is are =
    subst (λ i. AreAhead i no_rows planned.ends) (sym is)
    (by planned.ends are.within.rising
    (all_within seed planned planned.ends
    (recursion_from_All (λ e. IsUpTo e (end_of planned.tables)) planned.ends are.within.each)))
  where
    by : (ends : List WaveEnd) → AllPairs IsUpTo ends
        → AllByRecursion (λ e. IsWithin (upto_of e) (input_of seed planned)) ends
        → AreAhead (input_of seed planned) no_rows ends
    by [] rising within = tt
    by (end ∷ ends) rising (here, more) =
        (omega arith, omega arith, here, ahead_of (input_of seed planned) end ends rising more)

-- and there are few
pub few_ends : (seed : ℕ) (planned : Planned) (input : Input) → input ≡ input_of seed planned
    → AreEnds planned.tables planned.ends → AreFewWaves input planned.ends
few_ends seed planned input is are = record { ahead = ends_ahead seed planned input is are; few = are.few }
