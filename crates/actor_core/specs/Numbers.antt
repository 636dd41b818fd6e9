-- Who takes part in a run, by numbers: what is found under them, and who sends to whom.
use Rattle.std.specs.Prelude.{◌≡◌, ◌<◌, ◌^◌, ℕ, ◌+◌, ◌-◌, ◌==◌, nat_lt, bit_xor, Option, Some, None, if◌then◌else◌}
use Rattle.epoch_tags.specs.declared.actor.Actor.{Actor}
use Rattle.epoch_tags.specs.declared.actor.Actor.TheVariants.{Feeder, Joiner, Controller, Collector}
use Rattle.trace_law.specs.declared.setting.Setting.{Setting}
use Rattle.actor_core.specs.declared.cast.Cast.{Cast}

-- who takes part in a run of this setting
abbrev pub cast_of : Setting → Cast
cast_of setting = record { joiners = 2 ^ setting.k; feeders = setting.feeders }

-- how many actors take part: the feeders and joiners, a controller and a collector
abbrev pub count_of : Cast → ℕ
count_of cast = cast.feeders + cast.joiners + 2

-- the number of an actor, where it takes part: feeders first, then joiners, the controller, the collector
abbrev pub number : Cast → Actor → Option ℕ
number cast (Feeder p) = if nat_lt p cast.feeders then Some p else None
number cast (Joiner j) = if nat_lt j cast.joiners then Some (cast.feeders + j) else None
number cast Controller = Some (cast.feeders + cast.joiners)
number cast Collector = Some (cast.feeders + cast.joiners + 1)

-- the actor of a number
abbrev pub actor_at : Cast → ℕ → Actor
actor_at cast n =
    if nat_lt n cast.feeders then Feeder n
    else if nat_lt n (cast.feeders + cast.joiners) then Joiner (n - cast.feeders)
    else if n == cast.feeders + cast.joiners then Controller
    else Collector

-- what is found under a number, where there is one
abbrev pub at_number : {Y : Type 0} → Y → Option ℕ → (ℕ → Y) → Y
at_number other None f = other
at_number other (Some n) f = f n

-- the ids of two joiners of so many differ in one bit
pub record DifferInOneBit (joiners from to : ℕ) : Type 0 where
  pub low : ℕ
  pub below : 2 ^ low < joiners
  pub other : to ≡ bit_xor from (2 ^ low)

-- an actor sends to another, in a run with so many joiners and feeders
abbrev pub AreJoined : ℕ → ℕ → Actor → Actor → Type 0
AreJoined joiners feeders (Feeder p) (Feeder q) = ⊥
AreJoined joiners feeders (Feeder p) (Joiner j) = (p < feeders) × (j < joiners)
AreJoined joiners feeders (Feeder p) Controller = p < feeders
AreJoined joiners feeders (Feeder p) Collector = ⊥
AreJoined joiners feeders (Joiner i) (Feeder q) = ⊥
AreJoined joiners feeders (Joiner i) (Joiner j) = (i < joiners) × DifferInOneBit joiners i j
AreJoined joiners feeders (Joiner i) Controller = i < joiners
AreJoined joiners feeders (Joiner i) Collector = i < joiners
AreJoined joiners feeders Controller (Feeder q) = q < feeders
AreJoined joiners feeders Controller (Joiner j) = ⊥
AreJoined joiners feeders Controller Controller = ⊥
AreJoined joiners feeders Controller Collector = ⊥
AreJoined joiners feeders Collector (Feeder q) = ⊥
AreJoined joiners feeders Collector (Joiner j) = ⊥
AreJoined joiners feeders Collector Controller = ⊥
AreJoined joiners feeders Collector Collector = ⊥
