-- Whose a machine is, by its kind.
use Rattle.std.specs.Prelude.{⊤}
use Rattle.epoch_tags.specs.declared.actor.Actor.{Actor}
use Rattle.epoch_tags.specs.declared.actor.Actor.TheVariants.{Feeder, Joiner, Controller, Collector}
use Rattle.actor_core.specs.declared.machines.Core.{Core}
use Rattle.actor_core.specs.declared.machines.Core.TheVariants.{Feeder as TheFeeder, Joiner as TheJoiner}
use Rattle.actor_core.specs.declared.machines.Core.TheVariants.{Controller as TheController, Collector as TheCollector}

-- the actor is a feeder
abbrev pub IsFeeder : Actor → Type 0
IsFeeder (Feeder p) = ⊤
IsFeeder (Joiner j) = ⊥
IsFeeder Controller = ⊥
IsFeeder Collector = ⊥

-- the actor is a joiner
abbrev pub IsJoiner : Actor → Type 0
IsJoiner (Feeder p) = ⊥
IsJoiner (Joiner j) = ⊤
IsJoiner Controller = ⊥
IsJoiner Collector = ⊥

-- the actor is the controller
abbrev pub IsController : Actor → Type 0
IsController (Feeder p) = ⊥
IsController (Joiner j) = ⊥
IsController Controller = ⊤
IsController Collector = ⊥

-- the actor is the collector
abbrev pub IsCollector : Actor → Type 0
IsCollector (Feeder p) = ⊥
IsCollector (Joiner j) = ⊥
IsCollector Controller = ⊥
IsCollector Collector = ⊤

-- the machine is one for this kind of actor
abbrev pub IsMachineOf : Core → Actor → Type 0
IsMachineOf (TheFeeder f) a = IsFeeder a
IsMachineOf (TheJoiner j) a = IsJoiner a
IsMachineOf (TheController c) a = IsController a
IsMachineOf (TheCollector c) a = IsCollector a
