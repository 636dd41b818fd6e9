-- Each actor's machine is one for it: at the start, and after events.
use Rattle.std.proofs.Common.{◌≡◌, ℕ, zero, suc, refl, subst, sym}
use Rattle.epoch_tags.specs.declared.actor.Actor.{Actor}
use Rattle.epoch_tags.specs.declared.actor.Actor.TheVariants.{Feeder, Joiner, Controller, Collector}
use Rattle.load_controller.specs.Standing.{ControllerState}
use Rattle.pair_collector.specs.Standing.{CollectorState}
use Rattle.actor_core.specs.Effects.{core_after}
use Rattle.actor_core.specs.Families.{start_for}
use Rattle.actor_core.specs.Lists.{ActorLists, Cause, Took, Began}
use Rattle.actor_core.specs.Players.{Player, Runs}
use Rattle.actor_core.specs.Standing.{Stands}
use Rattle.actor_core.specs.declared.machines.Core.{Core}
use Rattle.actor_core.specs.declared.machines.Core.TheVariants.{Feeder as TheFeeder, Joiner as TheJoiner}
use Rattle.actor_core.specs.declared.machines.Core.TheVariants.{Controller as TheController, Collector as TheCollector}
use Rattle.actor_core.specs.Tasks.{Task}
use Rattle.join_runtime.specs.Kinds.{IsMachineOf}

-- a machine for the controller is a controller's
pub controllers : (core : Core) → IsMachineOf core Controller → (c : ControllerState) × (core ≡ TheController c)
controllers (TheFeeder f) own = absurd own
controllers (TheJoiner j) own = absurd own
controllers (TheController c) own = (c, refl)
controllers (TheCollector c) own = absurd own

-- and one for the collector is a collector's
pub collectors : (core : Core) → IsMachineOf core Collector → (c : CollectorState) × (core ≡ TheCollector c)
collectors (TheFeeder f) own = absurd own
collectors (TheJoiner j) own = absurd own
collectors (TheController c) own = absurd own
collectors (TheCollector c) own = (c, refl)

-- a machine that began as this actor begins is one for it
pub begins_own : (task : Task) (a : Actor) (ls : ActorLists) (core : Core)
    → Stands (start_for task a) ls core → IsMachineOf core a
begins_own task (Feeder p) ls (TheFeeder f) st = tt
begins_own task (Feeder p) ls (TheJoiner j) st = absurd st
begins_own task (Feeder p) ls (TheController c) st = absurd st
begins_own task (Feeder p) ls (TheCollector c) st = absurd st
begins_own task (Joiner j) ls (TheFeeder f) st = absurd st
begins_own task (Joiner j) ls (TheJoiner i) st = tt
begins_own task (Joiner j) ls (TheController c) st = absurd st
begins_own task (Joiner j) ls (TheCollector c) st = absurd st
begins_own task Controller ls (TheFeeder f) st = absurd st
begins_own task Controller ls (TheJoiner j) st = absurd st
begins_own task Controller ls (TheController c) st = tt
begins_own task Controller ls (TheCollector c) st = absurd st
begins_own task Collector ls (TheFeeder f) st = absurd st
begins_own task Collector ls (TheJoiner j) st = absurd st
begins_own task Collector ls (TheController c) st = absurd st
begins_own task Collector ls (TheCollector c) st = tt

-- an event leaves a machine of the kind that it was
own_after : (cause : Cause) (core : Core) (a : Actor) → IsMachineOf core a → IsMachineOf (core_after cause core) a
own_after (Took from m) (TheFeeder f) a own = own
own_after (Took from m) (TheJoiner j) a own = own
own_after (Took from m) (TheController c) a own = own
own_after (Took from m) (TheCollector c) a own = own
own_after Began (TheFeeder f) a own = own
own_after Began (TheJoiner j) a own = own
own_after Began (TheController c) a own = own
own_after Began (TheCollector c) a own = own

-- so do several
pub runs_own : (n : ℕ) (s t : Player) → Runs n s t → (a : Actor) → IsMachineOf s.core a → IsMachineOf t.core a
runs_own zero s t runs a own = subst (λ (p : Player). IsMachineOf p.core a) (sym runs) own
runs_own (suc n) s t runs a own =
    let event = runs.2.event in
    subst (λ core. IsMachineOf core a) (sym event.state)
    (own_after runs.2.cause runs.0.core a (runs_own n s runs.0 runs.1 a own))
