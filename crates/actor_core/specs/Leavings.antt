-- What the machines of a wave leave.
use Rattle.std.specs.Prelude.{◌≡◌, ℕ, ◌+◌, ◌-◌, List, [], ◌∷◌, ◌++◌, Some, length, slice_get}
use Rattle.row_cells.specs.Lists.{SameBag}
use Rattle.store_parts.specs.Stored.{Stored}
use Rattle.joiner_law.specs.Law.{JoinerStart, JoinerLists, store}
use Rattle.joiner_core.specs.State.{tuples_of, IsKeyOf}
use Rattle.joiner_core.specs.Standing.{JoinerState, StandsFor as JoinerStands, theta_of}
use Rattle.load_controller.specs.Standing.{ControllerState}
use Rattle.pair_collector.specs.Standing.{CollectorState}
use Rattle.actor_core.specs.declared.machines.Core.{Core}
use Rattle.actor_core.specs.declared.machines.Core.TheVariants.{Feeder as TheFeeder, Joiner as TheJoiner}
use Rattle.actor_core.specs.declared.machines.Core.TheVariants.{Controller as TheController, Collector as TheCollector}

-- the store that a joiner's machine gives back: with its predicate's key, and the tuples of its settled epoch by
-- whatever lists the machine stands for
pub record GivesStore (joiner : JoinerState) (given : Stored) : Type 0 where
  pub key : IsKeyOf (theta_of joiner) given.key
  pub tuples : (s : JoinerStart) (lists : JoinerLists) (stands : JoinerStands s lists joiner)
      → SameBag (tuples_of given) (store s stands.taken stands.law.done)

-- the machine is a joiner's and gives back this store
abbrev pub Gives : Core → Stored → Type 0
Gives (TheFeeder f) given = ⊥
Gives (TheJoiner j) given = GivesStore j given
Gives (TheController c) given = ⊥
Gives (TheCollector c) given = ⊥

-- behind so many machines each is a joiner's, and these are the stores that they give back, in their order
pub record AreStores (feeders : ℕ) (cores : List Core) (stores : List Stored) : Type 0 where
  pub long : length stores ≡ length cores - feeders
  pub each : (k : ℕ) (given : Stored) → slice_get stores k ≡ Some given
      → (core : Core) × (slice_get cores (feeders + k) ≡ Some core) × Gives core given

-- of all machines: what the joiners give back, and the controller and the collector behind them
pub record AreLeft (feeders : ℕ) (cores : List Core) (stores : List Stored) (controller : ControllerState)
    (collector : CollectorState) : Type 0 where
  pub front : List Core
  pub all : cores ≡ (front ++ TheController controller ∷ []) ++ TheCollector collector ∷ []
  pub stores_are : AreStores feeders front stores
