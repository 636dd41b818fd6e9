-- What the lists of all seats are.
use Rattle.actor_core.specs.Families.{AreFronts, family_of}
use Rattle.actor_core.specs.Tasks.{Agrees, Task}
use Rattle.join_runtime.specs.Bouts.{SeatsView, StandsFor, lists_in}
use Rattle.join_runtime.specs.Endings.{family_in}
use Rattle.ring_runtime.specs.Bouts as rings

-- the lists of seats that stand for a task are an agreeing family of it
abbrev pub SeatsAgree : Type 0
SeatsAgree = (task : Task) (v : SeatsView) → StandsFor task v → AreFronts (lists_in v) → Agrees task (family_in v)

-- so are those of seats over rings
abbrev pub RingSeatsAgree : Type 0
RingSeatsAgree = (task : Task) (v : rings.RingSeatsView) → rings.StandsFor task v → AreFronts (rings.lists_in v)
    → Agrees task (family_of (rings.journal_in v) (rings.lists_in v))
