-- What contracts see of a world.
use Rattle.link_trace.specs.Worlds.{WorldState, state_among}
use Rattle.link_trace.specs.declared.world.World.{World}

-- who takes part, the machines, and what waits
abbrev pub state_of : World → WorldState
state_of w = state_among w.cast w.places.items
