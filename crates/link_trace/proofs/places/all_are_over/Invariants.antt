use Rattle.std.proofs.Common.{ℕ, ◌<◌, ◌≡◌, Some}
use Rattle.std.specs.Prelude.{slice_get}
use Rattle.actor_core.specs.Standing.{IsOver}
use Rattle.actor_core.specs.declared.machines.Core.{Core}
use Rattle.link_trace.specs.Worlds.{cores_of}
use Rattle.link_trace.proofs.places.all_are_over.Given as goal

abbrev pub invariant-loop-place : goal.invariant-loop-place
invariant-loop-place l = (n : ℕ) (core : Core) → n < l.place-index → slice_get (cores_of l.places) n ≡ Some core
    → IsOver core
