-- New machines stand for empty lists.
use Rattle.std.proofs.Common.{sym, subst, List}
use Rattle.load_controller.specs.declared.line.TurnLine.{TurnLine}
use Rattle.load_controller.specs.Journal.{Rules}
use Rattle.load_controller.specs.Standing.{ControllerState, StandsFor as ControllerStands, IsFresh}
use Rattle.actor_core.specs.Lists.{no_lists, controller_lists}
use Rattle.actor_core.specs.Standing.{Stands, OfController}
use Rattle.actor_core.specs.declared.machines.Core.TheVariants.{Controller as TheController}

-- a controller with an empty journal stands for empty lists
pub fresh_controller : (rules : Rules) (first : TurnLine) (c : ControllerState) → IsFresh rules first c
    → Stands (OfController (record { rules = rules; first = first })) no_lists (TheController c)
fresh_controller rules first c fresh =
    subst (λ (j : List TurnLine). ControllerStands (record { rules = rules; first = first })
    (controller_lists j no_lists) c) (sym fresh.journal) fresh.stands
