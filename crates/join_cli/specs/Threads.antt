-- A run in threads.
use Rattle.std.specs.Prelude.{◌≡◌, List, [], ◌∷◌}
use Rattle.load_controller.specs.declared.line.TurnLine.{TurnLine}
use Rattle.actor_core.specs.Players.{IsFinishedFamily}
use Rattle.actor_core.specs.Tasks.{Task}
use Rattle.join_runtime.specs.Endings.{EndsView, lists_left}

-- a run in threads leaves its seats' ends: their lists are a finished, agreeing family of its task, whose controller
-- has this journal
pub record IsRunInThreads (task : Task) (journal : List TurnLine) (trail : List EndsView) : Type 0 where
  pub ends : EndsView
  pub family : IsFinishedFamily task journal (lists_left ends)
  pub only : trail ≡ ends ∷ []
