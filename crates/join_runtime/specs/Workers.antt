-- What workers do to the seats of a bout.
use Rattle.std.specs.Prelude.{List}
use Rattle.kept_threads.specs.Changes.{AllChanged}
use Rattle.join_runtime.specs.Views.{SeatView}
use Rattle.join_runtime.specs.Turns.{Works}

-- there are as many seats as before, and each is spent or has advanced
abbrev pub AllWorked : List SeatView → List SeatView → Type 0
AllWorked old new = AllChanged Works old new
