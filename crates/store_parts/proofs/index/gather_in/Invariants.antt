use Rattle.std.proofs.Common.{◌≡◌, ◌++◌, drop}
use Rattle.store_parts.specs.Places.{entries_of, gathered_in}
use Rattle.store_parts.proofs.index.gather_in.Given as goal

abbrev pub invariant-loop-window : goal.invariant-loop-window
invariant-loop-window l =
    l.found ++ gathered_in (drop l.window-index l.windows) (entries_of l.map)
    ≡ gathered_in l.windows (entries_of l.map)
