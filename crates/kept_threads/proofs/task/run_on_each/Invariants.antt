use Rattle.std.proofs.Common.{◌≡◌, ◌<◌, ◌≤◌, ℕ, slice_index_or}
use Rattle.kept_threads.proofs.task.run_on_each.Given as goal

abbrev pub invariant-loop-place : goal.invariant-loop-place
invariant-loop-place g l =
    ((j : ℕ) (d : g.row.T.Denot) → l.place ≤ j → slice_index_or l.items j d ≡ slice_index_or l.initial.items j d)
    × ((j : ℕ) (d : g.row.T.Denot) → j < l.place → g.W.Task.changes (slice_index_or l.initial.items j d)
    (slice_index_or l.items j d))
