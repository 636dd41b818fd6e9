use Rattle.std.proofs.Common.{◌≡◌, ◌++◌, drop}
use Rattle.journal_picture.specs.Changes.{steps_from, steps_of}
use Rattle.journal_picture.proofs.changes.steps.Given as goal

abbrev pub invariant-loop-index : goal.invariant-loop-index
invariant-loop-index l = l.steps ++ steps_from l.before (drop l.index l.rest) ≡ steps_of l.journal
