use Rattle.std.proofs.Common.{◌≡◌, drop}
use Rattle.journal_picture.specs.Changes.{ended_at}
use Rattle.journal_picture.proofs.changes.ended.Given as goal

abbrev pub invariant-loop-next : goal.invariant-loop-next
invariant-loop-next l =
    ended_at l.begun.epoch l.last (drop l.next-index l.rest) ≡ ended_at l.begun.epoch l.begun l.rest
