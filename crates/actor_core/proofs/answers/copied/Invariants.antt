use Rattle.std.proofs.Common.{◌≡◌, take}
use Rattle.actor_core.proofs.answers.copied.Given as goal

abbrev pub invariant-loop-line : goal.invariant-loop-line
invariant-loop-line l = l.copy ≡ take l.line-index l.journal
