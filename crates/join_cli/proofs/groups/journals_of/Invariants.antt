use Rattle.std.proofs.Common.{◌≡◌, map}
use Rattle.trace_law.specs.declared.run.Run.{Run}
use Rattle.join_cli.proofs.groups.journals_of.Given as goal

abbrev pub invariant-loop-run : goal.invariant-loop-run
invariant-loop-run l = l.journals ≡ map (λ (run : Run). run.journal) l.yielded
