use Rattle.std.proofs.Common.{◌≡◌}
use Rattle.join_rows.specs.Sinks.{PutsSome}
use Rattle.actor_core.specs.Tasks.{task_of}
use Rattle.join_runtime.proofs.Lines.{HasPut}
use Rattle.join_runtime.proofs.early_lines.run_early_by.Given as goal

abbrev pub invariant-loop : goal.invariant-loop
invariant-loop g l = record {
  put : HasPut (task_of l.input l.setting) l.seats l.bouts (g.K.Sink.written l.initial.sink) (g.K.Sink.written l.sink)
      (g.K.Sink.takes l.initial.sink) (g.K.Sink.takes l.sink);
  left : PutsSome (g.K.Sink.written l.initial.sink) (g.K.Sink.written l.sink) (g.K.Sink.takes l.initial.sink)
      (g.K.Sink.takes l.sink);
  counts : g.K.Sink.faults l.sink ≡ g.K.Sink.faults l.initial.sink;
}
