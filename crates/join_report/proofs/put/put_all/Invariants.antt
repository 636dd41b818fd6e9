use Rattle.std.proofs.Common.{◌≡◌, ◌≤◌, ◌+◌, ◌-◌, ℕ, length, take}
use Rattle.std.specs.Io.KnownBytes.{append_known}
use Rattle.join_report.proofs.put.put_all.Given as goal

abbrev pub invariant-loop-place : goal.invariant-loop-place
invariant-loop-place g l =
    record {
      within : l.place ≤ length l.bytes;
      written : g.K.Sink.written l.sink ≡ append_known (g.K.Sink.written l.initial.sink) (take l.place l.bytes);
      counts : g.K.Sink.faults l.sink ≡ g.K.Sink.faults l.initial.sink;
      left : (more : ℕ) → g.K.Sink.takes l.initial.sink (l.place + more) → g.K.Sink.takes l.sink more;
    }

abbrev pub decreases-loop-place : goal.decreases-loop-place
decreases-loop-place g l = length l.bytes - l.place
