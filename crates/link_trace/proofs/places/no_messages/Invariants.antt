use Rattle.std.proofs.Common.{◌≡◌, [], map}
use Rattle.std.specs.Prelude.{replicate}
use Rattle.link_trace.proofs.places.no_messages.Given as goal

abbrev pub invariant-loop : goal.invariant-loop
invariant-loop l = map (λ queue. queue.items) l.waiting.items ≡ replicate l.counter []
