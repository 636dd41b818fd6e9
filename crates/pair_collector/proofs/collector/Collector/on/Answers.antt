use Rattle.std.proofs.Common.{arith}
use Rattle.std.proofs.lemmas.Result.{on_ok_weaker}
use Rattle.pair_collector.proofs.KeptMessages.{joiner_takes, stranger_takes, passes_over, state_is, stranger_stays}
use Rattle.pair_collector.proofs.collector.Collector.on.Goals as goal

pub returns-then-joiner-len-clause-takes : goal.returns-then-joiner-len-clause-takes
returns-then-joiner-len-clause-takes c =
    rw (c.in-Joiner.is, ← c.self.view_is) (stranger_takes _ c.in-Joiner.joiner c.args.m (omega arith))

pub returns-clause-takes : goal.returns-clause-takes
returns-clause-takes c =
    rw (c.in-Joiner.is, ← c.self.view_is)
    (on_ok_weaker c.take-taken.result
    (λ is. rw is (joiner_takes _ _ _ c.in-Joiner.joiner c.args.m c.index_mut.result.now (omega arith)
    c.index_mut.ensures.value)) c.take-taken.ensures.ok)

pub returns-clause-passes : goal.returns-clause-passes
returns-clause-passes c =
    rw (c.in-Joiner.is, ← c.self.view_is, c.if-self.false)
    (passes_over c.take-taken.result c.self.inside.parts.items _ c.in-Joiner.joiner c.args.m c.index_mut.result.now
    c.take-taken.new.self
    c.is_err-self-inside.result c.is_err-self-inside.ensures.value c.take-taken.ensures.ok (omega arith)
    c.index_mut.ensures.value)

pub returns-then-joiner-len-clause-state : goal.returns-then-joiner-len-clause-state
returns-then-joiner-len-clause-state c =
    rw (c.in-Joiner.is, ← c.self.view_is) (stranger_stays _ c.in-Joiner.joiner c.args.m (omega arith))

pub returns-clause-state : goal.returns-clause-state
returns-clause-state c =
    rw (c.in-Joiner.is, ← c.self.view_is, c.if-self.false)
    (state_is c.take-taken.result c.self.inside.parts.items _ c.in-Joiner.joiner c.args.m c.index_mut.result.now
    c.take-taken.new.self
    c.is_err-self-inside.result c.is_err-self-inside.ensures.value c.take-taken.ensures.ok (omega arith)
    c.index_mut.ensures.value)
