use Rattle.std.proofs.Common.{◌<◌, ◌∙◌, subst}
use Rattle.link_trace.proofs.Changed.{popped}
use Rattle.link_trace.proofs.places.Place.pop.Goals as goal

pub returns-then-sender-len-clause-waiting : goal.returns-then-sender-len-clause-waiting
returns-then-sender-len-clause-waiting c =
    let queues = c.args.self.now.waiting in
    let low = subst (λ n. c.args.sender < n) (c.len.ensures ∙ queues.ok.0) c.if-sender-len.true in
    popped (λ q. q.items) queues.items c.args.sender c.index_mut.result.now c.pop_first.new.queue
    c.index_mut.ensures.value low c.pop_first.result c.pop_first.ensures
