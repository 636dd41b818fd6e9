use Rattle.std.proofs.Common.{◌<◌, ◌∙◌, subst, sym}
use Rattle.std.proofs.lemmas.List.{length-map}
use Rattle.std.proofs.lemmas.Result.{on_ok_weaker}
use Rattle.link_trace.proofs.Changed.{pushed}
use Rattle.link_trace.proofs.places.Place.push.Goals as goal

pub index_mut-requires : goal.index_mut-requires
index_mut-requires c =
    let queues = c.args.self.now.waiting in
    subst (λ n. c.args.sender < n) (length-map queues.items (λ q. q.items) ∙ sym queues.ok.0) c.requires

pub returns-clause-waiting : goal.returns-clause-waiting
returns-clause-waiting c =
    let queues = c.args.self.now.waiting in
    let low = subst (λ n. c.args.sender < n) (length-map queues.items (λ q. q.items)) c.requires in
    on_ok_weaker c.push_behind.result
    (pushed (λ q. q.items) queues.items c.args.sender c.index_mut.result.now c.push_behind.new.queue
    c.index_mut.ensures.value low c.args.msg)
    c.push_behind.ensures
