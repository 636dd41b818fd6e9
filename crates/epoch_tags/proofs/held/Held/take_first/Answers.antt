use Rattle.std.proofs.Common.{ap, sym, ◌∙◌, set}
use Rattle.epoch_tags.proofs.Queues.{put-queue, at-queue, new-queue, popped, same-popped}
use Rattle.epoch_tags.proofs.held.Held.take_first.Goals as goal

pub returns-clause-rest : goal.returns-clause-rest
returns-clause-rest g c =
    put-queue (λ q. q.items) c.self.inside.queues.items c.args.sender c.pop_front.new.self c.args.self.now
    c.self.view_is
    ∙ ap (λ z. set c.args.self.now c.args.sender z) (sym (new-queue (λ q. q.items)
    c.self.inside.queues.items c.args.sender c.pop_front.new.self c.args.self.now c.self.view_is c.requires))

pub returns-clause-first : goal.returns-clause-first
returns-clause-first g c =
    same-popped c.pop_front.result c.index_mut-queue.result.now.items c.pop_front.new.self.items _ _
    (at-queue (λ q. q.items) c.self.inside.queues.items c.args.sender c.index_mut-queue.result.now _ c.args.self.now
    c.self.view_is c.requires c.index_mut-queue.ensures.value)
    (sym (new-queue (λ q. q.items) c.self.inside.queues.items c.args.sender c.pop_front.new.self c.args.self.now
    c.self.view_is c.requires))
    (popped c.pop_front.result c.index_mut-queue.result.now.items c.pop_front.new.self.items c.pop_front.ensures.items
    c.pop_front.ensures.rest)
