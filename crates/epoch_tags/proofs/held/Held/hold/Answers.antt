use Rattle.std.proofs.Common.{ap, ◌∙◌, ◌++◌, ◌∷◌, [], set}
use Rattle.std.proofs.lemmas.List.{set-get_or}
use Rattle.epoch_tags.proofs.Queues.{put-queue, at-queue, on-err}
use Rattle.epoch_tags.proofs.held.Held.hold.Goals as goal

pub returns-clause-ok : goal.returns-clause-ok
returns-clause-ok g c =
    put-queue (λ q. q.items) c.self.inside.queues.items c.args.sender c.push_behind.new.queue c.args.self.now
    c.self.view_is
    ∙ ap (λ z. set c.args.self.now c.args.sender z) (c.in_ok-push_behind.ensures.ok
    ∙ ap (λ z. z ++ c.args.m ∷ []) (at-queue (λ q. q.items)
    c.self.inside.queues.items c.args.sender c.index_mut-queue.result.now _ c.args.self.now c.self.view_is
    c.requires c.index_mut-queue.ensures.value))

pub returns-in_err-push_behind-clause-err : goal.returns-in_err-push_behind-clause-err
returns-in_err-push_behind-clause-err g c = on-err c.from_residual.result
    (put-queue (λ q. q.items) c.self.inside.queues.items c.args.sender c.push_behind.new.queue c.args.self.now
    c.self.view_is
    ∙ ap (λ z. set c.args.self.now c.args.sender z) (c.in_err-push_behind.ensures.err
    ∙ at-queue (λ q. q.items) c.self.inside.queues.items c.args.sender c.index_mut-queue.result.now _
    c.args.self.now c.self.view_is c.requires c.index_mut-queue.ensures.value)
    ∙ set-get_or c.args.self.now c.args.sender [])
