use Rattle.std.proofs.Common.{[], ap, map, ◌∙◌}
use Rattle.std.specs.declared.alloc.Global.{Global}
use Rattle.std.specs.declared.collections.VecDeque.{VecDeque}
use Rattle.epoch_tags.specs.declared.message.Msg.{Msg}
use Rattle.link_trace.proofs.Beginnings.{one_more}
use Rattle.link_trace.proofs.places.no_messages.Goals as goal

pub loop-preserved : goal.loop-preserved
loop-preserved c =
    ap (map (λ (queue : VecDeque Msg Global). queue.items)) c.in_ok-push.ensures.items
    ∙ one_more (λ (queue : VecDeque Msg Global). queue.items) c.loop.waiting.items c.new.result c.loop.counter []
    c.loop.invariant c.new.ensures.items
