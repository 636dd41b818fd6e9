use Rattle.std.proofs.Common.{◌++◌, ◌∷◌, [], cond, sym, ap, ◌∙◌, append_assoc}
use Rattle.epoch_tags.specs.declared.message.ToJoiner.TheVariants.{Tup}
use Rattle.migration_plan.specs.Steps.{holds}
use Rattle.reshuffler_core.specs.Law.{stamped}
use Rattle.reshuffler_core.specs.Standing.{post_to, posts_of_tuple}
use Rattle.reshuffler_core.proofs.FeederPosts.{tuple-more}
use Rattle.reshuffler_core.proofs.sending.send_tuple.Goals as goal

pub loop-id-preserved : goal.loop-id-preserved
loop-id-preserved c =
    let id = c.loop-id.id in
    let shape = c.args.shape in
    let t = c.args.tuple.now in
    let one = cond (holds shape.k shape.shift id t) (post_to (Tup (stamped c.args.epoch t)) id ∷ []) [] in
    c.in_ok-send_if_held.ensures ∙ ap (λ posts. posts ++ one) c.loop-id.invariant
    ∙ append_assoc c.args.sends.now (posts_of_tuple shape.k id c.args.epoch shape.shift t) one
    ∙ ap (λ posts. c.args.sends.now ++ posts) (sym (tuple-more shape.k id c.args.epoch shape.shift t))
