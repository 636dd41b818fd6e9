use Rattle.std.proofs.Common.{◌++◌, ◌∷◌, [], sym, ap, ◌∙◌, append_assoc}
use Rattle.epoch_tags.specs.declared.message.ToJoiner.TheVariants.{Turn}
use Rattle.reshuffler_core.specs.Standing.{post_to, posts_to_all}
use Rattle.reshuffler_core.proofs.FeederPosts.{all-more}
use Rattle.reshuffler_core.proofs.sending.send_turns.Goals as goal

pub loop-id-preserved : goal.loop-id-preserved
loop-id-preserved c =
    let m = Turn c.args.epoch c.args.shift in
    let id = c.loop-id.id in
    c.in_ok-push.ensures.ok ∙ ap (λ posts. posts ++ post_to m id ∷ []) c.loop-id.invariant
    ∙ append_assoc c.args.sends.now (posts_to_all id m) (post_to m id ∷ [])
    ∙ ap (λ posts. c.args.sends.now ++ posts) (sym (all-more m id))
