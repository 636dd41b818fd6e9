use Rattle.std.proofs.Common.{◌∙◌, ap, sym, append_assoc, ◌++◌, ◌∷◌, []}
use Rattle.load_controller.specs.Standing.{to_each, post_to}
use Rattle.load_controller.proofs.LinePosts.{to_each_more}
use Rattle.load_controller.proofs.post.post_to_each.Goals as goal

pub loop-p-preserved : goal.loop-p-preserved
loop-p-preserved c =
    c.in_ok-push.ensures.ok
    ∙ ap (λ posts. posts ++ post_to c.args.m c.loop-p.p ∷ []) c.loop-p.invariant
    ∙ append_assoc c.args.sends.now (to_each c.loop-p.p c.args.m) (post_to c.args.m c.loop-p.p ∷ [])
    ∙ ap (λ posts. c.args.sends.now ++ posts) (sym (to_each_more c.loop-p.p c.args.m))
