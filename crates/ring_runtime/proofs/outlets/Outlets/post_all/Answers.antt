use Rattle.std.proofs.Common.{◌∙◌}
use Rattle.ring_runtime.proofs.RowPosts.{sent_through-more}
use Rattle.ring_runtime.proofs.outlets.Outlets.post_all.Goals as goal

pub loop-post-preserved : goal.loop-post-preserved
loop-post-preserved c = record {
  same = c.post.ensures.rings ∙ c.loop-post.invariant.same;
  sent = sent_through-more c.args.cast c.args.self.now c.loop-post.self c.post.new.self
      c.loop-post.yielded c.in-Some.post c.loop-post.invariant.sent c.in_ok-post.ensures.sent;
}
