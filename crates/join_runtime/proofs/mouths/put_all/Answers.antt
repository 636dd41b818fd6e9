use Rattle.std.proofs.Common.{◌≡◌, ◌∙◌, ◌++◌, ◌∷◌, [], ap, append_assoc, subst, sym}
use Rattle.join_runtime.specs.Serving.{HaveMouths}
use Rattle.join_runtime.proofs.MouthPosts.{sent_through-more}
use Rattle.join_runtime.proofs.Served.{has_still, have_next}
use Rattle.join_runtime.proofs.mouths.put_all.Goals as goal

pub put_post-requires : goal.put_post-requires
put_post-requires g c =
    let is = c.loop-post.invariant in
    let post = c.in-Some.post in
    let rest = c.next.new.self.rest.items in
    let first : c.loop-post.post-iterator.rest.items ≡ post ∷ rest = c.in-Some.ensures.steps.0 in
    let all = ap (λ ps. c.loop-post.yielded ++ ps) (sym first) ∙ is.left in
    let have = subst (HaveMouths c.args.cast c.args.mouths.now.items) (sym all) c.requires in
    has_still c.args.cast c.args.mouths.now.items c.loop-post.mouths.items is.same post.to
    (have_next c.args.cast c.args.mouths.now.items c.loop-post.yielded post rest have)

pub loop-post-preserved : goal.loop-post-preserved
loop-post-preserved g c =
    let post = c.in-Some.post in
    let first : c.loop-post.post-iterator.rest.items ≡ post ∷ c.next.new.self.rest.items = c.in-Some.ensures.steps.0 in
    record {
      left = append_assoc c.loop-post.yielded (post ∷ []) c.next.new.self.rest.items
          ∙ (ap (λ ps. c.loop-post.yielded ++ ps) (sym first) ∙ c.loop-post.invariant.left);
      same = c.put_post.ensures.same ∙ c.loop-post.invariant.same;
      sent = sent_through-more c.args.cast c.args.mouths.now.items c.loop-post.mouths.items
          c.put_post.new.mouths.items c.loop-post.yielded c.in-Some.post c.loop-post.invariant.sent
          c.in_ok-put_post.ensures.sent;
    }
