use Rattle.std.proofs.Common.{◌≡◌, ◌∙◌, ◌++◌, ◌∷◌, [], zero, suc, ap, refl, subst, sym}
use Rattle.epoch_tags.specs.declared.message.Post.{Post}
use Rattle.actor_core.specs.Elements.{IsAllAt}
use Rattle.actor_core.specs.Numbers.{count_of}
use Rattle.link_trace.specs.Worlds.{HasNumber, IsSquare, waiting_of, with_posts}
use Rattle.link_trace.proofs.Squares.{square_left}
use Rattle.link_trace.proofs.sending.send_all.Goals as goal

pub send-requires-clause-receiver : goal.send-requires-clause-receiver
send-requires-clause-receiver c =
    let first : c.loop-post.post-iterator.rest.items ≡ c.in-Some.post ∷ c.next.new.self.rest.items =
    c.in-Some.ensures.steps.0 in
    subst (IsAllAt (λ (post : Post). HasNumber c.args.cast post.to)) first c.loop-post.invariant.receivers zero
    c.in-Some.post refl

pub loop-post-preserved : goal.loop-post-preserved
loop-post-preserved c =
    let post = c.in-Some.post in
    let cast = c.args.cast in
    let is = c.loop-post.invariant in
    let ws = waiting_of c.loop-post.places.items in
    let first : c.loop-post.post-iterator.rest.items ≡ post ∷ c.next.new.self.rest.items = c.in-Some.ensures.steps.0 in
    record {
      cores = c.send.ensures.cores ∙ is.cores;
      square = subst (IsSquare (count_of cast)) (sym c.in_ok-send.ensures.waiting)
          (square_left cast (count_of cast) c.args.from post.to (λ ms. ms ++ post.msg ∷ []) ws is.square);
      receivers = λ n x there.
          subst (IsAllAt (λ (p : Post). HasNumber cast p.to)) first is.receivers (suc n) x there;
      waiting = ap (with_posts cast c.args.from c.next.new.self.rest.items) c.in_ok-send.ensures.waiting
          ∙ ap (λ ps. with_posts cast c.args.from ps ws) (sym first) ∙ is.waiting;
    }
