-- What waits in the outlets of a seat after posts.
use Rattle.std.proofs.Common.{◌≡◌, true≢false, refl, sym, ap, ◌∙◌, Bool, true, false, cond, Option, Some, None, List}
use Rattle.std.proofs.Common.{[], ◌∷◌, ◌++◌, append-nil, append_assoc}
use Rattle.std.specs.List.{cons_option}
use Rattle.std.proofs.lemmas.List.Elements.{filter_map-append}
use Rattle.epoch_tags.specs.declared.actor.Actor.{Actor}
use Rattle.epoch_tags.specs.declared.message.Msg.{Msg}
use Rattle.epoch_tags.specs.declared.message.Post.{Post}
use Rattle.ring_links.specs.Outlets.{OutletView}
use Rattle.actor_core.specs.declared.cast.Cast.{Cast}
use Rattle.actor_core.specs.Lists.{same_actor, posted_to}
use Rattle.ring_runtime.specs.Seats.{sent_through}

-- of one post
posted : (b c : Bool) (xs : List Msg) (m : Msg) → b ≡ c
    → cond c (xs ++ m ∷ []) xs ≡ xs ++ cons_option (cond b (Some m) None) []
posted true true xs m e = refl
posted true false xs m e = absurd (true≢false e)
posted false true xs m e = absurd (true≢false (sym e))
posted false false xs m e = sym (append-nil xs)

-- of one post after others
pub sent_through-more : (cast : Cast) (first old new : List (Option OutletView))
    (posts : List Post) (post : Post)
    → ((a : Actor) → sent_through cast old a ≡ sent_through cast first a ++ posted_to a posts)
    → ((a : Actor) → sent_through cast new a ≡ sent_through cast old a ++ posted_to a (post ∷ []))
    → (a : Actor)
    → sent_through cast new a ≡ sent_through cast first a ++ posted_to a (posts ++ post ∷ [])
sent_through-more cast first old new posts post before last a =
    last a ∙ ap (λ ms. ms ++ posted_to a (post ∷ [])) (before a)
    ∙ append_assoc (sent_through cast first a) (posted_to a posts) (posted_to a (post ∷ []))
    ∙ ap (λ ms. sent_through cast first a ++ ms)
    (sym (filter_map-append (λ (p : Post). cond (same_actor p.to a) (Some p.msg) None) posts (post ∷ [])))
