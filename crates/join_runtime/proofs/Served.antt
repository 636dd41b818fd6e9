-- A seat at work has a mouth for each actor to which its machine may send.
use Rattle.std.proofs.Common.{◌≡◌, ◌∙◌, ◌==◌, ◌++◌, ◌<◌, ℕ, Bool, true, false, Option, Some, None, List, [], ◌∷◌, ap}
use Rattle.std.proofs.Common.{arith}
use Rattle.std.proofs.Common.{eqb-true}
use Rattle.std.proofs.Common.{get_or, length, map, refl, set, subst, sym}
use borrow.Author.Tests.{eqb-false}
use Rattle.std.specs.Prelude.{IsSome}
use Rattle.std.proofs.Math.Seq.{get_or-append_seam}
use Rattle.std.proofs.lemmas.List.{get_or-set_other, get_or-set_same, length-append}
use Rattle.epoch_tags.specs.declared.actor.Actor.{Actor}
use Rattle.epoch_tags.specs.declared.message.Post.{Post}
use Rattle.ruled_links.specs.Ends.{Sending}
use Rattle.pair_collector.specs.Law.{CollectorLists}
use Rattle.pair_collector.specs.Standing.{CollectorState, StandsFor as CollectorStands}
use Rattle.actor_core.specs.declared.cast.Cast.{Cast}
use Rattle.actor_core.specs.Lists.{ActorLists, Cause, collector_lists, with_event}
use Rattle.actor_core.specs.Standing.{Event, OfCollector, OfController, OfFeeder, OfJoiner, Start, Stands}
use Rattle.actor_core.specs.declared.machines.Core.{Core}
use Rattle.actor_core.specs.declared.machines.Core.TheVariants.{Collector as TheCollector}
use Rattle.join_runtime.specs.Views.{address_of}
use Rattle.join_runtime.specs.Serving.{HasMouth, HaveMouths, IsServed}
use Rattle.join_runtime.proofs.FramePlaces.{address_at, some_address}

some_mouth : (o : Option Sending) → IsSome (address_of o) → IsSome o
some_mouth None is = is
some_mouth (Some mouth) is = refl

-- ---- mouths of the same addresses

module _ (cast : Cast) (old new : List (Option Sending))
    (same : map address_of new ≡ map address_of old) where
  mouth_still : (n : ℕ) → IsSome (get_or old n None) → IsSome (get_or new n None)
  mouth_still n there =
      some_mouth (get_or new n None)
      (subst IsSome (sym (address_at old n) ∙ (ap (λ xs. get_or xs n None) (sym same) ∙ address_at new n))
      (some_address (get_or old n None) there))

  -- where an actor had a mouth, it has one
  pub has_still : (to : Actor) → HasMouth cast old to → HasMouth cast new to
  has_still to has = record { place = has.place; is = has.is; there = mouth_still has.place has.there }

  -- so do the receivers of posts
  pub have_still : (posts : List Post) → HaveMouths cast old posts → HaveMouths cast new posts
  have_still posts have n d low = has_still (get_or posts n d).to (have n d low)

  -- a machine that is served, is served still after an event
  pub served_after : (cause : Cause) (core core' : Core) (posts : List Post) → Event cause core core' posts
      → IsServed cast old core → IsServed cast new core'
  served_after cause core core' posts event served = record {
    start = served.start;
    lists = with_event cause posts served.lists;
    stands = event.stands served.start served.lists served.stands;
    go = λ ps out. have_still ps (served.go ps out);
  }

module _ (cast : Cast) (mouths : List (Option Sending)) where
  -- what a machine that is served posts has mouths
  pub posts_served : (cause : Cause) (core core' : Core)
      (posts none sends : List Post) → none ≡ [] → sends ≡ none ++ posts → Event cause core core' posts
      → IsServed cast mouths core → HaveMouths cast mouths sends
  posts_served cause core core' posts none sends empty are event served =
      subst (HaveMouths cast mouths) (sym (are ∙ ap (λ ps. ps ++ posts) empty))
      (served.go posts (event.over served.start served.lists served.stands))

-- where the receivers of posts have mouths, the next one's has
pub have_next : (cast : Cast) (mouths : List (Option Sending)) (before : List Post) (post : Post)
    (rest : List Post) → HaveMouths cast mouths (before ++ post ∷ rest)
    → HasMouth cast mouths post.to
have_next cast mouths before post rest have =
    subst (λ (p : Post). HasMouth cast mouths p.to) (get_or-append_seam before post rest post)
    (have (length before) post
    (subst (λ n. length before < n) (sym (length-append before (post ∷ rest))) (omega arith)))

-- ---- one mouth more

some_put : (mouths : List (Option Sending)) (place : ℕ) (mouth : Sending) (n : ℕ) → place < length mouths
    → IsSome (get_or mouths n None) → IsSome (get_or (set mouths place (Some mouth)) n None)
some_put mouths place mouth n low there = go (n == place) refl
  where
    go : (b : Bool) → (n == place) ≡ b → IsSome (get_or (set mouths place (Some mouth)) n None)
    go true e = subst (λ z. IsSome (get_or (set mouths place (Some mouth)) z None)) (sym (eqb-true n place e))
        (subst IsSome (sym (get_or-set_same mouths place (Some mouth) None low)) refl)
    go false e = subst IsSome (sym (get_or-set_other mouths place n (Some mouth) None (eqb-false n place e))) there

-- a machine that is served is served with a mouth more
pub served_put : (cast : Cast) (mouths : List (Option Sending)) (place : ℕ) (mouth : Sending) (core : Core)
    → place < length mouths → IsServed cast mouths core
    → IsServed cast (set mouths place (Some mouth)) core
served_put cast mouths place mouth core low served = record {
  start = served.start;
  lists = served.lists;
  stands = served.stands;
  go = λ posts out n d low'.
      let has = served.go posts out n d low' in
      record { place = has.place; is = has.is; there = some_put mouths place mouth has.place low has.there };
}

-- ---- a collector gives pairs

collects : (start : Start) (ls : ActorLists) (c c' : CollectorState)
    → ((joiners : ℕ) (lists : CollectorLists) → CollectorStands joiners lists c → CollectorStands joiners lists c')
    → Stands start ls (TheCollector c) → Stands start ls (TheCollector c')
collects (OfFeeder p feeders s) ls c c' keeps st = absurd st
collects (OfJoiner s) ls c c' keeps st = absurd st
collects (OfController s) ls c c' keeps st = absurd st
collects (OfCollector joiners) ls c c' keeps st = keeps joiners (collector_lists ls) st

-- a collector that stands for what it stood for is served still
pub served_collector : (cast : Cast) (mouths : List (Option Sending)) (c c' : CollectorState)
    → ((joiners' : ℕ) (lists : CollectorLists) → CollectorStands joiners' lists c → CollectorStands joiners' lists c')
    → IsServed cast mouths (TheCollector c) → IsServed cast mouths (TheCollector c')
served_collector cast mouths c c' keeps served = record {
  start = served.start;
  lists = served.lists;
  stands = collects served.start served.lists c c' keeps served.stands;
  go = served.go;
}
