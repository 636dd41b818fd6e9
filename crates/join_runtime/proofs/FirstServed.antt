-- New seats whose mouths all came to their senders are served.
use Rattle.std.proofs.Common.{◌≡◌, Some, ◌<◌, List, arith, get_or, length, refl, subst, sym}
use Rattle.std.proofs.Common.{false}
use Rattle.std.proofs.lemmas.List.Elements.{All-nil}
use Rattle.epoch_tags.specs.declared.actor.Actor.{Actor}
use Rattle.epoch_tags.specs.declared.actor.Actor.TheVariants.{Feeder, Joiner, Controller, Collector}
use Rattle.epoch_tags.specs.declared.message.Post.{Post}
use Rattle.epoch_tags.specs.Posts.{AllGoOver, GoesOver}
use Rattle.actor_core.specs.declared.cast.Cast.{Cast}
use Rattle.actor_core.specs.declared.machines.Core.{Core}
use Rattle.actor_core.specs.Families.{IsActor, start_for}
use Rattle.actor_core.specs.Lists.{no_lists}
use Rattle.actor_core.specs.Numbers.{actor_at, cast_of, count_of, number}
use Rattle.actor_core.specs.Standing.{GoOut}
use Rattle.actor_core.specs.Tasks.{Task}
use Rattle.actor_core.proofs.OwnNumbers.{is_actor, number_there}
use Rattle.join_runtime.specs.Views.{SeatView}
use Rattle.join_runtime.specs.Seating.{AreFirst, AreFresh, AreSeated}
use Rattle.join_runtime.specs.Serving.{AllServed, HaveMouths, IsServed}
use Rattle.join_runtime.proofs.Built.{machine_there, seat_cast}
use Rattle.join_runtime.proofs.MouthLinks.{slot_there}
use Rattle.join_runtime.proofs.Starts.{many, seated_by}

-- what an actor of a run posts goes over its links
goes_over : (task : Task) (a : Actor) (posts : List Post) → IsActor task.setting a
    → GoOut (start_for task a) posts → AllGoOver task.setting.k task.setting.feeders a posts
goes_over task (Feeder p) posts is out = out is
goes_over task (Joiner j) posts is out = out
goes_over task Controller posts is out = out
goes_over task Collector posts is out =
    subst (AllGoOver task.setting.k task.setting.feeders Collector) (sym out)
    (All-nil (GoesOver task.setting.k task.setting.feeders Collector))

module _ (task : Task) (cores : List Core) (seats : List SeatView)
    (seated : AreSeated (cast_of task.setting) cores seats)
    (many : length cores ≡ count_of (cast_of task.setting)) (fresh : AreFresh task (length cores) cores) where
  -- the seats of the first machines of a task are served
  pub served_first : AllServed seats
  served_first n d low =
      let cast = cast_of task.setting in
      let low' : n < length cores = omega (arith, low, seated.filled.all, seated.new.all) in
      let a = actor_at cast n in
      let is : number cast a ≡ Some n = number_there cast n (subst (λ z. n < z) many low') in
      let own = is_actor task.setting cast a n refl is in
      let go : (posts : List Post) → GoOut (start_for task a) posts → HaveMouths cast (get_or seats n d).mouths posts =
      λ posts out i p within.
      let goes = goes_over task a posts own out i p within in
      let slot = slot_there task.setting cores seats seated many false a (get_or posts i p).to n d goes.link is in
      record { place = slot.0; is = slot.1; there = slot.2 } in
      let served : IsServed cast (get_or seats n d).mouths (get_or seats n d).core = record {
        start = start_for task a;
        lists = no_lists;
        stands = machine_there task cores seats seated many fresh n d low';
        go = go;
      } in
      subst (λ c. IsServed c (get_or seats n d).mouths (get_or seats n d).core)
      (sym (seat_cast task cores seats seated many n d low')) served

-- so they are where those of the setting take part
pub served_seated : (cast : Cast) (cores : List Core) (seats : List SeatView)
    → length cores ≡ count_of cast → AreFirst cast cores → AreSeated cast cores seats
    → AllServed seats
served_seated cast cores seats all begun seated =
    let is = begun.cast_is in
    served_first begun.task cores seats (seated_by begun.task cast cores seats is all seated)
    (many begun.task cast cores seats is all seated) begun.fresh
