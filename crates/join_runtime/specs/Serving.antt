-- A seat at work has a mouth for each actor to which its machine may send.
use Rattle.std.specs.Prelude.{◌≡◌, ◌<◌, ℕ, Option, Some, None, IsSome, All, List, length, slice_index_or}
use Rattle.epoch_tags.specs.declared.actor.Actor.{Actor}
use Rattle.epoch_tags.specs.declared.message.Post.{Post}
use Rattle.ruled_links.specs.Ends.{Sending}
use Rattle.actor_core.specs.declared.cast.Cast.{Cast}
use Rattle.actor_core.specs.Lists.{ActorLists}
use Rattle.actor_core.specs.Standing.{GoOut, Start, Stands}
use Rattle.actor_core.specs.Numbers.{number}
use Rattle.actor_core.specs.declared.machines.Core.{Core}
use Rattle.join_runtime.specs.Views.{SeatView}

-- there is a mouth for this actor of the run
pub record HasMouth (cast : Cast) (mouths : List (Option Sending)) (to : Actor) : Type 0 where
  pub place : ℕ
  pub is : number cast to ≡ Some place
  pub there : IsSome (slice_index_or mouths place None)

-- so there is for the receiver of each of these posts
abbrev pub HaveMouths : Cast → List (Option Sending) → List Post → Type 0
HaveMouths cast mouths posts = All (λ (post : Post). HasMouth cast mouths post.to) posts

-- the machine began in some way and stands for some lists, and there is a mouth for each post of one that began so
pub record IsServed (cast : Cast) (mouths : List (Option Sending)) (core : Core) : Type 0 where
  pub start : Start
  pub lists : ActorLists
  pub stands : Stands start lists core
  pub go : (posts : List Post) → GoOut start posts → HaveMouths cast mouths posts

-- so it is of the machine and the mouths of each seat
abbrev pub AllServed : List SeatView → Type 0
AllServed seats = (n : ℕ) (d : SeatView) → n < length seats
    → IsServed (slice_index_or seats n d).cast (slice_index_or seats n d).mouths
    (slice_index_or seats n d).core
