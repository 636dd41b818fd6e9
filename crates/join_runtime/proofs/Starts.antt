-- Seats at the start of a run or of a wave, from what each call that makes them says.
use Rattle.std.proofs.Common.{◌≡◌, ℕ, ◌+◌, ◌^◌, ◌↔◌, ◌++◌, refl, sym, ap, subst, ◌∙◌, Bool, List, [], ◌∷◌, map, length}
use Rattle.std.proofs.Common.{inl, inr}
use Rattle.std.specs.Prelude.{IsSome}
use Rattle.std.proofs.lemmas.List.{length-append}
use Rattle.epoch_tags.specs.declared.actor.Actor.{Actor}
use Rattle.epoch_tags.specs.Links.{HasLink}
use Rattle.pair_collector.specs.Standing.{nothing_yet}
use Rattle.theta_pred.specs.Formula.{Meaning}
use Rattle.actor_core.specs.declared.cast.Cast.{Cast}
use Rattle.actor_core.specs.Numbers.{cast_of, count_of}
use Rattle.actor_core.specs.Elements.{IsAllAt}
use Rattle.actor_core.specs.declared.machines.Core.{Core}
use Rattle.actor_core.specs.Lists.{no_lists}
use Rattle.actor_core.specs.Standing.{JoinsBy}
use Rattle.actor_core.specs.Rests.{AreMade}
use Rattle.actor_core.specs.Tasks.{Task}
use Rattle.actor_core.proofs.OwnNumbers.{none_some}
use Rattle.actor_core.proofs.WaveBeginnings.{last_is}
use Rattle.join_runtime.specs.Views.{SeatView, frame_of}
use Rattle.join_runtime.specs.Joins.{AreJoined, AreSettled}
use Rattle.join_runtime.specs.Bouts.{SeatsView, StandsFor, lists_in, mouth_of}
use Rattle.join_runtime.specs.Seating.{IsFresh, AreFresh, AreSeated}
use Rattle.join_runtime.specs.Early.{AreGiven, given_in}
use Rattle.join_runtime.proofs.Built.{all_joined, all_empty, all_join, all_settled, all_stand, none_given}
use Rattle.join_runtime.proofs.MouthLinks.{all_linked}

-- the machines of a wave at its beginning are fresh
pub made_fresh : (task : Task) (count : ℕ) (cores : List Core) → AreMade task count cores
    → AreFresh task (length cores) cores
made_fresh task count cores made = record {
  all = refl;
  each = λ n core is. let own = made.each n core is in
      record { stands = own.stands; live = own.live; given = own.given };
}

module _ (task : Task) where
  -- no machine is yet there
  pub none_fresh : AreFresh task 0 []
  none_fresh = record { all = refl; each = λ n core is. absurd (none_some core is) }

  -- one machine more
  pub one_fresh : (n : ℕ) (cores : List Core) (core : Core) → AreFresh task n cores → IsFresh task n core
      → AreFresh task (n + 1) (cores ++ core ∷ [])
  one_fresh n cores core fresh own = record {
    all = length-append cores (core ∷ []) ∙ ap (λ z. z + 1) fresh.all;
    each = λ m other is. elim (last_is cores core other m is) [
      | inl there ↦ fresh.each m other there
      | inr last ↦
          subst (λ z. IsFresh task z other) (sym fresh.all ∙ sym last.0) (subst (IsFresh task n) last.1 own)
    ];
  }

module _ (task : Task) (cast : Cast) (cores : List Core) (seats : List SeatView) (is : cast ≡ cast_of task.setting)
    (all : length cores ≡ count_of cast) (seated : AreSeated cast cores seats) where
  abbrev view : Bool → Cast → SeatsView
  view spent c = record { cast = c; seats = seats; spent = spent }

  -- there are as many machines as actors of the setting
  pub many : length cores ≡ count_of (cast_of task.setting)
  many = all ∙ ap count_of is

  -- the seats are those of the setting
  pub seated_by : AreSeated (cast_of task.setting) cores seats
  seated_by = subst (λ c. AreSeated c cores seats) is seated

  -- as many new seats as the run has actors are joined once each mouth came to its sender
  pub start_joined : AreJoined cast (map frame_of seats)
  start_joined = subst (λ c. AreJoined c (map frame_of seats)) (sym is) (all_joined task cores seats seated_by many)

  -- no actor of them has received or sent anything
  pub start_empty : (spent : Bool) (a : Actor) → lists_in (view spent cast) a ≡ no_lists
  start_empty spent a = subst (λ c. lists_in (view spent c) a ≡ no_lists) (sym is)
      (all_empty task cores seats seated_by many spent a)

  -- an actor of them has a mouth to another exactly where there is a link between the two
  pub start_linked : (spent : Bool) (from to : Actor)
      → (IsSome (mouth_of (view spent cast) from to) ↔ HasLink task.setting.k task.setting.feeders from to)
  start_linked spent from to =
      subst (λ c. IsSome (mouth_of (view spent c) from to) ↔ HasLink task.setting.k task.setting.feeders from to)
      (sym is) (all_linked task.setting cores seats seated_by many spent from to)

  -- their joiners join by the predicate by which the machines did
  pub start_joins : (theta : Meaning) → IsAllAt (JoinsBy theta) cores
      → IsAllAt (JoinsBy theta) (map (λ (s : SeatView). s.core) seats)
  start_joins = all_join task cores seats seated_by many

  module _ (fresh : AreFresh task (length cores) cores) where
    -- they heard senders alone, none of their machines is spent, and what is left on each link is known
    pub start_settled : AreSettled seats
    start_settled = all_settled task cores seats seated_by many fresh

    -- each machine began as the task says and stands for the lists of its seat
    pub start_stands : (spent : Bool) → StandsFor task (view spent cast)
    start_stands spent = subst (λ c. StandsFor task (view spent c)) (sym is)
        (all_stand task cores seats seated_by many fresh spent)

    -- their collector has given no pair of any joiner
    pub start_given : (spent : Bool) → AreGiven (2 ^ task.setting.k) nothing_yet (given_in (view spent cast))
    start_given spent = subst (λ c. AreGiven (2 ^ task.setting.k) nothing_yet (given_in (view spent c))) (sym is)
        (none_given task cores seats seated_by many fresh spent)
