use Rattle.std.proofs.Common.{subst, sym}
use Rattle.actor_core.specs.Lists.{no_lists}
use Rattle.actor_core.specs.Numbers.{count_of}
use Rattle.link_trace.specs.FirstWorlds.{new_world}
use Rattle.link_trace.specs.Worlds.{IsSquare, StandsForSome, WorldState}
use Rattle.link_trace.proofs.Beginnings.{is_new, new_stands, none_square}
use Rattle.link_trace.proofs.world.World.of_cores.Goals as goal

pub invariant_of-result : goal.invariant_of-result
invariant_of-result c =
    let cast = c.args.cast in
    let cores = c.args.cores.items in
    let new = c.requires.new in
    let is = sym (is_new cast cores c.args.count c.in_ok-places.places.items new.stand.all c.requires.count
    c.in_ok-places.ensures.cores c.in_ok-places.ensures.waiting) in
    let some : StandsForSome (new_world cast cores) = record {
      task = new.task;
      lists = λ actor. no_lists;
      stands = new_stands new.task cast cores new.stand;
    }
    in
    record {
      square = λ going. subst (λ (w : WorldState). IsSquare (count_of cast) w.waiting) is (none_square (count_of cast));
      stands = λ going. ∣ subst StandsForSome is some ∣₁;
    }

pub returns-clause-state : goal.returns-clause-state
returns-clause-state c =
    is_new c.args.cast c.args.cores.items c.args.count c.in_ok-places.places.items c.requires.new.stand.all
    c.requires.count
    c.in_ok-places.ensures.cores c.in_ok-places.ensures.waiting
