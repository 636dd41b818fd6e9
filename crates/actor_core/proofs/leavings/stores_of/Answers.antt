use Rattle.std.proofs.Common.{◌≤◌, ◌++◌, ◌∷◌, [], length, sym, subst, arith}
use Rattle.std.proofs.lemmas.List.{length-append}
use Rattle.actor_core.specs.Leavings.{AreStores}
use Rattle.actor_core.proofs.LeftStores.{gives_one}
use Rattle.actor_core.proofs.leavings.stores_of.Goals as goal

pub loop-core-preserved : goal.loop-core-preserved
loop-core-preserved c =
    let cores = c.loop-core.yielded in
    let core = c.in-Some.core in
    let more = length-append cores (core ∷ []) in
    let left = c.loop-core.invariant.left in
    let none = c.if-before-gt0.false in
    let (given, gives, is) = c.in_ok-add_store.ensures in
    let high : c.args.feeders ≤ length cores = omega (arith, left, none) in
    record {
      left = omega (arith, more, left, none);
      stores = subst (AreStores c.args.feeders (cores ++ core ∷ [])) (sym is)
          (gives_one c.args.feeders cores core c.loop-core.stores given high c.loop-core.invariant.stores gives);
    }
