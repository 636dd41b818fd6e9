-- What a machine that would not begin stands for.
use Rattle.std.proofs.Common.{ℕ, ◌<◌, ◌⊎◌, inl, inr, ap, List, arith}
use Rattle.epoch_tags.specs.Messages.{asks, draineds, grants}
use Rattle.epoch_tags.specs.declared.message.ToFeeder.{ToFeeder}
use Rattle.reshuffler_core.specs.Law.{FeederLaw, FeederStart}
use Rattle.reshuffler_core.proofs.TakesAll.{taken_is_one}
use Rattle.actor_core.specs.Lists.{ActorLists, feeder_lists}
use Rattle.actor_core.specs.Standing.{OfFeeder, Stands, Waits}
use Rattle.actor_core.specs.declared.machines.Core.{Core}
use Rattle.actor_core.specs.declared.machines.Core.TheVariants.{Feeder as TheFeeder, Joiner as TheJoiner}
use Rattle.actor_core.specs.declared.machines.Core.TheVariants.{Controller as TheController, Collector as TheCollector}

-- a feeder that waits has drained, or its last batch isn't granted
pub waits_says : (p feeders : ℕ) (s : FeederStart) (ls : ActorLists) (core : Core) (taken : List ToFeeder)
    → Stands (OfFeeder p feeders s) ls core → FeederLaw s (feeder_lists ls) taken → Waits core
    → (0 < draineds (feeder_lists ls).to_controller) ⊎ (grants taken < asks (feeder_lists ls).to_controller)
waits_says p feeders s ls (TheFeeder f) taken st law (inl asked) =
    let one = st.asked.0 asked in
    let same = ap grants (taken_is_one s (feeder_lists ls) st.taken taken st.law law) in
    inr (omega (arith, one, same))
waits_says p feeders s ls (TheFeeder f) taken st law (inr drained) = inl (st.drained.0 drained)
waits_says p feeders s ls (TheJoiner c) taken st law waits = absurd st
waits_says p feeders s ls (TheController c) taken st law waits = absurd st
waits_says p feeders s ls (TheCollector c) taken st law waits = absurd st
