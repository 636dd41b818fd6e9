use Rattle.std.proofs.Common.{◌∙◌, ap, subst, List}
use Rattle.epoch_tags.specs.declared.tuple.Tuple.{Tuple}
use Rattle.reshuffler_core.specs.Batches.{cut}
use Rattle.reshuffler_core.specs.Law.{FeederStart}
use Rattle.reshuffler_core.specs.Standing.{StandsFor}
use Rattle.actor_core.specs.Lists.{no_lists, feeder_lists}
use Rattle.actor_core.proofs.UptoEnd.{batches_upto}
use Rattle.actor_core.proofs.waves.feeder_in_wave.Goals as goal

pub returns-clause-stands : goal.returns-clause-stands
returns-clause-stands c =
    let setting = c.args.setting.now in
    let line = c.args.line.now in
    let batches = ap (cut setting.batch) c.in_ok-load.ensures
    ∙ batches_upto c.args.end c.args.input.now c.requires.end setting line c.args.p c.requires.feeder in
    subst (λ (bs : List (List Tuple)). StandsFor (record {
      k = setting.k;
      epoch = line.epoch;
      shift = line.shift;
      batches = bs;
    }) (feeder_lists no_lists) c.start_at.result) batches
    (subst (λ (start : FeederStart). StandsFor start (feeder_lists no_lists) c.start_at.result)
    c.start_at.ensures.start c.start_at.ensures.fresh)
