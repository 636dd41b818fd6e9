use Rattle.std.proofs.Common.{◌≡◌, ◌∙◌, sym, ap, map, subst, ℕ, List}
use Rattle.row_cells.specs.declared.table.Side.TheVariants.{R, S}
use Rattle.epoch_tags.specs.declared.tuple.Tuple.{Tuple}
use Rattle.row_tickets.specs.Share.{share}
use Rattle.reshuffler_core.specs.Batches.{cut}
use Rattle.reshuffler_core.specs.Law.{FeederStart}
use Rattle.reshuffler_core.specs.Standing.{StandsFor, just_begun}
use Rattle.trace_law.specs.Join.{row_count}
use Rattle.trace_law.specs.declared.input.Input.{Input}
use Rattle.trace_law.specs.declared.setting.Setting.{Setting}
use Rattle.trace_law.specs.Family.{tuple_of, feeder_start, first_rest}
use Rattle.trace_law.proofs.First.{all_shares}
use Rattle.actor_core.specs.Lists.{no_lists, feeder_lists}
use Rattle.actor_core.specs.declared.machines.Core.TheVariants.{Feeder as TheFeeder}
use Rattle.actor_core.proofs.Beginnings.{map-cut}
use Rattle.actor_core.proofs.start.feeder.Goals as goal

-- the batches of a feeder's load are its own
own_batches : (input : Input) (setting : Setting) (p : ℕ) (load : List Tuple)
    → load ≡ map (tuple_of input 0) (share setting.feed setting.feeders p (row_count input R) (row_count input S))
    → cut setting.batch load ≡ (feeder_start input setting (first_rest setting) p).batches
own_batches input setting p load is =
    ap (cut setting.batch) is
    ∙ map-cut (tuple_of input 0) setting.batch
    (share setting.feed setting.feeders p (row_count input R) (row_count input S))
    ∙ ap (λ places. map (map (tuple_of input 0)) (cut setting.batch places)) (sym (all_shares input setting p))

-- so it begins as the law says
own_start : (input : Input) (setting : Setting) (p : ℕ) (load : List Tuple) (shift : ℕ) (start : FeederStart)
    → load ≡ map (tuple_of input 0) (share setting.feed setting.feeders p (row_count input R) (row_count input S))
    → shift ≡ (first_rest setting).line.shift
    → start ≡ record { k = setting.k; epoch = 0; shift = shift; batches = cut setting.batch load }
    → start ≡ feeder_start input setting (first_rest setting) p
own_start input setting p load shift start is shift_is start_is =
    let batches = own_batches input setting p load is in
    let begins : feeder_start input setting (first_rest setting) p
    ≡ record { k = setting.k; epoch = 0; shift = shift; batches = cut setting.batch load } =
    λ i. record { k = setting.k; epoch = 0; shift = sym shift_is i; batches = sym batches i } in
    start_is ∙ sym begins

pub returns-clause-stands : goal.returns-clause-stands
returns-clause-stands c =
    let start = own_start c.args.input.now c.args.setting.now c.args.p c.in_ok-load.load c.first_shift-shift.result
    c.start.result.start c.in_ok-load.ensures c.first_shift-shift.ensures c.start.ensures.start in
    subst (λ (start : FeederStart). StandsFor start (feeder_lists no_lists) c.start.result) start c.start.ensures.fresh

pub returns-clause-first : goal.returns-clause-first
returns-clause-first c =
    let start = own_start c.args.input.now c.args.setting.now c.args.p c.in_ok-load.load c.first_shift-shift.result
    c.start.result.start c.in_ok-load.ensures c.first_shift-shift.ensures c.start.ensures.start in
    ap TheFeeder (c.start.ensures.begun ∙ ap just_begun start)
