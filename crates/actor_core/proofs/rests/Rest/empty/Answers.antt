use Rattle.std.proofs.Common.{◌∙◌}
use Rattle.actor_core.proofs.EmptyRest.{empty_is, empty_stands}
use Rattle.actor_core.proofs.rests.Rest.empty.Goals as goal

pub returns-clause-first : goal.returns-clause-first
returns-clause-first c setting grid same =
    empty_is c.args.theta.now c.args.k c.unwrap_or-shift.result c.args.fixed c.in_ok-stores.stores
    c.unwrap_or-shift.ensures c.in_ok-stores.ensures.first setting grid same

pub returns-clause-stands : goal.returns-clause-stands
returns-clause-stands c input setting valid grid same joined =
    empty_stands c.args.theta.now c.args.k c.unwrap_or-shift.result c.args.fixed c.in_ok-stores.stores
    c.unwrap_or-shift.ensures c.in_ok-stores.ensures.first setting grid same input valid joined
    (c.in_ok-stores.ensures.many ∙ c.power.ensures)
