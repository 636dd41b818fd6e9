use Rattle.std.proofs.Common.{ap, ◌∙◌, ◌++◌}
use Rattle.joiner_core.proofs.StoreLists.{own-access, own-key, probe-is, widths-of}
use Rattle.joiner_core.proofs.stock.probe.Goals as goal

pub find_uncounted-requires-clause-widths : goal.find_uncounted-requires-clause-widths
find_uncounted-requires-clause-widths c =
    widths-of c.args.theta.now c.args.store.now c.are_sided.ensures c.requires.stock.rows

pub find_uncounted-requires-clause-own : goal.find_uncounted-requires-clause-own
find_uncounted-requires-clause-own c = own-key c.args.theta.now c.args.store.now.key c.requires.stock.key

pub find_uncounted-requires-clause-access : goal.find_uncounted-requires-clause-access
find_uncounted-requires-clause-access c =
    own-access c.args.theta.now c.args.store.now.access c.requires.stock.access

pub returns : goal.returns
returns c =
    c.in_ok-find_uncounted.ensures.ok
    ∙ ap (λ ps. c.args.found.now ++ ps)
    (probe-is c.args.theta.now c.args.tuple.now c.args.which c.args.store.now c.are_sided.ensures)
