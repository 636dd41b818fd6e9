use Rattle.std.proofs.Common.{ap, ◌∙◌, length}
use Rattle.joiner_core.proofs.StoreLists.{count-side}
use Rattle.joiner_core.proofs.stock.count.Goals as goal

pub returns : goal.returns
returns c =
    c.len.ensures
    ∙ ap length c.side.ensures.tuples
    ∙ count-side c.args.side c.args.store.now c.are_sided.ensures
