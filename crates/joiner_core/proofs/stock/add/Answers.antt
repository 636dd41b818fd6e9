use Rattle.std.proofs.Common.{ap, ◌∙◌}
use Rattle.store_parts.specs.Stored.{Stored}
use Rattle.joiner_core.specs.State.{stocked_of}
use Rattle.joiner_core.proofs.StoreLists.{stocked-with}
use Rattle.joiner_core.proofs.stock.add.Goals as goal

pub returns : goal.returns
returns c =
    ap (λ (z : Stored). stocked_of z) c.in_ok-add.ensures.ok
    ∙ stocked-with c.args.store.now c.args.tuple c.are_sided.ensures
