use Rattle.std.proofs.Common.{◌<◌, subst, sym}
use Rattle.std.specs.Prelude.{All}
use Rattle.row_cells.specs.declared.table.Side.TheVariants.{R}
use Rattle.group_split.proofs.parts.put_rows.Goals as goal

pub tickets_at-requires : goal.tickets_at-requires
tickets_at-requires c =
    subst (λ many. All (λ index. index < many) c.args.indices.now) (sym (c.requires.input.sides R).each) c.requires.low
