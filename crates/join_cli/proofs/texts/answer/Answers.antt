use Rattle.std.proofs.Common.{◌<◌, ◌^◌, subst, sym}
use Rattle.std.specs.Prelude.{sum_by}
use Rattle.row_cells.specs.declared.table.Side.TheVariants.{R, S}
use Rattle.trace_law.specs.Join.{matches_of, rows_of}
use Rattle.join_report.specs.Summary.{numbers_of}
use Rattle.join_report.proofs.LoopSums.{loop_sum_fits}
use Rattle.join_cli.proofs.texts.answer.Goals as goal

pub summary_text-requires : goal.summary_text-requires
summary_text-requires c =
    let work = c.args.work.now in
    record {
      small =
          subst (λ pairs. sum_by numbers_of pairs < 2 ^ 64) (sym c.requires)
          (loop_sum_fits (matches_of work.input.now) (rows_of work.input.now R) (rows_of work.input.now S)
          (work.valid_input.sides R).few (work.valid_input.sides S).few);
    }
