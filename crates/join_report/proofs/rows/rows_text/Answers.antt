use Rattle.std.proofs.Common.{◌≡◌, ◌∙◌, ap, take, arith}
use Rattle.std.proofs.lemmas.List.{take_all}
use Rattle.csv.specs.Reading.{default_config, records}
use Rattle.join_report.specs.RowLines.{row_lines}
use Rattle.join_report.proofs.RowSteps.{row_lines-more}
use Rattle.join_report.proofs.RowsRead.{kept_text, records-row_lines}
use Rattle.join_report.proofs.rows.rows_text.Goals as goal

pub loop-pair-preserved : goal.loop-pair-preserved
loop-pair-preserved c =
    let rows_r = c.args.rows_r.now in
    let rows_s = c.args.rows_s.now in
    rw (row_lines-more rows_r rows_s c.args.pairs.now c.loop-pair.pair-index (record { i = 0; j = 0 }) (omega arith))
    (c.in_ok-write_row.ensures (row_lines rows_r rows_s (take c.loop-pair.pair-index c.args.pairs.now))
    c.loop-pair.invariant)

pub returns-in-Ok-clause-reads : goal.returns-in-Ok-clause-reads
returns-in-Ok-clause-reads c =
    let all : take c.loop-pair.pair-index c.args.pairs.now ≡ c.args.pairs.now = take_all _ _ (omega arith) in
    let text = c.from_vec.ensures ∙ kept_text _ c.in-Ok.text.items _ c.in-Ok.ensures.ok c.loop-pair.invariant.text_is
    ∙ ap (row_lines c.args.rows_r.now c.args.rows_s.now) all in
    ap (records default_config) text ∙ records-row_lines c.args.rows_r.now c.args.rows_s.now c.args.pairs.now
