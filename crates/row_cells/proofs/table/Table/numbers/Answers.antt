use Rattle.std.proofs.Common.{◌∙◌, arith, refl, sym}
use Rattle.row_cells.proofs.BadCells.{bad-text, good-more, good-text, row-within}
use Rattle.row_cells.proofs.table.Table.numbers.Goals as goal

pub loop-place-preserved : goal.loop-place-preserved
loop-place-preserved c =
    good-more c.args.column c.args.self.now.rows c.loop-place.place c.at-row.result.now c.at-row.ensures
    (good-text c.args.column c.at-row.result.now c.text_at.result.now c.text_at.ensures
    (sym c.bad.ensures ∙ c.if-bad.false))
    c.loop-place.invariant

pub returns-clause-ok : goal.returns-clause-ok
returns-clause-ok c place row there =
    c.loop-place.invariant place row (omega (
      arith,
      row-within c.args.self.now.rows place row there,
      c.loop-place-test.false,
      c.len.ensures,
    )) there

pub returns-then-bad-clause-first : goal.returns-then-bad-clause-first
returns-then-bad-clause-first c = record {
  place = c.loop-place.place;
  row = c.at-row.result.now;
  there = c.at-row.ensures;
  bad = bad-text c.args.column c.at-row.result.now c.text_at.result.now c.text_at.ensures
      (sym c.bad.ensures ∙ c.if-bad.true);
  before = c.loop-place.invariant;
  counted = refl;
}
