use Rattle.std.proofs.Common.{◌≡◌, List, All, fold, map}
use Rattle.report_lines.specs.Grids.{HasGrids}
use Rattle.report_picture.specs.Reading.{Entry, IsReadable, line_of, taken}
use Rattle.report_picture.proofs.nearest.take_lines.Given as goal

abbrev pub invariant-loop-line : goal.invariant-loop-line
invariant-loop-line l = record {
  grids : HasGrids l.report;
  exact : (entries : List Entry) → All IsReadable entries → map (λ line. line.now) l.yielded ≡ map line_of entries
      → l.report ≡ fold taken l.initial.report entries;
}
