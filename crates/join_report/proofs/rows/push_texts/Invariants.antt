use Rattle.std.proofs.Common.{◌≡◌, ◌++◌, map, take}
use Rattle.join_report.specs.RowLines.{texts_of}
use Rattle.join_report.proofs.rows.push_texts.Given as goal

abbrev pub invariant-loop-place : goal.invariant-loop-place
invariant-loop-place l =
    map (λ field. field.now) l.fields.items ≡ map (λ field. field.now) l.fn.fields.items
    ++ texts_of (take l.place l.row)
