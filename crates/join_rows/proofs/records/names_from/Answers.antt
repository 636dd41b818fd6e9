use Rattle.std.proofs.Common.{◌∙◌, ◌<◌, length, arith, sym}
use Rattle.csv.specs.Records.{fields_of}
use Rattle.join_rows.proofs.Fields.{fields-done, fields-within, names-more}
use Rattle.join_rows.proofs.records.names_from.Goals as goal

pub loop-field-smaller : goal.loop-field-smaller
loop-field-smaller c =
    let m : c.loop-field.place < length (fields_of c.args.row.now) =
    fields-within _ _ _ (sym c.in-Some.ensures.value) in omega arith

pub loop-field-preserved : goal.loop-field-preserved
loop-field-preserved c =
    rw (c.in_ok-push.ensures.ok, c.loop-field.invariant, c.in_ok-from_slice.ensures)
    (sym (names-more (fields_of c.args.row.now) c.loop-field.place c.in-Some.field.now
    (sym c.in-Some.ensures.value)))

pub returns : goal.returns
returns c = c.loop-field.invariant ∙ fields-done (fields_of c.args.row.now) c.loop-field.place
    (sym c.in_default.ensures.value)
