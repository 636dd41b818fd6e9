use Rattle.std.proofs.Common.{◌∙◌, ◌<◌, ◌∷◌, ◌++◌, [], ap, length, arith, sym, take}
use Rattle.std.proofs.lemmas.List.{append_assoc}
use Rattle.csv.specs.Records.{fields_of}
use Rattle.join_rows.proofs.Fields.{fields-done, fields-within, names-more}
use Rattle.join_rows.proofs.records.add_fields.Goals as goal

pub loop-field-smaller : goal.loop-field-smaller
loop-field-smaller c =
    let m : c.loop-field.place < length (fields_of c.args.row.now) =
    fields-within _ _ _ (sym c.in-Some.ensures.value) in omega arith

pub loop-field-preserved : goal.loop-field-preserved
loop-field-preserved c =
    rw (c.in_ok-push.ensures.ok, c.loop-field.invariant)
    (append_assoc c.args.texts.now (take c.loop-field.place (fields_of c.args.row.now)) (c.in-Some.field.now ∷ [])
    ∙ ap (λ texts. c.args.texts.now ++ texts) (sym (names-more (fields_of c.args.row.now)
    c.loop-field.place c.in-Some.field.now (sym c.in-Some.ensures.value))))

pub returns : goal.returns
returns c = c.loop-field.invariant ∙ ap (λ fields. c.args.texts.now ++ fields)
    (fields-done (fields_of c.args.row.now) c.loop-field.place (sym c.in_default.ensures.value))
