use Rattle.std.proofs.Common.{◌∙◌, ◌∷◌, ◌++◌, [], ap}
use Rattle.std.specs.Fmt.{decimal}
use Rattle.std.proofs.lemmas.List.{append_assoc}
use Rattle.join_rows.specs.Made.{made_id, made_key, made_val}
use Rattle.join_rows.proofs.made.add_row.Goals as goal

pub returns : goal.returns
returns c =
    let id = decimal (made_id c.args.place) in
    let key = decimal (made_key c.args.side c.args.place) in
    let val = decimal (made_val c.args.side c.args.place) in
    rw (
      c.in_ok-add_number-3.ensures,
      c.in_ok-add_number-2.ensures,
      c.in_ok-add_number.ensures,
      c.made_key.ensures,
      c.made_val.ensures,
    ) (ap (λ texts. texts ++ val ∷ []) (append_assoc c.args.texts.now (id ∷ []) (key ∷ []))
    ∙ append_assoc c.args.texts.now (id ∷ key ∷ []) (val ∷ []))
