use Rattle.std.proofs.Common.{◌∷◌, refl, sym}
use Rattle.theta_text.specs.Machine.{dot, field, name}
use Rattle.theta_tree.specs.Texts.{limits}
use Rattle.theta_text.proofs.Turns.{turn_ok, name_step, same_leads}
use Rattle.theta_text.proofs.parser.parts.name_of.Goals as goal

pub returns-in-Some-side_named-clause-run : goal.returns-in-Some-side_named-clause-run
returns-in-Some-side_named-clause-run c s =
    let t = c.in-Some.first.now.token in
    same_leads _ _ _ c.column_of.result (turn_ok limits c.args.end (name ∷ s) (dot ∷ field ∷ s)
    t c.args.tokens.now c.in-Some.first.now c.in-Some.rest.now c.in-Some.ensures refl
    (name_step limits s t c.in-Some-side_named.of (sym c.in-Some-side_named.ensures))) (c.column_of.ensures.run s)
