use Rattle.std.proofs.Common.{◌≡◌, ◌∷◌, true, refl, sym, ◌∙◌}
use Rattle.theta_tree.specs.declared.token.Token.TheVariants.{Word}
use Rattle.theta_tree.specs.declared.token.Keyword.TheVariants.{Text}
use Rattle.theta_text.specs.Starts.{is_text}
use Rattle.theta_text.specs.Machine.{close, open', name, side}
use Rattle.theta_tree.specs.Texts.{limits}
use Rattle.theta_text.proofs.Turns.{turn_ok, same_leads, side_column}
use Rattle.theta_text.proofs.parser.parts.side_of.Goals as goal

pub returns-then-text_word-clause-run : goal.returns-then-text_word-clause-run
returns-then-text_word-clause-run c s =
    let is : is_text c.in-Some.first.now.token ≡ true = sym c.text_word.ensures ∙ c.if-text_word.true in
    let (w, et) = side_column c.in-Some.first.now.token is in
    same_leads _ _ _ c.text_of.result (turn_ok limits c.args.end (side ∷ s) (open' ∷ name ∷ close ∷ s) (Word Text w)
    c.args.tokens.now c.in-Some.first.now c.in-Some.rest.now c.in-Some.ensures et refl) (c.text_of.ensures.run s)
