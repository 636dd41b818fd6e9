use Rattle.std.proofs.Common.{◌≡◌, sym, subst, ◌∙◌}
use Rattle.theta_tree.specs.Tokens.{AreTokens}
use Rattle.theta_tree.specs.Grammar.{Reads}
use Rattle.theta_tree.specs.Faults.{words}
use Rattle.theta_tree.specs.Texts.{limits}
use Rattle.theta_text.proofs.Places.{tokens_unique}
use Rattle.theta_text.proofs.Turns.{if_ok_map}
use Rattle.theta_text.proofs.OneFault.{exact_answer}
use Rattle.theta_text.proofs.parser.parse.Goals as goal

pub returns-clause-only : goal.returns-clause-only
returns-clause-only c tree (tokens, are, reads) =
    let found = c.in_ok-tokens.tokens.items in
    let are' : AreTokens c.args.text.now found = subst (λ bytes. AreTokens bytes found)
    c.as_bytes.ensures.value c.in_ok-tokens.ensures in
    let same : tokens ≡ c.deref.result.now = tokens_unique c.args.text.now tokens found are are'
    ∙ sym c.deref.ensures.value in
    c.whole.ensures.only tree (subst (λ z. Reads limits (words z) tree) same reads)

pub returns-clause-exact : goal.returns-clause-exact
returns-clause-exact c fault h =
    let text = c.args.text.now in
    let found = c.in_ok-tokens.tokens.items in
    let tokens = c.deref.result.now in
    let are' : AreTokens text found = subst (λ bytes. AreTokens bytes found)
    c.as_bytes.ensures.value c.in_ok-tokens.ensures in
    let are : AreTokens text tokens = subst (λ z. AreTokens text z) (sym c.deref.ensures.value) are' in
    exact_answer limits text c.whole.result
    (if_ok_map c.whole.result _ _ (λ pred r. (tokens, are, r)) c.whole.ensures.ok)
    (λ place e. (tokens, are, c.whole.ensures.syntax place e))
    (λ place e. (tokens, are, c.whole.ensures.deep place e))
    (λ place e. (tokens, are, c.whole.ensures.wide place e))
    (λ place e. (tokens, are, c.whole.ensures.literal place e))
    fault h
