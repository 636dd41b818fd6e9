use Rattle.std.proofs.Common.{◌≡◌, ◌++◌, drop, false}
use Rattle.theta_text.specs.Kinds.{undoubled}
use Rattle.theta_text.proofs.quoted_texts.content.Given as goal

abbrev pub invariant-loop-b : goal.invariant-loop-b
invariant-loop-b l =
    l.bytes ++ undoubled l.quote l.begun (drop l.b-index l.inner) ≡ undoubled l.quote false l.inner
