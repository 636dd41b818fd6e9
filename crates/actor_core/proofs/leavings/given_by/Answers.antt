use Rattle.std.proofs.Common.{sym, ◌∙◌}
use Rattle.std.proofs.lemmas.Bool.{false≢true}
use Rattle.actor_core.proofs.leavings.given_by.Goals as goal

pub returns : goal.returns
returns c = record {
  key = c.into_store.ensures.key
      (λ spent. absurd (false≢true (sym c.if-is_spent.false ∙ c.is_spent.ensures.1 spent)));
  tuples = c.into_store.ensures.tuples;
}
