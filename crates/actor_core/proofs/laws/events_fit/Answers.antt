use Rattle.actor_core.proofs.EventsFit.{fit}
use Rattle.actor_core.proofs.laws.events_fit.Goals as goal

pub returns : goal.returns
returns c = fit c.keeps_a_lawful_journal.ensures c.lawful_is_bounded.ensures
