-- Machines without a journal.
use Rattle.std.proofs.Common.{◌≡◌, sym, ◌∙◌, [], Result, Ok, Err}
use Rattle.std.specs.Prelude.{OnOk}
use Rattle.row_cells.specs.Lists.{IsPrefix}
use Rattle.actor_core.specs.Families.{journal_of}
use Rattle.actor_core.specs.declared.machines.Core.{Core}
use Rattle.actor_core.proofs.Runs.{prefix_self}

-- what has none before and after has one that grew
pub none_grows : {X E : Type 0} (result : Result X E) (old new : Core) → journal_of old ≡ [] → journal_of new ≡ []
    → OnOk result (IsPrefix (journal_of old) (journal_of new))
none_grows (Ok x) old new before after = prefix_self (journal_of old) (journal_of new) (after ∙ sym before)
none_grows (Err e) old new before after = tt
