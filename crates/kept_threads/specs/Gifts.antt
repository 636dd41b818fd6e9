-- Items that were given to a thread, or stayed with the caller.
use Rattle.std.specs.Prelude.{◌≡◌, List}
use Rattle.kept_threads.specs.declared.worker.Given.{Given}
use Rattle.kept_threads.specs.declared.worker.Given.TheVariants.{There, Here}

-- these are the items
abbrev pub IsGiven : {T W : Type 0} → List T → Given T W → Type 0
IsGiven asked (There awaited) = awaited.asked.value.items ≡ asked
IsGiven asked (Here items) = items.items ≡ asked
