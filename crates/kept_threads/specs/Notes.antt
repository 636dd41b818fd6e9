-- What goes through the ring of one job.
use Rattle.std.specs.Prelude.{◌≡◌, List, [], ◌∷◌, ⊤, map}
use Rattle.kept_threads.specs.Changes.{AllChanged}
use Rattle.kept_threads.specs.declared.job.Note.{Note}

module _ {T : Type 0} where
  -- the items that each note shows as asked for
  abbrev pub asked_by : List (Note T) → List (List T)
  asked_by notes = map (λ note. note.asked.value.items) notes

  -- so far these items were asked for, and nothing was answered
  abbrev pub Asks : List T → List (Note T) → Type 0
  Asks asked notes = asked_by notes ≡ asked ∷ []

  -- a note behind the first answers it: its items are those that were asked for, as the task leaves them
  abbrev pub Answers : (T → T → Type 0) → List (Note T) → Note T → Type 0
  Answers changes [] note = ⊤
  Answers changes (first ∷ []) note = AllChanged changes first.asked.value.items note.items.items
  Answers changes (first ∷ second ∷ rest) note = ⊤
