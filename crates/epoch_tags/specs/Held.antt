-- Messages that are held, a queue for each sender.
use Rattle.std.specs.Prelude.{◌≡◌, ℕ, List, [], ◌∷◌, slice_index_or}

-- what is held of a sender; nothing, where there is none of that number
abbrev pub held_at : {M : Type 0} → List (List M) → ℕ → List M
held_at queues sender = slice_index_or queues sender []

-- the message is the first that is held
abbrev pub BeginsWith : {M : Type 0} → M → List M → Type 0
BeginsWith {M} m queue = (rest : List M) × (queue ≡ m ∷ rest)
