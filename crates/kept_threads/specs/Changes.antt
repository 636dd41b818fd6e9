-- What a task does to a list of items.
use Rattle.std.specs.Prelude.{◌≡◌, ◌<◌, ℕ, List, length, slice_index_or}

-- each item of ys is what the task may leave of the item of xs at that place
abbrev pub EachChanged : {T : Type 0} → (T → T → Type 0) → List T → List T → Type 0
EachChanged changes xs ys = (n : ℕ) (d : _) → n < length xs → changes (slice_index_or xs n d) (slice_index_or ys n d)

-- there are as many items as before, each as the task may leave it
pub record AllChanged {T : Type 0} (changes : T → T → Type 0) (xs ys : List T) : Type 0 where
  pub len : length ys ≡ length xs
  pub each : EachChanged changes xs ys
