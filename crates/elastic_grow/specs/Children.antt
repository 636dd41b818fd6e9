-- Growth: each joiner of a grid splits into four, in a grid of four times as many.
use Rattle.std.specs.Prelude.{◌≡◌, ℕ, ◌+◌, ◌*◌, ◌/◌, ◌%◌, ◌^◌, ◌<◌, ◌≤◌, true, List, [], ◌∷◌}
use Rattle.grid_map.specs.Grid.{holds_r, holds_s}

-- the child of joiner `id` of shift b in the lower (a = 0) or higher half of its row, and in the lower (d = 0) or
-- higher half of its column
abbrev pub child : ℕ → ℕ → ℕ → ℕ → ℕ
child b id a d = (2 * (id / 2 ^ b) + a) * 2 ^ (b + 1) + (d * 2 ^ b + id % 2 ^ b)

-- all four
abbrev pub children_of : ℕ → ℕ → List ℕ
children_of b id = child b id 0 0 ∷ child b id 0 1 ∷ child b id 1 0 ∷ child b id 1 1 ∷ []

-- the joiner of shift b whose child this one is
abbrev pub parent_of : ℕ → ℕ → ℕ
parent_of b j = j / 2 ^ (b + 2) * 2 ^ b + j % 2 ^ b

-- a child is a joiner of the grown grid, and holds no more than its parent
pub record ChildHolds (k b id a d ticket : ℕ) : Type 0 where
  pub below : id < 2 ^ k → child b id a d < 2 ^ (k + 2)
  pub of_r : holds_r (k + 2) (b + 1) (child b id a d) ticket ≡ true → holds_r k b id ticket ≡ true
  pub of_s : holds_s (b + 1) (child b id a d) ticket ≡ true → holds_s b id ticket ≡ true

-- the same of each child
abbrev pub ChildrenHold : Type 0
ChildrenHold = (k b id a d ticket : ℕ) → b ≤ k → k ≤ 6 → a < 2 → d < 2 → ChildHolds k b id a d ticket

-- a joiner of the grown grid is a child of its parent, and of no other
pub record HasOneParent (k b j : ℕ) : Type 0 where
  pub below : parent_of b j < 2 ^ k
  pub a : ℕ
  pub d : ℕ
  pub low_a : a < 2
  pub low_d : d < 2
  pub is : child b (parent_of b j) a d ≡ j
  pub alone : (id a' d' : ℕ) → a' < 2 → d' < 2 → child b id a' d' ≡ j → id ≡ parent_of b j

-- the same of each joiner of the grown grid
abbrev pub EachHasOneParent : Type 0
EachHasOneParent = (k b j : ℕ) → b ≤ k → j < 2 ^ (k + 2) → HasOneParent k b j
