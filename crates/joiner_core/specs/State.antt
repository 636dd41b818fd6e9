-- What a joiner holds: tuples of the predicate's widths, its epochs, and messages held, link by link.
use Rattle.std.specs.Prelude.{Bool, ◌≡◌, ℕ, ◌<◌, ◌^◌, bit_xor, List, [], ◌∷◌, Option, option_map, ◌++◌, filter, ⊤, All}
use Rattle.epoch_tags.specs.declared.tuple.Tuple.{Tuple}
use Rattle.theta_pred.specs.Formula.{Meaning}
use Rattle.theta_pred.specs.Truth.{holds as is_true}
use Rattle.store_parts.specs.declared.by_stamp.Which.{Which}
use Rattle.store_parts.specs.declared.by_stamp.Which.TheVariants.{All as All', OnlyStamp}
use Rattle.joiner_law.specs.History.{all_tuples, only_stamp}
use Rattle.epoch_tags.specs.declared.message.ToJoiner.{ToJoiner}
use Rattle.row_cells.specs.declared.table.Side.TheVariants.{R, S}
use Rattle.migration_plan.specs.Steps.{holds, is_of}
use Rattle.theta_pred.specs.declared.atom.KeyAtom.{KeyAtom}
use Rattle.theta_pred.specs.Keys.{atom_of, key_of}
use Rattle.theta_pred.specs.declared.agree.Access.{Access}
use Rattle.theta_pred.specs.Accesses.{access_of, terms_of}
use Rattle.store_parts.specs.Stored.{Stored}
use Rattle.epoch_tags.specs.declared.actor.Actor.TheVariants.{Joiner as Joiner'}
use Rattle.epoch_tags.specs.declared.message.Msg.{Msg}
use Rattle.epoch_tags.specs.declared.message.Msg.TheVariants.{Joiner, Feeder, Controller, Collector}
use Rattle.epoch_tags.specs.declared.message.Post.{Post}
use Rattle.epoch_tags.specs.Posts.{GoesOver}
use Rattle.epoch_tags.specs.Held.{held_at}
use Rattle.epoch_tags.specs.declared.message.ToJoiner.TheVariants.{Tup, Turn, End, Moved, MovedEnd}
use Rattle.store_parts.specs.Matches.{HasWidth}

-- ---- the predicate

-- whether it is true of the rows of a tuple of R and one of S
abbrev pub does_hold : Meaning → Tuple → Tuple → Bool
does_hold theta r q = is_true theta r.cells q.cells

-- which stored tuples a probe looks at
abbrev pub named_by : Which → Tuple → Bool
named_by All' = all_tuples
named_by (OnlyStamp stamp) = only_stamp stamp

-- ---- links

-- the ids differ in one bit
pub record DifferInOneBit (k from to : ℕ) : Type 0 where
  pub low : ℕ
  pub below : low < k
  pub other : to ≡ bit_xor from (2 ^ low)

-- ---- the tuples and their key

-- the tuples of a store as one list, those of R first
abbrev pub tuples_of : Stored → List Tuple
tuples_of store = store.r ++ store.s

-- the same tuples, those of R first
abbrev pub by_side : List Tuple → List Tuple
by_side xs = filter (is_of R) xs ++ filter (is_of S) xs

-- one tuple more, the last of its side
abbrev pub placed : Tuple → List Tuple → List Tuple
placed x xs = by_side (xs ++ x ∷ [])

-- the tuples, those of R first, the key, and the access by which they are found
pub record Stocked : Type 0 where
  pub tuples : List Tuple
  pub key : Option KeyAtom
  pub access : Option Access

-- a store as one list with its key and access
abbrev pub stocked_of : Stored → Stocked
stocked_of store = record { tuples = tuples_of store; key = store.key; access = store.access }

-- the same key and access, and one tuple more
abbrev pub with_placed : Tuple → Stocked → Stocked
with_placed x stock = record stock { tuples = placed x stock.tuples }

-- the same key and access, and the tuples that joiner `id` holds in a grid of this shape
abbrev pub kept_stock : ℕ → ℕ → ℕ → Stocked → Stocked
kept_stock k shift id stock = record stock { tuples = filter (holds k shift id) stock.tuples }

-- the key is the predicate's key atom, and there is none where the predicate has none
abbrev pub IsKeyOf : Meaning → Option KeyAtom → Type 0
IsKeyOf theta key = option_map atom_of key ≡ key_of theta.formula

-- the access is the predicate's, and there is none where the predicate has none
abbrev pub IsAccessOf : Meaning → Option Access → Type 0
IsAccessOf theta access = option_map terms_of access ≡ access_of theta.formula

-- ---- the epochs

-- an open step: its epoch and shift, which feeders have turned, what the joiner has of its epoch, and whether the
-- partner's part is over
pub record OpenStep : Type 0 where
  pub epoch : ℕ
  pub shift : ℕ
  pub turned : List Bool
  pub store : Stocked
  pub partner_ended : Bool

-- what a joiner has of its epochs: what never changes; the settled epoch, its shift and store; which feeders have
-- ended; the open step;
-- and how many tuples were moved in each settled step
pub record EpochState : Type 0 where
  pub k : ℕ
  pub id : ℕ
  pub feeders : ℕ
  pub theta : Meaning
  pub epoch : ℕ
  pub shift : ℕ
  pub store : Stocked
  pub ended : List Bool
  pub step : Option OpenStep
  pub moved : List ℕ

-- the machine: its epochs, the messages held of each feeder and joiner, and whether the last message was sent
pub record MachineState : Type 0 where
  pub epochs : EpochState
  pub of_feeders : List (List ToJoiner)
  pub of_joiners : List (List ToJoiner)
  pub told : Bool

-- ---- rows of the predicate's widths

-- the tuple has a cell for each column of its side
abbrev pub IsRow : Meaning → Tuple → Type 0
IsRow theta x = HasWidth theta x.side x

-- so has each of them
abbrev pub AreRows : Meaning → List Tuple → Type 0
AreRows theta xs = All (IsRow theta) xs

-- what a joiner with this predicate has of an epoch: rows of the widths, and the predicate's own key and access
pub record IsStock (theta : Meaning) (stock : Stocked) : Type 0 where
  pub rows : AreRows theta stock.tuples
  pub key : IsKeyOf theta stock.key
  pub access : IsAccessOf theta stock.access

-- so has the tuple that a message carries, if it carries one
abbrev pub HasRow : Meaning → ToJoiner → Type 0
HasRow theta (Tup x) = IsRow theta x
HasRow theta (Turn epoch shift) = ⊤
HasRow theta End = ⊤
HasRow theta (Moved epoch x) = IsRow theta x
HasRow theta (MovedEnd epoch) = ⊤

-- and each that is carried by a held message
abbrev pub HoldsRows : Meaning → List (List ToJoiner) → Type 0
HoldsRows theta queues = (sender : ℕ) → All (HasRow theta) (held_at queues sender)

-- ---- of what is sent

-- the row that it carries to a joiner, if it carries one, has the predicate's widths
abbrev pub SendsRow : Meaning → Msg → Type 0
SendsRow theta (Joiner m) = HasRow theta m
SendsRow theta (Feeder m) = ⊤
SendsRow theta (Controller m) = ⊤
SendsRow theta (Collector m) = ⊤

-- so does each of the posts
abbrev pub AllSendRows : Meaning → List Post → Type 0
AllSendRows theta posts = All (λ post. SendsRow theta post.msg) posts

-- a post over a link of joiner `id`, with a row of the widths if it carries one
pub record IsOwnPost (k feeders id : ℕ) (theta : Meaning) (post : Post) : Type 0 where
  pub over : GoesOver k feeders (Joiner' id) post
  pub row : SendsRow theta post.msg
