-- What is said of lists whose orders or turns carry the shifts of their epochs.
use Rattle.std.proofs.Common.{◌≡◌, ℕ, List, [], ◌∷◌, ◌++◌}
use Rattle.epoch_tags.specs.declared.message.ToFeeder.{ToFeeder}
use Rattle.epoch_tags.specs.declared.message.ToFeeder.TheVariants.{Order, Grant, Stop}
use Rattle.epoch_tags.specs.declared.message.ToJoiner.{ToJoiner}
use Rattle.epoch_tags.specs.declared.message.ToJoiner.TheVariants.{Tup, Turn, End, Moved, MovedEnd}
use Rattle.epoch_tags.specs.Orders.{GoesBy, TurnsGoBy}

-- two lists whose orders carry these shifts are one such list, end to end
pub goes-append : (b : ℕ → ℕ) (xs ys : List ToFeeder) → GoesBy b xs → GoesBy b ys → GoesBy b (xs ++ ys)
goes-append b [] ys go go' = go'
goes-append b (Order epoch shift ∷ xs) ys (is, go) go' = (is, goes-append b xs ys go go')
goes-append b (Grant ∷ xs) ys go go' = goes-append b xs ys go go'
goes-append b (Stop ∷ xs) ys go go' = goes-append b xs ys go go'

-- and the front of such a list is one
pub goes-front : (b : ℕ → ℕ) (xs ys : List ToFeeder) → GoesBy b (xs ++ ys) → GoesBy b xs
goes-front b [] ys go = tt
goes-front b (Order epoch shift ∷ xs) ys (is, go) = (is, goes-front b xs ys go)
goes-front b (Grant ∷ xs) ys go = goes-front b xs ys go
goes-front b (Stop ∷ xs) ys go = goes-front b xs ys go

-- an order in it has the shift of its epoch
pub goes_at : (b : ℕ → ℕ) (xs ys : List ToFeeder) (epoch shift : ℕ) → GoesBy b (xs ++ Order epoch shift ∷ ys)
    → shift ≡ b epoch
goes_at b [] ys epoch shift go = go.0
goes_at b (Order e c ∷ xs) ys epoch shift go = goes_at b xs ys epoch shift go.1
goes_at b (Grant ∷ xs) ys epoch shift go = goes_at b xs ys epoch shift go
goes_at b (Stop ∷ xs) ys epoch shift go = goes_at b xs ys epoch shift go

-- the front of a list whose turns carry these shifts is one, too
pub front_goes : (b : ℕ → ℕ) (xs ys : List ToJoiner) → TurnsGoBy b (xs ++ ys) → TurnsGoBy b xs
front_goes b [] ys go = tt
front_goes b (Tup x ∷ xs) ys go = front_goes b xs ys go
front_goes b (Turn epoch shift ∷ xs) ys (is, go) = (is, front_goes b xs ys go)
front_goes b (End ∷ xs) ys go = front_goes b xs ys go
front_goes b (Moved epoch x ∷ xs) ys go = front_goes b xs ys go
front_goes b (MovedEnd epoch ∷ xs) ys go = front_goes b xs ys go

-- a turn in it has the shift of its epoch
pub turns_at : (b : ℕ → ℕ) (xs ys : List ToJoiner) (epoch shift : ℕ) → TurnsGoBy b (xs ++ Turn epoch shift ∷ ys)
    → shift ≡ b epoch
turns_at b [] ys epoch shift go = go.0
turns_at b (Tup x ∷ xs) ys epoch shift go = turns_at b xs ys epoch shift go
turns_at b (Turn e c ∷ xs) ys epoch shift go = turns_at b xs ys epoch shift go.1
turns_at b (End ∷ xs) ys epoch shift go = turns_at b xs ys epoch shift go
turns_at b (Moved e x ∷ xs) ys epoch shift go = turns_at b xs ys epoch shift go
turns_at b (MovedEnd e ∷ xs) ys epoch shift go = turns_at b xs ys epoch shift go
