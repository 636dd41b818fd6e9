-- In which order messages stand on a link.
use Rattle.std.specs.Prelude.{◌≡◌, ℕ, ◌+◌, ◌≤◌, ⊤, List, [], ◌∷◌}
use Rattle.epoch_tags.specs.declared.message.ToFeeder.{ToFeeder}
use Rattle.epoch_tags.specs.declared.message.ToFeeder.TheVariants.{Order, Grant, Stop}
use Rattle.epoch_tags.specs.declared.message.ToController.{ToController}
use Rattle.epoch_tags.specs.declared.message.ToController.TheVariants.{Ask, Drained, Settled}
use Rattle.epoch_tags.specs.declared.message.ToJoiner.{ToJoiner}
use Rattle.epoch_tags.specs.declared.message.ToJoiner.TheVariants.{Tup, Turn, End, Moved, MovedEnd}

-- of a feeder's link, from epoch e on: the turns count up, the stamps are those of the turns before, `End` is the last
abbrev pub CountsUp : ℕ → List ToJoiner → Type 0
CountsUp e [] = ⊤
CountsUp e (Tup x ∷ ms) = (x.stamp ≡ e) × CountsUp e ms
CountsUp e (Turn epoch shift ∷ ms) = (epoch ≡ e + 1) × CountsUp (e + 1) ms
CountsUp e (End ∷ ms) = ms ≡ []
CountsUp e (Moved epoch x ∷ ms) = ⊥
CountsUp e (MovedEnd epoch ∷ ms) = ⊥

-- of a link to a joiner, from epoch e on: epochs never fall, and after `MovedEnd` they are greater
abbrev pub NeverFalls : ℕ → List ToJoiner → Type 0
NeverFalls e [] = ⊤
NeverFalls e (Tup x ∷ ms) = ⊥
NeverFalls e (Turn epoch shift ∷ ms) = ⊥
NeverFalls e (End ∷ ms) = ⊥
NeverFalls e (Moved epoch x ∷ ms) = (e ≤ epoch) × NeverFalls epoch ms
NeverFalls e (MovedEnd epoch ∷ ms) = (e ≤ epoch) × NeverFalls (epoch + 1) ms

-- to a feeder: `Stop` stands only at the end
abbrev pub StopsLast : List ToFeeder → Type 0
StopsLast [] = ⊤
StopsLast (Order epoch shift ∷ ms) = StopsLast ms
StopsLast (Grant ∷ ms) = StopsLast ms
StopsLast (Stop ∷ ms) = ms ≡ []

-- of a feeder: it asks, and at most says at the end that it has drained
abbrev pub DrainsLast : List ToController → Type 0
DrainsLast [] = ⊤
DrainsLast (Ask dr ds ∷ ms) = DrainsLast ms
DrainsLast (Drained ∷ ms) = ms ≡ []
DrainsLast (Settled epoch ∷ ms) = ⊥

-- each order carries the shift that b has for its epoch
abbrev pub GoesBy : (ℕ → ℕ) → List ToFeeder → Type 0
GoesBy b [] = ⊤
GoesBy b (Order epoch shift ∷ ms) = (shift ≡ b epoch) × GoesBy b ms
GoesBy b (Grant ∷ ms) = GoesBy b ms
GoesBy b (Stop ∷ ms) = GoesBy b ms

-- each turn carries the shift that b has for its epoch
abbrev pub TurnsGoBy : (ℕ → ℕ) → List ToJoiner → Type 0
TurnsGoBy b [] = ⊤
TurnsGoBy b (Tup x ∷ ms) = TurnsGoBy b ms
TurnsGoBy b (Turn epoch shift ∷ ms) = (shift ≡ b epoch) × TurnsGoBy b ms
TurnsGoBy b (End ∷ ms) = TurnsGoBy b ms
TurnsGoBy b (Moved epoch x ∷ ms) = TurnsGoBy b ms
TurnsGoBy b (MovedEnd epoch ∷ ms) = TurnsGoBy b ms
