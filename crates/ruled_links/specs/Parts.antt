-- What an inbox counts of each sender, and where it finds that.
use Rattle.std.specs.Prelude.{◌≡◌, ℕ, ◌+◌, ◌-◌, ◌^◌, ◌<◌, Bool, true, false, cond, eqb, List, [], ◌∷◌, length}
use Rattle.std.specs.Prelude.{slice_index, slice_index_or, All, sum_by}
use Rattle.ruled_links.specs.declared.delivery.InboxHand.{InboxHand}
use Rattle.ruled_links.specs.declared.parts.Part.{Part}
use Rattle.ruled_links.specs.Delivery.{number_of, of_sender, known_of, has_sender}
use Rattle.ruled_links.specs.Inboxes.{OfSender}

-- the part after one message of this sender was taken
abbrev pub noted : ℕ → Part → Part
noted n p = cond (eqb (number_of p.from) n) (record { from = p.from; taken = p.taken + 1; known = p.known - 1 }) p

-- the part after so many were found left of this sender
abbrev pub set_known : ℕ → ℕ → Part → Part
set_known n left p = cond (eqb (number_of p.from) n) (record { from = p.from; taken = p.taken; known = left }) p

-- one of the parts is this sender's
abbrev pub has_part : ℕ → List Part → Bool
has_part n [] = false
has_part n (p ∷ ps) = cond (eqb (number_of p.from) n) true (has_part n ps)

-- the part has the counts of its sender
abbrev pub PartFits : InboxHand → Part → Type 0
PartFits v p = (p.taken ≡ length (of_sender (number_of p.from) v.received))
    × (p.known ≡ length (known_of v.known (number_of p.from)) - p.taken)

-- the part as contracts see it
abbrev pub seen : Part → OfSender
seen p = record { from = p.from; known = p.known }

-- no two parts are of one sender
abbrev pub Distinct : List Part → Type 0
Distinct [] = Unit {0}
Distinct (p ∷ ps) = (has_part (number_of p.from) ps ≡ false) × Distinct ps

-- what the part says is left
abbrev pub known_left : Part → ℕ
known_left p = p.known

-- the parts have the counts of a pass that takes: each sender that it knows has just one part, and all that is left can
-- be counted
pub record AreCounted (v : InboxHand) (parts : List Part) : Type 0 where
  pub fits : All (PartFits v) parts
  pub all : (n : ℕ) → has_part n parts ≡ false → has_sender v.known n ≡ false
  pub distinct : Distinct parts
  pub few : sum_by known_left parts < 2 ^ 64

-- at each sender's number stands the place of its part
abbrev pub IsIndexed : List ℕ → List Part → Type 0
IsIndexed places parts =
    (k : ℕ) (d : Part) → k < length parts → let n = number_of (slice_index_or parts k d).from in (n < length places)
    × (slice_index places n ≡ k)
