-- The rule of a link's queue: what was sent is what was received, and then what the queue holds.
use Rattle.std.specs.Prelude.{◌≡◌, ℕ, Bool, true, List, [], ◌++◌, Option, Some, None}
use mathlib.Core.Option.{some}
use lib.ListN.{get_elem?}
use Rattle.row_cells.specs.Lists.{IsPrefix}
use Rattle.epoch_tags.specs.declared.message.Envelope.{Envelope}
use Rattle.ruled_links.specs.declared.rule.Hand.{Hand}

-- what a pass of a link's queue may do, and what it has
abbrev pub hand : Bool → Bool → List Envelope → List Envelope → List Envelope → Hand
hand puts takes sent received known =
    record { puts = puts; takes = takes; sent = sent; received = received; known = known }

-- what was sent, by a pass that may be away
abbrev pub sent_by : {P : Type 0} → Option P → (P → Hand) → List Envelope
sent_by None hand_of = []
sent_by (Some pass) hand_of = (hand_of pass).sent

-- there is such a pass, and it may do this
abbrev pub Stands : {V : Type 0} → (V → Type 0) → List V → ℕ → Type 0
Stands {V} May hands pass = (v : V) × (get_elem? hands pass ≡ some v) × May v

-- what one pass may do, and what it then knows
pub record Fits (sender receiver : ℕ) (sent received : List Envelope) (pass : ℕ) (v : Hand) : Type 0 where
  pub puts : v.puts ≡ true → (pass ≡ sender) × (v.sent ≡ sent)
  pub takes : v.takes ≡ true → (pass ≡ receiver) × (v.received ≡ received) × IsPrefix v.known sent

-- just one pass puts, and has the list of what was sent; just one takes, has what was received, and knows a front of
-- what was sent
pub record IsInOrder (items : List Envelope) (hands : List Hand) : Type 0 where
  pub sender : ℕ
  pub receiver : ℕ
  pub sent : List Envelope
  pub received : List Envelope
  pub joins : received ++ items ≡ sent
  pub puts : Stands (λ v. v.puts ≡ true) hands sender
  pub takes : Stands (λ v. v.takes ≡ true) hands receiver
  pub fits : (pass : ℕ) (v : Hand) → get_elem? hands pass ≡ some v
      → Fits sender receiver sent received pass v
