-- The rule of an inbox's queue: of each sender, what it sent is what was received of it, and then what the queue holds
-- of it.
use Rattle.std.specs.Prelude.{◌≡◌, ℕ, ◌+◌, ◌*◌, ◌^◌, ◌≤◌, Bool, true, false, cond, eqb, List, [], ◌∷◌, ◌++◌, length}
use Rattle.std.specs.Prelude.{filter, Option, Some, None}
use mathlib.Core.Option.{some}
use lib.ListN.{get_elem?}
use Rattle.row_cells.specs.Lists.{IsPrefix}
use Rattle.epoch_tags.specs.declared.actor.Actor.{Actor}
use Rattle.epoch_tags.specs.declared.actor.Actor.TheVariants.{Feeder, Joiner, Controller, Collector}
use Rattle.epoch_tags.specs.declared.message.Envelope.{Envelope}
use Rattle.ruled_links.specs.declared.delivery.InboxHand.{InboxHand}
use Rattle.ruled_links.specs.Order.{Stands}

-- a number for each actor, in which no two agree
abbrev pub number_of : Actor → ℕ
number_of (Feeder i) = 4 * i
number_of (Joiner i) = 4 * i + 1
number_of Controller = 2
number_of Collector = 3

-- the messages of the sender with this number, in their order
abbrev pub of_sender : ℕ → List Envelope → List Envelope
of_sender n ms = filter (λ m. eqb (number_of m.from) n) ms

-- what a pass of an inbox's queue may do, and what it has
abbrev pub inbox_hand : Bool → Bool → ℕ → List Envelope → List Envelope → List (ℕ × List Envelope) → InboxHand
inbox_hand puts takes sender sent received known =
    record { puts = puts; takes = takes; sender = sender; sent = sent; received = received; known = known }

-- what was sent, by a pass that may be away
abbrev pub sent_through : {P : Type 0} → Option P → (P → InboxHand) → List Envelope
sent_through None hand_of = []
sent_through (Some pass) hand_of = (hand_of pass).sent

-- what is known of this sender
abbrev pub known_of : List (ℕ × List Envelope) → ℕ → List Envelope
known_of [] n = []
known_of (k ∷ ks) n = cond (eqb k.0 n) k.1 (known_of ks n)

-- something is known of this sender: it is one of the inbox
abbrev pub has_sender : List (ℕ × List Envelope) → ℕ → Bool
has_sender [] n = false
has_sender (k ∷ ks) n = cond (eqb k.0 n) true (has_sender ks n)

-- the pass may put, in the name of this sender
abbrev pub PutsFor : ℕ → InboxHand → Type 0
PutsFor n v = (v.puts ≡ true) × (v.sender ≡ n)

-- what one pass may do, and what it then knows
pub record InboxFits (seat : ℕ → ℕ) (receiver : ℕ) (known : List (ℕ × List Envelope)) (sent received : List Envelope)
    (pass : ℕ) (v : InboxHand) : Type 0 where
  pub puts : v.puts ≡ true → (pass ≡ seat v.sender) × (v.sent ≡ of_sender v.sender sent)
      × (has_sender known v.sender ≡ true)
  pub takes : v.takes ≡ true → (pass ≡ receiver) × (v.received ≡ received) × (v.known ≡ known)

-- of one sender: what is known begins what it sent, an actor that is no sender sent nothing, and 2^62 messages are the
-- most
pub record IsKept (known : List (ℕ × List Envelope)) (n : ℕ) (sent : List Envelope) : Type 0 where
  pub prefix : IsPrefix (known_of known n) sent
  pub none : has_sender known n ≡ false → sent ≡ []
  pub few : length sent ≤ 2 ^ 62

-- for each sender just one pass puts, and has the list of what it sent; just one pass takes, has what was received, and
-- knows who the senders are and a front of what each sent
pub record IsDelivered (items : List Envelope) (hands : List InboxHand) : Type 0 where
  pub seat : ℕ → ℕ
  pub receiver : ℕ
  pub known : List (ℕ × List Envelope)
  pub sent : List Envelope
  pub received : List Envelope
  pub joins : received ++ items ≡ sent
  pub kept : (n : ℕ) → IsKept known n (of_sender n sent)
  pub puts : (n : ℕ) → has_sender known n ≡ true → Stands (PutsFor n) hands (seat n)
  pub takes : Stands (λ v. v.takes ≡ true) hands receiver
  pub fits : (pass : ℕ) (v : InboxHand) → get_elem? hands pass ≡ some v
      → InboxFits seat receiver known sent received pass v
