-- What callers do with a joiner.
use Rattle.std.proofs.Common.{IsTrue, ◌↔◌, ◌≡◌, ℕ, ◌+◌, ◌-◌, ◌^◌, ◌<◌, ◌≤◌, refl, sym, ◌∙◌, ap, subst, arith, inl, inr}
use Rattle.std.proofs.Common.{Bool, true, false, List, ◌++◌, length}
use Rattle.std.specs.Prelude.{min, ⊤}
use Rattle.std.proofs.lemmas.List.{length-append}
use Rattle.std.proofs.lemmas.Bool.{false≢true, cases_Bool}
use Rattle.row_cells.specs.Lists.{total}
use Rattle.row_cells.proofs.Totals.{total_same}
use Rattle.grid_map.proofs.Halves.{partner_below}
use Rattle.epoch_tags.specs.declared.actor.Actor.{Actor}
use Rattle.epoch_tags.specs.declared.actor.Actor.TheVariants.{Feeder, Joiner as Joiner', Controller, Collector}
use Rattle.epoch_tags.specs.declared.message.Post.{Post}
use Rattle.epoch_tags.specs.declared.message.ToJoiner.{ToJoiner}
use Rattle.epoch_tags.specs.Links.{HasLink, feeder_joiner, joiner_joiner, controller_feeder, feeder_controller}
use Rattle.epoch_tags.specs.Links.{joiner_controller, joiner_collector}
use Rattle.epoch_tags.specs.Held.{held_at}
use Rattle.joiner_law.specs.Law.{JoinerStart, JoinerLists}
use Rattle.joiner_core.specs.State.{DifferInOneBit, MachineState}
use Rattle.joiner_law.specs.Standing.{with_sent}
use Rattle.joiner_core.specs.Machine.{StandsBetween, Receives, IsSound, held_messages, with_message}
use Rattle.joiner_core.specs.Standing.{JoinerState, IsSpent, StandsFor, TakesMessage, held_number}
use Rattle.joiner_core.proofs.OwnPosts.{all-over, all-rows}
use Rattle.joiner_core.proofs.WholeLaw.{keeps-law, law-done, machine-done}

-- what the machine stands for keeps the law
pub with-law : (s : JoinerStart) (lists : JoinerLists) (joiner : JoinerState) → StandsBetween s lists joiner.machine
    → StandsFor s lists joiner
with-law s lists joiner is =
    let law = keeps-law s lists joiner.machine is in
    record {
      taken = is.within.taken;
      law = law;
      machine = record {
        between = is;
        taken = refl;
        done = sym (machine-done s lists joiner.machine is) ∙ law-done s lists is.within.taken law;
      };
    }

-- what a call that receives a message does to the machine, it does to the joiner: its posts go over its links, and it
-- stands for the lists with the message and the posts
pub takes : (from : Actor) (m : ToJoiner) (old new : JoinerState) (before after : List Post)
    → Receives from m old.machine new.machine before after → TakesMessage from m old new before after
takes from m old new before after is = record {
  added = is.added;
  sends = is.sends;
  over = all-over old.machine.epochs is.added is.own;
  rows = all-rows old.machine.epochs is.added is.own;
  order = is.order;
  tried = is.tried;
  state = is.state;
  posts = is.posts;
  same = record { of_k = is.fixed.k; of_id = is.fixed.id; of_feeders = is.fixed.feeders; of_theta = is.fixed.theta };
  stands = λ s lists stands. with-law s (with_sent (with_message from m lists) is.added) new
      (is.stands s lists stands.machine.between);
}

-- a test that is true where the fact holds and false where it doesn't
pub told-by : {F : Type 0} (b : Bool) → (b ≡ true → F) → (b ≡ false → F → ⊥) → IsTrue b ↔ F
told-by true up down = (λ yes. up refl, λ fact. refl)
told-by false up down = (λ yes. absurd (false≢true yes), λ fact. absurd (down refl fact))

-- a joiner that isn't spent is sound
pub sound-at-work : (joiner : JoinerState) → (joiner.spent ≡ false → IsSound joiner.machine) → ¬ (IsSpent joiner)
    → IsSound joiner.machine
sound-at-work joiner sound going = elim (cases_Bool joiner.spent) [
  | inl up ↦ absurd (going up)
  | inr down ↦ sound down
]

-- ---- links

-- who may send to a joiner
abbrev Reaches : ℕ → ℕ → Actor → Actor → Type 0
Reaches k feeders (Feeder p) (Joiner' j) = p < feeders
Reaches k feeders (Joiner' q) (Joiner' j) = q < 2 ^ k
Reaches k feeders Controller (Joiner' j) = ⊥
Reaches k feeders Collector (Joiner' j) = ⊥
Reaches k feeders from (Feeder p) = ⊤
Reaches k feeders from Controller = ⊤
Reaches k feeders from Collector = ⊤

-- which links end at a joiner
abbrev pub IsLinked : ℕ → ℕ → Actor → Actor → Type 0
IsLinked k feeders (Feeder p) (Joiner' j) = (p < feeders) × (j < 2 ^ k)
IsLinked k feeders (Joiner' q) (Joiner' j) = (q < 2 ^ k) × DifferInOneBit k q j
IsLinked k feeders Controller (Joiner' j) = ⊥
IsLinked k feeders Collector (Joiner' j) = ⊥
IsLinked k feeders from (Feeder p) = ⊤
IsLinked k feeders from Controller = ⊤
IsLinked k feeders from Collector = ⊤

linked : (k feeders : ℕ) (from to : Actor) → HasLink k feeders from to → IsLinked k feeders from to
linked k feeders _ _ (feeder_joiner low below) = (low, below)
linked k feeders _ _ (joiner_joiner {low = low} below within) =
    (below, record { low = low; below = within; other = refl })
linked k feeders _ _ (controller_feeder low) = tt
linked k feeders _ _ (feeder_controller low) = tt
linked k feeders _ _ (joiner_controller low) = tt
linked k feeders _ _ (joiner_collector low) = tt

-- there is a link between two joiners whose ids differ in one bit, if the sender is of the grid
pub joiner-link : (k feeders q id : ℕ) → q < 2 ^ k → DifferInOneBit k q id → HasLink k feeders (Joiner' q) (Joiner' id)
joiner-link k feeders q id low is = subst (λ (j : ℕ). HasLink k feeders (Joiner' q) (Joiner' j)) (sym is.other)
    (joiner_joiner low is.below)

-- there is a link from each feeder to each joiner of the grid
pub feeder-link : (k feeders p id : ℕ) → p < feeders → id < 2 ^ k → HasLink k feeders (Feeder p) (Joiner' id)
feeder-link k feeders p id low below = feeder_joiner low below

-- a link from a feeder to a joiner is there only if both are of the run
pub no-feeder : (k feeders p id : ℕ) → HasLink k feeders (Feeder p) (Joiner' id) → (p < feeders) × (id < 2 ^ k)
no-feeder k feeders p id link = linked k feeders (Feeder p) (Joiner' id) link

-- a link between joiners is there only if the sender is of the grid and their ids differ in one bit
pub no-joiner : (k feeders q id : ℕ) → HasLink k feeders (Joiner' q) (Joiner' id) → (q < 2 ^ k) × DifferInOneBit k q id
no-joiner k feeders q id link = linked k feeders (Joiner' q) (Joiner' id) link

-- no link leads from the controller to a joiner
pub no-controller : (k feeders id : ℕ) → HasLink k feeders Controller (Joiner' id) → ⊥
no-controller k feeders id link = linked k feeders Controller (Joiner' id) link

-- no link leads from the collector to a joiner
pub no-collector : (k feeders id : ℕ) → HasLink k feeders Collector (Joiner' id) → ⊥
no-collector k feeders id link = linked k feeders Collector (Joiner' id) link

-- an id past the grid has no link
pub no-id : (k feeders id : ℕ) (from : Actor) → k ≤ 8 → 2 ^ k ≤ id → HasLink k feeders from (Joiner' id) → ⊥
no-id k feeders id (Feeder p) small high link = let low = (no-feeder k feeders p id link).1 in absurd (omega arith)
no-id k feeders id (Joiner' q) small high link =
    let is = no-joiner k feeders q id link in
    let low : id < 2 ^ k = subst (λ (j : ℕ). j < 2 ^ k) (sym is.1.other) (partner_below k is.1.low q is.1.below is.0) in
    absurd (omega arith)
no-id k feeders id Controller small high link = no-controller k feeders id link
no-id k feeders id Collector small high link = no-collector k feeders id link

-- ---- what is held

rest-length : (taken held received : List ToJoiner) → taken ++ held ≡ received
    → length held ≡ length received - length taken
rest-length taken held received is = let a = length-append taken held in
    let b : length (taken ++ held) ≡ length received = ap length is in omega arith

-- the sum of two numbers that are cut at the same number, cut there
pub cut-sum : (a b top : ℕ) (cut_a cut_b cut : ℕ) → cut_a ≡ min a top → cut_b ≡ min b top
    → cut ≡ min (cut_a + cut_b) top → cut ≡ min (a + b) top
cut-sum a b top cut_a cut_b cut of_a of_b of_sum = omega arith

-- a machine between calls holds as many messages as it received and didn't take
pub held-law : (s : JoinerStart) (lists : JoinerLists) (m : MachineState) (is : StandsBetween s lists m)
    → held_messages m ≡ held_number s lists is.within.taken
held-law s lists m is =
    let w = is.within in
    let fixed = w.stands.fixed in
    let n : length m.of_feeders ≡ s.feeders = is.sound.feeders ∙ fixed.feeders in
    let k : length m.of_joiners ≡ 2 ^ s.k = is.sound.joiners ∙ ap (λ i. 2 ^ i) fixed.k in
    let one : total s.feeders (λ p. length (held_at m.of_feeders p))
    ≡ total s.feeders (λ p. length (lists.from_feeder p) - length (w.taken.from_feeder p)) =
    total_same s.feeders _ _ (λ p low. rest-length _ _ _ (w.feeders p low)) in
    let two : total (2 ^ s.k) (λ q. length (held_at m.of_joiners q))
    ≡ total (2 ^ s.k) (λ q. length (lists.from_joiner q) - length (w.taken.from_joiner q)) =
    total_same (2 ^ s.k) _ _ (λ q low. rest-length _ _ _ (w.joiners q low)) in
    ap (λ i. total i (λ p. length (held_at m.of_feeders p))
    + total (length m.of_joiners) (λ q. length (held_at m.of_joiners q))) n
    ∙ ap (λ i. total s.feeders (λ p. length (held_at m.of_feeders p)) + total i (λ q. length (held_at m.of_joiners q)))
    k
    ∙ ap (λ a. a + total (2 ^ s.k) (λ q. length (held_at m.of_joiners q))) one
    ∙ ap (λ b. total s.feeders (λ p. length (lists.from_feeder p) - length (w.taken.from_feeder p)) + b) two
