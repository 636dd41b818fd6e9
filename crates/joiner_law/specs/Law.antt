-- The law of a joiner. Step n leads from epoch `epoch + n` to the next, `epoch` being the joiner's first.
use Rattle.std.specs.Prelude.{◌≡◌, ℕ, zero, suc, ◌+◌, ◌^◌, ◌<◌, ◌≤◌, ◌==◌, max, Bool, ◌&&◌, ◌⊎◌, List, [], ◌∷◌, ◌++◌}
use Rattle.std.specs.Prelude.{map, filter, length, flat_map, count_by}
use Rattle.std.specs.List.{AllByRecursion}
use Rattle.row_cells.specs.declared.table.Side.{Side}
use Rattle.row_cells.specs.declared.table.Side.TheVariants.{R, S}
use Rattle.row_cells.specs.Lists.{SameBag, counting_from, gather, greatest}
use Rattle.epoch_tags.specs.declared.tuple.Tuple.{Tuple}
use Rattle.epoch_tags.specs.declared.tuple.Pair.{Pair}
use Rattle.epoch_tags.specs.declared.message.ToJoiner.{ToJoiner}
use Rattle.epoch_tags.specs.declared.message.ToJoiner.TheVariants.{Tup, Turn, End, Moved, MovedEnd}
use Rattle.epoch_tags.specs.declared.message.ToController.{ToController}
use Rattle.epoch_tags.specs.declared.message.ToController.TheVariants.{Settled}
use Rattle.epoch_tags.specs.declared.message.ToCollector.{ToCollector}
use Rattle.epoch_tags.specs.declared.message.ToCollector.TheVariants.{Found, Fin}
use Rattle.epoch_tags.specs.Messages.{tups_of, turns, turn_shifts, ends, moved_of, moved_ends}
use Rattle.epoch_tags.specs.Orders.{CountsUp, NeverFalls}
use Rattle.migration_plan.specs.Steps.{AreNeighbours, exchanged_side, partner_in_step, holds, is_of}

-- what a joiner received and sent
pub record JoinerLists : Type 0 where
  pub from_feeder : ℕ → List ToJoiner
  pub from_joiner : ℕ → List ToJoiner
  pub to_joiner : ℕ → List ToJoiner
  pub to_controller : List ToController
  pub to_collector : List ToCollector

-- how a joiner begins: the grid's k, the number of feeders, its id, the predicate on an R tuple and an S tuple,
-- its first epoch and shift, and the store that it begins with
pub record JoinerStart : Type 0 where
  pub k : ℕ
  pub feeders : ℕ
  pub id : ℕ
  pub matches : Tuple → Tuple → Bool
  pub epoch : ℕ
  pub shift : ℕ
  pub base : List Tuple

-- the messages that it took, link by link, and the shift of each epoch
pub record Taken : Type 0 where
  pub from_feeder : ℕ → List ToJoiner
  pub from_joiner : ℕ → List ToJoiner
  pub shift_at : ℕ → ℕ

-- ---- epochs, of a joiner s that took t

-- how many steps were opened: the most `Turn`s taken of one feeder
abbrev pub opened : JoinerStart → Taken → ℕ
opened s t = greatest s.feeders (λ p. turns (t.from_feeder p))

-- the shift after n steps
abbrev pub shift_after : JoinerStart → Taken → ℕ → ℕ
shift_after s t n = t.shift_at (s.epoch + n)

-- its partner in step n
abbrev pub partner_of : JoinerStart → Taken → ℕ → ℕ
partner_of s t n = partner_in_step (shift_after s t n) (shift_after s t (n + 1)) s.id

-- the side that they exchange
abbrev pub exchanged : JoinerStart → Taken → ℕ → Side
exchanged s t n = exchanged_side (shift_after s t n) (shift_after s t (n + 1))

-- all feeders have turned in step n
abbrev pub AllTurned : JoinerStart → Taken → ℕ → Type 0
AllTurned s t n = (p : ℕ) → p < s.feeders → n < turns (t.from_feeder p)

-- step n is settled: all feeders have turned in it, and the partner has ended its part
abbrev pub IsSettled : JoinerStart → Taken → ℕ → Type 0
IsSettled s t n = AllTurned s t n × (0 < moved_ends (s.epoch + n + 1) (t.from_joiner (partner_of s t n)))

-- ---- stores

-- the tuples taken of feeders with this epoch as their stamp
abbrev pub arrived : JoinerStart → Taken → ℕ → List Tuple
arrived s t e = gather s.feeders (λ p. tups_of e (t.from_feeder p))

-- the store after n steps, as a bag: what is kept of the store before, what the partner moved here, and what arrived
abbrev pub store : JoinerStart → Taken → ℕ → List Tuple
store s t zero = s.base ++ arrived s t s.epoch
store s t (suc n) =
    filter (holds s.k (shift_after s t (n + 1)) s.id) (store s t n)
    ++ moved_of (s.epoch + n + 1) (t.from_joiner (partner_of s t n))
    ++ arrived s t (s.epoch + n + 1)

-- ---- pairs

-- the pair that a tuple of R and one of S make
abbrev pub pair_of : Tuple → Tuple → Pair
pair_of r q = record { i = r.index; j = q.index }

-- the pairs of an R tuple of the first list and an S tuple of the second that pass the test
abbrev pub pairs_by : (Tuple → Tuple → Bool) → List Tuple → List Tuple → List Pair
pairs_by test rs ss = flat_map (λ r. map (pair_of r) (filter (λ q. is_of S q && test r q) ss)) (filter (is_of R) rs)

-- e is the greater of the two stamps
abbrev pub is_greater_stamp : ℕ → Tuple → Tuple → Bool
is_greater_stamp e r q = max r.stamp q.stamp == e

-- the matching pairs that are found after n steps: in the first epoch those with a tuple that arrived,
-- in a later one those whose greater stamp is that epoch
abbrev pub found : JoinerStart → Taken → ℕ → List Pair
found s t zero =
    pairs_by s.matches (arrived s t s.epoch) (store s t 0) ++ pairs_by s.matches s.base (arrived s t s.epoch)
found s t (suc n) =
    found s t n
    ++ pairs_by (λ r q. s.matches r q && is_greater_stamp (s.epoch + n + 1) r q) (store s t (suc n)) (store s t (suc n))

-- ---- what can be taken, with `done` steps settled

-- of feeder p: tuples of the epoch in which it is, its turn once all steps before are settled, and its end, the last
abbrev pub CanTakeOfFeeder : JoinerStart → Taken → ℕ → ℕ → ToJoiner → Type 0
CanTakeOfFeeder s t done p (Tup x) = (ends (t.from_feeder p) ≡ 0) × (x.stamp ≡ s.epoch + turns (t.from_feeder p))
CanTakeOfFeeder s t done p (Turn epoch shift) =
    (ends (t.from_feeder p) ≡ 0) × (turns (t.from_feeder p) ≡ done) × (epoch ≡ s.epoch + done + 1)
    × (shift ≤ s.k) × AreNeighbours (shift_after s t done) shift
    × (done < opened s t → shift ≡ shift_after s t (done + 1))
CanTakeOfFeeder s t done p End = ends (t.from_feeder p) ≡ 0
CanTakeOfFeeder s t done p (Moved epoch x) = ⊥
CanTakeOfFeeder s t done p (MovedEnd epoch) = ⊥

-- of joiner q only what is of the open step, of the partner, before the end of its part
abbrev pub IsOpenPart : JoinerStart → Taken → ℕ → ℕ → ℕ → Type 0
IsOpenPart s t done q epoch =
    (done < opened s t) × (epoch ≡ s.epoch + done + 1) × (q ≡ partner_of s t done)
    × (moved_ends epoch (t.from_joiner q) ≡ 0)

-- of joiner q: what it moves here in the open step
abbrev pub CanTakeOfJoiner : JoinerStart → Taken → ℕ → ℕ → ToJoiner → Type 0
CanTakeOfJoiner s t done q (Tup x) = ⊥
CanTakeOfJoiner s t done q (Turn epoch shift) = ⊥
CanTakeOfJoiner s t done q End = ⊥
CanTakeOfJoiner s t done q (Moved epoch x) = IsOpenPart s t done q epoch
CanTakeOfJoiner s t done q (MovedEnd epoch) = IsOpenPart s t done q epoch

-- the taken messages are the front of those received, and the first of the rest can't be taken
pub record IsTakenOf (can_take : ToJoiner → Type 0) (taken received : List ToJoiner) : Type 0 where
  pub held : List ToJoiner
  pub splits : taken ++ held ≡ received
  pub stuck : (m : ToJoiner) (rest : List ToJoiner) → held ≡ m ∷ rest → ¬ can_take m

-- ---- the end

-- all feeders have ended and no step is open
abbrev pub IsAtRest : JoinerStart → Taken → Type 0
IsAtRest s t = ((p : ℕ) → p < s.feeders → 0 < ends (t.from_feeder p)) × ((n : ℕ) → n < opened s t → IsSettled s t n)

-- it is at rest and holds nothing
abbrev pub IsFinished : JoinerStart → JoinerLists → Taken → Type 0
IsFinished s lists t =
    IsAtRest s t
    × ((p : ℕ) → p < s.feeders → t.from_feeder p ≡ lists.from_feeder p)
    × ((q : ℕ) → q < 2 ^ s.k → t.from_joiner q ≡ lists.from_joiner q)

-- the tuples of step n that it sent, to whichever joiner
abbrev pub sent_in_step : JoinerStart → JoinerLists → ℕ → List Tuple
sent_in_step s lists n = gather (2 ^ s.k) (λ q. moved_of (s.epoch + n + 1) (lists.to_joiner q))

-- its last message: the sizes of its last store, and how many tuples it sent in each step
abbrev pub fin : JoinerStart → JoinerLists → Taken → ToCollector
fin s lists t =
    Fin (count_by (is_of R) (store s t (opened s t))) (count_by (is_of S) (store s t (opened s t)))
    (map (λ n. length (sent_in_step s lists n)) (counting_from 0 (opened s t)))

-- how many messages it received
abbrev pub received_count : JoinerStart → JoinerLists → ℕ
received_count s lists =
    length (gather s.feeders lists.from_feeder) + length (gather (2 ^ s.k) lists.from_joiner)

-- ---- the law

-- of a joiner that has these lists and took these messages
pub record JoinerLaw (s : JoinerStart) (lists : JoinerLists) (taken : Taken) : Type 0 where
  -- how many steps are settled
  pub done : ℕ
  pub of_feeders : (p : ℕ) → p < s.feeders → IsTakenOf (CanTakeOfFeeder s taken done p) (taken.from_feeder p)
      (lists.from_feeder p)
  pub of_joiners : (q : ℕ) → q < 2 ^ s.k → IsTakenOf (CanTakeOfJoiner s taken done q) (taken.from_joiner q)
      (lists.from_joiner q)
  -- turns and stamps
  pub counts_up : (p : ℕ) → p < s.feeders → CountsUp s.epoch (taken.from_feeder p)
  pub first_shift : shift_after s taken 0 ≡ s.shift
  pub same_shifts : (p n : ℕ) → p < s.feeders → AllByRecursion (λ shift. shift ≡ shift_after s taken n)
      (turn_shifts (s.epoch + n) (taken.from_feeder p))
  pub by_one : (n : ℕ) → n < opened s taken → AreNeighbours (shift_after s taken n) (shift_after s taken (n + 1))
  pub within : (n : ℕ) → n ≤ opened s taken → shift_after s taken n ≤ s.k
  -- steps: the settled ones come first, and at most one is open
  pub settled : (n : ℕ) → n < done → IsSettled s taken n
  pub unsettled : ¬ IsSettled s taken done
  pub one_open : opened s taken ≤ done + 1
  -- what it took of joiners was of its partner
  pub of_partner : (q n : ℕ) → q < 2 ^ s.k → 0 < length (moved_of (s.epoch + n + 1) (taken.from_joiner q))
      + moved_ends (s.epoch + n + 1) (taken.from_joiner q) → (n < opened s taken) × (q ≡ partner_of s taken n)
  -- the pairs that it sent, where what the partners moved here is older than its step
  pub founds : List (List Pair)
  pub fins : List ToCollector
  pub to_collector : lists.to_collector ≡ map Found founds ++ fins
  pub pairs : ((n : ℕ) → n < opened s taken → AllByRecursion (λ x. x.stamp ≤ s.epoch + n)
      (moved_of (s.epoch + n + 1) (taken.from_joiner (partner_of s taken n))))
      → SameBag (flat_map (λ ps. ps) founds) (found s taken (opened s taken))
  pub none_empty : AllByRecursion (λ ps. 0 < length ps) founds
  pub few_founds : length founds ≤ received_count s lists
  -- what it moved: in each opened step the exchanged side of the store before, to its partner
  pub moved : (n : ℕ) → n < opened s taken
      → SameBag (moved_of (s.epoch + n + 1) (lists.to_joiner (partner_of s taken n)))
      (filter (is_of (exchanged s taken n)) (store s taken n))
  pub ended : (n : ℕ) → AllTurned s taken n → moved_ends (s.epoch + n + 1) (lists.to_joiner (partner_of s taken n)) ≡ 1
  pub moved_only : (q e : ℕ) → 0 < length (moved_of e (lists.to_joiner q)) → (n : ℕ) × (e ≡ s.epoch + n + 1)
      × (n < opened s taken) × (q ≡ partner_of s taken n)
  pub ended_only : (q e : ℕ) → 0 < moved_ends e (lists.to_joiner q) → (n : ℕ) × (e ≡ s.epoch + n + 1)
      × AllTurned s taken n × (q ≡ partner_of s taken n)
  pub never_falls : (q : ℕ) → NeverFalls s.epoch (lists.to_joiner q)
  -- what it told the controller and the collector
  pub told : lists.to_controller ≡ map Settled (counting_from (s.epoch + 1) done)
  pub fin_last : (fins ≡ []) ⊎ ((fins ≡ fin s lists taken ∷ []) × IsAtRest s taken)
  pub finished : IsFinished s lists taken → fins ≡ fin s lists taken ∷ []
