-- What a joiner's machine holds, and the lists for which it stands.
use Rattle.std.specs.Prelude.{◌≡◌, ℕ, zero, suc, ◌+◌, ◌<◌, ◌≤◌, ◌==◌, Bool, true, false, cond, ⊤, List, [], ◌∷◌, ◌++◌}
use Rattle.std.specs.Prelude.{filter, length, flat_map, map, ◌⊎◌, count_by}
use Rattle.row_cells.specs.Lists.{SameBag, counting_from}
use Rattle.epoch_tags.specs.declared.tuple.Tuple.{Tuple}
use Rattle.epoch_tags.specs.declared.tuple.Pair.{Pair}
use Rattle.epoch_tags.specs.declared.message.ToJoiner.{ToJoiner}
use Rattle.epoch_tags.specs.declared.message.ToJoiner.TheVariants.{Tup, Turn, End, Moved, MovedEnd}
use Rattle.epoch_tags.specs.declared.message.ToController.TheVariants.{Settled}
use Rattle.epoch_tags.specs.Messages.{turns, ends, moved_of, moved_ends, pairs_found}
use Rattle.epoch_tags.specs.Orders.{CountsUp, NeverFalls, TurnsGoBy}
use Rattle.epoch_tags.specs.declared.message.Post.{Post}
use Rattle.epoch_tags.specs.Posts.{posted_to_joiner, posted_to_controller, posted_to_collector}
use Rattle.migration_plan.specs.Steps.{AreNeighbours, exchanged_side, partner_in_step, is_of}
use Rattle.joiner_law.specs.Law.{JoinerStart, JoinerLists, Taken, shift_after, partner_of, arrived, pairs_by}
use Rattle.joiner_law.specs.History.{Step, stored, all_found, CameOlder, ArrivedInTime}

-- ---- one message more

-- the lists with one more message in that of number p
abbrev pub grown : ℕ → ToJoiner → (ℕ → List ToJoiner) → ℕ → List ToJoiner
grown p m f q = cond (q == p) (f q ++ m ∷ []) (f q)

-- the messages taken, and this one of feeder p
abbrev pub took_of_feeder : ℕ → ToJoiner → Taken → Taken
took_of_feeder p m t = record t { from_feeder = grown p m t.from_feeder }

-- the messages taken, and this one of joiner q
abbrev pub took_of_joiner : ℕ → ToJoiner → Taken → Taken
took_of_joiner q m t = record t { from_joiner = grown q m t.from_joiner }

-- an epoch gets its shift
abbrev pub with_shift : ℕ → ℕ → Taken → Taken
with_shift epoch shift t = record t { shift_at = λ e. cond (e == epoch) shift (t.shift_at e) }

-- ---- orders and turns

-- 1 where it is so, and 0 where it isn't
abbrev pub one_if : Bool → ℕ
one_if b = cond b 1 0

-- what was taken of a feeder, with so many steps settled
pub record IsOfFeeder (epoch : ℕ) (b : ℕ → ℕ) (done : ℕ) (turned ended : Bool) (ms : List ToJoiner) : Type 0 where
  pub counts_up : CountsUp epoch ms
  pub by_shifts : TurnsGoBy b ms
  pub turns : turns ms ≡ done + one_if turned
  pub ends : ends ms ≡ one_if ended

-- ---- stores

-- what came into the store of step n otherwise than from feeders
abbrev pub came_in : JoinerStart → Taken → ℕ → List Tuple
came_in s t zero = s.base
came_in s t (suc n) = moved_of (s.epoch + n + 1) (t.from_joiner (partner_of s t n))

-- step n of what was taken, with what came and arrived in any order
pub record IsStep (s : JoinerStart) (t : Taken) (n : ℕ) (step : Step) : Type 0 where
  pub shift : shift_after s t n ≡ step.shift
  pub within : step.shift ≤ s.k
  pub arrived : SameBag step.arrived (arrived s t (s.epoch + n))
  pub came : SameBag step.came (came_in s t n)

-- the steps, the latest first, are those that were taken
abbrev pub IsHistory : JoinerStart → Taken → List Step → Type 0
IsHistory s t [] = ⊤
IsHistory s t (step ∷ past) = IsStep s t (length past) step × IsHistory s t past

-- each step goes to a neighbouring shift
abbrev pub GoesByOne : List Step → Type 0
GoesByOne [] = ⊤
GoesByOne (step ∷ []) = ⊤
GoesByOne (step ∷ (before ∷ past)) = AreNeighbours before.shift step.shift × GoesByOne (before ∷ past)

-- ---- moves

-- what was sent in a step: the exchanged side of the store before, to the partner, and whether its end was
pub record IsSent (s : JoinerStart) (lists : JoinerLists) (ended : Bool) (step before : Step)
    (past : List Step) : Type 0 where
  pub tuples : SameBag
      (moved_of (s.epoch + length past + 1) (lists.to_joiner (partner_in_step before.shift step.shift s.id)))
      (filter (is_of (exchanged_side before.shift step.shift)) (stored s.k s.id (before ∷ past)))
  pub ends : moved_ends (s.epoch + length past + 1) (lists.to_joiner (partner_in_step before.shift step.shift s.id))
      ≡ one_if ended

-- what was sent in each step, the latest first
abbrev pub AreSent : JoinerStart → JoinerLists → Bool → List Step → Type 0
AreSent s lists ended [] = ⊤
AreSent s lists ended (step ∷ []) = ⊤
AreSent s lists ended (step ∷ (before ∷ past)) = IsSent s lists ended step before past
    × AreSent s lists true (before ∷ past)

-- the epoch from which messages may follow these
abbrev pub reached : ℕ → List ToJoiner → ℕ
reached e [] = e
reached e (Tup x ∷ ms) = reached e ms
reached e (Turn epoch shift ∷ ms) = reached e ms
reached e (End ∷ ms) = reached e ms
reached e (Moved epoch x ∷ ms) = reached epoch ms
reached e (MovedEnd epoch ∷ ms) = reached (epoch + 1) ms

-- nothing later than this epoch
abbrev pub SentUpTo : ℕ → List ToJoiner → Type 0
SentUpTo last [] = ⊤
SentUpTo last (Tup x ∷ ms) = SentUpTo last ms
SentUpTo last (Turn epoch shift ∷ ms) = SentUpTo last ms
SentUpTo last (End ∷ ms) = SentUpTo last ms
SentUpTo last (Moved epoch x ∷ ms) = (epoch ≤ last) × SentUpTo last ms
SentUpTo last (MovedEnd epoch ∷ ms) = (epoch ≤ last) × SentUpTo last ms

-- the messages of a link to a joiner: epochs never fall, none is later than `last`, and `next` may follow
pub record IsLink (first last next : ℕ) (ms : List ToJoiner) : Type 0 where
  pub never_falls : NeverFalls first ms
  pub up_to : SentUpTo last ms
  pub goes_on : reached first ms ≤ next

-- ---- pairs

-- the pairs that were sent
abbrev pub pairs_sent : JoinerLists → List Pair
pairs_sent lists = flat_map pairs_found lists.to_collector

-- the pairs that were sent and those that wait to be sent are those of all steps
pub record ArePairs (s : JoinerStart) (sent waiting : List Pair) (steps : List Step) : Type 0 where
  pub pairs : CameOlder s.epoch steps → SameBag (sent ++ waiting ++ pairs_by s.matches s.base s.base)
      (all_found s.matches s.epoch s.k s.id steps)

-- ---- posts

-- the lists with these posts sent
abbrev pub with_sent : JoinerLists → List Post → JoinerLists
with_sent lists posts = record lists {
  to_joiner = λ j. lists.to_joiner j ++ posted_to_joiner j posts;
  to_controller = lists.to_controller ++ posted_to_controller posts;
  to_collector = lists.to_collector ++ posted_to_collector posts;
}

-- ---- the whole, in the midst of a call

-- whether the partner ended its part of each step, the latest first
abbrev pub AreParts : JoinerStart → Taken → Bool → List Step → Type 0
AreParts s t ended [] = ⊤
AreParts s t ended (step ∷ []) = ⊤
AreParts s t ended (step ∷ (before ∷ past)) =
    (moved_ends (s.epoch + length past + 1) (t.from_joiner (partner_of s t (length past))) ≡ one_if ended)
    × AreParts s t true (before ∷ past)

-- epoch e is that of a step whose partner is joiner q
abbrev pub IsPartOf : JoinerStart → List Step → ℕ → ℕ → Type 0
IsPartOf s [] q e = ⊥
IsPartOf s (step ∷ []) q e = ⊥
IsPartOf s (step ∷ (before ∷ past)) q e =
    ((e ≡ s.epoch + length past + 1) × (q ≡ partner_in_step before.shift step.shift s.id))
    ⊎ IsPartOf s (before ∷ past) q e

-- and this joiner ended its part of that step
abbrev pub IsEndOf : JoinerStart → Bool → List Step → ℕ → ℕ → Type 0
IsEndOf s ended [] q e = ⊥
IsEndOf s ended (step ∷ []) q e = ⊥
IsEndOf s ended (step ∷ (before ∷ past)) q e =
    ((e ≡ s.epoch + length past + 1) × (q ≡ partner_in_step before.shift step.shift s.id) × (ended ≡ true))
    ⊎ IsEndOf s true (before ∷ past) q e

-- the epochs of all `Moved`, and of all `MovedEnd`
abbrev pub HasParts : (ℕ → Type 0) → (ℕ → Type 0) → List ToJoiner → Type 0
HasParts P Q [] = ⊤
HasParts P Q (Tup x ∷ ms) = HasParts P Q ms
HasParts P Q (Turn epoch shift ∷ ms) = HasParts P Q ms
HasParts P Q (End ∷ ms) = HasParts P Q ms
HasParts P Q (Moved epoch x ∷ ms) = P epoch × HasParts P Q ms
HasParts P Q (MovedEnd epoch ∷ ms) = Q epoch × HasParts P Q ms

-- how many tuples were sent in each step, the first step first
abbrev pub moved_counts : ℕ → ℕ → List Step → List ℕ
moved_counts k id [] = []
moved_counts k id (step ∷ []) = []
moved_counts k id (step ∷ (before ∷ past)) =
    moved_counts k id (before ∷ past) ++ count_by (is_of (exchanged_side before.shift step.shift))
    (stored k id (before ∷ past)) ∷ []

-- of a joiner that took t, sent these lists and has these pairs waiting: what holds whether a step is open or not
pub record AreSteps (s : JoinerStart) (t : Taken) (lists : JoinerLists) (waiting : List Pair) (done : ℕ)
    (turned ended : ℕ → Bool) (all_turned part_ended : Bool) (steps : List Step) : Type 0 where
  pub feeders : (p : ℕ) → p < s.feeders → IsOfFeeder s.epoch t.shift_at done (turned p) (ended p) (t.from_feeder p)
  pub history : IsHistory s t steps
  pub by_one : GoesByOne steps
  pub in_time : ArrivedInTime s.epoch steps
  pub pairs : ArePairs s (pairs_sent lists) waiting steps
  pub sent : AreSent s lists all_turned steps
  pub parts : AreParts s t part_ended steps
  pub told : lists.to_controller ≡ map Settled (counting_from (s.epoch + 1) done)
  pub first_shift : shift_after s t 0 ≡ s.shift
  pub from_partner : (q : ℕ) → HasParts (λ e. IsPartOf s steps q e) (λ e. IsPartOf s steps q e) (t.from_joiner q)
  pub to_partner : (q : ℕ) → HasParts (λ e. IsPartOf s steps q e) (λ e. IsEndOf s all_turned steps q e)
      (lists.to_joiner q)

-- with no step open, the store being `a`
pub record StandsSettled (s : JoinerStart) (t : Taken) (lists : JoinerLists) (waiting : List Pair) (ended : ℕ
    → Bool) (a : List Tuple) (cur : Step) (past : List Step) : Type 0 where
  pub steps : AreSteps s t lists waiting (length past) (λ p. false) ended true true (cur ∷ past)
  pub store : SameBag a (stored s.k s.id (cur ∷ past))
  pub links : (q : ℕ) → IsLink s.epoch (s.epoch + length past) (s.epoch + length past + 1) (lists.to_joiner q)
  pub taken_up_to : (q : ℕ) → SentUpTo (s.epoch + length past) (t.from_joiner q)

-- with a step open, the stores being `a` and `b`
pub record StandsOpen (s : JoinerStart) (t : Taken) (lists : JoinerLists) (waiting : List Pair) (turned ended : ℕ
    → Bool) (all_turned part_ended : Bool) (a b : List Tuple) (new cur : Step) (past : List Step) : Type 0 where
  pub steps : AreSteps s t lists waiting (length past) turned ended all_turned part_ended (new ∷ (cur ∷ past))
  pub store : SameBag a (stored s.k s.id (cur ∷ past))
  pub opened : SameBag b (stored s.k s.id (new ∷ (cur ∷ past)))
  pub links : (q : ℕ) → IsLink s.epoch (s.epoch + length past + 1) (s.epoch + length past + 1 + one_if all_turned)
      (lists.to_joiner q)
  pub taken_up_to : (q : ℕ) → SentUpTo (s.epoch + length past + 1) (t.from_joiner q)

-- one flag more
abbrev pub with_flag : ℕ → (ℕ → Bool) → ℕ → Bool
with_flag p f q = cond (q == p) true (f q)
