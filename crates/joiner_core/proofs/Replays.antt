-- What a call does to the machine, message by message, is what the definitions give.
use Rattle.std.proofs.Common.{◌≡◌, ℕ, zero, suc, ◌+◌, ◌^◌, ◌<◌, ◌≤◌, inl, inr, refl, sym, ◌∙◌, ap, subst, arith, Bool}
use Rattle.std.proofs.Common.{true, false, cond, not, ◌&&◌, ◌||◌, Some, None, List, [], ◌∷◌, ◌++◌, length}
use Rattle.std.specs.Prelude.{slice_set, sum_by}
use Rattle.std.specs.List.{find}
use Rattle.std.proofs.lemmas.Bool.{cases_eq, and_parts, and_from, not-true, false_from_ne_true}
use Rattle.std.proofs.lemmas.List.{append_cancel_left}
use Rattle.std.proofs.lemmas.List.Sums.{sum_by-set}
use Rattle.row_cells.specs.Lists.{counting_from}
use Rattle.epoch_tags.specs.declared.actor.Actor.TheVariants.{Feeder, Joiner as Joiner'}
use Rattle.epoch_tags.specs.declared.tuple.Pair.{Pair}
use Rattle.epoch_tags.specs.declared.message.Post.{Post}
use Rattle.epoch_tags.specs.declared.message.ToJoiner.{ToJoiner}
use Rattle.epoch_tags.specs.Held.{held_at}
use Rattle.joiner_core.specs.State.{EpochState, MachineState}
use Rattle.joiner_core.specs.Taking.{TakesOfFeeder, TakesOfJoiner}
use Rattle.joiner_core.specs.Outcomes.{Outcome, Does, quiet, followed_by, can_take_of_feeder, can_take_of_joiner}
use Rattle.joiner_core.specs.Outcomes.{of_feeder, of_joiner}
use Rattle.joiner_core.specs.Calls.{held_in_all, with_epochs, takes_of_feeder, takes_of_joiner, holds_of_feeder}
use Rattle.joiner_core.specs.Calls.{holds_of_joiner, is_clear, accepts, can_begin, is_ready_feeder, is_ready_joiner}
use Rattle.joiner_core.specs.Calls.{ready_joiner, ready_feeder, feeder_or, first_ready, takes_next_of_feeder}
use Rattle.joiner_core.specs.Calls.{takes_next_of_joiner, takes_first, takes_then, takes_held, takes_all_held}
use Rattle.joiner_core.specs.Calls.{found_posts, fin_posts, has_finished, finishes, left_by, posts_by}
use Rattle.joiner_core.specs.Machine.{IsSound, IsReadyOfFeeder, IsReadyOfJoiner, AreStuckOfFeeders, AreStuckOfJoiners}
use Rattle.joiner_core.specs.Machine.{IsStuck, IsWithoutFirst, TookHeld, DoesNext, TellsFin, HasFinished}
use Rattle.joiner_core.proofs.TakingTests.{or-right, or-first, feeder-test, test-feeder, joiner-test, test-joiner}
use Rattle.joiner_core.proofs.TakingTests.{finished-test, test-finished}
use Rattle.joiner_core.proofs.Outcomes.{does-nothing, does-then}

-- ---- the message of a call

-- what was done to the epochs was done to the machine
pub does-epochs : (old new : MachineState) (done : Outcome EpochState) (w w' : List Pair) (before after : List Post)
    → new ≡ record old { epochs = new.epochs } → Does done new.epochs w w' before after
    → Does (with_epochs old done) new w w' before after
does-epochs old new done w w' before after rest does = record {
  left = rest ∙ ap (λ e. record old { epochs = e }) does.left;
  found = does.found;
  posts = does.posts;
}

by-test : {S : Type 0} (test : Bool) (taken held : Outcome S) (new : S) (w w' : List Pair) (before after : List Post)
    → test ≡ true → Does taken new w w' before after → Does (cond test taken held) new w w' before after
by-test test taken held new w w' before after is does =
    subst (λ (b : Bool). Does (cond b taken held) new w w' before after) (sym is) does

by-other : {S : Type 0} (test : Bool) (taken held : Outcome S) (new : S) (w w' : List Pair) (before after : List Post)
    → test ≡ false → Does held new w w' before after → Does (cond test taken held) new w w' before after
by-other test taken held new w w' before after is does =
    subst (λ (b : Bool). Does (cond b taken held) new w w' before after) (sym is) does

module _ (old new : MachineState) (p : ℕ) (x : ToJoiner) (w w' : List Pair) (before after : List Post) where
  -- a feeder's message that can be taken was taken at once
  pub does-accept-feeder : held_at old.of_feeders p ≡ [] → TakesOfFeeder old.epochs p x
      → new ≡ record old { epochs = new.epochs } → Does (of_feeder old.epochs p x) new.epochs w w' before after
      → Does (accepts (Feeder p) x old) new w w' before after
  does-accept-feeder clear can rest does =
      by-test (is_clear (held_at old.of_feeders p) && can_take_of_feeder old.epochs p x) (takes_of_feeder p x old)
      (quiet (holds_of_feeder p x old)) new w w' before after
      (and_from (is_clear (held_at old.of_feeders p)) (can_take_of_feeder old.epochs p x) (ap is_clear clear)
      (feeder-test old.epochs p x can))
      (does-epochs old new (of_feeder old.epochs p x) w w' before after rest does)

-- a message waits behind those that are held of its link
pub waits-behind : (held : List ToJoiner) (can : Bool) → (held ≡ [] → ⊥) → (is_clear held && can) ≡ false
waits-behind [] can never = absurd (never refl)
waits-behind (x ∷ held) can never = refl

-- a feeder's message that can't be taken waits
pub waits-feeder : (held : List ToJoiner) (m : EpochState) (p : ℕ) (x : ToJoiner) → (TakesOfFeeder m p x → ⊥)
    → (is_clear held && can_take_of_feeder m p x) ≡ false
waits-feeder held m p x never = false_from_ne_true (is_clear held && can_take_of_feeder m p x)
    (λ can. never (test-feeder m p x (and_parts (is_clear held) (can_take_of_feeder m p x) can).1))

-- so does a joiner's
pub waits-joiner : (held : List ToJoiner) (m : EpochState) (q : ℕ) (x : ToJoiner) → (TakesOfJoiner m q x → ⊥)
    → (is_clear held && can_take_of_joiner m q x) ≡ false
waits-joiner held m q x never = false_from_ne_true (is_clear held && can_take_of_joiner m q x)
    (λ can. never (test-joiner m q x (and_parts (is_clear held) (can_take_of_joiner m q x) can).1))

-- a feeder's message was held
pub does-hold-feeder : (old new : MachineState) (p : ℕ) (x : ToJoiner) (w : List Pair) (before : List Post)
    → (is_clear (held_at old.of_feeders p) && can_take_of_feeder old.epochs p x) ≡ false
    → new ≡ holds_of_feeder p x old → Does (accepts (Feeder p) x old) new w w before before
does-hold-feeder old new p x w before waits is =
    by-other (is_clear (held_at old.of_feeders p) && can_take_of_feeder old.epochs p x) (takes_of_feeder p x old)
    (quiet (holds_of_feeder p x old)) new w w before before waits
    (does-nothing (holds_of_feeder p x old) new w before is)

module _ (old new : MachineState) (q : ℕ) (x : ToJoiner) (w w' : List Pair) (before after : List Post) where
  -- a joiner's message that can be taken was taken at once
  pub does-accept-joiner : held_at old.of_joiners q ≡ [] → TakesOfJoiner old.epochs q x
      → new ≡ record old { epochs = new.epochs } → Does (of_joiner old.epochs x) new.epochs w w' before after
      → Does (accepts (Joiner' q) x old) new w w' before after
  does-accept-joiner clear can rest does =
      by-test (is_clear (held_at old.of_joiners q) && can_take_of_joiner old.epochs q x) (takes_of_joiner x old)
      (quiet (holds_of_joiner q x old)) new w w' before after
      (and_from (is_clear (held_at old.of_joiners q)) (can_take_of_joiner old.epochs q x) (ap is_clear clear)
      (joiner-test old.epochs q x can))
      (does-epochs old new (of_joiner old.epochs x) w w' before after rest does)

-- a joiner's message was held
pub does-hold-joiner : (old new : MachineState) (q : ℕ) (x : ToJoiner) (w : List Pair) (before : List Post)
    → (is_clear (held_at old.of_joiners q) && can_take_of_joiner old.epochs q x) ≡ false
    → new ≡ holds_of_joiner q x old → Does (accepts (Joiner' q) x old) new w w before before
does-hold-joiner old new q x w before waits is =
    by-other (is_clear (held_at old.of_joiners q) && can_take_of_joiner old.epochs q x) (takes_of_joiner x old)
    (quiet (holds_of_joiner q x old)) new w w before before waits
    (does-nothing (holds_of_joiner q x old) new w before is)

-- ---- a held message

module _ (old new : MachineState) (queues : List (List ToJoiner)) (p : ℕ) (x : ToJoiner) (w w' : List Pair)
    (before after : List Post) where
  -- the first that is held of a feeder was taken
  pub does-first-feeder : held_at old.of_feeders p ≡ x ∷ held_at queues p
      → queues ≡ slice_set old.of_feeders p (held_at queues p)
      → new ≡ record old { of_feeders = queues; epochs = new.epochs }
      → Does (of_feeder old.epochs p x) new.epochs w w' before after
      → Does (takes_first (Feeder p) old) new w w' before after
  does-first-feeder first rest state does =
      let set = slice_set old.of_feeders p (held_at queues p) in
      subst (λ (held : List ToJoiner). Does (takes_next_of_feeder p old held) new w w' before after) (sym first)
      (record {
        left = state ∙ ap (λ qs. record old { of_feeders = qs; epochs = new.epochs }) rest
            ∙ ap (λ e. record old { of_feeders = set; epochs = e }) does.left;
        found = does.found;
        posts = does.posts;
      })

module _ (old new : MachineState) (queues : List (List ToJoiner)) (q : ℕ) (x : ToJoiner) (w w' : List Pair)
    (before after : List Post) where
  -- the first that is held of a joiner was taken
  pub does-first-joiner : held_at old.of_joiners q ≡ x ∷ held_at queues q
      → queues ≡ slice_set old.of_joiners q (held_at queues q)
      → new ≡ record old { of_joiners = queues; epochs = new.epochs }
      → Does (of_joiner old.epochs x) new.epochs w w' before after
      → Does (takes_first (Joiner' q) old) new w w' before after
  does-first-joiner first rest state does =
      let set = slice_set old.of_joiners q (held_at queues q) in
      subst (λ (held : List ToJoiner). Does (takes_next_of_joiner q old held) new w w' before after) (sym first)
      (record {
        left = state ∙ ap (λ qs. record old { of_joiners = qs; epochs = new.epochs }) rest
            ∙ ap (λ e. record old { of_joiners = set; epochs = e }) does.left;
        found = does.found;
        posts = does.posts;
      })

-- ---- the first link that is ready

finds : (test : ℕ → Bool) (a n j : ℕ) → a ≤ j → j < a + n → test j ≡ true → ((i : ℕ) → i < j → test i ≡ false)
    → find test (counting_from a n) ≡ Some j
finds test a zero j low high is none = absurd (omega arith)
finds test a (suc n) j low high is none = elim (cases_eq a j) [
  | inl same ↦ rw (ap test same ∙ is) (ap Some same)
  | inr differ ↦ rw (none a (omega arith)) (finds test (a + 1) n j (omega arith) (omega arith) is none)
]

finds_none : (test : ℕ → Bool) (a n : ℕ) → ((i : ℕ) → i < a + n → test i ≡ false)
    → find test (counting_from a n) ≡ None
finds_none test a zero none = refl
finds_none test a (suc n) none = rw (none a (omega arith)) (finds_none test (a + 1) n (λ i below. none i (omega arith)))

stuck-test : (can : ToJoiner → Bool) (queue : List ToJoiner) → ((x : ToJoiner) (rest : List ToJoiner)
    → queue ≡ x ∷ rest → can x ≡ true → ⊥) → can_begin can queue ≡ false
stuck-test can [] never = refl
stuck-test can (x ∷ rest) never = false_from_ne_true (can x) (λ yes. never x rest refl yes)

stuck-feeder : (m : MachineState) (n p : ℕ) → AreStuckOfFeeders n m → p < n → is_ready_feeder m p ≡ false
stuck-feeder m n p stuck low = stuck-test (can_take_of_feeder m.epochs p) (held_at m.of_feeders p)
    (λ x rest is yes. stuck p low x rest is (test-feeder m.epochs p x yes))

stuck-joiner : (m : MachineState) (n q : ℕ) → AreStuckOfJoiners n m → q < n → is_ready_joiner m q ≡ false
stuck-joiner m n q stuck low = stuck-test (can_take_of_joiner m.epochs q) (held_at m.of_joiners q)
    (λ x rest is yes. stuck q low x rest is (test-joiner m.epochs q x yes))

no-feeder : (m : MachineState) → AreStuckOfFeeders m.epochs.feeders m → ready_feeder m ≡ None
no-feeder m stuck = finds_none (is_ready_feeder m) 0 m.epochs.feeders
    (λ p low. stuck-feeder m m.epochs.feeders p stuck (omega arith))

no-joiner : (m : MachineState) → AreStuckOfJoiners (2 ^ m.epochs.k) m → ready_joiner m ≡ None
no-joiner m stuck = finds_none (is_ready_joiner m) 0 (2 ^ m.epochs.k)
    (λ q low. stuck-joiner m (2 ^ m.epochs.k) q stuck (omega arith))

-- the feeder is the first link that is ready
pub first-feeder : (m : MachineState) (p : ℕ) → IsReadyOfFeeder m p → AreStuckOfFeeders p m
    → first_ready m ≡ Some (Feeder p)
first-feeder m p ready stuck =
    let low = ready.low in
    ap (λ r. feeder_or r (ready_joiner m)) (finds (is_ready_feeder m) 0 m.epochs.feeders p (omega arith) (omega arith)
    (ap (can_begin (can_take_of_feeder m.epochs p)) ready.begins.1 ∙ feeder-test m.epochs p ready.first ready.can)
    (λ i below. stuck-feeder m p i stuck below))

-- the joiner is
pub first-joiner : (m : MachineState) (q : ℕ) → AreStuckOfFeeders m.epochs.feeders m → IsReadyOfJoiner m q
    → AreStuckOfJoiners q m → first_ready m ≡ Some (Joiner' q)
first-joiner m q feeders ready stuck =
    let low = ready.low in
    ap (λ r. feeder_or r (ready_joiner m)) (no-feeder m feeders)
    ∙ ap (λ r. feeder_or None r) (finds (is_ready_joiner m) 0 (2 ^ m.epochs.k) q (omega arith) (omega arith)
    (ap (can_begin (can_take_of_joiner m.epochs q)) ready.begins.1 ∙ joiner-test m.epochs q ready.first ready.can)
    (λ i below. stuck-joiner m q i stuck below))

-- none is
pub none-first : (m : MachineState) → IsStuck m → first_ready m ≡ None
none-first m stuck =
    ap (λ r. feeder_or r (ready_joiner m)) (no-feeder m stuck.feeders)
    ∙ ap (λ r. feeder_or None r) (no-joiner m stuck.joiners)

-- ---- the held ones are tried

one-fewer : (old new : List (List ToJoiner)) (i : ℕ) → i < length old → IsWithoutFirst i old new
    → sum_by length old ≡ suc (sum_by length new)
one-fewer old new i low is =
    let sums = sum_by-set length old i (held_at new i) [] low in
    let one : length (held_at old i) ≡ length (is.first ∷ held_at new i) = ap length is.rest in
    let all : sum_by length new ≡ sum_by length (slice_set old i (held_at new i)) =
    ap (λ qs. sum_by length qs) is.others in
    omega arith

module _ (old new : MachineState) (p : ℕ) (w w' : List Pair) (before after : List Post) where
  -- the first link that was ready is that feeder, of which one message was taken
  pub next-feeder : IsSound old → IsReadyOfFeeder old p → AreStuckOfFeeders p old
      → TookHeld (Feeder p) old new w w' before after → DoesNext old new w w' before after
  next-feeder sound ready stuck took =
      let count = sound.feeders in
      let low = ready.low in
      let fewer = one-fewer old.of_feeders new.of_feeders p (omega arith) took.given.0 in
      let same : sum_by length new.of_joiners ≡ sum_by length old.of_joiners = ap (λ qs. sum_by length qs)
      took.given.1 in
      record { from = Feeder p; first = first-feeder old p ready stuck; fewer = omega arith; does = took.does }

module _ (old new : MachineState) (q : ℕ) (w w' : List Pair) (before after : List Post) where
  -- it is that joiner
  pub next-joiner : IsSound old → AreStuckOfFeeders old.epochs.feeders old → IsReadyOfJoiner old q
      → AreStuckOfJoiners q old → TookHeld (Joiner' q) old new w w' before after → DoesNext old new w w' before after
  next-joiner sound feeders ready stuck took =
      let count = sound.joiners in
      let low = ready.low in
      let fewer = one-fewer old.of_joiners new.of_joiners q (omega arith) took.given.0 in
      let same : sum_by length new.of_feeders ≡ sum_by length old.of_feeders = ap (λ qs. sum_by length qs)
      took.given.1 in
      record { from = Joiner' q; first = first-joiner old q feeders ready stuck; fewer = omega arith; does = took.does }

rests : (n : ℕ) (m : MachineState) → IsStuck m → takes_held n m ≡ quiet m
rests zero m stuck = refl
rests (suc n) m stuck = ap (λ r. takes_then (takes_held n) m r) (none-first m stuck)

-- where none can be taken, none is
pub does-no-held : (m : MachineState) (w : List Pair) (before : List Post) → IsStuck m
    → Does (takes_all_held m) m w w before before
does-no-held m w before stuck =
    subst (λ (o : Outcome MachineState). Does o m w w before before) (sym (rests (held_in_all m) m stuck))
    (does-nothing m m w before refl)

module _ (a b c : MachineState) (w0 w1 w2 : List Pair) (p0 p1 p2 : List Post) where
  -- where the first one was taken, and then all that could be, all were
  pub does-held : DoesNext a b w0 w1 p0 p1 → Does (takes_all_held b) c w1 w2 p1 p2
      → Does (takes_all_held a) c w0 w2 p0 p2
  does-held next later =
      let n = held_in_all b in
      let is : takes_all_held a ≡ followed_by (takes_first next.from a) (takes_held n) =
      ap (λ i. takes_held i a) next.fewer ∙ ap (λ r. takes_then (takes_held n) a r) next.first in
      subst (λ (o : Outcome MachineState). Does o c w0 w2 p0 p2) (sym is)
      (does-then (takes_first next.from a) (takes_held n) b c w0 w1 w2 p0 p1 p2 next.does later)

-- ---- the end of a call

finishes-is : (m : MachineState) (told now : Bool) → (now ≡ true → (m.told ≡ false)
    × HasFinished m × (told ≡ true)) → (now ≡ false → (told ≡ m.told) × (m.told ≡ false → HasFinished m → ⊥))
    → now ≡ finishes m
finishes-is m told true first other =
    let is = first refl in
    sym (and_from (not m.told) (has_finished m) (ap not is.0) (finished-test m is.1))
finishes-is m told false first other = sym (false_from_ne_true (finishes m) (λ yes.
    let parts = and_parts (not m.told) (has_finished m) yes in
    (other refl).1 (not-true m.told parts.0) (test-finished m parts.1)))

told-is : (m : MachineState) (told now : Bool) → now ≡ finishes m → (now ≡ true → told ≡ true)
    → (now ≡ false → told ≡ m.told) → told ≡ (m.told || finishes m)
told-is m told true is first other = first refl ∙ sym (or-right m.told (finishes m) (sym is))
told-is m told false is first other = other refl ∙ sym (or-first m.told (finishes m) (sym is))

-- what a call left and posted, after what it did before its end
module _ (done : Outcome MachineState) (b new : MachineState) (w : List Pair) (before p1 p2 after : List Post)
    (does : Does done b [] w before p1) (rest : new ≡ record b { told = new.told })
    (tells : TellsFin b new.told p2 after) where
  now-is : tells.now ≡ finishes b
  now-is = finishes-is b new.told tells.now tells.first tells.other

  pub call-state : new ≡ left_by done
  call-state =
      rest ∙ ap (λ t. record b { told = t })
      (told-is b new.told tells.now now-is (λ yes. (tells.first yes).2) (λ no. (tells.other no).0))
      ∙ ap (λ (z : MachineState). record z { told = z.told || finishes z }) does.left

  pub call-posts : (added : List Post) → p1 ≡ before ++ added
      → (added ++ found_posts w) ++ fin_posts tells.now b ≡ posts_by done
  call-posts added sends =
      let same : added ≡ done.posts = append_cancel_left before added done.posts (sym sends ∙ does.posts) in
      ap (λ zs. (zs ++ found_posts w) ++ fin_posts tells.now b) same
      ∙ ap (λ ps. (done.posts ++ found_posts ps) ++ fin_posts tells.now b) does.found
      ∙ ap (λ n. (done.posts ++ found_posts done.found) ++ fin_posts n b) now-is
      ∙ ap (λ (z : MachineState). (done.posts ++ found_posts done.found) ++ fin_posts (finishes z) z) does.left
