-- What was taken of one feeder, with one message more.
use Rattle.std.proofs.Common.{◌≡◌, ℕ, ◌+◌, ◌<◌, ◌≤◌, refl, ◌∙◌, arith, Bool, true, false, List, [], ◌∷◌, ◌++◌}
use Rattle.epoch_tags.specs.declared.tuple.Tuple.{Tuple}
use Rattle.epoch_tags.specs.declared.message.ToJoiner.{ToJoiner}
use Rattle.epoch_tags.specs.declared.message.ToJoiner.TheVariants.{Tup, Turn, End, Moved, MovedEnd}
use Rattle.epoch_tags.specs.Messages.{turns, tups_of}
use Rattle.std.proofs.lemmas.Bool.{ne_eqb}
use Rattle.epoch_tags.specs.Orders.{CountsUp, TurnsGoBy}
use Rattle.joiner_law.specs.Standing.{IsOfFeeder, one_if}
use Rattle.joiner_law.proofs.LongerLists.{TurnsGoBy-append, CountsUp-append}
use Rattle.epoch_tags.proofs.Appends.{turns-append, ends-append}

-- a tuple may follow, stamped with the epoch to which the feeder has turned, while it hasn't ended
pub feeder-tup : (e : ℕ) (b : ℕ → ℕ) (done : ℕ) (turned : Bool) (ms : List ToJoiner) (x : Tuple)
    → x.stamp ≡ e + (done + one_if turned)
    → IsOfFeeder e b done turned false ms → IsOfFeeder e b done turned false (ms ++ Tup x ∷ [])
feeder-tup e b done turned ms x stamp is =
    let many = is.turns in
    let none = is.ends in
    record {
      counts_up = CountsUp-append e ms (Tup x ∷ []) is.counts_up none (omega arith, tt);
      by_shifts = TurnsGoBy-append b ms (Tup x ∷ []) is.by_shifts tt;
      turns = omega (arith, turns-append ms (Tup x ∷ []));
      ends = omega (arith, ends-append ms (Tup x ∷ []));
    }

-- its turn to the next epoch may follow, with that epoch's shift, while it has neither turned nor ended
pub feeder-turn : (e : ℕ) (b : ℕ → ℕ) (done : ℕ) (ms : List ToJoiner) (epoch shift : ℕ) → epoch ≡ e + done + 1
    → shift ≡ b epoch
    → IsOfFeeder e b done false false ms → IsOfFeeder e b done true false (ms ++ Turn epoch shift ∷ [])
feeder-turn e b done ms epoch shift next of is =
    let many = is.turns in
    let none = is.ends in
    record {
      counts_up = CountsUp-append e ms (Turn epoch shift ∷ []) is.counts_up none (omega arith, tt);
      by_shifts = TurnsGoBy-append b ms (Turn epoch shift ∷ []) is.by_shifts (of, tt);
      turns = omega (arith, turns-append ms (Turn epoch shift ∷ []));
      ends = omega (arith, ends-append ms (Turn epoch shift ∷ []));
    }

-- its end may follow, whether it has turned or not
pub feeder-end : (e : ℕ) (b : ℕ → ℕ) (done : ℕ) (turned : Bool) (ms : List ToJoiner)
    → IsOfFeeder e b done turned false ms → IsOfFeeder e b done turned true (ms ++ End ∷ [])
feeder-end e b done turned ms is =
    let many = is.turns in
    let none = is.ends in
    record {
      counts_up = CountsUp-append e ms (End ∷ []) is.counts_up none refl;
      by_shifts = TurnsGoBy-append b ms (End ∷ []) is.by_shifts tt;
      turns = omega (arith, turns-append ms (End ∷ []));
      ends = omega (arith, ends-append ms (End ∷ []));
    }

-- the step is settled
pub feeder-settled : (e : ℕ) (b : ℕ → ℕ) (done : ℕ) (ended : Bool) (ms : List ToJoiner)
    → IsOfFeeder e b done true ended ms → IsOfFeeder e b (done + 1) false ended ms
feeder-settled e b done ended ms is =
    let many = is.turns in
    record { counts_up = is.counts_up; by_shifts = is.by_shifts; turns = omega arith; ends = is.ends }

-- the shifts of the epochs so far are the same
TurnsGoBy-same : (b c : ℕ → ℕ) (e : ℕ) (ms : List ToJoiner) → CountsUp e ms → ((i : ℕ) → i ≤ e + turns ms → b i ≡ c i)
    → TurnsGoBy b ms → TurnsGoBy c ms
TurnsGoBy-same b c e [] up same by = tt
TurnsGoBy-same b c e (Tup x ∷ ms) up same by = TurnsGoBy-same b c e ms up.1 same by
TurnsGoBy-same b c e (Turn epoch shift ∷ ms) up same by =
    let next : epoch ≡ e + 1 = up.0 in
    (by.0 ∙ same epoch (omega arith), TurnsGoBy-same b c (e + 1) ms up.1 (λ i low. same i (omega arith)) by.1)
TurnsGoBy-same b c e (End ∷ ms) up same by = rw up tt
TurnsGoBy-same b c e (Moved epoch x ∷ ms) up same by = absurd up
TurnsGoBy-same b c e (MovedEnd epoch ∷ ms) up same by = absurd up

-- while it hasn't turned, later epochs may get other shifts
pub feeder-shifts : (e : ℕ) (b c : ℕ → ℕ) (done : ℕ) (ended : Bool) (ms : List ToJoiner)
    → ((i : ℕ) → i ≤ e + done → b i ≡ c i) → IsOfFeeder e b done false ended ms → IsOfFeeder e c done false ended ms
feeder-shifts e b c done ended ms same is =
    let many = is.turns in
    record {
      counts_up = is.counts_up;
      by_shifts = TurnsGoBy-same b c e ms is.counts_up (λ i low. same i (omega arith))
          is.by_shifts;
      turns = is.turns;
      ends = is.ends;
    }

-- nothing of a later epoch came
tups-later : (e f : ℕ) (ms : List ToJoiner) → CountsUp e ms → e + turns ms < f → tups_of f ms ≡ []
tups-later e f [] up low = refl
tups-later e f (Tup x ∷ ms) up low = let is : x.stamp ≡ e = up.0 in
    rw (ne_eqb x.stamp f (λ same. absurd (omega arith))) (tups-later e f ms up.1 low)
tups-later e f (Turn epoch shift ∷ ms) up low = tups-later (e + 1) f ms up.1 (omega arith)
tups-later e f (End ∷ ms) up low = rw up refl
tups-later e f (Moved epoch x ∷ ms) up low = absurd up
tups-later e f (MovedEnd epoch ∷ ms) up low = absurd up

-- while it hasn't turned, no tuple of a later epoch was taken of it
pub feeder-none : (e : ℕ) (b : ℕ → ℕ) (done : ℕ) (ended : Bool) (f : ℕ) (ms : List ToJoiner) → e + done < f
    → IsOfFeeder e b done false ended ms → tups_of f ms ≡ []
feeder-none e b done ended f ms low is = let many = is.turns in tups-later e f ms is.counts_up (omega arith)
