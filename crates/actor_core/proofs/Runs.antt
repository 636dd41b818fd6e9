-- What several events of an actor keep, and what they add.
use Rattle.std.proofs.Common.{◌≡◌, ℕ, zero, suc, ◌+◌, refl, sym, ap, subst, ◌∙◌, Bool, true, false, cond, List, [], ◌∷◌}
use Rattle.std.proofs.Common.{◌++◌, append-nil, append_assoc, arith}
use Rattle.row_cells.specs.Lists.{IsPrefix}
use Rattle.epoch_tags.specs.declared.actor.Actor.{Actor}
use Rattle.epoch_tags.specs.declared.message.Msg.{Msg}
use Rattle.epoch_tags.specs.declared.message.Post.{Post}
use Rattle.theta_pred.specs.Formula.{Meaning}
use Rattle.actor_core.specs.Lists.{ActorLists, Cause, Took, Began, same_actor, posted_to, with_cause, with_event}
use Rattle.actor_core.specs.Standing.{JoinsBy, Start, Stands, IsLive, given_by}
use Rattle.actor_core.specs.Families.{journal_of}
use Rattle.actor_core.specs.Players.{Player, Runs}

-- ---- one after another

-- m events and then n others are n + m events
pub runs_joined : (m n : ℕ) (s t u : Player) → Runs m s t → Runs n t u → (k : ℕ) × (k ≡ n + m) × Runs k s u
runs_joined m zero s t u first then = (m, omega arith, subst (Runs m s) (sym then) first)
runs_joined m (suc n) s t u first then =
    let before = runs_joined m n s t then.0 first then.1 in
    (suc before.0, omega (arith, before.1), (then.0, before.2, then.2))

-- ---- what the machine stands for, and what it gave

-- the machine stands for the lists that it has then
pub runs_stand : (n : ℕ) (s t : Player) → Runs n s t → (start : Start) → Stands start s.lists s.core
    → Stands start t.lists t.core
runs_stand zero s t runs start st = subst (λ (p : Player). Stands start p.lists p.core) (sym runs) st
runs_stand (suc n) s t runs start st =
    subst (λ ls. Stands start ls t.core) (sym runs.2.lists)
    (runs.2.event.stands start runs.0.lists (runs_stand n s runs.0 runs.1 start st))

-- it is no feeder for which a call found no memory
pub runs_live : (n : ℕ) (s t : Player) → Runs n s t → IsLive s.core → IsLive t.core
runs_live zero s t runs live = subst (λ (p : Player). IsLive p.core) (sym runs) live
runs_live (suc n) s t runs live = runs.2.live

-- a joiner joins by the predicate by which it did
pub runs_join : (theta : Meaning) (n : ℕ) (s t : Player) → Runs n s t → JoinsBy theta s.core → JoinsBy theta t.core
runs_join theta zero s t runs joins = subst (λ (p : Player). JoinsBy theta p.core) (sym runs) joins
runs_join theta (suc n) s t runs joins = runs.2.event.joins theta (runs_join theta n s runs.0 runs.1 joins)

-- no event gives a pair
pub runs_given : (n : ℕ) (s t : Player) → Runs n s t → given_by t.core ≡ given_by s.core
runs_given zero s t runs = ap (λ (p : Player). given_by p.core) runs
runs_given (suc n) s t runs = runs.2.given ∙ runs_given n s runs.0 runs.1

-- ---- what was received and sent before is a front

-- a list is a front of itself
pub prefix_self : {X : Type 0} (xs ys : List X) → ys ≡ xs → IsPrefix xs ys
prefix_self xs ys e = record { rest = []; joins = append-nil xs ∙ sym e }

-- a front of a front is one of the whole
pub prefix_more : {X : Type 0} (xs ys zs : List X) → IsPrefix xs ys → IsPrefix ys zs → IsPrefix xs zs
prefix_more xs ys zs a b = record {
  rest = a.rest ++ b.rest;
  joins = sym (append_assoc xs a.rest b.rest) ∙ (ap (λ us. us ++ b.rest) a.joins ∙ b.joins);
}

cause_extends : (cause : Cause) (f : Actor → List Msg) (a : Actor) → IsPrefix (f a) (with_cause cause f a)
cause_extends (Took from m) f a = go (same_actor from a)
  where
    go : (b : Bool) → IsPrefix (f a) (cond b (f a ++ m ∷ []) (f a))
    go true = record { rest = m ∷ []; joins = refl }
    go false = prefix_self (f a) (f a) refl
cause_extends Began f a = prefix_self (f a) (f a) refl

-- the journal grows
pub runs_journal : (n : ℕ) (s t : Player) → Runs n s t → IsPrefix (journal_of s.core) (journal_of t.core)
runs_journal zero s t runs =
    prefix_self (journal_of s.core) (journal_of t.core) (ap (λ (p : Player). journal_of p.core) runs)
runs_journal (suc n) s t runs =
    prefix_more (journal_of s.core) (journal_of runs.0.core) (journal_of t.core) (runs_journal n s runs.0 runs.1)
    runs.2.grows

-- each list of the one is a front of the other's
pub record Grows (old new : ActorLists) : Type 0 where
  pub received : (from : Actor) → IsPrefix (old.received from) (new.received from)
  pub sent : (to : Actor) → IsPrefix (old.sent to) (new.sent to)

-- lists that are the same
pub grows_same : (old new : ActorLists) → new ≡ old → Grows old new
grows_same old new is = record {
  received = λ from.
      prefix_self (old.received from) (new.received from) (ap (λ (ls : ActorLists). ls.received from) is);
  sent = λ to. prefix_self (old.sent to) (new.sent to) (ap (λ (ls : ActorLists). ls.sent to) is);
}

-- one after the other
pub grows_then : (one other last : ActorLists) → Grows one other → Grows other last → Grows one last
grows_then one other last first then = record {
  received = λ from.
      prefix_more (one.received from) (other.received from) (last.received from) (first.received from)
      (then.received from);
  sent = λ to. prefix_more (one.sent to) (other.sent to) (last.sent to) (first.sent to) (then.sent to);
}

-- what an event adds
pub with_event_grows : (cause : Cause) (posts : List Post) (ls : ActorLists) → Grows ls (with_event cause posts ls)
with_event_grows cause posts ls = record {
  received = λ from. cause_extends cause ls.received from;
  sent = λ to. record { rest = posted_to to posts; joins = refl };
}

-- an actor's lists grow by its events
pub runs_grow : (n : ℕ) (s t : Player) → Runs n s t → Grows s.lists t.lists
runs_grow zero s t runs = grows_same s.lists t.lists (ap (λ (p : Player). p.lists) runs)
runs_grow (suc n) s t runs =
    let middle = runs.0.lists in
    let event = runs.2 in
    grows_then s.lists middle t.lists (runs_grow n s runs.0 runs.1)
    (subst (Grows middle) (sym event.lists) (with_event_grows event.cause event.posts middle))
