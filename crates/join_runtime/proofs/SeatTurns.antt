-- Turns of a seat: what its actor did, and what its ends keep.
use Rattle.std.proofs.Common.{◌≡◌, ℕ, suc, inl, inr, true≢false, refl, sym, ap, subst, ◌∙◌, Bool, true, false, cond}
use Rattle.std.proofs.Common.{Option, List, ◌∷◌, ◌++◌, [], map, arith}
use Rattle.epoch_tags.specs.declared.actor.Actor.{Actor}
use Rattle.epoch_tags.specs.declared.message.Msg.{Msg}
use Rattle.epoch_tags.specs.declared.message.Post.{Post}
use Rattle.ruled_links.specs.Ends.{Sending}
use Rattle.ruled_links.specs.Inboxes.{InboxView, OfSender, fresh, is_sender}
use Rattle.actor_core.specs.Lists.{ActorLists, Cause, Took, Began, posted_to, same_actor, with_cause}
use Rattle.actor_core.specs.Players.{Runs}
use Rattle.actor_core.specs.declared.machines.Core.{Core}
use Rattle.actor_core.proofs.Balances.{same_is}
use Rattle.actor_core.proofs.Runs.{runs_joined}
use Rattle.join_runtime.specs.Views.{Frame, SeatView, frame_of, lists_of, player, sent_through}
use Rattle.join_runtime.specs.Turns.{Advances, IsAlike, IsCaused, IsHeard, KeepsEnds, MakesTurn, Rests, Steps, Works}
use Rattle.join_runtime.specs.Joins.{HearsSenders}
use Rattle.join_runtime.proofs.KnownCounts.{is_sender-named}

-- ---- what the ends keep

-- frames that are the same have the same senders
same_senders : (s t : SeatView) (a : Actor) → frame_of t ≡ frame_of s
    → is_sender a t.inbox.senders ≡ is_sender a s.inbox.senders
same_senders s t a frame =
    sym (is_sender-named a t.inbox.senders)
    ∙ (ap (λ (f : Frame). is_sender a (map fresh f.senders)) frame ∙ is_sender-named a s.inbox.senders)

heard_more : (cause : Cause) (senders : List OfSender) (f : Actor → List Msg) (a : Actor) → IsHeard cause senders
    → is_sender a senders ≡ false → with_cause cause f a ≡ f a
heard_more (Took from m) senders f a heard none = go (same_actor from a) refl
  where
    go : (b : Bool) → same_actor from a ≡ b → cond b (f a ++ m ∷ []) (f a) ≡ f a
    go true e = absurd (true≢false (sym heard ∙ subst (λ z. is_sender z senders ≡ false) (sym (same_is from a e)) none))
    go false e = refl
heard_more Began senders f a heard none = refl

-- where nothing changed
pub ends_self : (s t : SeatView) → t ≡ s → KeepsEnds s t
ends_self s t same = record {
  frame = ap frame_of same;
  heard = λ from none. ap (λ (u : SeatView). (lists_of u).received from) same;
}

-- one after the other
pub ends_joined : (s t u : SeatView) → KeepsEnds s t → KeepsEnds t u → KeepsEnds s u
ends_joined s t u first then = record {
  frame = then.frame ∙ first.frame;
  heard = λ from none. then.heard from (same_senders s t from first.frame ∙ none) ∙ first.heard from none;
}

-- a turn keeps them
pub turn_ends : (s t : SeatView) → MakesTurn s t → KeepsEnds s t
turn_ends s t turn = record {
  frame = turn.frame;
  heard = λ from none.
      ap (λ (ls : ActorLists). ls.received from) turn.event.lists
      ∙ heard_more turn.event.cause s.inbox.senders (lists_of s).received from turn.heard none;
}

-- ---- one turn

-- a seat whose machine was called, and whose mouths took what that sent
module _ (old : SeatView) (core : Core) (inbox : InboxView) (mouths : List (Option Sending)) (none sends : List Post)
    (caused : IsCaused old.core core old.inbox inbox none sends) (empty : none ≡ [])
    (sent : (a : Actor) → sent_through old.cast mouths a
    ≡ sent_through old.cast old.mouths a ++ posted_to a sends) where
  abbrev after : SeatView
  after = record old { core = core; inbox = inbox; mouths = mouths }

  sent_then : (a : Actor) → (lists_of after).sent a ≡ (lists_of old).sent a ++ posted_to a caused.occurs.added
  sent_then a =
      let all = caused.occurs.sends ∙ ap (λ ps. ps ++ caused.occurs.added) empty in
      sent a ∙ ap (λ ps. (lists_of old).sent a ++ posted_to a ps) all

  -- it made an event
  pub made_turn : frame_of after ≡ frame_of old → MakesTurn old after
  made_turn frame = record {
    event = record {
      cause = caused.cause;
      posts = caused.occurs.added;
      event = caused.occurs.event;
      free = caused.free;
      live = caused.live;
      given = caused.given;
      grows = caused.grows;
      lists = λ i. record { received = λ from. caused.received from i; sent = λ to. sent_then to i };
    };
    heard = caused.heard;
    frame = frame;
  }

-- ---- a seat that is told what is left

-- it keeps its ends
pub alike_ends : (s t : SeatView) → IsAlike s t → KeepsEnds s t
alike_ends s t alike = record {
  frame = alike.frame;
  heard = λ from none. ap (λ (ls : ActorLists). ls.received from) alike.lists;
}

-- so senders alone are heard still
pub ends_hear : (s t : SeatView) → KeepsEnds s t → HearsSenders s → HearsSenders t
ends_hear s t ends hears from none =
    let none' = sym (same_senders s t from ends.frame) ∙ none in
    ends.heard from none' ∙ hears from none'

-- a seat that is alike has the same player
pub alike_player : (s t : SeatView) → IsAlike s t → player t ≡ player s
alike_player s t alike = λ i. record { core = alike.core i; lists = alike.lists i }

-- ---- events ahead of others

-- a seat that didn't change made no events
pub steps_none : (s t : SeatView) → t ≡ s → Steps s t
steps_none s t same = record { count = 0; runs = ap player same; ends = ends_self s t same; same = λ z. same }

-- some events, or none and nothing changed, one stretch after the other, are so together
pub steps_joined : (s t u : SeatView) → Steps s t → Steps t u → Steps s u
steps_joined s t u first then =
    let both = runs_joined first.count then.count (player s) (player t) (player u) first.runs then.runs in
    record {
      count = both.0;
      runs = both.2;
      ends = ends_joined s t u first.ends then.ends;
      same = λ z. then.same (omega (arith, z, both.1)) ∙ first.same (omega (arith, z, both.1));
    }

-- and so is a turn after them
pub steps_more : (s t u : SeatView) → Steps s t → MakesTurn t u → Steps s u
steps_more s t u first turn = record {
  count = suc first.count;
  runs = (player t, first.runs, turn.event);
  ends = ends_joined s t u first.ends (turn_ends t u turn);
  same = λ z. absurd (omega (arith, z));
}

-- where a seat made some events, or none and nothing changed, and then advanced, it has advanced
pub advances_after : (s t u : SeatView) → Steps s t → Advances t u → Advances s u
advances_after s t u first then =
    let both = runs_joined first.count then.count (player s) (player t) (player u) first.runs then.runs in
    record {
      count = both.0;
      runs = both.2;
      ends = ends_joined s t u first.ends then.ends;
      none = λ z.
          let before = first.same (omega (arith, z, both.1)) in
          subst (λ (v : SeatView). Rests v.core v.inbox) before (then.none (omega (arith, z, both.1)));
    }

-- a seat that advanced, and then is told what is left
pub advances_alike : (s t u : SeatView) → Advances s t → IsAlike t u → Advances s u
advances_alike s t u a alike = record {
  count = a.count;
  runs = subst (Runs a.count (player s)) (sym (alike_player t u alike)) a.runs;
  ends = ends_joined s t u a.ends (alike_ends t u alike);
  none = a.none;
}

-- ---- the turns of one bout

-- after these events the seat rests, or has had all its turns
pub works_rested : (n : ℕ) (s t u : SeatView) → Runs n (player s) (player t) → KeepsEnds s t → (n ≡ 0 → t ≡ s) → u ≡ t
    → Rests t.core t.inbox → Works s u
works_rested n s t u runs ends none same rests =
    let last = ends_joined s t u ends (ends_self t u same) in
    record {
      frame = last.frame;
      advances = inr (record {
        count = n;
        runs = subst (λ v. Runs n (player s) (player v)) (sym same) runs;
        ends = last;
        none = λ z. subst (λ (v : SeatView). Rests v.core v.inbox) (none z) rests;
      });
    }

-- a seat that is spent, with the frame that it had, has had its turns of a bout
pub works_spent : (s t : SeatView) → frame_of t ≡ frame_of s → t.spent ≡ true → Works s t
works_spent s t frame is = record { frame = frame; advances = inl is }
