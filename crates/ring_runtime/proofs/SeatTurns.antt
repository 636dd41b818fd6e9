-- The turns of one seat in a bout.
use Rattle.std.proofs.Common.{◌≡◌, ℕ, zero, suc, ◌+◌, ◌<◌, inl, sym, subst, refl, ◌∙◌, true, arith, ap, Option, List}
use Rattle.std.proofs.Common.{[], ◌++◌}
use Rattle.epoch_tags.specs.declared.actor.Actor.{Actor}
use Rattle.epoch_tags.specs.declared.message.Post.{Post}
use Rattle.ring_links.specs.Rings.{Receiving}
use Rattle.ring_links.specs.Outlets.{OutletView}
use Rattle.actor_core.specs.Lists.{posted_to}
use Rattle.actor_core.specs.Numbers.{number, at_number}
use Rattle.actor_core.specs.Players.{MakesEvent, Runs}
use Rattle.actor_core.specs.declared.machines.Core.{Core}
use Rattle.ring_runtime.specs.Seats.{RingSeatView, frame_of, player_of, received_through, sent_through, sent_to}
use Rattle.ring_runtime.specs.Seats.{waiting_in}
use Rattle.ring_runtime.specs.Turns.{IsCaused, MakesTurn, Moves, Rests, Works}

-- a seat whose machine was called, and in whose outlets waits what that sent, made an event
pub made_turn : (old : RingSeatView) (core : Core) (ins : List (Option Receiving)) (outs : List (Option OutletView))
    (none sends : List Post) → IsCaused old.cast old.core core old.ins ins none sends → none ≡ []
    → ((a : Actor) → sent_through old.cast outs a
    ≡ sent_through old.cast old.outs a ++ posted_to a sends)
    → MakesTurn old.ins (player_of old) (player_of (record old { core = core; ins = ins; outs = outs }))
made_turn old core ins outs none sends caused empty sent =
    let posts : sends ≡ caused.occurs.added = caused.occurs.sends ∙ ap (λ ps. ps ++ caused.occurs.added) empty in
    record {
      event = record {
        cause = caused.cause;
        posts = caused.occurs.added;
        event = caused.occurs.event;
        free = caused.free;
        live = caused.live;
        given = caused.given;
        grows = caused.grows;
        lists = λ i. record {
          received = λ from. caused.received from i;
          sent = λ to. (sent to
              ∙ ap (λ ps. sent_through old.cast old.outs to ++ posted_to to ps) posts) i;
        };
      };
      looked = caused.looked;
    }

-- where what was sent through each outlet is the same, so is the player
pub flushed_player : (seat : RingSeatView) (outs : List (Option OutletView))
    → ((n : ℕ) → sent_to outs n ≡ sent_to seat.outs n) → player_of (record seat { outs = outs }) ≡ player_of seat
flushed_player seat outs same = λ i. record {
  core = seat.core;
  lists = record {
    received = received_through seat.cast seat.ins;
    sent = λ to. at_number [] (number seat.cast to) (λ n. same n i);
  };
}

-- so an event behind a flush is one of the seat before it
pub turn_flushed : (old : RingSeatView) (outs : List (Option OutletView)) (new : RingSeatView)
    → ((n : ℕ) → sent_to outs n ≡ sent_to old.outs n)
    → MakesTurn old.ins (player_of (record old { outs = outs })) (player_of new)
    → MakesTurn old.ins (player_of old) (player_of new)
turn_flushed old outs new same = subst (λ p. MakesTurn old.ins p (player_of new)) (flushed_player old outs same)

-- after so many turns: some events; where there was none, the seat rested at first, and by now fewer messages wait
pub record Progress (round : ℕ) (old new : RingSeatView) : Type 0 where
  pub count : ℕ
  pub runs : Runs count (player_of old) (player_of new)
  pub frame : frame_of new ≡ frame_of old
  pub fresh : round ≡ 0 → new ≡ old
  pub rested : count ≡ 0 → 0 < round → Rests old.core old.ins
  pub fewer : count ≡ 0 → 0 < round → waiting_in new.outs < waiting_in old.outs

-- one turn more, with an event
pub progress_took : (round : ℕ) (s t u : RingSeatView) → Progress round s t → MakesEvent (player_of t) (player_of u)
    → frame_of u ≡ frame_of t → Progress (round + 1) s u
progress_took round s t u before event frame = record {
  count = suc before.count;
  runs = (player_of t, before.runs, event);
  frame = frame ∙ before.frame;
  fresh = λ e. absurd (omega (arith, e));
  rested = λ e low. absurd (omega (arith, e));
  fewer = λ e low. absurd (omega (arith, e));
}

-- a seat with no event so far rested at its beginning
rested_yet : (round : ℕ) (s t : RingSeatView) (before : Progress round s t) → before.count ≡ 0 → Rests t.core t.ins
    → Rests s.core s.ins
rested_yet zero s t before none rests = subst (λ (v : RingSeatView). Rests v.core v.ins) (before.fresh refl) rests
rested_yet (suc round) s t before none rests = before.rested none (omega arith)

fewer_yet : (round : ℕ) (s t : RingSeatView) (before : Progress round s t) → before.count ≡ 0
    → (n : ℕ) → n < waiting_in t.outs → n < waiting_in s.outs
fewer_yet zero s t before none n low = subst (λ (v : RingSeatView). n < waiting_in v.outs) (before.fresh refl) low
fewer_yet (suc round) s t before none n low = let fewer = before.fewer none (omega arith) in omega (arith, fewer, low)

-- one turn more, in which messages left
pub progress_moved : (round : ℕ) (s t u : RingSeatView) → Progress round s t → Moves t u → Rests t.core t.ins
    → frame_of u ≡ frame_of t → Progress (round + 1) s u
progress_moved round s t u before moves rests frame = record {
  count = before.count;
  runs = subst (Runs before.count (player_of s)) (sym moves.player) before.runs;
  frame = frame ∙ before.frame;
  fresh = λ e. absurd (omega (arith, e));
  rested = λ none low. rested_yet round s t before none rests;
  fewer = λ none low. fewer_yet round s t before none (waiting_in u.outs) moves.fewer;
}

-- a turn failed
pub works_spent : (s t : RingSeatView) → frame_of t ≡ frame_of s → t.spent ≡ true → Works s t
works_spent s t frame is = record { frame = frame; advances = inl is }
