-- What a bout does to the seats of a run.
use Rattle.std.proofs.Common.{◌≡◌, ℕ, ◌<◌, inl, inr, refl, sym, ap, subst, ◌∙◌, Bool, true, false, true≢false}
use Rattle.std.proofs.Common.{List, Ok, Result, get_or, set, map, length, arith}
use Rattle.std.specs.declared.alloc.AllocError.{AllocError}
use Rattle.std.proofs.lemmas.Bool.{cases_eq}
use Rattle.std.proofs.lemmas.List.{get_or_default, get_or-set_other, get_or-set_same, length-map, length-set}
use Rattle.row_cells.specs.Lists.{IsPrefix}
use Rattle.epoch_tags.specs.declared.actor.Actor.{Actor}
use Rattle.theta_pred.specs.Formula.{Meaning}
use Rattle.actor_core.specs.declared.cast.Cast.{Cast}
use Rattle.actor_core.specs.Numbers.{count_of}
use Rattle.actor_core.specs.Elements.{IsAllAt}
use Rattle.actor_core.specs.Standing.{JoinsBy}
use Rattle.actor_core.specs.Lists.{ActorLists}
use Rattle.actor_core.specs.declared.machines.Core.{Core}
use Rattle.actor_core.specs.Players.{AllStand, AreLinked, Extends, journal_among, lists_among}
use Rattle.actor_core.specs.Tasks.{Task}
use Rattle.actor_core.proofs.EventsCounted.{still_linked}
use Rattle.actor_core.proofs.Runs.{runs_live}
use Rattle.actor_core.proofs.Seated.{AllRelate, HasRun, all_relate, extends, join_after, journal_grows, stand_after}
use Rattle.join_runtime.specs.Kinds.{IsMachineOf}
use Rattle.join_runtime.specs.Views.{Frame, SeatView, frame_of, lists_of, player}
use Rattle.join_runtime.specs.Turns.{Advances, AllStep, AllWork, IsAlike, Steps, Works}
use Rattle.join_runtime.specs.Joins.{AreGathered, AreJoined, AreSettled}
use Rattle.join_runtime.specs.Bouts.{AllAdvance, NoneSpent}
use Rattle.join_runtime.proofs.SeatTurns.{advances_after, advances_alike, ends_hear, steps_joined, steps_none}
use Rattle.join_runtime.proofs.FramePlaces.{frames_same}
use Rattle.join_runtime.proofs.OwnMachines.{runs_own}

-- ---- one seat

advanced : (s t : SeatView) → Works s t → t.spent ≡ false → Advances s t
advanced s t works none = elim works.advances [
  | inl spent ↦ absurd (true≢false (sym spent ∙ none))
  | inr advances ↦ advances
]

-- ---- all seats

-- where each seat worked, none is spent then, and each afterwards is alike, each seat made some events, and none only
-- where it rested
pub all_advance : (old middle new : List SeatView) → length middle ≡ length old → AllWork old middle → NoneSpent middle
    → ((n : ℕ) (d : SeatView) → n < length middle → IsAlike (get_or middle n d) (get_or new n d)) → AllAdvance old new
all_advance old middle new long works none alike n d low =
    let low' : n < length middle = omega (arith, long) in
    advances_alike (get_or old n d) (get_or middle n d) (get_or new n d)
    (advanced (get_or old n d) (get_or middle n d) (works n d low) (none n d low')) (alike n d low')

-- a seat became t, and the others stay
module _ (seats : List SeatView) (place : ℕ) (there : place < length seats) (e t : SeatView) where
  -- what holds of that seat, and of each that stays, holds of all
  pub at_each : (R : SeatView → SeatView → Type 0) → ((u : SeatView) → R u u) → R (get_or seats place e) t
      → (n : ℕ) (d : SeatView) → R (get_or seats n d) (get_or (set seats place t) n d)
  at_each R self here n d = elim (cases_eq n place) [
    | inl is ↦
        subst (λ k. R (get_or seats k d) (get_or (set seats place t) k d)) (sym is)
        (subst (R (get_or seats place d)) (sym (get_or-set_same seats place t d there))
        (subst (λ u. R u t) (get_or_default seats place e d there) here))
    | inr other ↦ subst (R (get_or seats n d)) (sym (get_or-set_other seats place n t d other))
        (self (get_or seats n d))
  ]

  -- where the seat that changed has the frame that it had, so have all seats
  pub frames_at : frame_of t ≡ frame_of (get_or seats place e) → map frame_of (set seats place t) ≡ map frame_of seats
  frames_at here = frames_same seats (set seats place t) (length-set seats place t)
      (λ n d low. at_each (λ u v. frame_of v ≡ frame_of u) (λ u. refl) here n d)

  -- where that seat made some events, or none and nothing changed, each seat did
  pub steps_at : Steps (get_or seats place e) t → AllStep seats (set seats place t)
  steps_at here n d low = at_each Steps (λ u. steps_none u u refl) here n d

-- where each seat made some events, or none and nothing changed, in two stretches one after the other, it did so in
-- both together
pub all_stepped : (old middle new : List SeatView) → length middle ≡ length old → AllStep old middle
    → AllStep middle new → AllStep old new
all_stepped old middle new long first then n d low =
    steps_joined (get_or old n d) (get_or middle n d) (get_or new n d) (first n d low)
    (then n d (omega (arith, long, low)))

-- where each seat made some events, or none and nothing changed, and then advanced, each has advanced
pub all_advance_after : (old middle new : List SeatView) → length middle ≡ length old → AllStep old middle
    → AllAdvance middle new → AllAdvance old new
all_advance_after old middle new long first then n d low =
    advances_after (get_or old n d) (get_or middle n d) (get_or new n d) (first n d low)
    (then n d (omega (arith, long, low)))

-- the turns of all seats leave their frames as they were
pub frames_worked : (old new : List SeatView) → length new ≡ length old → AllWork old new
    → map frame_of new ≡ map frame_of old
frames_worked old new long works = frames_same old new long (λ n d low. (works n d low).frame)

-- the seats that are not spent are settled still
pub still_settled : (old new : List SeatView) → length new ≡ length old → AllAdvance old new → AreGathered new
    → AreSettled old → AreSettled new
still_settled old new long advance gathered settled = record {
  hear = λ n d low.
      let a = advance n d (omega (arith, long)) in
      ends_hear (get_or old n d) (get_or new n d) a.ends (settled.hear n d (omega (arith, long)));
  own = λ n d low.
      let a = advance n d (omega (arith, long)) in
      let own = settled.own n d (omega (arith, long)) in
      subst (IsMachineOf (get_or new n d).core) (sym (ap (λ (f : Frame). f.actor) a.ends.frame))
      (runs_own a.count (player (get_or old n d)) (player (get_or new n d)) a.runs (get_or old n d).actor own);
  live = λ n d low.
      let a = advance n d (omega (arith, long)) in
      let live = settled.live n d (omega (arith, long)) in
      runs_live a.count (player (get_or old n d)) (player (get_or new n d)) a.runs live;
  gathered = gathered;
}

-- so it is of each actor that takes part, whose seats these were and are
abbrev pub AllRan : Cast → List SeatView → List SeatView → Type 0
AllRan cast old new =
    AllRelate HasRun cast (map (λ (s : SeatView). s.core) old) (map (λ (s : SeatView). s.core) new)
    (lists_among lists_of cast old) (lists_among lists_of cast new)

-- each actor made some events
pub all_ran : (cast : Cast) (old new : List SeatView) → length new ≡ length old
    → length old ≡ count_of cast → AllAdvance old new → AllRan cast old new
all_ran cast old new long all advance =
    all_relate (λ (s : SeatView). s.core) lists_of HasRun cast old new long all
    (λ n d low. let a = advance n d low in record { count = a.count; runs = a.runs })

-- ---- a bout by its answer

-- what a bout answers where it succeeds
abbrev pub answer : Bool → Result Bool AllocError
answer went = Ok went

-- whether a bout's answer says that each seat advanced and the links are gathered, or that nothing changed, seats that
-- were settled are settled still
pub settled_after : (went : Bool) (old new : List SeatView) → length new ≡ length old
    → (answer went ≡ answer true → AllAdvance old new) → (answer went ≡ answer true → AreGathered new)
    → (answer went ≡ answer false → new ≡ old) → AreSettled old → AreSettled new
settled_after true old new long advance gathered same settled =
    still_settled old new long (advance refl) (gathered refl) settled
settled_after false old new long advance gathered same settled = subst AreSettled (sym (same refl)) settled

-- the seats of a run, before a bout and after it
module _ (went : Bool) (cast : Cast) (old new : List SeatView) (long : length new ≡ length old)
    (joined : AreJoined cast (map frame_of old)) (advance : answer went ≡ answer true → AllAdvance old new)
    (same : answer went ≡ answer false → new ≡ old) where
  abbrev cores_of : List SeatView → List Core
  cores_of seats = map (λ (s : SeatView). s.core) seats

  abbrev before : Actor → ActorLists
  before = lists_among lists_of cast old

  abbrev after : Actor → ActorLists
  after = lists_among lists_of cast new

  all : length old ≡ count_of cast
  all = sym (length-map old frame_of) ∙ joined.all

  ran : AllRan cast old new
  ran = go went refl
    where
      go : (b : Bool) → went ≡ b → AllRan cast old new
      go true e = all_ran cast old new long all (advance (ap answer e))
      go false e =
          all_relate (λ (s : SeatView). s.core) lists_of HasRun cast old new long all (λ n d low. record {
            count = 0;
            runs = ap (λ (seats : List SeatView). player (get_or seats n d)) (same (ap answer e));
          })

  -- whether each seat advanced in a bout or nothing changed, as it answers, the lists of each actor before are fronts
  -- of those after
  pub extends_after : Extends before after
  extends_after = extends cast (cores_of old) (cores_of new) before after ran

  -- so is the controller's journal
  pub journal_after : IsPrefix (journal_among cast (cores_of old))
      (journal_among cast (cores_of new))
  journal_after = journal_grows cast (cores_of old) (cores_of new) before after ran

  -- the machines of all actors stand for the later lists, if they stood for the earlier
  pub stands_after : (task : Task) → AllStand task cast (cores_of old) before
      → AllStand task cast (cores_of new) after
  stands_after = stand_after cast (cores_of old) (cores_of new) before after ran

  -- and what was sent goes over links of the run still
  pub linked_after : (task : Task) → AllStand task cast (cores_of old) before
      → AreLinked task.setting before → AreLinked task.setting after
  linked_after task stands =
      still_linked task cast (cores_of old) (cores_of new) before after stands ran

  -- the joiners join by the predicate by which they did
  pub joins_after : (theta : Meaning) → IsAllAt (JoinsBy theta) (cores_of old) → IsAllAt (JoinsBy theta) (cores_of new)
  joins_after theta =
      join_after cast (cores_of old) (cores_of new) before after ran theta
      (length-map old (λ (s : SeatView). s.core) ∙ all)
