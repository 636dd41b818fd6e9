-- What a bout does to the seats of a run.
use Rattle.std.proofs.Common.{◌≡◌, ℕ, zero, suc, ◌+◌, ◌<◌, ◌≤◌, ◌⊎◌, inl, inr, refl, sym, ap, subst, ◌∙◌, Bool, true}
use Rattle.std.proofs.Common.{false, true≢false, Option, Some, None, List, [], ◌∷◌, get_or, map, length, sum_by}
use Rattle.std.proofs.Common.{arith}
use Rattle.std.proofs.lemmas.Bool.{cases_lt}
use Rattle.std.proofs.lemmas.List.{get_or_default}
use Rattle.std.proofs.lemmas.List.Sums.{sum_by-cons}
use mathlib.Core.Path.{fun_ext}
use Rattle.row_cells.specs.Lists.{IsPrefix}
use Rattle.ring_links.specs.Rings.{Receiving}
use Rattle.ring_links.specs.Outlets.{OutletView}
use Rattle.actor_core.specs.declared.cast.Cast.{Cast}
use Rattle.actor_core.specs.Numbers.{actor_at, count_of}
use Rattle.actor_core.specs.Players.{AllStand, AreLinked, Extends, Player, Runs, journal_among, lists_among}
use Rattle.actor_core.specs.declared.machines.Core.{Core}
use Rattle.actor_core.specs.Tasks.{Task}
use Rattle.actor_core.proofs.Beginnings.{there}
use Rattle.actor_core.proofs.EventsCounted.{still_linked}
use Rattle.actor_core.proofs.OwnNumbers.{number_there}
use Rattle.actor_core.proofs.Runs.{runs_live}
use Rattle.actor_core.proofs.Seated.{AllRelate, HasRun, all_relate, extends, journal_grows, of_lists, stand_after}
use Rattle.ring_runtime.specs.Seats.{RingSeatView, AllStuck, IsStuckAt, frame_of, known_at, lists_of, player_of}
use Rattle.ring_runtime.specs.Seats.{received_at, sent_at, waiting_at, waiting_in}
use Rattle.ring_runtime.specs.Turns.{Advances, Rests, Works}
use Rattle.ring_runtime.specs.Wiring.{in_of, out_of}
use Rattle.ring_runtime.specs.Joins.{AreHeld, AreSettled, AreWired, IsAlike, IsHeldAt}
use Rattle.ring_runtime.specs.Bouts.{AllAdvance, AllWork, IsBusy, IsReady, NoneSpent, SomeEvent, SomeSeat}
use Rattle.ring_runtime.proofs.AlikeSeats.{frames_same}
use Rattle.ring_runtime.proofs.RingLists.{lengths, many, outs_many, received_there, sent_there, waits_within}

-- ---- one seat

advanced : (s t : RingSeatView) → Works s t → t.spent ≡ false → Advances s t
advanced s t works none = elim works.advances [
  | inl spent ↦ absurd (true≢false (sym spent ∙ none))
  | inr advances ↦ advances
]

advances_alike : (s t u : RingSeatView) → Advances s t → IsAlike t u → Advances s u
advances_alike s t u advances alike = record {
  count = advances.count;
  runs = subst (Runs advances.count (player_of s)) (sym alike.player) advances.runs;
  none = advances.none;
  moves = λ none. subst (λ n. (n < waiting_in s.outs) ⊎ AllStuck s.outs) (sym alike.waiting) (advances.moves none);
}

-- ---- all seats

-- so has each, where none is spent and the rings were held together then
pub all_advance : (old middle new : List RingSeatView) → length middle ≡ length old → AllWork old middle
    → NoneSpent middle
    → ((n : ℕ) (d : RingSeatView) → n < length middle → IsAlike (get_or middle n d) (get_or new n d))
    → AllAdvance old new
all_advance old middle new long works none alike n d low =
    let low' : n < length middle = omega (arith, long, low) in
    advances_alike (get_or old n d) (get_or middle n d) (get_or new n d)
    (advanced (get_or old n d) (get_or middle n d) (works n d low) (none n d low')) (alike n d low')

-- no turn changes whose seats they are and how they are joined
pub frames_worked : (old new : List RingSeatView) → length new ≡ length old → AllWork old new
    → map frame_of new ≡ map frame_of old
frames_worked old new long works = frames_same old new long (λ n d low. (works n d low).frame)

-- the seats that are not spent are settled still
pub settled_after : (went : Bool) (old new : List RingSeatView) → length new ≡ length old
    → (went ≡ true → AllAdvance old new)
    → (went ≡ true → AreHeld new) → (went ≡ false → new ≡ old) → AreSettled old → AreSettled new
settled_after true old new long advance held same settled = record {
  live = λ n d low.
      let low' : n < length old = subst (λ z. n < z) long low in
      let a = advance refl n d low' in
      runs_live a.count (player_of (get_or old n d)) (player_of (get_or new n d)) a.runs (settled.live n d low');
  held = held refl;
}
settled_after false old new long advance held same settled = subst AreSettled (sym (same refl)) settled

abbrev cores_of : List RingSeatView → List Core
cores_of seats = map (λ s. s.core) seats

-- the seats of a run, before a bout and after it
module _ (went : Bool) (cast : Cast) (old new : List RingSeatView) (long : length new ≡ length old)
    (all : length old ≡ count_of cast) (advance : went ≡ true → AllAdvance old new)
    (same : went ≡ false → new ≡ old) where
  -- each actor has made some events or none
  pub ran : AllRelate HasRun cast (cores_of old) (cores_of new)
      (lists_among lists_of cast old) (lists_among lists_of cast new)
  ran = go went refl
    where
      go : (b : Bool) → went ≡ b
          → AllRelate HasRun cast (cores_of old) (cores_of new)
          (lists_among lists_of cast old) (lists_among lists_of cast new)
      go true e =
          all_relate (λ (s : RingSeatView). s.core) lists_of HasRun cast old new long all
          (λ n d low. let a = advance e n d low in record { count = a.count; runs = a.runs })
      go false e =
          all_relate (λ (s : RingSeatView). s.core) lists_of HasRun cast old new long all
          (λ n d low. record {
            count = 0;
            runs = ap (λ (seats : List RingSeatView). player_of (get_or seats n d))
                (same e);
          })

  -- the lists extend those of before
  pub extends_after : Extends (lists_among lists_of cast old) (lists_among lists_of cast new)
  extends_after = extends cast _ _ _ _ ran

  -- the controller's journal grows
  pub journal_after : IsPrefix (journal_among cast (cores_of old))
      (journal_among cast (cores_of new))
  journal_after = journal_grows cast _ _ _ _ ran

  -- what was sent goes over links still
  pub linked_after : (task : Task)
      → AllStand task cast (cores_of old) (lists_among lists_of cast old)
      → AreLinked task.setting (lists_among lists_of cast old)
      → AreLinked task.setting (lists_among lists_of cast new)
  linked_after task stands = still_linked task cast _ _ _ _ stands ran

  -- the machines stand for the lists still
  pub stands_after : (task : Task)
      → AllStand task cast (cores_of old) (lists_among lists_of cast old)
      → AllStand task cast (cores_of new) (lists_among lists_of cast new)
  stands_after = stand_after cast _ _ _ _ ran

-- ---- an event is made, or a message moves

rested : (s : RingSeatView) → Rests s.core s.ins → IsReady s → ⊥
rested s rests (inl known) = let none = rests.none_known known.place in let some = known.some in omega
    (arith, some, none)
rested s rests (inr free) = free rests.waits

-- where one sum is less than the other, so is some part
some_less : {X : Type 0} (f : X → ℕ) (xs ys : List X) (d : X) → length ys ≡ length xs → sum_by f ys < sum_by f xs
    → (p : ℕ) × (p < length xs) × (f (get_or ys p d) < f (get_or xs p d))
some_less f [] [] d long less = absurd (omega (arith, less))
some_less f [] (y ∷ ys) d long less = absurd (omega arith)
some_less f (x ∷ xs) [] d long less = absurd (omega arith)
some_less f (x ∷ xs) (y ∷ ys) d long less =
    let less' : f y + sum_by f ys < f x + sum_by f xs =
    subst (λ n. f y + sum_by f ys < n) (sum_by-cons f x xs)
    (subst (λ n. n < sum_by f (x ∷ xs)) (sum_by-cons f y ys) less) in
    elim (cases_lt (f y) (f x)) [
      | inl low ↦ (0, omega arith, low)
      | inr high ↦
          let rest = some_less f xs ys d (omega arith) (omega (arith, less', high)) in
          (suc rest.0, omega (arith, rest.1), rest.2)
    ]

-- fewer messages wait, or none could leave its outlet
abbrev MovesOn : RingSeatView → RingSeatView → Type 0
MovesOn s t = (waiting_in t.outs < waiting_in s.outs) ⊎ AllStuck s.outs

-- a seat made no event: it rested, and messages moved if any could
record MadeNone (s t : RingSeatView) : Type 0 where
  same : player_of t ≡ player_of s
  rests : Rests s.core s.ins
  moves : MovesOn s t

-- so many seats have the players that they had
abbrev pub StaySame : List RingSeatView → List RingSeatView → ℕ → Type 0
StaySame old new k = (n : ℕ) (d : RingSeatView) → n < k → player_of (get_or new n d) ≡ player_of (get_or old n d)

abbrev IsSame : Player → Player → Type 0
IsSame one other = other ≡ one

-- a message that waits in a held ring whose end is stuck has others before it
stuck_known : (out : Option OutletView) (inn : Option Receiving) → IsHeldAt out inn → IsStuckAt out
    → 0 < waiting_at out → 0 < known_at inn
stuck_known None inn held stuck some = absurd (omega (arith, some))
stuck_known (Some out) None held stuck some = absurd held
stuck_known (Some out) (Some inn) held (inl empty) some = let none = ap length empty in absurd
    (omega (arith, none, some))
stuck_known (Some out) (Some inn) held (inr full) some =
    let room = held.room in
    let places = held.some in
    omega (arith, room, places, full)

module _ (cast : Cast) (old new : List RingSeatView) (long : length new ≡ length old)
    (advance : AllAdvance old new) where
  -- seat m made an event, or made none
  made : (m : ℕ) (d : RingSeatView) → m < length old
      → SomeEvent old new ⊎ MadeNone (get_or old m d) (get_or new m d)
  made m d low = let a = advance m d low in go a.count a.runs a.none a.moves
    where
      go : (n : ℕ) → Runs n (player_of (get_or old m d)) (player_of (get_or new m d))
          → (n ≡ 0 → Rests (get_or old m d).core (get_or old m d).ins)
          → (n ≡ 0 → MovesOn (get_or old m d) (get_or new m d))
          → SomeEvent old new ⊎ MadeNone (get_or old m d) (get_or new m d)
      go zero runs none moves = inr (record { same = runs; rests = none refl; moves = moves refl })
      go (suc n) runs none moves = inl (record {
        place = m;
        there = low;
        before = n;
        runs = λ d'.
            subst (λ s. Runs (suc n) (player_of s) (player_of (get_or new m d'))) (get_or_default old m d d' low)
            (subst (λ s. Runs (suc n) (player_of (get_or old m d)) (player_of s))
            (get_or_default new m d d' (subst (λ z. m < z) (sym long) low)) runs);
      })

  same_at : (m : ℕ) (d d' : RingSeatView) → m < length old
      → player_of (get_or new m d) ≡ player_of (get_or old m d)
      → player_of (get_or new m d') ≡ player_of (get_or old m d')
  same_at m d d' low same =
      sym (ap player_of (get_or_default new m d d' (subst (λ z. m < z) (sym long) low)))
      ∙ (same ∙ ap player_of (get_or_default old m d d' low))

  -- some seat made an event, or the players of so many seats are as they were
  pub some_or_same : (k : ℕ) → k ≤ length old → SomeEvent old new ⊎ StaySame old new k
  some_or_same zero low = inr (λ n d none. absurd (omega (arith, none)))
  some_or_same (suc k) low =
      let low' : k < length old = omega (arith, low) in
      let d = (there old k low').0 in
      elim (some_or_same k (omega (arith, low))) [
        | inl event ↦ inl event
        | inr same ↦ elim (made k d low') [
          | inl event ↦ inl event
          | inr none ↦ inr (λ n d' below. elim (cases_lt n k) [
            | inl under ↦ same n d' under
            | inr over ↦
                let last : n ≡ k = omega (arith, over, below) in
                subst (λ z. player_of (get_or new z d') ≡ player_of (get_or old z d')) (sym last)
                (same_at k d d' low' none.same)
          ])
        ]
      ]

  -- and where no player changed, no list did
  pub lists_same : length old ≡ count_of cast → StaySame old new (length old)
      → lists_among lists_of cast new ≡ lists_among lists_of cast old
  lists_same all same =
      fun_ext
      (of_lists IsSame cast (cores_of old) (cores_of new) (lists_among lists_of cast old)
      (lists_among lists_of cast new)
      (all_relate (λ (s : RingSeatView). s.core) lists_of IsSame cast old new long all same)
      (λ ls ls'. ls' ≡ ls) (λ ls ls' e. e) (λ s t e. ap (λ (p : Player). p.lists) e))

  -- where a seat was ready, an event was made
  pub event_made : SomeSeat IsReady old → SomeEvent old new
  event_made some =
      let d = (there old some.place some.there).0 in
      elim (made some.place d some.there) [
        | inl event ↦ event
        | inr none ↦ absurd (rested (get_or old some.place d) none.rests (some.holds d))
      ]

  module _ (wired : AreWired cast (map frame_of old)) (wired' : AreWired cast (map frame_of new))
      (held : AreHeld old) (held' : AreHeld new) where
    ready : (seats : List RingSeatView) (r n : ℕ) (d : RingSeatView) → r < length seats
        → 0 < known_at (in_of seats d r n) → SomeSeat IsReady seats
    ready seats r n d low some = record {
      place = r;
      there = low;
      holds = λ d'. subst IsReady (get_or_default seats r d d' low) (inl (record { place = n; some = some }));
    }

    -- a message that left the outlet of seat m for seat p was taken, or is left
    left_outlet : (m p : ℕ) (d : RingSeatView) → m < length old → p < length old
        → player_of (get_or new m d) ≡ player_of (get_or old m d)
        → waiting_at (out_of new d m p) < waiting_at (out_of old d m p) → SomeEvent old new ⊎ SomeSeat IsReady new
    left_outlet m p d low low' same less = elim (made p d low') [
      | inl event ↦ inl event
      | inr none ↦
          let to = actor_at cast p in
          let from = actor_at cast m in
          let to_is = number_there cast p (subst (λ z. p < z) (many cast old wired) low') in
          let from_is = number_there cast m (subst (λ z. m < z) (many cast old wired) low) in
          let up = subst (λ z. m < z) (sym long) low in
          let up' = subst (λ z. p < z) (sym long) low' in
          let sent : sent_at (out_of new d m p) ≡ sent_at (out_of old d m p) =
          sym (sent_there cast new wired' m to (Some p) d up to_is)
          ∙ (ap (λ (s : Player). s.lists.sent to) same
          ∙ sent_there cast old wired m to (Some p) d low to_is) in
          let received : received_at (in_of new d p m) ≡ received_at (in_of old d p m) =
          sym (received_there cast new wired' p from (Some m) d up' from_is)
          ∙ (ap (λ (s : Player). s.lists.received from) none.same
          ∙ received_there cast old wired p from (Some m) d low' from_is) in
          let one = lengths (out_of old d m p) (in_of old d p m) (held m p d low low') in
          let other = lengths (out_of new d m p) (in_of new d p m) (held' m p d up up') in
          let as_many = ap length sent in
          let as_many' = ap length received in
          inr (ready new p m d up' (omega (arith, less, one, other, as_many, as_many')))
    ]

    -- where a message waited, an event was made or a message is left now
    waited : (m q : ℕ) (d : RingSeatView) → m < length old → 0 < waiting_at (out_of old d m q)
        → SomeEvent old new ⊎ SomeSeat IsReady new
    waited m q d low some = elim (made m d low) [
      | inl event ↦ inl event
      | inr none ↦ elim none.moves [
        | inl fewer ↦
            let long' = outs_many cast new wired' m d (subst (λ z. m < z) (sym long) low)
            ∙ (long ∙ sym (outs_many cast old wired m d low)) in
            let at = some_less waiting_at (get_or old m d).outs (get_or new m d).outs None long' fewer in
            left_outlet m at.0 d low (subst (λ z. at.0 < z) (outs_many cast old wired m d low) at.1)
            none.same at.2
        | inr stuck ↦
            let within = waits_within cast old wired held m q d low some in
            inl (event_made (ready old q m d
            within (stuck_known (out_of old d m q) (in_of old d q m) (held m q d low within) (stuck q) some)))
      ]
    ]

    -- where a seat was busy, an event was made or a message is left in some ring now
    pub moves_on : SomeSeat IsBusy old → SomeEvent old new ⊎ SomeSeat IsReady new
    moves_on some =
        let d = (there old some.place some.there).0 in
        go d (some.holds d)
      where
        go : (d : RingSeatView) → IsBusy (get_or old some.place d) → SomeEvent old new ⊎ SomeSeat IsReady new
        go d (inl now) = inl (event_made (record {
          place = some.place;
          there = some.there;
          holds = λ d'. subst IsReady (get_or_default old some.place d d' some.there) now;
        }))
        go d (inr waits) = waited some.place waits.place d some.there waits.some
