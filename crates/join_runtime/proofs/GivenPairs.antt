-- The collector of seats gives what it took, and nothing else changes.
use Rattle.std.proofs.Common.{◌≡◌, ℕ, ◌-◌, ◌^◌, ◌<◌, ◌==◌, inl, inr, refl, sym, ap, subst, ◌∙◌, Result, Ok, Err, None}
use Rattle.std.proofs.Common.{Some, List, get_or, set, length, length-set, map, true, arith}
use Rattle.std.specs.Prelude.{IfOk, OnErr, OnOk, IsPermutation, slice_get, slice_index_or}
use Rattle.std.specs.declared.alloc.AllocError.{AllocError}
use Rattle.std.proofs.lemmas.Bool.{cases_Bool, eqb-true, eq-eqb}
use Rattle.std.proofs.lemmas.Grind.{get_or-set_at}
use Rattle.std.proofs.lemmas.List.{get_or-set_other, get_or-set_same}
use Rattle.std.proofs.lemmas.Option.{get_or_from_slice_get, slice_get-get_or}
use Rattle.epoch_tags.specs.declared.actor.Actor.{Actor}
use Rattle.epoch_tags.specs.declared.actor.Actor.TheVariants.{Collector}
use Rattle.epoch_tags.specs.declared.tuple.Pair.{Pair}
use Rattle.pair_collector.specs.Law.{CollectorLists}
use Rattle.pair_collector.specs.Fresh.{pairs_since}
use Rattle.actor_core.specs.Lists.{ActorLists}
use Rattle.actor_core.specs.Standing.{IsLive, OfCollector, Start, Stands}
use Rattle.actor_core.specs.Families.{core_in}
use Rattle.actor_core.specs.Players.{Player, lists_among}
use Rattle.actor_core.specs.Tasks.{Task}
use Rattle.actor_core.proofs.OwnNumbers.{some_is}
use Rattle.actor_core.proofs.Runs.{runs_given}
use Rattle.actor_core.proofs.Seated.{AllRelate, HasRun, all_relate, core_at, of_lists, related_at, still_stand}
use Rattle.join_runtime.specs.Views.{SeatView, frame_of, lists_of}
use Rattle.join_runtime.specs.Kinds.{IsMachineOf}
use Rattle.join_runtime.specs.Joins.{AreGathered, AreJoined, AreSettled, HearsSenders, IsGathered, slot_of}
use Rattle.join_runtime.specs.Bouts.{AllAdvance, SeatsView, StandsFor, cores_in, lists_in}
use Rattle.join_runtime.specs.Early.{AreGiven, Gives, collected_in, given_at, given_in}
use Rattle.join_runtime.proofs.SeatBouts.{all_ran}
use Rattle.actor_core.proofs.Seats.{last_core}
use Rattle.join_runtime.proofs.Ended.{many_seats}
use Rattle.join_runtime.proofs.FramePlaces.{frames_same}
use Rattle.join_runtime.proofs.UnderWay.{many, same_cast, same_long}

-- ---- a bout gives nothing

-- the collector has given what it had
pub given_kept : (task : Task) (old new : SeatsView) → StandsFor task old → StandsFor task new
    → AllAdvance old.seats new.seats → given_in new ≡ given_in old
given_kept task old new st st' advance =
    let cast = old.cast in
    let cores = cores_in new in
    let long = same_long task old new st st' in
    let ran = all_ran cast old.seats new.seats long (many task old new st st') advance in
    let own = st.stands Collector tt in
    let before = lists_in old in
    let after = lists_among lists_of cast new.seats in
    let now = related_at HasRun cast (cores_in old) cores before after ran Collector own.0 own.1 in
    let numbers : core_in new.cast cores Collector ≡ core_in cast cores Collector =
    ap (λ c. core_in c cores Collector) (same_cast task old new st st') in
    let one : Player = record { core = own.0; lists = before Collector } in
    let other : Player = record { core = now.0; lists = after Collector } in
    let given = runs_given now.2.count one other now.2.runs in
    ap given_at (numbers ∙ now.1) ∙ (given ∙ sym (ap given_at own.1))

-- ---- seats of which one gave

-- the same seat, whose machine stands for what it stood for
pub record IsKin (s t : SeatView) : Type 0 where
  pub rest : t ≡ record s { core = t.core }
  pub stands : (start : Start) (ls : ActorLists) → Stands start ls s.core → Stands start ls t.core
  pub live : IsLive s.core → IsLive t.core
  pub own : (a : Actor) → IsMachineOf s.core a → IsMachineOf t.core a

kin_self : (s : SeatView) → IsKin s s
kin_self s = record {
  rest = refl;
  stands = λ start ls st. st;
  live = λ live. live;
  own = λ a own. own;
}

-- where only the machine changed, by a call that gave pairs if it succeeded and changed nothing if it failed, the seat
-- is the same and its machine stands for what it stood for
pub kin_by : (result : Result (List Pair) AllocError) (s t : SeatView) → t ≡ record s { core = t.core }
    → IfOk result (λ pairs. Gives s.core t.core pairs) → OnErr result (t ≡ s) → IsKin s t
kin_by (Ok pairs) s t rest gives fails = record {
  rest = rest;
  stands = gives.stands;
  live = gives.live;
  own = gives.own;
}
kin_by (Err e) s t rest gives fails = subst (IsKin s) (sym fails) (kin_self s)

-- where a clause holds of a result's value, and something follows from it of each value, that holds where the result is
-- a value
pub on_ok_by : {X E : Type 0} (result : Result X E) (P : X → Type 0) (Q : Type 0) → IfOk result P → ((x : X) → P x → Q)
    → OnOk result Q
on_ok_by (Ok x) P Q is follows = follows x is
on_ok_by (Err e) P Q is follows = tt

-- the same lists, and a machine that stands for what the other stood for
record StandsAs (old new : Player) : Type 0 where
  lists : new.lists ≡ old.lists
  stands : (start : Start) (ls : ActorLists) → Stands start ls old.core → Stands start ls new.core

-- the last seat is `s`, and then `t`
module _ (v : SeatsView) (joined : AreJoined v.cast (map frame_of v.seats)) (place : ℕ)
    (last : place ≡ length v.seats - 1) (low : place < length v.seats) (s t : SeatView)
    (is : s ≡ get_or v.seats place s) (kin : IsKin s t) where
  abbrev changed : List SeatView
  changed = set v.seats place t

  abbrev after : SeatsView
  after = record v { seats = changed }

  long : length changed ≡ length v.seats
  long = length-set v.seats place t

  here : slice_get v.seats place ≡ Some s
  here = slice_get-get_or v.seats place s low ∙ ap Some (sym is)

  all_kin : (n : ℕ) (d : SeatView) → n < length v.seats → IsKin (get_or v.seats n d) (get_or changed n d)
  all_kin n d low' = elim (cases_Bool (n == place)) [
    | inl found ↦
        let same = eqb-true n place found in
        let before : get_or v.seats n d ≡ s = get_or_from_slice_get v.seats n s d
        (ap (slice_get v.seats) same ∙ here) in
        let now : get_or changed n d ≡ t = get_or-set_at v.seats place n t d same low in
        subst (λ x. IsKin x (get_or changed n d)) (sym before) (subst (IsKin s) (sym now) kin)
    | inr differs ↦
        let other : n ≡ place → ⊥ = λ same. let found : (n == place) ≡ true = eq-eqb n place same in cc in
        subst (IsKin (get_or v.seats n d)) (sym (get_or-set_other v.seats place n t d other))
        (kin_self (get_or v.seats n d))
  ]

  -- where of the last seat only the machine changed, and stands for what it stood for, all seats have the frames that
  -- they had
  pub frames_kept : map frame_of changed ≡ map frame_of v.seats
  frames_kept = frames_same v.seats changed long (λ n d low'. ap frame_of (all_kin n d low').rest)

  -- so they are joined still
  pub joined_still : AreJoined v.cast (map frame_of changed)
  joined_still = subst (AreJoined v.cast) (sym frames_kept) joined

  all_as : AllRelate StandsAs v.cast (cores_in v) (cores_in after) (lists_in v) (lists_in after)
  all_as =
      all_relate (λ (x : SeatView). x.core) lists_of StandsAs v.cast v.seats changed long
      (many_seats v joined)
      (λ n d low'. let same = all_kin n d low' in record { lists = ap lists_of same.rest; stands = same.stands })

  -- each actor has received and sent what it had
  pub lists_kept : (a : Actor) → lists_in after a ≡ lists_in v a
  lists_kept =
      of_lists StandsAs v.cast (cores_in v) (cores_in after) (lists_in v) (lists_in after) all_as
      (λ ls ls'. ls' ≡ ls) (λ ls ls' is. is) (λ x y same. same.lists)

  -- seats that stood for a task stand for it still
  pub stands_kept : (task : Task) → StandsFor task v → StandsFor task after
  stands_kept =
      still_stand StandsAs v.cast (cores_in v) (cores_in after) (lists_in v) (lists_in after) all_as
      (λ x y same start st. subst (λ ls. Stands start ls y.core) (sym same.lists) (same.stands start x.lists st))

  gathered_kept : AreGathered v.seats → AreGathered changed
  gathered_kept gathered n r d low' low'' =
      let first = all_kin n d (omega (arith, low', long)) in
      let second = all_kin r d (omega (arith, low'', long)) in
      let mouth : slot_of changed d n r ≡ slot_of v.seats d n r =
      ap (λ (z : SeatView). slice_index_or z.mouths r None) first.rest in
      let inbox = ap (λ (z : SeatView). z.inbox) second.rest in
      subst (λ o. IsGathered o (get_or changed r d).inbox) (sym mouth)
      (subst (IsGathered (slot_of v.seats d n r)) (sym inbox)
      (gathered n r d (omega (arith, low', long)) (omega (arith, low'', long))))

  -- seats that were settled are settled still
  pub settled_kept : AreSettled v.seats → AreSettled changed
  settled_kept settled = record {
    hear = λ n d low'. let same = all_kin n d (omega (arith, low', long)) in
        subst HearsSenders (sym same.rest) (settled.hear n d (omega (arith, low', long)));
    own = λ n d low'. let same = all_kin n d (omega (arith, low', long)) in
        subst (IsMachineOf (get_or changed n d).core) (sym (ap (λ (z : SeatView). z.actor) same.rest))
        (same.own (get_or v.seats n d).actor (settled.own n d (omega (arith, low', long))));
    live = λ n d low'. let same = all_kin n d (omega (arith, low', long)) in
        same.live (settled.live n d (omega (arith, low', long)));
    gathered = gathered_kept settled.gathered;
  }

  module _ (task : Task) (st : StandsFor task v) (pairs : List Pair)
      (gives : Gives s.core t.core pairs) where
    -- the collector's machine is that of the last seat
    own : core_in v.cast (cores_in v) Collector ≡ Some s.core
    own =
        sym (last_core (λ (s : SeatView). s.core) v.cast v.seats (many_seats v joined))
        ∙ (ap (slice_get (cores_in v)) (sym last) ∙ (core_at (λ (x : SeatView). x.core) v.seats place s low
        ∙ ap (λ (x : SeatView). Some x.core) (sym is)))

    stood : Stands (OfCollector (2 ^ task.setting.k)) (lists_in v Collector) s.core
    stood =
        let one = st.stands Collector tt in
        subst (Stands (OfCollector (2 ^ task.setting.k)) (lists_in v Collector))
        (some_is one.0 s.core (sym one.1 ∙ own))
        one.2

    -- where the pairs of earlier lists were given and no others, the collector gives those since, in some order
    pub gives_since : (earlier : CollectorLists) → AreGiven (2 ^ task.setting.k) earlier (given_in v)
        → IsPermutation (pairs_since (2 ^ task.setting.k) earlier (collected_in v)) pairs
    gives_since earlier gave = gives.gives (2 ^ task.setting.k) earlier (lists_in v Collector) stood
        (subst (AreGiven (2 ^ task.setting.k) earlier) (ap given_at own) gave)

    own_after : core_in v.cast (cores_in after) Collector ≡ Some t.core
    own_after =
        sym (last_core (λ (s : SeatView). s.core) after.cast after.seats (many_seats after joined_still))
        ∙ (ap (λ n. slice_get (cores_in after) (n - 1)) long ∙ (ap (slice_get (cores_in after)) (sym last)
        ∙ (core_at (λ (x : SeatView). x.core) changed place t (omega (arith, low, long))
        ∙ ap (λ (x : SeatView). Some x.core) (get_or-set_same v.seats place t t low))))

    -- and then all pairs that it took are given
    pub all_given : AreGiven (2 ^ task.setting.k) (collected_in v) (given_in after)
    all_given = subst (AreGiven (2 ^ task.setting.k) (collected_in v)) (sym (ap given_at own_after))
        (gives.given (2 ^ task.setting.k) (lists_in v Collector) stood)
