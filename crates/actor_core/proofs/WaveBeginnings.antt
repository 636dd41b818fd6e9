-- The machines of a wave at its beginning.
use Rattle.std.proofs.Common.{◌≡◌, ℕ, zero, suc, ◌+◌, ◌<◌, ◌^◌, refl, sym, ap, subst, ◌∙◌, inl, inr, ◌⊎◌, arith}
use Rattle.std.proofs.Common.{Option, Some, None, List, [], ◌∷◌, ◌++◌, length}
use Rattle.std.specs.Prelude.{slice_get}
use Rattle.std.proofs.lemmas.List.{length-append}
use Rattle.epoch_tags.specs.declared.actor.Actor.{Actor}
use Rattle.epoch_tags.specs.declared.actor.Actor.TheVariants.{Controller, Collector}
use Rattle.theta_pred.specs.Formula.{Meaning}
use Rattle.load_controller.specs.declared.line.Cause.{Cause}
use Rattle.load_controller.specs.declared.line.Cause.TheVariants.{Start, Wave, Count, Settle, Drain}
use Rattle.load_controller.specs.Journal.{IsFirst, begun, begun_by}
use Rattle.load_controller.specs.Standing.{ControllerStart}
use Rattle.store_parts.specs.Stored.{Stored}
use Rattle.joiner_core.specs.State.{tuples_of}
use Rattle.trace_law.specs.Family.{rules_of}
use Rattle.actor_core.specs.Lists.{ActorLists, no_lists}
use Rattle.actor_core.specs.Standing.{OfController, OfCollector, Stands, HasGivenNone, IsLive, JoinsBy}
use Rattle.actor_core.specs.Families.{start_for, IsActor, core_in}
use Rattle.actor_core.specs.Numbers.{actor_at, at_number, cast_of, count_of, number}
use Rattle.actor_core.specs.Players.{AllStand}
use Rattle.actor_core.specs.Rests.{IsMade, AreMade, tuples_at}
use Rattle.actor_core.specs.declared.machines.Core.{Core}
use Rattle.actor_core.specs.declared.machines.Core.TheVariants.{Feeder as TheFeeder, Joiner as TheJoiner}
use Rattle.actor_core.specs.declared.machines.Core.TheVariants.{Controller as TheController, Collector as TheCollector}
use Rattle.actor_core.specs.Tasks.{Task}
use Rattle.actor_core.proofs.Beginnings.{has_number, there}
use Rattle.actor_core.proofs.OwnNumbers.{number_actor, some_is}

-- the first line of a wave may be a first line
pub begins_wave : (cause : Cause) → IsFirst (begun_by cause)
begins_wave Start = tt
begins_wave Wave = tt
begins_wave (Count feeder dr ds) = tt
begins_wave (Settle joiner) = tt
begins_wave (Drain feeder) = tt

-- of a list with one element more, one at a place is of the list, or it is that one
pub last_is : {X : Type 0} (xs : List X) (x y : X) (n : ℕ) → slice_get (xs ++ x ∷ []) n ≡ Some y
    → (slice_get xs n ≡ Some y) ⊎ ((n ≡ length xs) × (x ≡ y))
last_is [] x y zero is = inr (refl, some_is x y is)
last_is [] x y (suc n) is = inl is
last_is (z ∷ xs) x y zero is = inl is
last_is (z ∷ xs) x y (suc n) is = elim (last_is xs x y n is) [
  | inl there ↦ inl there
  | inr last ↦ inr (ap suc last.0, last.1)
]

-- a controller's machine joins by no predicate
pub controller_joins : (theta : Meaning) (s : ControllerStart) (ls : ActorLists) (core : Core)
    → Stands (OfController s) ls core → JoinsBy theta core
controller_joins theta s ls (TheFeeder f) st = absurd st
controller_joins theta s ls (TheJoiner j) st = absurd st
controller_joins theta s ls (TheController c) st = tt
controller_joins theta s ls (TheCollector c) st = absurd st

-- nor does a collector's
pub collector_joins : (theta : Meaning) (n : ℕ) (ls : ActorLists) (core : Core) → Stands (OfCollector n) ls core
    → JoinsBy theta core
collector_joins theta n ls (TheFeeder f) st = absurd st
collector_joins theta n ls (TheJoiner j) st = absurd st
collector_joins theta n ls (TheController c) st = absurd st
collector_joins theta n ls (TheCollector c) st = tt

-- ---- the stores, one after another

module _ (stores before left more : List Stored) (store : Stored) (j : ℕ) where
  -- behind those that came before, the next one's tuples are found at its place
  pub at_seam : before ++ left ≡ stores
      → left ≡ store ∷ more → j ≡ length before → tuples_at stores j ≡ tuples_of store
  at_seam joins first at =
      let whole : before ++ store ∷ more ≡ stores = ap (λ l. before ++ l) (sym first) ∙ joins in
      subst (λ n. tuples_at stores n ≡ tuples_of store) (sym at)
      (subst (λ xs. tuples_at xs (length before) ≡ tuples_of store) whole (go before))
    where
      go : (xs : List Stored) → tuples_at (xs ++ store ∷ more) (length xs) ≡ tuples_of store
      go [] = refl
      go (x ∷ xs) = go xs

  -- and its place is below their number
  pub below_all : (n : ℕ) → before ++ left ≡ stores
      → left ≡ store ∷ more → j ≡ length before → length stores ≡ n → j < n
  below_all n joins first at many =
      let whole : before ++ store ∷ more ≡ stores = ap (λ l. before ++ l) (sym first) ∙ joins in
      let long = sym (length-append before (store ∷ more)) ∙ ap length whole in
      omega (arith, long, at, many)

-- ---- the machines, one after another

module _ (task : Task) where
  -- no machine is yet made
  pub none_made : AreMade task 0 []
  none_made = record { all = refl; each = λ n core is. absurd (none n core is) }
    where
      none : (n : ℕ) (core : Core) → slice_get [] n ≡ Some core → ⊥
      none zero core is = cc
      none (suc n) core is = cc

  -- one machine more
  pub one_made : (n : ℕ) (cores : List Core) (core : Core) → AreMade task n cores
      → IsMade task n core → AreMade task (n + 1) (cores ++ core ∷ [])
  one_made n cores core made own = record {
    all = length-append cores (core ∷ []) ∙ ap (λ z. z + 1) made.all;
    each = λ m other is. elim (last_is cores core other m is) [
      | inl there ↦ made.each m other there
      | inr last ↦
          subst (λ z. IsMade task z other) (sym made.all ∙ sym last.0)
          (subst (IsMade task n) last.1 own)
    ];
  }

  -- a machine that begins as the actor with this number does
  pub made_at : (a : Actor) (n : ℕ) (core : Core) → number (cast_of task.setting) a ≡ Some n
      → Stands (start_for task a) no_lists core → IsLive core
      → HasGivenNone (2 ^ task.setting.k) core → JoinsBy task.input.theta core → IsMade task n core
  made_at a n core at stands live given joins = record {
    stands = subst (λ z. Stands (start_for task z) no_lists core)
        (sym (number_actor (cast_of task.setting) a n at)) stands;
    live = live;
    given = given;
    joins = joins;
  }

  -- with a controller's and a collector's machine behind the feeders' and the joiners' all are there
  pub whole_made : (cores : List Core) (controller collector : Core)
      → AreMade task (task.setting.feeders + 2 ^ task.setting.k) cores
      → Stands (start_for task Controller) no_lists controller → IsLive controller
      → HasGivenNone (2 ^ task.setting.k) controller
      → Stands (start_for task Collector) no_lists collector → IsLive collector
      → HasGivenNone (2 ^ task.setting.k) collector
      → AreMade task (count_of (cast_of task.setting))
      ((cores ++ controller ∷ []) ++ collector ∷ [])
  whole_made cores controller collector made st live given st' live' given' =
      let n = task.setting.feeders + 2 ^ task.setting.k in
      let two : n + 1 + 1 ≡ n + 2 = omega arith in
      let start : ControllerStart = record { rules = rules_of task.setting; first = begun task.rest.line } in
      let one = made_at Controller n controller refl st live given
      (controller_joins task.input.theta start no_lists controller st) in
      let other = made_at Collector (n + 1) collector refl st' live' given'
      (collector_joins task.input.theta (2 ^ task.setting.k) no_lists collector st') in
      subst (λ m. AreMade task m ((cores ++ controller ∷ []) ++ collector ∷ [])) two
      (one_made (n + 1) (cores ++ controller ∷ []) collector (one_made n cores controller made one) other)

  -- where the machine under each number stands for empty lists, all of them do
  pub all_stand : (cores : List Core) → length cores ≡ count_of (cast_of task.setting)
      → ((n : ℕ) (core : Core) → slice_get cores n ≡ Some core
      → Stands (start_for task (actor_at (cast_of task.setting) n)) no_lists core)
      → AllStand task (cast_of task.setting) cores (λ actor. no_lists)
  all_stand cores many each = record { cast_is = refl; all = many; stands = stands }
    where
      stands : (a : Actor) → IsActor task.setting a → (core : Core)
          × (core_in (cast_of task.setting) cores a ≡ Some core)
          × Stands (start_for task a) no_lists core
      stands a is =
          let at = has_number task.setting a is in
          let core = there cores at.0 (subst (λ z. at.0 < z) (sym many) at.2) in (
            core.0,
            ap (λ (i : Option ℕ). at_number None i (λ k. slice_get cores k)) at.1 ∙ core.1,
            subst (λ z. Stands (start_for task z) no_lists core.0)
                (number_actor (cast_of task.setting) a at.0 at.1) (each at.0 core.0 core.1),
          )

  -- so do those of a wave before its first event
  pub made_stand : (cores : List Core) → AreMade task (count_of (cast_of task.setting)) cores
      → AllStand task (cast_of task.setting) cores (λ actor. no_lists)
  made_stand cores made = all_stand cores made.all (λ n core is. (made.each n core is).stands)
