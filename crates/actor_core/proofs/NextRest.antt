-- What a wave leaves is a rest that stands for its input.
use Rattle.std.proofs.Common.{true, ◌≡◌, ℕ, ◌+◌, ◌<◌, ◌^◌, lt-ltb, sym, ap, subst, ◌∙◌, arith, cond, Option, Some}
use Rattle.std.proofs.Common.{None}
use Rattle.std.proofs.Common.{List, [], ◌∷◌, ◌++◌, length, get_or}
use Rattle.std.specs.Prelude.{slice_get, reverse, All}
use Rattle.std.proofs.lemmas.List.{length-append, get_or-map}
use Rattle.std.proofs.lemmas.Option.{get_or_from_slice_get, slice_get-get_or}
use Rattle.row_cells.specs.Lists.{SameBag}
use Rattle.row_cells.proofs.Bags.{SameBag-map, SameBag-trans}
use Rattle.epoch_tags.specs.declared.actor.Actor.{Actor}
use Rattle.epoch_tags.specs.declared.actor.Actor.TheVariants.{Joiner}
use Rattle.theta_pred.specs.Formula.{Meaning}
use Rattle.store_parts.specs.Stored.{Stored}
use Rattle.joiner_core.specs.State.{tuples_of, IsKeyOf}
use Rattle.load_controller.specs.Standing.{ControllerState}
use Rattle.load_controller.specs.declared.line.TurnLine.{TurnLine}
use Rattle.pair_collector.specs.Standing.{CollectorState}
use Rattle.trace_law.specs.Laws.{AnswersInTheEnd, CompleteIsFinished}
use Rattle.trace_law.specs.Family.{Rest, AnswersTheJoin, aged, rest_after}
use Rattle.actor_core.specs.declared.cast.Cast.{Cast}
use Rattle.actor_core.specs.declared.machines.Core.{Core}
use Rattle.actor_core.specs.declared.machines.Core.TheVariants.{Feeder as TheFeeder, Joiner as TheJoiner}
use Rattle.actor_core.specs.declared.machines.Core.TheVariants.{Controller as TheController, Collector as TheCollector}
use Rattle.actor_core.specs.Elements.{IsAllAt}
use Rattle.actor_core.specs.Families.{AreFronts, core_in, family_of}
use Rattle.actor_core.specs.Leavings.{AreLeft, Gives}
use Rattle.actor_core.specs.Lists.{ActorLists}
use Rattle.actor_core.specs.Numbers.{at_number}
use Rattle.actor_core.specs.Players.{AllStand, is_complete_among, journal_among}
use Rattle.actor_core.specs.Rests.{IsRestOf, tuples_at}
use Rattle.actor_core.specs.Standing.{IsOver, JoinsBy}
use Rattle.actor_core.specs.Tasks.{Task, IsTask}
use Rattle.actor_core.proofs.Beginnings.{there}
use Rattle.actor_core.proofs.CompleteAnswer.{LeavesItsStores, complete_leaves, over_leaves}
use Rattle.actor_core.proofs.LeftStores.{in_front}

-- the store of a machine that joins by a predicate has its key
key_given : (theta : Meaning) (core : Core) (given : Stored) → JoinsBy theta core → Gives core given
    → IsKeyOf theta given.key
key_given theta (TheFeeder f) given joins gives = absurd gives
key_given theta (TheJoiner j) given joins gives = subst (λ (m : Meaning). IsKeyOf m given.key) joins gives.key
key_given theta (TheController c) given joins gives = absurd gives
key_given theta (TheCollector c) given joins gives = absurd gives

-- the first elements of equal lists are equal
heads : {X : Type 0} (x y : X) (xs ys : List X) → x ∷ xs ≡ y ∷ ys → x ≡ y
heads x y xs ys same = cc

module _ (law : AnswersInTheEnd) (task : Task) (cast : Cast)
    (cores : List Core) (f : Actor → ActorLists) (is_task : IsTask task) (all : AllStand task cast cores f)
    (leaves : LeavesItsStores task cast cores f (journal_among cast cores))
    (joins : IsAllAt (JoinsBy task.input.theta) cores)
    (stores : List Stored) (controller : ControllerState) (collector : CollectorState)
    (left : AreLeft cast.feeders cores stores controller collector) where
  abbrev journal : List TurnLine
  journal = journal_among cast cores

  answers : AnswersTheJoin task.input task.setting task.rest (family_of journal f) leaves.family.agrees
  answers =
      law task.input task.setting task.rest (family_of journal f) is_task.valid is_task.begins leaves.family.agrees
      leaves.family.finished

  -- the rest that the family leaves
  abbrev again : Rest
  again = rest_after task.input task.setting task.rest (family_of journal f) leaves.family.agrees

  many : length stores ≡ 2 ^ task.setting.k
  many =
      let long = left.stores_are.long in
      let whole = ap length left.all
      ∙ (length-append (left.front ++ TheController controller ∷ []) (TheCollector collector ∷ [])
      ∙ ap (λ n. n + 1) (length-append left.front (TheController controller ∷ []))) in
      let each = all.all in
      let grid = ap (λ c. c.joiners) all.cast_is in
      omega (arith, long, whole, each, grid)

  -- the machine that gives the store at a place
  giver : (k : ℕ) (given : Stored) → slice_get stores k ≡ Some given
      → (core : Core) × (slice_get cores (cast.feeders + k) ≡ Some core) × Gives core given
  giver k given is =
      let own = left.stores_are.each k given is in (
        own.0,
        subst (λ cs. slice_get cs (cast.feeders + k) ≡ Some own.0) (sym left.all)
            (in_front (left.front ++ TheController controller ∷ []) (TheCollector collector ∷ []) (cast.feeders + k)
            own.0
            (in_front left.front (TheController controller ∷ []) (cast.feeders + k) own.0 own.1)),
        own.2,
      )

  keys : All (λ store. IsKeyOf task.input.theta store.key) stores
  keys = λ i d low.
      let own = giver i (get_or stores i d) (slice_get-get_or stores i d low) in
      key_given task.input.theta own.0 (get_or stores i d) (joins (cast.feeders + i) own.0 own.1) own.2

  stored : (j : ℕ) → j < 2 ^ task.setting.k
      → SameBag (tuples_at stores j)
      (again.stores j)
  stored j low =
      let low' : j < length stores = subst (λ n. j < n) (sym many) low in
      let given = there stores j low' in
      let own = giver j given.0 given.1 in
      let named : core_in cast cores (Joiner j) ≡ Some own.0 =
      ap (λ (o : Option ℕ). at_number None o (λ n. slice_get cores n))
      (ap (λ b. cond b (Some (cast.feeders + j)) None)
      (lt-ltb j cast.joiners (subst (λ c. j < c.joiners) (sym all.cast_is) low)))
      ∙ own.1 in
      let tuples : tuples_at stores j ≡ tuples_of given.0 =
      get_or-map tuples_of stores j given.0 [] low'
      ∙ ap tuples_of (get_or_from_slice_get stores j given.0 given.0 given.1) in
      subst (λ ts. SameBag ts (again.stores j))
      (sym tuples) (leaves.stored j low own.0 given.0 named own.2)

  -- the stores that the machines of a finished wave give back, with the last line of the journal, stand for the input
  pub rest_left : (k : ℕ) (line : TurnLine) (past : List TurnLine) → k ≡ task.setting.k → reverse journal ≡ line ∷ past
      → IsRestOf task.input task.setting (record { k = k; line = line; stores = stores })
  rest_left k line past grid last =
      let own = leaves.family.agrees.controller in
      let same : own.line ≡ line = heads own.line line own.past past (sym own.journal ∙ last) in
      subst (λ l. IsRestOf task.input task.setting (record { k = k; line = l; stores = stores })) same
      (record {
        grid = grid;
        many = many;
        keys = keys;
        stands = record {
          line = answers.again.line;
          stored = λ j low. SameBag-trans (SameBag-map (aged own.line) (stored j low)) (answers.again.stored j low);
        };
      })

module _ (law : AnswersInTheEnd) (task : Task) (cast : Cast) (cores : List Core) (f : Actor → ActorLists)
    (is_task : IsTask task) (all : AllStand task cast cores f) (fronts : AreFronts f) where
  -- so it is of a wave in which the work of all is over
  pub next_rest : IsAllAt IsOver cores → IsAllAt (JoinsBy task.input.theta) cores
      → (stores : List Stored) (controller : ControllerState) (collector : CollectorState)
      → AreLeft cast.feeders cores stores controller collector
      → (k : ℕ) (line : TurnLine) (past : List TurnLine) → k ≡ task.setting.k
      → reverse (journal_among cast cores) ≡ line ∷ past
      → IsRestOf task.input task.setting (record { k = k; line = line; stores = stores })
  next_rest over joins =
      rest_left law task cast cores f is_task all
      (over_leaves task cast cores f all fronts over is_task.valid.some) joins

  -- and of one whose collector is complete
  pub complete_rest : CompleteIsFinished → is_complete_among cast cores ≡ true
      → IsAllAt (JoinsBy task.input.theta) cores
      → (stores : List Stored) (controller : ControllerState) (collector : CollectorState)
      → AreLeft cast.feeders cores stores controller collector
      → (k : ℕ) (line : TurnLine) (past : List TurnLine) → k ≡ task.setting.k
      → reverse (journal_among cast cores) ≡ line ∷ past
      → IsRestOf task.input task.setting (record { k = k; line = line; stores = stores })
  complete_rest done collected joins =
      rest_left law task cast cores f is_task all
      (complete_leaves task cast cores f all fronts done is_task collected) joins
