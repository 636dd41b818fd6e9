-- The last two of a list of machines.
use Rattle.std.proofs.Common.{◌≡◌, ℕ, suc, ◌+◌, refl, sym, ap, subst, ◌∙◌, Some, List, [], ◌∷◌, ◌++◌, length, arith}
use Rattle.std.specs.Prelude.{slice_get}
use Rattle.std.proofs.lemmas.List.{length-append}
use Rattle.epoch_tags.specs.declared.actor.Actor.{Actor}
use Rattle.epoch_tags.specs.declared.actor.Actor.TheVariants.{Controller, Collector}
use Rattle.load_controller.specs.Standing.{ControllerStart, ControllerState}
use Rattle.pair_collector.specs.Standing.{CollectorState}
use Rattle.actor_core.specs.declared.cast.Cast.{Cast}
use Rattle.actor_core.specs.Endings.{AreLast, HaveLast}
use Rattle.actor_core.specs.Lists.{ActorLists}
use Rattle.actor_core.specs.Players.{AllStand}
use Rattle.actor_core.specs.Standing.{OfCollector, OfController, Stands}
use Rattle.actor_core.specs.declared.machines.Core.{Core}
use Rattle.actor_core.specs.declared.machines.Core.TheVariants.{Feeder as TheFeeder, Joiner as TheJoiner}
use Rattle.actor_core.specs.declared.machines.Core.TheVariants.{Controller as TheController, Collector as TheCollector}
use Rattle.actor_core.specs.Tasks.{Task}
use Rattle.actor_core.proofs.OwnNumbers.{some_is}

-- ---- the last two of a list

-- the last element stands behind the one before it
pub last_of : {X : Type 0} (xs : List X) (x y : X) → slice_get ((xs ++ x ∷ []) ++ y ∷ []) (length xs + 1) ≡ Some y
last_of [] x y = refl
last_of (z ∷ xs) x y =
    let next : suc (length xs + 1) ≡ suc (length xs) + 1 = omega arith in
    subst (λ n. slice_get (((z ∷ xs) ++ x ∷ []) ++ y ∷ []) n ≡ Some y) next (last_of xs x y)

-- the element before the last stands at the length of what is before both
pub before_last : {X : Type 0} (xs : List X) (x y : X) → slice_get ((xs ++ x ∷ []) ++ y ∷ []) (length xs) ≡ Some x
before_last [] x y = refl
before_last (z ∷ xs) x y = before_last xs x y

plus_two : (n : ℕ) → n + 1 + 1 ≡ n + 2
plus_two n = omega arith

-- ---- the two machines are the last

module _ (cores rest : List Core) (told : ControllerState) (kept : CollectorState)
    (is : cores ≡ (rest ++ TheController told ∷ []) ++ TheCollector kept ∷ []) where
  many_are : length cores ≡ length rest + 2
  many_are =
      ap length is
      ∙ (length-append (rest ++ TheController told ∷ []) (TheCollector kept ∷ [])
      ∙ (ap (λ m. m + 1) (length-append rest (TheController told ∷ [])) ∙ plus_two (length rest)))

  -- so the two machines are the last of all
  pub last_two : AreLast cores told kept
  last_two = record {
    before = length rest;
    many = many_are;
    controller_is = ap (λ cs. slice_get cs (length rest)) is
        ∙ before_last rest (TheController told) (TheCollector kept);
    collector_is = ap (λ cs. slice_get cs (length rest + 1)) is ∙ last_of rest (TheController told) (TheCollector kept);
  }

-- where the last two are a controller's and a collector's, what stands before the last is the one
module _ (cores rest : List Core) (x y : Core) (is : cores ≡ (rest ++ x ∷ []) ++ y ∷ []) (have : HaveLast cores) where
  long : length cores ≡ length rest + 1 + 1
  long =
      ap length is ∙ (length-append (rest ++ x ∷ []) (y ∷ []) ∙ ap (λ n. n + 1) (length-append rest (x ∷ [])))

  same_place : have.are.before ≡ length rest
  same_place = let many = have.are.many in let whole = long in omega arith

  pub controller_before : x ≡ TheController have.controller
  controller_before = some_is x (TheController have.controller)
      (sym (before_last rest x y) ∙ (ap (λ cs. slice_get cs (length rest)) (sym is)
      ∙ (ap (slice_get cores) (sym same_place) ∙ have.are.controller_is)))

  -- and the last is the other
  pub collector_last : y ≡ TheCollector have.collector
  collector_last = some_is y (TheCollector have.collector)
      (sym (last_of rest x y) ∙ (ap (λ cs. slice_get cs (length rest + 1)) (sym is)
      ∙ (ap (λ n. slice_get cores (n + 1)) (sym same_place) ∙ have.are.collector_is)))

-- ---- the machines of a wave end with them

told : (s : ControllerStart) (ls : ActorLists) (core : Core) → Stands (OfController s) ls core
    → (c : ControllerState) × (core ≡ TheController c)
told s ls (TheFeeder f) stands = absurd stands
told s ls (TheJoiner j) stands = absurd stands
told s ls (TheController c) stands = (c, refl)
told s ls (TheCollector c) stands = absurd stands

kept : (joiners : ℕ) (ls : ActorLists) (core : Core) → Stands (OfCollector joiners) ls core
    → (c : CollectorState) × (core ≡ TheCollector c)
kept joiners ls (TheFeeder f) stands = absurd stands
kept joiners ls (TheJoiner j) stands = absurd stands
kept joiners ls (TheController c) stands = absurd stands
kept joiners ls (TheCollector c) stands = (c, refl)

-- the last two of machines that stand for lists of a wave are a controller's and a collector's
pub have_last : (task : Task) (cast : Cast) (cores : List Core) (f : Actor → ActorLists)
    → AllStand task cast cores f → HaveLast cores
have_last task cast cores f all =
    let one = all.stands Controller tt in
    let other = all.stands Collector tt in
    let controller = told _ (f Controller) one.0 one.2 in
    let collector = kept _ (f Collector) other.0 other.2 in
    record {
      controller = controller.0;
      collector = collector.0;
      are = record {
        before = cast.feeders + cast.joiners;
        many = all.all;
        controller_is = one.1 ∙ ap Some controller.1;
        collector_is = other.1 ∙ ap Some collector.1;
      };
    }
