-- The number of an actor is its own.
use Rattle.std.proofs.Common.{◌≡◌, ◌≢◌, ℕ, ◌+◌, ◌-◌, ◌==◌, ◌<◌, ◌≤◌, ◌^◌, ltb, eqb-true, eq-eqb, ne_eqb, true≢false}
use Rattle.std.proofs.Common.{refl, sym, ap, subst, ◌∙◌, Bool, true, false, cond, Some, None, arith}
use Rattle.std.specs.Option.{is_none}
use Rattle.std.proofs.lemmas.Bool.{lt-ltb, le-ltb, ltb-true, ltb-false}
use Rattle.epoch_tags.specs.declared.actor.Actor.{Actor}
use Rattle.epoch_tags.specs.declared.actor.Actor.TheVariants.{Feeder, Joiner, Controller, Collector}
use Rattle.trace_law.specs.declared.setting.Setting.{Setting}
use Rattle.actor_core.specs.declared.cast.Cast.{Cast}
use Rattle.actor_core.specs.Lists.{same_actor}
use Rattle.actor_core.specs.Families.{IsActor}
use Rattle.actor_core.specs.Numbers.{actor_at, cast_of, count_of, number}
use Rattle.actor_core.proofs.Balances.{same_is}

-- nothing is not something
pub none_some : {X : Type 0} (x : X) → None ≡ Some x → ⊥
none_some x e = true≢false (ap is_none e)

-- what two options hold is equal where these are
pub some_is : {X : Type 0} (x y : X) → Some x ≡ Some y → x ≡ y
some_is x y e = cc

-- an actor is the same as itself
pub same_self : (a : Actor) → same_actor a a ≡ true
same_self (Feeder p) = eq-eqb p p refl
same_self (Joiner j) = eq-eqb j j refl
same_self Controller = refl
same_self Collector = refl

-- ---- at each place stands its actor

module _ (cast : Cast) where
  feeder_there : (n : ℕ) → n < cast.feeders → actor_at cast n ≡ Feeder n
  feeder_there n low = rw (lt-ltb n cast.feeders low) refl

  joiner_there : (j : ℕ) → j < cast.joiners → actor_at cast (cast.feeders + j) ≡ Joiner j
  joiner_there j low =
      let minus : (cast.feeders + j) - cast.feeders ≡ j = omega arith in
      rw (
        le-ltb (cast.feeders + j) cast.feeders (omega arith),
        lt-ltb (cast.feeders + j) (cast.feeders + cast.joiners) (omega arith),
        minus,
      ) refl

  controller_there : actor_at cast (cast.feeders + cast.joiners) ≡ Controller
  controller_there =
      rw (
        le-ltb (cast.feeders + cast.joiners) cast.feeders (omega arith),
        le-ltb (cast.feeders + cast.joiners) (cast.feeders + cast.joiners) (omega arith),
        eq-eqb (cast.feeders + cast.joiners) (cast.feeders + cast.joiners) refl,
      ) refl

  collector_there : actor_at cast (cast.feeders + cast.joiners + 1) ≡ Collector
  collector_there =
      rw (
        le-ltb (cast.feeders + cast.joiners + 1) cast.feeders (omega arith),
        le-ltb (cast.feeders + cast.joiners + 1) (cast.feeders + cast.joiners) (omega arith),
        ne_eqb (cast.feeders + cast.joiners + 1) (cast.feeders + cast.joiners) (λ e. omega arith),
      ) refl

  at_some : (a : Actor) (m n : ℕ) → actor_at cast m ≡ a → Some m ≡ Some n → actor_at cast n ≡ a
  at_some a m n there e = subst (λ z. actor_at cast z ≡ a) (some_is m n e) there

  -- the actor at an actor's number is that actor
  pub number_actor : (a : Actor) (n : ℕ) → number cast a ≡ Some n → actor_at cast n ≡ a
  number_actor (Feeder p) n e = go (ltb p cast.feeders) refl e
    where
      go : (b : Bool) → ltb p cast.feeders ≡ b → cond b (Some p) None ≡ Some n → actor_at cast n ≡ Feeder p
      go true low e' = at_some (Feeder p) p n (feeder_there p (ltb-true p cast.feeders low)) e'
      go false low e' = absurd (none_some n e')
  number_actor (Joiner j) n e = go (ltb j cast.joiners) refl e
    where
      go : (b : Bool) → ltb j cast.joiners ≡ b → cond b (Some (cast.feeders + j)) None ≡ Some n
          → actor_at cast n ≡ Joiner j
      go true low e' = at_some (Joiner j) (cast.feeders + j) n (joiner_there j (ltb-true j cast.joiners low)) e'
      go false low e' = absurd (none_some n e')
  number_actor Controller n e = at_some Controller (cast.feeders + cast.joiners) n controller_there e
  number_actor Collector n e = at_some Collector (cast.feeders + cast.joiners + 1) n collector_there e

  -- two actors are the same exactly if their numbers are
  pub same_number : (a b : Actor) (i k : ℕ) → number cast a ≡ Some i → number cast b ≡ Some k
      → same_actor a b ≡ (i == k)
  same_number a b i k at at' = go (same_actor a b) (i == k) refl refl
    where
      go : (x y : Bool) → same_actor a b ≡ x → (i == k) ≡ y → same_actor a b ≡ (i == k)
      go true true e d = e ∙ sym d
      go false false e d = e ∙ sym d
      go true false e d =
          let is = same_is a b e in
          let same = some_is i k (sym at ∙ subst (λ z. number cast z ≡ Some k) (sym is) at') in
          absurd (true≢false (sym (eq-eqb i k same) ∙ d))
      go false true e d =
          let is = eqb-true i k d in
          let same : a ≡ b = sym (number_actor a i at) ∙ (ap (actor_at cast) is ∙ number_actor b k at') in
          absurd (true≢false (sym (same_self b) ∙ subst (λ z. same_actor z b ≡ false) same e))

-- the number of the actor at a place is that place
pub number_there : (cast : Cast) (n : ℕ) → n < count_of cast
    → number cast (actor_at cast n) ≡ Some n
number_there cast n low = first (ltb n cast.feeders) refl
  where
    last : (d : Bool) → (n == cast.feeders + cast.joiners) ≡ d → cast.feeders + cast.joiners ≤ n
        → number cast (cond d Controller Collector) ≡ Some n
    last true e high = ap Some (sym (eqb-true n (cast.feeders + cast.joiners) e))
    last false e high =
        let other : n ≢ cast.feeders + cast.joiners = λ is. true≢false (sym (eq-eqb n (cast.feeders + cast.joiners) is)
        ∙ e) in
        let is : cast.feeders + cast.joiners + 1 ≡ n = omega arith in
        ap Some is

    second : (c : Bool) → ltb n (cast.feeders + cast.joiners) ≡ c → cast.feeders ≤ n
        → number cast (cond c (Joiner (n - cast.feeders)) (cond (n == cast.feeders + cast.joiners)
        Controller Collector))
        ≡ Some n
    second true e high =
        let under = ltb-true n (cast.feeders + cast.joiners) e in
        let low' : n - cast.feeders < cast.joiners = omega arith in
        let is : cast.feeders + (n - cast.feeders) ≡ n = omega arith in
        ap (λ b. cond b (Some (cast.feeders + (n - cast.feeders))) None) (lt-ltb (n - cast.feeders) cast.joiners low')
        ∙ ap Some is
    second false e high = last (n == cast.feeders + cast.joiners) refl (ltb-false n (cast.feeders + cast.joiners) e)

    first : (b : Bool) → ltb n cast.feeders ≡ b
        → number cast (cond b (Feeder n) (cond (ltb n (cast.feeders + cast.joiners)) (Joiner (n - cast.feeders))
        (cond (n == cast.feeders + cast.joiners) Controller Collector))) ≡ Some n
    first true e = ap (λ b. cond b (Some n) None) e
    first false e = second (ltb n (cast.feeders + cast.joiners)) refl (ltb-false n cast.feeders e)

-- ---- what has a number is one of the run's actors

below : {X : Type 0} (x y : X) (n most : ℕ) (b : Bool) → ltb n most ≡ b → cond b (Some x) None ≡ Some y → n < most
below x y n most true low e = ltb-true n most low
below x y n most false low e = absurd (none_some y e)

-- an actor with a number is one of the run's
pub is_actor : (setting : Setting) (cast : Cast) (a : Actor) (n : ℕ) → cast ≡ cast_of setting
    → number cast a ≡ Some n → IsActor setting a
is_actor setting cast a n is numbered = go a (subst (λ c. number c a ≡ Some n) is numbered)
  where
    go : (a : Actor) → number (cast_of setting) a ≡ Some n → IsActor setting a
    go (Feeder p) e = below p n p setting.feeders (ltb p setting.feeders) refl e
    go (Joiner j) e = below (setting.feeders + j) n j (2 ^ setting.k) (ltb j (2 ^ setting.k)) refl e
    go Controller e = tt
    go Collector e = tt
