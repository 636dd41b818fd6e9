-- Each event of a world is counted by its lists.
use Rattle.std.proofs.Common.{◌≡◌, ℕ, ◌+◌, ◌^◌, ◌<◌, ◌≤◌, refl, sym, ap, subst, ◌∙◌, Bool, true, false, cond, Option}
use Rattle.std.proofs.Common.{Some, None, List, [], ◌∷◌, ◌++◌, filter_map, length, arith}
use Rattle.std.specs.Prelude.{bit_xor}
use Rattle.std.specs.List.{AllByRecursion, cons_option}
use Rattle.std.proofs.lemmas.List.{length-append}
use Rattle.std.proofs.lemmas.List.Elements.{filter_map-append, recursion_from_All}
use Rattle.row_cells.specs.Lists.{IsPrefix, total}
use Rattle.row_cells.proofs.Totals.{total_le, total_but}
use Rattle.row_cells.proofs.Everywhere.{all-append, all-back}
use Rattle.epoch_tags.specs.declared.actor.Actor.{Actor}
use Rattle.epoch_tags.specs.declared.actor.Actor.TheVariants.{Feeder, Joiner, Controller, Collector}
use Rattle.epoch_tags.specs.declared.message.Msg.{Msg}
use Rattle.epoch_tags.specs.declared.message.Msg.TheVariants.{Joiner as Joiner', Feeder as Feeder'}
use Rattle.epoch_tags.specs.declared.message.Msg.TheVariants.{Controller as Controller', Collector as Collector'}
use Rattle.epoch_tags.specs.declared.message.Post.{Post}
use Rattle.epoch_tags.specs.declared.message.ToFeeder.{ToFeeder}
use Rattle.epoch_tags.specs.declared.message.ToJoiner.{ToJoiner}
use Rattle.epoch_tags.specs.declared.message.ToController.{ToController}
use Rattle.epoch_tags.specs.declared.message.ToCollector.{ToCollector}
use Rattle.epoch_tags.specs.Links.{HasLink, feeder_joiner, joiner_joiner, controller_feeder, feeder_controller}
use Rattle.epoch_tags.specs.Links.{joiner_controller, joiner_collector}
use Rattle.epoch_tags.specs.Posts.{IsOfKind, GoesOver, joiner_msg, feeder_msg, controller_msg, collector_msg}
use Rattle.epoch_tags.specs.Posts.{posted_to_controller}
use Rattle.trace_law.specs.declared.setting.Setting.{Setting}
use Rattle.actor_core.specs.Lists.{ActorLists, Cause, Took, Began, same_actor, posted_to, with_event}
use Rattle.actor_core.specs.Standing.{GoOut}
use Rattle.actor_core.specs.Players.{AreLinked, IsLinked}
use Rattle.actor_core.specs.Families.{start_for, IsActor, after_event}
use Rattle.actor_core.specs.Tasks.{Task}
use Rattle.actor_core.proofs.Balances.{same_is}
use Rattle.actor_core.proofs.OwnNumbers.{same_self}
use Rattle.actor_core.proofs.Runs.{Grows, grows_same, prefix_self, with_event_grows}
use Rattle.actor_core.proofs.TypedLists.{appended, controller_posts}

-- ---- what the events of these lists are

-- at a feeder: its requests, what it received, and what the controller received of it
abbrev of_feeder : (Actor → ActorLists) → ℕ → ℕ
of_feeder f p =
    length (filter_map controller_msg ((f (Feeder p)).sent Controller))
    + length (filter_map feeder_msg ((f (Feeder p)).received Controller))
    + length (filter_map controller_msg ((f Controller).received (Feeder p)))

-- what a joiner received
abbrev of_joiner : Setting → (Actor → ActorLists) → ℕ → ℕ
of_joiner setting f j =
    total setting.feeders (λ p. length (filter_map joiner_msg ((f (Joiner j)).received (Feeder p))))
    + total (2 ^ setting.k) (λ i. length (filter_map joiner_msg ((f (Joiner j)).received (Joiner i))))

-- what the controller and the collector received of a joiner
abbrev of_ends : (Actor → ActorLists) → ℕ → ℕ
of_ends f j = length (filter_map controller_msg ((f Controller).received (Joiner j)))
    + length (filter_map collector_msg ((f Collector).received (Joiner j)))

-- so many events there were, by these lists
abbrev pub count : Setting → (Actor → ActorLists) → ℕ
count setting f = total setting.feeders (of_feeder f) + total (2 ^ setting.k) (of_joiner setting f)
    + total (2 ^ setting.k) (of_ends f)

-- ---- what a list counts

front_counts : {X : Type 0} (kind : Msg → Option X) (xs ys : List Msg) → IsPrefix xs ys
    → length (filter_map kind xs) ≤ length (filter_map kind ys)
front_counts kind xs ys front =
    let more = filter_map kind front.rest in
    let e : length (filter_map kind (xs ++ front.rest)) ≡ length (filter_map kind xs) + length more =
    ap length (filter_map-append kind xs front.rest) ∙ length-append (filter_map kind xs) more in
    let less : length (filter_map kind xs) ≤ length (filter_map kind (xs ++ front.rest)) = omega (arith, e) in
    subst (λ zs. length (filter_map kind xs) ≤ length (filter_map kind zs)) front.joins less

-- a message behind what was there before is one more
got_more : {X : Type 0} (kind : Msg → Option X) (x : X) (m : Msg) → kind m ≡ Some x → (before between after : List Msg)
    → IsPrefix before between → IsPrefix (between ++ m ∷ []) after
    → length (filter_map kind before) + 1 ≤ length (filter_map kind after)
got_more kind x m is before between after old new =
    let one = front_counts kind before between old in
    let two = front_counts kind (between ++ m ∷ []) after new in
    let typed : filter_map kind (m ∷ []) ≡ x ∷ [] = ap (λ o. cons_option o []) is in
    let all = ap length (appended kind between (m ∷ []) (x ∷ []) typed) in
    let long = all ∙ length-append (filter_map kind between) (x ∷ []) in
    omega (arith, one, two, long)

total_more : (n i : ℕ) (g h : ℕ → ℕ) → i < n → ((q : ℕ) → q < n → g q ≤ h q) → g i + 1 ≤ h i → total n g + 1 ≤ total n h
total_more n i g h low each more = let but = total_but n i g h low each in omega arith

-- ---- kinds

joiner_kind : (j : ℕ) (m : Msg) → IsOfKind (Joiner j) m → (x : ToJoiner) × (joiner_msg m ≡ Some x)
joiner_kind j (Joiner' m) is = (m, refl)
joiner_kind j (Feeder' m) is = absurd is
joiner_kind j (Controller' m) is = absurd is
joiner_kind j (Collector' m) is = absurd is

feeder_kind : (p : ℕ) (m : Msg) → IsOfKind (Feeder p) m → (x : ToFeeder) × (feeder_msg m ≡ Some x)
feeder_kind p (Joiner' m) is = absurd is
feeder_kind p (Feeder' m) is = (m, refl)
feeder_kind p (Controller' m) is = absurd is
feeder_kind p (Collector' m) is = absurd is

controller_kind : (m : Msg) → IsOfKind Controller m → (x : ToController) × (controller_msg m ≡ Some x)
controller_kind (Joiner' m) is = absurd is
controller_kind (Feeder' m) is = absurd is
controller_kind (Controller' m) is = (m, refl)
controller_kind (Collector' m) is = absurd is

collector_kind : (m : Msg) → IsOfKind Collector m → (x : ToCollector) × (collector_msg m ≡ Some x)
collector_kind (Joiner' m) is = absurd is
collector_kind (Feeder' m) is = absurd is
collector_kind (Controller' m) is = absurd is
collector_kind (Collector' m) is = (m, refl)

-- ---- lists that grow

module _ (setting : Setting) (f g : Actor → ActorLists) (grow : (a : Actor) → Grows (f a) (g a)) where
  received_le : {X : Type 0} (kind : Msg → Option X) (x y : Actor)
      → length (filter_map kind ((f y).received x)) ≤ length (filter_map kind ((g y).received x))
  received_le kind x y = front_counts kind ((f y).received x) ((g y).received x) ((grow y).received x)

  sent_le : {X : Type 0} (kind : Msg → Option X) (x y : Actor)
      → length (filter_map kind ((f x).sent y)) ≤ length (filter_map kind ((g x).sent y))
  sent_le kind x y = front_counts kind ((f x).sent y) ((g x).sent y) ((grow x).sent y)

  feeder_le : (p : ℕ) → of_feeder f p ≤ of_feeder g p
  feeder_le p =
      let one = sent_le controller_msg (Feeder p) Controller in
      let two = received_le feeder_msg Controller (Feeder p) in
      let three = received_le controller_msg (Feeder p) Controller in
      omega arith

  from_feeders_le : (j : ℕ)
      → total setting.feeders (λ p. length (filter_map joiner_msg ((f (Joiner j)).received (Feeder p))))
      ≤ total setting.feeders (λ p. length (filter_map joiner_msg ((g (Joiner j)).received (Feeder p))))
  from_feeders_le j = total_le setting.feeders _ _ (λ p low. received_le joiner_msg (Feeder p) (Joiner j))

  from_joiners_le : (j : ℕ)
      → total (2 ^ setting.k) (λ i. length (filter_map joiner_msg ((f (Joiner j)).received (Joiner i))))
      ≤ total (2 ^ setting.k) (λ i. length (filter_map joiner_msg ((g (Joiner j)).received (Joiner i))))
  from_joiners_le j = total_le (2 ^ setting.k) _ _ (λ i low. received_le joiner_msg (Joiner i) (Joiner j))

  joiner_le : (j : ℕ) → of_joiner setting f j ≤ of_joiner setting g j
  joiner_le j = let one = from_feeders_le j in let two = from_joiners_le j in omega arith

  ends_le : (j : ℕ) → of_ends f j ≤ of_ends g j
  ends_le j =
      let one = received_le controller_msg (Joiner j) Controller in
      let two = received_le collector_msg (Joiner j) Collector in
      omega arith

  all_feeders : total setting.feeders (of_feeder f) ≤ total setting.feeders (of_feeder g)
  all_feeders = total_le setting.feeders (of_feeder f) (of_feeder g) (λ p low. feeder_le p)

  all_joiners : total (2 ^ setting.k) (of_joiner setting f) ≤ total (2 ^ setting.k) (of_joiner setting g)
  all_joiners = total_le (2 ^ setting.k) (of_joiner setting f) (of_joiner setting g) (λ j low. joiner_le j)

  all_ends : total (2 ^ setting.k) (of_ends f) ≤ total (2 ^ setting.k) (of_ends g)
  all_ends = total_le (2 ^ setting.k) (of_ends f) (of_ends g) (λ j low. ends_le j)

  -- where one of the three sums has one more, the count has
  feeder_more : (p : ℕ) → p < setting.feeders → of_feeder f p + 1 ≤ of_feeder g p
      → count setting f + 1 ≤ count setting g
  feeder_more p low more =
      let one = total_more setting.feeders p (of_feeder f) (of_feeder g) low (λ q l. feeder_le q) more in
      let two = all_joiners in let three = all_ends in omega arith

  joiner_more : (j : ℕ) → j < 2 ^ setting.k → of_joiner setting f j + 1 ≤ of_joiner setting g j
      → count setting f + 1 ≤ count setting g
  joiner_more j low more =
      let one =
      total_more (2 ^ setting.k) j (of_joiner setting f) (of_joiner setting g) low (λ q l. joiner_le q) more in
      let two = all_feeders in let three = all_ends in omega arith

  ends_more : (j : ℕ) → j < 2 ^ setting.k → of_ends f j + 1 ≤ of_ends g j → count setting f + 1 ≤ count setting g
  ends_more j low more =
      let one = total_more (2 ^ setting.k) j (of_ends f) (of_ends g) low (λ q l. ends_le q) more in
      let two = all_feeders in let three = all_joiners in omega arith

  -- a message of the link's kind, taken over a link by one of the run's actors, is one event more
  pub taking_counts : (from self : Actor) (m : Msg) (between : List Msg) → HasLink setting.k setting.feeders from self
      → IsActor setting self → IsOfKind self m → IsPrefix ((f self).received from) between
      → IsPrefix (between ++ m ∷ []) ((g self).received from) → count setting f + 1 ≤ count setting g
  taking_counts _ _ m between (feeder_joiner {p = p} {j = j} p_low j_low) actor kind old new =
      let typed = joiner_kind j m kind in
      let here = got_more joiner_msg typed.0 m typed.1 _ between _ old new in
      let one = total_more setting.feeders p _ _ p_low (λ q low. received_le joiner_msg (Feeder q) (Joiner j)) here in
      let two = from_joiners_le j in
      joiner_more j j_low (omega arith)
  taking_counts _ _ m between (joiner_joiner {i = i} {low = low} i_low bit_low) actor kind old new =
      let j = bit_xor i (2 ^ low) in
      let typed = joiner_kind j m kind in
      let here = got_more joiner_msg typed.0 m typed.1 _ between _ old new in
      let one = total_more (2 ^ setting.k) i _ _ i_low (λ q l. received_le joiner_msg (Joiner q) (Joiner j)) here in
      let two = from_feeders_le j in
      joiner_more j actor (omega arith)
  taking_counts _ _ m between (controller_feeder {p = p} p_low) actor kind old new =
      let typed = feeder_kind p m kind in
      let here = got_more feeder_msg typed.0 m typed.1 _ between _ old new in
      let one = sent_le controller_msg (Feeder p) Controller in
      let three = received_le controller_msg (Feeder p) Controller in
      feeder_more p p_low (omega arith)
  taking_counts _ _ m between (feeder_controller {p = p} p_low) actor kind old new =
      let typed = controller_kind m kind in
      let here = got_more controller_msg typed.0 m typed.1 _ between _ old new in
      let one = sent_le controller_msg (Feeder p) Controller in
      let two = received_le feeder_msg Controller (Feeder p) in
      feeder_more p p_low (omega arith)
  taking_counts _ _ m between (joiner_controller {j = j} j_low) actor kind old new =
      let typed = controller_kind m kind in
      let here = got_more controller_msg typed.0 m typed.1 _ between _ old new in
      let two = received_le collector_msg (Joiner j) Collector in
      ends_more j j_low (omega arith)
  taking_counts _ _ m between (joiner_collector {j = j} j_low) actor kind old new =
      let typed = collector_kind m kind in
      let here = got_more collector_msg typed.0 m typed.1 _ between _ old new in
      let one = received_le controller_msg (Joiner j) Controller in
      ends_more j j_low (omega arith)

  -- a beginning that sends the controller one message is one event more
  pub beginning_counts : (p : ℕ) (posts : List Post) (between : List Msg) → p < setting.feeders
      → length (posted_to_controller posts) ≡ 1 → IsPrefix ((f (Feeder p)).sent Controller) between
      → IsPrefix (between ++ posted_to Controller posts) ((g (Feeder p)).sent Controller)
      → count setting f + 1 ≤ count setting g
  beginning_counts p posts between low asks old new =
      let sent = posted_to_controller posts in
      let all = appended controller_msg between (posted_to Controller posts) sent (controller_posts posts) in
      let long = ap length all ∙ length-append (filter_map controller_msg between) sent in
      let one = front_counts controller_msg ((f (Feeder p)).sent Controller) between old in
      let two =
      front_counts controller_msg (between ++ posted_to Controller posts) ((g (Feeder p)).sent Controller) new in
      let three = received_le feeder_msg Controller (Feeder p) in
      let four = received_le controller_msg (Feeder p) Controller in
      feeder_more p low (omega (arith, long, asks, one, two, three, four))

-- ---- one event of one actor

-- its lists grow, and no other's change
event_grows : (self : Actor) (cause : Cause) (posts : List Post) (f : Actor → ActorLists) (a : Actor)
    → Grows (f a) (after_event self cause posts f a)
event_grows self cause posts f a = go (same_actor self a) refl
  where
    go : (b : Bool) → same_actor self a ≡ b → Grows (f a) (cond b (with_event cause posts (f self)) (f a))
    go true e =
        subst (λ z. Grows (f z) (with_event cause posts (f self))) (same_is self a e)
        (with_event_grows cause posts (f self))
    go false e = grows_same (f a) (f a) refl

-- a message taken over a link is one event more
pub took_counts : (setting : Setting) (from self : Actor) (m : Msg) (posts : List Post) (f : Actor → ActorLists)
    → HasLink setting.k setting.feeders from self → IsActor setting self → IsOfKind self m
    → count setting f + 1 ≤ count setting (after_event self (Took from m) posts f)
took_counts setting from self m posts f link actor kind =
    let before = (f self).received from in
    let got : (after_event self (Took from m) posts f self).received from ≡ before ++ m ∷ [] =
    ap (λ b. (cond b (with_event (Took from m) posts (f self)) (f self)).received from) (same_self self)
    ∙ ap (λ c. cond c (before ++ m ∷ []) before) (same_self from) in
    taking_counts setting f (after_event self (Took from m) posts f) (event_grows self (Took from m) posts f) from self
    m before link actor kind (prefix_self before before refl) (prefix_self (before ++ m ∷ []) _ got)

-- and so is a beginning
pub began_counts : (setting : Setting) (p : ℕ) (posts : List Post) (f : Actor → ActorLists) → p < setting.feeders
    → length (posted_to_controller posts) ≡ 1
    → count setting f + 1 ≤ count setting (after_event (Feeder p) Began posts f)
began_counts setting p posts f low asks =
    let self = Feeder p in
    let before = (f self).sent Controller in
    let sent = before ++ posted_to Controller posts in
    let got : (after_event self Began posts f self).sent Controller ≡ sent =
    ap (λ b. (cond b (with_event Began posts (f self)) (f self)).sent Controller) (same_self self) in
    beginning_counts setting f (after_event self Began posts f) (event_grows self Began posts f) p posts before low asks
    (prefix_self before before refl) (prefix_self sent _ got)

-- ---- what was sent goes over links

posted_linked : (setting : Setting) (self to : Actor) (posts : List Post)
    → AllByRecursion (GoesOver setting.k setting.feeders self) posts
    → AllByRecursion (IsLinked setting self to) (posted_to to posts)
posted_linked setting self to [] all = tt
posted_linked setting self to (post ∷ posts) all =
    go (same_actor post.to to) refl (posted_linked setting self to posts all.1)
  where
    go : (b : Bool) → same_actor post.to to ≡ b → AllByRecursion (IsLinked setting self to) (posted_to to posts)
        → AllByRecursion (IsLinked setting self to) (cons_option (cond b (Some post.msg) None) (posted_to to posts))
    go true e rest =
        (subst (λ z. IsLinked setting self z post.msg) (same_is post.to to e) (all.0.link, all.0.kind), rest)
    go false e rest = rest

-- the posts of an actor that began so go over its links
pub over_links : (task : Task) (self : Actor) (posts : List Post) → IsActor task.setting self
    → GoOut (start_for task self) posts → AllByRecursion (GoesOver task.setting.k task.setting.feeders self) posts
over_links task (Feeder p) posts is out =
    recursion_from_All (GoesOver task.setting.k task.setting.feeders (Feeder p)) posts (out is)
over_links task (Joiner j) posts is out =
    recursion_from_All (GoesOver task.setting.k task.setting.feeders (Joiner j)) posts out
over_links task Controller posts is out =
    recursion_from_All (GoesOver task.setting.k task.setting.feeders Controller) posts out
over_links task Collector posts is out =
    subst (AllByRecursion (GoesOver task.setting.k task.setting.feeders Collector)) (sym out) tt

-- so it is after an event whose posts go over its actor's links
pub linked_after : (task : Task) (self : Actor) (cause : Cause) (posts : List Post)
    (f : Actor → ActorLists) → AreLinked task.setting f → IsActor task.setting self → GoOut (start_for task self) posts
    → AreLinked task.setting (after_event self cause posts f)
linked_after task self cause posts f linked is out from to = go (same_actor self from) refl
  where
    go : (b : Bool) → same_actor self from ≡ b
        → AllByRecursion (IsLinked task.setting from to) ((cond b (with_event cause posts (f self)) (f from)).sent to)
    go true e = subst (λ z. AllByRecursion (IsLinked task.setting z to) ((f self).sent to ++ posted_to to posts))
        (same_is self from e)
        (all-append (IsLinked task.setting self to) ((f self).sent to) (posted_to to posts) (linked self to)
        (posted_linked task.setting self to posts (over_links task self posts is out)))
    go false e = linked from to

-- a message that is left on a link goes over it too
pub left_linked : (setting : Setting) (from to : Actor) (received rest sent : List Msg) (m : Msg)
    → received ++ m ∷ rest ≡ sent → AllByRecursion (IsLinked setting from to) sent → IsLinked setting from to m
left_linked setting from to received rest sent m is all =
    let behind = all-back (IsLinked setting from to) received (m ∷ rest)
    (subst (AllByRecursion (IsLinked setting from to)) (sym is) all) in
    behind.0
