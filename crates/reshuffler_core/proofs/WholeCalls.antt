-- From one taken message to a whole call.
use Rattle.std.proofs.Common.{◌≡◌, ℕ, ◌<◌, ◌↔◌, inl, refl, sym, ◌∙◌, ap, subst, arith, Bool, true, false, List, [], ◌∷◌}
use Rattle.std.proofs.Common.{◌++◌, drop, append_assoc}
use Rattle.std.proofs.lemmas.List.{append-nil}
use Rattle.std.proofs.lemmas.List.Elements.{filter_map-append, All-append, All-nil}
use Rattle.std.proofs.lemmas.Bool.{false≢true}
use Rattle.epoch_tags.specs.declared.actor.Actor.TheVariants.{Feeder}
use Rattle.epoch_tags.specs.declared.message.Post.{Post}
use Rattle.epoch_tags.specs.declared.message.ToJoiner.TheVariants.{Turn, End}
use Rattle.epoch_tags.specs.declared.message.ToFeeder.{ToFeeder}
use Rattle.epoch_tags.specs.declared.message.ToFeeder.TheVariants.{Order, Grant, Stop}
use Rattle.epoch_tags.specs.Messages.{stops}
use Rattle.epoch_tags.specs.Posts.{GoesOver, AllGoOver, posted_to_joiner, posted_to_controller, for_joiner}
use Rattle.epoch_tags.specs.Posts.{for_controller}
use Rattle.reshuffler_core.specs.Law.{FeederLists, FeederStart, CanTake, requests}
use Rattle.reshuffler_core.specs.Standing.{FeederState, StandsFor, TakesMessage, nothing_yet, with_sent, with_message}
use Rattle.reshuffler_core.specs.Standing.{after_held, posts_of_held, state_after, posts_for, first_batch}
use Rattle.reshuffler_core.specs.Machine.{Takes, IsStuck, IsReady, Goes, Advances, GoesOverLinks}
use Rattle.reshuffler_core.proofs.FeederPosts.{all-over, batch-over}
use Rattle.reshuffler_core.proofs.TakenMessages.{took, nothing_asked}
use Rattle.reshuffler_core.proofs.CallResults.{one_state, one_posts, whole_state, whole_posts}

-- ---- lists that are the same, one by one

-- what a machine took of some lists it took of others too, where these are the same on each link
pub same_lists : (s : FeederState) (xs ys : FeederLists) (taken : List ToFeeder) → Goes s xs taken
    → ys.received ≡ xs.received → ys.to_controller ≡ xs.to_controller
    → ((j : ℕ) → ys.to_joiner j ≡ xs.to_joiner j) → Goes s ys taken
same_lists s xs ys taken g received controller joiner = record {
  splits = g.splits ∙ sym received;
  asked = rw controller g.asked;
  granted = rw controller g.granted;
  drained = rw controller g.drained;
  orders = g.orders;
  stops_last = g.stops_last;
  stops_drained = rw controller g.stops_drained;
  answered = λ j below. joiner j ∙ g.answered j below;
  epoch = g.epoch;
  shift = g.shift;
  to_come = g.to_come;
  is_asked = rw controller g.is_asked;
  is_drained = rw controller g.is_drained;
  is_stopped = g.is_stopped;
}

joined-joiner : (j : ℕ) (xs ys : List Post) → posted_to_joiner j (xs ++ ys) ≡ posted_to_joiner j xs
    ++ posted_to_joiner j ys
joined-joiner j xs ys = filter_map-append (λ post. for_joiner j post.to post.msg) xs ys

-- posts behind posts carry to the controller what the first ones carry and then what the others do
pub joined-controller : (xs ys : List Post) → posted_to_controller (xs ++ ys) ≡ posted_to_controller xs
    ++ posted_to_controller ys
joined-controller xs ys = filter_map-append (λ post. for_controller post.to post.msg) xs ys

-- two calls' posts
pub sent_on : (s : FeederState) (lists : FeederLists) (xs ys : List Post) (taken : List ToFeeder)
    → Goes s (with_sent (with_sent lists xs) ys) taken → Goes s (with_sent lists (xs ++ ys)) taken
sent_on s lists xs ys taken g = same_lists s (with_sent (with_sent lists xs) ys) (with_sent lists (xs ++ ys))
    taken g refl
    (ap (λ ms. lists.to_controller ++ ms) (joined-controller xs ys)
    ∙ sym (append_assoc lists.to_controller (posted_to_controller xs) (posted_to_controller ys)))
    (λ j. ap (λ ms. lists.to_joiner j ++ ms) (joined-joiner j xs ys)
    ∙ sym (append_assoc (lists.to_joiner j) (posted_to_joiner j xs) (posted_to_joiner j ys)))

-- ---- some of the held

-- to take none of the held is to go on as well: nothing changes, and nothing is sent
pub stays : (s : FeederState) (posts : List Post) → Advances s s posts posts
stays s posts = record {
  start = refl;
  added = [];
  sends = sym (append-nil posts);
  asks_nothing = refl;
  over = λ p feeders low. All-nil (GoesOver s.start.k feeders (Feeder p));
  state = refl;
  posts = refl;
  goes = λ lists taken g. record {
    taken = taken;
    goes = same_lists s lists (with_sent lists []) taken g refl (append-nil lists.to_controller)
        (λ j. append-nil (lists.to_joiner j));
  };
}

-- going on twice is going on once, with the posts of both
pub further : (a b c : FeederState) (xs ys zs : List Post) → Advances a b xs ys → Advances b c ys zs
    → Advances a c xs zs
further a b c xs ys zs p q = record {
  start = q.start ∙ p.start;
  added = p.added ++ q.added;
  sends = q.sends ∙ ap (λ posts. posts ++ q.added) p.sends ∙ append_assoc xs p.added q.added;
  asks_nothing = joined-controller p.added q.added ∙ ap (λ ms. ms ++ posted_to_controller q.added) p.asks_nothing
      ∙ q.asks_nothing;
  over = λ id feeders low. All-append (GoesOver a.start.k feeders (Feeder id)) p.added q.added (p.over id feeders low)
      (subst (λ (start : FeederStart). AllGoOver start.k feeders (Feeder id) q.added) p.start (q.over id feeders low));
  state = p.state ∙ q.state;
  posts = p.posts ∙ ap (λ posts. p.added ++ posts) q.posts ∙ sym
      (append_assoc p.added q.added (posts_of_held c c.held));
  goes = λ lists taken g.
      let first = p.goes lists taken g in
      let second = q.goes (with_sent lists p.added) first.taken first.goes in
      record { taken = second.taken; goes = sent_on c lists p.added q.added second.taken second.goes };
}

go_over : (s : FeederState) (m : ToFeeder) → GoesOverLinks s.start.k (posts_for s m)
go_over s (Order epoch shift) = λ p feeders low. all-over s.start.k p feeders low (Turn epoch shift)
go_over s Grant = λ p feeders low. batch-over s.start.k p feeders low s.epoch s.shift (first_batch s.to_come)
go_over s Stop = λ p feeders low. all-over s.start.k p feeders low End

same_posts : (s : FeederState) (rest : List ToFeeder) (m : ToFeeder)
    → posts_for (record s { held = rest }) m ≡ posts_for s m
same_posts s rest (Order epoch shift) = refl
same_posts s rest Grant = refl
same_posts s rest Stop = refl

same_start : (s : FeederState) (rest : List ToFeeder) (m : ToFeeder)
    → (state_after (record s { held = rest }) m).start ≡ s.start
same_start s rest (Order epoch shift) = refl
same_start s rest Grant = refl
same_start s rest Stop = refl

-- what a message does to the machine leaves the held messages as they are
pub same_held : (s : FeederState) (m : ToFeeder) → (state_after s m).held ≡ s.held
same_held s (Order epoch shift) = refl
same_held s Grant = refl
same_held s Stop = refl

-- a machine goes on where it takes the first of the held, if that can be taken, and sends what is sent for it
pub one_taken : (s : FeederState) (m : ToFeeder) (before : List Post) → IsReady s m
    → Advances s (state_after (record s { held = drop 1 s.held }) m) before
    (before ++ posts_for (record s { held = drop 1 s.held }) m)
one_taken s m before ready =
    let rest : drop 1 s.held ≡ ready.rest = ap (drop 1) ready.first in
    let next = state_after (record s { held = drop 1 s.held }) m in
    record {
      start = same_start s (drop 1 s.held) m;
      added = posts_for s m;
      sends = ap (λ posts. before ++ posts) (same_posts s (drop 1 s.held) m);
      asks_nothing = nothing_asked s m;
      over = go_over s m;
      state = one_state s m ready ∙ ap (after_held next) (sym (same_held (record s { held = drop 1 s.held }) m));
      posts = one_posts s m ready ∙ ap (λ held. posts_for s m ++ posts_of_held next held)
          (sym (same_held (record s { held = drop 1 s.held }) m));
      goes = λ lists taken g. record {
        taken = taken ++ m ∷ [];
        goes = took s (drop 1 s.held) lists taken g m (ready.first ∙ ap (λ ms. m ∷ ms) (sym rest)) ready.takes;
      };
    }

same_takes : (s : FeederState) (rest : List ToFeeder) (m : ToFeeder) → Takes s m → Takes (record s { held = rest }) m
same_takes s rest (Order epoch shift) can = can
same_takes s rest Grant can = can
same_takes s rest Stop can = can

-- the first of the held, if it can be taken, still can be when it is no longer held
pub still_takes : (s : FeederState) (m : ToFeeder) → IsReady s m → Takes (record s { held = drop 1 s.held }) m
still_takes s m ready = same_takes s (drop 1 s.held) m ready.takes

-- ---- what the machine stands for

below_nothing : (b : Bool) (n : ℕ) → n ≡ 0 → (b ≡ true ↔ (0 < n)) → b ≡ false
below_nothing true n none both = let some = both.0 refl in absurd (omega arith)
below_nothing false n none both = refl

-- what the law lets it take, it can take
takes_if : (s : FeederState) (lists : FeederLists) (taken : List ToFeeder) → Goes s lists taken → (m : ToFeeder)
    → CanTake s.start taken lists.to_controller m → Takes s m
takes_if s lists taken g (Order epoch shift) can = (
  let at = can.0 in let e = g.epoch in omega arith,
  can.1,
  below_nothing s.stopped (stops taken) can.2 g.is_stopped,
)
takes_if s lists taken g Grant can = g.is_asked.1 can
takes_if s lists taken g Stop can = (g.is_drained.1 can.0, below_nothing s.stopped (stops taken) can.1 g.is_stopped)

-- whether it is spent makes no difference here
pub is_standing : (s : FeederState) (lists : FeederLists) (taken : List ToFeeder) (spent : Bool) → Goes s lists taken
    → IsStuck s → StandsFor s.start lists (record s { spent = spent })
is_standing s lists taken spent g stuck = record {
  began = refl;
  taken = taken;
  law = record {
    held = s.held;
    splits = g.splits;
    stuck = λ m rest is can. stuck m rest is (takes_if s lists taken g m can);
    asked = g.asked;
    granted = g.granted;
    drained = g.drained;
    orders = g.orders;
    stops_last = g.stops_last;
    stops_drained = g.stops_drained;
    answered = g.answered;
  };
  epoch = g.epoch;
  shift = g.shift;
  to_come = g.to_come;
  asked = g.is_asked;
  drained = g.is_drained;
  stopped = g.is_stopped;
  held = refl;
}

-- the start as the machine has it
pub as_own : (s : FeederState) (start : FeederStart) (lists : FeederLists) → StandsFor start lists s
    → StandsFor s.start lists s
as_own s start lists stands = subst (λ (own : FeederStart). StandsFor own lists s) (sym stands.began) stands

-- with one message more behind the held
pub received : (s : FeederState) (lists : FeederLists) (m : ToFeeder) (spent : Bool)
    → (stands : StandsFor s.start lists s)
    → Goes (record s { held = s.held ++ m ∷ []; spent = spent }) (with_message m lists) stands.taken
received s lists m spent stands =
    let law = stands.law in
    record {
      splits = ap (λ ms. stands.taken ++ (ms ++ m ∷ [])) stands.held ∙ sym (append_assoc stands.taken law.held (m ∷ []))
          ∙ ap (λ ms. ms ++ m ∷ []) law.splits;
      asked = law.asked;
      granted = law.granted;
      drained = law.drained;
      orders = law.orders;
      stops_last = law.stops_last;
      stops_drained = law.stops_drained;
      answered = law.answered;
      epoch = stands.epoch;
      shift = stands.shift;
      to_come = stands.to_come;
      is_asked = stands.asked;
      is_drained = stands.drained;
      is_stopped = stands.stopped;
    }

-- a machine that holds a message behind the others and then takes the held ones, up to the first that it can't, stands
-- for its lists with the message and these posts at their ends
pub takes_message : (old new : FeederState) (m : ToFeeder) (before after : List Post)
    → Advances (record old { held = old.held ++ m ∷ []; spent = true }) new before after → IsStuck new
    → TakesMessage m old (record new { spent = false }) before after
takes_message old new m before after go stuck = record {
  start = go.start;
  added = go.added;
  sends = go.sends;
  state = whole_state old new (old.held ++ m ∷ []) go.added stuck go.state;
  posts = whole_posts old new (old.held ++ m ∷ []) go.added stuck go.posts;
  asks_nothing = go.asks_nothing;
  over = go.over;
  stands = λ start lists stands.
      let own = as_own old start lists stands in
      let gone = go.goes (with_message m lists) own.taken (received old lists m true own) in
      subst (λ (s : FeederStart). StandsFor s (with_sent (with_message m lists) go.added)
      (record new { spent = false })) (go.start ∙ stands.began)
      (is_standing new (with_sent (with_message m lists) go.added) gone.taken false gone.goes stuck);
}

-- ---- beginnings

-- a machine as it began stands for empty lists: all batches are to come, nothing is asked for and nothing held
pub fresh : (s : FeederState) → s.epoch ≡ s.start.epoch → s.shift ≡ s.start.shift → s.to_come ≡ s.start.batches
    → s.asked ≡ false → s.drained ≡ false → s.stopped ≡ false → s.held ≡ [] → StandsFor s.start nothing_yet s
fresh s epoch shift to_come asked drained stopped held = record {
  began = refl;
  taken = [];
  law = record {
    held = [];
    splits = refl;
    stuck = λ m rest is can. absurd (cc);
    asked = record { rest = requests s.start; joins = refl };
    granted = inl refl;
    drained = λ some. absurd (omega arith);
    orders = refl;
    stops_last = tt;
    stops_drained = λ some. absurd (omega arith);
    answered = λ j below. refl;
  };
  epoch = omega arith;
  shift = shift;
  to_come = to_come;
  asked = (λ up. absurd (false≢true (sym asked ∙ up)), λ more. absurd (omega arith));
  drained = (λ up. absurd (false≢true (sym drained ∙ up)), λ more. absurd (omega arith));
  stopped = (λ up. absurd (false≢true (sym stopped ∙ up)), λ more. absurd (omega arith));
  held = held;
}
