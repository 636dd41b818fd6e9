-- The next request is the one that the law has next.
use Rattle.std.proofs.Common.{◌≡◌, ℕ, ◌+◌, ◌⊎◌, ◌↔◌, inl, inr, refl, sym, ◌∙◌, ap, subst, arith, Bool, true, false}
use Rattle.std.proofs.Common.{List, [], ◌∷◌, ◌++◌, drop, append_assoc, add-one}
use Rattle.std.specs.Prelude.{map}
use Rattle.std.proofs.lemmas.Bool.{false≢true}
use Rattle.std.proofs.lemmas.List.{append-nil}
use Rattle.std.proofs.lemmas.List.Elements.{All-append}
use Rattle.epoch_tags.specs.declared.tuple.Tuple.{Tuple}
use Rattle.epoch_tags.specs.declared.actor.Actor.TheVariants.{Feeder}
use Rattle.epoch_tags.specs.declared.message.Post.{Post}
use Rattle.epoch_tags.specs.declared.message.ToController.{ToController}
use Rattle.epoch_tags.specs.declared.message.ToController.TheVariants.{Ask, Drained, Settled}
use Rattle.epoch_tags.specs.Messages.{grants, asks, draineds}
use Rattle.epoch_tags.specs.Posts.{GoesOver, AllGoOver}
use Rattle.epoch_tags.proofs.Appends.{asks-append, draineds-append}
use Rattle.reshuffler_core.specs.Law.{FeederLists, FeederStart, ask_for}
use Rattle.reshuffler_core.specs.Standing.{FeederState, StandsFor, Begins, IsWaiting, next_request, with_sent}
use Rattle.reshuffler_core.specs.Standing.{after_held, posts_of_held, state_begun, to_controller}
use Rattle.reshuffler_core.specs.Machine.{IsStuck, Goes, Advances}
use Rattle.reshuffler_core.proofs.FeederPosts.{request-over}
use Rattle.reshuffler_core.proofs.CallResults.{whole_state, whole_posts}
use Rattle.reshuffler_core.proofs.WholeCalls.{is_standing, as_own, sent_on, joined-controller}
use Rattle.reshuffler_core.proofs.TakenMessages.{none_stopped}

-- what is left to ask
left : (batches : List (List Tuple)) (sent rest : List ToController)
    → sent ++ rest ≡ map ask_for batches ++ Drained ∷ [] → draineds sent ≡ 0
    → rest ≡ map ask_for (drop (asks sent) batches) ++ Drained ∷ []
left batches [] rest is none = is
left [] (Ask dr ds ∷ sent) rest is none = absurd (cc)
left [] (Drained ∷ sent) rest is none = absurd (omega arith)
left [] (Settled epoch ∷ sent) rest is none = absurd (cc)
left (batch ∷ batches) (Ask dr ds ∷ sent) rest is none =
    let later : sent ++ rest ≡ map ask_for batches ++ Drained ∷ [] = cc in
    rw add-one (left batches sent rest later none)
left (batch ∷ batches) (Drained ∷ sent) rest is none = absurd (omega arith)
left (batch ∷ batches) (Settled epoch ∷ sent) rest is none = absurd (cc)

even : (b : Bool) (m n : ℕ) → b ≡ false → (b ≡ true ↔ (m ≡ n + 1)) → (m ≡ n) ⊎ (m ≡ n + 1) → m ≡ n
even b m n is both (inl same) = same
even b m n is both (inr more) = absurd (false≢true (sym is ∙ both.1 more))

not_true : (b : Bool) → (¬ (b ≡ true)) → b ≡ false
not_true true never = absurd (never refl)
not_true false never = refl

-- a feeder that isn't waiting has no batch asked for and not granted, and hasn't drained
pub is_free : (s : FeederState) → (¬ (IsWaiting s)) → (s.asked ≡ false) × (s.drained ≡ false)
is_free s free = (not_true s.asked (λ up. free (inl up)), not_true s.drained (λ up. free (inr up)))

module _ (s : FeederState) (lists : FeederLists) (stands : StandsFor s.start lists s) (asked : s.asked ≡ false)
    (drained : s.drained ≡ false) where
  equal : asks lists.to_controller ≡ grants stands.taken
  equal = even s.asked (asks lists.to_controller) (grants stands.taken) asked stands.asked stands.law.granted

  undrained : draineds lists.to_controller ≡ 0
  undrained = none_stopped s.drained (draineds lists.to_controller) drained stands.drained

  rest_is : stands.law.asked.rest ≡ map ask_for s.to_come ++ Drained ∷ []
  rest_is = left s.start.batches lists.to_controller stands.law.asked.rest stands.law.asked.joins undrained
      ∙ ap (λ n. map ask_for (drop n s.start.batches) ++ Drained ∷ []) equal
      ∙ ap (λ bs. map ask_for bs ++ Drained ∷ []) (sym stands.to_come)

  begun : (bs : List (List Tuple)) → s.to_come ≡ bs → Goes (state_begun (record s { spent = true }) bs)
      (with_sent lists (to_controller (next_request bs) ∷ [])) stands.taken
  begun [] none =
      let whole = rest_is ∙ ap (λ bs. map ask_for bs ++ Drained ∷ []) none in
      let asks_now : asks (lists.to_controller ++ Drained ∷ []) ≡ asks lists.to_controller =
      (let e = asks-append lists.to_controller (Drained ∷ []) in omega arith) in
      let ds : draineds (lists.to_controller ++ Drained ∷ []) ≡ draineds lists.to_controller + 1 =
      draineds-append lists.to_controller (Drained ∷ []) in
      record {
        splits = ap (λ ms. stands.taken ++ ms) stands.held ∙ stands.law.splits;
        asked = record {
          rest = [];
          joins = append-nil (lists.to_controller ++ Drained ∷ [])
              ∙ ap (λ ms. lists.to_controller ++ ms) (sym whole) ∙ stands.law.asked.joins;
        };
        granted = inl (asks_now ∙ equal);
        drained = λ some. asks_now ∙ equal;
        orders = stands.law.orders;
        stops_last = stands.law.stops_last;
        stops_drained = λ some. omega arith;
        answered = λ j below. append-nil (lists.to_joiner j) ∙ stands.law.answered j below;
        epoch = stands.epoch;
        shift = stands.shift;
        to_come = stands.to_come;
        is_asked = rw asks_now stands.asked;
        is_drained = (λ up. omega arith, λ some. refl);
        is_stopped = stands.stopped;
      }
  begun (batch ∷ batches) some =
      let whole = rest_is ∙ ap (λ bs. map ask_for bs ++ Drained ∷ []) some in
      let asks_now : asks (lists.to_controller ++ ask_for batch ∷ []) ≡ asks lists.to_controller + 1 =
      asks-append lists.to_controller (ask_for batch ∷ []) in
      let ds : draineds (lists.to_controller ++ ask_for batch ∷ []) ≡ draineds lists.to_controller =
      (let e = draineds-append lists.to_controller (ask_for batch ∷ []) in omega arith) in
      let one_more : asks (lists.to_controller ++ ask_for batch ∷ []) ≡ grants stands.taken + 1 =
      (let e = equal in omega arith) in
      record {
        splits = ap (λ ms. stands.taken ++ ms) stands.held ∙ stands.law.splits;
        asked = record {
          rest = map ask_for batches ++ Drained ∷ [];
          joins = append_assoc lists.to_controller (ask_for batch ∷ []) (map ask_for batches ++ Drained ∷ [])
              ∙ ap (λ ms. lists.to_controller ++ ms) (sym whole) ∙ stands.law.asked.joins;
        };
        granted = inr one_more;
        drained = λ up. let no = undrained in absurd (omega arith);
        orders = stands.law.orders;
        stops_last = stands.law.stops_last;
        stops_drained = λ up. let was = stands.law.stops_drained up in omega arith;
        answered = λ j below. append-nil (lists.to_joiner j) ∙ stands.law.answered j below;
        epoch = stands.epoch;
        shift = stands.shift;
        to_come = stands.to_come;
        is_asked = (λ up. one_more, λ more. refl);
        is_drained = rw ds stands.drained;
        is_stopped = stands.stopped;
      }

same_start : (s : FeederState) (bs : List (List Tuple)) → (state_begun s bs).start ≡ s.start
same_start s [] = refl
same_start s (batch ∷ batches) = refl

as_started : (s : FeederState) (bs : List (List Tuple)) → state_begun (record s { spent = true }) bs
    ≡ record (state_begun s bs) { held = s.held; spent = true }
as_started s [] = refl
as_started s (batch ∷ batches) = refl

-- a feeder that isn't waiting, sends its next request and then takes the held messages up to the first that it can't
-- take stands for its lists with these posts at their ends
pub begins : (s new : FeederState) (before middle after : List Post) → s.asked ≡ false → s.drained ≡ false
    → middle ≡ before ++ to_controller (next_request s.to_come) ∷ []
    → Advances (state_begun (record s { spent = true }) s.to_come) new middle after → IsStuck new
    → Begins s (record new { spent = false }) before after
begins s new before middle after asked drained request go stuck =
    let first = to_controller (next_request s.to_come) ∷ [] in
    let start = same_start (record s { spent = true }) s.to_come in
    let started = state_begun s s.to_come in
    record {
      start = go.start ∙ start;
      added = first ++ go.added;
      sends = go.sends ∙ ap (λ posts. posts ++ go.added) request ∙ append_assoc before first go.added;
      state = whole_state started new s.held go.added stuck
          (ap (λ x. after_held x x.held) (sym (as_started s s.to_come)) ∙ go.state);
      posts = ap (λ posts. to_controller (next_request s.to_come) ∷ posts)
          (whole_posts started new s.held go.added stuck (ap (λ x. posts_of_held x x.held)
          (sym (as_started s s.to_come)) ∙ go.posts));
      asks_next = joined-controller first go.added ∙ ap (λ ms. next_request s.to_come ∷ ms) go.asks_nothing;
      over = λ p feeders low. All-append (GoesOver s.start.k feeders (Feeder p)) first go.added
          (request-over s.start.k p feeders low (next_request s.to_come))
          (subst (λ (from : FeederStart). AllGoOver from.k feeders (Feeder p) go.added) start (go.over p feeders low));
      stands = λ own lists stands.
          let stood = as_own s own lists stands in
          let gone = go.goes (with_sent lists first) stood.taken (begun s lists stood asked drained s.to_come refl) in
          subst (λ (from : FeederStart). StandsFor from (with_sent lists (first ++ go.added))
          (record new { spent = false })) (go.start ∙ start ∙ stands.began)
          (is_standing new (with_sent lists (first ++ go.added)) gone.taken false
          (sent_on new lists first go.added gone.taken gone.goes) stuck);
    }
