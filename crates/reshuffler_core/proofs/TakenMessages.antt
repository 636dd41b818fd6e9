-- A message that can be taken is taken as the law says.
use Rattle.std.proofs.Common.{◌≡◌, ℕ, zero, suc, ◌+◌, ◌^◌, ◌<◌, ◌↔◌, inl, refl, sym, ◌∙◌, ap, arith, Bool, true, false}
use Rattle.std.proofs.Common.{List, [], ◌∷◌, ◌++◌, drop, length, length-append, append_assoc, add-one}
use Rattle.std.proofs.lemmas.List.{append-nil, drop-drop}
use Rattle.std.proofs.Math.Seq.{drop-nil}
use Rattle.std.proofs.lemmas.Bool.{false≢true}
use Rattle.row_cells.specs.Lists.{counting_from}
use Rattle.row_cells.proofs.RisingNumbers.{counting-more}
use Rattle.epoch_tags.specs.declared.tuple.Tuple.{Tuple}
use Rattle.epoch_tags.specs.declared.message.ToJoiner.TheVariants.{Turn, End}
use Rattle.epoch_tags.specs.declared.message.ToFeeder.{ToFeeder}
use Rattle.epoch_tags.specs.declared.message.ToFeeder.TheVariants.{Order, Grant, Stop}
use Rattle.epoch_tags.specs.Messages.{order_epochs, grants, stops, asks}
use Rattle.epoch_tags.specs.Orders.{StopsLast}
use Rattle.epoch_tags.specs.Posts.{posted_to_joiner, posted_to_controller}
use Rattle.epoch_tags.proofs.Appends.{order_epochs-append, grants-append, stops-append}
use Rattle.reshuffler_core.specs.Law.{FeederLists, answers, shift_now, copies_for}
use Rattle.reshuffler_core.specs.Standing.{FeederState, with_sent, state_after, posts_for, posts_of_batch, first_batch}
use Rattle.reshuffler_core.specs.Machine.{Takes, Goes}
use Rattle.reshuffler_core.proofs.FeederPosts.{all-joiner, batch-joiner, all-controller, batch-controller}

-- ---- what it answers, message after message

epoch_now : ℕ → List ToFeeder → ℕ
epoch_now e [] = e
epoch_now e (Order epoch shift ∷ ms) = epoch_now epoch ms
epoch_now e (Grant ∷ ms) = epoch_now e ms
epoch_now e (Stop ∷ ms) = epoch_now e ms

epoch_now-is : (e : ℕ) (ms : List ToFeeder) → order_epochs ms ≡ counting_from (e + 1) (length (order_epochs ms))
    → epoch_now e ms ≡ e + length (order_epochs ms)
unfolding epoch_now
epoch_now-is e [] up = omega arith
epoch_now-is e (Order epoch shift ∷ ms) up =
    let head : epoch ≡ e + 1 = cc in
    let tail : order_epochs ms ≡ counting_from (e + 1 + 1) (length (order_epochs ms)) = cc in
    let more = epoch_now-is epoch ms (rw head tail) in
    omega arith
epoch_now-is e (Grant ∷ ms) up = epoch_now-is e ms up
epoch_now-is e (Stop ∷ ms) up = epoch_now-is e ms up

answers-append : (k j e b : ℕ) (batches : List (List Tuple)) (xs ys : List ToFeeder)
    → answers k j e b batches (xs ++ ys) ≡ answers k j e b batches xs
    ++ answers k j (epoch_now e xs) (shift_now b xs) (drop (grants xs) batches) ys
unfolding epoch_now
answers-append k j e b batches [] ys = refl
answers-append k j e b batches (Order epoch shift ∷ xs) ys =
    ap (λ ms. Turn epoch shift ∷ ms) (answers-append k j epoch shift batches xs ys)
answers-append k j e b [] (Grant ∷ xs) ys =
    let none : drop (grants xs) [] ≡ drop (grants xs + 1) [] =
    drop-nil {A = List Tuple} (grants xs) ∙ sym (drop-nil {A = List Tuple} (grants xs + 1)) in
    answers-append k j e b [] xs ys ∙ ap (λ bs. answers k j e b [] xs
    ++ answers k j (epoch_now e xs) (shift_now b xs) bs ys) none
answers-append k j e b (batch ∷ batches) (Grant ∷ xs) ys =
    ap (λ ms. copies_for k j e b batch ++ ms) (answers-append k j e b batches xs ys)
    ∙ sym (append_assoc (copies_for k j e b batch) (answers k j e b batches xs) _)
    ∙ rw add-one refl
answers-append k j e b batches (Stop ∷ xs) ys = ap (λ ms. End ∷ ms) (answers-append k j e b batches xs ys)

shift_now-append : (b : ℕ) (xs ys : List ToFeeder) → shift_now b (xs ++ ys) ≡ shift_now (shift_now b xs) ys
shift_now-append b [] ys = refl
shift_now-append b (Order epoch shift ∷ xs) ys = shift_now-append shift xs ys
shift_now-append b (Grant ∷ xs) ys = shift_now-append b xs ys
shift_now-append b (Stop ∷ xs) ys = shift_now-append b xs ys

stops_last : (xs : List ToFeeder) (m : ToFeeder) → stops xs ≡ 0 → StopsLast (xs ++ m ∷ [])
stops_last [] (Order epoch shift) none = tt
stops_last [] Grant none = tt
stops_last [] Stop none = refl
stops_last (Order epoch shift ∷ xs) m none = stops_last xs m none
stops_last (Grant ∷ xs) m none = stops_last xs m none
stops_last (Stop ∷ xs) m none = absurd (omega arith)

answer_one : (s : FeederState) (m : ToFeeder) (j : ℕ) → j < 2 ^ s.start.k
    → answers s.start.k j s.epoch s.shift s.to_come (m ∷ []) ≡ posted_to_joiner j (posts_for s m)
answer_one s (Order epoch shift) j below = sym (all-joiner (Turn epoch shift) j (2 ^ s.start.k) below)
answer_one s Grant j below = by_batches s.to_come
  where
    by_batches : (bs : List (List Tuple)) → answers s.start.k j s.epoch s.shift bs (Grant ∷ [])
        ≡ posted_to_joiner j (posts_of_batch s.start.k s.epoch s.shift (first_batch bs))
    by_batches [] = refl
    by_batches (batch ∷ batches) = append-nil (copies_for s.start.k j s.epoch s.shift batch)
        ∙ sym (batch-joiner s.start.k s.epoch s.shift j batch below)
answer_one s Stop j below = sym (all-joiner End j (2 ^ s.start.k) below)

-- whatever message a feeder takes, it sends the controller nothing for it
pub nothing_asked : (s : FeederState) (m : ToFeeder) → posted_to_controller (posts_for s m) ≡ []
nothing_asked s (Order epoch shift) = all-controller (Turn epoch shift) (2 ^ s.start.k)
nothing_asked s Grant = batch-controller s.start.k s.epoch s.shift (first_batch s.to_come)
nothing_asked s Stop = all-controller End (2 ^ s.start.k)

-- ---- the message taken

-- where a flag is up just if there are some, and it is down, there are none
pub none_stopped : (b : Bool) (n : ℕ) → b ≡ false → (b ≡ true ↔ (0 < n)) → n ≡ 0
none_stopped b zero is both = refl
none_stopped b (suc n) is both = absurd (false≢true (sym is ∙ both.1 (omega arith)))

module _ (s : FeederState) (rest : List ToFeeder) (lists : FeederLists) (taken : List ToFeeder)
    (g : Goes s lists taken) where
  answered : (m : ToFeeder) (j : ℕ) → j < 2 ^ s.start.k
      → lists.to_joiner j ++ posted_to_joiner j (posts_for s m)
      ≡ answers s.start.k j s.start.epoch s.start.shift s.start.batches (taken ++ m ∷ [])
  answered m j below =
      let now : epoch_now s.start.epoch taken ≡ s.epoch = epoch_now-is s.start.epoch taken g.orders ∙ sym g.epoch in
      sym (answers-append s.start.k j s.start.epoch s.start.shift s.start.batches taken (m ∷ [])
      ∙ ap (λ ms. ms ++ answers s.start.k j (epoch_now s.start.epoch taken) (shift_now s.start.shift taken)
      (drop (grants taken) s.start.batches) (m ∷ [])) (sym (g.answered j below))
      ∙ ap (λ ms. lists.to_joiner j ++ ms) (rw (now, ← g.shift, ← g.to_come) (answer_one s m j below)))

  splits : (m : ToFeeder) → s.held ≡ m ∷ rest → (taken ++ m ∷ []) ++ rest ≡ lists.received
  splits m held = append_assoc taken (m ∷ []) rest ∙ ap (λ ms. taken ++ ms) (sym held) ∙ g.splits

  whole : (m : ToFeeder) → lists.to_controller ++ posted_to_controller (posts_for s m) ≡ lists.to_controller
  whole m = ap (λ ms. lists.to_controller ++ ms) (nothing_asked s m) ∙ append-nil lists.to_controller

  -- the first that is held can be taken: so the machine that took it goes on
  pub took : (m : ToFeeder) → s.held ≡ m ∷ rest → Takes s m
      → Goes (state_after (record s { held = rest }) m) (with_sent lists (posts_for s m)) (taken ++ m ∷ [])
  took (Order epoch shift) held can =
      let m = Order epoch shift in
      let stays = whole m in
      let gs = grants-append taken (m ∷ []) in
      let ss = stops-append taken (m ∷ []) in
      let os = order_epochs-append taken (m ∷ []) in
      let same_grants : grants (taken ++ m ∷ []) ≡ grants taken = omega arith in
      let same_stops : stops (taken ++ m ∷ []) ≡ stops taken = omega arith in
      let n = length (order_epochs taken) in
      let one_more : length (order_epochs (taken ++ m ∷ [])) ≡ n + 1 =
      ap length os ∙ length-append (order_epochs taken) (epoch ∷ []) in
      let next : epoch ≡ s.start.epoch + 1 + n = let at = can.0 in let e = g.epoch in omega arith in
      record {
        splits = splits m held;
        asked = rw stays g.asked;
        granted = rw (stays, same_grants) g.granted;
        drained = rw (stays, same_grants) g.drained;
        orders = os ∙ ap (λ es. es ++ epoch ∷ []) g.orders ∙ ap (λ e. counting_from (s.start.epoch + 1) n ++ e ∷ [])
            next ∙ sym (counting-more (s.start.epoch + 1) n) ∙ ap (counting_from (s.start.epoch + 1)) (sym one_more);
        stops_last = stops_last taken m (none_stopped s.stopped (stops taken) can.2 g.is_stopped);
        stops_drained = rw (stays, same_stops) g.stops_drained;
        answered = answered m;
        epoch = let at = can.0 in let e = g.epoch in omega arith;
        shift = sym (shift_now-append s.start.shift taken (m ∷ []));
        to_come = rw same_grants g.to_come;
        is_asked = rw (stays, same_grants) g.is_asked;
        is_drained = rw stays g.is_drained;
        is_stopped = rw same_stops g.is_stopped;
      }
  took Grant held can =
      let stays = whole Grant in
      let gs = grants-append taken (Grant ∷ []) in
      let ss = stops-append taken (Grant ∷ []) in
      let os : order_epochs (taken ++ Grant ∷ []) ≡ order_epochs taken =
      order_epochs-append taken (Grant ∷ []) ∙ append-nil (order_epochs taken) in
      let one_more : grants (taken ++ Grant ∷ []) ≡ grants taken + 1 = omega arith in
      let same_stops : stops (taken ++ Grant ∷ []) ≡ stops taken = omega arith in
      let given : asks lists.to_controller ≡ grants taken + 1 = g.is_asked.0 can in
      let unstopped : stops taken ≡ 0 = not_stopped in
      record {
        splits = splits Grant held;
        asked = rw stays g.asked;
        granted = inl (rw (stays, one_more) given);
        drained = rw (stays, one_more) (λ some. given);
        orders = rw os g.orders;
        stops_last = stops_last taken Grant unstopped;
        stops_drained = rw (stays, same_stops) g.stops_drained;
        answered = answered Grant;
        epoch = rw os g.epoch;
        shift = g.shift ∙ sym (shift_now-append s.start.shift taken (Grant ∷ []));
        to_come = ap (drop 1) g.to_come ∙ drop-drop 1 (grants taken) s.start.batches
            ∙ ap (λ n. drop n s.start.batches) (sym one_more);
        is_asked = rw (stays, one_more) (λ no. absurd (false≢true no), λ more. absurd (omega arith));
        is_drained = rw stays g.is_drained;
        is_stopped = rw same_stops g.is_stopped;
      }
    where
      not_stopped : stops taken ≡ 0
      not_stopped = by_count (stops taken) refl
        where
          by_count : (n : ℕ) → stops taken ≡ n → n ≡ 0
          by_count zero is = refl
          by_count (suc n) is = let even = g.drained (g.stops_drained (omega arith)) in let odd = g.is_asked.0 can in
              absurd (omega arith)
  took Stop held can =
      let stays = whole Stop in
      let gs = grants-append taken (Stop ∷ []) in
      let ss = stops-append taken (Stop ∷ []) in
      let os : order_epochs (taken ++ Stop ∷ []) ≡ order_epochs taken =
      order_epochs-append taken (Stop ∷ []) ∙ append-nil (order_epochs taken) in
      let same_grants : grants (taken ++ Stop ∷ []) ≡ grants taken = omega arith in
      let one_more : 0 < stops (taken ++ Stop ∷ []) = omega arith in
      record {
        splits = splits Stop held;
        asked = rw stays g.asked;
        granted = rw (stays, same_grants) g.granted;
        drained = rw (stays, same_grants) g.drained;
        orders = rw os g.orders;
        stops_last = stops_last taken Stop (none_stopped s.stopped (stops taken) can.1 g.is_stopped);
        stops_drained = rw stays (λ some. g.is_drained.0 can.0);
        answered = answered Stop;
        epoch = rw os g.epoch;
        shift = g.shift ∙ sym (shift_now-append s.start.shift taken (Stop ∷ []));
        to_come = rw same_grants g.to_come;
        is_asked = rw (stays, same_grants) g.is_asked;
        is_drained = rw stays g.is_drained;
        is_stopped = (λ yes'. one_more, λ some. refl);
      }
