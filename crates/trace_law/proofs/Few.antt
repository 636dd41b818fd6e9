-- An agreeing family has few events: one bound for each kind of link, and their sum.
use Rattle.std.proofs.Common.{◌≡◌, ℕ, zero, suc, ◌+◌, ◌-◌, ◌*◌, ◌^◌, ◌<◌, ◌≤◌, ◌⊎◌, inl, inr, refl, sym, ◌∙◌, ap, subst}
use Rattle.std.proofs.Common.{arith, List, [], ◌∷◌, ◌++◌, length, length-append, append_assoc}
use Rattle.std.specs.Prelude.{map, filter, sum_by, reverse, ◌/◌}
use Rattle.std.proofs.lemmas.Bool.{cases_eq}
use Rattle.std.proofs.lemmas.Nat.{pow_pos}
use Rattle.std.proofs.lemmas.List.{length-map, reverse-append, reverse-reverse}
use Rattle.std.proofs.lemmas.List.FromFn.{length-map-range_with_len}
use Rattle.row_cells.specs.declared.table.Side.TheVariants.{R, S}
use Rattle.row_cells.specs.Lists.{total, counting_from}
use Rattle.row_cells.proofs.Totals.{total_le, total_same, total-add, total-const, length-gather, greatest_above}
use Rattle.row_cells.proofs.Totals.{length_sum, front_length, filter_fewer, total_swap, only_one, total_most}
use Rattle.row_cells.proofs.Totals.{greatest_most}
use Rattle.row_cells.proofs.RisingNumbers.{length-counting_from}
use Rattle.epoch_tags.specs.declared.message.ToController.{ToController}
use Rattle.epoch_tags.specs.declared.message.ToController.TheVariants.{Settled}
use Rattle.epoch_tags.specs.declared.message.ToCollector.TheVariants.{Found}
use Rattle.epoch_tags.specs.Messages.{order_epochs, asks, moved_of, moved_ends, turns}
use Rattle.epoch_tags.proofs.Appends.{order_epochs-append, asks-append, turns-append, parts_to_feeder, one_stop}
use Rattle.migration_plan.specs.Steps.{is_of}
use Rattle.reshuffler_core.specs.Law.{requests, ask_for}
use Rattle.reshuffler_core.proofs.TakesAll.{answers_turns}
use Rattle.load_controller.specs.declared.line.TurnLine.{TurnLine}
use Rattle.load_controller.specs.Journal.{begun, last_epoch}
use Rattle.load_controller.specs.Law.{AreCounted, sent_by}
use Rattle.load_controller.proofs.Counted.{HaveLines}
use Rattle.load_controller.proofs.Sends.{sends_grants, stops_last}
use Rattle.joiner_law.specs.Law.{JoinerStart, Taken, opened, partner_of, AllTurned, store, exchanged}
use Rattle.trace_law.specs.declared.input.Input.{Input}
use Rattle.trace_law.specs.Join.{row_count}
use Rattle.trace_law.specs.declared.setting.Setting.{Setting}
use Rattle.trace_law.specs.Validity.{IsValid}
use Rattle.trace_law.specs.Family.{Rest, IsRestFor, Family, IsAgreeing, migrations, aged, own_rows, events}
use Rattle.trace_law.specs.Family.{feeder_start, joiner_start, rules_of, batches}
use Rattle.trace_law.proofs.Arrivals.{front_of}
use Rattle.trace_law.proofs.Lines.{came}
use Rattle.trace_law.proofs.Shares.{of_batches, own_total, new_count}
use Rattle.trace_law.proofs.Steps.{steps, orders_sent}
use Rattle.trace_law.proofs.Loop.{known_within}
use Rattle.row_cells.proofs.Within.{filtered_within}
use Rattle.trace_law.proofs.Stores.{is_stored}
use Rattle.trace_law.proofs.AtMost.{b, all, stores_at_most}
use Rattle.trace_law.proofs.Events.{all_within, by_epochs, few_pieces}
use Rattle.row_cells.proofs.Bags.{sum-same}
use Rattle.trace_law.proofs.Lawful.{lines_of}
use Rattle.load_controller.proofs.Shifts.{last_is}
use Rattle.reshuffler_core.proofs.Sizes.{asks_for_batches, answers_are_few}

module _ (n p : ℕ) where
  -- the sum of all bounds, in numbers: n rows, p feeders, j joiners, l migrations
  sum_of_bounds : (j l feeders joiners ends nb received moved : ℕ) → 0 < j → nb ≤ n
      → feeders ≤ 3 * nb + p * (l + 3) → received ≤ j * (p * (l + 1) + n) → moved ≤ j * (l * (n + 1))
      → joiners ≤ received + moved → ends ≤ j * l + (received + moved) + j
      → feeders + joiners + ends ≤ 8 * (n + p + 2) * j * (l + 2)
  sum_of_bounds zero l feeders joiners ends nb received moved some = λ a b c d e f. absurd (omega arith)
  sum_of_bounds (suc j) l feeders joiners ends nb received moved some = λ a b c d e f. omega arith

module _ (input : Input) (setting : Setting) (rest : Rest) (f : Family) (agrees : IsAgreeing input setting rest f)
    (valid : IsValid input setting) (stands : IsRestFor input setting rest) where
  abbrev line : TurnLine
  line = agrees.controller.line

  abbrev past : List TurnLine
  past = agrees.controller.past

  abbrev last : ℕ
  last = steps input setting rest f agrees

  abbrev rows : ℕ
  rows = row_count input R + row_count input S

  abbrev joiners : ℕ
  joiners = 2 ^ setting.k

  abbrev pieces : ℕ → ℕ
  pieces p = length (batches input setting rest.line p)

  abbrev share_size : ℕ → ℕ
  share_size p = length (own_rows input setting rest.line p)

  have : (p : ℕ) → p < setting.feeders → HaveLines p (line ∷ past) (f.controller.from_feeder p)
  have p low = lines_of input setting valid rest stands f agrees p low

  -- ---- sizes

  all_own : total setting.feeders share_size + (rest.line.rows_r + rest.line.rows_s) ≡ rows
  all_own =
      let a =
      total_same setting.feeders share_size (λ p. sum_by (λ place. 1) (own_rows input setting rest.line p))
      (λ p low. length_sum (own_rows input setting rest.line p)) in
      let c = own_total input setting valid.some valid.batch rest (λ place. 1) in
      let r = new_count rest.line.rows_r (row_count input R) stands.line.within_r in
      let s = new_count rest.line.rows_s (row_count input S) stands.line.within_s in
      omega arith

  few_batches : total setting.feeders pieces ≤ rows
  few_batches =
      let less = total_le setting.feeders pieces share_size each in omega (arith, all_own)
    where
      each : (p : ℕ) → p < setting.feeders → pieces p ≤ share_size p
      each p low =
          let n = share_size p in
          let is : pieces p ≡ (n + setting.batch - 1) / setting.batch =
          length-map-range_with_len
          (λ i.
          Rattle.std.specs.Prelude.take setting.batch
          (Rattle.std.specs.Prelude.drop (i * setting.batch) (own_rows input setting rest.line p))) 0
          ((n + setting.batch - 1) / setting.batch) in
          let few = few_pieces n setting.batch valid.batch in
          omega arith

  -- the tuples of a feeder's batches are its share
  tuples_are : (p : ℕ) → sum_by (λ b. length b) (feeder_start input setting rest p).batches ≡ share_size p
  tuples_are p =
      Rattle.row_cells.proofs.Bags.sum-same (λ b. length b) (λ b. sum_by (λ t. 1) b) (λ b. length_sum b)
      (feeder_start input setting rest p).batches
      ∙ of_batches input setting valid.some valid.batch rest (λ t. 1) p
      ∙ sym (length_sum (own_rows input setting rest.line p))

  -- ---- feeders

  requests_are : (p : ℕ) → length (requests (feeder_start input setting rest p)) ≡ pieces p + 1
  requests_are p =
      let bs = (feeder_start input setting rest p).batches in
      let a =
      length-append (map ask_for bs)
      (Rattle.epoch_tags.specs.declared.message.ToController.TheVariants.Drained ∷ []) in
      let c = length-map bs ask_for in
      let d =
      length-map (batches input setting rest.line p)
      (λ batch. map (Rattle.trace_law.specs.Family.tuple_of input 0) batch) in
      omega arith

  counted : (q : ℕ) → q < setting.feeders → (ms : List ToController) × AreCounted q (line ∷ past) ms
  counted q low = let c = agrees.controller.counts q low in (c.counted, c.are_counted)

  few_orders : (p : ℕ) → p < setting.feeders → length (order_epochs (agrees.taken_by_feeder p)) ≤ last
  few_orders p low =
      let law = agrees.feeders p low in
      let link = agrees.controller_feeder p low in
      let is = orders_sent input setting rest f agrees p in
      let whole : agrees.taken_by_feeder p ++ (law.held ++ link.rest) ≡ sent_by (rules_of setting) p (line ∷ past) =
      sym (append_assoc (agrees.taken_by_feeder p) law.held link.rest) ∙ ap (λ ms. ms ++ link.rest) law.splits
      ∙ link.joins ∙ agrees.controller.sends p low in
      let e =
      ap length
      (sym (order_epochs-append (agrees.taken_by_feeder p) (law.held ++ link.rest)) ∙ ap order_epochs whole ∙ is) in
      let parts = length-append (order_epochs (agrees.taken_by_feeder p)) (order_epochs (law.held ++ link.rest)) in
      let size = length-counting_from (rest.line.epoch + 1) last in
      omega arith

  of_feeder : (p : ℕ) → p < setting.feeders
      → length (f.feeder p).to_controller + length (f.feeder p).received + length (f.controller.from_feeder p)
      ≤ 3 * pieces p + (last + 3)
  of_feeder p low =
      let law = agrees.feeders p low in
      let asked = front_length (f.feeder p).to_controller (requests (feeder_start input setting rest p)) law.asked in
      let size = requests_are p in
      let came_to =
      front_length (f.controller.from_feeder p) (f.feeder p).to_controller (agrees.feeder_controller p low) in
      let received = front_length (f.feeder p).received (f.controller.to_feeder p) (agrees.controller_feeder p low) in
      let sent = ap length (agrees.controller.sends p low) in
      let parts = parts_to_feeder (sent_by (rules_of setting) p (line ∷ past)) in
      let orders = ap length (orders_sent input setting rest f agrees p) in
      let orders_are = length-counting_from (rest.line.epoch + 1) last in
      let grants_are = sends_grants (rules_of setting) p (line ∷ past) in
      let stop =
      one_stop (sent_by (rules_of setting) p (line ∷ past))
      (stops_last (rules_of setting) (begun rest.line) line past p agrees.controller.follows counted) in
      let front = came input setting rest f agrees p low in
      let asks_front = asks-append (f.controller.from_feeder p) front.rest in
      let asks_whole = ap asks front.joins in
      let asks_are = asks_for_batches (feeder_start input setting rest p).batches in
      let pieces_are =
      length-map (batches input setting rest.line p)
      (λ batch. map (Rattle.trace_law.specs.Family.tuple_of input 0) batch) in
      let lines = (have p low).counts in
      omega arith

  of_feeders : total setting.feeders
      (λ p. length (f.feeder p).to_controller + length (f.feeder p).received + length (f.controller.from_feeder p))
      ≤ 3 * total setting.feeders pieces + setting.feeders * (last + 3)
  of_feeders =
      let a =
      total_le setting.feeders
      (λ p. length (f.feeder p).to_controller + length (f.feeder p).received + length (f.controller.from_feeder p))
      (λ p. 3 * pieces p + (last + 3)) of_feeder in
      let c = total-add setting.feeders (λ p. 3 * pieces p) (λ p. last + 3) in
      let d = total-const setting.feeders (last + 3) in
      let e = times 3 setting.feeders pieces in
      omega arith
    where
      times : (c n : ℕ) (g : ℕ → ℕ) → total n (λ i. c * g i) ≡ c * total n g
      times c zero g = omega arith
      times c (suc n) g = let more = times c n g in omega arith

  -- ---- joiners, of feeders

  joiner_of_feeder : (j : ℕ) → j < joiners → (p : ℕ) → p < setting.feeders
      → length ((f.joiner j).from_feeder p) ≤ share_size p + (last + 1)
  joiner_of_feeder j h p low =
      let law = agrees.feeders p low in
      let received =
      front_length ((f.joiner j).from_feeder p) ((f.feeder p).to_joiner j) (agrees.feeder_joiner p j low h) in
      let is = ap length (law.answered j h) in
      let few =
      answers_are_few setting.k j rest.line.epoch rest.line.shift (feeder_start input setting rest p).batches
      (agrees.taken_by_feeder p) in
      let orders = few_orders p low in
      let stop = one_stop (agrees.taken_by_feeder p) law.stops_last in
      let size = tuples_are p in
      omega arith

  joiner_of_feeders : (j : ℕ) → j < joiners
      → total setting.feeders (λ p. length ((f.joiner j).from_feeder p)) ≤ setting.feeders * (last + 1) + rows
  joiner_of_feeders j h =
      let a =
      total_le setting.feeders (λ p. length ((f.joiner j).from_feeder p)) (λ p. share_size p + (last + 1))
      (joiner_of_feeder j h) in
      let c = total-add setting.feeders share_size (λ p. last + 1) in
      let d = total-const setting.feeders (last + 1) in
      omega (arith, all_own)

  -- ---- joiners, of joiners

  abbrev start : ℕ → JoinerStart
  start j = joiner_start input setting rest j

  abbrev took : ℕ → Taken
  took j = agrees.taken_by_joiner j

  opened_last : (j : ℕ) → j < joiners → opened (start j) (took j) ≤ last
  opened_last j h = greatest_most setting.feeders last (λ p. turns ((took j).from_feeder p)) few
    where
      few : (p : ℕ) → p < setting.feeders → turns ((took j).from_feeder p) ≤ last
      few p low =
          let front =
          front_of input setting rest f agrees (b input setting valid rest stands f agrees)
          (Rattle.trace_law.proofs.Journals.feeders_go input setting rest f agrees)
          (Rattle.trace_law.proofs.Journals.begins input setting rest f agrees) j p h low in
          let parts = turns-append ((took j).from_feeder p) front.0 in
          let is = ap turns front.1 in
          let turns_are =
          answers_turns setting.k j rest.line.epoch rest.line.shift (feeder_start input setting rest p).batches
          (agrees.taken_by_feeder p) in
          let orders = few_orders p low in
          omega arith

  turned_opened : (j n : ℕ) → AllTurned (start j) (took j) n → n < opened (start j) (took j)
  turned_opened j n turned =
      omega
      (arith, turned 0 valid.some, greatest_above setting.feeders (λ p. turns ((took j).from_feeder p)) 0 valid.some)

  few_rows : (n j : ℕ) (h : j < joiners) → n ≤ opened (start j) (took j) → length (store (start j) (took j) n) ≤ rows
  few_rows n j h low =
      let everything = all input setting valid rest stands f agrees in
      let e = rest.line.epoch + n in
      let test = is_stored setting.k (b input setting valid rest stands f agrees e) e j in
      let its = store (start j) (took j) n in
      let within = (stores_at_most input setting valid rest stands f agrees n j h low).sums (λ t. 1) in
      let a = length_sum (map (aged rest.line) its) in
      let size = length-map its (aged rest.line) in
      let fewer = (filtered_within test everything).sums (λ t. 1) in
      let known = known_within input setting valid rest agrees.taken_by_feeder (λ t. 1) (λ e t. refl) in
      let r = total-const (row_count input R) 1 in
      let s = total-const (row_count input S) 1 in
      omega arith

  -- in each step at most all rows, to one partner
  in_step : (i : ℕ) (h : i < joiners) (n : ℕ)
      → total joiners
      (λ j. length (moved_of (rest.line.epoch + n + 1) ((f.joiner i).to_joiner j))
      + moved_ends (rest.line.epoch + n + 1) ((f.joiner i).to_joiner j)) ≤ rows + 1
  in_step i h n =
      only_one joiners (partner_of (start i) (took i) n) (rows + 1)
      (λ j. length (moved_of (rest.line.epoch + n + 1) ((f.joiner i).to_joiner j))
      + moved_ends (rest.line.epoch + n + 1) ((f.joiner i).to_joiner j)) others (λ low. mine)
    where
      moved_at : (j : ℕ) → 0 < length (moved_of (rest.line.epoch + n + 1) ((f.joiner i).to_joiner j))
          → (n < opened (start i) (took i)) × (j ≡ partner_of (start i) (took i) n)
      moved_at j has =
          let r = (agrees.joiners i h).moved_only j (rest.line.epoch + n + 1) has in
          let same : r.0 ≡ n = omega (arith, r.1) in (
            subst (λ m. m < opened (start i) (took i)) same r.2,
            subst (λ m. j ≡ partner_of (start i) (took i) m) same r.3,
          )

      ended_at : (j : ℕ) → 0 < moved_ends (rest.line.epoch + n + 1) ((f.joiner i).to_joiner j)
          → AllTurned (start i) (took i) n × (j ≡ partner_of (start i) (took i) n)
      ended_at j has =
          let r = (agrees.joiners i h).ended_only j (rest.line.epoch + n + 1) has in
          let same : r.0 ≡ n = omega (arith, r.1) in (
            subst (λ m. AllTurned (start i) (took i) m) same r.2,
            subst (λ m. j ≡ partner_of (start i) (took i) m) same r.3,
          )

      others : (j : ℕ) → j < joiners → (j ≡ partner_of (start i) (took i) n → ⊥)
          → length (moved_of (rest.line.epoch + n + 1) ((f.joiner i).to_joiner j))
          + moved_ends (rest.line.epoch + n + 1) ((f.joiner i).to_joiner j) ≡ 0
      others j low differs =
          let a : length (moved_of (rest.line.epoch + n + 1) ((f.joiner i).to_joiner j)) ≡ 0 =
          elim (cases_eq (length (moved_of (rest.line.epoch + n + 1) ((f.joiner i).to_joiner j))) 0)
          [ inl is ↦ is | inr some ↦ absurd (differs (moved_at j (omega arith)).1) ] in
          let c : moved_ends (rest.line.epoch + n + 1) ((f.joiner i).to_joiner j) ≡ 0 =
          elim (cases_eq (moved_ends (rest.line.epoch + n + 1) ((f.joiner i).to_joiner j)) 0)
          [ inl is ↦ is | inr some ↦ absurd (differs (ended_at j (omega arith)).1) ] in
          omega arith

      few_moved : length (moved_of (rest.line.epoch + n + 1) ((f.joiner i).to_joiner (partner_of (start i) (took i) n)))
          ≤ rows
      few_moved =
          elim
          (cases_eq
          (length (moved_of (rest.line.epoch + n + 1) ((f.joiner i).to_joiner (partner_of (start i) (took i) n)))) 0) [
            | inl is ↦ omega arith
            | inr some ↦
                let low = (moved_at (partner_of (start i) (took i) n) (omega arith)).0 in
                let bag = ((agrees.joiners i h).moved n low).sums (λ t. 1) in
                let kept = filter (is_of (exchanged (start i) (took i) n)) (store (start i) (took i) n) in
                let x =
                length_sum
                (moved_of (rest.line.epoch + n + 1) ((f.joiner i).to_joiner (partner_of (start i) (took i) n))) in
                let y = length_sum kept in
                let z = filter_fewer (is_of (exchanged (start i) (took i) n)) (store (start i) (took i) n) in
                let w = few_rows n i h (omega arith) in
                omega arith
          ]

      few_ends : moved_ends (rest.line.epoch + n + 1) ((f.joiner i).to_joiner (partner_of (start i) (took i) n)) ≤ 1
      few_ends =
          elim
          (cases_eq
          (moved_ends (rest.line.epoch + n + 1) ((f.joiner i).to_joiner (partner_of (start i) (took i) n))) 0) [
            | inl is ↦ omega arith
            | inr some ↦
                let turned = (ended_at (partner_of (start i) (took i) n) (omega arith)).0 in
                let one = (agrees.joiners i h).ended n turned in
                omega arith
          ]

      mine : length (moved_of (rest.line.epoch + n + 1) ((f.joiner i).to_joiner (partner_of (start i) (took i) n)))
          + moved_ends (rest.line.epoch + n + 1) ((f.joiner i).to_joiner (partner_of (start i) (took i) n)) ≤ rows + 1
      mine = omega (arith, few_moved, few_ends)

  sent_by_joiner : (i : ℕ) (h : i < joiners)
      → total joiners (λ j. length ((f.joiner i).to_joiner j)) ≤ last * (rows + 1)
  sent_by_joiner i h =
      let parts =
      total_same joiners (λ j. length ((f.joiner i).to_joiner j))
      (λ j.
      total last
      (λ n. length (moved_of (rest.line.epoch + n + 1) ((f.joiner i).to_joiner j))
      + moved_ends (rest.line.epoch + n + 1) ((f.joiner i).to_joiner j)))
      (λ j low.
      by_epochs rest.line.epoch last ((f.joiner i).to_joiner j)
      (all_within rest.line.epoch last rest.line.epoch [] ((f.joiner i).to_joiner j)
      ((agrees.joiners i h).never_falls j) (epochs j))) in
      let swap =
      total_swap joiners last
      (λ j n. length (moved_of (rest.line.epoch + n + 1) ((f.joiner i).to_joiner j))
      + moved_ends (rest.line.epoch + n + 1) ((f.joiner i).to_joiner j)) in
      let most =
      total_most last (rows + 1)
      (λ n.
      total joiners
      (λ j. length (moved_of (rest.line.epoch + n + 1) ((f.joiner i).to_joiner j))
      + moved_ends (rest.line.epoch + n + 1) ((f.joiner i).to_joiner j))) (λ n low. in_step i h n) in
      omega arith
    where
      epochs : (j e : ℕ)
          → (0 < length (moved_of e ((f.joiner i).to_joiner j))) ⊎ (0 < moved_ends e ((f.joiner i).to_joiner j))
          → (rest.line.epoch < e) × (e ≤ rest.line.epoch + last)
      epochs j e (inl has) = let r = (agrees.joiners i h).moved_only j e has in
          (omega (arith, r.1), omega (arith, r.1, r.2, opened_last i h))
      epochs j e (inr has) = let r = (agrees.joiners i h).ended_only j e has in
          (omega (arith, r.1), omega (arith, r.1, turned_opened i r.0 r.2, opened_last i h))

  -- ---- what joiners told

  few_settled : (j : ℕ) (h : j < joiners) → length (f.controller.from_joiner j) ≤ last
  few_settled j h =
      let law = agrees.joiners j h in
      let came_to =
      front_length (f.controller.from_joiner j) (f.joiner j).to_controller (agrees.joiner_controller j h) in
      let is = ap length law.told in
      let a = length-map (counting_from (rest.line.epoch + 1) law.done) (λ e. Settled e) in
      let c = length-counting_from (rest.line.epoch + 1) law.done in
      let low = by_done law.done (λ n l. turned_opened j n (law.settled n l).0) in
      omega (arith, opened_last j h)
    where
      by_done : (d : ℕ) → ((n : ℕ) → n < d → n < opened (start j) (took j)) → d ≤ opened (start j) (took j)
      by_done zero below = omega arith
      by_done (suc d) below = let one = below d (omega arith) in omega arith

  abbrev joiner_received : ℕ → ℕ
  joiner_received j =
      total setting.feeders (λ p. length ((f.joiner j).from_feeder p))
      + total joiners (λ i. length ((f.joiner j).from_joiner i))

  few_found : (j : ℕ) (h : j < joiners) → length (f.collector.from_joiner j) ≤ joiner_received j + 1
  few_found j h =
      let law = agrees.joiners j h in
      let came_to = front_length (f.collector.from_joiner j) (f.joiner j).to_collector (agrees.joiner_collector j h) in
      let is = ap length law.to_collector in
      let parts = length-append (map (λ ps. Found ps) law.founds) law.fins in
      let a = length-map law.founds (λ ps. Found ps) in
      let few = law.few_founds in
      let x = length-gather setting.feeders (f.joiner j).from_feeder in
      let y = length-gather joiners (f.joiner j).from_joiner in
      let one : length law.fins ≤ 1 =
      elim law.fin_last [
        | inl none ↦
            (let e = ap length none in omega arith)
        | inr last_one ↦ (let e = ap length last_one.0 in omega arith)
      ] in
      omega arith

  -- ---- all together

  abbrev all_of_feeders : ℕ
  all_of_feeders = total joiners (λ j. total setting.feeders (λ p. length ((f.joiner j).from_feeder p)))

  abbrev all_of_joiners : ℕ
  all_of_joiners = total joiners (λ j. total joiners (λ i. length ((f.joiner j).from_joiner i)))

  few_of_feeders : all_of_feeders ≤ joiners * (setting.feeders * (last + 1) + rows)
  few_of_feeders =
      total_most joiners (setting.feeders * (last + 1) + rows)
      (λ j. total setting.feeders (λ p. length ((f.joiner j).from_feeder p))) joiner_of_feeders

  few_of_joiners : all_of_joiners ≤ joiners * (last * (rows + 1))
  few_of_joiners =
      let swap = total_swap joiners joiners (λ j i. length ((f.joiner j).from_joiner i)) in
      let most = total_most joiners (last * (rows + 1)) (λ i. total joiners (λ j. length ((f.joiner j).from_joiner i)))
      (λ i h.
      let less =
      total_le joiners (λ j. length ((f.joiner j).from_joiner i)) (λ j. length ((f.joiner i).to_joiner j))
      (λ j h'. front_length ((f.joiner j).from_joiner i) ((f.joiner i).to_joiner j) (agrees.joiner_joiner i j h h'))
      in
      let few = sent_by_joiner i h in omega arith) in
      omega arith

  few_ends_of : total joiners (λ j. length (f.controller.from_joiner j) + length (f.collector.from_joiner j))
      ≤ joiners * last + (all_of_feeders + all_of_joiners) + joiners
  few_ends_of =
      let a =
      total_le joiners (λ j. length (f.controller.from_joiner j) + length (f.collector.from_joiner j))
      (λ j. last + 1 + joiner_received j) (λ j h. let x = few_settled j h in let y = few_found j h in omega arith)
      in
      let c = total-add joiners (λ j. last + 1) joiner_received in
      let d = total-const joiners (last + 1) in
      let e =
      total-add joiners (λ j. total setting.feeders (λ p. length ((f.joiner j).from_feeder p)))
      (λ j. total joiners (λ i. length ((f.joiner j).from_joiner i))) in
      omega arith

  few_by_line : events setting f ≤ 8 * (rows + setting.feeders + 2) * joiners * (last + 2)
  few_by_line =
      let e =
      total-add joiners (λ j. total setting.feeders (λ p. length ((f.joiner j).from_feeder p)))
      (λ j. total joiners (λ i. length ((f.joiner j).from_joiner i))) in
      sum_of_bounds rows setting.feeders joiners last
      (total setting.feeders
      (λ p. length (f.feeder p).to_controller + length (f.feeder p).received + length (f.controller.from_feeder p)))
      (total joiners joiner_received)
      (total joiners (λ j. length (f.controller.from_joiner j) + length (f.collector.from_joiner j)))
      (total setting.feeders pieces) all_of_feeders all_of_joiners (pow_pos setting.k)
      few_batches of_feeders few_of_feeders few_of_joiners (omega arith) few_ends_of

  -- a family has few events
  pub few_events : events setting f
      ≤ 8 * (row_count input R + row_count input S + setting.feeders + 2) * 2 ^ setting.k *
      (migrations rest.line f.controller.journal + 2)
  few_events =
      let c = agrees.controller in
      let journal_is : f.controller.journal ≡ reverse (c.line ∷ c.past) =
      sym (reverse-reverse f.controller.journal) ∙ ap reverse c.journal in
      let turn : reverse (c.line ∷ c.past) ≡ reverse c.past ++ c.line ∷ [] = reverse-append (c.line ∷ []) c.past in
      let is : last_epoch f.controller.journal ≡ line.epoch =
      ap last_epoch (journal_is ∙ turn) ∙ last_is (reverse c.past) c.line in
      subst (λ l. events setting f ≤ 8 * (rows + setting.feeders + 2) * joiners * (l + 2))
      (ap (λ e. e - rest.line.epoch) (sym is)) few_by_line
