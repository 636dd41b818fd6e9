-- A quiet agreeing family is finished.
use Rattle.std.proofs.Common.{◌≡◌, ℕ, zero, suc, ◌+◌, ◌^◌, ◌<◌, ◌≤◌, min, inl, inr, refl, sym, ◌∙◌, ap, subst, arith}
use Rattle.std.proofs.Common.{true, false, List, [], ◌∷◌, ◌++◌, length}
use Rattle.std.specs.Prelude.{map}
use Rattle.std.proofs.lemmas.Bool.{cases_eq, cases_lt, cases_Bool, true≢false, true_from_ne_false}
use Rattle.std.proofs.lemmas.List.{append-nil}
use Rattle.row_cells.specs.Lists.{counting_from}
use Rattle.row_cells.proofs.RisingNumbers.{length-counting_from}
use Rattle.epoch_tags.specs.declared.message.ToController.{ToController}
use Rattle.epoch_tags.specs.declared.message.ToJoiner.{ToJoiner}
use Rattle.epoch_tags.specs.declared.message.ToJoiner.TheVariants.{Turn}
use Rattle.epoch_tags.specs.declared.message.ToCollector.TheVariants.{Found}
use Rattle.epoch_tags.specs.Messages.{order_epochs, grants, stops, asks, draineds, turns, ends, moved_ends}
use Rattle.epoch_tags.specs.Messages.{settled_epochs, fins}
use Rattle.epoch_tags.specs.Orders.{CountsUp, NeverFalls, StopsLast, GoesBy, TurnsGoBy}
use Rattle.grid_map.specs.Grid.{partner}
use Rattle.migration_plan.specs.Steps.{AreNeighbours, partner_in_step}
use Rattle.reshuffler_core.specs.Law.{answers}
use Rattle.reshuffler_core.proofs.Arrivals.{answers_count_up, answers_go}
use Rattle.reshuffler_core.proofs.TakesAll.{takes_all, answers_turns, answers_ends}
use Rattle.load_controller.specs.declared.line.TurnLine.{TurnLine}
use Rattle.load_controller.specs.Journal.{begun, has_drained, Follows}
use Rattle.load_controller.specs.Law.{AreCounted, sent_by, is_over, CountsSettled}
use Rattle.load_controller.proofs.Shifts.{each_shift, epochs_near}
use Rattle.load_controller.proofs.Counted.{HaveLines, undrained}
use Rattle.load_controller.proofs.SettledCounts.{ends_still}
use Rattle.load_controller.proofs.Sends.{sends_grants, no_stops, stops_last, stop_sent, going, all_sent_goes}
use Rattle.load_controller.proofs.Over.{over_drained, over_where, no_drain_lines}
use Rattle.joiner_law.specs.Law.{JoinerStart, Taken, opened, shift_after, partner_of, AllTurned, IsSettled}
use Rattle.joiner_law.specs.Law.{CanTakeOfFeeder, CanTakeOfJoiner, IsFinished as IsFinishedJoiner}
use Rattle.joiner_law.proofs.TakesAll.{counts_ends, counts_at, StandsAt, can_take_of_feeder, can_take_no_turn}
use Rattle.joiner_law.proofs.TakesAll.{IsOfEpoch, at_least, later, sooner, rest_falls, shows}
use Rattle.trace_law.specs.declared.input.Input.{Input}
use Rattle.trace_law.specs.declared.setting.Setting.{Setting}
use Rattle.trace_law.specs.Validity.{IsValid}
use Rattle.trace_law.specs.Family.{Rest, IsRestFor, Family, IsAgreeing, IsQuiet, IsFinished, feeder_start, joiner_start}
use Rattle.trace_law.specs.Family.{rules_of}
use Rattle.trace_law.proofs.Membership.{low_within}
use Rattle.trace_law.proofs.Arrivals.{goes_by}
use Rattle.trace_law.proofs.Journals.{shift_in, feeders_go, begins}
use Rattle.row_cells.proofs.Totals.{greatest_above, greatest_most}
use Rattle.trace_law.proofs.Begun.{no_drain}
use Rattle.trace_law.proofs.Steps.{steps, epoch_is, orders_sent}
use Rattle.trace_law.proofs.Found.{shift_within}
use Rattle.trace_law.proofs.Links.{has_link, none_received}
use Rattle.trace_law.proofs.Lawful.{lines_of}
use Rattle.epoch_tags.proofs.Appends.{turns-append, moved_ends-append}
use Rattle.grid_map.proofs.Halves.{partner_below, back_again}
use Rattle.epoch_tags.proofs.EpochShifts.{turns_at}
use Rattle.trace_law.proofs.JoinerLemmas.{can_take_of_joiner, settled_of, has_fin}

module _ (input : Input) (setting : Setting) (rest : Rest) (f : Family) (valid : IsValid input setting)
    (stands : IsRestFor input setting rest) (agrees : IsAgreeing input setting rest f)
    (quiet : IsQuiet input setting rest f agrees) where
  abbrev line : TurnLine
  line = agrees.controller.line

  abbrev past : List TurnLine
  past = agrees.controller.past

  -- where there is no link, nothing was sent
  came_all : (i j : ℕ) → i < 2 ^ setting.k → j < 2 ^ setting.k → (f.joiner j).from_joiner i ≡ (f.joiner i).to_joiner j
  came_all i j h h' = by_list ((f.joiner i).to_joiner j) refl
    where
      by_list : (ms : List ToJoiner) → (f.joiner i).to_joiner j ≡ ms
          → (f.joiner j).from_joiner i ≡ (f.joiner i).to_joiner j
      by_list [] is = none_received input setting valid.some rest f agrees i j h h' is ∙ sym is
      by_list (m ∷ more) is = quiet.joiner_joiner i j (has_link input setting valid.some rest f agrees i j h m more is)

  -- how many steps there were, and the shift of each epoch, and after each step
  abbrev last : ℕ
  last = steps input setting rest f agrees

  abbrev by_epoch : ℕ → ℕ
  by_epoch e = shift_in input setting rest f agrees e

  abbrev b : ℕ → ℕ
  b n = by_epoch (rest.line.epoch + n)

  ending : line.epoch ≡ rest.line.epoch + last
  ending = epoch_is input setting rest f agrees

  each_within : (e : ℕ) → by_epoch e ≤ setting.k
  each_within e = shift_within input setting valid rest stands f agrees e

  within : (n : ℕ) → b n ≤ setting.k
  within n = each_within (rest.line.epoch + n)

  near : (n : ℕ) → n < last → AreNeighbours (b n) (b (n + 1))
  near n low =
      let next : rest.line.epoch + n + 1 ≡ rest.line.epoch + (n + 1) = omega arith in
      subst (λ e. AreNeighbours (b n) (by_epoch e)) next
      (epochs_near (rules_of setting) (begun rest.line) line past rest.line.shift (rest.line.epoch + n) (omega arith)
      agrees.controller.follows (let is = ending in omega arith))

  have : (p : ℕ) → p < setting.feeders → HaveLines p (line ∷ past) (f.feeder p).to_controller
  have p low =
      subst (λ ms. HaveLines p (line ∷ past) ms) (quiet.feeder_controller p low)
      (lines_of input setting valid rest stands f agrees p low)

  counted : (q : ℕ) → q < setting.feeders → (ms : List ToController) × AreCounted q (line ∷ past) ms
  counted q low = let c = agrees.controller.counts q low in (c.counted, c.are_counted)

  -- ---- feeders

  received_is : (p : ℕ) → p < setting.feeders → (f.feeder p).received ≡ sent_by (rules_of setting) p (line ∷ past)
  received_is p low = quiet.controller_feeder p low ∙ agrees.controller.sends p low

  has_said : (p : ℕ) → p < setting.feeders → has_drained p (line ∷ past) ≡ true
      → 0 < draineds (f.feeder p).to_controller
  has_said p low drained = elim (cases_eq (draineds (f.feeder p).to_controller) 0) [
    | inl none ↦
        absurd
        (true≢false
        (sym drained
        ∙ undrained (rules_of setting) (begun rest.line) line past p agrees.controller.follows
        (no_drain p rest.line.cause) ((have p low).drains ∙ none)))
    | inr more ↦ omega arith
  ]

  feeder_takes_all : (p : ℕ) → p < setting.feeders → agrees.taken_by_feeder p ≡ (f.feeder p).received
  feeder_takes_all p low =
      let law = agrees.feeders p low in
      let is = received_is p low in
      let each = each_shift (rules_of setting) (begun rest.line) line past rest.line.shift agrees.controller.follows in
      let orders : order_epochs (f.feeder p).received ≡ counting_from (rest.line.epoch + 1) last =
      ap order_epochs is ∙ orders_sent input setting rest f agrees p in
      let goes : GoesBy by_epoch (f.feeder p).received =
      subst (λ ms. GoesBy by_epoch ms) (sym is) (all_sent_goes by_epoch (rules_of setting) p (line ∷ past) each) in
      let stops_at : StopsLast (f.feeder p).received =
      subst (λ ms. StopsLast ms) (sym is)
      (stops_last (rules_of setting) (begun rest.line) line past p agrees.controller.follows counted) in
      let granted : grants (f.feeder p).received ≡ asks (f.feeder p).to_controller =
      ap grants is ∙ sends_grants (rules_of setting) p (line ∷ past) ∙ (have p low).counts in
      takes_all (feeder_start input setting rest p) (f.feeder p).to_controller last by_epoch each_within
      (agrees.taken_by_feeder p) law.held
      (f.feeder p).received law.splits law.stuck orders goes stops_at granted law.granted
      (λ has. elim (cases_Bool (is_over setting.feeders (line ∷ past))) [
        | inl over ↦ has_said p low (over_drained setting.feeders p (line ∷ past) low over)
        | inr going ↦ let none = ap stops is ∙ no_stops (rules_of setting) p (line ∷ past) going in absurd (omega arith)
      ])

  taken_is : (p : ℕ) → p < setting.feeders → agrees.taken_by_feeder p ≡ sent_by (rules_of setting) p (line ∷ past)
  taken_is p low = feeder_takes_all p low ∙ received_is p low

  all_drained : (p : ℕ) → p < setting.feeders → has_drained p (line ∷ past) ≡ true
  all_drained p low =
      let granted : grants (agrees.taken_by_feeder p) ≡ asks (f.feeder p).to_controller =
      ap grants (taken_is p low) ∙ sends_grants (rules_of setting) p (line ∷ past) ∙ (have p low).counts in
      let said : 0 < draineds (f.feeder p).to_controller =
      elim (quiet.none_begins p low) [ inl has ↦ has | inr waits ↦ absurd (omega arith) ] in
      true_from_ne_false (has_drained p (line ∷ past))
      (λ none. absurd (omega (arith, no_drain_lines p (line ∷ past) none, (have p low).drains)))

  -- ---- what joiners received of feeders

  of_feeder : (j : ℕ) → j < 2 ^ setting.k → (p : ℕ) → p < setting.feeders
      → (f.joiner j).from_feeder p
      ≡ answers setting.k j rest.line.epoch rest.line.shift (feeder_start input setting rest p).batches
      (agrees.taken_by_feeder p)
  of_feeder j h p low = quiet.feeder_joiner p j low h ∙ (agrees.feeders p low).answered j h

  received_turns : (j : ℕ) → j < 2 ^ setting.k → (p : ℕ) → p < setting.feeders
      → turns ((f.joiner j).from_feeder p) ≡ last
  received_turns j h p low =
      ap turns (of_feeder j h p low)
      ∙ answers_turns setting.k j rest.line.epoch rest.line.shift (feeder_start input setting rest p).batches
      (agrees.taken_by_feeder p)
      ∙ ap (λ ms. length (order_epochs ms)) (taken_is p low)
      ∙ ap length (orders_sent input setting rest f agrees p)
      ∙ length-counting_from (rest.line.epoch + 1) last

  received_up : (j : ℕ) → j < 2 ^ setting.k → (p : ℕ) → p < setting.feeders
      → CountsUp rest.line.epoch ((f.joiner j).from_feeder p)
  received_up j h p low =
      let law = agrees.feeders p low in
      subst (λ ms. CountsUp rest.line.epoch ms) (sym (of_feeder j h p low))
      (answers_count_up setting.k j rest.line.epoch rest.line.shift (feeder_start input setting rest p).batches
      (agrees.taken_by_feeder p) law.orders law.stops_last)

  received_goes : (j : ℕ) → j < 2 ^ setting.k → (p : ℕ) → p < setting.feeders
      → TurnsGoBy by_epoch ((f.joiner j).from_feeder p)
  received_goes j h p low =
      subst (λ ms. TurnsGoBy by_epoch ms) (sym (of_feeder j h p low))
      (answers_go setting.k j rest.line.epoch rest.line.shift by_epoch (feeder_start input setting rest p).batches
      (agrees.taken_by_feeder p) (feeders_go input setting rest f agrees p low))

  -- ---- joiners

  abbrev start : ℕ → JoinerStart
  start j = joiner_start input setting rest j

  abbrev took : ℕ → Taken
  took j = agrees.taken_by_joiner j

  goes : (j : ℕ) → j < 2 ^ setting.k → (n : ℕ) → n ≤ opened (start j) (took j) → shift_after (start j) (took j) n ≡ b n
  goes j h n low =
      goes_by input setting rest f agrees by_epoch (feeders_go input setting rest f agrees)
      (begins input setting rest f agrees) j h n low

  turned_opened : (j n : ℕ) → AllTurned (start j) (took j) n → n < opened (start j) (took j)
  turned_opened j n turned =
      omega
      (arith, turned 0 valid.some, greatest_above setting.feeders (λ p. turns ((took j).from_feeder p)) 0 valid.some)

  done_opened : (j : ℕ) (h : j < 2 ^ setting.k) → (agrees.joiners j h).done ≤ opened (start j) (took j)
  done_opened j h =
      by_done (agrees.joiners j h).done (λ n low. turned_opened j n ((agrees.joiners j h).settled n low).0)
    where
      by_done : (d : ℕ) → ((n : ℕ) → n < d → n < opened (start j) (took j)) → d ≤ opened (start j) (took j)
      by_done zero below = omega arith
      by_done (suc d) below = let one = below d (omega arith) in omega arith

  done_turned : (j : ℕ) (h : j < 2 ^ setting.k) (p : ℕ) → p < setting.feeders
      → (agrees.joiners j h).done ≤ turns ((took j).from_feeder p)
  done_turned j h p low = by_done (agrees.joiners j h).done (λ n l. ((agrees.joiners j h).settled n l).0 p low)
    where
      by_done : (d : ℕ) → ((n : ℕ) → n < d → n < turns ((took j).from_feeder p)) → d ≤ turns ((took j).from_feeder p)
      by_done zero below = omega arith
      by_done (suc d) below = let one = below d (omega arith) in omega arith

  -- a joiner that has settled n epochs has taken the turn of the next of each feeder
  turned : (n j : ℕ) (h : j < 2 ^ setting.k) → n < last → n ≤ (agrees.joiners j h).done → AllTurned (start j) (took j) n
  turned n j h low past_n p hp =
      let law = agrees.joiners j h in
      let of_p = law.of_feeders p hp in
      let least = done_turned j h p hp in
      elim (cases_lt n (turns ((took j).from_feeder p))) [
        | inl more ↦ more
        | inr not_more ↦ by_held of_p.held of_p.splits of_p.stuck (omega arith) (omega arith)
      ]
    where
      by_held : (held : List ToJoiner) → (took j).from_feeder p ++ held ≡ (f.joiner j).from_feeder p
          → ((m : ToJoiner) (more : List ToJoiner) → held ≡ m ∷ more
          → ¬ CanTakeOfFeeder (start j) (took j) (agrees.joiners j h).done p m)
          → turns ((took j).from_feeder p) ≡ n → (agrees.joiners j h).done ≡ n → n < turns ((took j).from_feeder p)
      by_held [] splits stuck at done =
          let all : (took j).from_feeder p ≡ (f.joiner j).from_feeder p =
          sym (append-nil ((took j).from_feeder p)) ∙ splits in
          let count = ap turns all in
          let is = received_turns j h p hp in
          omega arith
      by_held (m ∷ more) splits stuck at done =
          let up : CountsUp rest.line.epoch ((took j).from_feeder p ++ m ∷ more) =
          subst (λ ms. CountsUp rest.line.epoch ms) (sym splits) (received_up j h p hp) in
          let stands = counts_at rest.line.epoch ((took j).from_feeder p) more m up in
          let none = counts_ends rest.line.epoch ((took j).from_feeder p) more m up in
          let go : TurnsGoBy by_epoch ((took j).from_feeder p ++ m ∷ more) =
          subst (λ ms. TurnsGoBy by_epoch ms) (sym splits) (received_goes j h p hp) in
          absurd
          (stuck m more refl
          (can_take_of_feeder (start j) (took j) (agrees.joiners j h).done p m none stands (at ∙ sym done)
          (λ epoch shift is. turn_fits m more epoch shift is stands go at done)))
        where
          turn_fits : (m : ToJoiner) (more : List ToJoiner) (epoch shift : ℕ) → m ≡ Turn epoch shift
              → StandsAt (rest.line.epoch + turns ((took j).from_feeder p)) m
              → TurnsGoBy by_epoch ((took j).from_feeder p ++ m ∷ more)
              → turns ((took j).from_feeder p) ≡ n → (agrees.joiners j h).done ≡ n
              → (shift ≤ setting.k) × AreNeighbours (shift_after (start j) (took j) (agrees.joiners j h).done) shift
              × ((agrees.joiners j h).done < opened (start j) (took j)
              → shift ≡ shift_after (start j) (took j) ((agrees.joiners j h).done + 1))
          turn_fits m more epoch shift is stands go at done =
              let stands' : epoch ≡ rest.line.epoch + turns ((took j).from_feeder p) + 1 =
              subst (λ x. StandsAt (rest.line.epoch + turns ((took j).from_feeder p)) x) is stands in
              let go' : TurnsGoBy by_epoch ((took j).from_feeder p ++ Turn epoch shift ∷ more) =
              subst (λ x. TurnsGoBy by_epoch ((took j).from_feeder p ++ x ∷ more)) is go in
              let next : epoch ≡ rest.line.epoch + (n + 1) = omega arith in
              let shift_is : shift ≡ b (n + 1) =
              turns_at by_epoch ((took j).from_feeder p) more epoch shift go' ∙ ap by_epoch next in
              let here : shift_after (start j) (took j) (agrees.joiners j h).done ≡ b n =
              goes j h (agrees.joiners j h).done (done_opened j h) ∙ ap b done in (
                subst (λ c. c ≤ setting.k) (sym shift_is) (within (n + 1)),
                subst (λ c. AreNeighbours c shift) (sym here)
                    (subst (λ c. AreNeighbours (b n) c) (sym shift_is) (near n low)),
                (λ is_open. shift_is ∙ ap (λ v. b (v + 1)) (sym done)
                    ∙ sym (goes j h ((agrees.joiners j h).done + 1) (omega arith))),
              )

  -- ---- partners

  -- the lower shift of a step
  abbrev low_of : ℕ → ℕ
  low_of n = min (b n) (b (n + 1))

  low_of_below : (n : ℕ) → n < last → low_of n < setting.k
  low_of_below n low = low_within setting.k (b n) (b (n + 1)) (near n low) (within n) (within (n + 1))

  partner_is : (j : ℕ) → j < 2 ^ setting.k → (n : ℕ) → n < opened (start j) (took j)
      → partner_of (start j) (took j) n ≡ partner (low_of n) j
  partner_is j h n low =
      ap (λ c. partner_in_step c (shift_after (start j) (took j) (n + 1)) j) (goes j h n (omega arith))
      ∙ ap (λ c. partner_in_step (b n) c j) (goes j h (n + 1) (omega arith))

  opened_last : (j : ℕ) → j < 2 ^ setting.k → opened (start j) (took j) ≤ last
  opened_last j h = greatest_most setting.feeders last (λ p. turns ((took j).from_feeder p)) few
    where
      few : (p : ℕ) → p < setting.feeders → turns ((took j).from_feeder p) ≤ last
      few p low =
          let of_p = (agrees.joiners j h).of_feeders p low in
          let all = received_turns j h p low in
          let parts = turns-append ((took j).from_feeder p) of_p.held in
          let is = ap turns of_p.splits in omega arith

  falls : (i j : ℕ) → i < 2 ^ setting.k → j < 2 ^ setting.k → NeverFalls rest.line.epoch ((f.joiner j).from_joiner i)
  falls i j hi hj =
      subst (λ ms. NeverFalls rest.line.epoch ms) (sym (came_all i j hi hj)) ((agrees.joiners i hi).never_falls j)

  -- what i sent to j is of a step in which they are partners
  of_step : (i j : ℕ) → i < 2 ^ setting.k → j < 2 ^ setting.k → (xs ys : List ToJoiner) (m : ToJoiner)
      → xs ++ m ∷ ys ≡ (f.joiner j).from_joiner i
      → (e : ℕ) → IsOfEpoch e m
      → (n : ℕ) × (e ≡ rest.line.epoch + n + 1) × (n < opened (start i) (took i)) × (j ≡ partner (low_of n) i)
  of_step i j hi hj xs ys m is e of_e =
      let law = agrees.joiners i hi in
      let sent : xs ++ m ∷ ys ≡ (f.joiner i).to_joiner j = is ∙ came_all i j hi hj in
      elim (shows e xs ys m of_e) [
        | inl moved ↦
            let r = law.moved_only j e (rw sent at moved) in
            (r.0, omega (arith, r.1), r.2, r.3 ∙ partner_is i hi r.0 r.2)
        | inr ended ↦
            let r = law.ended_only j e (rw sent at ended) in
            let low = turned_opened i r.0 r.2 in
            (r.0, omega (arith, r.1), low, r.3 ∙ partner_is i hi r.0 low)
      ]

  -- nothing more is held of a step that is settled
  no_later : (i j : ℕ) → i < 2 ^ setting.k → (h : j < 2 ^ setting.k) → (more : List ToJoiner) (m : ToJoiner)
      → (took j).from_joiner i ++ m ∷ more ≡ (f.joiner j).from_joiner i
      → (n e : ℕ) → n < (agrees.joiners j h).done → j ≡ partner (low_of n) i → IsOfEpoch e m
      → e ≡ rest.line.epoch + n + 1 → ⊥
  no_later i j hi h more m is n e low = λ to_j of_e at.
      let law = agrees.joiners j h in
      let before : n < opened (start j) (took j) = omega (arith, done_opened j h) in
      let other : partner_of (start j) (took j) n ≡ i =
      partner_is j h n before ∙ ap (partner (low_of n)) to_j ∙ back_again (low_of n) i in
      let ended : 0 < moved_ends (rest.line.epoch + n + 1) ((took j).from_joiner i) =
      subst (λ q. 0 < moved_ends (rest.line.epoch + n + 1) ((took j).from_joiner q)) other (law.settled n low).1 in
      let fall : NeverFalls rest.line.epoch ((took j).from_joiner i ++ m ∷ more) =
      subst (λ ms. NeverFalls rest.line.epoch ms) (sym is) (falls i j hi h) in
      let after = later rest.line.epoch (rest.line.epoch + n + 1) e ((took j).from_joiner i) more m fall ended of_e in
      omega arith

  -- ---- by induction over epochs each joiner settled each

  has_end : (n : ℕ) → n < last → ((j : ℕ) (h : j < 2 ^ setting.k) → n ≤ (agrees.joiners j h).done)
      → (j : ℕ) (h : j < 2 ^ setting.k) → (agrees.joiners j h).done ≡ n
      → 0 < moved_ends (rest.line.epoch + n + 1) ((took j).from_joiner (partner_of (start j) (took j) n))
  has_end n low all j h done =
      let law = agrees.joiners j h in
      let opened_j : n < opened (start j) (took j) = turned_opened j n (turned n j h low (all j h)) in
      let is_q : partner_of (start j) (took j) n ≡ partner (low_of n) j = partner_is j h n opened_j in
      subst (λ q. 0 < moved_ends (rest.line.epoch + n + 1) ((took j).from_joiner q)) (sym is_q)
      (of_partner (partner (low_of n) j) (partner_below setting.k (low_of n) j (low_of_below n low) h)
      refl opened_j)
    where
      of_partner : (q : ℕ) (hq : q < 2 ^ setting.k) → q ≡ partner (low_of n) j → n < opened (start j) (took j)
          → 0 < moved_ends (rest.line.epoch + n + 1) ((took j).from_joiner q)
      of_partner q hq is_q opened_j =
          let law = agrees.joiners j h in
          let law' = agrees.joiners q hq in
          let turned_q = turned n q hq low (all q hq) in
          let to_j : partner_of (start q) (took q) n ≡ j =
          partner_is q hq n (turned_opened q n turned_q) ∙ ap (partner (low_of n)) is_q ∙ back_again (low_of n) j in
          let sent : moved_ends (rest.line.epoch + n + 1) ((f.joiner q).to_joiner j) ≡ 1 =
          subst (λ i. moved_ends (rest.line.epoch + n + 1) ((f.joiner q).to_joiner i) ≡ 1) to_j
          (law'.ended n turned_q) in
          let came : moved_ends (rest.line.epoch + n + 1) ((f.joiner j).from_joiner q) ≡ 1 =
          ap (λ ms. moved_ends (rest.line.epoch + n + 1) ms) (came_all q j hq h) ∙ sent in
          let of_q = law.of_joiners q hq in
          by_held of_q.held of_q.splits of_q.stuck came
        where
          by_held : (held : List ToJoiner) → (took j).from_joiner q ++ held ≡ (f.joiner j).from_joiner q
              → ((m : ToJoiner) (more : List ToJoiner) → held ≡ m ∷ more
              → ¬ CanTakeOfJoiner (start j) (took j) (agrees.joiners j h).done q m)
              → moved_ends (rest.line.epoch + n + 1) ((f.joiner j).from_joiner q) ≡ 1
              → 0 < moved_ends (rest.line.epoch + n + 1) ((took j).from_joiner q)
          by_held [] splits stuck came =
              let is = ap (λ ms. moved_ends (rest.line.epoch + n + 1) ms) splits in
              let none = ap (λ ms. moved_ends (rest.line.epoch + n + 1) ms) (append-nil ((took j).from_joiner q)) in
              omega arith
          by_held (m ∷ more) splits stuck came =
              elim (cases_eq (moved_ends (rest.line.epoch + n + 1) ((took j).from_joiner q)) 0) [
                | inr more ↦ omega arith
                | inl none ↦
                    let fall : NeverFalls rest.line.epoch ((took j).from_joiner q ++ m ∷ more) =
                    subst (λ ms. NeverFalls rest.line.epoch ms) (sym splits) (falls q j hq h) in
                    let here = at_least rest.line.epoch ((took j).from_joiner q) more m fall in
                    let parts = moved_ends-append (rest.line.epoch + n + 1) ((took j).from_joiner q) (m ∷ more) in
                    let is = ap (λ ms. moved_ends (rest.line.epoch + n + 1) ms) splits in
                    let tail = rest_falls rest.line.epoch ((took j).from_joiner q) (m ∷ more) fall in
                    let few : here.0 ≤ rest.line.epoch + n + 1 =
                    sooner tail.0 (rest.line.epoch + n + 1) here.0 m more tail.1 (omega arith) here.1 in
                    let step = of_step q j hq h ((took j).from_joiner q) more m splits here.0 here.1 in
                    elim (cases_lt step.0 n) [
                      | inl less ↦
                          absurd (no_later q j hq h more m splits step.0 here.0 (omega arith) step.3 here.1 step.1)
                      | inr same ↦
                          let at : here.0 ≡ rest.line.epoch + n + 1 = omega (arith, step.1) in
                          let to_q : q ≡ partner_of (start j) (took j) (agrees.joiners j h).done =
                          is_q ∙ sym (partner_is j h n opened_j)
                          ∙ ap (λ d. partner_of (start j) (took j) d) (sym done) in
                          let yet : moved_ends here.0 ((took j).from_joiner q) ≡ 0 =
                          ap (λ e. moved_ends e ((took j).from_joiner q)) at ∙ none in
                          absurd
                          (stuck m more refl
                          (can_take_of_joiner (start j) (took j) (agrees.joiners j h).done q here.0 m here.1
                          (omega arith, omega arith, to_q, yet)))
                    ]
              ]

  settles : (n : ℕ) → n ≤ last → (j : ℕ) (h : j < 2 ^ setting.k) → n ≤ (agrees.joiners j h).done
  settles zero low j h = omega arith
  settles (suc n) low j h =
      let all : (i : ℕ) (hi : i < 2 ^ setting.k) → n ≤ (agrees.joiners i hi).done =
      λ i hi. settles n (omega arith) i hi in
      let mine = settles n (omega arith) j h in
      elim (cases_lt n (agrees.joiners j h).done) [
        | inl more ↦ omega arith
        | inr same ↦
            let done : (agrees.joiners j h).done ≡ n = omega arith in
            let is : IsSettled (start j) (took j) n =
            (turned n j h (omega arith) mine, has_end n (omega arith) all j h done) in
            absurd ((agrees.joiners j h).unsettled (subst (λ d. IsSettled (start j) (took j) d) (sym done) is))
      ]

  done_last : (j : ℕ) (h : j < 2 ^ setting.k) → (agrees.joiners j h).done ≡ last
  done_last j h = let low = settles last (omega arith) j h in omega (arith, done_opened j h, opened_last j h)

  all_opened : (j : ℕ) → j < 2 ^ setting.k → opened (start j) (took j) ≡ last
  all_opened j h = let is = done_last j h in omega (arith, done_opened j h, opened_last j h)

  -- ---- so the journal isn't moving, and all stop

  told : (j : ℕ) → j < 2 ^ setting.k → CountsSettled j line past (counting_from (rest.line.epoch + 1) last)
  told j h =
      let is : settled_epochs (f.controller.from_joiner j) ≡ counting_from (rest.line.epoch + 1) last =
      ap settled_epochs (quiet.joiner_controller j h) ∙ ap settled_epochs (agrees.joiners j h).told
      ∙ settled_of (counting_from (rest.line.epoch + 1) (agrees.joiners j h).done)
      ∙ ap (counting_from (rest.line.epoch + 1)) (done_last j h) in
      subst (λ es. CountsSettled j line past es) is (agrees.controller.settles j h)

  still : line.moving ≡ false
  still =
      ends_still (rules_of setting) (begun rest.line)
      line past last ending stands.line.fits.still agrees.controller.follows told

  stopped : (p : ℕ) → p < setting.feeders → 0 < stops (agrees.taken_by_feeder p)
  stopped p low =
      subst (λ ms. 0 < stops ms) (sym (taken_is p low))
      (by_past past agrees.controller.follows counted (all_drained 0 valid.some)
      (over_where setting.feeders line past still all_drained))
    where
      by_past : (past' : List TurnLine) → Follows (rules_of setting) (begun rest.line) (line ∷ past')
          → ((q : ℕ) → q < setting.feeders → (ms : List ToController) × AreCounted q (line ∷ past') ms)
          → has_drained 0 (line ∷ past') ≡ true → is_over setting.feeders (line ∷ past') ≡ true
          → 0 < stops (sent_by (rules_of setting) p (line ∷ past'))
      by_past [] is counted' drained over =
          absurd
          (true≢false
          (sym drained ∙ undrained (rules_of setting) (begun rest.line) line [] 0 is (no_drain 0 rest.line.cause) refl))
      by_past (before ∷ past') follows counted' drained over =
          stop_sent (rules_of setting) (begun rest.line) line before past' p follows counted' over

  -- ---- and joiners have taken all

  all_of_feeder : (j : ℕ) (h : j < 2 ^ setting.k) (p : ℕ) → p < setting.feeders
      → (took j).from_feeder p ≡ (f.joiner j).from_feeder p
  all_of_feeder j h p hp = let of_p = (agrees.joiners j h).of_feeders p hp in by_held of_p.held of_p.splits of_p.stuck
    where
      by_held : (held : List ToJoiner) → (took j).from_feeder p ++ held ≡ (f.joiner j).from_feeder p
          → ((m : ToJoiner) (more : List ToJoiner) → held ≡ m ∷ more
          → ¬ CanTakeOfFeeder (start j) (took j) (agrees.joiners j h).done p m)
          → (took j).from_feeder p ≡ (f.joiner j).from_feeder p
      by_held [] splits stuck = sym (append-nil ((took j).from_feeder p)) ∙ splits
      by_held (m ∷ more) splits stuck =
          let up : CountsUp rest.line.epoch ((took j).from_feeder p ++ m ∷ more) =
          subst (λ ms. CountsUp rest.line.epoch ms) (sym splits) (received_up j h p hp) in
          let least = done_turned j h p hp in
          let is = done_last j h in
          let all = received_turns j h p hp in
          let parts = turns-append ((took j).from_feeder p) (m ∷ more) in
          let whole = ap turns splits in
          absurd
          (stuck m more refl
          (can_take_no_turn (start j) (took j) (agrees.joiners j h).done p m
          (counts_ends rest.line.epoch ((took j).from_feeder p) more m up)
          (counts_at rest.line.epoch ((took j).from_feeder p) more m up)
          (λ epoch shift at. let one : turns (m ∷ more) ≡ turns more + 1 = ap (λ x. turns (x ∷ more)) at in
          omega arith)))

  all_of_joiner : (j : ℕ) (h : j < 2 ^ setting.k) (i : ℕ) → i < 2 ^ setting.k
      → (took j).from_joiner i ≡ (f.joiner j).from_joiner i
  all_of_joiner j h i hi = let of_i = (agrees.joiners j h).of_joiners i hi in by_held of_i.held of_i.splits
    where
      by_held : (held : List ToJoiner) → (took j).from_joiner i ++ held ≡ (f.joiner j).from_joiner i
          → (took j).from_joiner i ≡ (f.joiner j).from_joiner i
      by_held [] splits = sym (append-nil ((took j).from_joiner i)) ∙ splits
      by_held (m ∷ more) splits =
          let fall : NeverFalls rest.line.epoch ((took j).from_joiner i ++ m ∷ more) =
          subst (λ ms. NeverFalls rest.line.epoch ms) (sym splits) (falls i j hi h) in
          let here = at_least rest.line.epoch ((took j).from_joiner i) more m fall in
          let step = of_step i j hi h ((took j).from_joiner i) more m splits here.0 here.1 in
          let is = done_last j h in
          absurd
          (no_later i j hi h more m splits step.0 here.0 (omega (arith, step.2, opened_last i hi))
          step.3 here.1 step.1)

  joiner_finished : (j : ℕ) (h : j < 2 ^ setting.k) → IsFinishedJoiner (start j) (f.joiner j) (took j)
  joiner_finished j h = ((ended, settled), all_of_feeder j h, all_of_joiner j h)
    where
      ended : (p : ℕ) → p < setting.feeders → 0 < ends ((took j).from_feeder p)
      ended p low =
          let is : ends ((took j).from_feeder p) ≡ stops (agrees.taken_by_feeder p) =
          ap ends (all_of_feeder j h p low) ∙ ap ends (of_feeder j h p low)
          ∙ answers_ends setting.k j rest.line.epoch rest.line.shift (feeder_start input setting rest p).batches
          (agrees.taken_by_feeder p) in
          omega (arith, stopped p low)

      settled : (n : ℕ) → n < opened (start j) (took j) → IsSettled (start j) (took j) n
      settled n low = (agrees.joiners j h).settled n (omega (arith, done_last j h, all_opened j h))

  collected : (j : ℕ) → j < 2 ^ setting.k → 0 < fins (f.collector.from_joiner j)
  collected j h =
      let law = agrees.joiners j h in
      let is : f.collector.from_joiner j ≡ map (λ ps. Found ps) law.founds ++ law.fins =
      quiet.joiner_collector j h ∙ law.to_collector in
      let one : 0 < fins law.fins =
      subst (λ ms. 0 < fins ms) (sym (law.finished (joiner_finished j h))) (omega arith) in
      subst (λ ms. 0 < fins ms) (sym is) (has_fin law.founds law.fins one)

  -- a quiet family is finished
  pub finishes : IsFinished input setting rest f agrees
  finishes = record { feeders = stopped; joiners = joiner_finished; collector = collected }
