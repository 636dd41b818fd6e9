-- An agreeing family whose collector is complete is finished.
use Rattle.std.proofs.Common.{◌≡◌, ℕ, ◌+◌, ◌^◌, ◌<◌, ◌≤◌, min, inl, inr, refl, sym, ◌∙◌, ap, subst, arith, List, []}
use Rattle.std.proofs.Common.{◌∷◌, ◌++◌, append_assoc, length, append-nil, length-append}
use Rattle.std.proofs.lemmas.List.{length-map}
use Rattle.std.specs.Prelude.{map}
use Rattle.std.proofs.lemmas.Bool.{cases_lt}
use Rattle.std.proofs.lemmas.Nat.{pow_pos}
use Rattle.epoch_tags.specs.declared.message.ToJoiner.{ToJoiner}
use Rattle.epoch_tags.specs.declared.message.ToCollector.{ToCollector}
use Rattle.epoch_tags.specs.declared.message.ToCollector.TheVariants.{Found, Fin}
use Rattle.epoch_tags.specs.declared.tuple.Pair.{Pair}
use Rattle.row_cells.specs.Lists.{IsPrefix, counting_from}
use Rattle.row_cells.proofs.RisingNumbers.{length-counting_from}
use Rattle.epoch_tags.specs.declared.message.ToController.{ToController}
use Rattle.epoch_tags.specs.declared.message.ToController.TheVariants.{Ask, Drained, Settled}
use Rattle.epoch_tags.specs.Messages.{settled_epochs, order_epochs, stops, turns, ends, moved_ends, fins}
use Rattle.epoch_tags.specs.Orders.{CountsUp, NeverFalls}
use Rattle.grid_map.specs.Grid.{partner}
use Rattle.grid_map.proofs.Halves.{back_again}
use Rattle.migration_plan.specs.Steps.{partner_in_step}
use Rattle.reshuffler_core.specs.Law.{answers, requests}
use Rattle.load_controller.proofs.SettledCounts.{steps_of, lines_are_epochs, settle_lines}
use Rattle.load_controller.specs.Journal.{begun}
use Rattle.trace_law.proofs.Steps.{steps, epoch_is, orders_sent}
use Rattle.reshuffler_core.proofs.Arrivals.{answers_count_up}
use Rattle.reshuffler_core.proofs.TakesAll.{answers_turns, answers_ends}
use Rattle.joiner_law.specs.Law.{JoinerStart, Taken, opened, shift_after, partner_of, AllTurned, IsAtRest}
use Rattle.joiner_law.specs.Law.{IsFinished as IsFinishedJoiner}
use Rattle.joiner_law.proofs.TakesAll.{IsOfEpoch, at_least, later, shows}
use Rattle.pair_collector.specs.Law.{IsComplete}
use Rattle.trace_law.specs.declared.input.Input.{Input}
use Rattle.trace_law.specs.declared.setting.Setting.{Setting}
use Rattle.trace_law.specs.Validity.{IsValid}
use Rattle.trace_law.specs.Family.{Rest, IsRestFor, Family, IsAgreeing, IsFinished, IsAllReceived, rules_of}
use Rattle.trace_law.specs.Family.{feeder_start, joiner_start}
use Rattle.trace_law.proofs.Arrivals.{goes_by}
use Rattle.trace_law.proofs.Again.{ends_whole}
use Rattle.trace_law.proofs.Ends.{took_sent, is_over_now, all_came}
use Rattle.trace_law.proofs.Journals.{shift_in, feeders_go, begins}
use Rattle.row_cells.proofs.Totals.{greatest_above, front_length}

fins_front : (xs ys : List ToCollector) → 0 < fins xs → 0 < fins (xs ++ ys)
fins_front [] ys has = absurd (omega arith)
fins_front (Found ps ∷ xs) ys has = fins_front xs ys has
fins_front (Fin rows_r rows_s moved ∷ xs) ys has = omega arith

no_fin : (founds : List (List Pair)) → fins (map (λ ps. Found ps) founds ++ []) ≡ 0
no_fin [] = refl
no_fin (ps ∷ founds) = no_fin founds

empty_front : (xs ys : List ToJoiner) → xs ++ ys ≡ [] → xs ≡ []
empty_front [] ys none = refl
empty_front (x ∷ xs) ys none = cc

empty_back : {X : Type 0} (xs ys : List X) → xs ++ ys ≡ [] → ys ≡ []
empty_back [] ys none = none
empty_back (x ∷ xs) ys none = cc

-- a front that is not shorter is the whole
whole_of : {X : Type 0} (xs ys : List X) → IsPrefix xs ys → length ys ≤ length xs → xs ≡ ys
whole_of xs ys front low =
    let parts = length-append xs front.rest in
    let is = ap length front.joins in
    sym (append-nil xs) ∙ ap (λ zs. xs ++ zs) (sym (nil front.rest (omega (arith, parts, is)))) ∙ front.joins
  where
    nil : {Z : Type 0} (zs : List Z) → length zs ≡ 0 → zs ≡ []
    nil [] none = refl
    nil (z ∷ zs) none = absurd (omega arith)

few_settled : (ms : List ToController) → length (settled_epochs ms) ≤ length ms
few_settled [] = omega arith
few_settled (Ask dr ds ∷ ms) = let old = few_settled ms in omega arith
few_settled (Drained ∷ ms) = let old = few_settled ms in omega arith
few_settled (Settled epoch ∷ ms) = let old = few_settled ms in omega arith

-- nothing comes after a `Fin`
fin_whole : (founds : List (List Pair)) (last got more : List ToCollector) → length last ≤ 1
    → got ++ more ≡ map (λ ps. Found ps) founds ++ last → 0 < fins got → more ≡ []
fin_whole founds last [] more one is has = absurd (omega arith)
fin_whole [] [] (m ∷ got) more one is has = cc
fin_whole [] (n ∷ []) (m ∷ got) more one is has = let none : got ++ more ≡ [] = cc in empty_back got more none
fin_whole [] (n ∷ n' ∷ last) (m ∷ got) more one is has = absurd (omega (arith, one))
fin_whole (ps ∷ founds) last (m ∷ got) more one is has =
    let first : m ≡ Found ps = cc in
    let tail_is : got ++ more ≡ map (λ qs. Found qs) founds ++ last = cc in
    let has' : 0 < fins (Found ps ∷ got) = subst (λ n. 0 < fins (n ∷ got)) first has in
    fin_whole founds last got more one tail_is has'

module _ (input : Input) (setting : Setting) (rest : Rest) (f : Family) (valid : IsValid input setting)
    (stands : IsRestFor input setting rest) (agrees : IsAgreeing input setting rest f)
    (complete : IsComplete (2 ^ setting.k) f.collector) where
  abbrev start : ℕ → JoinerStart
  start j = joiner_start input setting rest j

  abbrev took : ℕ → Taken
  took j = agrees.taken_by_joiner j

  abbrev b : ℕ → ℕ
  b n = shift_in input setting rest f agrees (rest.line.epoch + n)

  abbrev all_answers : ℕ → ℕ → List ToJoiner
  all_answers j p =
      answers setting.k j rest.line.epoch rest.line.shift (feeder_start input setting rest p).batches
      (agrees.taken_by_feeder p)

  -- each joiner has ended, so it is at more
  rests : (j : ℕ) → j < 2 ^ setting.k → IsAtRest (start j) (took j)
  rests j h =
      let law = agrees.joiners j h in
      let link = agrees.joiner_collector j h in
      elim law.fin_last [
        | inl none ↦
            let whole : f.collector.from_joiner j ++ link.rest ≡ map (λ ps. Found ps) law.founds ++ [] =
            link.joins ∙ law.to_collector ∙ ap (λ ms. map (λ ps. Found ps) law.founds ++ ms) none in
            let has = fins_front (f.collector.from_joiner j) link.rest (complete j h) in
            let is = ap fins whole ∙ no_fin law.founds in
            absurd (omega (arith, has, is))
        | inr last ↦ last.1
      ]

  -- ---- what joiners took of feeders

  -- what is held, and what is under way
  abbrev to_come : (j p : ℕ) → j < 2 ^ setting.k → p < setting.feeders → List ToJoiner
  to_come j p h h' = ((agrees.joiners j h).of_feeders p h').held ++ (agrees.feeder_joiner p j h' h).rest

  whole : (j p : ℕ) (h : j < 2 ^ setting.k) (h' : p < setting.feeders)
      → (took j).from_feeder p ++ to_come j p h h' ≡ all_answers j p
  whole j p h h' =
      let of_p = (agrees.joiners j h).of_feeders p h' in
      let link = agrees.feeder_joiner p j h' h in
      sym (append_assoc ((took j).from_feeder p) of_p.held link.rest) ∙ ap (λ ms. ms ++ link.rest) of_p.splits
      ∙ link.joins ∙ (agrees.feeders p h').answered j h

  nothing_more : (j p : ℕ) (h : j < 2 ^ setting.k) (h' : p < setting.feeders) → to_come j p h h' ≡ []
  nothing_more j p h h' =
      let law = agrees.feeders p h' in
      let up =
      answers_count_up setting.k j rest.line.epoch rest.line.shift (feeder_start input setting rest p).batches
      (agrees.taken_by_feeder p) law.orders law.stops_last in
      ends_whole rest.line.epoch ((took j).from_feeder p) (to_come j p h h')
      (subst (λ ms. CountsUp rest.line.epoch ms) (sym (whole j p h h')) up) ((rests j h).0 p h')

  took_answers : (j p : ℕ) → j < 2 ^ setting.k → p < setting.feeders → (took j).from_feeder p ≡ all_answers j p
  took_answers j p h h' =
      sym (append-nil ((took j).from_feeder p)) ∙ ap (λ ms. (took j).from_feeder p ++ ms) (sym (nothing_more j p h h'))
      ∙ whole j p h h'

  all_of_feeder : (j p : ℕ) (h : j < 2 ^ setting.k) → p < setting.feeders
      → (took j).from_feeder p ≡ (f.joiner j).from_feeder p
  all_of_feeder j p h h' =
      let of_p = (agrees.joiners j h).of_feeders p h' in
      let link = agrees.feeder_joiner p j h' h in
      let none : of_p.held ≡ [] = empty_front of_p.held link.rest (nothing_more j p h h') in
      sym (append-nil ((took j).from_feeder p)) ∙ ap (λ ms. (took j).from_feeder p ++ ms) (sym none) ∙ of_p.splits

  stopped : (p : ℕ) → p < setting.feeders → 0 < stops (agrees.taken_by_feeder p)
  stopped p h =
      let some : 0 < 2 ^ setting.k = pow_pos setting.k in
      let is : ends ((took 0).from_feeder p) ≡ stops (agrees.taken_by_feeder p) =
      ap ends (took_answers 0 p some h)
      ∙ answers_ends setting.k 0 rest.line.epoch rest.line.shift (feeder_start input setting rest p).batches
      (agrees.taken_by_feeder p) in
      let has = (rests 0 some).0 p h in
      omega (arith, is, has)

  -- ---- all joiners opened the same steps

  opened_is : (j : ℕ) → j < 2 ^ setting.k → opened (start j) (took j) ≡ length (order_epochs (agrees.taken_by_feeder 0))
  opened_is j h =
      let turned : turns ((took j).from_feeder 0) ≡ length (order_epochs (agrees.taken_by_feeder 0)) =
      ap turns (took_answers j 0 h valid.some)
      ∙ answers_turns setting.k j rest.line.epoch rest.line.shift (feeder_start input setting rest 0).batches
      (agrees.taken_by_feeder 0) in
      let above = greatest_above setting.feeders (λ i. turns ((took j).from_feeder i)) 0 valid.some in
      let below : opened (start j) (took j) ≤ turns ((took j).from_feeder 0) =
      elim (cases_lt (turns ((took j).from_feeder 0)) (opened (start j) (took j))) [
        | inl more ↦ let all = ((rests j h).1 (turns ((took j).from_feeder 0)) more).0 0 valid.some in
            absurd (omega (arith, all))
        | inr fine ↦ fine
      ] in
      omega (arith, turned, above, below)

  turned_opened : (i n : ℕ) → AllTurned (start i) (took i) n → n < opened (start i) (took i)
  turned_opened i n turned =
      omega
      (arith, turned 0 valid.some, greatest_above setting.feeders (λ p. turns ((took i).from_feeder p)) 0 valid.some)

  -- ---- partners

  goes : (j : ℕ) → j < 2 ^ setting.k → (n : ℕ) → n ≤ opened (start j) (took j) → shift_after (start j) (took j) n ≡ b n
  goes j h n low =
      goes_by input setting rest f agrees (λ e. shift_in input setting rest f agrees e)
      (feeders_go input setting rest f agrees) (begins input setting rest f agrees) j h n low

  abbrev low_of : ℕ → ℕ
  low_of n = min (b n) (b (n + 1))

  partner_is : (j : ℕ) → j < 2 ^ setting.k → (n : ℕ) → n < opened (start j) (took j)
      → partner_of (start j) (took j) n ≡ partner (low_of n) j
  partner_is j h n low =
      ap (λ c. partner_in_step c (shift_after (start j) (took j) (n + 1)) j) (goes j h n (omega arith))
      ∙ ap (λ c. partner_in_step (b n) c j) (goes j h (n + 1) (omega arith))

  -- what i sent to j is of a step in which they are partners
  of_step : (i j : ℕ) → i < 2 ^ setting.k → (xs ys : List ToJoiner) (m : ToJoiner)
      → xs ++ m ∷ ys ≡ (f.joiner i).to_joiner j
      → (e : ℕ) → IsOfEpoch e m
      → (n : ℕ) × (e ≡ rest.line.epoch + n + 1) × (n < opened (start i) (took i)) × (j ≡ partner (low_of n) i)
  of_step i j hi xs ys m sent e of_e =
      let law = agrees.joiners i hi in
      elim (shows e xs ys m of_e) [
        | inl moved ↦
            let r = law.moved_only j e (rw sent at moved) in
            (r.0, omega (arith, r.1), r.2, r.3 ∙ partner_is i hi r.0 r.2)
        | inr ended ↦
            let r = law.ended_only j e (rw sent at ended) in
            let low = turned_opened i r.0 r.2 in
            (r.0, omega (arith, r.1), low, r.3 ∙ partner_is i hi r.0 low)
      ]

  -- all steps are settled, and after the end of its part a joiner sends nothing of a step: so nothing is held or under
  -- way
  nothing_to_come : (j i : ℕ) → j < 2 ^ setting.k → i < 2 ^ setting.k → (more : List ToJoiner)
      → (took j).from_joiner i ++ more ≡ (f.joiner i).to_joiner j → more ≡ []
  nothing_to_come j i h hi [] sent = refl
  nothing_to_come j i h hi (m ∷ more) sent =
      let fall : NeverFalls rest.line.epoch ((took j).from_joiner i ++ m ∷ more) =
      subst (λ ms. NeverFalls rest.line.epoch ms) (sym sent) ((agrees.joiners i hi).never_falls j) in
      let here = at_least rest.line.epoch ((took j).from_joiner i) more m fall in
      let step = of_step i j hi ((took j).from_joiner i) more m sent here.0 here.1 in
      let n = step.0 in
      let before : n < opened (start j) (took j) = omega (arith, step.2, opened_is i hi, opened_is j h) in
      let other : partner_of (start j) (took j) n ≡ i =
      partner_is j h n before ∙ ap (partner (low_of n)) step.3 ∙ back_again (low_of n) i in
      let ended : 0 < moved_ends (rest.line.epoch + n + 1) ((took j).from_joiner i) =
      subst (λ q. 0 < moved_ends (rest.line.epoch + n + 1) ((took j).from_joiner q)) other
      ((rests j h).1 n before).1 in
      let after =
      later rest.line.epoch (rest.line.epoch + n + 1) here.0 ((took j).from_joiner i) more m fall ended here.1 in
      absurd (omega (arith, step.1, after))

  none_of_joiner : (j i : ℕ) (h : j < 2 ^ setting.k) (hi : i < 2 ^ setting.k)
      → ((agrees.joiners j h).of_joiners i hi).held ++ (agrees.joiner_joiner i j hi h).rest ≡ []
  none_of_joiner j i h hi =
      let of_i = (agrees.joiners j h).of_joiners i hi in
      let link = agrees.joiner_joiner i j hi h in
      nothing_to_come j i h hi (of_i.held ++ link.rest)
      (sym (append_assoc ((took j).from_joiner i) of_i.held link.rest) ∙ ap (λ ms. ms ++ link.rest) of_i.splits
      ∙ link.joins)

  all_of_joiner : (j i : ℕ) (h : j < 2 ^ setting.k) → i < 2 ^ setting.k
      → (took j).from_joiner i ≡ (f.joiner j).from_joiner i
  all_of_joiner j i h hi =
      let of_i = (agrees.joiners j h).of_joiners i hi in
      let none : of_i.held ≡ [] =
      empty_front of_i.held (agrees.joiner_joiner i j hi h).rest (none_of_joiner j i h hi) in
      sym (append-nil ((took j).from_joiner i)) ∙ ap (λ ms. (took j).from_joiner i ++ ms) (sym none) ∙ of_i.splits

  joiner_finished : (j : ℕ) (h : j < 2 ^ setting.k) → IsFinishedJoiner (start j) (f.joiner j) (took j)
  joiner_finished j h = (rests j h, λ p h'. all_of_feeder j p h h', λ i hi. all_of_joiner j i h hi)

  -- where the collector is complete, all is finished
  pub complete_finishes : IsFinished input setting rest f agrees
  complete_finishes = record { feeders = stopped; joiners = joiner_finished; collector = complete }

  -- ---- all that was sent was received

  finished : IsFinished input setting rest f agrees
  finished = complete_finishes

  to_feeder_came : (p : ℕ) (h : p < setting.feeders) → (f.feeder p).received ≡ f.controller.to_feeder p
  to_feeder_came p h =
      let law = agrees.feeders p h in
      let taken = ap length (took_sent input setting valid rest stands f agrees finished p h) in
      let sent = ap length (agrees.controller.sends p h) in
      let front = ap length law.splits in
      let parts = length-append (agrees.taken_by_feeder p) law.held in
      whole_of (f.feeder p).received (f.controller.to_feeder p) (agrees.controller_feeder p h)
      (omega (arith, taken, sent, front, parts))

  of_feeder_came : (p : ℕ) (h : p < setting.feeders) → f.controller.from_feeder p ≡ (f.feeder p).to_controller
  of_feeder_came p h =
      let came = ap length (all_came input setting valid rest stands f agrees finished p h) in
      let asked =
      front_length (f.feeder p).to_controller (requests (feeder_start input setting rest p))
      (agrees.feeders p h).asked in
      whole_of (f.controller.from_feeder p) (f.feeder p).to_controller (agrees.feeder_controller p h)
      (omega (arith, came, asked))

  -- a joiner has told each settled step once, and each has a line
  settled_came : (j : ℕ) (h : j < 2 ^ setting.k) → f.controller.from_joiner j ≡ (f.joiner j).to_controller
  settled_came j h =
      let law = agrees.joiners j h in
      let c = agrees.controller.settles j h in
      let follows = agrees.controller.follows in
      let said =
      ap length law.told ∙ length-map (counting_from (rest.line.epoch + 1) law.done) Settled
      ∙ length-counting_from (rest.line.epoch + 1) law.done in
      let done_low : law.done ≤ opened (start j) (took j) = elim (cases_lt (opened (start j) (took j)) law.done) [
        | inl more ↦
            let below = turned_opened j (opened (start j) (took j)) (law.settled (opened (start j) (took j)) more).0 in
            absurd (omega (arith, below))
        | inr fine ↦ fine
      ] in
      let orders =
      ap (λ ms. length (order_epochs ms)) (took_sent input setting valid rest stands f agrees finished 0 valid.some)
      ∙ ap length (orders_sent input setting rest f agrees 0)
      ∙ length-counting_from (rest.line.epoch + 1) (steps input setting rest f agrees) in
      let late = epoch_is input setting rest f agrees in
      let lines : rest.line.epoch + settle_lines j (agrees.controller.line ∷ agrees.controller.past)
      ≡ agrees.controller.line.epoch =
      (steps_of (rules_of setting) (begun rest.line)
      agrees.controller.line agrees.controller.past stands.line.fits.still follows).still
      (is_over_now input setting valid rest stands f agrees finished).0 j h in
      let epochs = lines_are_epochs j agrees.controller.line agrees.controller.past c.counted c.are_settled in
      let parts = length-append c.counted c.held in
      let split = ap length c.splits in
      let few = few_settled (f.controller.from_joiner j) in
      whole_of (f.controller.from_joiner j) (f.joiner j).to_controller (agrees.joiner_controller j h)
      (omega (arith, said, done_low, opened_is j h, orders, late, lines, epochs, parts, split, few))

  found_came : (j : ℕ) (h : j < 2 ^ setting.k) → f.collector.from_joiner j ≡ (f.joiner j).to_collector
  found_came j h =
      let law = agrees.joiners j h in
      let link = agrees.joiner_collector j h in
      let whole = link.joins ∙ law.to_collector in
      let one : length law.fins ≤ 1 = elim law.fin_last [
        | inl none ↦ let is = ap length none in omega (arith, is)
        | inr last ↦ let is = ap length last.0 in omega (arith, is)
      ] in
      let none = fin_whole law.founds law.fins (f.collector.from_joiner j) link.rest one whole (complete j h) in
      sym (append-nil (f.collector.from_joiner j)) ∙ ap (λ ms. f.collector.from_joiner j ++ ms) (sym none) ∙ link.joins

  -- on each link all that was sent was received
  pub all_received : IsAllReceived setting f
  all_received = record {
    feeder_joiner = λ p j h hj.
        let link = agrees.feeder_joiner p j h hj in
        let none = empty_back ((agrees.joiners j hj).of_feeders p h).held link.rest (nothing_more j p hj h) in
        sym (append-nil ((f.joiner j).from_feeder p)) ∙ ap (λ ms. (f.joiner j).from_feeder p ++ ms) (sym none)
        ∙ link.joins;
    joiner_joiner = λ i j h hj.
        let link = agrees.joiner_joiner i j h hj in
        let none = empty_back ((agrees.joiners j hj).of_joiners i h).held link.rest (none_of_joiner j i hj h) in
        sym (append-nil ((f.joiner j).from_joiner i)) ∙ ap (λ ms. (f.joiner j).from_joiner i ++ ms) (sym none)
        ∙ link.joins;
    controller_feeder = to_feeder_came;
    feeder_controller = of_feeder_came;
    joiner_controller = settled_came;
    joiner_collector = found_came;
  }
