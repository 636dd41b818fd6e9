-- The journal of a finished family: nothing comes after it is over, and all orders were taken.
use Rattle.std.proofs.Common.{◌≡◌, ℕ, ◌+◌, ◌<◌, inl, inr, refl, sym, ◌∙◌, ap, subst, arith, true, false, not, ◌&&◌}
use Rattle.std.proofs.Common.{List, [], ◌∷◌, ◌++◌, length, append_assoc, append-nil, reverse}
use Rattle.std.specs.Prelude.{map}
use Rattle.std.specs.List.{list_all}
use Rattle.std.proofs.lemmas.Bool.{cases_eq, cases_Bool, and_parts, not-true, true≢false, or_cases}
use mathlib.Core.List.{reverse-cons}
use Rattle.row_cells.specs.Lists.{counting_from}
use Rattle.epoch_tags.specs.declared.message.ToController.{ToController}
use Rattle.epoch_tags.specs.Messages.{stops, order_epochs, draineds}
use Rattle.reshuffler_core.specs.Law.{requests}
use Rattle.load_controller.specs.declared.line.TurnLine.{TurnLine}
use Rattle.load_controller.specs.Journal.{begun, Follows, has_drained, IsLawful, last_epoch}
use Rattle.load_controller.specs.Law.{AreCounted, cause_of, sent_by, is_over}
use Rattle.load_controller.proofs.Shifts.{last_is}
use Rattle.trace_law.specs.declared.input.Input.{Input}
use Rattle.trace_law.specs.Batches.{size_of}
use Rattle.trace_law.specs.declared.setting.Setting.{Setting}
use Rattle.trace_law.specs.Validity.{IsValid}
use Rattle.trace_law.specs.Family.{Rest, IsRestFor, Family, IsAgreeing, IsFinished, batches, rules_of, feeder_start}
use Rattle.trace_law.proofs.Begun.{no_drain}
use Rattle.trace_law.proofs.Steps.{steps, orders_sent}
use Rattle.trace_law.proofs.Finished.{E}
use Rattle.trace_law.proofs.Lawful.{lines_of, causes_are, journal_is, lawful_so_far, causes_asked}
use Rattle.epoch_tags.proofs.Appends.{nothing_left, nothing_asked}
use Rattle.row_cells.proofs.RisingNumbers.{length-counting_from}
use Rattle.trace_law.proofs.Lines.{came}
use Rattle.epoch_tags.specs.Orders.{StopsLast, DrainsLast}
use Rattle.load_controller.proofs.Sends.{stops_last, going, no_stops}
use Rattle.load_controller.proofs.Over.{over_drained}
use Rattle.load_controller.proofs.Counted.{undrained}
use Rattle.reshuffler_core.proofs.TakesAll.{drains_last}

module _ (input : Input) (setting : Setting) (rest : Rest) (f : Family) (agrees : IsAgreeing input setting rest f) where
  -- the controller's last line
  abbrev pub line : TurnLine
  line = agrees.controller.line

  -- and the lines before it
  abbrev pub past : List TurnLine
  past = agrees.controller.past

  counted : (q : ℕ) → q < setting.feeders → (ms : List ToController) × AreCounted q (line ∷ past) ms
  counted q low = let c = agrees.controller.counts q low in (c.counted, c.are_counted)

  -- a stop is the last that was sent
  pub sent_last : (p : ℕ) → StopsLast (sent_by (rules_of setting) p (line ∷ past))
  sent_last p = stops_last (rules_of setting) (begun rest.line) line past p agrees.controller.follows counted

  -- a past that is over has just ended, with all feeders drained
  pub over_now : is_over setting.feeders (line ∷ past) ≡ true
      → (line.moving ≡ false) × ((p : ℕ) → p < setting.feeders → has_drained p (line ∷ past) ≡ true)
  over_now over = (
    still past agrees.controller.follows counted over,
    λ p low. over_drained setting.feeders p (line ∷ past) low over,
  )
    where
      still_here : (l : TurnLine) (ls : List TurnLine) → is_over setting.feeders ls ≡ false
          → is_over setting.feeders (l ∷ ls) ≡ true → l.moving ≡ false
      still_here l ls going over =
          let drained = list_all (λ q. has_drained q (l ∷ ls)) (counting_from 0 setting.feeders) in
          elim (or_cases (not l.moving && drained) (is_over setting.feeders ls) over) [
            | inl here ↦ not-true l.moving (and_parts (not l.moving) drained here).0
            | inr before ↦ absurd (true≢false (sym before ∙ going))
          ]

      still : (ls : List TurnLine) → Follows (rules_of setting) (begun rest.line) (line ∷ ls)
          → ((q : ℕ) → q < setting.feeders → (ms : List ToController) × AreCounted q (line ∷ ls) ms)
          → is_over setting.feeders (line ∷ ls) ≡ true → line.moving ≡ false
      still [] follows counts over = still_here line [] refl over
      still (before ∷ ls) follows counts over =
          still_here line (before ∷ ls) (going (rules_of setting) (begun rest.line) line before ls follows counts) over

-- ---- of a finished family

module _ (input : Input) (setting : Setting) (valid : IsValid input setting) (rest : Rest)
    (stands : IsRestFor input setting rest) (f : Family) (agrees : IsAgreeing input setting rest f)
    (finished : IsFinished input setting rest f agrees) where
  -- a feeder took all that it was sent
  pub took_sent : (p : ℕ) (h : p < setting.feeders)
      → agrees.taken_by_feeder p ≡ sent_by (rules_of setting) p (agrees.controller.line ∷ agrees.controller.past)
  took_sent p h =
      let law = agrees.feeders p h in
      let link = agrees.controller_feeder p h in
      let whole : agrees.taken_by_feeder p
      ++ (law.held ++ link.rest) ≡ sent_by (rules_of setting) p (agrees.controller.line ∷ agrees.controller.past) =
      sym (append_assoc (agrees.taken_by_feeder p) law.held link.rest) ∙ ap (λ ms. ms ++ link.rest) law.splits
      ∙ link.joins ∙ agrees.controller.sends p h in
      let none =
      nothing_left (agrees.taken_by_feeder p) (law.held ++ link.rest)
      (subst StopsLast (sym whole) (sent_last input setting rest f agrees p)) (finished.feeders p h) in
      sym (append-nil (agrees.taken_by_feeder p)) ∙ ap (λ ms. agrees.taken_by_feeder p ++ ms) (sym none) ∙ whole

  -- the feeders took an order for each step
  pub last_orders : steps input setting rest f agrees ≡ E input setting valid rest stands f agrees finished
  last_orders =
      sym (length-counting_from (rest.line.epoch + 1) (steps input setting rest f agrees))
      ∙ ap length (sym (orders_sent input setting rest f agrees 0))
      ∙ ap (λ ms. length (order_epochs ms)) (sym (took_sent 0 valid.some))

  -- the last epoch is that of the controller's last line
  pub last_line : last_epoch f.controller.journal ≡ agrees.controller.line.epoch
  last_line =
      ap last_epoch
      (journal_is input setting valid rest stands f agrees ∙ reverse-cons agrees.controller.line agrees.controller.past)
      ∙ last_is (reverse agrees.controller.past) agrees.controller.line

  -- by the last line no step is open and all feeders have drained
  pub is_over_now : (agrees.controller.line.moving ≡ false)
      × ((p : ℕ) → p < setting.feeders → has_drained p (agrees.controller.line ∷ agrees.controller.past) ≡ true)
  is_over_now =
      let some : 0 < stops (sent_by (rules_of setting) 0 (agrees.controller.line ∷ agrees.controller.past)) =
      subst (λ ms. 0 < stops ms) (took_sent 0 valid.some) (finished.feeders 0 valid.some) in
      over_now input setting rest f agrees
      (elim (cases_Bool (is_over setting.feeders (agrees.controller.line ∷ agrees.controller.past))) [
        | inl over ↦ over
        | inr going ↦
            let none = no_stops (rules_of setting) 0 (agrees.controller.line ∷ agrees.controller.past) going in
            absurd (omega arith)
      ])

  -- all that a feeder asks for came to the controller
  pub all_came : (p : ℕ) → p < setting.feeders
      → f.controller.from_feeder p ≡ requests (feeder_start input setting rest p)
  all_came p low =
      let front = came input setting rest f agrees p low in
      let of_past = lines_of input setting valid rest stands f agrees p low in
      let said : 0 < draineds (f.controller.from_feeder p) = elim (cases_eq (draineds (f.controller.from_feeder p)) 0) [
        | inl none ↦
            absurd
            (true≢false
            (sym (is_over_now.1 p low)
            ∙ undrained (rules_of setting) (begun rest.line)
            agrees.controller.line agrees.controller.past p agrees.controller.follows (no_drain p rest.line.cause)
            (of_past.drains ∙ none)))
        | inr more ↦ omega arith
      ] in
      let last =
      drains_last (feeder_start input setting rest p) (requests (feeder_start input setting rest p)) (record {
        rest = [];
        joins = append-nil (requests (feeder_start input setting rest p));
      }) in
      let none = nothing_asked (f.controller.from_feeder p) front.rest (subst DrainsLast (sym front.joins) last) said in
      sym (append-nil (f.controller.from_feeder p)) ∙ ap (λ ms. f.controller.from_feeder p ++ ms) (sym none)
      ∙ front.joins

  -- the journal of a finished family is lawful
  pub lawful : IsLawful (rules_of setting) (begun rest.line) (λ p. map size_of (batches input setting rest.line p))
      f.controller.journal
  lawful = record {
    so_far = lawful_so_far input setting valid rest stands f agrees;
    counted =
        λ p low. causes_are input setting valid rest stands f agrees p low ∙ ap (map (cause_of p)) (all_came p low)
        ∙ causes_asked input p (batches input setting rest.line p);
    ended = λ line past is.
        let same : line ≡ agrees.controller.line =
        head_same line agrees.controller.line past agrees.controller.past (sym is ∙ agrees.controller.journal) in
        ap (λ l. l.moving) same ∙ is_over_now.0;
  }
    where
      head_same : (a c : TurnLine) (xs ys : List TurnLine) → a ∷ xs ≡ c ∷ ys → a ≡ c
      head_same a c xs ys is = cc
