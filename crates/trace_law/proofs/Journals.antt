-- Feeders go by the journal's shifts, and so do the stores of every agreeing family.
use Rattle.std.proofs.Common.{◌≡◌, ℕ, ◌+◌, ◌^◌, ◌<◌, ◌≤◌, sym, ◌∙◌, ap, subst, List, ◌∷◌, ◌++◌, append_assoc}
use Rattle.std.specs.Prelude.{map, filter}
use Rattle.row_cells.specs.Lists.{SameBag}
use Rattle.epoch_tags.specs.declared.tuple.Tuple.{Tuple}
use Rattle.load_controller.specs.Journal.{begun, shift_at}
use Rattle.load_controller.specs.Law.{sent_by}
use Rattle.load_controller.proofs.Shifts.{each_shift, at_first_line}
use Rattle.joiner_law.specs.Law.{IsSettled, store}
use Rattle.trace_law.specs.declared.input.Input.{Input}
use Rattle.trace_law.specs.declared.setting.Setting.{Setting}
use Rattle.trace_law.specs.Family.{Rest, IsRestFor, Family, IsAgreeing, rules_of, joiner_start, aged}
use Rattle.trace_law.proofs.Stores.{is_stored}
use Rattle.trace_law.proofs.Membership.{HasAllOf}
use Rattle.trace_law.proofs.Arrivals.{stores_all, all_rows}
use Rattle.epoch_tags.specs.Orders.{GoesBy}
use Rattle.epoch_tags.proofs.EpochShifts.{goes-front}
use Rattle.load_controller.proofs.Sends.{all_sent_goes}

module _ (input : Input) (setting : Setting) (rest : Rest) (f : Family) (agrees : IsAgreeing input setting rest f) where
  -- the shift of each epoch of the family's journal
  abbrev pub shift_in : ℕ → ℕ
  shift_in e = shift_at rest.line.shift e (agrees.controller.line ∷ agrees.controller.past)

  -- the orders that a feeder took carry the shifts of the journal
  pub feeders_go : (p : ℕ) → p < setting.feeders → GoesBy shift_in (agrees.taken_by_feeder p)
  feeders_go p h =
      let law = agrees.feeders p h in
      let link = agrees.controller_feeder p h in
      let rules = rules_of setting in
      let whole : agrees.taken_by_feeder p
      ++ (law.held ++ link.rest) ≡ sent_by rules p (agrees.controller.line ∷ agrees.controller.past) =
      sym (append_assoc (agrees.taken_by_feeder p) law.held link.rest) ∙ ap (λ ms. ms ++ link.rest) law.splits
      ∙ link.joins ∙ agrees.controller.sends p h in
      let each =
      each_shift rules (begun rest.line)
      agrees.controller.line agrees.controller.past rest.line.shift agrees.controller.follows in
      goes-front shift_in (agrees.taken_by_feeder p) (law.held ++ link.rest)
      (subst (λ ms. GoesBy shift_in ms) (sym whole)
      (all_sent_goes shift_in rules p (agrees.controller.line ∷ agrees.controller.past) each))

  -- the shift of the first epoch is that of the rest's line
  pub begins : rest.line.shift ≡ shift_in rest.line.epoch
  begins =
      let rules = rules_of setting in
      at_first_line rules (begun rest.line) agrees.controller.line agrees.controller.past
      (λ l. l.shift ≡ shift_in l.epoch) agrees.controller.follows
      (each_shift rules (begun rest.line)
      agrees.controller.line agrees.controller.past rest.line.shift agrees.controller.follows)

  -- the older rows, and those that feeders were granted, with their stamps
  abbrev pub rows_known : List Tuple
  rows_known = all_rows input setting rest f agrees shift_in feeders_go begins

  -- in every agreeing family, a joiner that has settled n steps and to which all of the next epoch has come has stored
  -- just the rows of that epoch or older that it holds at its shift, each once
  pub stores_what_it_holds : IsRestFor input setting rest → 0 < setting.feeders → setting.k ≤ 8 → (n j : ℕ)
      → j < 2 ^ setting.k
      → ((m : ℕ) → m < n → IsSettled (joiner_start input setting rest j) (agrees.taken_by_joiner j) m)
      → HasAllOf setting.feeders (agrees.taken_by_joiner j) n
      → SameBag (map (aged rest.line) (store (joiner_start input setting rest j) (agrees.taken_by_joiner j) n))
      (filter (is_stored setting.k (shift_in (rest.line.epoch + n)) (rest.line.epoch + n) j) rows_known)
  stores_what_it_holds stands some small n j h settled has =
      stores_all input setting rest f agrees shift_in feeders_go begins stands some small n j h settled has
