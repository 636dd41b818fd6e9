-- In an agreeing family each request that came to the controller has its line.
use Rattle.std.proofs.Common.{◌≡◌, ℕ, ◌+◌, ◌^◌, ◌<◌, ◌≤◌, sym, ◌∙◌, ap, arith, List, ◌∷◌, ◌++◌, append_assoc}
use Rattle.row_cells.specs.Lists.{IsPrefix, total}
use Rattle.row_cells.proofs.Totals.{total_le, total_but}
use Rattle.epoch_tags.specs.Messages.{asked_r, asked_s}
use Rattle.epoch_tags.proofs.Appends.{asked_r-append, asked_s-append}
use Rattle.reshuffler_core.specs.Law.{requests}
use Rattle.reshuffler_core.proofs.TakesAll.{drains_last, fewer_r, fewer_s}
use Rattle.load_controller.proofs.Counted.{HaveLines, lines_r, lines_s, lines_r_within, lines_s_within, rows_r_counted}
use Rattle.load_controller.proofs.Counted.{rows_s_counted, counts_all}
use Rattle.trace_law.specs.declared.input.Input.{Input}
use Rattle.trace_law.specs.declared.setting.Setting.{Setting}
use Rattle.load_controller.specs.Journal.{begun}
use Rattle.trace_law.proofs.Begun.{no_drain}
use Rattle.trace_law.specs.Family.{Rest, Family, IsAgreeing, feeder_start, rules_of}

-- a front of a front is a front
pub IsPrefix-trans : {X : Type 0} {xs ys zs : List X} → IsPrefix xs ys → IsPrefix ys zs → IsPrefix xs zs
IsPrefix-trans {xs = xs} a b = record {
  rest = a.rest ++ b.rest;
  joins = sym (append_assoc xs a.rest b.rest) ∙ ap (λ ms. ms ++ b.rest) a.joins ∙ b.joins;
}

module _ (input : Input) (setting : Setting) (rest : Rest) (f : Family) (agrees : IsAgreeing input setting rest f) where
  -- how many rows all feeders have
  abbrev pub all_r : ℕ
  all_r = total setting.feeders (λ q. asked_r (requests (feeder_start input setting rest q)))

  -- and of S
  abbrev pub all_s : ℕ
  all_s = total setting.feeders (λ q. asked_s (requests (feeder_start input setting rest q)))

  -- what came of a feeder is the front of what it will ask
  pub came : (p : ℕ) → p < setting.feeders
      → IsPrefix (f.controller.from_feeder p) (requests (feeder_start input setting rest p))
  came p low = IsPrefix-trans (agrees.feeder_controller p low) ((agrees.feeders p low).asked)

  within_r : (p : ℕ) → p < setting.feeders
      → lines_r p (agrees.controller.line ∷ agrees.controller.past) ≤ asked_r (f.controller.from_feeder p)
  within_r p low =
      let c = agrees.controller.counts p low in
      let some = lines_r_within p agrees.controller.line agrees.controller.past c.counted c.are_counted in
      let whole = asked_r-append c.counted c.passed in
      let is = ap asked_r c.splits in
      omega arith

  within_s : (p : ℕ) → p < setting.feeders
      → lines_s p (agrees.controller.line ∷ agrees.controller.past) ≤ asked_s (f.controller.from_feeder p)
  within_s p low =
      let c = agrees.controller.counts p low in
      let some = lines_s_within p agrees.controller.line agrees.controller.past c.counted c.are_counted in
      let whole = asked_s-append c.counted c.passed in
      let is = ap asked_s c.splits in
      omega arith

  came_r : total setting.feeders (λ q. asked_r (f.controller.from_feeder q)) ≤ all_r
  came_r =
      total_le setting.feeders (λ q. asked_r (f.controller.from_feeder q))
      (λ q. asked_r (requests (feeder_start input setting rest q)))
      (λ q low. fewer_r (f.controller.from_feeder q) (requests (feeder_start input setting rest q)) (came q low))

  came_s : total setting.feeders (λ q. asked_s (f.controller.from_feeder q)) ≤ all_s
  came_s =
      total_le setting.feeders (λ q. asked_s (f.controller.from_feeder q))
      (λ q. asked_s (requests (feeder_start input setting rest q)))
      (λ q low. fewer_s (f.controller.from_feeder q) (requests (feeder_start input setting rest q)) (came q low))

  -- where there are few rows, each message that came of a feeder has its line
  pub have_lines : all_r + rest.line.rows_r ≤ 2 ^ 32 → all_s + rest.line.rows_s ≤ 2 ^ 32 → (p : ℕ) → p < setting.feeders
      → HaveLines p (agrees.controller.line ∷ agrees.controller.past) (f.controller.from_feeder p)
  have_lines small_r small_s p low =
      let line = agrees.controller.line in
      let past = agrees.controller.past in
      let is_r : line.rows_r ≡ rest.line.rows_r + total setting.feeders (λ q. lines_r q (line ∷ past)) =
      rows_r_counted (rules_of setting) (begun rest.line) line past agrees.controller.follows in
      let but_r =
      total_but setting.feeders p (λ q. lines_r q (line ∷ past)) (λ q. asked_r (f.controller.from_feeder q))
      low within_r in
      let few_r : line.rows_r + asked_r (f.controller.from_feeder p) ≤ lines_r p (line ∷ past) + 2 ^ 32 =
      omega (arith, came_r) in
      let is_s : line.rows_s ≡ rest.line.rows_s + total setting.feeders (λ q. lines_s q (line ∷ past)) =
      rows_s_counted (rules_of setting) (begun rest.line) line past agrees.controller.follows in
      let but_s =
      total_but setting.feeders p (λ q. lines_s q (line ∷ past)) (λ q. asked_s (f.controller.from_feeder q))
      low within_s in
      let few_s : line.rows_s + asked_s (f.controller.from_feeder p) ≤ lines_s p (line ∷ past) + 2 ^ 32 =
      omega (arith, came_s) in
      counts_all (rules_of setting) (begun rest.line) p (no_drain p rest.line.cause)
      (asked_r (f.controller.from_feeder p)) (asked_s (f.controller.from_feeder p))
      line past (f.controller.from_feeder p) agrees.controller.follows
      (drains_last (feeder_start input setting rest p) (f.controller.from_feeder p) (came p low)) (omega arith)
      (omega arith) few_r few_s
      (agrees.controller.counts p low)
