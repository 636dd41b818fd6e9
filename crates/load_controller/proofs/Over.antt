-- When all is over: the last line isn't moving, and all feeders have drained.
use Rattle.std.proofs.Common.{◌≡◌, ℕ, ◌<◌, inl, inr, refl, sym, ap, arith, true, false, not, ◌&&◌, List, [], ◌∷◌}
use Rattle.std.specs.List.{list_all}
use Rattle.std.proofs.lemmas.Bool.{or_cases, or_left, or_right, and_parts, and_from, or_parts, true≢false}
use Rattle.row_cells.specs.Lists.{counting_from}
use Rattle.load_controller.specs.declared.line.TurnLine.{TurnLine}
use Rattle.load_controller.specs.Journal.{has_drained, is_drain_of}
use Rattle.load_controller.specs.Law.{is_over}
use Rattle.load_controller.proofs.Counted.{drain_lines}
use Rattle.row_cells.proofs.RisingNumbers.{one_passes, every_passes}

-- where it is over each feeder has drained
pub over_drained : (feeders p : ℕ) (past : List TurnLine) → p < feeders → is_over feeders past ≡ true
    → has_drained p past ≡ true
over_drained feeders p [] low over = absurd (true≢false (sym over))
over_drained feeders p (line ∷ past) low over =
    elim (or_cases (not line.moving && list_all (λ q. has_drained q (line ∷ past)) (counting_from 0 feeders))
    (is_over feeders past) over) [
      | inl here ↦ one_passes (λ q. has_drained q (line ∷ past)) p 0 feeders (omega arith) (omega arith)
          (and_parts (not line.moving) (list_all (λ q. has_drained q (line ∷ past)) (counting_from 0 feeders)) here).1
      | inr before ↦ or_right (is_drain_of p line.cause) (has_drained p past) (over_drained feeders p past low before)
    ]

-- and the other way round
pub over_where : (feeders : ℕ) (line : TurnLine) (past : List TurnLine) → line.moving ≡ false
    → ((p : ℕ) → p < feeders → has_drained p (line ∷ past) ≡ true) → is_over feeders (line ∷ past) ≡ true
over_where feeders line past still drained =
    or_left (not line.moving && list_all (λ q. has_drained q (line ∷ past)) (counting_from 0 feeders))
    (is_over feeders past)
    (and_from (not line.moving) (list_all (λ q. has_drained q (line ∷ past)) (counting_from 0 feeders)) (ap not still)
    (every_passes (λ q. has_drained q (line ∷ past)) 0 feeders (λ q low. drained q (omega arith))))

-- a feeder that has not drained has no line that says so
pub no_drain_lines : (p : ℕ) (past : List TurnLine) → has_drained p past ≡ false → drain_lines p past ≡ 0
no_drain_lines p [] none = refl
no_drain_lines p (line ∷ []) none = refl
no_drain_lines p (line ∷ before ∷ past) none =
    let parts = or_parts (is_drain_of p line.cause) (has_drained p (before ∷ past)) none in
    let old = no_drain_lines p (before ∷ past) parts.1 in
    rw parts.0 (omega arith)
