-- A bout in three parts: turns ahead, the turns of all, and the ends held together.
use Rattle.std.proofs.Common.{◌≡◌, ◌∙◌, ◌<◌, ℕ, ap, subst, List, length, map, slice_index_or}
use Rattle.join_runtime.specs.Views.{SeatView, frame_of}
use Rattle.join_runtime.specs.Turns.{AllStep, AllWork, IsAlike}
use Rattle.join_runtime.specs.Workers.{AllWorked}
use Rattle.join_runtime.specs.Bouts.{AllAdvance, NoneSpent}
use Rattle.join_runtime.proofs.SeatBouts.{all_advance, all_advance_after, frames_worked}

-- the frames stay through turns ahead and the turns of all
pub frames_so_far : (old begun standing worked : List SeatView) → standing ≡ begun
    → map frame_of begun ≡ map frame_of old
    → AllWorked standing worked → map frame_of worked ≡ map frame_of old
frames_so_far old begun standing worked is frames works =
    frames_worked standing worked works.len works.each ∙ ap (map frame_of) is ∙ frames

module _ (old begun standing worked : List SeatView) where
  -- some turns ahead, the turns of all, none of which is spent, and nothing else behind them: each seat has advanced
  pub all_went : (new : List SeatView) → standing ≡ begun → length begun ≡ length old
      → AllStep old begun → AllWorked standing worked → NoneSpent worked
      → ((n : ℕ) (d : SeatView) → n < length worked → IsAlike (slice_index_or worked n d) (slice_index_or new n d))
      → AllAdvance old new
  all_went new is long stepped works none alike =
      all_advance_after old begun new long stepped
      (all_advance begun worked new (works.len ∙ ap length is)
      (subst (λ xs. AllWork xs worked) is works.each) none alike)
