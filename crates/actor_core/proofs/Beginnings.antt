-- A feeder's batches, and the machines that are there, at the beginning of a run.
use Rattle.std.proofs.Common.{◌≡◌, ℕ, zero, suc, ◌+◌, ◌<◌, ◌^◌, lt-ltb, refl, ap, ◌∙◌, cond, Some, None, List, [], ◌∷◌}
use Rattle.std.proofs.Common.{map, take, drop, ◌*◌, ◌/◌, ◌-◌, ap₂, length, arith}
use Rattle.std.specs.List.{range_with_len}
use Rattle.std.specs.Prelude.{slice_get}
use Rattle.std.proofs.lemmas.List.{length-map, take-map, drop-map}
use Rattle.reshuffler_core.specs.Batches.{cut}
use Rattle.epoch_tags.specs.declared.actor.Actor.{Actor}
use Rattle.epoch_tags.specs.declared.actor.Actor.TheVariants.{Feeder, Joiner, Controller, Collector}
use Rattle.trace_law.specs.declared.setting.Setting.{Setting}
use Rattle.actor_core.specs.Families.{IsActor}
use Rattle.actor_core.specs.Numbers.{cast_of, count_of, number}

-- ---- a feeder's batches

-- a feeder's batches of mapped rows are its batches, mapped
pub map-cut : {X Y : Type 0} (f : X → Y) (size : ℕ) (xs : List X) → cut size (map f xs) ≡ map (map f) (cut size xs)
map-cut f size xs =
    ap (λ n. map (λ i. take size (drop (i * size) (map f xs))) (range_with_len 0 ((n + size - 1) / size)))
    (length-map xs f)
    ∙ pieces (range_with_len 0 ((length xs + size - 1) / size))
  where
    pieces : (is : List ℕ)
        → map (λ i. take size (drop (i * size) (map f xs))) is
        ≡ map (map f) (map (λ i. take size (drop (i * size) xs)) is)
    pieces [] = refl
    pieces (i ∷ is) = ap₂ (λ y ys. y ∷ ys) (ap (take size) (drop-map f (i * size) xs)
        ∙ take-map f size (drop (i * size) xs)) (pieces is)

-- ---- what is there

-- each actor of a run has a number, which is below the number of all actors
pub has_number : (setting : Setting) (a : Actor) → IsActor setting a
    → (n : ℕ) × (number (cast_of setting) a ≡ Some n) × (n < count_of (cast_of setting))
has_number setting (Feeder p) is = (p, ap (λ b. cond b (Some p) None) (lt-ltb p setting.feeders is), omega arith)
has_number setting (Joiner j) is =
    (setting.feeders + j, ap (λ b. cond b (Some (setting.feeders + j)) None) (lt-ltb j (2 ^ setting.k) is), omega arith)
has_number setting Controller is = (setting.feeders + 2 ^ setting.k, refl, omega arith)
has_number setting Collector is = (setting.feeders + 2 ^ setting.k + 1, refl, omega arith)

-- below a list's length there is an element
pub there : {X : Type 0} (xs : List X) (n : ℕ) → n < length xs → (x : X) × (slice_get xs n ≡ Some x)
there [] n low = absurd (omega arith)
there (x ∷ xs) zero low = (x, refl)
there (x ∷ xs) (suc n) low = there xs n (omega arith)
