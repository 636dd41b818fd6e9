-- The worlds before the first event of a task are one.
use Rattle.std.proofs.Common.{◌≡◌, ℕ, suc, refl, sym, ◌∙◌, arith, List, [], ◌∷◌, length, Some}
use Rattle.std.specs.Prelude.{slice_get}
use Rattle.actor_core.specs.Families.{start_for}
use Rattle.actor_core.specs.FirstCores.{IsFirstAt}
use Rattle.actor_core.specs.Numbers.{actor_at, cast_of}
use Rattle.actor_core.proofs.OneFirstCore.{one_first}
use Rattle.link_trace.specs.FirstWorlds.{FirstWorldsAreOne}

-- lists as long as one another are one, where what may stand at a place is one
same_lists : {X : Type 0} (P : ℕ → X → Type 0) → ((n : ℕ) (x y : X) → P n x → P n y → x ≡ y) → (xs ys : List X)
    → length xs ≡ length ys → ((n : ℕ) (x : X) → slice_get xs n ≡ Some x → P n x)
    → ((n : ℕ) (y : X) → slice_get ys n ≡ Some y → P n y) → xs ≡ ys
same_lists P one [] [] long is is' = refl
same_lists P one [] (y ∷ ys) long is is' = absurd (omega (arith, long))
same_lists P one (x ∷ xs) [] long is is' = absurd (omega (arith, long))
same_lists P one (x ∷ xs) (y ∷ ys) long is is' =
    let first = one 0 x y (is 0 x refl) (is' 0 y refl) in
    let rest = same_lists (λ n. P (suc n)) (λ n. one (suc n)) xs ys (omega (arith, long))
    (λ n z there. is (suc n) z there) (λ n z there. is' (suc n) z there) in
    λ i. first i ∷ rest i

-- two worlds before the first event of a task are one
pub one_world : FirstWorldsAreOne
one_world task one two is is' =
    let same_cast = is.cast ∙ sym is'.cast in
    let same_cores = same_lists (IsFirstAt task)
    (λ n. one_first task.input.theta (start_for task (actor_at (cast_of task.setting) n)))
    one.cores two.cores (is.machines.all ∙ sym is'.machines.all) is.machines.each is'.machines.each in
    let same_waiting = is.waiting ∙ sym is'.waiting in
    λ i. record {
      cast = same_cast i;
      cores = same_cores i;
      waiting = same_waiting i;
    }
