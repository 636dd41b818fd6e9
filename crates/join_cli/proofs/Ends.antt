-- A run of well-formed files ends well.
use Rattle.std.proofs.Common.{◌≡◌, ◌⊎◌, ◌+◌, ◌≤◌, ◌<◌, ◌^◌, inl, inr, ℕ, List, Option, None, Some, Result, Ok, Err}
use Rattle.std.proofs.Common.{ap, arith, length, refl, subst}
use Rattle.std.specs.Prelude.{IfSome, is_some, true}
use Rattle.join_rows.specs.Shelves.{Told}
use Rattle.trace_law.specs.Join.{nested_loop}
use Rattle.join_words.specs.Words.{Asked, is_early}
use Rattle.join_plan.specs.declared.fault.LimitFault.TheVariants.{Between, TooLong, TooMany, Total}
use Rattle.join_plan.specs.declared.fault.Refusal.{Refusal}
use Rattle.join_plan.specs.declared.fault.Refusal.TheVariants as refusals
use Rattle.join_plan.specs.declared.fitting.Planned.{Planned}
use Rattle.join_plan.specs.declared.fitting.Third.{Third}
use Rattle.join_plan.specs.Plan.{IsAsked, IsPlanOf}
use Rattle.join_plan.proofs.Readings.{one_plan}
use Rattle.join_cli.specs.declared.outcome.Outcome.{Outcome}
use Rattle.join_cli.specs.declared.outcome.Outcome.TheVariants as outcomes
use Rattle.join_cli.specs.Chain.{IsFewBetween}
use Rattle.join_cli.specs.Courses.{Course}
use Rattle.join_cli.specs.Ends.{Concludes, ConcludesBy, EndsAs, IsDone, IsEndOf, IsHalted, IsMade, IsSomeCourse}
use Rattle.join_cli.specs.Ends.{TakesEach, Wrote, WroteFront, WroteSoFar, course_of}
use Rattle.join_cli.specs.Outcomes.{outcome_of}
use Rattle.join_cli.specs.Plan.{input_of}
use Rattle.join_cli.proofs.EarlyOutput.{nothing_written}
use Rattle.join_cli.proofs.Seen.{no_plan}

-- a plan that was carried out has an end of it, unless a put failed or memory ran out
end_of : (asked : Asked) (planned : Planned) (old new : Option (List ℕ)) (outcome : Outcome)
    → Concludes asked planned old new outcome → (outcome ≡ outcomes.Write → ⊥)
    → (outcome ≡ outcomes.Memory) ⊎ IsEndOf asked planned outcome
end_of asked planned old new (outcomes.Done journal trail) (course, written) put = inr course
end_of asked planned old new (outcomes.DoneGroups journals trail) (course, written) put = inr course
end_of asked planned old new (outcomes.DoneChain first second trail) (course, written) put = inr course
end_of asked planned old new (outcomes.DoneRings journal ends back) (course, written) put = inr course
end_of asked planned old new outcomes.Memory concludes put = inl refl
end_of asked planned old new outcomes.Write concludes put = absurd (put refl)
end_of asked planned old new (outcomes.Limit (Between pairs)) (between, same) put = inr between
end_of asked planned old new (outcomes.Limit (TooLong side wave)) concludes put = elim concludes [ ]
end_of asked planned old new (outcomes.Limit (TooMany side wave)) concludes put = elim concludes [ ]
end_of asked planned old new (outcomes.Limit (Total side wave rows)) concludes put = elim concludes [ ]
end_of asked planned old new (outcomes.Words _) concludes put = elim concludes [ ]
end_of asked planned old new (outcomes.Predicate _) concludes put = elim concludes [ ]
end_of asked planned old new (outcomes.Then _) concludes put = elim concludes [ ]
end_of asked planned old new (outcomes.Input _) concludes put = elim concludes [ ]
end_of asked planned old new outcomes.Read concludes put = elim concludes [ ]

-- so where the shelf tells its files, the outcome is one of the plan
pub ends_concluded : (told : Told) (asked : Asked) (planned : Planned) (old new : Option (List ℕ)) (outcome : Outcome)
    → Concludes asked planned old new outcome → (outcome ≡ outcomes.Write → ⊥)
    → ((files : List ℕ → Option (List ℕ)) → told ≡ Some files
    → (◌≡◌ {A = Result Planned Refusal} (Ok planned) (Err refusals.Memory)) ⊎ IsPlanOf asked files (Ok planned))
    → EndsAs told asked outcome
ends_concluded None asked planned old new outcome concludes put h = tt
ends_concluded (Some files) asked planned old new outcome concludes put h = elim (h files refl) [
  | inl m ↦ absurd (cc m)
  | inr of ↦ elim (end_of asked planned old new outcome concludes put) [
    | inl memory ↦ inl memory
    | inr end ↦ inr (record { plan = Ok planned; of = of; end = end })
  ]
]

-- what was written, by the outcome
pub wrote : (told : Told) (asked : Asked) (planned : Planned) (old new : Option (List ℕ)) (outcome : Outcome)
    → IsAsked told asked planned → Concludes asked planned old new outcome
    → (way : Course) → course_of outcome ≡ Some way → Wrote told asked way old new
wrote told asked planned old new outcome found concludes way is =
    let ends = subst (ConcludesBy asked planned old new outcome) is concludes in
    record { planned = planned; found = found; course = ends.0; written = ends.1 }

-- a front of it, where a put failed
pub wrote_front : (told : Told) (asked : Asked) (planned : Planned) (old new : Option (List ℕ)) (outcome : Outcome)
    → IsAsked told asked planned → Concludes asked planned old new outcome
    → outcome ≡ outcomes.Write → WroteFront told asked old new
wrote_front told asked planned old new outcome found concludes is =
    record { planned = planned; found = found; front = subst (Concludes asked planned old new) is concludes }

-- some of it, where memory ran out
pub wrote_so_far : (told : Told) (asked : Asked) (planned : Planned) (old new : Option (List ℕ)) (outcome : Outcome)
    → IsAsked told asked planned → Concludes asked planned old new outcome
    → outcome ≡ outcomes.Memory → (new ≡ old) ⊎ WroteSoFar told asked old new
wrote_so_far told asked planned old new outcome found concludes is =
    inr (record { planned = planned; found = found; lines = subst (Concludes asked planned old new) is concludes })

-- there are so many pairs that a second join doesn't take them
abbrev pub IsTold : Outcome → Type 0
IsTold outcome = (pairs : ℕ) × (outcome ≡ outcomes.Limit (Between pairs))

-- a plan that is carried out isn't refused, but for too many pairs
pub concludes_well : (asked : Asked) (planned : Planned) (old new : Option (List ℕ)) (outcome : Outcome)
    → Concludes asked planned old new outcome
    → IsDone outcome ⊎ ((outcome ≡ outcomes.Write) ⊎ ((outcome ≡ outcomes.Memory) ⊎ IsTold outcome))
concludes_well asked planned old new (outcomes.Done journal trail) concludes = inl tt
concludes_well asked planned old new (outcomes.DoneGroups journals trail) concludes = inl tt
concludes_well asked planned old new (outcomes.DoneChain first second trail) concludes = inl tt
concludes_well asked planned old new (outcomes.DoneRings journal ends back) concludes = inl tt
concludes_well asked planned old new outcomes.Write concludes = inr (inl refl)
concludes_well asked planned old new outcomes.Memory concludes = inr (inr (inl refl))
concludes_well asked planned old new (outcomes.Limit (Between pairs)) concludes = inr (inr (inr (pairs, refl)))
concludes_well asked planned old new (outcomes.Limit (TooLong side wave)) concludes = elim concludes [ ]
concludes_well asked planned old new (outcomes.Limit (TooMany side wave)) concludes = elim concludes [ ]
concludes_well asked planned old new (outcomes.Limit (Total side wave rows)) concludes = elim concludes [ ]
concludes_well asked planned old new (outcomes.Words _) concludes = elim concludes [ ]
concludes_well asked planned old new (outcomes.Predicate _) concludes = elim concludes [ ]
concludes_well asked planned old new (outcomes.Then _) concludes = elim concludes [ ]
concludes_well asked planned old new (outcomes.Input _) concludes = elim concludes [ ]
concludes_well asked planned old new outcomes.Read concludes = elim concludes [ ]

-- and its refusal is, where it was refused
pub ends_refused : (told : Told) (asked : Asked) (refusal : Refusal)
    → ((files : List ℕ → Option (List ℕ)) → told ≡ Some files
    → (no_plan refusal ≡ no_plan refusals.Memory) ⊎ IsPlanOf asked files (no_plan refusal))
    → EndsAs told asked (outcome_of refusal)
ends_refused None asked refusal h = tt
ends_refused (Some files) asked refusal h = elim (h files refl) [
  | inl m ↦ let same : refusal ≡ refusals.Memory = cc m in inl (ap outcome_of same)
  | inr of ↦ inr (record { plan = no_plan refusal; of = of; end = refl })
]

-- a plan that is one isn't refused, but for want of memory
pub complete_refused : (asked : Asked) (files : List ℕ → Option (List ℕ)) (refusal : Refusal) (planned : Planned)
    → (no_plan refusal ≡ no_plan refusals.Memory) ⊎ IsPlanOf asked files (no_plan refusal)
    → IsPlanOf asked files (Ok planned)
    → IsDone (outcome_of refusal) ⊎ (outcome_of refusal ≡ outcomes.Memory)
complete_refused asked files refusal planned found is = elim found [
  | inl m ↦ let same : refusal ≡ refusals.Memory = cc m in inr (ap outcome_of same)
  | inr of ↦ absurd (cc (one_plan asked files (no_plan refusal) (Ok planned) of is))
]

-- and it is the one that is made
pub complete_made : (asked : Asked) (files : List ℕ → Option (List ℕ)) (made planned : Planned)
    → (◌≡◌ {A = Result Planned Refusal} (Ok made) (Err refusals.Memory)) ⊎ IsPlanOf asked files (Ok made)
    → IsPlanOf asked files (Ok planned) → made ≡ planned
complete_made asked files made planned found is = elim found [
  | inl m ↦ absurd (cc m)
  | inr of ↦ cc (one_plan asked files (Ok made) (Ok planned) of is)
]

-- a sink that takes each output takes the bytes that were made
pub takes_made : (takes : ℕ → Type 0) (asked : Asked) (planned : Planned) (bytes : List ℕ) (way : Option Course)
    → IsMade asked planned bytes way → TakesEach takes asked planned → takes (length bytes + 0)
takes_made takes asked planned bytes None made each = absurd made
takes_made takes asked planned bytes (Some way) made each =
    let none : length bytes ≡ length bytes + 0 = omega arith in
    subst takes none (each.each way bytes made.0 made.1)

-- where a text was made it is done
pub made_done : (asked : Asked) (planned : Planned) (bytes : List ℕ) (way : Option Course)
    → IsMade asked planned bytes way → IsSomeCourse way
made_done asked planned bytes None made = made
made_done asked planned bytes (Some way) made = tt

-- ---- no text was made

-- nothing is written then, and the plan ends so
pub halted_concludes : (asked : Asked) (planned : Planned) (written : Option (List ℕ)) (outcome : Outcome)
    → IsHalted asked planned outcome → Concludes asked planned written written outcome
halted_concludes asked planned written outcomes.Memory halted =
    nothing_written (is_early asked.kind) asked planned written
halted_concludes asked planned written (outcomes.Limit (Between pairs)) halted = (halted, refl)
halted_concludes asked planned written (outcomes.Limit (TooLong side wave)) halted = elim halted [ ]
halted_concludes asked planned written (outcomes.Limit (TooMany side wave)) halted = elim halted [ ]
halted_concludes asked planned written (outcomes.Limit (Total side wave rows)) halted = elim halted [ ]
halted_concludes asked planned written (outcomes.Done _ _) halted = elim halted [ ]
halted_concludes asked planned written (outcomes.DoneGroups _ _) halted = elim halted [ ]
halted_concludes asked planned written (outcomes.DoneChain _ _ _) halted = elim halted [ ]
halted_concludes asked planned written (outcomes.DoneRings _ _ _) halted = elim halted [ ]
halted_concludes asked planned written (outcomes.Words _) halted = elim halted [ ]
halted_concludes asked planned written (outcomes.Predicate _) halted = elim halted [ ]
halted_concludes asked planned written (outcomes.Then _) halted = elim halted [ ]
halted_concludes asked planned written (outcomes.Input _) halted = elim halted [ ]
halted_concludes asked planned written outcomes.Read halted = elim halted [ ]
halted_concludes asked planned written outcomes.Write halted = elim halted [ ]

-- it isn't for a put
pub halted_no_write : (asked : Asked) (planned : Planned) (outcome : Outcome) → IsHalted asked planned outcome
    → outcome ≡ outcomes.Write → ⊥
halted_no_write asked planned outcome halted is = subst (IsHalted asked planned) is halted

-- too many pairs aren't few
many_or_few : (third : Option Third) (n : ℕ) → is_some third ≡ true → 2 ^ 18 < n → IfSome third (λ _. n ≤ 2 ^ 18) → ⊥
many_or_few None n chained many few = cc chained
many_or_few (Some third) n chained many few = absurd (omega (arith, many, few))

-- and where the pairs are few, memory ran out
pub halted_few : (asked : Asked) (planned : Planned) (outcome : Outcome) → IsHalted asked planned outcome
    → IsFewBetween asked planned → IsDone outcome ⊎ (outcome ≡ outcomes.Memory)
halted_few asked planned outcomes.Memory halted few = inr refl
halted_few asked planned (outcomes.Limit (Between pairs)) halted few =
    let many : 2 ^ 18 < length (nested_loop (input_of asked.seed planned)) =
    subst (λ n. 2 ^ 18 < n) halted.are halted.many in
    absurd (many_or_few planned.third (length (nested_loop (input_of asked.seed planned))) halted.chained many few)
halted_few asked planned (outcomes.Limit (TooLong side wave)) halted few = elim halted [ ]
halted_few asked planned (outcomes.Limit (TooMany side wave)) halted few = elim halted [ ]
halted_few asked planned (outcomes.Limit (Total side wave rows)) halted few = elim halted [ ]
halted_few asked planned (outcomes.Done _ _) halted few = elim halted [ ]
halted_few asked planned (outcomes.DoneGroups _ _) halted few = elim halted [ ]
halted_few asked planned (outcomes.DoneChain _ _ _) halted few = elim halted [ ]
halted_few asked planned (outcomes.DoneRings _ _ _) halted few = elim halted [ ]
halted_few asked planned (outcomes.Words _) halted few = elim halted [ ]
halted_few asked planned (outcomes.Predicate _) halted few = elim halted [ ]
halted_few asked planned (outcomes.Then _) halted few = elim halted [ ]
halted_few asked planned (outcomes.Input _) halted few = elim halted [ ]
halted_few asked planned outcomes.Read halted few = elim halted [ ]
halted_few asked planned outcomes.Write halted few = elim halted [ ]
