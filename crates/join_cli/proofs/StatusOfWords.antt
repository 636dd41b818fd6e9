-- The status of a run is that of its plan.
use Rattle.std.proofs.Common.{◌≡◌, ◌≢◌, ◌⊎◌, ◌∙◌, inl, inr, ℕ, List, Option, Some, Result, Ok, Err, ap, refl, sym}
use Rattle.std.proofs.Common.{subst, arith}
use Rattle.join_rows.specs.declared.shelf.Shelf.{Ghosts as ShelfGhosts}
use Rattle.join_rows.specs.declared.sink.Sink.{Ghosts as SinkGhosts}
use Rattle.join_rows.specs.Shelves.{Told}
use Rattle.join_words.specs.Words.{Asked, asked_of}
use Rattle.join_words.specs.declared.options.WordsFault.{WordsFault}
use Rattle.join_plan.specs.declared.fault.LimitFault.TheVariants.{Between, TooLong, TooMany, Total}
use Rattle.join_plan.specs.declared.fault.Refusal.{Refusal}
use Rattle.join_plan.specs.declared.fitting.Planned.{Planned}
use Rattle.join_cli.specs.declared.outcome.Outcome.{Outcome}
use Rattle.join_cli.specs.declared.outcome.Outcome.TheVariants as outcomes
use Rattle.join_cli.specs.Ends.{EndsAs, IsEndOf, IsOutcomeOf}
use Rattle.join_cli.specs.ExitStatus.{status_of}
use Rattle.join_cli.specs.Promises.{RanAs}
use Rattle.join_cli.specs.StatusOfWords.{IsStatusOf, IsStatusOver}

-- a plan that was carried out has the status 0, or its first join has too many pairs
end_status : (asked : Asked) (planned : Planned) (outcome : Outcome) → IsEndOf asked planned outcome
    → IsStatusOf asked (Ok planned) (status_of outcome)
end_status asked planned (outcomes.Done journal trail) ends = inl refl
end_status asked planned (outcomes.DoneGroups journals trail) ends = inl refl
end_status asked planned (outcomes.DoneChain first second trail) ends = inl refl
end_status asked planned (outcomes.DoneRings journal left back) ends = inl refl
end_status asked planned (outcomes.Limit (Between pairs)) ends = inr (refl, (pairs, ends))
end_status asked planned (outcomes.Limit (TooLong side wave)) ends = absurd ends
end_status asked planned (outcomes.Limit (TooMany side wave)) ends = absurd ends
end_status asked planned (outcomes.Limit (Total side wave rows)) ends = absurd ends
end_status asked planned (outcomes.Words fault) ends = absurd ends
end_status asked planned (outcomes.Predicate fault) ends = absurd ends
end_status asked planned (outcomes.Then fault) ends = absurd ends
end_status asked planned (outcomes.Input fault) ends = absurd ends
end_status asked planned outcomes.Read ends = absurd ends
end_status asked planned outcomes.Write ends = absurd ends
end_status asked planned outcomes.Memory ends = absurd ends

-- and a refused one that of its refusal
plan_status : (asked : Asked) (plan : Result Planned Refusal) (outcome : Outcome) → IsOutcomeOf asked plan outcome
    → IsStatusOf asked plan (status_of outcome)
plan_status asked (Ok planned) outcome ends = end_status asked planned outcome ends
plan_status asked (Err refusal) outcome ends = ap status_of ends

-- memory ran out, or this holds of the status of an outcome
abbrev Either : (ℕ → Type 0) → Outcome → Type 0
Either Is outcome = (status_of outcome ≡ 8) ⊎ Is (status_of outcome)

-- over told files the status is that of their plan
asked_status : (told : Told) (files : List ℕ → Option (List ℕ)) (asked : Asked) (outcome : Outcome) → told ≡ Some files
    → EndsAs told asked outcome → Either (IsStatusOver (Ok asked) files) outcome
asked_status told files asked outcome tells ends =
    elim (subst (λ (t : Told). EndsAs t asked outcome) tells ends) [
      | inl memory ↦ inl (ap status_of memory)
      | inr over ↦ inr (over.plan, over.of, plan_status asked over.plan outcome over.end)
    ]

-- and of words that ask for nothing it is 2
words_status : (files : List ℕ → Option (List ℕ)) (fault : WordsFault) (outcome : Outcome)
    → (outcome ≡ outcomes.Words fault) ⊎ (outcome ≡ outcomes.Memory) → Either (IsStatusOver (Err fault) files) outcome
words_status files fault outcome (inl is) = inr (ap status_of is)
words_status files fault outcome (inr memory) = inl (ap status_of memory)

-- so of words and files that the shelf tells
pub ran_over : {H K : Type 0} (h : ShelfGhosts H) (k : SinkGhosts K) (words : List (List ℕ))
    (old new : H) (before after : K) (IsTold : Outcome → Type 0) (status : ℕ)
    → RanAs h k words old new before after IsTold status
    → (files : List ℕ → Option (List ℕ)) → h.told old ≡ Some files
    → h.faults new ≡ h.faults old → k.faults after ≡ k.faults before
    → (status ≡ 8) ⊎ IsStatusOver (asked_of words) files status
ran_over h k words old new before after IsTold status ran = λ files tells same same_sink.
    subst (λ n. (n ≡ 8) ⊎ IsStatusOver (asked_of words) files n) (sym ran.is)
    (by files tells same same_sink (asked_of words) refl)
  where
    by : (files : List ℕ → Option (List ℕ)) → h.told old ≡ Some files
        → h.faults new ≡ h.faults old → k.faults after ≡ k.faults before
        → (found : Result Asked WordsFault) → asked_of words ≡ found → Either (IsStatusOver found files) ran.outcome
    by files tells same same_sink (Ok asked) is =
        asked_status (h.told old) files asked ran.outcome tells ((ran.promises.answers asked is).answer same same_sink)
    by files tells same same_sink (Err fault) is =
        words_status files fault ran.outcome (ran.promises.words_fault fault is).0

-- only an outcome of reading has the status 6
read_status : (outcome : Outcome) → status_of outcome ≡ 6 → outcome ≡ outcomes.Read
read_status outcomes.Read six = refl
read_status (outcomes.Done journal trail) six = absurd (omega (arith, six))
read_status (outcomes.DoneGroups journals trail) six = absurd (omega (arith, six))
read_status (outcomes.DoneChain first second trail) six = absurd (omega (arith, six))
read_status (outcomes.DoneRings journal ends back) six = absurd (omega (arith, six))
read_status (outcomes.Words fault) six = absurd (omega (arith, six))
read_status (outcomes.Predicate fault) six = absurd (omega (arith, six))
read_status (outcomes.Then fault) six = absurd (omega (arith, six))
read_status (outcomes.Input fault) six = absurd (omega (arith, six))
read_status (outcomes.Limit fault) six = absurd (omega (arith, six))
read_status outcomes.Write six = absurd (omega (arith, six))
read_status outcomes.Memory six = absurd (omega (arith, six))

-- and made tables have no such outcome
pub ran_made : {H K : Type 0} (h : ShelfGhosts H) (k : SinkGhosts K) (words : List (List ℕ))
    (old new : H) (before after : K) (IsTold : Outcome → Type 0) (status : ℕ)
    → RanAs h k words old new before after IsTold status
    → (asked : Asked) (count : ℕ) → asked_of words ≡ Ok asked → asked.make ≡ Some count → (status ≢ 6) × (new ≡ old)
ran_made h k words old new before after IsTold status ran = λ asked count is make.
    let made = (ran.promises.answers asked is).made count make in
    (λ six. made.1 (read_status ran.outcome (sym ran.is ∙ six)), made.0)
