-- A plan and how it was asked for, from one stage to the next.
use Rattle.std.proofs.Common.{◌≡◌, ◌⊎◌, inl, inr, refl, sym, ap, subst, ◌∙◌}
use Rattle.std.proofs.Common.{◌+◌, ℕ, List, length, Option, None, Some, Result, Ok, Err}
use Rattle.std.specs.Prelude.{IfOk, is_some, option_map}
use Rattle.join_rows.specs.Shelves.{Spot, Told}
use Rattle.theta_tree.specs.Grammar.{Tree}
use Rattle.join_words.specs.Words.{Asked, AskedChain, chain_of, later_of}
use Rattle.join_plan.specs.declared.fault.Refusal.{Refusal}
use Rattle.join_plan.specs.declared.fault.Refusal.TheVariants as refusals
use Rattle.join_plan.specs.declared.files.Gathered.{Gathered}
use Rattle.join_plan.specs.declared.fitting.Planned.{Planned}
use Rattle.join_plan.specs.Files.{made_tables}
use Rattle.join_plan.specs.Later.{gathered_by}
use Rattle.join_plan.specs.Plan.{IsAsked, IsFit, IsPlanOf, fitted}
use Rattle.join_plan.specs.Refusals.{then_of}
use Rattle.join_plan.specs.Seen.{GatheredSeen, IsSeenPlan, PlanSeen, SeenBehind}
use Rattle.join_plan.specs.Texts.{AreRead, HasFurther, HaveTrees, IsReadFurther, Readings, Trees, read_so, trees_of}
use Rattle.join_plan.proofs.Readings.{every_request}
use Rattle.join_plan.proofs.WaveLemmas.{single_end}

-- a refusal in place of what is gathered
abbrev pub none_gathered : Refusal → Result Gathered Refusal
none_gathered refusal = Err refusal

-- and so is a refusal
pub refused_seen : (told : Told) (spot : Spot) (asked : Asked) (trees : Trees) (refusal : Refusal)
    → GatheredSeen told spot asked (none_gathered refusal) → PlanSeen told spot asked trees (Err refusal)
refused_seen told spot asked trees refusal seen = record { found = none_gathered refusal; seen = seen; answer = refl }

-- what is planned of what was gathered was asked for
pub is_asked : (told : Told) (asked : Asked) (trees : Trees) (found : Gathered) (result : Result Planned Refusal)
    → HaveTrees asked trees
    → ((files : List ℕ → Option (List ℕ)) → told ≡ Some files → gathered_by asked files ≡ Ok found)
    → ((count : ℕ) → asked.make ≡ Some count → found.tables ≡ made_tables count)
    → is_some found.third ≡ is_some (chain_of asked.kind) → length found.ends ≡ length (later_of asked.kind) + 1
    → IfOk result (λ planned. fitted trees found ≡ Ok planned) → IfOk result IsFit
    → IfOk result (λ planned. is_some planned.third ≡ is_some found.third)
    → IfOk result (λ planned. planned.ends ≡ found.ends) → IfOk result (IsAsked told asked)
is_asked told asked trees found (Err refusal) have files made chained waves fits fit third ends = tt
is_asked told asked trees found (Ok planned) have files made chained waves fits fit third ends =
    let all : length planned.ends ≡ length (later_of asked.kind) + 1 = ap length ends ∙ waves in
    record {
      trees = trees;
      have = have;
      found = found;
      fits = fits;
      files = files;
      made = made;
      chained = third ∙ chained;
      waves = all;
      single = λ alone. single_end planned.tables planned.ends fit.ends (all ∙ ap (λ l. length l + 1) alone);
    }

-- ---- texts that have trees

-- they read so
pub are_read : (asked : Asked) (trees : Trees) → HaveTrees asked trees → AreRead asked (read_so trees)
are_read asked trees have = record { on = have.on; further = by (chain_of asked.kind) trees.further have.further }
  where
    by : (chain : Option AskedChain) (further : Option Tree) → HasFurther chain further
        → IsReadFurther chain (option_map (λ tree. Ok tree) further)
    by None None has = tt
    by (Some chain) (Some tree) has = has
    by None (Some tree) has = has
    by (Some chain) None has = has

-- and come to these trees
comes_to : (trees : Trees) → trees_of (read_so trees) ≡ Ok trees
comes_to trees = by trees.further
  where
    by : (further : Option Tree) → trees_of (read_so (record { on = trees.on; further = further }))
        ≡ Ok (record { on = trees.on; further = further })
    by None = refl
    by (Some tree) = refl

-- ---- a plan, or a refusal, by how the texts read

-- behind texts with trees the answer is that of the plan
pub planned_by : (asked : Asked) (files : List ℕ → Option (List ℕ)) (trees : Trees) (result : Result Planned Refusal)
    → HaveTrees asked trees
    → (result ≡ Err refusals.Memory) ⊎ (result ≡ then_of (gathered_by asked files) (fitted trees))
    → (result ≡ Err refusals.Memory) ⊎ IsPlanOf asked files result
planned_by asked files trees result have (inl memory) = inl memory
planned_by asked files trees result have (inr is) = inr (record {
  readings = read_so trees;
  read = are_read asked trees have;
  is = is ∙ sym (ap (λ t. then_of t (λ trees. then_of (gathered_by asked files) (fitted trees))) (comes_to trees));
})

-- and of what was read
pub seen_by : (told : Told) (spot : Spot) (asked : Asked) (trees : Trees) (result : Result Planned Refusal)
    → HaveTrees asked trees → PlanSeen told spot asked trees result → IsSeenPlan told spot asked result
seen_by told spot asked trees result have seen = record {
  readings = read_so trees;
  read = are_read asked trees have;
  seen = subst (λ t. SeenBehind told spot asked t result) (sym (comes_to trees)) seen;
}

-- a refusal in place of a plan
abbrev pub none_planned : Refusal → Result Planned Refusal
none_planned refusal = Err refusal

-- a text that is refused is the plan's refusal
pub refused_by : (asked : Asked) (files : List ℕ → Option (List ℕ)) (refusal : Refusal)
    → ((readings : Readings) → AreRead asked readings → (refusal ≡ refusals.Memory) ⊎ (trees_of readings ≡ Err refusal))
    → (none_planned refusal ≡ Err refusals.Memory) ⊎ IsPlanOf asked files (none_planned refusal)
refused_by asked files refusal each =
    let (readings, read) = every_request asked in
    elim (each readings read) [
      | inl memory ↦ inl (ap none_planned memory)
      | inr e ↦ inr (record {
        readings = readings;
        read = read;
        is = sym (ap (λ t. then_of t (λ trees. then_of (gathered_by asked files) (fitted trees))) e);
      })
    ]

-- whatever was read
pub refused_unread : (told : Told) (spot : Spot) (asked : Asked) (refusal : Refusal)
    → ((readings : Readings) → AreRead asked readings → (refusal ≡ refusals.Memory) ⊎ (trees_of readings ≡ Err refusal))
    → (none_planned refusal ≡ Err refusals.Memory → ⊥) → IsSeenPlan told spot asked (none_planned refusal)
refused_unread told spot asked refusal each memory =
    let (readings, read) = every_request asked in
    elim (each readings read) [
      | inl lacks ↦ absurd (memory (ap none_planned lacks))
      | inr e ↦ record {
        readings = readings;
        read = read;
        seen = subst (λ t. SeenBehind told spot asked t (none_planned refusal)) (sym e) refl;
      }
    ]
