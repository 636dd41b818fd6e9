-- What reading the two files of the first wave answers, and what it leaves of the shelf.
use Rattle.std.specs.Prelude.{◌≡◌, ◌⊎◌, ◌≤◌, ℕ, List, Option, Some, Result, Ok, Err, IfErr, IfOk}
use Rattle.join_rows.specs.Records.{IsTable}
use Rattle.join_rows.specs.declared.shelf.Shelf.{Ghosts as ShelfGhosts}
use Rattle.join_words.specs.Words.{Asked}
use Rattle.join_plan.specs.declared.fault.Refusal.{Refusal}
use Rattle.join_plan.specs.declared.fault.Refusal.TheVariants.{Memory, Read}
use Rattle.join_plan.specs.declared.files.Tables.{Tables}
use Rattle.join_plan.specs.Causes.{Refuses}
use Rattle.join_plan.specs.Files.{tables_of}
use Rattle.join_plan.specs.Seen.{TablesSeen}

-- what is answered where the two files that are asked for were read, over what the shelf tells before and after
pub record AreBothRead {H : Type 0} (h : ShelfGhosts H) (asked : Asked) (old new : H)
    (result : Result Tables Refusal) : Type 0 where
  -- the shelf tells the same files, and its count of faults doesn't fall
  pub told : h.told new ≡ h.told old
  pub rises : h.faults old ≤ h.faults new
  -- where no call failed, the tables of the told files, or the first refusal
  pub answer : (files : List ℕ → Option (List ℕ)) → h.told old ≡ Some files → h.faults new ≡ h.faults old
      → (result ≡ Err Memory) ⊎ (result ≡ tables_of files asked.name_r asked.name_s)
  -- tables are those of the told files
  pub found : IfOk result (λ tables. (files : List ℕ → Option (List ℕ)) → h.told old ≡ Some files
      → tables_of files asked.name_r asked.name_s ≡ Ok tables)
  -- and over each shelf the answer is that of what was read
  pub seen : (result ≡ Err Read → ⊥) → (result ≡ Err Memory → ⊥)
      → TablesSeen (h.told old) (h.picked new) asked.name_r asked.name_s result
  -- a shelf of which no call fails but for a missing file stays so
  pub sound : h.sound old → h.sound new × (h.faults new ≡ h.faults old)
  -- a failed call is told
  pub counts : (result ≡ Err Read → ⊥) → h.faults new ≡ h.faults old
  -- what a refusal tells is so
  pub refused : IfErr result (Refuses (h.faults old) (h.faults new) (h.told old) (h.picked new) asked)
  pub whole_r : IfOk result (λ tables. IsTable tables.of_r)
  pub whole_s : IfOk result (λ tables. IsTable tables.of_s)
