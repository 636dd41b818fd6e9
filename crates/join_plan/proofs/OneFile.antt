-- What the bytes of one file answer.
use Rattle.std.proofs.Common.{◌≡◌, ◌≤◌, ◌<◌, ◌^◌, ◌+◌, ◌⊎◌, inl, inr, ℕ, List, Option, Some, Result, Ok, Err, sym, ap}
use Rattle.std.proofs.Common.{subst}
use Rattle.std.specs.Prelude.{IfErr, IfOk}
use Rattle.join_rows.specs.Reads.{IsOfBytes}
use Rattle.join_rows.specs.Records.{table_of}
use Rattle.join_rows.specs.Shelves.{Lacks, Spot, Tells, Told}
use Rattle.join_rows.specs.declared.fault.TableFault.{TableFault}
use Rattle.join_rows.specs.declared.fault.TableFault.TheVariants as files
use Rattle.row_cells.specs.declared.table.Table.{Table}
use Rattle.join_words.specs.Words.{Asked}
use Rattle.join_plan.specs.declared.fault.Refusal.{Refusal}
use Rattle.join_plan.specs.declared.fault.Refusal.TheVariants as refusals
use Rattle.join_plan.specs.Causes.{IsSourceOf, Refuses}
use Rattle.join_plan.specs.Files.{Source}
use Rattle.join_plan.specs.Seen.{IsSeen}
use Rattle.join_plan.proofs.Seen.{as_table, file_refuses, file_seen, in_files, refused_as, refused_table, table_told_ok}

module _ (source : Source) where
  -- the table of a file, where there is one, is that of a shelf that tells its files
  pub answer_told_ok : (told : Told) (same : Type 0) (r : Result Table TableFault)
      → (Lacks told source.name → r ≡ Err files.Read)
      → ((file : List ℕ) → Tells told source.name file → same → (r ≡ Err files.Memory) ⊎ (r ≡ table_of file))
      → same → IfOk (as_table source r) (λ table. (all : List ℕ → Option (List ℕ)) → told ≡ Some all
      → in_files source all ≡ Ok table)
  answer_told_ok told same (Ok table) lacks answer h = λ all is.
      table_told_ok source told same table lacks answer all is h
  answer_told_ok told same (Err fault) lacks answer h = tt

  -- the answer is that of the bytes that were read
  pub answer_seen : (told : Told) (spot : Spot) (r : Result Table TableFault)
      → ((r ≡ Err files.Read → ⊥) → (r ≡ Err files.Memory → ⊥) → IsOfBytes told source.name spot r)
      → (as_table source r ≡ Err refusals.Read → ⊥) → (as_table source r ≡ Err refusals.Memory → ⊥)
      → IsSeen told spot source (as_table source r)
  answer_seen told spot r of_bytes read memory = file_seen source told spot r
      (of_bytes (λ e. read (ap (as_table source) e)) (λ e. memory (ap (as_table source) e)))

  -- what is told of it is so, where it is a refusal
  pub answer_refuses : (r : Result Table TableFault) (old new : ℕ) (told : Told) (spot : Spot) (D : ℕ → Type 0)
      (asked : Asked) → (r ≡ Err files.Read → (old < new) ⊎ Lacks told source.name)
      → ((r ≡ Err files.Read → ⊥)
      → (place : ℕ) × (spot ≡ Some (source.name, place)) × (place ≤ 2 ^ 24 + 1)
      × (r ≡ Err files.TooLong → 2 ^ 24 < place) × D place)
      → IsSourceOf asked source → IfErr (as_table source r) (Refuses old new told spot asked)
  answer_refuses (Ok table) old new told spot D asked read place of = tt
  answer_refuses (Err fault) old new told spot D asked read place of =
      file_refuses source fault old new told spot D asked read place of

  -- a fault that was judged to be that of the bytes, or want of memory, is refused as what is so
  pub judged_refuses : (bytes : List ℕ) (fault : TableFault)
      → (fault ≡ files.Memory) ⊎ (table_of bytes ≡ refused_table fault)
      → (Tells : Refusal → Type 0) → Tells refusals.Memory
      → IfErr (as_table source (table_of bytes)) Tells → IfErr (refused_as source fault) Tells
  judged_refuses bytes fault bad Tells memory of_bytes = elim bad [
    | inl m ↦ subst (λ z. IfErr (refused_as source z) Tells) (sym m) memory
    | inr e ↦ subst (λ z. IfErr (as_table source z) Tells) e of_bytes
  ]
