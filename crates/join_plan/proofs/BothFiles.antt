-- Two tables, from what the bytes of the two files answer.
use Rattle.std.proofs.Common.{◌≡◌, ◌∙◌, ◌⊎◌, inl, inr, ℕ, List, Result, Ok, Err, sym, ap, subst}
use Rattle.std.specs.Prelude.{IfErr}
use Rattle.join_rows.specs.Shelves.{Spot, Told}
use Rattle.row_cells.specs.declared.table.Table.{Table}
use Rattle.join_plan.specs.declared.fault.Refusal.{Refusal}
use Rattle.join_plan.specs.declared.fault.Refusal.TheVariants as refusals
use Rattle.join_plan.specs.declared.files.Tables.{Tables}
use Rattle.join_plan.specs.Refusals.{then_of}
use Rattle.join_plan.specs.Seen.{IsSeen, TablesSeen}
use Rattle.join_plan.proofs.Seen.{no_tables, seen_both, source_r, source_s}

-- both tables that two files answer, or the first refusal
abbrev pub joined : Result Table Refusal → Result Table Refusal → Result Tables Refusal
joined x y = then_of x (λ r. then_of y (λ s. Ok (record { of_r = r; of_s = s })))

-- a refusal of a file in place of its table
abbrev pub refused_file : Refusal → Result Table Refusal
refused_file refusal = Err refusal

-- R's file is a table, and the result is what both files answer, or want of memory
module _ (x y : Result Table Refusal) (table_r : Table) (good : x ≡ Ok table_r) (result : Result Tables Refusal)
    (is : (result ≡ no_tables refusals.Memory) ⊎ (result ≡ joined x y)) where
  -- what S's file answers, behind R's table
  pub both-behind : (result ≡ no_tables refusals.Memory → ⊥)
      → result ≡ then_of y (λ table_s. Ok (record { of_r = table_r; of_s = table_s }))
  both-behind memory = elim is [ inl m ↦ absurd (memory m) | inr e ↦ e ∙ ap (λ z. joined z y) good ]

  -- where it isn't refused so, S's file isn't
  pub both-other : (why : Refusal) → (result ≡ no_tables refusals.Memory → ⊥) → (result ≡ no_tables why → ⊥)
      → y ≡ refused_file why → ⊥
  both-other why memory other e = other (both-behind memory
      ∙ ap (λ z. then_of z (λ table_s. Ok (record { of_r = table_r; of_s = table_s }))) e)

-- a table is no refusal
pub table_refused : (x : Result Table Refusal) (table : Table) (why : Refusal) → x ≡ Ok table → x ≡ refused_file why → ⊥
table_refused x table why good e = let q : Ok table ≡ refused_file why = sym good ∙ e in cc q

module _ (told : Told) (middle spot : Spot) (name_r name_s : List ℕ) where
  -- of R's file a table was seen, and of S's this
  pub seen_behind : (x y : Result Table Refusal) (table : Table) → x ≡ Ok table
      → ((x ≡ refused_file refusals.Read → ⊥) → (x ≡ refused_file refusals.Memory → ⊥)
      → IsSeen told middle (source_r name_r) x)
      → IsSeen told spot (source_s name_s) y
      → TablesSeen told spot name_r name_s (then_of y (λ table_s. Ok (record { of_r = table; of_s = table_s })))
  seen_behind x y table good seen_r seen_s =
      seen_both told middle spot name_r name_s table y
      (subst (IsSeen told middle (source_r name_r)) good
      (seen_r (table_refused x table refusals.Read good) (table_refused x table refusals.Memory good))) seen_s

-- a refusal is S's, or want of memory
pub both-refused : (x y : Result Table Refusal) (table_r : Table) → x ≡ Ok table_r → (result : Result Tables Refusal)
    → (result ≡ no_tables refusals.Memory) ⊎ (result ≡ joined x y)
    → (Tells : Refusal → Type 0) → Tells refusals.Memory → IfErr y Tells → IfErr result Tells
both-refused x y table_r good (Ok tables) is Tells memory of_y = tt
both-refused x y table_r good (Err why) (inl m) Tells memory of_y =
    let same : refusals.Memory ≡ why = cc m in subst Tells same memory
both-refused (Err other) y table_r good (Err why) (inr e) Tells memory of_y = cc good
both-refused (Ok r) (Ok s) table_r good (Err why) (inr e) Tells memory of_y = cc e
both-refused (Ok r) (Err other) table_r good (Err why) (inr e) Tells memory of_y =
    let same : other ≡ why = cc e in subst Tells same of_y
