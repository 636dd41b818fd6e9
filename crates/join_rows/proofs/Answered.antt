-- What is answered, from what was read of a file.
use Rattle.std.proofs.Common.{◌≡◌, ◌≤◌, ◌<◌, ◌+◌, ◌^◌, ◌∙◌, ◌⊎◌, inl, inr, ℕ, Bool, true, false, Option, subst, List}
use Rattle.std.proofs.Common.{[], ◌∷◌, length, arith, None, Some, Result, Err, refl, sym, ap}
use Rattle.std.specs.Prelude.{nat_lt, ⊤, ◌==◌}
use Rattle.join_rows.specs.Reads.{WholeErr, WholeOk}
use Rattle.join_rows.specs.Records.{fault_of_rows, records_of, table_of, table_of_records}
use Rattle.join_rows.specs.Shelves.{Lacks, Spot, Tells, Told}
use Rattle.row_cells.specs.declared.table.Table.{Table}
use Rattle.join_rows.specs.declared.fault.TableFault.{TableFault}
use Rattle.join_rows.specs.declared.fault.TableFault.TheVariants as fault

-- what is told is not lacking
pub told-there : (told : Told) (name file : List ℕ) → Tells told name file → Lacks told name → ⊥
told-there None name file t l = t
told-there (Some files) name file t l = let e : None ≡ Some file = sym l ∙ t in cc e

-- a refusal
abbrev pub refused : TableFault → Result Table TableFault
refused e = Err e

-- a fault of a list of records: none of reading it, and no want of memory
abbrev pub IsOfRecords : TableFault → Type 0
IsOfRecords fault.NoHeader = ⊤
IsOfRecords (fault.Width number found) = ⊤
IsOfRecords fault.TooMany = ⊤
IsOfRecords why = ⊥

rows_only : (width number : ℕ) (rows : List (List (List ℕ))) (why : TableFault)
    → fault_of_rows width number rows ≡ Some why → IsOfRecords why
unfolding fault_of_rows
rows_only width number [] why h = cc h
rows_only width number (row ∷ rows) why h = by (nat_lt (2 ^ 18) number) (length row == width) refl refl
    (rows_only width (number + 1) rows why)
  where
    by : (past same : Bool) → nat_lt (2 ^ 18) number ≡ past → (length row == width) ≡ same
        → (fault_of_rows width (number + 1) rows ≡ Some why → IsOfRecords why) → IsOfRecords why
    by true same p s more = let e : fault.TooMany ≡ why = cc (rw p at h) in subst IsOfRecords e tt
    by false true p s more = more (rw (p, s) at h)
    by false false p s more = let e : fault.Width number (length row) ≡ why = cc (rw (p, s) at h) in
        subst IsOfRecords e tt

-- what is wrong with a list of records is never a failed read, too many bytes, or a want of memory
pub only-form : (all : List (List (List ℕ))) (e : TableFault) → table_of_records all ≡ Err e → IsOfRecords e
unfolding table_of_records
only-form [] e h = let same : fault.NoHeader ≡ e = cc h in subst IsOfRecords same tt
only-form (names ∷ rows) e h = by (fault_of_rows (length names) 1 rows) refl
  where
    by : (found : Option TableFault) → fault_of_rows (length names) 1 rows ≡ found → IsOfRecords e
    by None q = cc (rw q at h)
    by (Some why) q = let same : why ≡ e = cc (rw q at h) in
        subst IsOfRecords same (rows_only (length names) 1 rows why q)

-- the table of a file within the limit of bytes is that of its records
pub short-table : (file : List ℕ) → length file ≤ 2 ^ 24 → table_of file ≡ table_of_records (records_of file)
unfolding table_of
short-table file h = let t : nat_lt (2 ^ 24) (length file) ≡ false = grind arith in rw t refl

-- a file past the limit of bytes is too long, whatever its records are
pub long-table : (file : List ℕ) → 2 ^ 24 < length file → table_of file ≡ Err fault.TooLong
unfolding table_of
long-table file h = let t : nat_lt (2 ^ 24) (length file) ≡ true = grind arith in rw t refl

-- a told file that isn't read whole, while no call failed, is refused for want of memory or for the fault it has
pub fault-answers : (told : Told) (name : List ℕ) (old new : ℕ) (spot : Spot) (e : TableFault)
    → WholeErr told name old new spot e
    → (file : List ℕ) → Tells told name file → new ≡ old → (refused e ≡ refused fault.Memory)
    ⊎ (refused e ≡ table_of file)
fault-answers told name old new spot fault.Read w file t s =
    elim w [ inl rose ↦ absurd (omega (arith, rose, s)) | inr lacks ↦ absurd (told-there told name file t lacks) ]
fault-answers told name old new spot fault.TooLong w file t s =
    inr (sym (long-table file (omega (arith, w.2.size, (w.2.first file t).0))))
fault-answers told name old new spot fault.NoHeader w file t s = absurd w
fault-answers told name old new spot (fault.Width number found) w file t s = absurd w
fault-answers told name old new spot fault.TooMany w file t s = absurd w
fault-answers told name old new spot fault.Memory w file t s = inl refl

-- the bytes of a file, and then the table in them
abbrev pub TableIn : List ℕ → Result Table TableFault → Type 0
TableIn bytes r = (r ≡ Err fault.Memory) ⊎ (r ≡ table_of_records (records_of bytes))

-- bytes within the limit have the table that they are
pub own-table : (bytes : List ℕ) → length bytes ≤ 2 ^ 24 → TableIn bytes (table_of bytes)
own-table bytes few = inr (short-table bytes few)

-- the table in bytes is refused for want of memory, or for what is wrong with its records
pub table-not : (bytes : List ℕ) (r : Result Table TableFault) (e : TableFault) → TableIn bytes r → r ≡ Err e
    → (e ≡ fault.Memory) ⊎ IsOfRecords e
table-not bytes r e t h = elim t [
  | inl m ↦ let q : refused e ≡ refused fault.Memory = sym h ∙ m in inl (cc q)
  | inr f ↦ inr (only-form (records_of bytes) e (sym f ∙ h))
]

module _ (told : Told) (name : List ℕ) (old new : ℕ) (spot : Spot) where
  -- of a told file that was read whole the answer is the file's own, or a want of memory
  pub bytes-answer : (bytes : List ℕ) (r : Result Table TableFault)
      → WholeOk told name old new spot bytes → TableIn bytes r
      → (file : List ℕ) → Tells told name file → (r ≡ Err fault.Memory) ⊎ (r ≡ table_of file)
  bytes-answer bytes r w t file tells = elim t [
    | inl m ↦ inl m
    | inr f ↦
        let same = w.4 file tells in
        let few : length file ≤ 2 ^ 24 = omega (arith, w.3, ap length same) in
        inr (f ∙ ap (λ x. table_of_records (records_of x)) same ∙ sym (short-table file few))
  ]

-- after a whole read the answer is a failed read just if a call failed or there is no such file, so never
pub bytes-read : (told : Told) (name : List ℕ) (old new : ℕ) (spot : Spot) (bytes : List ℕ)
    (r : Result Table TableFault) → WholeOk told name old new spot bytes → TableIn bytes r
    → (r ≡ Err fault.Read → (old < new) ⊎ Lacks told name) × ((old < new) ⊎ Lacks told name → r ≡ Err fault.Read)
bytes-read told name old new spot bytes r w t = (
  λ h. elim (table-not bytes r fault.Read t h) [ inl m ↦ absurd (cc m) | inr f ↦ absurd f ],
  λ h. elim h [ inl rose ↦ absurd (omega (arith, rose, w.0)) | inr lacks ↦ absurd (w.1 lacks) ],
)

-- and the shelf stands in that file, past the limit just where the answer is that it is too long, memory aside
pub bytes-place : (told : Told) (name : List ℕ) (old new : ℕ) (spot : Spot) (bytes : List ℕ)
    (r : Result Table TableFault) → WholeOk told name old new spot bytes → TableIn bytes r
    → (place : ℕ) × (spot ≡ Some (name, place)) × (place ≤ 2 ^ 24 + 1) × (r ≡ Err fault.TooLong → 2 ^ 24 < place)
    × (2 ^ 24 < place → (r ≡ Err fault.TooLong) ⊎ (r ≡ Err fault.Memory))
bytes-place told name old new spot bytes r w t = (
  length bytes,
  w.2,
  omega (arith, w.3),
  λ h. elim (table-not bytes r fault.TooLong t h) [ inl m ↦ absurd (cc m) | inr f ↦ absurd f ],
  λ h. absurd (omega (arith, h, w.3)),
)
