-- What was read of the files, from one stage to the next.
use Rattle.std.proofs.Common.{◌≡◌, ◌≤◌, ◌<◌, ◌+◌, ◌^◌, ◌∙◌, ◌⊎◌, inl, inr, ℕ, Bool, true, false, List, [], ◌∷◌, length}
use Rattle.std.proofs.Common.{take, arith, Option, None, Some, Result, Ok, Err, refl, sym, ap}
use Rattle.std.specs.Prelude.{Contains, MatchResult, nat_lt}
use Rattle.std.proofs.lemmas.List.Elements.{Contains-append_right}
use Rattle.join_rows.specs.Reads.{IsOfBytes}
use Rattle.join_rows.specs.Records.{table_of}
use Rattle.join_rows.specs.Shelves.{Lacks, Spot, Tells, Told}
use Rattle.join_rows.specs.declared.fault.TableFault.{TableFault}
use Rattle.join_rows.specs.declared.fault.TableFault.TheVariants as files
use Rattle.row_cells.specs.declared.table.Side.TheVariants.{R, S}
use Rattle.row_cells.specs.declared.table.Table.{Table}
use Rattle.join_words.specs.Words.{Asked, AskedChain, chain_of, later_of}
use Rattle.join_plan.specs.declared.fault.Refusal.{Refusal}
use Rattle.join_plan.specs.declared.fault.Refusal.TheVariants as refusals
use Rattle.join_plan.specs.declared.files.Gathered.{Gathered}
use Rattle.join_plan.specs.declared.files.Tables.{Tables}
use Rattle.join_plan.specs.Causes.{IsSourceOf, Refuses}
use Rattle.join_plan.specs.Files.{Source, later_sources, or_refused, sources, table_found, third_source}
use Rattle.join_plan.specs.Refusals.{file_refusal, then_of}
use Rattle.join_plan.specs.Seen.{BeginsWith, BehindSeen, GatheredSeen, IsSeen, TablesAsked, TablesSeen}

-- a fault of a file in place of its table
abbrev pub refused_table : TableFault → Result Table TableFault
refused_table fault = Err fault

-- a count that didn't rise
pub not_rose : (old new : ℕ) → old ≤ new → (old < new → ⊥) → new ≡ old
not_rose old new below not = by (nat_lt old new) refl
  where
    by : (rose : Bool) → nat_lt old new ≡ rose → new ≡ old
    by true p = absurd (not (grind (arith, p)))
    by false p = grind (arith, p, below)

-- ---- one file

module _ (source : Source) where
  -- its table, or the refusal of its fault
  abbrev pub as_table : Result Table TableFault → Result Table Refusal
  as_table r = or_refused source.side source.wave r

  -- what there is of it in such files
  abbrev pub in_files : (List ℕ → Option (List ℕ)) → Result Table Refusal
  in_files all = table_found source.side source.wave (all source.name)

  -- a file of a shelf that tells them: its table is the definition's
  pub table_told : (told : Told) (same : Type 0) (r : Result Table TableFault)
      → (Lacks told source.name → r ≡ Err files.Read)
      → ((file : List ℕ) → Tells told source.name file → same → (r ≡ Err files.Memory) ⊎ (r ≡ table_of file))
      → (all : List ℕ → Option (List ℕ)) → told ≡ Some all → same
      → (as_table r ≡ Err refusals.Memory) ⊎ (as_table r ≡ in_files all)
  table_told told same r lacks answer all is h = by (all source.name) refl
    where
      by : (found : Option (List ℕ)) → all source.name ≡ found
          → (as_table r ≡ Err refusals.Memory) ⊎ (as_table r ≡ in_files all)
      by None e =
          let none : Lacks told source.name = rw is e in
          inr (rw e (ap as_table (lacks none)))
      by (Some file) e =
          let tells : Tells told source.name file = rw is e in
          elim (answer file tells h) [
            | inl m ↦ inl (ap as_table m)
            | inr f ↦ inr (rw e (ap as_table f))
          ]

  -- and where there is a table, it is that one
  pub table_told_ok : (told : Told) (same : Type 0) (table : Table)
      → (Lacks told source.name → Ok table ≡ Err files.Read)
      → ((file : List ℕ) → Tells told source.name file → same → (Ok table ≡ Err files.Memory)
      ⊎ (Ok table ≡ table_of file))
      → (all : List ℕ → Option (List ℕ)) → told ≡ Some all → same → in_files all ≡ Ok table
  table_told_ok told same table lacks answer all is h =
      elim (table_told told same (Ok table) lacks answer all is h) [ inl m ↦ absurd (cc m) | inr f ↦ sym f ]

  -- what was read of a file is what was seen of it
  pub file_seen : (told : Told) (spot : Spot) (r : Result Table TableFault) → IsOfBytes told source.name spot r
      → IsSeen told spot source (as_table r)
  file_seen told spot r of_bytes = record {
    seen = of_bytes.bytes;
    place = of_bytes.place;
    first = of_bytes.first;
    answer = ap as_table of_bytes.answer;
  }

  -- a fault of it, as a refusal in place of its table
  abbrev pub refused_as : TableFault → Result Table Refusal
  refused_as fault = Err (file_refusal source.side source.wave fault)

  -- a fault that isn't refused as one of reading is none
  pub not_read : (fault : TableFault) → (refused_as fault ≡ Err refusals.Read → ⊥)
      → refused_table fault ≡ Err files.Read → ⊥
  not_read fault h e = let same : fault ≡ files.Read = cc e in h (ap refused_as same)

  -- nor one that isn't refused as want of memory
  pub not_memory : (fault : TableFault) → (refused_as fault ≡ Err refusals.Memory → ⊥)
      → refused_table fault ≡ Err files.Memory → ⊥
  not_memory fault h e = let same : fault ≡ files.Memory = cc e in h (ap refused_as same)

  -- what is told of a file is so, by where the shelf stands then
  pub file_refuses : (fault : TableFault) (old new : ℕ) (told : Told) (spot : Spot) (D : ℕ → Type 0) (asked : Asked)
      → (refused_table fault ≡ Err files.Read → (old < new) ⊎ Lacks told source.name)
      → ((refused_table fault ≡ Err files.Read → ⊥)
      → (place : ℕ) × (spot ≡ Some (source.name, place)) × (place ≤ 2 ^ 24 + 1)
      × (refused_table fault ≡ Err files.TooLong → 2 ^ 24 < place) × D place)
      → IsSourceOf asked source
      → Refuses old new told spot asked (file_refusal source.side source.wave fault)
  file_refuses files.TooLong old new told spot D asked read place of =
      let stands = place (λ wrong. cc wrong) in
      record {
        source = source;
        among = of.among;
        of_side = refl;
        of_wave = refl;
        place = stands.0;
        stands = stands.1;
        past = stands.3 refl;
        near = stands.2;
      }
  file_refuses files.Read old new told spot D asked read place of = (
    of.files,
    elim (read refl) [
      | inl rose ↦ inl rose
      | inr lacks ↦ inr (record { source = source; among = of.among; lacks = lacks })
    ],
  )
  file_refuses files.NoHeader old new told spot D asked read place of = tt
  file_refuses (files.Width number found) old new told spot D asked read place of = tt
  file_refuses files.TooMany old new told spot D asked read place of = tt
  file_refuses files.Memory old new told spot D asked read place of = tt

-- ---- both files

-- the bytes of a told file that are read at most, or none
front_told : Told → List ℕ → List ℕ
front_told None name = []
front_told (Some all) name = of (all name)
  where
    of : Option (List ℕ) → List ℕ
    of None = []
    of (Some file) = take (2 ^ 24 + 1) file

front_begins : (told : Told) (name : List ℕ) → BeginsWith told name (front_told told name)
unfolding front_told
front_begins None name file tells = absurd tells
front_begins (Some all) name file tells = rw tells refl

-- a refusal in place of a table
abbrev pub no_table : Refusal → Result Table Refusal
no_table refusal = Err refusal

refused_seen : (seen : List ℕ) (refusal : Refusal) (A B : Type 0) → no_table refusal ≡ table_found R 1 (Some seen) → B
    → MatchResult (table_of seen) (λ table. A) (λ fault. B)
refused_seen seen refusal A B is b = by (table_of seen) refl
  where
    by : (r : Result Table TableFault) → table_of seen ≡ r → MatchResult (table_of seen) (λ table. A) (λ fault. B)
    by (Ok table) e = absurd (cc (rw e at is))
    by (Err fault) e = rw e b

table_seen : (seen : List ℕ) (table : Table) (A B : Type 0) → Ok table ≡ table_found R 1 (Some seen) → A
    → MatchResult (table_of seen) (λ table. A) (λ fault. B)
table_seen seen table A B is a = by (table_of seen) refl
  where
    by : (r : Result Table TableFault) → table_of seen ≡ r → MatchResult (table_of seen) (λ table. A) (λ fault. B)
    by (Ok found) e = rw e a
    by (Err fault) e = absurd (cc (rw e at is))

-- a refusal in place of both tables
abbrev pub no_tables : Refusal → Result Tables Refusal
no_tables refusal = Err refusal

-- a refusal that is another for one type of answer is another for each
pub other_refusal : {A B : Type 0} (refusal why : Refusal)
    → (◌≡◌ {A = Result A Refusal} (Err refusal) (Err why) → ⊥) → ◌≡◌ {A = Result B Refusal} (Err refusal) (Err why) → ⊥
other_refusal refusal why h e = let same : refusal ≡ why = cc e in h (ap (λ r. Err r) same)

-- the file of R in the first wave
abbrev pub source_r : List ℕ → Source
source_r name = record { side = R; wave = 1; name = name }

-- and that of S
abbrev pub source_s : List ℕ → Source
source_s name = record { side = S; wave = 1; name = name }

-- R's file is no table
pub seen_one : (told : Told) (spot : Spot) (name_r name_s : List ℕ) (refusal : Refusal)
    → IsSeen told spot (source_r name_r) (no_table refusal) → TablesSeen told spot name_r name_s (no_tables refusal)
seen_one told spot name_r name_s refusal is = record {
  seen_r = is.seen;
  seen_s = front_told told name_s;
  are = record {
    first_r = is.first;
    first_s = front_begins told name_s;
    place = refused_seen is.seen refusal (spot ≡ Some (name_s, length (front_told told name_s)))
        (spot ≡ Some (name_r, length is.seen)) is.answer is.place;
  };
  answer = ap (λ r. then_of r (λ of_r. then_of (table_found S 1 (Some (front_told told name_s)))
      (λ of_s. Ok (record { of_r = of_r; of_s = of_s })))) is.answer;
}

-- it is one, and then S's file is read
pub seen_both : (told : Told) (middle spot : Spot) (name_r name_s : List ℕ) (table_r : Table)
    (second : Result Table Refusal)
    → IsSeen told middle (source_r name_r) (Ok table_r) → IsSeen told spot (source_s name_s) second
    → TablesSeen told spot name_r name_s (then_of second (λ table_s. Ok (record { of_r = table_r; of_s = table_s })))
seen_both told middle spot name_r name_s table_r second is_r is_s = record {
  seen_r = is_r.seen;
  seen_s = is_s.seen;
  are = record {
    first_r = is_r.first;
    first_s = is_s.first;
    place = table_seen is_r.seen table_r (spot ≡ Some (name_s, length is_s.seen))
        (spot ≡ Some (name_r, length is_r.seen)) is_r.answer is_s.place;
  };
  answer =
      ap (λ r. then_of r (λ table_s. Ok (record { of_r = table_r; of_s = table_s }))) is_s.answer
      ∙ ap (λ r. then_of r (λ of_r. then_of (table_found S 1 (Some is_s.seen))
      (λ of_s. Ok (record { of_r = of_r; of_s = of_s })))) is_r.answer;
}

-- ---- the third

-- it is among the files that are asked for
pub third_among : (asked : Asked) (chain : AskedChain) → chain_of asked.kind ≡ Some chain
    → Contains (sources asked) (record { side = S; wave = 2; name = chain.name })
third_among asked chain is =
    Contains-append_right (_ ∷ _ ∷ later_sources 2 (later_of asked.kind)) (third_source (chain_of asked.kind)) _
    (rw is (0, omega arith, refl))

-- ---- all of them

-- what was read behind two tables was read of what is asked for
pub all_seen : (told : Told) (middle spot : Spot) (asked : Asked) (tables : Tables) (result : Result Gathered Refusal)
    → TablesAsked told middle asked asked.make (Ok tables) → BehindSeen told middle spot asked (Ok tables) result
    → GatheredSeen told spot asked result
all_seen told middle spot asked tables result first behind =
    record { middle = middle; tables = Ok tables; first = first; behind = behind }
