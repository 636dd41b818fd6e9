-- What an answer says of the bytes that it is of.
use Rattle.std.proofs.Common.{◌≡◌, ◌≢◌, ◌≤◌, ◌<◌, ◌+◌, ◌-◌, ◌∙◌, ℕ, suc, Bool, true, false, List, [], ◌∷◌, ◌++◌, length}
use Rattle.std.proofs.Common.{take, arith, refl, ap, subst, Option, Err, None, Some, add-zero}
use Rattle.std.specs.Prelude.{◌==◌, nat_lt}
use Rattle.row_cells.specs.Cells.{AreWide}
use Rattle.join_rows.specs.Records.{AnswerSays, SaysOf, SaysOfRecords, fault_of_rows, most_bytes, most_rows}
use Rattle.join_rows.specs.Records.{records_of, table_of, table_of_records}
use Rattle.join_rows.proofs.Answered.{long-table, short-table}
use Rattle.join_rows.proofs.Shapes.{none_wide}
use Rattle.join_rows.specs.declared.fault.TableFault.{TableFault}
use Rattle.join_rows.specs.declared.fault.TableFault.TheVariants as fault

-- the row of this number is the first of another width, where the first of these rows has that number
record WidthFrom (width first number found : ℕ) (rows : List (List (List ℕ))) : Type 0 where
  pub before : List (List (List ℕ))
  pub row : List (List ℕ)
  pub after : List (List (List ℕ))
  pub joined : rows ≡ before ++ row ∷ after
  pub wide : AreWide width before
  pub counted : number ≡ first + length before
  pub few : number ≤ most_rows
  pub other : length row ≢ width
  pub fields : found ≡ length row

-- there is a row past the limit, and none before it has another width
record ManyFrom (width first : ℕ) (rows : List (List (List ℕ))) : Type 0 where
  pub many : 262145 < first + length rows
  pub wide : AreWide width (take (262145 - first) rows)

abbrev SaysFrom : TableFault → ℕ → ℕ → List (List (List ℕ)) → Type 0
SaysFrom (fault.Width number found) width first rows = WidthFrom width first number found rows
SaysFrom fault.TooMany width first rows = ManyFrom width first rows
SaysFrom why width first rows = ⊥

-- one row more in front
says_more : (why : TableFault) (width first : ℕ) (row : List (List ℕ)) (rows : List (List (List ℕ))) → first ≤ 262144
    → length row ≡ width
    → SaysFrom why width (first + 1) rows → SaysFrom why width first (row ∷ rows)
says_more (fault.Width number found) width first row rows few same is = record {
  before = row ∷ is.before;
  row = is.row;
  after = is.after;
  joined = ap (λ l. row ∷ l) is.joined;
  wide = (same, is.wide);
  counted = omega (arith, is.counted);
  few = is.few;
  other = is.other;
  fields = is.fields;
}
says_more fault.TooMany width first row rows few same is =
    let left : 262145 - first ≡ suc (262145 - (first + 1)) = omega (arith, few) in
    record { many = omega (arith, is.many); wide = rw left (same, is.wide) }
says_more fault.Read width first row rows few same is = absurd is
says_more fault.TooLong width first row rows few same is = absurd is
says_more fault.NoHeader width first row rows few same is = absurd is
says_more fault.Memory width first row rows few same is = absurd is

says_from : (width first : ℕ) (rows : List (List (List ℕ))) (why : TableFault) → first ≤ 262145
    → fault_of_rows width first rows ≡ Some why → SaysFrom why width first rows
unfolding fault_of_rows
says_from width first [] why few h = cc h
says_from width first (row ∷ rows) why few h = by (nat_lt most_rows first) (length row == width) refl refl
    (says_from width (first + 1) rows why)
  where
    by : (past same : Bool) → nat_lt most_rows first ≡ past → (length row == width) ≡ same
        → (first + 1 ≤ 262145 → fault_of_rows width (first + 1) rows ≡ Some why → SaysFrom why width (first + 1) rows)
        → SaysFrom why width first (row ∷ rows)
    by true same p s more =
        let e : fault.TooMany ≡ why = cc (rw p at h) in
        let last : 262145 - first ≡ 0 = grind (arith, p, few) in
        subst (λ w. SaysFrom w width first (row ∷ rows)) e (record { many = grind (arith, p); wide = rw last tt })
    by false true p s more =
        let within : first + 1 ≤ 262145 = grind (arith, p) in
        says_more why width first row rows (grind (arith, p)) (grind (arith, s)) (more within (rw (p, s) at h))
    by false false p s more =
        let e : fault.Width first (length row) ≡ why = cc (rw (p, s) at h) in
        subst (λ w. SaysFrom w width first (row ∷ rows)) e (record {
          before = [];
          row = row;
          after = rows;
          joined = refl;
          wide = tt;
          counted = omega arith;
          few = grind (arith, p);
          other = grind (arith, s);
          fields = refl;
        })

-- all the rows of a header
says_rows : (why : TableFault) (names : List (List ℕ)) (rows : List (List (List ℕ)))
    → SaysFrom why (length names) 1 rows → SaysOfRecords why (names ∷ rows)
says_rows (fault.Width number found) names rows is = record {
  before = is.before;
  row = is.row;
  after = is.after;
  joined = is.joined;
  wide = is.wide;
  counted = omega (arith, is.counted);
  few = is.few;
  other = is.other;
  fields = is.fields;
}
says_rows fault.TooMany names rows is = record { many = omega (arith, is.many); wide = is.wide }
says_rows fault.Read names rows is = absurd is
says_rows fault.TooLong names rows is = absurd is
says_rows fault.NoHeader names rows is = absurd is
says_rows fault.Memory names rows is = absurd is

says_of : (why : TableFault) (bytes : List ℕ) (names : List (List ℕ)) (rows : List (List (List ℕ)))
    → length bytes ≤ most_bytes → records_of bytes ≡ names ∷ rows
    → SaysFrom why (length names) 1 rows → SaysOf why bytes
says_of (fault.Width number found) bytes names rows few is says =
    (few, rw is (says_rows (fault.Width number found) names rows says))
says_of fault.TooMany bytes names rows few is says = (few, rw is (says_rows fault.TooMany names rows says))
says_of fault.Read bytes names rows few is says = absurd says
says_of fault.TooLong bytes names rows few is says = absurd says
says_of fault.NoHeader bytes names rows few is says = absurd says
says_of fault.Memory bytes names rows few is says = absurd says

records_say : (bytes : List ℕ) (all : List (List (List ℕ))) → length bytes ≤ most_bytes → records_of bytes ≡ all
    → AnswerSays (table_of_records all) bytes
unfolding table_of_records
records_say bytes [] few is = (few, is)
records_say bytes (names ∷ rows) few is = by (fault_of_rows (length names) 1 rows) refl
  where
    by : (found : Option TableFault) → fault_of_rows (length names) 1 rows ≡ found
        → AnswerSays (table_of_records (names ∷ rows)) bytes
    by None q =
        let wide = none_wide (length names) 1 rows (omega arith) q in
        rw q (record {
          records = rows;
          read = is;
          rows = refl;
          wide = wide.0;
          few = omega (arith, wide.1);
          short = few;
        })
    by (Some why) q = rw q (says_of why bytes names rows few is (says_from (length names) 1 rows why (omega arith) q))

-- the definition's answer says of the bytes what the relations say
pub table-says : (bytes : List ℕ) → AnswerSays (table_of bytes) bytes
unfolding table_of
table-says bytes = by (nat_lt most_bytes (length bytes)) refl
  where
    by : (long : Bool) → nat_lt most_bytes (length bytes) ≡ long → AnswerSays (table_of bytes) bytes
    by true p = rw p (grind (arith, p))
    by false p = rw p (records_say bytes (records_of bytes) (grind (arith, p)) refl)

-- ---- and the other way round

width_back : (width first : ℕ) (before : List (List (List ℕ))) (row : List (List ℕ)) (after : List (List (List ℕ)))
    → first + length before ≤ 262144 → AreWide width before → length row ≢ width
    → fault_of_rows width first (before ++ row ∷ after) ≡ Some (fault.Width (first + length before) (length row))
unfolding fault_of_rows
width_back width first [] row after few wide other =
    let p : nat_lt most_rows first ≡ false = grind (arith, few) in
    let s : (length row == width) ≡ false = grind (arith, other) in
    rw (p, s, add-zero first) refl
width_back width first (one ∷ before) row after few wide other =
    let p : nat_lt most_rows first ≡ false = grind (arith, few) in
    let s : (length one == width) ≡ true = grind (arith, wide.0) in
    let more = width_back width (first + 1) before row after (omega (arith, few)) wide.1 other in
    let number : first + 1 + length before ≡ first + length (one ∷ before) = omega arith in
    rw (p, s) (rw number at more)

many_back : (width first : ℕ) (rows : List (List (List ℕ))) → first ≤ 262145 → 262145 < first + length rows
    → AreWide width (take (262145 - first) rows)
    → fault_of_rows width first rows ≡ Some fault.TooMany
unfolding fault_of_rows
many_back width first [] few many wide = absurd (omega (arith, few, many))
many_back width first (row ∷ rows) few many wide = by (nat_lt most_rows first) refl (many_back width (first + 1) rows)
  where
    by : (past : Bool) → nat_lt most_rows first ≡ past
        → (first + 1 ≤ 262145 → 262145 < first + 1 + length rows → AreWide width (take (262145 - (first + 1)) rows)
        → fault_of_rows width (first + 1) rows ≡ Some fault.TooMany)
        → fault_of_rows width first (row ∷ rows) ≡ Some fault.TooMany
    by true p more = rw p refl
    by false p more =
        let within : first ≤ 262144 = grind (arith, p) in
        let left : 262145 - first ≡ suc (262145 - (first + 1)) = omega (arith, within) in
        let is : AreWide width (row ∷ take (262145 - (first + 1)) rows) = rw left at wide in
        let s : (length row == width) ≡ true = grind (arith, is.0) in
        rw (p, s) (more (omega (arith, within)) (omega (arith, many)) is.1)

rows_back : (why : TableFault) (names : List (List ℕ)) (rows : List (List (List ℕ))) → SaysOfRecords why (names ∷ rows)
    → fault_of_rows (length names) 1 rows ≡ Some why
rows_back (fault.Width number found) names rows is =
    let counted : 1 + length is.before ≡ number = omega (arith, is.counted) in
    rw (is.joined, is.fields, ← counted) (width_back (length names) 1 is.before is.row is.after (omega (
      arith,
      is.counted,
      is.few,
    )) is.wide is.other)
rows_back fault.TooMany names rows is = many_back (length names) 1 rows (omega arith) (omega (arith, is.many)) is.wide
rows_back fault.Read names rows is = absurd is
rows_back fault.TooLong names rows is = absurd is
rows_back fault.NoHeader names rows is = cc is
rows_back fault.Memory names rows is = absurd is

records_back : (why : TableFault) (all : List (List (List ℕ))) → SaysOfRecords why all → table_of_records all ≡ Err why
unfolding table_of_records
records_back why (names ∷ rows) is = rw (rows_back why names rows is) refl
records_back fault.NoHeader [] is = refl
records_back (fault.Width number found) [] is = absurd is
records_back fault.TooMany [] is = absurd is
records_back fault.Read [] is = absurd is
records_back fault.TooLong [] is = absurd is
records_back fault.Memory [] is = absurd is

short_back : (why : TableFault) (bytes : List ℕ) → length bytes ≤ most_bytes → SaysOfRecords why (records_of bytes)
    → table_of bytes ≡ Err why
short_back why bytes few is = short-table bytes few ∙ records_back why (records_of bytes) is

-- bytes with a fault have that answer
pub says-table : (why : TableFault) (bytes : List ℕ) → SaysOf why bytes → table_of bytes ≡ Err why
says-table fault.TooLong bytes is = long-table bytes is
says-table (fault.Width number found) bytes is = short_back (fault.Width number found) bytes is.0 is.1
says-table fault.TooMany bytes is = short_back fault.TooMany bytes is.0 is.1
says-table fault.NoHeader bytes is = short_back fault.NoHeader bytes is.0 is.1
says-table fault.Read bytes is = absurd is.1
says-table fault.Memory bytes is = absurd is.1
