-- Worked joins: what the definitions alone say of a few files, by computation.
use Rattle.std.proofs.Common.{◌≡◌, refl, ℕ, false, List, [], ◌∷◌, ◌++◌}
use Rattle.std.specs.Prelude.{None, Some, Result, Ok, Err, codes, flat_map, if◌then◌else◌}
use Rattle.std.specs.Fmt.{digits}
use Rattle.std.specs.Str.{bytes_eq}
use Rattle.csv.specs.Reading.{records_from}
use Rattle.csv.specs.Machine.{next_record}
use Rattle.row_cells.specs.declared.table.Side.TheVariants as sides
use Rattle.join_rows.specs.Records.{after_marks, table_of, table_of_records, fault_of_rows}
use Rattle.theta_tree.specs.Grammar.{Tree, txt}
use Rattle.theta_tree.specs.declared.tree.Op.TheVariants.{Eq}
use Rattle.theta_tree.specs.declared.tree.TextSide.TheVariants.{Col}
use Rattle.row_tickets.specs.declared.place.Feed.TheVariants.{Alternate}
use Rattle.join_words.specs.Words.{Asked, in_chain, in_waves}
use Rattle.join_words.specs.declared.kind.Grid.{Grid}
use Rattle.join_plan.specs.declared.fault.Refusal.{Refusal}
use Rattle.join_plan.specs.declared.fault.Refusal.TheVariants.{Input, Predicate, Then}
use Rattle.join_plan.specs.declared.fault.TextFault.TheVariants.{NoColumn, TwoColumns}
use Rattle.join_plan.specs.declared.fault.InputFault.TheVariants.{Width, NoHeader}
use Rattle.join_plan.specs.Plan.{plan_of}
use Rattle.join_plan.specs.Refusals.{then_of}
use Rattle.join_cli.specs.Chain.{chain_output}
use Rattle.join_cli.specs.Plan.{output_of}

-- these lines, each with its line feed
lines : List (List ℕ) → List ℕ
lines texts = flat_map (λ text. text ++ 10 ∷ []) texts

-- the texts of the columns `k` are equal
equal_keys : Tree
equal_keys = txt (Col (record { side = sides.R; word = codes "k" })) Eq
    (Col (record { side = sides.S; word = codes "k" }))

-- the grid of four joiners
abbrev by_four : Grid
by_four = record { k = 2; fixed = None }

-- the files `r` and `s` are joined by four joiners, without a report
four : Asked
four = record {
  on = [];
  kind = in_waves by_four None [] None;
  feeders = 2;
  workers = 4;
  batch = 64;
  feed = Alternate;
  weights = record { r = 1; s = 1 };
  seed = 1;
  make = None;
  report = false;
  rows = false;
  name_r = codes "r";
  name_s = codes "s";
}

-- the output of two files by a tree, or the refusal
joined : Tree → List ℕ → List ℕ → Result (List ℕ) Refusal
joined tree of_r of_s =
    then_of (plan_of four (record { on = Ok tree; further = None }) (λ name. if bytes_eq name (codes "r") then Some of_r
    else (if bytes_eq name (codes "s") then Some of_s else None)))
    (λ planned. Ok (output_of four planned []))

of_r : List ℕ
of_r = lines (codes "k,v" ∷ codes "7,a" ∷ codes "8,b" ∷ codes "7,c" ∷ [])

of_s : List ℕ
of_s = lines (codes "k" ∷ codes "7" ∷ codes "9" ∷ codes "7" ∷ [])

pairs : joined equal_keys of_r of_s ≡ Ok (lines (codes "1,1" ∷ codes "1,3" ∷ codes "3,1" ∷ codes "3,3" ∷ []))
unfolding lines equal_keys four joined of_r of_s table_of table_of_records fault_of_rows records_from next_record
    after_marks digits
pairs = refl

other_texts : joined equal_keys (lines (codes "k" ∷ codes "7" ∷ [])) (lines (codes "k" ∷ codes "07" ∷ [])) ≡ Ok []
unfolding lines equal_keys four joined table_of table_of_records fault_of_rows records_from next_record after_marks
    digits
other_texts = refl

empty_texts : joined equal_keys (lines (codes "k,v" ∷ codes ",a" ∷ [])) (lines (codes "k,w" ∷ codes ",b" ∷ []))
    ≡ Ok (lines (codes "1,1" ∷ []))
unfolding lines equal_keys four joined table_of table_of_records fault_of_rows records_from next_record after_marks
    digits
empty_texts = refl

no_column : joined equal_keys of_r (lines (codes "x" ∷ codes "7" ∷ [])) ≡ Err (Predicate (NoColumn sides.S (codes "k")))
unfolding lines equal_keys four joined of_r table_of table_of_records fault_of_rows records_from next_record after_marks
no_column = refl

two_columns : joined equal_keys (lines (codes "k,k" ∷ [])) of_s ≡ Err (Predicate (TwoColumns sides.R (codes "k")))
unfolding lines equal_keys four joined of_s table_of table_of_records fault_of_rows records_from next_record after_marks
two_columns = refl

narrow : joined equal_keys (codes "a,b" ++ 10 ∷ codes "1,2" ++ 10 ∷ codes "3") of_s ≡ Err (Input (Width sides.R 1 2 1))
unfolding equal_keys four joined of_s table_of table_of_records fault_of_rows records_from next_record after_marks
narrow = refl

no_header : joined equal_keys [] [] ≡ Err (Input (NoHeader sides.R 1))
unfolding equal_keys four joined table_of table_of_records fault_of_rows records_from next_record after_marks
no_header = refl

-- ---- a second join

-- the same two files, and the third `q`, by the texts of their columns `k`, the joined row's by this name
texts_of : List ℕ → Tree
texts_of name = txt (Col (record { side = sides.R; word = name })) Eq
    (Col (record { side = sides.S; word = codes "k" }))

-- the output of three files by two trees, or the refusal
chained : Tree → Tree → List ℕ → List ℕ → List ℕ → Result (List ℕ) Refusal
chained tree further of_r of_s of_q =
    let asked : Asked = record four { kind = in_chain by_four (record { on = []; name = codes "q" }) } in
    then_of (plan_of asked (record { on = Ok tree; further = Some (Ok further) })
    (λ name. if bytes_eq name (codes "r") then Some of_r else (if bytes_eq name (codes "s") then Some of_s
    else (if bytes_eq name (codes "q") then Some of_q else None))))
    (λ planned. Ok (chain_output asked planned planned.third [] []))

of_q : List ℕ
of_q = lines (codes "k" ∷ codes "c" ∷ codes "a" ∷ codes "c" ∷ [])

triples : chained equal_keys (texts_of (codes "r_v")) of_r of_s of_q
    ≡ Ok (lines (codes "1,1,2" ∷ codes "1,3,2" ∷ codes "3,1,1" ∷ codes "3,1,3" ∷ codes "3,3,1" ∷ codes "3,3,3" ∷ []))
unfolding lines equal_keys texts_of four chained of_r of_s of_q table_of table_of_records fault_of_rows records_from
    next_record after_marks digits
triples = refl

no_joined_column : chained equal_keys (texts_of (codes "v")) of_r of_s of_q ≡ Err (Then (NoColumn sides.R (codes "v")))
unfolding lines equal_keys texts_of four chained of_r of_s of_q table_of table_of_records fault_of_rows records_from
    next_record after_marks
no_joined_column = refl

narrow_third : chained equal_keys (texts_of (codes "v")) of_r of_s (codes "a,b" ++ 10 ∷ codes "1")
    ≡ Err (Input (Width sides.S 2 1 1))
unfolding lines equal_keys texts_of four chained of_r of_s table_of table_of_records fault_of_rows records_from
    next_record after_marks
narrow_third = refl
