-- The input up to a wave's end.
use Rattle.std.proofs.Common.{◌≡◌, ℕ, zero, suc, ◌<◌, ◌^◌, refl, sym, ap, ap₂, ◌∙◌, arith, Bool, true}
use Rattle.std.proofs.Common.{false}
use Rattle.std.proofs.Common.{cond, List, [], ◌∷◌, take, length, map, lt-ltb, ltb-true}
use Rattle.std.specs.Prelude.{not, filter, sum_by, nat_lt, All}
use Rattle.std.specs.List.{AllByRecursion}
use Rattle.std.proofs.lemmas.List.{length-take-le, get_or-take}
use Rattle.std.proofs.lemmas.List.Elements.{All-from_recursion, recursion_from_All}
use Rattle.row_cells.specs.declared.table.Side.{Side}
use Rattle.row_cells.specs.declared.table.Side.TheVariants.{R, S}
use Rattle.row_cells.proofs.Bags.{only_if}
use Rattle.row_cells.proofs.Totals.{total_same, total-zero, total_part}
use Rattle.row_cells.proofs.Within.{none_fails}
use Rattle.reshuffler_core.specs.Batches.{cut}
use Rattle.row_tickets.specs.declared.place.Feed.{Feed}
use Rattle.row_tickets.specs.declared.place.Place.{Place}
use Rattle.row_tickets.specs.Share.{share, place_at}
use Rattle.load_controller.specs.declared.line.TurnLine.{TurnLine}
use Rattle.trace_law.specs.declared.input.Input.{Input}
use Rattle.trace_law.specs.declared.setting.Setting.{Setting}
use Rattle.trace_law.specs.Join.{row_count}
use Rattle.trace_law.specs.Validity.{IsValidInput}
use Rattle.trace_law.specs.Family.{is_old, own_rows, tuple_of, feeder_start}
use Rattle.trace_law.proofs.RowSums.{shares_sum}
use Rattle.trace_law.proofs.StampOf.{filtered}
use Rattle.trace_law.proofs.Validity.{both_sides}
use Rattle.actor_core.specs.declared.rests.Upto.{Upto}
use Rattle.actor_core.specs.Rests.{upto, at_line, IsWithin}
use Rattle.actor_core.proofs.Beginnings.{map-cut}

-- ---- a list's front, filtered and mapped

picked : {X Y : Type 0} (g : X → Y) (c : Bool) (x : X) → map g (cond c (x ∷ []) []) ≡ cond c (g x ∷ []) []
picked g true x = refl
picked g false x = refl

-- ---- the rows of a share

-- how many rows of a side there are
abbrev of_side : ℕ → ℕ → Side → ℕ
of_side rows_r rows_s R = rows_r
of_side rows_r rows_s S = rows_s

abbrev is_within : ℕ → ℕ → Place → Bool
is_within rows_r rows_s a = nat_lt a.index (of_side rows_r rows_s a.side)

-- a feeder's rows are there
share_within : (feed : Feed) (feeders p rows_r rows_s : ℕ) → p < feeders
    → AllByRecursion (λ a. is_within rows_r rows_s a ≡ true) (share feed feeders p rows_r rows_s)
share_within feed feeders p rows_r rows_s low =
    let test : Place → Bool = is_within rows_r rows_s in
    let bad : Place → ℕ = λ a. only_if (not (test a)) 1 in
    let dealt : ℕ → List Place = λ q. share feed feeders q rows_r rows_s in
    let all = shares_sum feed feeders (omega (arith, low)) bad rows_r rows_s in
    let of_r = total_same rows_r (λ i. bad (place_at R i)) (λ i. 0)
    (λ i below. ap (λ c. only_if (not c) 1) (lt-ltb i rows_r below)) ∙ total-zero rows_r in
    let of_s = total_same rows_s (λ i. bad (place_at S i)) (λ i. 0)
    (λ i below. ap (λ c. only_if (not c) 1) (lt-ltb i rows_s below)) ∙ total-zero rows_s in
    let part = total_part feeders p (λ q. sum_by bad (dealt q)) low in
    none_fails test (dealt p) (omega (arith, all, of_r, of_s, part))

-- maps that agree on the elements give the same list
pub same_map : {X Y : Type 0} (f g : X → Y) (P : X → Type 0) → ((x : X) → P x → f x ≡ g x) → (xs : List X)
    → AllByRecursion P xs → map f xs ≡ map g xs
same_map f g P same [] each = refl
same_map f g P same (x ∷ xs) (here, more) = ap₂ (λ y ys. y ∷ ys) (same x here) (same_map f g P same xs more)

-- ---- of an input

by_recursion : {X : Type 0} (P : X → Type 0) (n : ℕ) (xs : List X) → AllByRecursion P xs
    → AllByRecursion P (take n xs)
by_recursion P zero xs each = tt
by_recursion P (suc n) [] each = tt
by_recursion P (suc n) (x ∷ xs) (here, more) = (here, by_recursion P n xs more)

front_all : {X : Type 0} (P : X → Type 0) (n : ℕ) (xs : List X) → All P xs → All P (take n xs)
front_all P n xs each =
    All-from_recursion P (take n xs) (by_recursion P n xs (recursion_from_All P xs each))

module _ (end : Upto) (input : Input) (within : IsWithin end input) where
  -- it has so many rows
  pub count_r : row_count (upto end input) R ≡ end.rows_r
  count_r = length-take-le end.rows_r input.table_r.rows within.rows_r

  -- and of S
  pub count_s : row_count (upto end input) S ≡ end.rows_s
  count_s = length-take-le end.rows_s input.table_s.rows within.rows_s

  -- its tuples are those of the whole input
  same_tuple : (side : Side) (i : ℕ) → nat_lt i (of_side end.rows_r end.rows_s side) ≡ true
      → tuple_of input 0 (place_at side i) ≡ tuple_of (upto end input) 0 (place_at side i)
  same_tuple R i is =
      let low = ltb-true i end.rows_r is in
      ap₂ (λ ticket cells. record { side = R; index = i; ticket = ticket; stamp = 0; cells = cells })
      (sym (get_or-take end.rows_r input.tickets_r i 0 low)) (sym (get_or-take end.rows_r input.table_r.rows i [] low))
  same_tuple S i is =
      let low = ltb-true i end.rows_s is in
      ap₂ (λ ticket cells. record { side = S; index = i; ticket = ticket; stamp = 0; cells = cells })
      (sym (get_or-take end.rows_s input.tickets_s i 0 low)) (sym (get_or-take end.rows_s input.table_s.rows i [] low))

  -- what a feeder deals are its batches of the wave
  pub batches_upto : (setting : Setting) (line : TurnLine) (p : ℕ) → p < setting.feeders
      → cut setting.batch (map (tuple_of input 0) (filter (λ place. not (is_old line place))
      (share setting.feed setting.feeders p end.rows_r end.rows_s)))
      ≡ (feeder_start (upto end input) setting (at_line line) p).batches
  batches_upto setting line p low =
      let test : Place → Bool = λ place. not (is_old line place) in
      let dealt = share setting.feed setting.feeders p end.rows_r end.rows_s in
      let there = filtered (λ a. is_within end.rows_r end.rows_s a ≡ true) test dealt
      (share_within setting.feed setting.feeders p end.rows_r end.rows_s low) in
      let same = same_map (tuple_of input 0) (tuple_of (upto end input) 0)
      (λ a. is_within end.rows_r end.rows_s a ≡ true) (λ a is. same_tuple a.side a.index is) (filter test dealt)
      there in
      let own : filter test dealt ≡ own_rows (upto end input) setting line p =
      ap₂ (λ r s. filter test (share setting.feed setting.feeders p r s)) (sym count_r) (sym count_s) in
      ap (cut setting.batch) (same ∙ ap (map (tuple_of (upto end input) 0)) own)
      ∙ map-cut (tuple_of (upto end input) 0) setting.batch (own_rows (upto end input) setting line p)

  -- it is valid where the whole input is
  pub valid_upto : IsValidInput input → IsValidInput (upto end input)
  valid_upto valid = both_sides (upto end input) (record {
    few = let is = count_r in let few = (valid.sides R).few in let low = within.rows_r in omega arith;
    each =
        let tickets = (valid.sides R).each in
        length-take-le end.rows_r input.tickets_r
        (let low = within.rows_r in omega (arith, tickets, low)) ∙ sym count_r;
    header = (valid.sides R).header;
    rows = front_all (λ row. length row ≡ input.theta.width_r) end.rows_r input.table_r.rows (valid.sides R).rows;
  }) (record {
    few = let is = count_s in let few = (valid.sides S).few in let low = within.rows_s in omega arith;
    each =
        let tickets = (valid.sides S).each in
        length-take-le end.rows_s input.tickets_s
        (let low = within.rows_s in omega (arith, tickets, low)) ∙ sym count_s;
    header = (valid.sides S).header;
    rows = front_all (λ row. length row ≡ input.theta.width_s) end.rows_s input.table_s.rows (valid.sides S).rows;
  }) (front_all (λ ticket. ticket < 2 ^ 8) end.rows_r input.tickets_r (valid.bytes R))
      (front_all (λ ticket. ticket < 2 ^ 8) end.rows_s input.tickets_s (valid.bytes S))
