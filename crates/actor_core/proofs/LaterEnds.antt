-- A rest stands for an input where it stands for the input up to an end.
use Rattle.std.proofs.Common.{◌≡◌, ℕ, zero, suc, ◌+◌, ◌-◌, ◌<◌, ◌≤◌, sym, ap, ap₂, subst, ◌∙◌, arith}
use Rattle.std.proofs.Common.{true, false, cond, List, [], ◌∷◌, ◌++◌, append-nil, map, ltb-true}
use Rattle.std.specs.Prelude.{filter}
use Rattle.std.specs.List.{range_with_len}
use Rattle.std.proofs.lemmas.Bool.{le-ltb}
use Rattle.std.proofs.lemmas.List.{get_or-take}
use Rattle.std.proofs.lemmas.List.Elements.{filter-append}
use Rattle.std.proofs.lemmas.List.FromFn.{filter_of_map_range_with_len_more}
use Rattle.row_cells.specs.declared.table.Side.{Side}
use Rattle.row_cells.specs.declared.table.Side.TheVariants.{R, S}
use Rattle.row_cells.specs.Lists.{SameBag}
use Rattle.row_cells.proofs.Within.{all_pass, within-refl}
use Rattle.migration_plan.specs.Steps.{holds}
use Rattle.row_tickets.specs.declared.place.Place.{Place}
use Rattle.row_tickets.specs.Share.{place_at}
use Rattle.load_controller.specs.declared.line.TurnLine.{TurnLine}
use Rattle.trace_law.specs.declared.input.Input.{Input}
use Rattle.trace_law.specs.Join.{row_count, is_before}
use Rattle.trace_law.specs.Family.{aged, all_places, is_old, old_rows, tuple_of}
use Rattle.actor_core.specs.declared.rests.Upto.{Upto}
use Rattle.actor_core.specs.Rests.{upto, tuples_at, IsWithin, StandsBeyond, StandsUpto}
use Rattle.actor_core.proofs.UptoEnd.{count_r, count_s, same_map}

-- how many rows of a side the line has counted
abbrev counted : TurnLine → Side → ℕ
counted line R = line.rows_r
counted line S = line.rows_s

-- how many rows of a side there are up to an end
abbrev ends_at : Upto → Side → ℕ
ends_at end R = end.rows_r
ends_at end S = end.rows_s

-- ---- the rows that a line has counted are the same in more rows

module _ (line : TurnLine) (side : Side) where
  abbrev old_of : ℕ → List Place
  old_of n = filter (is_old line) (map (place_at side) (range_with_len 0 n))

  not_old : (i : ℕ) → counted line side ≤ i → is_before line side i ≡ false
  not_old i high = by_side side high
    where
      by_side : (s : Side) → counted line s ≤ i → is_before line s i ≡ false
      by_side R low = le-ltb i line.rows_r low
      by_side S low = le-ltb i line.rows_s low

  more : (m d : ℕ) → counted line side ≤ m → old_of (m + d) ≡ old_of m
  more m zero low = let same : m + zero ≡ m = omega arith in ap old_of same
  more m (suc d) low =
      let next : m + suc d ≡ m + d + 1 = omega arith in
      let high : counted line side ≤ m + d = omega (arith, low) in
      ap old_of next
      ∙ filter_of_map_range_with_len_more (is_old line) (place_at side) 0 (m + d) (m + d) (omega arith)
      ∙ ap (λ c. old_of (m + d) ++ cond c (place_at side (m + d) ∷ []) []) (not_old (m + d) high)
      ∙ append-nil (old_of (m + d))
      ∙ more m d low

  old_in_front : (m n : ℕ) → counted line side ≤ m → m ≤ n → old_of n ≡ old_of m
  old_in_front m n low less =
      let parts : n ≡ m + (n - m) = omega (arith, less) in
      ap old_of parts ∙ more m (n - m) low

-- ---- of an input

module _ (end : Upto) (input : Input) (within : IsWithin end input) (line : TurnLine)
    (low_r : line.rows_r ≤ end.rows_r) (low_s : line.rows_s ≤ end.rows_s) where
  old_places : filter (is_old line) (all_places input) ≡ filter (is_old line) (all_places (upto end input))
  old_places =
      let of_r : old_of line R (row_count input R) ≡ old_of line R (row_count (upto end input) R) =
      old_in_front line R end.rows_r (row_count input R) low_r within.rows_r
      ∙ ap (old_of line R) (sym (count_r end input within)) in
      let of_s : old_of line S (row_count input S) ≡ old_of line S (row_count (upto end input) S) =
      old_in_front line S end.rows_s (row_count input S) low_s within.rows_s
      ∙ ap (old_of line S) (sym (count_s end input within)) in
      filter-append (is_old line) (map (place_at R) (range_with_len 0 (row_count input R)))
      (map (place_at S) (range_with_len 0 (row_count input S)))
      ∙ ap₂ (λ rs ss. rs ++ ss) of_r of_s
      ∙ sym (filter-append (is_old line) (map (place_at R) (range_with_len 0 (row_count (upto end input) R)))
      (map (place_at S) (range_with_len 0 (row_count (upto end input) S))))

  same_old : (stamp : ℕ) (side : Side) (i : ℕ) → is_before line side i ≡ true
      → tuple_of input stamp (place_at side i) ≡ tuple_of (upto end input) stamp (place_at side i)
  same_old stamp R i is =
      let old = ltb-true i line.rows_r is in
      let low : i < end.rows_r = omega (arith, old, low_r) in
      ap₂ (λ ticket cells. record { side = R; index = i; ticket = ticket; stamp = stamp; cells = cells })
      (sym (get_or-take end.rows_r input.tickets_r i 0 low)) (sym (get_or-take end.rows_r input.table_r.rows i [] low))
  same_old stamp S i is =
      let old = ltb-true i line.rows_s is in
      let low : i < end.rows_s = omega (arith, old, low_s) in
      ap₂ (λ ticket cells. record { side = S; index = i; ticket = ticket; stamp = stamp; cells = cells })
      (sym (get_or-take end.rows_s input.tickets_s i 0 low)) (sym (get_or-take end.rows_s input.table_s.rows i [] low))

  -- what was counted before is the same up to the end as in the whole input
  pub old_upto : old_rows input line ≡ old_rows (upto end input) line
  old_upto =
      let places = filter (is_old line) (all_places input) in
      same_map (tuple_of input line.epoch) (tuple_of (upto end input) line.epoch) (λ a. is_old line a ≡ true)
      (λ a is. same_old line.epoch a.side a.index is) places
      (all_pass (is_old line) places (all_places input) (within-refl places))
      ∙ ap (map (tuple_of (upto end input) line.epoch)) old_places

-- so a rest that stands for the input stands for it up to any end that leaves out no counted row
pub stands_upto : StandsUpto
stands_upto end input setting rest within is =
    let line = rest.line in
    record {
      grid = is.grid;
      many = is.many;
      keys = is.keys;
      stands = record {
        line = record {
          fits = is.stands.line.fits;
          begins = is.stands.line.begins;
          within_r = subst (λ n. line.rows_r ≤ n) (sym (count_r end input within.within)) within.counted_r;
          within_s = subst (λ n. line.rows_s ≤ n) (sym (count_s end input within.within)) within.counted_s;
        };
        stored = λ j low.
            subst (λ ts. SameBag (map (aged line) (tuples_at rest.stores j))
            (filter (holds setting.k line.shift j) ts))
            (old_upto end input within.within line within.counted_r within.counted_s) (is.stands.stored j low);
      };
    }

-- and the other way round
pub stands_beyond : StandsBeyond
stands_beyond end input setting rest within is =
    let line = rest.line in
    let low_r : line.rows_r ≤ end.rows_r =
    subst (λ n. line.rows_r ≤ n) (count_r end input within) is.stands.line.within_r in
    let low_s : line.rows_s ≤ end.rows_s =
    subst (λ n. line.rows_s ≤ n) (count_s end input within) is.stands.line.within_s in
    let all_r = within.rows_r in
    let all_s = within.rows_s in
    record {
      grid = is.grid;
      many = is.many;
      keys = is.keys;
      stands = record {
        line = record {
          fits = is.stands.line.fits;
          begins = is.stands.line.begins;
          within_r = omega (arith, low_r, all_r);
          within_s = omega (arith, low_s, all_s);
        };
        stored = λ j low.
            subst (λ ts. SameBag (map (aged line) (tuples_at rest.stores j))
            (filter (holds setting.k line.shift j) ts))
            (sym (old_upto end input within line low_r low_s)) (is.stands.stored j low);
      };
    }
