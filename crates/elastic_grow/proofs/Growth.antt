-- The grown rest stands for every input for which the rest stood.
use Rattle.std.proofs.Common.{◌≡◌, ◌≢◌, ℕ, ◌+◌, ◌*◌, ◌^◌, ◌<◌, ◌≤◌, max, inl, inr, refl, sym, ◌∙◌, ap, subst, arith}
use Rattle.std.proofs.Common.{Bool, true, false, not, Option, Some, None, List, [], length, ◌||◌}
use Rattle.std.specs.Prelude.{map, filter, slice_get, All, if◌then◌else◌}
use Rattle.std.proofs.lemmas.Bool.{cases_eq}
use Rattle.std.proofs.lemmas.Bool.Decides.{nat_tests}
use Rattle.std.proofs.lemmas.Nat.{pow_pos}
use Rattle.std.proofs.lemmas.List.{get_or-map}
use Rattle.std.proofs.lemmas.List.Elements.{filter-append}
use Rattle.std.proofs.lemmas.Option.{slice_get_within, get_or_from_slice_get}
use mathlib.Core.Path.{fun_ext}
use Rattle.row_cells.specs.declared.table.Side.{Side}
use Rattle.row_cells.specs.declared.table.Side.TheVariants.{R, S}
use Rattle.row_cells.specs.Lists.{SameBag}
use Rattle.epoch_tags.specs.declared.tuple.Tuple.{Tuple}
use Rattle.grid_map.specs.declared.cost.Weights.{Weights}
use Rattle.grid_map.specs.Grid.{holds_r, holds_s}
use Rattle.grid_map.proofs.Best.{best_fewest}
use Rattle.migration_plan.specs.Steps.{holds, holds_ticket}
use Rattle.theta_pred.specs.Formula.{Meaning}
use Rattle.store_parts.specs.Stored.{Stored}
use Rattle.joiner_core.specs.State.{tuples_of, IsKeyOf}
use Rattle.load_controller.specs.declared.line.Cause.TheVariants.{Start, Wave}
use Rattle.load_controller.specs.declared.line.TurnLine.{TurnLine}
use Rattle.load_controller.specs.Journal.{Fits, has_doubled}
use Rattle.row_tickets.specs.declared.place.Place.{Place}
use Rattle.trace_law.specs.declared.input.Input.{Input}
use Rattle.trace_law.specs.declared.setting.Setting.{Setting}
use Rattle.trace_law.specs.Join.{is_before}
use Rattle.trace_law.specs.Family.{IsLineFor, aged, all_places, old_rows, tuple_of}
use Rattle.actor_core.specs.declared.rests.Rest.{Rest}
use Rattle.actor_core.specs.Rests.{IsRestOf, tuples_at}
use Rattle.actor_core.proofs.Beginnings.{there}
use Rattle.elastic_grow.specs.Children.{parent_of}
use Rattle.elastic_grow.specs.Stores.{AreKept}
use Rattle.elastic_grow.specs.Growth.{grown_line, grown_setting, AreOfOne, AreOfParents}
use Rattle.elastic_grow.proofs.Parents.{children_hold, has_one_parent}
use Rattle.elastic_grow.proofs.Kept.{some_same}
use Rattle.elastic_grow.proofs.Sums.{all_rows, is_there, part_is, there_if_held}

none_doubled : (x y : ℕ) → (has_doubled x x || has_doubled y y) ≡ false
none_doubled x y = grind (arith, nat_tests)

no_start : Wave ≡ Start → ⊥
no_start is = cc

no_shift : (shift : ℕ) → None ≡ Some shift → ⊥
no_shift shift is = cc

le_self : (n : ℕ) → n ≤ n
le_self n = omega arith

-- what a joiner of the grown grid holds at one more shift its parent held
parent_holds : (k b j : ℕ) → b ≤ k → k ≤ 6 → j < 2 ^ (k + 2) → (side : Side) (ticket : ℕ)
    → holds_ticket (k + 2) (b + 1) j side ticket ≡ true → holds_ticket k b (parent_of b j) side ticket ≡ true
parent_holds k b j within few low R ticket held =
    let one = has_one_parent k b j within low in
    (children_hold k b (parent_of b j) one.a one.d ticket within few one.low_a one.low_d).of_r
    (subst (λ n. holds_r (k + 2) (b + 1) n ticket ≡ true) (sym one.is) held)
parent_holds k b j within few low S ticket held =
    let one = has_one_parent k b j within low in
    (children_hold k b (parent_of b j) one.a one.d ticket within few one.low_a one.low_d).of_s
    (subst (λ n. holds_s (b + 1) n ticket ≡ true) (sym one.is) held)

at_place : (stores : List Stored) (i : ℕ) (own : Stored) → slice_get stores i ≡ Some own
    → tuples_at stores i ≡ tuples_of own
at_place stores i own is =
    get_or-map tuples_of stores i own [] (slice_get_within stores i own is)
    ∙ ap tuples_of (get_or_from_slice_get stores i own own is)

module _ (theta : Meaning) (k shift count : ℕ) (from : ℕ → Option Stored) (new : List Stored) where
  -- the stores have the key that those have of which they are parts
  keys_of : AreKept (record { k = k; shift = shift }) from count new
      → ((j : ℕ) (own : Stored) → from j ≡ Some own → IsKeyOf theta own.key)
      → All (λ store. IsKeyOf theta store.key) new
  keys_of kept keys i d low =
      let given = there new i low in
      let own = kept.each i given.0 given.1 in
      let is = get_or_from_slice_get new i given.0 d given.1 ∙ own.2 in
      subst (λ (s : Stored). IsKeyOf theta s.key) (sym is) (keys i own.0 own.1)

module _ (input : Input) (setting : Setting) (rest : Rest) (weights : Weights) (stands : IsRestOf input setting rest)
    (few : rest.k ≤ 6) (within : rest.line.shift ≤ rest.k) (free : setting.fixed ≡ None)
    (same : setting.weights ≡ weights) where
  abbrev k : ℕ
  k = rest.k

  abbrev b : ℕ
  b = rest.line.shift

  abbrev grown : TurnLine
  grown = grown_line weights rest.k rest.line

  abbrev old : List Tuple
  old = old_rows input rest.line

  same_before : (side : Side) (i : ℕ) → is_before grown side i ≡ is_before rest.line side i
  same_before R i = refl
  same_before S i = refl

  before_is : is_before grown ≡ is_before rest.line
  before_is = fun_ext (λ side. fun_ext (λ i. same_before side i))

  its_stored : (j : ℕ) → j < 2 ^ rest.k
      → SameBag (map (aged rest.line) (tuples_at rest.stores j)) (filter (holds rest.k rest.line.shift j) old)
  its_stored =
      subst (λ (n : ℕ). (j : ℕ) → j < 2 ^ n
      → SameBag (map (aged rest.line) (tuples_at rest.stores j)) (filter (holds n rest.line.shift j) old))
      (sym stands.grid) stands.stands.stored

  fits_at : Fits (record { k = rest.k + 2; feeders = setting.feeders; fixed = setting.fixed; weights = weights }) grown
  fits_at =
      let was = stands.stands.line.fits in
      let best = best_fewest (rest.k + 2) (rest.line.shift + 1) (weights.r * rest.line.rows_r)
      (weights.s * rest.line.rows_s) (omega (arith, within)) in
      record {
        still = was.still;
        reached = refl;
        within = best.within;
        few_r = was.few_r;
        few_s = was.few_s;
        base_r = le_self rest.line.rows_r;
        base_s = le_self rest.line.rows_s;
        free = λ none. (ap not (none_doubled rest.line.rows_r rest.line.rows_s), best);
        fixed = λ shift fixed. absurd (no_shift shift (sym free ∙ fixed));
      }

  next_line : IsLineFor input (grown_setting setting) grown
  next_line = record {
    fits =
        subst (λ (w : Weights). Fits (record {
          k = setting.k + 2;
          feeders = setting.feeders;
          fixed = setting.fixed;
          weights = w;
        }) grown) (sym same)
        (subst (λ (n : ℕ). Fits (record {
          k = n + 2;
          feeders = setting.feeders;
          fixed = setting.fixed;
          weights = weights;
        }) grown) stands.grid fits_at);
    begins = λ start. absurd (no_start start);
    within_r = stands.stands.line.within_r;
    within_s = stands.stands.line.within_s;
  }

  -- stores that hold the old rows of their joiners
  abbrev AreHeld : List Stored → Type 0
  AreHeld new = (j : ℕ) → j < 2 ^ (rest.k + 2)
      → SameBag (map (aged rest.line) (tuples_at new j)) (filter (holds (rest.k + 2) grown.shift j) old)

  held_stand : (new : List Stored) → length new ≡ 2 ^ (rest.k + 2)
      → All (λ store. IsKeyOf input.theta store.key) new → AreHeld new
      → IsRestOf input (grown_setting setting) (record { k = rest.k + 2; line = grown; stores = new })
  held_stand new many keys held = record {
    grid = ap (λ n. n + 2) stands.grid;
    many = many ∙ ap (λ n. 2 ^ (n + 2)) stands.grid;
    keys = keys;
    stands = record {
      line = next_line;
      stored =
          subst (λ (n : ℕ). (j : ℕ) → j < 2 ^ (n + 2)
          → SameBag (map (aged grown) (tuples_at new j)) (filter (holds (n + 2) grown.shift j) (old_rows input grown)))
          stands.grid
          (λ j low.
          subst (λ (before : Side → ℕ → Bool).
          SameBag (map (λ (t : Tuple). record t {
            stamp = if before t.side t.index then max rest.line.epoch t.stamp else t.stamp;
          }) (tuples_at new j))
          (filter (holds (rest.k + 2) grown.shift j)
          (map (tuple_of input rest.line.epoch)
          (filter (λ (place : Place). before place.side place.index) (all_places input)))))
          (sym before_is) (held j low));
    };
  }

  parts_held : (from : ℕ → Option Stored) (new : List Stored) (m : ℕ → Tuple → Bool)
      → AreKept (record { k = rest.k + 2; shift = grown.shift }) from (2 ^ (rest.k + 2)) new
      → ((j : ℕ) (own : Stored) → j < 2 ^ (rest.k + 2) → from j ≡ Some own
      → SameBag (map (aged rest.line) (tuples_of own)) (filter (m j) old))
      → ((j : ℕ) → j < 2 ^ (rest.k + 2) → (t : Tuple) → holds (rest.k + 2) grown.shift j t ≡ true → m j t ≡ true)
      → AreHeld new
  parts_held from new m kept rows passes j low =
      let given = there new j (subst (λ n. j < n) (sym kept.all) low) in
      let own = kept.each j given.0 given.1 in
      let tuples = at_place new j given.0 given.1 ∙ ap tuples_of own.2
      ∙ sym (filter-append (holds (rest.k + 2) grown.shift j) own.0.r own.0.s) in
      subst (λ (ts : List Tuple).
      SameBag (map (aged rest.line) ts) (filter (holds (rest.k + 2) grown.shift j) old)) (sym tuples)
      (part_is rest.line (m j) (rest.k + 2) grown.shift j (tuples_of own.0) old (rows j own.0 low own.1) (passes j low))

  of_parents : (new : List Stored) → grown.shift ≡ rest.line.shift + 1
      → AreOfParents rest.k rest.line.shift grown.shift rest.stores new
      → IsRestOf input (grown_setting setting) (record { k = rest.k + 2; line = grown; stores = new })
  of_parents new next kept =
      let from : ℕ → Option Stored = λ j. slice_get rest.stores (parent_of rest.line.shift j) in
      held_stand new kept.all
      (keys_of input.theta (rest.k + 2) grown.shift (2 ^ (rest.k + 2)) from new kept
      (λ j own named. subst (λ (s : Stored). IsKeyOf input.theta s.key)
      (get_or_from_slice_get rest.stores (parent_of rest.line.shift j) own own named)
      (stands.keys (parent_of rest.line.shift j) own
      (slice_get_within rest.stores (parent_of rest.line.shift j) own named))))
      (parts_held from new (λ j. holds rest.k rest.line.shift (parent_of rest.line.shift j)) kept
      (λ j own low named. subst (λ (ts : List Tuple). SameBag (map (aged rest.line) ts)
      (filter (holds rest.k rest.line.shift (parent_of rest.line.shift j)) old))
      (at_place rest.stores (parent_of rest.line.shift j) own named)
      (its_stored (parent_of rest.line.shift j) ((has_one_parent rest.k rest.line.shift j within low).below)))
      (λ j low t held. parent_holds rest.k rest.line.shift j within few low t.side t.ticket
      (subst (λ n. holds_ticket (rest.k + 2) n j t.side t.ticket ≡ true) next held)))

  of_one : (theta : Meaning) (new : List Stored) → All (λ store. IsKeyOf theta store.key) rest.stores
      → AreOfOne theta rest.k rest.line.shift grown.shift rest.stores new
      → IsRestOf input (grown_setting setting) (record { k = rest.k + 2; line = grown; stores = new })
  of_one theta new keys one =
      let from : ℕ → Option Stored = λ j. Some one.whole in
      let some : 0 < length rest.stores =
      subst (λ n. 0 < n) (sym (stands.many ∙ ap (λ n. 2 ^ n) (sym stands.grid))) (pow_pos rest.k) in
      let first = (there rest.stores 0 some).0 in
      let key : IsKeyOf input.theta one.whole.key =
      one.is_whole.key ∙ (sym (keys 0 first some) ∙ stands.keys 0 first some) in
      let rows = all_rows input rest.line rest.k within rest.stores its_stored (tuples_of one.whole)
      one.is_whole.tuples in
      held_stand new one.parts.all
      (keys_of input.theta (rest.k + 2) grown.shift (2 ^ (rest.k + 2)) from new one.parts
      (λ j own named. subst (λ (s : Stored). IsKeyOf input.theta s.key) (some_same one.whole own named) key))
      (parts_held from new (λ j t. is_there rest.k rest.line.shift t.side t.ticket) one.parts
      (λ j own low named. subst (λ (s : Stored). SameBag (map (aged rest.line) (tuples_of s))
      (filter (λ t. is_there rest.k rest.line.shift t.side t.ticket) old)) (some_same one.whole own named) rows)
      (λ j low t held. there_if_held rest.k rest.line.shift (rest.k + 2) grown.shift j within (omega (arith, few))
      fits_at.within (omega (arith, few)) low t.side t.ticket held))

  -- both ways it stands for the input
  pub grown_stands : (theta : Meaning) (line : TurnLine) (stores new : List Stored) → line ≡ grown
      → stores ≡ rest.stores → All (λ store. IsKeyOf theta store.key) rest.stores
      → (line.shift ≡ rest.line.shift + 1 → AreOfParents rest.k rest.line.shift line.shift stores new)
      → (line.shift ≢ rest.line.shift + 1 → AreOfOne theta rest.k rest.line.shift line.shift stores new)
      → IsRestOf input (grown_setting setting) (record { k = rest.k + 2; line = line; stores = new })
  grown_stands theta line stores new line_is stores_are keys parts anew =
      subst (λ (l : TurnLine).
      (l.shift ≡ rest.line.shift + 1 → AreOfParents rest.k rest.line.shift l.shift rest.stores new)
      → (l.shift ≢ rest.line.shift + 1 → AreOfOne theta rest.k rest.line.shift l.shift rest.stores new)
      → IsRestOf input (grown_setting setting) (record { k = rest.k + 2; line = l; stores = new }))
      (sym line_is) here
      (λ is. subst (λ (ss : List Stored). AreOfParents rest.k rest.line.shift line.shift ss new) stores_are (parts is))
      (λ differs. subst (λ (ss : List Stored). AreOfOne theta rest.k rest.line.shift line.shift ss new) stores_are
      (anew differs))
    where
      here : (grown.shift ≡ rest.line.shift + 1 → AreOfParents rest.k rest.line.shift grown.shift rest.stores new)
          → (grown.shift ≢ rest.line.shift + 1 → AreOfOne theta rest.k rest.line.shift grown.shift rest.stores new)
          → IsRestOf input (grown_setting setting) (record { k = rest.k + 2; line = grown; stores = new })
      here parts' anew' = elim (cases_eq grown.shift (rest.line.shift + 1)) [
        | inl is ↦ of_parents new is (parts' is)
        | inr differs ↦ of_one theta new keys (anew' differs)
      ]
