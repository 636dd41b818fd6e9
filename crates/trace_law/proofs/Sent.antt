-- At every moment no pair is sent twice, and none is wrong.
use Rattle.std.proofs.Common.{◌≡◌, ℕ, ◌+◌, ◌<◌, ◌≤◌, ◌^◌, max, ◌⊎◌, inl, inr, sym, ◌∙◌, ap, subst, arith, Bool, true}
use Rattle.std.proofs.Common.{false, cond, List, [], ◌∷◌, ◌++◌}
use Rattle.std.specs.Prelude.{map, filter, flat_map, nat_le}
use Rattle.std.specs.List.{AllByRecursion}
use Rattle.std.proofs.lemmas.Bool.{leb-true, and_parts}
use Rattle.row_cells.specs.Lists.{SameBag, gather}
use Rattle.epoch_tags.specs.declared.tuple.Tuple.{Tuple}
use Rattle.epoch_tags.specs.declared.tuple.Pair.{Pair}
use Rattle.epoch_tags.specs.declared.message.ToCollector.{ToCollector}
use Rattle.epoch_tags.specs.declared.message.ToCollector.TheVariants.{Found}
use Rattle.epoch_tags.specs.Messages.{moved_of, found_before_fin}
use Rattle.migration_plan.specs.Steps.{holds, is_of, partner_in_step, exchanged_side}
use Rattle.joiner_law.specs.Law.{JoinerStart, JoinerLists, Taken, IsAtRest, opened, partner_of, found, fin}
use Rattle.load_controller.specs.declared.line.TurnLine.{TurnLine}
use Rattle.trace_law.specs.declared.input.Input.{Input}
use Rattle.trace_law.specs.Join.{is_before}
use Rattle.trace_law.specs.declared.setting.Setting.{Setting}
use Rattle.trace_law.specs.Validity.{IsValid}
use Rattle.trace_law.specs.Family.{Rest, IsRestFor, Family, IsAgreeing, NothingWrongIsSent, aged}
use Rattle.trace_law.proofs.Stores.{is_stored}
use Rattle.trace_law.proofs.Loop.{known_pairs, rest_is_new}
use Rattle.trace_law.proofs.AtMost.{b, all, start_of, took, came_within, stores_at_most}
use Rattle.trace_law.proofs.Found.{found_each_once}
use Rattle.row_cells.proofs.Within.{IsWithinBag-trans, within_same, same-gather, filtered_within, all_pass}
use Rattle.row_cells.proofs.Everywhere.{weaken}

-- what a joiner sent are its `Found`s
all_founds : (founds : List (List Pair)) (fins : List ToCollector) → found_before_fin fins ≡ []
    → found_before_fin (map Found founds ++ fins) ≡ flat_map (λ ps. ps) founds
all_founds [] fins none = none
all_founds (ps ∷ founds) fins none = ap (λ xs. ps ++ xs) (all_founds founds fins none)

-- the pairs before the last message are those found
pub founds_are : (s : JoinerStart) (lists : JoinerLists) (t : Taken) (founds : List (List Pair))
    (fins : List ToCollector) → (fins ≡ []) ⊎ ((fins ≡ fin s lists t ∷ []) × IsAtRest s t)
    → found_before_fin (map Found founds ++ fins) ≡ flat_map (λ ps. ps) founds
founds_are s lists t founds fins (inl none) = all_founds founds fins (ap found_before_fin none)
founds_are s lists t founds fins (inr last) = all_founds founds fins (ap found_before_fin last.0)

-- ---- of what was moved

-- what holds of each image holds of each element through the map
pub unmapped : {X Y : Type 0} (P : Y → Type 0) (g : X → Y) (xs : List X) → AllByRecursion P (map g xs)
    → AllByRecursion (λ x. P (g x)) xs
unmapped P g [] each = tt
unmapped P g (x ∷ xs) (here, more) = (here, unmapped P g xs more)

-- a stamp is never lowered
never_lowered : (line : TurnLine) (t : Tuple) → t.stamp ≤ (aged line t).stamp
never_lowered line t = at (is_before line t.side t.index)
  where
    at : (c : Bool) → t.stamp ≤ cond c (max line.epoch t.stamp) t.stamp
    at true = omega arith
    at false = omega arith

-- ---- of a family

module _ (input : Input) (setting : Setting) (valid : IsValid input setting) (rest : Rest)
    (stands : IsRestFor input setting rest) (f : Family) (agrees : IsAgreeing input setting rest f) where
  -- the shift of an epoch by the journal
  abbrev pub shift : ℕ → ℕ
  shift e = b input setting valid rest stands f agrees e

  -- the rows that are known
  abbrev pub rows : List Tuple
  rows = all input setting valid rest stands f agrees

  -- how joiner j begins
  abbrev pub s_of : ℕ → JoinerStart
  s_of j = start_of input setting valid rest stands f agrees j

  -- what it took
  abbrev pub t_of : ℕ → Taken
  t_of j = took input setting valid rest stands f agrees j

  -- what partners moved is older than its step
  pub moved_older : (j : ℕ) (h : j < 2 ^ setting.k) (n : ℕ) → n < opened (s_of j) (t_of j)
      → AllByRecursion (λ x. x.stamp ≤ rest.line.epoch + n)
      (moved_of (rest.line.epoch + n + 1) ((t_of j).from_joiner (partner_of (s_of j) (t_of j) n)))
  moved_older j h n low =
      let e = rest.line.epoch + n in
      let ms = moved_of (e + 1) ((t_of j).from_joiner (partner_of (s_of j) (t_of j) n)) in
      let q = partner_in_step (shift e) (shift (e + 1)) j in
      let came =
      came_within input setting valid rest stands f agrees n j h low
      (λ i h' low'. stores_at_most input setting valid rest stands f agrees n i h' low') in
      let pass = all_pass (is_stored setting.k (shift e) e q) (map (aged rest.line) ms) rows
      (IsWithinBag-trans came
      (filtered_within (is_of (exchanged_side (shift e) (shift (e + 1))))
      (filter (is_stored setting.k (shift e) e q) rows))) in
      weaken (λ x. is_stored setting.k (shift e) e q (aged rest.line x) ≡ true) (λ x. x.stamp ≤ e)
      (λ x is.
      let old =
      leb-true (aged rest.line x).stamp e
      (and_parts (nat_le (aged rest.line x).stamp e) (holds setting.k (shift e) q x) is).0 in
      let low = never_lowered rest.line x in
      omega (arith, old, low)) ms
      (unmapped (λ x. is_stored setting.k (shift e) e q x ≡ true) (aged rest.line) ms pass)

  -- what a joiner sent is what it found
  pub sent_is : (j : ℕ) (h : j < 2 ^ setting.k)
      → SameBag (found_before_fin (f.joiner j).to_collector) (found (s_of j) (t_of j) (opened (s_of j) (t_of j)))
  sent_is j h =
      let law = agrees.joiners j h in
      let is =
      ap found_before_fin law.to_collector
      ∙ founds_are (s_of j) (f.joiner j) (t_of j) law.founds law.fins law.fin_last in
      subst (λ ps. SameBag ps (found (s_of j) (t_of j) (opened (s_of j) (t_of j)))) (sym is)
      (law.pairs (moved_older j h))

  -- at every moment
  pub nothing_wrong : NothingWrongIsSent input setting rest f
  nothing_wrong =
      let its : ℕ → List Pair = λ j. found (s_of j) (t_of j) (opened (s_of j) (t_of j)) in
      IsWithinBag-trans
      (within_same (same-gather (2 ^ setting.k) (λ j. found_before_fin (f.joiner j).to_collector) its sent_is))
      (rest_is_new input rest.line (gather (2 ^ setting.k) its)
      (IsWithinBag-trans (found_each_once input setting valid rest stands f agrees)
      (known_pairs input setting valid rest agrees.taken_by_feeder)))
