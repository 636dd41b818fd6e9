-- A finished family's answer is the run of its input, setting and journal.
use Rattle.std.proofs.Common.{◌≡◌, ℕ, zero, suc, ◌+◌, ◌*◌, ◌-◌, ◌<◌, ◌≤◌, ◌^◌, min, refl, sym, ◌∙◌, ap, subst, arith}
use Rattle.std.proofs.Common.{false, None, List, [], ◌∷◌, length}
use Rattle.std.specs.Prelude.{map, count_by, nat_lt, slice_index, Some}
use Rattle.std.specs.List.{AllByRecursion, range_with_len}
use Rattle.std.proofs.lemmas.Nat.{mul-le, pow_pos}
use Rattle.std.proofs.Math.Pow.{pow_mono}
use Rattle.std.proofs.lemmas.List.Sums.{sum-map, count_by-le-length}
use Rattle.std.proofs.lemmas.List.FromFn.{length-range_with_len}
use Rattle.std.proofs.lemmas.List.Elements.{All-from_recursion}
use Rattle.row_cells.specs.declared.table.Side.{Side}
use Rattle.row_cells.specs.declared.table.Side.TheVariants.{R, S}
use Rattle.row_cells.specs.Lists.{counting_from, greatest}
use Rattle.row_cells.proofs.Bags.{SameBag-trans}
use Rattle.row_cells.proofs.Everywhere.{all-reverse}
use Rattle.row_cells.proofs.Totals.{range_sum, total_same}
use Rattle.epoch_tags.specs.declared.message.ToCollector.{ToCollector}
use Rattle.epoch_tags.specs.declared.message.ToCollector.TheVariants.{Found, Fin}
use Rattle.epoch_tags.specs.Messages.{fins_of, found_before_fin}
use Rattle.grid_map.specs.Load.{IsNear}
use Rattle.load_controller.specs.declared.line.TurnLine.{TurnLine}
use Rattle.load_controller.specs.Journal.{begun, Rules, Fits, Follows, last_epoch}
use Rattle.load_controller.proofs.Still.{still_is_near}
use Rattle.migration_plan.specs.Steps.{exchanged_side}
use Rattle.pair_collector.specs.declared.collected.Collected.{Collected}
use Rattle.pair_collector.specs.declared.collected.Held.{Held}
use Rattle.pair_collector.specs.declared.part.Last.{Last}
use Rattle.pair_collector.specs.Standing.{last_of, held_of, moves_of}
use Rattle.pair_collector.specs.Answer.{Collects, moves, moved_in}
use Rattle.trace_law.specs.declared.input.Input.{Input}
use Rattle.trace_law.specs.declared.setting.Setting.{Setting}
use Rattle.trace_law.specs.Join.{wave_pairs, row_count, held, holders, made, moved}
use Rattle.trace_law.specs.Validity.{IsValid}
use Rattle.trace_law.specs.Family.{Rest, IsRestFor, Family, IsAgreeing, IsFinished, AnswersTheJoin, rules_of, moved_by}
use Rattle.trace_law.specs.Family.{shift_of, stamp_in, migrations}
use Rattle.trace_law.specs.Runs.{AreNear, IsRunOf, run_of}
use Rattle.trace_law.proofs.Lawful.{journal_is}
use Rattle.trace_law.proofs.Made.{shift_same}
use Rattle.trace_law.proofs.Found.{shift_within}
use Rattle.trace_law.proofs.Numbers.{answers_the_join}
use Rattle.trace_law.proofs.Order.{one_order, wave_in_order}
use Rattle.trace_law.proofs.Begun.{fits_begun}

-- ---- lists over ranges

range_same : {X : Type 0} (g h : ℕ → X) (a n : ℕ) → ((i : ℕ) → a ≤ i → i < a + n → g i ≡ h i)
    → map g (range_with_len a n) ≡ map h (range_with_len a n)
range_same g h a zero same = refl
range_same g h a (suc n) same =
    ap (λ x. x ∷ map g (range_with_len (a + 1) n)) (same a (omega arith) (omega arith))
    ∙ ap (λ xs. h a ∷ xs) (range_same g h (a + 1) n (λ i low high. same i (omega arith) (omega arith)))

counted_at : (g : ℕ → ℕ) (a n i : ℕ) → i < n → slice_index (map g (counting_from a n)) i ≡ g (a + i)
counted_at g a zero i low = absurd (omega arith)
counted_at g a (suc n) zero low = let same : a ≡ a + 0 = omega arith in ap g same
counted_at g a (suc n) (suc i) low = let same : (a + 1) + i ≡ a + suc i = omega arith in
    counted_at g (a + 1) n i (omega arith) ∙ ap g same

counted_length : (g : ℕ → ℕ) (a n : ℕ) → length (map g (counting_from a n)) ≡ n
counted_length g a zero = refl
counted_length g a (suc n) = let more = counted_length g (a + 1) n in omega arith

greatest_is : (n c : ℕ) (g : ℕ → ℕ) → 0 < n → ((i : ℕ) → i < n → g i ≡ c) → greatest n g ≡ c
greatest_is zero c g some same = absurd (omega arith)
greatest_is (suc zero) c g some same = let here = same 0 (omega arith) in omega arith
greatest_is (suc (suc n)) c g some same =
    let more = greatest_is (suc n) c g (omega arith) (λ i low. same i (omega arith)) in
    let here = same (suc n) (omega arith) in
    omega arith

-- ---- the last message

last_is : (ms : List ToCollector) (a c : ℕ) (ns : List ℕ) → fins_of ms ≡ Fin a c ns ∷ [] →
    let last : Last = record { held = record { rows_r = a; rows_s = c }; moved = ns } in last_of ms ≡ Some last
last_is [] a c ns is = cc
last_is (Found pairs ∷ ms) a c ns is = last_is ms a c ns is
last_is (Fin a' c' ns' ∷ ms) a c ns is = cc

-- ---- the lines

near_past : (rules : Rules) (first line : TurnLine) (past : List TurnLine) → Fits rules first → rules.fixed ≡ None
    → Follows rules first (line ∷ past)
    → AllByRecursion
    (λ (l : TurnLine). l.moving ≡ false
    → IsNear rules.k l.shift (rules.weights.r * l.rows_r) (rules.weights.s * l.rows_s)) (line ∷ past)
near_past rules first line [] fits free follows =
    (λ still. still_is_near rules first line [] fits free follows still, tt)
near_past rules first line (before ∷ past) fits free follows = (
  λ still. still_is_near rules first line (before ∷ past) fits free follows still,
  near_past rules first before past fits free follows.2,
)

-- ---- no sum is too great

moved_fits : (input : Input) (setting : Setting) → IsValid input setting
    → (stamp : Side → ℕ → ℕ) (shift : ℕ → ℕ) (n : ℕ) → shift n ≤ setting.k
    → moved input setting.k stamp shift (n + 1) ≤ 2 ^ 64 - 1
moved_fits input setting valid stamp shift n within =
    let before : (n + 1) - 1 ≡ n = omega arith in
    let side = exchanged_side (shift ((n + 1) - 1)) (shift (n + 1)) in
    let count = count_by (λ i. nat_lt (stamp side i) (n + 1)) (range_with_len 0 (row_count input side)) in
    let few : count ≤ 2 ^ 18 =
    let a = count_by-le-length (λ i. nat_lt (stamp side i) (n + 1)) (range_with_len 0 (row_count input side)) in
    let b = length-range_with_len 0 (row_count input side) in
    let c = (valid.of_input.sides side).few in
    omega arith in
    let joiners : holders setting.k (shift ((n + 1) - 1)) side ≤ 2 ^ 8 =
    few_holders (shift ((n + 1) - 1)) (subst (λ m. shift m ≤ setting.k) (sym before) within) side in
    let product = mul-le count (holders setting.k (shift ((n + 1) - 1)) side) (2 ^ 18) (2 ^ 8) few joiners in
    omega arith
  where
    few_holders : (b : ℕ) → b ≤ setting.k → (side : Side) → holders setting.k b side ≤ 2 ^ 8
    few_holders b low R = let small = valid.small in pow_mono {i = b} {j = 8} (omega arith)
    few_holders b low S = let small = valid.small in pow_mono {i = setting.k - b} {j = 8} (omega arith)

-- ---- of a finished family

module _ (input : Input) (setting : Setting) (valid : IsValid input setting) (rest : Rest)
    (stands : IsRestFor input setting rest) (f : Family) (agrees : IsAgreeing input setting rest f)
    (finished : IsFinished input setting rest f agrees) (collected : Collected)
    (collects : Collects (2 ^ setting.k) f.collector collected) where
  abbrev last : ℕ
  last = migrations rest.line f.controller.journal

  abbrev end : ℕ
  end = last_epoch f.controller.journal

  abbrev b : ℕ → ℕ
  b e = shift_of rest f e

  answers : AnswersTheJoin input setting rest f agrees
  answers = answers_the_join input setting valid rest stands f agrees finished

  abbrev held_in : Side → ℕ → ℕ
  held_in side j = held input setting.k (b end) side j

  abbrev moves_by : ℕ → ℕ → ℕ
  moves_by j n = moved_by setting f (rest.line.epoch + n + 1) j

  moves_are : (j : ℕ) → j < 2 ^ setting.k → moves f.collector j ≡ map (moves_by j) (counting_from 0 last)
  moves_are j h =
      ap moves_of
      (last_is (f.collector.from_joiner j) (held_in R j) (held_in S j) (map (moves_by j) (counting_from 0 last))
      (answers.held j h))

  loads_are : (j : ℕ) → j < 2 ^ setting.k
      → held_of (last_of (f.collector.from_joiner j)) ≡ record { rows_r = held_in R j; rows_s = held_in S j }
  loads_are j h =
      ap held_of
      (last_is (f.collector.from_joiner j) (held_in R j) (held_in S j) (map (moves_by j) (counting_from 0 last))
      (answers.held j h))

  -- as many moves as epochs
  steps_are : greatest (2 ^ setting.k) (λ j. length (moves f.collector j)) ≡ last
  steps_are =
      greatest_is (2 ^ setting.k) last (λ j. length (moves f.collector j)) (pow_pos setting.k)
      (λ j h. ap length (moves_are j h) ∙ counted_length (moves_by j) 0 last)

  sum_is : (n : ℕ) → n < last
      → moved_in (2 ^ setting.k) f.collector n
      ≡ moved input setting.k (stamp_in input setting rest f) b (rest.line.epoch + n + 1)
  sum_is n low =
      total_same (2 ^ setting.k) (λ j. slice_index (moves f.collector j) n)
      (λ j. moved_by setting f (rest.line.epoch + n + 1) (0 + j))
      (λ j h. let same_j : j ≡ 0 + j = omega arith in let same_n : 0 + n ≡ n = omega arith in
      ap (λ ns. slice_index ns n) (moves_are j h) ∙ counted_at (moves_by j) 0 last n low ∙ ap (moves_by j) same_n
      ∙ ap (moved_by setting f (rest.line.epoch + n + 1)) same_j)
      ∙ sym (range_sum (moved_by setting f (rest.line.epoch + n + 1)) 0 (2 ^ setting.k))
      ∙ sym (sum-map (moved_by setting f (rest.line.epoch + n + 1)) (range_with_len 0 (2 ^ setting.k)))
      ∙ answers.moved n low

  moved_is : collected.moved
      ≡ map (λ n. moved input setting.k (stamp_in input setting rest f) b (rest.line.epoch + n + 1))
      (range_with_len 0 last)
  moved_is =
      let sum : ℕ → ℕ = λ n. min (moved_in (2 ^ setting.k) f.collector n) (2 ^ 64 - 1) in
      collects.moved ∙ ap (λ m. map sum (range_with_len 0 m)) steps_are
      ∙ range_same sum (λ n. moved input setting.k (stamp_in input setting rest f) b (rest.line.epoch + n + 1)) 0 last
      (λ n low high.
      let is = sum_is n (omega arith) in
      let within =
      subst (λ c. c ≤ setting.k) (sym (shift_same input setting valid rest stands f agrees (rest.line.epoch + n)))
      (shift_within input setting valid rest stands f agrees (rest.line.epoch + n)) in
      let fits = moved_fits input setting valid (stamp_in input setting rest f) b (rest.line.epoch + n) within in
      omega arith)

  near_is : setting.fixed ≡ None → AreNear setting.k setting.weights f.controller.journal
  near_is free =
      let P : TurnLine → Type 0 =
      λ line. line.moving ≡ false
      → IsNear setting.k line.shift (setting.weights.r * line.rows_r) (setting.weights.s * line.rows_s) in
      let past =
      near_past (rules_of setting) (begun rest.line) agrees.controller.line agrees.controller.past
      (fits_begun (rules_of setting) rest.line stands.line.fits) free agrees.controller.follows in
      All-from_recursion P f.controller.journal
      (subst (AllByRecursion P) (sym (journal_is input setting valid rest stands f agrees))
      (all-reverse P (agrees.controller.line ∷ agrees.controller.past) past))

  -- what the collector answers is the run
  pub is_run : (bouts : ℕ)
      → IsRunOf input setting rest.line f.controller.journal (run_of collected f.controller.journal bouts)
  is_run bouts = record {
    keeps = refl;
    lawful = answers.journal;
    near = near_is;
    pairs =
        one_order collected.pairs (wave_pairs input rest.line) (SameBag-trans collects.law.kept answers.pairs)
        collects.order (wave_in_order input rest.line);
    made =
        collects.made
        ∙ range_same (λ j. length (found_before_fin (f.collector.from_joiner j)))
        (made input rest.line setting.k (stamp_in input setting rest f) b) 0 (2 ^ setting.k)
        (λ j low high. answers.made j (omega arith));
    loads =
        let ending : ℕ → Held = λ j. record { rows_r = held_in R j; rows_s = held_in S j } in
        collects.loads
        ∙ range_same (λ j. held_of (last_of (f.collector.from_joiner j))) ending 0 (2 ^ setting.k)
        (λ j low high. loads_are j (omega arith));
    moved = moved_is;
  }
