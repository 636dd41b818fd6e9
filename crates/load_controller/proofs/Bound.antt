-- A journal has at most k migrations for each decision, and a decision doubles a side.
use Rattle.std.proofs.Common.{◌≡◌, ℕ, ◌+◌, ◌-◌, ◌*◌, ◌^◌, ◌<◌, ◌≤◌, max, inl, inr, refl, sym, ◌∙◌, ap, arith, Bool}
use Rattle.std.proofs.Common.{true, false, not, ◌||◌, ◌&&◌, cond, List, [], ◌∷◌, ◌++◌, Option, Some, None, subst}
use Rattle.std.specs.Prelude.{◌==◌, ◌/◌, nat_lt, nat_le, is_none, unwrap_or, reverse}
use Rattle.std.specs.List.{AllByRecursion}
use Rattle.std.proofs.Math.Pow.{pow_mono}
use Rattle.std.proofs.lemmas.List.{reverse-append, reverse-reverse}
use Rattle.std.proofs.lemmas.Nat.{mul-le, pow_pos, pow-add}
use Rattle.std.proofs.lemmas.Bool.{cases_lt, and_parts, or_cases, ltb-true, leb-true, eqb-false, lt-ltb, le-ltb}
use Rattle.std.proofs.lemmas.Bool.{not-true, cond_both}
use Rattle.grid_map.specs.Load.{best_shift}
use Rattle.grid_map.proofs.Best.{best_within}
use Rattle.migration_plan.specs.Steps.{next_step}
use Rattle.load_controller.specs.declared.line.Cause.{Cause}
use Rattle.load_controller.specs.declared.line.TurnLine.{TurnLine}
use Rattle.load_controller.specs.Journal.{Rules, Fits, Follows, AreLawful, begun, last_line, last_of, due_in}
use Rattle.load_controller.specs.Journal.{line_after, has_doubled, counted_r, counted_s, is_open, is_due, due_lines}

-- how many steps lie between two shifts
abbrev pub gap : ℕ → ℕ → ℕ
gap a b = (a - b) + (b - a)

-- ---- a step spends what a decision gave

-- a step goes one nearer to its goal
pub next_nearer : (shift goal : ℕ) → (shift ≡ goal → ⊥) → gap (next_step shift goal) goal + 1 ≡ gap shift goal
next_nearer shift goal differ = elim (cases_lt shift goal) [
  | inl up ↦ rw (lt-ltb shift goal up) (omega arith)
  | inr down ↦ rw (le-ltb shift goal down) (omega arith)
]

-- and stays within the grid
pub next_within : (k shift goal : ℕ) → shift ≤ k → goal ≤ k → next_step shift goal ≤ k
next_within k shift goal low high =
    cond_both (nat_lt shift goal) (shift + 1) (shift - 1) (λ b. b ≤ k) (λ e. omega (arith, ltb-true shift goal e))
    (λ e. omega arith)

-- of a line: with a and c doublings of the sides at most k·(a + c) steps are begun or still to come
pub record Bounded (e0 k rows_r rows_s base_r base_s epoch shift goal dues : ℕ) : Type 0 where
  pub a : ℕ
  pub c : ℕ
  pub doubled_r : 2 ^ a ≤ max 1 (2 * base_r)
  pub doubled_s : 2 ^ c ≤ max 1 (2 * base_s)
  pub spent : epoch + gap shift goal ≤ e0 + k * (a + c)
  pub few_dues : dues ≤ a + c
  pub low_r : base_r ≤ rows_r
  pub low_s : base_s ≤ rows_s
  pub shift_within : shift ≤ k
  pub goal_within : goal ≤ k

module _ (e0 k rows_r rows_s base_r base_s epoch shift goal dues : ℕ) where
  -- a decision at least doubles a side, and gives k steps
  decided : (goal' : ℕ) → Bounded e0 k rows_r rows_s base_r base_s epoch shift goal dues → goal' ≤ k
      → (has_doubled base_r rows_r || has_doubled base_s rows_s) ≡ true
      → Bounded e0 k rows_r rows_s rows_r rows_s epoch shift goal' (dues + 1)
  decided goal' b within due =
      elim (or_cases (has_doubled base_r rows_r) (has_doubled base_s rows_s) due) [
        | inl of_r ↦
            let parts = and_parts (nat_lt base_r rows_r) (nat_le (2 * base_r) rows_r) of_r in
            let more = ltb-true base_r rows_r parts.0 in
            let twice = leb-true (2 * base_r) rows_r parts.1 in
            let double : 2 ^ (b.a + 1) ≡ 2 ^ b.a * 2 = pow-add 2 b.a 1 in
            record {
              a = b.a + 1;
              c = b.c;
              doubled_r = omega arith;
              doubled_s = omega arith;
              spent = omega arith;
              few_dues = omega (arith, b.few_dues);
              low_r = omega arith;
              low_s = omega arith;
              shift_within = b.shift_within;
              goal_within = within;
            }
        | inr of_s ↦
            let parts = and_parts (nat_lt base_s rows_s) (nat_le (2 * base_s) rows_s) of_s in
            let more = ltb-true base_s rows_s parts.0 in
            let twice = leb-true (2 * base_s) rows_s parts.1 in
            let double : 2 ^ (b.c + 1) ≡ 2 ^ b.c * 2 = pow-add 2 b.c 1 in
            record {
              a = b.a;
              c = b.c + 1;
              doubled_r = omega arith;
              doubled_s = omega arith;
              spent = omega arith;
              few_dues = omega (arith, b.few_dues);
              low_r = omega arith;
              low_s = omega arith;
              shift_within = b.shift_within;
              goal_within = within;
            }
      ]

  -- a step that starts
  stepped : Bounded e0 k rows_r rows_s base_r base_s epoch shift goal dues → (shift ≡ goal → ⊥)
      → Bounded e0 k rows_r rows_s base_r base_s (epoch + 1) (next_step shift goal) goal dues
  stepped b differ =
      let nearer = next_nearer shift goal differ in
      record {
        a = b.a;
        c = b.c;
        doubled_r = b.doubled_r;
        doubled_s = b.doubled_s;
        spent = omega (arith, nearer);
        few_dues = b.few_dues;
        low_r = b.low_r;
        low_s = b.low_s;
        shift_within = next_within k shift goal b.shift_within b.goal_within;
        goal_within = b.goal_within;
      }

  -- rows that are counted
  counted : (dr ds : ℕ) → Bounded e0 k rows_r rows_s base_r base_s epoch shift goal dues
      → Bounded e0 k (rows_r + dr) (rows_s + ds) base_r base_s epoch shift goal dues
  counted dr ds b = record {
    a = b.a;
    c = b.c;
    doubled_r = b.doubled_r;
    doubled_s = b.doubled_s;
    spent = b.spent;
    few_dues = b.few_dues;
    low_r = omega arith;
    low_s = omega arith;
    shift_within = b.shift_within;
    goal_within = b.goal_within;
  }

-- of a line
abbrev pub OfLine : ℕ → ℕ → TurnLine → ℕ → Type 0
OfLine e0 k line dues =
    Bounded e0 k line.rows_r line.rows_s line.base_r line.base_s line.epoch line.shift line.goal dues

-- a line after the past, whatever the tests say that choose it
module _ (e0 k rows_r rows_s base_r base_s epoch shift goal best dues : ℕ) (best_is : best ≤ k) where
  maybe_decided : (due : Bool) → (due ≡ true → (has_doubled base_r rows_r || has_doubled base_s rows_s) ≡ true)
      → Bounded e0 k rows_r rows_s base_r base_s epoch shift goal dues
      → Bounded e0 k rows_r rows_s (cond due rows_r base_r) (cond due rows_s base_s) epoch shift (cond due best goal)
      (dues + cond due 1 0)
  maybe_decided true doubled b =
      decided e0 k rows_r rows_s base_r base_s epoch shift goal dues best b best_is (doubled refl)
  maybe_decided false doubled b = let same : dues + 0 ≡ dues = omega arith in
      subst (λ n. Bounded e0 k rows_r rows_s base_r base_s epoch shift goal n) (sym same) b

  maybe_stepped : (steps : Bool) → (steps ≡ true → shift ≡ goal → ⊥)
      → Bounded e0 k rows_r rows_s base_r base_s epoch shift goal dues
      → Bounded e0 k rows_r rows_s base_r base_s (cond steps (epoch + 1) epoch)
      (cond steps (next_step shift goal) shift) goal dues
  maybe_stepped true differ b = stepped e0 k rows_r rows_s base_r base_s epoch shift goal dues b (differ refl)
  maybe_stepped false differ b = b

after : (e0 : ℕ) (rules : Rules) (before : TurnLine) (past : List TurnLine) (cause : Cause) (dues : ℕ)
    → OfLine e0 rules.k before dues
    → OfLine e0 rules.k (line_after rules before past cause) (dues + cond (is_due rules before past cause) 1 0)
after e0 rules before past cause dues b =
    let rows_r = before.rows_r + counted_r cause in
    let rows_s = before.rows_s + counted_s cause in
    let opens = is_open rules before past cause in
    let doubled = has_doubled before.base_r rows_r || has_doubled before.base_s rows_s in
    let decides = is_due rules before past cause in
    let best = best_shift rules.k before.shift (rules.weights.r * rows_r) (rules.weights.s * rows_s) in
    let goal = cond decides best before.goal in
    let steps = not opens && not (before.shift == goal) in
    let more =
    counted e0 rules.k before.rows_r before.rows_s before.base_r before.base_s before.epoch before.shift before.goal
    dues (counted_r cause) (counted_s cause) b in
    let now =
    maybe_decided e0 rules.k rows_r rows_s before.base_r before.base_s before.epoch before.shift before.goal best dues
    (best_within rules.k before.shift (rules.weights.r * rows_r) (rules.weights.s * rows_s) b.shift_within)
    decides (λ e. (and_parts (not opens && is_none rules.fixed) doubled e).1) more in
    maybe_stepped e0 rules.k rows_r rows_s (cond decides rows_r before.base_r) (cond decides rows_s before.base_s)
    before.epoch before.shift goal best (dues + cond decides 1 0)
    (best_within rules.k before.shift (rules.weights.r * rows_r) (rules.weights.s * rows_s) b.shift_within)
    steps
    (λ e same.
    eqb-false before.shift goal
    (not-true (before.shift == goal) (and_parts (not opens) (not (before.shift == goal)) e).1) same) now

-- ---- a whole past

-- the start shift is one of the grid
pub fixed_within : (fixed : Option ℕ) (k : ℕ) → ((shift : ℕ) → fixed ≡ Some shift → shift ≤ k)
    → unwrap_or fixed (k / 2) ≤ k
fixed_within None k fits = omega arith
fixed_within (Some shift) k fits = fits shift refl

-- a first line that fits has no doublings yet
pub at_first : (rules : Rules) (first : TurnLine) → Fits rules first → OfLine first.epoch rules.k first 0
at_first rules first fits =
    let within = fits.within in
    let reached = fits.reached in
    record {
      a = 0;
      c = 0;
      doubled_r = omega arith;
      doubled_s = omega arith;
      spent = omega arith;
      few_dues = omega arith;
      low_r = fits.base_r;
      low_s = fits.base_s;
      shift_within = within;
      goal_within = omega arith;
    }

-- so every line has as many doublings as it has decisions at least, from those of the first line on
pub each : (e0 d : ℕ) (rules : Rules) (first line : TurnLine) (past : List TurnLine) → OfLine e0 rules.k first d
    → Follows rules first (line ∷ past) → OfLine e0 rules.k line (d + due_lines rules (line ∷ past))
each e0 d rules first line [] b is =
    rw is
    (subst (λ n. OfLine e0 rules.k first n) (let same : d ≡ d + due_lines rules (first ∷ []) = omega arith in same) b)
each e0 d rules first line (before ∷ past) b (made, allowed, rest) =
    let sum : (d + due_lines rules (before ∷ past)) + cond (is_due rules before past line.cause) 1 0
    ≡ d + due_lines rules (line ∷ before ∷ past) = omega arith in
    subst (λ n. OfLine e0 rules.k line n) sum
    (subst
    (λ next.
    OfLine e0 rules.k next ((d + due_lines rules (before ∷ past)) + cond (is_due rules before past line.cause) 1 0))
    (sym made)
    (after e0 rules before past line.cause (d + due_lines rules (before ∷ past))
    (each e0 d rules first before past b rest)))

-- a number of doublings is at most the number of binary digits
few_doublings : (a p base rows : ℕ) → 2 ^ a ≤ max 1 (2 * base) → base ≤ rows → rows < 2 ^ p → a ≤ p
few_doublings a p base rows doubled low small =
    elim (cases_lt p a) [
      | inl more ↦
          let double : 2 ^ (p + 1) ≡ 2 ^ p * 2 = pow-add 2 p 1 in
          let grown : 2 ^ (p + 1) ≤ 2 ^ a = pow_mono (omega arith) in
          let pos = pow_pos p in
          absurd (omega arith)
      | inr within ↦ within
    ]

-- a journal has at most k migrations for each binary digit of its counts
pub migrations : (rules : Rules) (first line : TurnLine) (past : List TurnLine) → Fits rules first
    → Follows rules first (line ∷ past) → (p q : ℕ) → line.rows_r < 2 ^ p → line.rows_s < 2 ^ q
    → line.epoch ≤ first.epoch + rules.k * (p + q)
migrations rules first line past fits follows p q small_r small_s =
    let b = each first.epoch 0 rules first line past (at_first rules first fits) follows in
    let few_r = few_doublings b.a p line.base_r line.rows_r b.doubled_r b.low_r small_r in
    let few_s = few_doublings b.c q line.base_s line.rows_s b.doubled_s b.low_s small_s in
    let few : rules.k * (b.a + b.c) ≤ rules.k * (p + q) =
    mul-le rules.k (b.a + b.c) rules.k (p + q) (omega arith) (omega arith) in
    omega arith

-- and a decision for each
pub decisions : (rules : Rules) (first line : TurnLine) (past : List TurnLine) → Fits rules first
    → Follows rules first (line ∷ past) → (p q : ℕ) → line.rows_r < 2 ^ p → line.rows_s < 2 ^ q
    → due_lines rules (line ∷ past) ≤ p + q
decisions rules first line past fits follows p q small_r small_s =
    let b = each first.epoch 0 rules first line past (at_first rules first fits) follows in
    let few_r = few_doublings b.a p line.base_r line.rows_r b.doubled_r b.low_r small_r in
    let few_s = few_doublings b.c q line.base_s line.rows_s b.doubled_s b.low_s small_s in
    omega (arith, b.few_dues)

-- every line's shift is a shift
pub shifts_within : (rules : Rules) (first line : TurnLine) (past : List TurnLine) → Fits rules first
    → Follows rules first (line ∷ past) → AllByRecursion (λ l. l.shift ≤ rules.k) (line ∷ past)
shifts_within rules first line [] fits follows =
    ((each first.epoch 0 rules first line [] (at_first rules first fits) follows).shift_within, tt)
shifts_within rules first line (before ∷ past) fits (made, allowed, rest) = (
  (each first.epoch 0 rules first line (before ∷ past) (at_first rules first fits)
      (made, allowed, rest)).shift_within,
  shifts_within rules first before past fits rest,
)

-- ---- a run of several waves

-- a journal's last line is the first of the journal read backwards
pub last_line_is : (before : TurnLine) (earlier : List TurnLine) (line : TurnLine)
    → last_line before (earlier ++ line ∷ []) ≡ line
last_line_is before [] line = refl
last_line_is before (next ∷ earlier) line = last_line_is next earlier line

-- the last line of a wave is bounded where the line is from which the wave goes on
wave_bounded : (e0 d : ℕ) (rules : Rules) (line : TurnLine) (journal backwards : List TurnLine)
    → OfLine e0 rules.k line d
    → reverse journal ≡ backwards → Follows rules (begun line) backwards
    → OfLine e0 rules.k (last_line line journal) (d + due_lines rules backwards)
wave_bounded e0 d rules line journal [] b is follows = absurd follows
wave_bounded e0 d rules line journal (last ∷ past) b is follows =
    let journal_is : journal ≡ reverse past ++ last ∷ [] =
    sym (reverse-reverse journal) ∙ ap reverse is ∙ reverse-append (last ∷ []) past in
    let last_is : last_line line journal ≡ last =
    ap (last_line line) journal_is ∙ last_line_is line (reverse past) last in
    rw last_is (each e0 d rules (begun line) last past b follows)

-- so is the last line of all waves
waves_bounded : (e0 d : ℕ) (rules : Rules) (line : TurnLine) (waves : List ((ℕ → List (ℕ × ℕ)) × List TurnLine))
    → OfLine e0 rules.k line d → AreLawful rules line waves
    → OfLine e0 rules.k (last_of line waves) (d + due_in rules waves)
waves_bounded e0 d rules line [] b are =
    subst (λ n. OfLine e0 rules.k line n) (let same : d ≡ d + 0 = omega arith in same) b
waves_bounded e0 d rules line ((batches, journal) ∷ waves) b (lawful, are) =
    let dues = due_lines rules (reverse journal) in
    let one = wave_bounded e0 d rules line journal (reverse journal) b refl lawful.so_far.follows in
    let sum : (d + dues) + due_in rules waves ≡ d + (dues + due_in rules waves) = omega arith in
    let last = last_line line journal in
    subst (λ n. OfLine e0 rules.k (last_of last waves) n) sum (waves_bounded e0 (d + dues) rules last waves one are)

-- lawful waves have together no more migrations and decisions than one wave with all their rows
pub waves_migrate_seldom : (rules : Rules) (line : TurnLine) (waves : List ((ℕ → List (ℕ × ℕ)) × List TurnLine))
    → Fits rules line → AreLawful rules line waves → (p q : ℕ)
    → (last_of line waves).rows_r < 2 ^ p → (last_of line waves).rows_s < 2 ^ q
    → ((last_of line waves).epoch ≤ line.epoch + rules.k * (p + q)) × (due_in rules waves ≤ p + q)
waves_migrate_seldom rules line waves fits are p q small_r small_s =
    let last = last_of line waves in
    let b = waves_bounded line.epoch 0 rules line waves (at_first rules line fits) are in
    let few_r = few_doublings b.a p last.base_r last.rows_r b.doubled_r b.low_r small_r in
    let few_s = few_doublings b.c q last.base_s last.rows_s b.doubled_s b.low_s small_s in
    let few : rules.k * (b.a + b.c) ≤ rules.k * (p + q) =
    mul-le rules.k (b.a + b.c) rules.k (p + q) (omega arith) (omega arith) in
    let spent = b.spent in
    (omega (arith, few, spent), omega (arith, b.few_dues))
