-- All lines of an epoch have one shift.
use Rattle.std.proofs.Common.{◌≡◌, ℕ, ◌+◌, ◌*◌, ◌<◌, ◌≤◌, ◌⊎◌, inl, inr, refl, sym, ◌∙◌, ap, subst, arith, Bool, true}
use Rattle.std.proofs.Common.{false, cond, List, [], ◌∷◌, ◌++◌}
use Rattle.std.specs.Prelude.{◌==◌, not, ◌&&◌, ◌||◌, is_none}
use Rattle.std.specs.List.{AllByRecursion}
use Rattle.std.proofs.lemmas.Bool.{cases_eq, cases_lt, eq-eqb, ne_eqb, eqb-false, not-true, and_parts, cond_both}
use Rattle.std.proofs.lemmas.Bool.{lt-ltb, le-ltb}
use Rattle.grid_map.specs.Load.{best_shift}
use Rattle.migration_plan.specs.Steps.{next_step, AreNeighbours}
use Rattle.load_controller.specs.declared.line.Cause.{Cause}
use Rattle.load_controller.specs.declared.line.TurnLine.{TurnLine}
use Rattle.load_controller.specs.Journal.{Rules, Follows, line_after, has_doubled, counted_r, counted_s, ends_step}
use Rattle.load_controller.specs.Journal.{shift_at, last_epoch}

-- a line stays in its epoch, with its shift, or begins the next
pub stays_or_begins : (rules : Rules) (before : TurnLine) (past : List TurnLine) (cause : Cause)
    → let line = line_after rules before past cause in
    ((line.epoch ≡ before.epoch) × (line.shift ≡ before.shift)) ⊎ (line.epoch ≡ before.epoch + 1)
stays_or_begins rules before past cause =
    let rows_r = before.rows_r + counted_r cause in
    let rows_s = before.rows_s + counted_s cause in
    let is_open = before.moving && not (ends_step rules (before ∷ past) cause) in
    let is_due =
    not is_open && is_none rules.fixed && (has_doubled before.base_r rows_r || has_doubled before.base_s rows_s) in
    let goal =
    cond is_due (best_shift rules.k before.shift (rules.weights.r * rows_r) (rules.weights.s * rows_s))
    before.goal in
    by_test (not is_open && not (before.shift == goal)) before.epoch before.shift (next_step before.shift goal)
  where
    by_test : (steps : Bool) (e b b' : ℕ)
        → ((cond steps (e + 1) e ≡ e) × (cond steps b' b ≡ b)) ⊎ (cond steps (e + 1) e ≡ e + 1)
    by_test true e b b' = inr refl
    by_test false e b b' = inl (refl, refl)

-- what holds of a line of the past
record Known (fallback top : ℕ) (past : List TurnLine) (line : TurnLine) : Type 0 where
  low : line.epoch ≤ top
  is : line.shift ≡ shift_at fallback line.epoch past

all_known : (P Q : TurnLine → Type 0) → ((line : TurnLine) → P line → Q line) → (past : List TurnLine)
    → AllByRecursion P past → AllByRecursion Q past
all_known P Q gives [] known = tt
all_known P Q gives (line ∷ past) (here, rest) = (gives line here, all_known P Q gives past rest)

known : (rules : Rules) (first line : TurnLine) (past : List TurnLine) (fallback : ℕ)
    → Follows rules first (line ∷ past) → AllByRecursion (Known fallback line.epoch (line ∷ past)) (line ∷ past)
known rules first line [] fallback is =
    (record { low = omega arith; is = rw (eq-eqb line.epoch line.epoch refl) refl }, tt)
known rules first line (before ∷ past) fallback (made, allowed, rest) =
    let old = known rules first before past fallback rest in
    let either : ((line.epoch ≡ before.epoch) × (line.shift ≡ before.shift)) ⊎ (line.epoch ≡ before.epoch + 1) =
    subst
    (λ (next : TurnLine). ((next.epoch ≡ before.epoch) × (next.shift ≡ before.shift))
    ⊎ (next.epoch ≡ before.epoch + 1)) (sym made) (stays_or_begins rules before past line.cause) in (
      record { low = omega arith; is = rw (eq-eqb line.epoch line.epoch refl) refl },
      all_known (Known fallback before.epoch (before ∷ past)) (Known fallback line.epoch (line ∷ before ∷ past))
          (λ l k. later l k either) (before ∷ past) old,
    )
  where
    later : (l : TurnLine) → Known fallback before.epoch (before ∷ past) l
        → ((line.epoch ≡ before.epoch) × (line.shift ≡ before.shift)) ⊎ (line.epoch ≡ before.epoch + 1)
        → Known fallback line.epoch (line ∷ before ∷ past) l
    later l k (inr begins) =
        record {
          low = omega (arith, k.low);
          is = rw (ne_eqb line.epoch l.epoch (λ same. absurd (omega (arith, k.low)))) k.is;
        }
    later l k (inl stays) = record {
      low = omega (arith, k.low, stays.0);
      is = elim (cases_eq line.epoch l.epoch) [
        | inl same ↦
            let here : before.epoch ≡ l.epoch = sym stays.0 ∙ same in
            let old_is : l.shift ≡ before.shift =
            k.is
            ∙ ap (λ t. cond t before.shift (shift_at fallback l.epoch past)) (eq-eqb before.epoch l.epoch here) in
            rw (eq-eqb line.epoch l.epoch same) (old_is ∙ sym stays.1)
        | inr differ ↦ rw (ne_eqb line.epoch l.epoch differ) k.is
      ];
    }

-- each line of a past has the shift of its epoch
pub each_shift : (rules : Rules) (first line : TurnLine) (past : List TurnLine) (fallback : ℕ)
    → Follows rules first (line ∷ past)
    → AllByRecursion (λ l. l.shift ≡ shift_at fallback l.epoch (line ∷ past)) (line ∷ past)
each_shift rules first line past fallback follows =
    all_known (Known fallback line.epoch (line ∷ past)) (λ l. l.shift ≡ shift_at fallback l.epoch (line ∷ past))
    (λ l k. k.is) (line ∷ past) (known rules first line past fallback follows)

-- and so has the first
pub at_first_line : (rules : Rules) (first line : TurnLine) (past : List TurnLine) (P : TurnLine → Type 0)
    → Follows rules first (line ∷ past) → AllByRecursion P (line ∷ past) → P first
at_first_line rules first line [] P is (here, rest) = subst P is here
at_first_line rules first line (before ∷ past) P (made, allowed, rest) (here, more) =
    at_first_line rules first before past P rest more

-- ---- from one epoch to the next

next_is_near : (shift goal : ℕ) → (shift ≡ goal → ⊥) → AreNeighbours shift (next_step shift goal)
next_is_near shift goal differ = elim (cases_lt shift goal) [
  | inl up ↦ rw (lt-ltb shift goal up) (inl refl)
  | inr down ↦ rw (le-ltb shift goal down) (inr (omega arith))
]

-- a line stays in its epoch, with its shift, or begins the next at a neighbouring shift
stays_or_steps : (rules : Rules) (before : TurnLine) (past : List TurnLine) (cause : Cause)
    → let line = line_after rules before past cause in
    ((line.epoch ≡ before.epoch) × (line.shift ≡ before.shift))
    ⊎ ((line.epoch ≡ before.epoch + 1) × AreNeighbours before.shift line.shift)
stays_or_steps rules before past cause =
    let rows_r = before.rows_r + counted_r cause in
    let rows_s = before.rows_s + counted_s cause in
    let is_open = before.moving && not (ends_step rules (before ∷ past) cause) in
    let is_due =
    not is_open && is_none rules.fixed && (has_doubled before.base_r rows_r || has_doubled before.base_s rows_s) in
    let goal =
    cond is_due (best_shift rules.k before.shift (rules.weights.r * rows_r) (rules.weights.s * rows_s))
    before.goal in
    by_test (not is_open && not (before.shift == goal)) before.epoch before.shift (next_step before.shift goal)
    (λ e.
    next_is_near before.shift goal
    (eqb-false before.shift goal
    (not-true (before.shift == goal) (and_parts (not is_open) (not (before.shift == goal)) e).1)))
  where
    by_test : (steps : Bool) (e b b' : ℕ) → (steps ≡ true → AreNeighbours b b')
        → ((cond steps (e + 1) e ≡ e) × (cond steps b' b ≡ b))
        ⊎ ((cond steps (e + 1) e ≡ e + 1) × AreNeighbours b (cond steps b' b))
    by_test true e b b' near = inr (refl, near refl)
    by_test false e b b' near = inl (refl, refl)

-- the shifts of two epochs, one after the other, are neighbours
pub epochs_near : (rules : Rules) (first line : TurnLine) (past : List TurnLine) (fallback e : ℕ) → first.epoch ≤ e
    → Follows rules first (line ∷ past) → e < line.epoch
    → AreNeighbours (shift_at fallback e (line ∷ past)) (shift_at fallback (e + 1) (line ∷ past))
epochs_near rules first line [] fallback e none is low = let at = ap (λ l. l.epoch) is in absurd (omega arith)
epochs_near rules first line (before ∷ past) fallback e none (made, allowed, rest) low =
    by_case
    (subst
    (λ (next : TurnLine). ((next.epoch ≡ before.epoch) × (next.shift ≡ before.shift))
    ⊎ ((next.epoch ≡ before.epoch + 1) × AreNeighbours before.shift next.shift)) (sym made)
    (stays_or_steps rules before past line.cause))
    (λ l. epochs_near rules first before past fallback e none rest l)
  where
    here : (v : ℕ) → before.epoch ≡ v → shift_at fallback v (before ∷ past) ≡ before.shift
    here v is = ap (λ t. cond t before.shift (shift_at fallback v past)) (eq-eqb before.epoch v is)

    same : (v : ℕ) → (line.epoch ≡ v → line.shift ≡ shift_at fallback v (before ∷ past))
        → shift_at fallback v (line ∷ before ∷ past) ≡ shift_at fallback v (before ∷ past)
    same v at = elim (cases_eq line.epoch v) [
      | inl is ↦ rw (eq-eqb line.epoch v is) (at is)
      | inr differ ↦ rw (ne_eqb line.epoch v differ) refl
    ]

    by_case : ((line.epoch ≡ before.epoch) × (line.shift ≡ before.shift))
        ⊎ ((line.epoch ≡ before.epoch + 1) × AreNeighbours before.shift line.shift)
        → (e < before.epoch
        → AreNeighbours (shift_at fallback e (before ∷ past)) (shift_at fallback (e + 1) (before ∷ past)))
        → AreNeighbours (shift_at fallback e (line ∷ before ∷ past)) (shift_at fallback (e + 1) (line ∷ before ∷ past))
    by_case (inl (stays, shift)) older =
        let old = older (omega arith) in
        let a = same e (λ is. shift ∙ sym (here e (sym stays ∙ is))) in
        let b = same (e + 1) (λ is. shift ∙ sym (here (e + 1) (sym stays ∙ is))) in
        subst (λ x. AreNeighbours x (shift_at fallback (e + 1) (line ∷ before ∷ past))) (sym a)
        (subst (λ x. AreNeighbours (shift_at fallback e (before ∷ past)) x) (sym b) old)
    by_case (inr (begins, near)) older = elim (cases_lt e before.epoch) [
      | inl less ↦
          let old = older less in
          let a = same e (λ is. absurd (omega arith)) in
          let b = same (e + 1) (λ is. absurd (omega arith)) in
          subst (λ x. AreNeighbours x (shift_at fallback (e + 1) (line ∷ before ∷ past))) (sym a)
          (subst (λ x. AreNeighbours (shift_at fallback e (before ∷ past)) x) (sym b) old)
      | inr more ↦
          let at : before.epoch ≡ e = omega arith in
          let next : line.epoch ≡ e + 1 = omega arith in
          let a : shift_at fallback e (line ∷ before ∷ past) ≡ before.shift =
          same e (λ is. absurd (omega arith)) ∙ here e at in
          let b : shift_at fallback (e + 1) (line ∷ before ∷ past) ≡ line.shift =
          ap (λ t. cond t line.shift (shift_at fallback (e + 1) (before ∷ past))) (eq-eqb line.epoch (e + 1) next)
          in
          subst (λ x. AreNeighbours x (shift_at fallback (e + 1) (line ∷ before ∷ past))) (sym a)
          (subst (λ x. AreNeighbours before.shift x) (sym b) near)
    ]

-- the shift of an epoch is within the grid where all lines are
pub shift_at_within : (k fallback e : ℕ) (past : List TurnLine) → fallback ≤ k → AllByRecursion (λ l. l.shift ≤ k) past
    → shift_at fallback e past ≤ k
shift_at_within k fallback e [] low each = low
shift_at_within k fallback e (line ∷ past) low (here, rest) =
    cond_both (line.epoch == e) line.shift (shift_at fallback e past) (λ b. b ≤ k) (λ is. here)
    (λ is. shift_at_within k fallback e past low rest)

-- the last epoch is that of the last line
pub last_is : (xs : List TurnLine) (line : TurnLine) → last_epoch (xs ++ line ∷ []) ≡ line.epoch
last_is [] line = refl
last_is (x ∷ []) line = refl
last_is (x ∷ y ∷ xs) line = last_is (y ∷ xs) line
