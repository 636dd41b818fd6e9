-- How many joiners have settled: where a journal isn't moving each has settled every epoch, and else each has settled
-- every epoch but perhaps the current one.
use Rattle.std.proofs.Common.{◌≡◌, ℕ, ◌+◌, ◌*◌, ◌^◌, ◌<◌, ◌≤◌, inl, inr, refl, sym, ◌∙◌, ap, subst, arith, Bool, true}
use Rattle.std.proofs.Common.{false, not, cond, ◌||◌, ◌&&◌, List, [], ◌∷◌, ◌++◌, length, length-append}
use Rattle.std.specs.Prelude.{◌==◌, filter}
use Rattle.std.specs.List.{list_any}
use Rattle.std.proofs.lemmas.Bool.{cases_Bool, cases_eq, eq-eqb, ne_eqb, eqb-true, eqb-false, true≢false, false≢true}
use Rattle.std.proofs.lemmas.Bool.{not-true}
use Rattle.std.proofs.lemmas.Nat.{pow_pos}
use Rattle.row_cells.specs.Lists.{total, counting_from}
use Rattle.row_cells.proofs.RisingNumbers.{length-counting_from, at_place}
use Rattle.row_cells.proofs.Totals.{total_one, total_same, total-const, each_full, some_less}
use Rattle.load_controller.specs.declared.line.Cause.{Cause}
use Rattle.load_controller.specs.declared.line.Cause.TheVariants.{Start, Wave, Count, Settle, Drain}
use Rattle.load_controller.specs.declared.line.TurnLine.{TurnLine}
use Rattle.load_controller.specs.Journal.{Rules, Follows, IsAllowed, line_after, is_settle, is_settle_of, since_begun}
use Rattle.load_controller.specs.Journal.{settled_count, has_settled}
use Rattle.load_controller.specs.Law.{AreSettled, SettlesOne, CountsSettled}
use Rattle.load_controller.proofs.Counted.{match_cases}

-- how many lines after the first are joiner j's
abbrev pub settle_lines : ℕ → List TurnLine → ℕ
settle_lines j [] = 0
settle_lines j (line ∷ []) = 0
settle_lines j (line ∷ before ∷ past) = settle_lines j (before ∷ past) + cond (is_settle_of j line.cause) 1 0

-- ---- in numbers: in epoch e, of so many joiners, how many lines each has, whether it has settled, and how many have
pub record Steps (joiners e : ℕ) (moving : Bool) (lines : ℕ → ℕ) (has : ℕ → Bool) (count : ℕ) : Type 0 where
  pub still : moving ≡ false → (j : ℕ) → j < joiners → lines j ≡ e
  pub each : moving ≡ true → (j : ℕ) → j < joiners → lines j + 1 ≡ e + cond (has j) 1 0
  pub all : moving ≡ true → total joiners lines + joiners ≡ joiners * e + count
  pub few : moving ≡ true → count < joiners

module _ (joiners e : ℕ) (some : 0 < joiners) where
  -- no step is open: perhaps one begins
  may_begin : (differs : Bool) (lines : ℕ → ℕ) (has : ℕ → Bool) (count : ℕ) → ((j : ℕ) → j < joiners → lines j ≡ e)
      → ((cond differs (e + 1) e == e) ≡ false → ((j : ℕ) → has j ≡ false) × (count ≡ 0))
      → Steps joiners (cond differs (e + 1) e) differs lines has count
  may_begin false lines has count settled fresh = record {
    still = λ m. settled;
    each = λ m. absurd (false≢true m);
    all = λ m. absurd (false≢true m);
    few = λ m. absurd (false≢true m);
  }
  may_begin true lines has count settled fresh =
      let new = fresh (ne_eqb (e + 1) e (λ same. absurd (omega arith))) in
      let sum = total_same joiners lines (λ j. e) settled in
      let is = total-const joiners e in
      let more : joiners * (e + 1) ≡ joiners * e + joiners = omega arith in
      record {
        still = λ m. absurd (true≢false m);
        each = λ m j low. let here = settled j low in rw (new.0 j) (omega arith);
        all = λ m. omega (arith, new.1);
        few = λ m. omega (arith, new.1);
      }

  plain_step : (m differs : Bool) (lines lines' : ℕ → ℕ) (has has' : ℕ → Bool) (count count' : ℕ)
      → Steps joiners e m lines has count
      → ((j : ℕ) → lines' j ≡ lines j)
      → ((cond (not (m && true) && differs) (e + 1) e == e) ≡ true → ((j : ℕ) → has' j ≡ has j) × (count' ≡ count))
      → ((cond (not (m && true) && differs) (e + 1) e == e) ≡ false → ((j : ℕ) → has' j ≡ false) × (count' ≡ 0))
      → Steps joiners (cond (not (m && true) && differs) (e + 1) e) ((m && true) || (not (m && true) && differs))
      lines' has' count'
  plain_step true differs lines lines' has has' count count' = λ steps same kept fresh.
      let old = kept (eq-eqb e e refl) in
      let sum = total_same joiners lines' lines (λ j low. same j) in
      record {
        still = λ m. absurd (true≢false m);
        each = λ m j low. let here = steps.each refl j low in let is = same j in rw (old.0 j) (omega arith);
        all = λ m. omega (arith, old.1, steps.all refl);
        few = λ m. omega (arith, old.1, steps.few refl);
      }
  plain_step false differs lines lines' has has' count count' = λ steps same kept fresh.
      may_begin differs lines' has' count' (λ j low. same j ∙ steps.still refl j low) fresh

  settle_step : (i : ℕ) (m ends differs : Bool) (lines lines' : ℕ → ℕ) (has has' : ℕ → Bool) (count count' : ℕ)
      → i < joiners → m ≡ true → has i ≡ false
      → (ends ≡ true → count + 1 ≡ joiners) → (ends ≡ false → count + 1 ≡ joiners → ⊥)
      → Steps joiners e m lines has count
      → ((j : ℕ) → lines' j ≡ lines j + cond (i == j) 1 0)
      → ((cond (not (m && not ends) && differs) (e + 1) e == e) ≡ true
      → ((j : ℕ) → has' j ≡ ((i == j) || has j)) × (count' ≡ count + 1))
      → ((cond (not (m && not ends) && differs) (e + 1) e == e) ≡ false → ((j : ℕ) → has' j ≡ false) × (count' ≡ 0))
      → Steps joiners (cond (not (m && not ends) && differs) (e + 1) e)
      ((m && not ends) || (not (m && not ends) && differs)) lines' has' count'
  settle_step i false ends differs lines lines' has has' count count' low moves new last not_last steps added kept
      fresh = absurd (false≢true moves)
  settle_step i true false differs lines lines' has has' count count' low moves new last not_last steps added kept
      fresh =
      let old = kept (eq-eqb e e refl) in
      let sum = total_same joiners lines' (λ j. lines j + cond (i == j) 1 0) (λ j l. added j) in
      let one = total_one joiners i 1 lines low in
      let differ = not_last refl in
      record {
        still = λ m. absurd (true≢false m);
        each = λ m j l. rw (old.0 j) (each_one j l);
        all = λ m. omega (arith, old.1, steps.all refl);
        few = λ m. omega (arith, old.1, steps.few refl);
      }
    where
      each_one : (j : ℕ) → j < joiners → lines' j + 1 ≡ e + cond ((i == j) || has j) 1 0
      each_one j l = let here = steps.each refl j l in let is = added j in
          elim (cases_eq i j) [
            | inl same ↦
                let none : has j ≡ false = subst (λ x. has x ≡ false) same new in
                let here' : lines j + 1 ≡ e + 0 = rw none at here in
                let is' : lines' j ≡ lines j + 1 = rw (eq-eqb i j same) at is in
                rw (eq-eqb i j same) (omega arith)
            | inr differ ↦
                let is' : lines' j ≡ lines j + 0 = rw (ne_eqb i j differ) at is in
                rw (ne_eqb i j differ) (omega arith)
          ]
  settle_step i true true differs lines lines' has has' count count' low moves new last not_last steps added kept
      fresh =
      let sum = total_same joiners lines' (λ j. lines j + cond (i == j) 1 0) (λ j l. added j) in
      let one = total_one joiners i 1 lines low in
      let is = last refl in
      let all = steps.all refl in
      may_begin differs lines' has' count' (each_full joiners e lines' at_most (omega arith)) fresh
    where
      at_most : (j : ℕ) → j < joiners → lines' j ≤ e
      at_most j l = let here = steps.each refl j l in let is = added j in
          elim (cases_eq i j) [
            | inl same ↦
                let none : has j ≡ false = subst (λ x. has x ≡ false) same new in
                let here' : lines j + 1 ≡ e + 0 = rw none at here in
                let is' : lines' j ≡ lines j + 1 = rw (eq-eqb i j same) at is in
                omega arith
            | inr differ ↦
                let is' : lines' j ≡ lines j + 0 = rw (ne_eqb i j differ) at is in
                either (has j) (lines j) (lines' j) here is'
          ]
        where
          either : (h : Bool) (a b : ℕ) → a + 1 ≡ e + cond h 1 0 → b ≡ a + 0 → b ≤ e
          either true a b x y = omega arith
          either false a b x y = omega arith

-- ---- of a journal

-- the lines of a joiner stand beside the first epoch, from which on they are counted
abbrev pub StepsOf : ℕ → Rules → TurnLine → List TurnLine → Type 0
StepsOf c rules line past =
    Steps (2 ^ rules.k) line.epoch line.moving (λ j. c + settle_lines j (line ∷ past))
    (λ j. has_settled j (line ∷ past)) (settled_count (line ∷ past))

-- what the lines since the epoch began are
module _ (line : TurnLine) (sb : List TurnLine) where
  kept_has : (b : Bool) (j : ℕ) → b ≡ true
      → list_any (λ l. is_settle_of j l.cause) (cond b (line ∷ sb) [])
      ≡ (is_settle_of j line.cause || list_any (λ l. is_settle_of j l.cause) sb)
  kept_has true j is = refl
  kept_has false j is = absurd (false≢true is)

  none_has : (b : Bool) (j : ℕ) → b ≡ false → list_any (λ l. is_settle_of j l.cause) (cond b (line ∷ sb) []) ≡ false
  none_has false j is = refl
  none_has true j is = absurd (true≢false is)

  kept_count : (b : Bool) → b ≡ true
      → length (filter (λ l. is_settle l.cause) (cond b (line ∷ sb) []))
      ≡ length (filter (λ l. is_settle l.cause) sb) + cond (is_settle line.cause) 1 0
  kept_count true is = by_test (is_settle line.cause)
    where
      by_test : (t : Bool)
          → length (cond t (line ∷ filter (λ l. is_settle l.cause) sb) (filter (λ l. is_settle l.cause) sb))
          ≡ length (filter (λ l. is_settle l.cause) sb) + cond t 1 0
      by_test true = omega arith
      by_test false = omega arith
  kept_count false is = absurd (false≢true is)

  none_count : (b : Bool) → b ≡ false → length (filter (λ l. is_settle l.cause) (cond b (line ∷ sb) [])) ≡ 0
  none_count false is = refl
  none_count true is = absurd (true≢false is)

after : (c : ℕ) (rules : Rules) (before : TurnLine) (past : List TurnLine) (cause : Cause)
    → IsAllowed rules before past cause → StepsOf c rules before past
    → StepsOf c rules (line_after rules before past cause) (before ∷ past)
after c rules before past Start allowed steps = absurd allowed
after c rules before past Wave allowed steps = absurd allowed
after c rules before past (Count feeder dr ds) allowed steps =
    let line = line_after rules before past (Count feeder dr ds) in
    let same = line.epoch == before.epoch in
    let sb = since_begun (before ∷ past) in
    plain_step (2 ^ rules.k) before.epoch (pow_pos rules.k) before.moving (not (before.shift == line.goal))
    (λ j. c + settle_lines j (before ∷ past)) (λ j. c + settle_lines j (line ∷ before ∷ past))
    (λ j. has_settled j (before ∷ past)) (λ j. has_settled j (line ∷ before ∷ past))
    (settled_count (before ∷ past)) (settled_count (line ∷ before ∷ past)) steps (λ j. omega arith)
    (λ is. ((λ j. kept_has line sb same j is), (let e = kept_count line sb same is in omega arith)))
    (λ is. ((λ j. none_has line sb same j is), none_count line sb same is))
after c rules before past (Drain feeder) allowed steps =
    let line = line_after rules before past (Drain feeder) in
    let same = line.epoch == before.epoch in
    let sb = since_begun (before ∷ past) in
    plain_step (2 ^ rules.k) before.epoch (pow_pos rules.k) before.moving (not (before.shift == line.goal))
    (λ j. c + settle_lines j (before ∷ past)) (λ j. c + settle_lines j (line ∷ before ∷ past))
    (λ j. has_settled j (before ∷ past)) (λ j. has_settled j (line ∷ before ∷ past))
    (settled_count (before ∷ past)) (settled_count (line ∷ before ∷ past)) steps (λ j. omega arith)
    (λ is. ((λ j. kept_has line sb same j is), (let e = kept_count line sb same is in omega arith)))
    (λ is. ((λ j. none_has line sb same j is), none_count line sb same is))
after c rules before past (Settle i) (low, moves, new) steps =
    let line = line_after rules before past (Settle i) in
    let same = line.epoch == before.epoch in
    let sb = since_begun (before ∷ past) in
    let ends = settled_count (before ∷ past) + 1 == 2 ^ rules.k in
    settle_step (2 ^ rules.k) before.epoch (pow_pos rules.k) i before.moving ends (not (before.shift == line.goal))
    (λ j. c + settle_lines j (before ∷ past)) (λ j. c + settle_lines j (line ∷ before ∷ past))
    (λ j. has_settled j (before ∷ past)) (λ j. has_settled j (line ∷ before ∷ past))
    (settled_count (before ∷ past)) (settled_count (line ∷ before ∷ past)) low moves
    (not-true (has_settled i (before ∷ past)) new)
    (eqb-true (settled_count (before ∷ past) + 1) (2 ^ rules.k))
    (eqb-false (settled_count (before ∷ past) + 1) (2 ^ rules.k))
    steps (λ j. omega arith)
    (λ is. ((λ j. kept_has line sb same j is), kept_count line sb same is))
    (λ is. ((λ j. none_has line sb same j is), none_count line sb same is))

-- of every journal that begins still: its epochs and what each joiner has settled
pub steps_of : (rules : Rules) (first line : TurnLine) (past : List TurnLine) → first.moving ≡ false
    → Follows rules first (line ∷ past) → StepsOf first.epoch rules line past
steps_of rules first line [] still is =
    let epoch : line.epoch ≡ first.epoch = ap (λ l. l.epoch) is in
    let moving : line.moving ≡ false = ap (λ l. l.moving) is ∙ still in
    record {
      still = λ m j low. omega arith;
      each = λ m. absurd (true≢false (sym m ∙ moving));
      all = λ m. absurd (true≢false (sym m ∙ moving));
      few = λ m. absurd (true≢false (sym m ∙ moving));
    }
steps_of rules first line (before ∷ past) still (made, allowed, rest) =
    subst (λ next. StepsOf first.epoch rules next (before ∷ past)) (sym made)
    (after first.epoch rules before past line.cause allowed (steps_of rules first before past still rest))

-- a joiner has as many lines as epochs of it were counted
pub lines_are_epochs : (j : ℕ) (line : TurnLine) (past : List TurnLine) (epochs : List ℕ)
    → AreSettled j (line ∷ past) epochs → settle_lines j (line ∷ past) ≡ length epochs
lines_are_epochs j line [] epochs are = rw are refl
lines_are_epochs j line (before ∷ past) epochs are =
    elim
    (match_cases (is_settle_of j line.cause)
    (SettlesOne j before past (λ earlier. AreSettled j (before ∷ past) earlier) epochs)
    (AreSettled j (before ∷ past) epochs) are) [
      | inl one ↦
          let c = one.1 in
          let old = lines_are_epochs j before past c.earlier c.are_earlier in
          let more = length-append c.earlier (c.epoch ∷ []) in
          let is = ap length c.splits in
          rw one.0 (omega arith)
      | inr none ↦ let old = lines_are_epochs j before past epochs none.1 in rw none.0 (omega arith)
    ]

-- ---- the end

module _ (rules : Rules) (first line : TurnLine) (past : List TurnLine) (not_moving : first.moving ≡ false)
    (follows : Follows rules first (line ∷ past)) (at_rest : line.moving ≡ false) where
  -- where no step is open, each joiner has a line for every epoch after the first
  pub each_settled : (j : ℕ) (epochs : List ℕ) → j < 2 ^ rules.k → AreSettled j (line ∷ past) epochs
      → first.epoch + length epochs ≡ line.epoch
  each_settled j epochs low are =
      ap (λ n. first.epoch + n) (sym (lines_are_epochs j line past epochs are))
      ∙ (steps_of rules first line past not_moving follows).still at_rest j low

-- where each joiner has said of every epoch after the first that it has settled, no step is open
pub ends_still : (rules : Rules) (first line : TurnLine) (past : List TurnLine) (n : ℕ) → line.epoch ≡ first.epoch + n
    → first.moving ≡ false → Follows rules first (line ∷ past)
    → ((j : ℕ) → j < 2 ^ rules.k → CountsSettled j line past (counting_from (first.epoch + 1) n)) → line.moving ≡ false
ends_still rules first line past n at_epoch not_moving follows counts = elim (cases_Bool line.moving) [
  | inr is ↦ is
  | inl moves ↦
      let e0 = first.epoch in
      let steps = steps_of rules first line past not_moving follows in
      let sum = steps.all moves in
      let less =
      some_less (2 ^ rules.k) line.epoch (λ j. e0 + settle_lines j (line ∷ past)) (omega (arith, steps.few moves))
      in
      let c = counts less.0 less.1 in
      let lines = lines_are_epochs less.0 line past c.counted c.are_settled in
      absurd
      (stuck less.0 (has_settled less.0 (line ∷ past)) c.counted c.held (settle_lines less.0 (line ∷ past))
      refl lines less.2 (steps.each moves less.0 less.1) c.splits
      (λ epoch rest is at new. c.stuck epoch rest is (moves, at, new)))
]
  where
    stuck : (j : ℕ) (h : Bool) (counted held : List ℕ) (m : ℕ) → h ≡ has_settled j (line ∷ past) → m ≡ length counted
        → first.epoch + m < line.epoch → first.epoch + m + 1 ≡ line.epoch + cond h 1 0
        → counted ++ held ≡ counting_from (first.epoch + 1) n
        → ((epoch : ℕ) (rest : List ℕ) → held ≡ epoch ∷ rest → epoch ≡ line.epoch
        → not (has_settled j (line ∷ past)) ≡ true → ⊥) → ⊥
    stuck j true counted held m is lines = λ less each splits held_is. omega arith
    stuck j false counted [] m is lines = λ less each splits held_is.
        let all = ap length splits in
        let nil : List ℕ = [] in
        let a = length-append counted nil in
        let b = length-counting_from (first.epoch + 1) n in
        omega arith
    stuck j false counted (epoch ∷ rest) m is lines = λ less each splits held_is.
        let at = at_place (first.epoch + 1) n counted epoch rest splits in
        held_is epoch rest refl (omega arith) (ap not (sym is))
