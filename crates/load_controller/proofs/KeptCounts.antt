-- What the machine keeps beside its journal stays in step with it.
use Rattle.std.proofs.Common.{◌≡◌, ℕ, suc, ◌+◌, ◌^◌, ◌<◌, ◌≤◌, refl, sym, ◌∙◌, ap, subst, arith, Bool, true, false, not}
use Rattle.std.proofs.Common.{◌||◌, ◌&&◌, cond, None, List, [], ◌∷◌, ◌++◌, length, filter, reverse}
use Rattle.std.specs.Prelude.{◌==◌, is_none, All}
use Rattle.std.specs.List.{list_all, list_any}
use Rattle.std.proofs.lemmas.Bool.{eq-eqb, ne_eqb, eqb-false, false≢true}
use Rattle.std.proofs.Math.Bool.{or_comm}
use Rattle.std.proofs.lemmas.Nat.{pow_pos}
use Rattle.std.proofs.Math.Pow.{pow_mono}
use Rattle.std.proofs.lemmas.List.{reverse-append}
use Rattle.std.proofs.lemmas.List.Elements.{All-push}
use Rattle.row_cells.specs.Lists.{counting_from}
use Rattle.epoch_tags.specs.Flags.{flag_at}
use Rattle.load_controller.specs.declared.line.Cause.{Cause}
use Rattle.load_controller.specs.declared.line.Cause.TheVariants.{Start, Wave, Count, Settle, Drain}
use Rattle.load_controller.specs.declared.line.TurnLine.{TurnLine}
use Rattle.load_controller.specs.declared.ledger.Ledger.{Ledger}
use Rattle.load_controller.specs.Journal.{line_after, is_open, counted_r, counted_s, has_drained, since_begun}
use Rattle.load_controller.specs.Journal.{settled_count, is_settle, is_settle_of, is_drain_of}
use Rattle.load_controller.specs.Law.{is_over}
use Rattle.grid_map.specs.Load.{AreWeights}
use Rattle.load_controller.specs.Next.{line_by, goal_by}
use Rattle.load_controller.specs.Standing.{IsNearWhereStill}
use Rattle.load_controller.specs.Machine.{IsSound, IsBounded, IsGuided, CauseFits, Notes, rules_of, opens_of}
use Rattle.load_controller.proofs.Numbers.{bounded_after, guided_after, near_line}

-- ---- marks

-- all are up where all tests pass
marks_all : (test : ℕ → Bool) (a : ℕ) (flags : List Bool)
    → ((i : ℕ) → i < length flags → flag_at flags i ≡ test (a + i))
    → list_all (λ up. up) flags ≡ list_all test (counting_from a (length flags))
marks_all test a [] each = refl
marks_all test a (up ∷ flags) each =
    let zero_ : a + 0 ≡ a = omega arith in
    let here : up ≡ test a = each 0 (omega arith) ∙ ap test zero_ in
    let rest =
    marks_all test (a + 1) flags
    (λ i low. each (suc i) (omega arith) ∙ ap test (let e : a + suc i ≡ a + 1 + i = omega arith in e)) in
    ap (λ t. t && list_all (λ up'. up') flags) here ∙ ap (λ t. test a && t) rest

-- the marks of an epoch's lines
marks_any : (b is old : Bool) (j : ℕ) (line : TurnLine) (since : List TurnLine) → is ≡ is_settle_of j line.cause
    → old ≡ list_any (λ l. is_settle_of j l.cause) since
    → cond b (is || old) false ≡ list_any (λ l. is_settle_of j l.cause) (cond b (line ∷ since) [])
marks_any true is old j line since own same = ap (λ t. t || old) own ∙ ap (λ t. is_settle_of j line.cause || t) same
marks_any false is old j line since own same = refl

marks_count : (b : Bool) (n : ℕ) (line : TurnLine) (since : List TurnLine)
    → n ≡ length (filter (λ l. is_settle l.cause) since)
    → cond b (cond (is_settle line.cause) (n + 1) n) 0
    ≡ length (filter (λ l. is_settle l.cause) (cond b (line ∷ since) []))
marks_count true n line since same = by_test (is_settle line.cause)
  where
    by_test : (t : Bool)
        → cond t (n + 1) n
        ≡ length (cond t (line ∷ filter (λ l. is_settle l.cause) since) (filter (λ l. is_settle l.cause) since))
    by_test true = omega arith
    by_test false = same
marks_count false n line since same = refl

module _ (J e n : ℕ) where
  -- fewer than all have settled while a step is open
  few_after : (moves is ends differs : Bool) → 0 < J → (moves ≡ true → n < J) → (ends ≡ false → n + 1 ≡ J → ⊥)
      → let opens = moves && not (is && ends) in let steps = not opens && differs in (opens || steps) ≡ true
      → cond (cond steps (e + 1) e == e) (cond is (n + 1) n) 0 < J
  few_after false is ends true some few last moving = rw (ne_eqb (e + 1) e (λ same. absurd (omega arith))) some
  few_after false is ends false some few last moving = absurd (false≢true moving)
  few_after true true true true some few last moving = rw (ne_eqb (e + 1) e (λ same. absurd (omega arith))) some
  few_after true true true false some few last moving = absurd (false≢true moving)
  few_after true true false differs some few last moving =
      let below = few refl in
      let differ = last refl in
      rw (eq-eqb e e refl) (omega arith)
  few_after true false ends differs some few last moving = rw (eq-eqb e e refl) (few refl)

most_after : (stays is : Bool) (n J : ℕ) → n ≤ J → (is ≡ true → n < J) → cond stays (cond is (n + 1) n) 0 ≤ J
most_after true true n J most few = let below = few refl in omega arith
most_after true false n J most few = most
most_after false is n J most few = omega arith

-- ---- the machine

settles_moving : (c : Ledger) (cause : Cause) → is_settle cause ≡ true → CauseFits c cause → c.line.moving ≡ true
settles_moving c Start is fits = absurd fits
settles_moving c Wave is fits = absurd fits
settles_moving c (Count feeder dr ds) is fits = absurd (false≢true is)
settles_moving c (Settle joiner) is fits = fits.1
settles_moving c (Drain feeder) is fits = absurd (false≢true is)

-- so one more fits
pub count_fits : (c : Ledger) → IsSound c → c.settled_count + 1 < 2 ^ 32
count_fits c s =
    let small : 2 ^ c.k ≤ 2 ^ 8 = pow_mono s.k in
    let most = s.at_most in
    omega arith

-- a step is open after the cause, read off the journal
pub opens_is : (c : Ledger) (s : IsSound c) (cause : Cause)
    → opens_of c cause ≡ is_open (rules_of c) c.line s.past cause
opens_is c s cause =
    ap (λ n. c.line.moving && not (is_settle cause && (n + 1 == length c.settled.items))) s.count
    ∙ ap (λ n. c.line.moving && not (is_settle cause && (settled_count (c.line ∷ s.past) + 1 == n))) s.settled_len

-- the line that it makes is the lawful one
pub line_is : (c : Ledger) (s : IsSound c) (cause : Cause)
    → line_by c.k c.fixed c.weights c.line (opens_of c cause) cause ≡ line_after (rules_of c) c.line s.past cause
line_is c s cause = ap (λ opens. line_by c.k c.fixed c.weights c.line opens cause) (opens_is c s cause)

counts_fit : (c : Ledger) (cause : Cause) → IsBounded c.k c.line → CauseFits c cause
    → (c.line.rows_r + counted_r cause ≤ 2 ^ 32) × (c.line.rows_s + counted_s cause ≤ 2 ^ 32)
counts_fit c Start b fits = absurd fits
counts_fit c Wave b fits = absurd fits
counts_fit c (Count feeder dr ds) b fits = (fits.1, fits.2)
counts_fit c (Settle joiner) b fits = let few_r = b.few_r in let few_s = b.few_s in (omega arith, omega arith)
counts_fit c (Drain feeder) b fits = let few_r = b.few_r in let few_s = b.few_s in (omega arith, omega arith)

-- the rules stay
pub rules_kept : (old new : Ledger) (line : TurnLine) → Notes line old new → rules_of new ≡ rules_of old
rules_kept old new line n = λ i. record { k = n.k i; feeders = n.feeders i; fixed = n.fixed i; weights = n.weights i }

-- after a line it is sound
pub sound_after : (cause : Cause) (old new : Ledger) → IsSound old → CauseFits old cause
    → new.line ≡ line_by old.k old.fixed old.weights old.line (opens_of old cause) cause → Notes new.line old new
    → IsSound new
sound_after cause old new s fits is n =
    let same_k = n.k in
    let same_feeders = n.feeders in
    let past = old.line ∷ s.past in
    let own : new.line.cause ≡ cause = ap (λ l. l.cause) is in
    let few = counts_fit old cause s.bounded fits in
    let made = bounded_after old.k old.fixed old.weights old.line (opens_of old cause) cause s.bounded few.0 few.1 in
    let bounded' : IsBounded old.k new.line = subst (λ l. IsBounded old.k l) (sym is) made in
    let bounded : IsBounded new.k new.line = subst (λ k. IsBounded k new.line) (sym n.k) bounded' in
    let free : new.fixed ≡ None → old.fixed ≡ None = λ none. sym n.fixed ∙ none in
    let guided' : new.fixed ≡ None → IsGuided old.k old.weights new.line = λ none.
    subst (λ l. IsGuided old.k old.weights l) (sym is)
    (guided_after old.k old.fixed old.weights old.line (opens_of old cause) cause (ap is_none (free none)) s.bounded
    (s.guided (free none))) in
    let rules = rules_kept old new new.line n in
    let near : IsNearWhereStill (rules_of old) new.line =
    λ none still. near_line old.k old.weights new.line bounded' (guided' (n.fixed ∙ none)) still in
    let pushed : All (IsNearWhereStill (rules_of old)) (old.journal ++ new.line ∷ []) =
    All-push (IsNearWhereStill (rules_of old)) old.journal new.line s.near near in
    let J = 2 ^ old.k in
    record {
      past = past;
      newest = ap reverse n.journal ∙ reverse-append old.journal (new.line ∷ []) ∙ ap (λ ls. new.line ∷ ls) s.newest;
      k = let small = s.k in omega arith;
      bounded = bounded;
      guided =
          λ none.
          subst (λ w. IsGuided new.k w new.line) (sym n.weights)
          (subst (λ k. IsGuided k old.weights new.line) (sym n.k) (guided' none));
      weights = subst AreWeights (sym n.weights) s.weights;
      near =
          subst (λ r. All (IsNearWhereStill r) new.journal) (sym rules)
          (subst (λ ls. All (IsNearWhereStill (rules_of old)) ls) (sym n.journal) pushed);
      drained_len = n.drained_len ∙ s.drained_len ∙ sym n.feeders;
      drained = drains;
      settled_len = n.settled_len ∙ s.settled_len ∙ ap (λ k. 2 ^ k) (sym n.k);
      settled = λ j low.
          let low' : j < 2 ^ old.k = subst (λ k. j < 2 ^ k) n.k low in
          let within : j < length old.settled.items = subst (λ m. j < m) (sym s.settled_len) low' in
          n.settled j within
          ∙ marks_any (new.line.epoch == old.line.epoch) (is_settle_of j new.line.cause) (flag_at old.settled.items j)
          j new.line (since_begun past) refl (s.settled j low');
      count =
          n.count
          ∙ marks_count (new.line.epoch == old.line.epoch) old.settled_count new.line (since_begun past) s.count;
      few = λ moving. subst (λ k. new.settled_count < 2 ^ k) (sym n.k) (subst (λ m. m < J) (sym n.count)
          (fewer (new.line) is moving));
      at_most = subst (λ k. new.settled_count ≤ 2 ^ k) (sym n.k) (subst (λ m. m ≤ J) (sym n.count)
          (most_after (new.line.epoch == old.line.epoch) (is_settle new.line.cause) old.settled_count J s.at_most
          (λ settles. s.few (settles_moving old cause (ap is_settle (sym own) ∙ settles) fits))));
      over =
          n.over
          ∙ ap (λ b. b || (not new.line.moving && list_all (λ up. up) new.drained.items)) s.over
          ∙ ap (λ b. is_over old.feeders past || (not new.line.moving && b))
          (marks_all (λ p. has_drained p (new.line ∷ past)) 0 new.drained.items (λ i low.
          drains i (let all = n.drained_len in let many = s.drained_len in omega arith)
          ∙ ap (λ p. has_drained p (new.line ∷ past)) (let e : i ≡ 0 + i = omega arith in e)))
          ∙ ap
          (λ m. is_over old.feeders past
          || (not new.line.moving && list_all (λ p. has_drained p (new.line ∷ past)) (counting_from 0 m)))
          (n.drained_len ∙ s.drained_len)
          ∙ ap
          (λ m. is_over m past
          || (not new.line.moving && list_all (λ p. has_drained p (new.line ∷ past)) (counting_from 0 m)))
          (sym n.feeders)
          ∙ or_comm (is_over new.feeders past)
          (not new.line.moving && list_all (λ p. has_drained p (new.line ∷ past)) (counting_from 0 new.feeders));
      queues = ap length n.held ∙ s.queues ∙ ap (λ k. 2 ^ k) (sym n.k);
    }
  where
    drains : (p : ℕ) → p < new.feeders → flag_at new.drained.items p ≡ has_drained p (new.line ∷ old.line ∷ s.past)
    drains p low =
        let low' : p < old.feeders = subst (λ m. p < m) n.feeders low in
        let within : p < length old.drained.items = subst (λ m. p < m) (sym s.drained_len) low' in
        n.drained p within ∙ ap (λ b. is_drain_of p new.line.cause || b) (s.drained p low')

    fewer : (line : TurnLine) → line ≡ line_by old.k old.fixed old.weights old.line (opens_of old cause) cause
        → line.moving ≡ true
        → cond (line.epoch == old.line.epoch) (cond (is_settle line.cause) (old.settled_count + 1) old.settled_count) 0
        < 2 ^ old.k
    fewer line made moving =
        let at : (line_by old.k old.fixed old.weights old.line (opens_of old cause) cause).moving ≡ true =
        sym (ap (λ l. l.moving) made) ∙ moving in
        subst
        (λ (l : TurnLine). cond (l.epoch == old.line.epoch)
        (cond (is_settle l.cause) (old.settled_count + 1) old.settled_count) 0 < 2 ^ old.k) (sym made)
        (few_after (2 ^ old.k) old.line.epoch old.settled_count old.line.moving (is_settle cause)
        (old.settled_count + 1 == length old.settled.items)
        (not (old.line.shift == goal_by old.k old.fixed old.weights old.line (opens_of old cause) cause))
        (pow_pos old.k) s.few
        (λ e all. eqb-false (old.settled_count + 1) (length old.settled.items) e (all ∙ sym s.settled_len)) at)

-- a ledger is sound after a line was noted
pub noted_sound : (cause : Cause) (old new : Ledger) (line : TurnLine) (opens : Bool) → IsSound old
    → CauseFits old cause → opens ≡ opens_of old cause
    → line ≡ line_by old.k old.fixed old.weights old.line opens cause → Notes line old new → IsSound new
noted_sound cause old new line opens s fits opens_are is n =
    sound_after cause old new s fits
    (n.newest ∙ is ∙ ap (λ b. line_by old.k old.fixed old.weights old.line b cause) opens_are)
    (subst (λ l. Notes l old new) (sym n.newest) n)
