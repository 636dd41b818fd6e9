-- What a journal sends to each feeder: an order for each epoch, a grant for each count, and at the very end a stop.
use Rattle.std.proofs.Common.{◌≡◌, ℕ, ◌+◌, ◌<◌, inl, inr, refl, sym, ◌∙◌, ap, subst, arith, Bool, true, false, not}
use Rattle.std.proofs.Common.{cond, ◌||◌, ◌&&◌, ◌⊎◌, List, [], ◌∷◌, ◌++◌}
use Rattle.std.specs.Prelude.{◌==◌}
use Rattle.std.specs.List.{list_all, AllByRecursion}
use Rattle.std.proofs.lemmas.Bool.{eq-eqb, ne_eqb, or_parts, or_left, or_right, or_from, and_left, and_right, not-true}
use Rattle.std.proofs.lemmas.Bool.{not_from_true, true≢false}
use Rattle.std.proofs.lemmas.List.{append-nil}
use Rattle.row_cells.specs.Lists.{counting_from}
use Rattle.row_cells.proofs.RisingNumbers.{counting-more, one_fails}
use Rattle.epoch_tags.specs.declared.message.ToController.{ToController}
use Rattle.epoch_tags.specs.declared.message.ToController.TheVariants.{Ask, Drained, Settled}
use Rattle.epoch_tags.specs.declared.message.ToFeeder.{ToFeeder}
use Rattle.epoch_tags.specs.declared.message.ToFeeder.TheVariants.{Order, Grant, Stop}
use Rattle.epoch_tags.specs.Messages.{order_epochs, grants, stops}
use Rattle.epoch_tags.specs.Orders.{StopsLast, GoesBy}
use Rattle.epoch_tags.proofs.Appends.{grants-append, stops-append, order_epochs-append}
use Rattle.load_controller.specs.declared.line.Cause.{Cause}
use Rattle.load_controller.specs.declared.line.Cause.TheVariants.{Start, Wave, Count, Settle, Drain}
use Rattle.load_controller.specs.declared.line.TurnLine.{TurnLine}
use Rattle.load_controller.specs.Journal.{Rules, Follows, IsAllowed, line_after, is_count_of, is_drain_of, has_drained}
use Rattle.load_controller.specs.Law.{AreCounted, CountsOne, IsInPlace, is_over, sent_for, sent_by}
use Rattle.load_controller.proofs.Counted.{match_cases, count_lines}
use Rattle.epoch_tags.proofs.EpochShifts.{goes-append}

-- ---- lists of messages

last_after : (xs ys : List ToFeeder) → stops xs ≡ 0 → StopsLast ys → StopsLast (xs ++ ys)
last_after [] ys none last = last
last_after (Order epoch shift ∷ xs) ys none last = last_after xs ys none last
last_after (Grant ∷ xs) ys none last = last_after xs ys none last
last_after (Stop ∷ xs) ys none last = absurd (omega arith)

-- ---- one line

line_grants : (same counts over : Bool) (epoch shift : ℕ)
    → grants (cond same [] (Order epoch shift ∷ []) ++ cond counts (Grant ∷ []) [] ++ cond over (Stop ∷ []) [])
    ≡ cond counts 1 0
line_grants true true true epoch shift = refl
line_grants true true false epoch shift = refl
line_grants true false true epoch shift = refl
line_grants true false false epoch shift = refl
line_grants false true true epoch shift = refl
line_grants false true false epoch shift = refl
line_grants false false true epoch shift = refl
line_grants false false false epoch shift = refl

line_stops : (same counts over : Bool) (epoch shift : ℕ)
    → stops (cond same [] (Order epoch shift ∷ []) ++ cond counts (Grant ∷ []) [] ++ cond over (Stop ∷ []) [])
    ≡ cond over 1 0
line_stops true true true epoch shift = refl
line_stops true true false epoch shift = refl
line_stops true false true epoch shift = refl
line_stops true false false epoch shift = refl
line_stops false true true epoch shift = refl
line_stops false true false epoch shift = refl
line_stops false false true epoch shift = refl
line_stops false false false epoch shift = refl

line_last : (same counts over : Bool) (epoch shift : ℕ)
    → StopsLast (cond same [] (Order epoch shift ∷ []) ++ cond counts (Grant ∷ []) [] ++ cond over (Stop ∷ []) [])
line_last true true true epoch shift = refl
line_last true true false epoch shift = tt
line_last true false true epoch shift = refl
line_last true false false epoch shift = tt
line_last false true true epoch shift = refl
line_last false true false epoch shift = tt
line_last false false true epoch shift = refl
line_last false false false epoch shift = tt

line_orders : (same counts over : Bool) (epoch shift : ℕ)
    → order_epochs (cond same [] (Order epoch shift ∷ []) ++ cond counts (Grant ∷ []) [] ++ cond over (Stop ∷ []) [])
    ≡ cond same [] (epoch ∷ [])
line_orders true true true epoch shift = refl
line_orders true true false epoch shift = refl
line_orders true false true epoch shift = refl
line_orders true false false epoch shift = refl
line_orders false true true epoch shift = refl
line_orders false true false epoch shift = refl
line_orders false false true epoch shift = refl
line_orders false false false epoch shift = refl

-- ---- all lines

-- a feeder is sent a grant for each line that counts its rows
pub sends_grants : (rules : Rules) (p : ℕ) (past : List TurnLine) → grants (sent_by rules p past) ≡ count_lines p past
sends_grants rules p [] = refl
sends_grants rules p (line ∷ []) = refl
sends_grants rules p (line ∷ before ∷ past) =
    let old = sends_grants rules p (before ∷ past) in
    let e = grants-append (sent_by rules p (before ∷ past)) (sent_for rules p line before past) in
    let new =
    line_grants (line.epoch == before.epoch) (is_count_of p line.cause)
    (not (is_over rules.feeders (before ∷ past)) && is_over rules.feeders (line ∷ before ∷ past))
    line.epoch line.shift in
    omega arith

-- the epochs stay or rise by 1
next_epoch : (rules : Rules) (before : TurnLine) (past : List TurnLine) (cause : Cause) (c n : ℕ) → before.epoch ≡ c + n
    → let line = line_after rules before past cause in
    (m : ℕ) × (line.epoch ≡ c + m)
    × (counting_from (c + 1) n ++ cond (line.epoch == before.epoch) [] (line.epoch ∷ []) ≡ counting_from (c + 1) m)
next_epoch rules before past cause c n is =
    let line = line_after rules before past cause in
    by_test
    (not (before.moving && not (Rattle.load_controller.specs.Journal.ends_step rules (before ∷ past) cause))
    && not (before.shift == line.goal)) before.epoch is
  where
    by_test : (steps : Bool) (e : ℕ) → e ≡ c + n
        → (m : ℕ) × (cond steps (e + 1) e ≡ c + m)
        ×
        (counting_from (c + 1) n
        ++ cond (cond steps (e + 1) e == e) [] (cond steps (e + 1) e ∷ []) ≡ counting_from (c + 1) m)
    by_test true e at =
        let one : e + 1 ≡ c + 1 + n = omega arith in (
          n + 1,
          omega arith,
          rw (ne_eqb (e + 1) e (λ same. absurd (omega arith)))
              (ap (λ x. counting_from (c + 1) n ++ x ∷ []) one ∙ sym (counting-more (c + 1) n)),
        )
    by_test false e at = (n, at, rw (eq-eqb e e refl) (append-nil (counting_from (c + 1) n)))

-- the orders count up from the first line's epoch
pub sends_orders : (rules : Rules) (first line : TurnLine) (past : List TurnLine) (p : ℕ)
    → Follows rules first (line ∷ past)
    → (n : ℕ) × (line.epoch ≡ first.epoch + n)
    × (order_epochs (sent_by rules p (line ∷ past)) ≡ counting_from (first.epoch + 1) n)
sends_orders rules first line [] p is = (0, (let e = ap (λ l. l.epoch) is in omega arith), refl)
sends_orders rules first line (before ∷ past) p (made, allowed, rest) =
    let old = sends_orders rules first before past p rest in
    let c = first.epoch in
    let e = order_epochs-append (sent_by rules p (before ∷ past)) (sent_for rules p line before past) in
    let new =
    line_orders (line.epoch == before.epoch) (is_count_of p line.cause)
    (not (is_over rules.feeders (before ∷ past)) && is_over rules.feeders (line ∷ before ∷ past))
    line.epoch line.shift in
    let next : (m : ℕ) × (line.epoch ≡ c + m)
    ×
    (counting_from (c + 1) old.0
    ++ cond (line.epoch == before.epoch) [] (line.epoch ∷ []) ≡ counting_from (c + 1) m) =
    subst
    (λ (l : TurnLine). (m : ℕ) × (l.epoch ≡ c + m)
    × (counting_from (c + 1) old.0 ++ cond (l.epoch == before.epoch) [] (l.epoch ∷ []) ≡ counting_from (c + 1) m))
    (sym made) (next_epoch rules before past line.cause c old.0 old.1) in (
      next.0,
      next.1,
      e ∙ ap (λ xs. xs ++ order_epochs (sent_for rules p line before past)) old.2
          ∙ ap (λ xs. counting_from (c + 1) old.0 ++ xs) new ∙ next.2,
    )

-- ---- stops

-- before all is over no stop is sent
pub no_stops : (rules : Rules) (p : ℕ) (past : List TurnLine) → is_over rules.feeders past ≡ false
    → stops (sent_by rules p past) ≡ 0
no_stops rules p [] going = refl
no_stops rules p (line ∷ []) going = refl
no_stops rules p (line ∷ before ∷ past) going =
    let parts =
    or_parts
    (not line.moving && list_all (λ q. has_drained q (line ∷ before ∷ past)) (counting_from 0 rules.feeders))
    (is_over rules.feeders (before ∷ past)) going in
    let old = no_stops rules p (before ∷ past) parts.1 in
    let e = stops-append (sent_by rules p (before ∷ past)) (sent_for rules p line before past) in
    let over = not (is_over rules.feeders (before ∷ past)) && is_over rules.feeders (line ∷ before ∷ past) in
    let new = line_stops (line.epoch == before.epoch) (is_count_of p line.cause) over line.epoch line.shift in
    let none : over ≡ false =
    and_right (not (is_over rules.feeders (before ∷ past))) (is_over rules.feeders (line ∷ before ∷ past)) going in
    let zero_ : cond {A = ℕ} over 1 0 ≡ 0 = ap (λ (t : Bool). cond {A = ℕ} t 1 0) none in
    omega arith

-- a line of a feeder comes before it drained, a joiner's while a step is open
not_at_end : (rules : Rules) (before : TurnLine) (past : List TurnLine) (cause : Cause)
    → IsAllowed rules before past cause
    → ((q : ℕ) → q < rules.feeders → (is_count_of q cause || is_drain_of q cause) ≡ true
    → has_drained q (before ∷ past) ≡ false)
    → (not before.moving && list_all (λ q. has_drained q (before ∷ past)) (counting_from 0 rules.feeders)) ≡ false
not_at_end rules before past Start allowed fresh = absurd allowed
not_at_end rules before past Wave allowed fresh = absurd allowed
not_at_end rules before past (Count q dr ds) allowed fresh =
    and_right (not before.moving) (list_all (λ q. has_drained q (before ∷ past)) (counting_from 0 rules.feeders))
    (one_fails (λ q. has_drained q (before ∷ past)) q 0 rules.feeders (omega arith) (omega arith)
    (fresh q allowed (or_left (q == q) false (eq-eqb q q refl))))
not_at_end rules before past (Drain q) allowed fresh =
    and_right (not before.moving) (list_all (λ q. has_drained q (before ∷ past)) (counting_from 0 rules.feeders))
    (one_fails (λ q. has_drained q (before ∷ past)) q 0 rules.feeders (omega arith) (omega arith)
    (fresh q allowed (or_right false (q == q) (eq-eqb q q refl))))
not_at_end rules before past (Settle j) allowed fresh =
    and_left (not before.moving) (list_all (λ q. has_drained q (before ∷ past)) (counting_from 0 rules.feeders))
    (not_from_true before.moving allowed.1)

in_place_undrained : (before : TurnLine) (past : List TurnLine) (p : ℕ) (m : ToController) → IsInPlace before past p m
    → has_drained p (before ∷ past) ≡ false
in_place_undrained before past p (Ask dr ds) in_place = not-true (has_drained p (before ∷ past)) in_place.0
in_place_undrained before past p Drained in_place = not-true (has_drained p (before ∷ past)) in_place
in_place_undrained before past p (Settled epoch) in_place = absurd in_place

-- of a line, whether it is feeder q's, and the messages counted before
was_counted : (q : ℕ) (line before : TurnLine) (past : List TurnLine) (ms : List ToController)
    → AreCounted q (line ∷ before ∷ past) ms
    → ((has_drained q (before ∷ past) ≡ false) ⊎ ((is_count_of q line.cause || is_drain_of q line.cause) ≡ false))
    × ((earlier : List ToController) × AreCounted q (before ∷ past) earlier)
was_counted q line before past ms are =
    elim
    (match_cases (is_count_of q line.cause || is_drain_of q line.cause)
    (CountsOne q before past line.cause (λ earlier. AreCounted q (before ∷ past) earlier) ms)
    (AreCounted q (before ∷ past) ms) are) [
      | inl one ↦ let r = one.1 in (inl (in_place_undrained before past q r.m r.in_place), (r.earlier, r.are_earlier))
      | inr none ↦ (inr none.0, (ms, none.1))
    ]

fresh_for : (rules : Rules) (line before : TurnLine) (past : List TurnLine)
    → ((q : ℕ) → q < rules.feeders → (ms : List ToController) × AreCounted q (line ∷ before ∷ past) ms)
    → (q : ℕ) → q < rules.feeders → (is_count_of q line.cause || is_drain_of q line.cause) ≡ true
    → has_drained q (before ∷ past) ≡ false
fresh_for rules line before past counted q low is =
    elim
    (was_counted q line before past (counted q low).0 (counted q low).1).0 [
      | inl done ↦
          done
      | inr none ↦ absurd (true≢false (sym is ∙ none))
    ]

-- after the end no line comes
pub going : (rules : Rules) (first line before : TurnLine) (past : List TurnLine)
    → Follows rules first (line ∷ before ∷ past)
    → ((q : ℕ) → q < rules.feeders → (ms : List ToController) × AreCounted q (line ∷ before ∷ past) ms)
    → is_over rules.feeders (before ∷ past) ≡ false
going rules first line before [] (made, allowed, follows) counted =
    or_from (not before.moving && list_all (λ q. has_drained q (before ∷ [])) (counting_from 0 rules.feeders)) false
    (not_at_end rules before [] line.cause allowed (fresh_for rules line before [] counted)) refl
going rules first line before (b ∷ past) (made, allowed, follows) counted =
    or_from (not before.moving && list_all (λ q. has_drained q (before ∷ b ∷ past)) (counting_from 0 rules.feeders))
    (is_over rules.feeders (b ∷ past))
    (not_at_end rules before (b ∷ past) line.cause allowed (fresh_for rules line before (b ∷ past) counted))
    (going rules first before b past follows
    (λ q low. (was_counted q line before (b ∷ past) (counted q low).0 (counted q low).1).1))

-- so a stop stands only at the end
pub stops_last : (rules : Rules) (first line : TurnLine) (past : List TurnLine) (p : ℕ)
    → Follows rules first (line ∷ past)
    → ((q : ℕ) → q < rules.feeders → (ms : List ToController) × AreCounted q (line ∷ past) ms)
    → StopsLast (sent_by rules p (line ∷ past))
stops_last rules first line [] p follows counted = tt
stops_last rules first line (before ∷ past) p follows counted =
    last_after (sent_by rules p (before ∷ past)) (sent_for rules p line before past)
    (no_stops rules p (before ∷ past) (going rules first line before past follows counted))
    (line_last (line.epoch == before.epoch) (is_count_of p line.cause)
    (not (is_over rules.feeders (before ∷ past)) && is_over rules.feeders (line ∷ before ∷ past))
    line.epoch line.shift)

-- and it is sent where the last line isn't moving and all have drained
pub stop_sent : (rules : Rules) (first line before : TurnLine) (past : List TurnLine) (p : ℕ)
    → Follows rules first (line ∷ before ∷ past)
    → ((q : ℕ) → q < rules.feeders → (ms : List ToController) × AreCounted q (line ∷ before ∷ past) ms)
    → is_over rules.feeders (line ∷ before ∷ past) ≡ true
    → 0 < stops (sent_by rules p (line ∷ before ∷ past))
stop_sent rules first line before past p follows counted over =
    let e = stops-append (sent_by rules p (before ∷ past)) (sent_for rules p line before past) in
    let ends = not (is_over rules.feeders (before ∷ past)) && is_over rules.feeders (line ∷ before ∷ past) in
    let new = line_stops (line.epoch == before.epoch) (is_count_of p line.cause) ends line.epoch line.shift in
    let goes = going rules first line before past follows counted in
    let is : ends ≡ true = ap (λ t. not t && is_over rules.feeders (line ∷ before ∷ past)) goes ∙ over in
    let one : cond {A = ℕ} ends 1 0 ≡ 1 = ap (λ (t : Bool). cond {A = ℕ} t 1 0) is in
    omega arith

-- what is sent for one line
pub sent_goes : (b : ℕ → ℕ) (same counts over : Bool) (epoch shift : ℕ) → shift ≡ b epoch
    → GoesBy b (cond same [] (Order epoch shift ∷ []) ++ cond counts (Grant ∷ []) [] ++ cond over (Stop ∷ []) [])
sent_goes b true true true epoch shift is = tt
sent_goes b true true false epoch shift is = tt
sent_goes b true false true epoch shift is = tt
sent_goes b true false false epoch shift is = tt
sent_goes b false true true epoch shift is = (is, tt)
sent_goes b false true false epoch shift is = (is, tt)
sent_goes b false false true epoch shift is = (is, tt)
sent_goes b false false false epoch shift is = (is, tt)

-- the orders sent carry the shifts of the lines
pub all_sent_goes : (b : ℕ → ℕ) (rules : Rules) (p : ℕ) (past : List TurnLine)
    → AllByRecursion (λ l. l.shift ≡ b l.epoch) past → GoesBy b (sent_by rules p past)
all_sent_goes b rules p [] each = tt
all_sent_goes b rules p (line ∷ []) each = tt
all_sent_goes b rules p (line ∷ before ∷ past) (here, rest) =
    goes-append b (sent_by rules p (before ∷ past)) (sent_for rules p line before past)
    (all_sent_goes b rules p (before ∷ past) rest)
    (sent_goes b (line.epoch == before.epoch) (is_count_of p line.cause)
    (not (is_over rules.feeders (before ∷ past)) && is_over rules.feeders (line ∷ before ∷ past))
    line.epoch line.shift here)
