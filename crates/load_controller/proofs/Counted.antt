-- Which lines a feeder's messages have: each has one, where they are asks and at most a last word that it has drained.
use Rattle.std.proofs.Common.{◌≡◌, ℕ, ◌+◌, ◌^◌, ◌≤◌, inl, inr, refl, sym, ◌∙◌, ap, subst, arith, Bool, true, false}
use Rattle.std.proofs.Common.{cond, ◌||◌, ◌⊎◌, List, [], ◌∷◌, ◌++◌, append_assoc, sum_by, reverse, filter}
use Rattle.std.specs.Prelude.{map, not, MatchBool, ◌==◌}
use Rattle.std.specs.List.{AllByRecursion}
use Rattle.std.proofs.lemmas.Bool.{cases_Bool, eq-eqb, or_parts}
use Rattle.std.proofs.lemmas.List.{map-append, append-nil, reverse-append}
use Rattle.row_cells.specs.Lists.{total}
use Rattle.row_cells.proofs.Totals.{total_one, total_same, total-zero}
use Rattle.epoch_tags.specs.declared.message.ToController.{ToController}
use Rattle.epoch_tags.specs.declared.message.ToController.TheVariants.{Ask, Drained, Settled}
use Rattle.epoch_tags.specs.Messages.{asks, draineds, asked_r, asked_s}
use Rattle.epoch_tags.specs.Orders.{DrainsLast}
use Rattle.epoch_tags.proofs.Appends.{asks-append, draineds-append, asked_r-append, asked_s-append, none_drained}
use Rattle.epoch_tags.proofs.Appends.{not_settled}
use Rattle.load_controller.specs.declared.line.Cause.{Cause}
use Rattle.load_controller.specs.declared.line.Cause.TheVariants.{Start, Wave, Count, Settle, Drain}
use Rattle.load_controller.specs.declared.line.TurnLine.{TurnLine}
use Rattle.load_controller.specs.Journal.{Rules, Follows, IsAllowed, counted_r, counted_s, is_count_of, is_drain_of}
use Rattle.load_controller.specs.Journal.{has_drained, causes_of, all_causes}
use Rattle.load_controller.specs.Law.{AreCounted, CountsOne, CountsMessages, IsInPlace, cause_of}
use Rattle.std.proofs.lemmas.List.Elements.{filter-append}
use Rattle.std.proofs.lemmas.List.Sums.{sum_by-append, sum_by-cons}

-- ---- what is read off messages and lines

-- of all lines after the first: how many count a batch of feeder p, how many say that it drained, how many rows they
-- count
abbrev pub count_lines : ℕ → List TurnLine → ℕ
count_lines p [] = 0
count_lines p (line ∷ []) = 0
count_lines p (line ∷ before ∷ past) = count_lines p (before ∷ past) + cond (is_count_of p line.cause) 1 0

-- how many lines say that feeder p has drained
abbrev pub drain_lines : ℕ → List TurnLine → ℕ
drain_lines p [] = 0
drain_lines p (line ∷ []) = 0
drain_lines p (line ∷ before ∷ past) = drain_lines p (before ∷ past) + cond (is_drain_of p line.cause) 1 0

-- how many rows of R feeder p's lines count
abbrev pub lines_r : ℕ → List TurnLine → ℕ
lines_r p [] = 0
lines_r p (line ∷ []) = 0
lines_r p (line ∷ before ∷ past) = lines_r p (before ∷ past) + cond (is_count_of p line.cause) (counted_r line.cause) 0

-- and of S
abbrev pub lines_s : ℕ → List TurnLine → ℕ
lines_s p [] = 0
lines_s p (line ∷ []) = 0
lines_s p (line ∷ before ∷ past) = lines_s p (before ∷ past) + cond (is_count_of p line.cause) (counted_s line.cause) 0

-- the causes of its lines, in order
abbrev pub causes_in : ℕ → List TurnLine → List Cause
causes_in p [] = []
causes_in p (line ∷ []) = []
causes_in p (line ∷ before ∷ past) =
    causes_in p (before ∷ past) ++ cond (is_count_of p line.cause || is_drain_of p line.cause) (line.cause ∷ []) []

-- ---- a line's counts are the rows of all feeders' lines

module _ (rules : Rules) (before : TurnLine) (past : List TurnLine) where
  add_r : (cause : Cause) → IsAllowed rules before past cause → (g : ℕ → ℕ)
      → total rules.feeders (λ q. g q + cond (is_count_of q cause) (counted_r cause) 0)
      ≡ total rules.feeders g + counted_r cause
  add_r Start allowed g = absurd allowed
  add_r Wave allowed g = absurd allowed
  add_r (Count feeder dr ds) allowed g = total_one rules.feeders feeder dr g allowed
  add_r (Settle joiner) allowed g = let e = total_same rules.feeders (λ q. g q + 0) g (λ i low. omega arith) in
      omega arith
  add_r (Drain feeder) allowed g = let e = total_same rules.feeders (λ q. g q + 0) g (λ i low. omega arith) in
      omega arith

  add_s : (cause : Cause) → IsAllowed rules before past cause → (g : ℕ → ℕ)
      → total rules.feeders (λ q. g q + cond (is_count_of q cause) (counted_s cause) 0)
      ≡ total rules.feeders g + counted_s cause
  add_s Start allowed g = absurd allowed
  add_s Wave allowed g = absurd allowed
  add_s (Count feeder dr ds) allowed g = total_one rules.feeders feeder ds g allowed
  add_s (Settle joiner) allowed g = let e = total_same rules.feeders (λ q. g q + 0) g (λ i low. omega arith) in
      omega arith
  add_s (Drain feeder) allowed g = let e = total_same rules.feeders (λ q. g q + 0) g (λ i low. omega arith) in
      omega arith

-- the rows of R are those of the first line and what the lines of all feeders count
pub rows_r_counted : (rules : Rules) (first line : TurnLine) (past : List TurnLine) → Follows rules first (line ∷ past)
    → line.rows_r ≡ first.rows_r + total rules.feeders (λ q. lines_r q (line ∷ past))
rows_r_counted rules first line [] is = let e = ap (λ l. l.rows_r) is in let z = total-zero rules.feeders in omega arith
rows_r_counted rules first line (before ∷ past) (made, allowed, rest) =
    let e : line.rows_r ≡ before.rows_r + counted_r line.cause = ap (λ l. l.rows_r) made in
    let old = rows_r_counted rules first before past rest in
    let new = add_r rules before past line.cause allowed (λ q. lines_r q (before ∷ past)) in
    omega arith

-- so are those of S
pub rows_s_counted : (rules : Rules) (first line : TurnLine) (past : List TurnLine) → Follows rules first (line ∷ past)
    → line.rows_s ≡ first.rows_s + total rules.feeders (λ q. lines_s q (line ∷ past))
rows_s_counted rules first line [] is = let e = ap (λ l. l.rows_s) is in let z = total-zero rules.feeders in omega arith
rows_s_counted rules first line (before ∷ past) (made, allowed, rest) =
    let e : line.rows_s ≡ before.rows_s + counted_s line.cause = ap (λ l. l.rows_s) made in
    let old = rows_s_counted rules first before past rest in
    let new = add_s rules before past line.cause allowed (λ q. lines_s q (before ∷ past)) in
    omega arith

-- ---- of the messages that a past counts

-- the two cases of a match on a test
pub match_cases : (b : Bool) (P Q : Type 0) → MatchBool b P Q → ((b ≡ true) × P) ⊎ ((b ≡ false) × Q)
match_cases true P Q h = inl (refl, h)
match_cases false P Q h = inr (refl, h)

cond_small : (b : Bool) (n : ℕ) → cond b n 0 ≤ n
cond_small true n = omega arith
cond_small false n = omega arith

-- what a message and the line that counts it have in common
record Agree (p : ℕ) (cause : Cause) (m : ToController) : Type 0 where
  counts : cond (is_count_of p cause) 1 0 ≡ asks (m ∷ [])
  drains : cond (is_drain_of p cause) 1 0 ≡ draineds (m ∷ [])
  rows_r : cond (is_count_of p cause) (counted_r cause) 0 ≡ asked_r (m ∷ [])
  rows_s : cond (is_count_of p cause) (counted_s cause) 0 ≡ asked_s (m ∷ [])

agree : (p : ℕ) (before : TurnLine) (past : List TurnLine) (m : ToController) → IsInPlace before past p m
    → Agree p (cause_of p m) m
agree p before past (Ask dr ds) in_place = let e = eq-eqb p p refl in
    record { counts = rw e (omega arith); drains = refl; rows_r = rw e (omega arith); rows_s = rw e (omega arith) }
agree p before past Drained in_place = let e = eq-eqb p p refl in
    record { counts = refl; drains = rw e (omega arith); rows_r = refl; rows_s = refl }
agree p before past (Settled epoch) in_place = absurd in_place

-- the lines count no more rows than the messages ask for, passed over ones included
pub lines_r_within : (p : ℕ) (line : TurnLine) (past : List TurnLine) (ms : List ToController)
    → AreCounted p (line ∷ past) ms → lines_r p (line ∷ past) ≤ asked_r ms
lines_r_within p line [] ms are = omega arith
lines_r_within p line (before ∷ past) ms are =
    elim
    (match_cases (is_count_of p line.cause || is_drain_of p line.cause)
    (CountsOne p before past line.cause (λ earlier. AreCounted p (before ∷ past) earlier) ms)
    (AreCounted p (before ∷ past) ms) are) [
      | inl one ↦
          let c = one.1 in
          let old = lines_r_within p before past c.earlier c.are_earlier in
          let a : Agree p line.cause c.m =
          subst (λ cause. Agree p cause c.m) (sym c.is) (agree p before past c.m c.in_place) in
          let whole = ap asked_r c.splits in
          let s1 = asked_r-append c.earlier (c.passed ++ c.m ∷ []) in
          let s2 = asked_r-append c.passed (c.m ∷ []) in
          omega (arith, a.rows_r)
      | inr none ↦
          let old = lines_r_within p before past ms none.1 in
          let no = or_parts (is_count_of p line.cause) (is_drain_of p line.cause) none.0 in
          rw no.0 (omega arith)
    ]

-- the lines count no more rows of S than were asked for
pub lines_s_within : (p : ℕ) (line : TurnLine) (past : List TurnLine) (ms : List ToController)
    → AreCounted p (line ∷ past) ms → lines_s p (line ∷ past) ≤ asked_s ms
lines_s_within p line [] ms are = omega arith
lines_s_within p line (before ∷ past) ms are =
    elim
    (match_cases (is_count_of p line.cause || is_drain_of p line.cause)
    (CountsOne p before past line.cause (λ earlier. AreCounted p (before ∷ past) earlier) ms)
    (AreCounted p (before ∷ past) ms) are) [
      | inl one ↦
          let c = one.1 in
          let old = lines_s_within p before past c.earlier c.are_earlier in
          let a : Agree p line.cause c.m =
          subst (λ cause. Agree p cause c.m) (sym c.is) (agree p before past c.m c.in_place) in
          let whole = ap asked_s c.splits in
          let s1 = asked_s-append c.earlier (c.passed ++ c.m ∷ []) in
          let s2 = asked_s-append c.passed (c.m ∷ []) in
          omega (arith, a.rows_s)
      | inr none ↦
          let old = lines_s_within p before past ms none.1 in
          let no = or_parts (is_count_of p line.cause) (is_drain_of p line.cause) none.0 in
          rw no.0 (omega arith)
    ]

-- ---- none is passed over

-- without a line that says so, it has not drained
pub undrained : (rules : Rules) (first line : TurnLine) (past : List TurnLine) (p : ℕ)
    → Follows rules first (line ∷ past) → is_drain_of p first.cause ≡ false → drain_lines p (line ∷ past) ≡ 0
    → has_drained p (line ∷ past) ≡ false
undrained rules first line [] p is start none = rw is (rw start refl)
undrained rules first line (before ∷ past) p (made, allowed, rest) start none =
    elim (cases_Bool (is_drain_of p line.cause)) [
      | inl does ↦ let more : drain_lines p (before ∷ past) + 1 ≡ 0 = rw does at none in absurd (omega arith)
      | inr not_so ↦ rw not_so (undrained rules first before past p rest start (omega arith))
    ]

-- each of the messages has its line
pub record HaveLines (p : ℕ) (past : List TurnLine) (ms : List ToController) : Type 0 where
  pub causes : causes_in p past ≡ map (cause_of p) ms
  pub counts : count_lines p past ≡ asks ms
  pub drains : drain_lines p past ≡ draineds ms
  pub rows_r : lines_r p past ≡ asked_r ms
  pub rows_s : lines_s p past ≡ asked_s ms

module _ (rules : Rules) (first : TurnLine) (p : ℕ) (start : is_drain_of p first.cause ≡ false) (most_r most_s : ℕ)
  where
    -- the next message is in place
    next_in_place : (line : TurnLine) (past : List TurnLine) (earlier rest : List ToController) (m : ToController)
        → Follows rules first (line ∷ past)
        → HaveLines p (line ∷ past) earlier → DrainsLast (earlier ++ m ∷ rest)
        → asked_r (earlier ++ m ∷ rest) ≤ most_r → asked_s (earlier ++ m ∷ rest) ≤ most_s
        → line.rows_r + most_r ≤ lines_r p (line ∷ past) + 2 ^ 32
        → line.rows_s + most_s ≤ lines_s p (line ∷ past) + 2 ^ 32
        → IsInPlace line past p m
    next_in_place line past earlier rest (Ask dr ds) follows have last = λ in_r in_s few_r few_s.
        let none = none_drained earlier rest (Ask dr ds) last in
        let un = undrained rules first line past p follows start (have.drains ∙ none) in
        let r = asked_r-append earlier (Ask dr ds ∷ rest) in
        let s = asked_s-append earlier (Ask dr ds ∷ rest) in
        (ap not un, omega (arith, have.rows_r), omega (arith, have.rows_s))
    next_in_place line past earlier rest Drained follows have last = λ in_r in_s few_r few_s.
        let none = none_drained earlier rest Drained last in
        ap not (undrained rules first line past p follows start (have.drains ∙ none))
    next_in_place line past earlier rest (Settled epoch) follows have last = λ in_r in_s few_r few_s.
        not_settled earlier rest epoch last

    -- so none is passed over
    none_passed : (line : TurnLine) (past : List TurnLine) (earlier passed rest : List ToController)
        → Follows rules first (line ∷ past)
        → HaveLines p (line ∷ past) earlier → DrainsLast (earlier ++ (passed ++ rest))
        → asked_r (earlier ++ (passed ++ rest)) ≤ most_r → asked_s (earlier ++ (passed ++ rest)) ≤ most_s
        → line.rows_r + most_r ≤ lines_r p (line ∷ past) + 2 ^ 32
        → line.rows_s + most_s ≤ lines_s p (line ∷ past) + 2 ^ 32
        → AllByRecursion (λ m. ¬ IsInPlace line past p m) passed → passed ≡ []
    none_passed line past earlier [] rest follows have last = λ in_r in_s few_r few_s passes. refl
    none_passed line past earlier (m ∷ passed) rest follows have last = λ in_r in_s few_r few_s passes.
        absurd (passes.0 (next_in_place line past earlier (passed ++ rest) m follows have last in_r in_s few_r few_s))

    one_more : (line before : TurnLine) (past : List TurnLine) (earlier : List ToController) (m : ToController)
        → HaveLines p (before ∷ past) earlier
        → IsInPlace before past p m → line.cause ≡ cause_of p m
        → (is_count_of p line.cause || is_drain_of p line.cause) ≡ true
        → HaveLines p (line ∷ before ∷ past) (earlier ++ m ∷ [])
    one_more line before past earlier m have in_place is does =
        let a : Agree p line.cause m = subst (λ cause. Agree p cause m) (sym is) (agree p before past m in_place) in
        let e1 = asks-append earlier (m ∷ []) in
        let e2 = draineds-append earlier (m ∷ []) in
        let e3 = asked_r-append earlier (m ∷ []) in
        let e4 = asked_s-append earlier (m ∷ []) in
        record {
          causes =
              rw does
              (ap (λ cs. cs ++ line.cause ∷ []) have.causes ∙ ap (λ c. map (cause_of p) earlier ++ c ∷ []) is
              ∙ sym (map-append (cause_of p) earlier (m ∷ [])));
          counts = omega (arith, have.counts, a.counts);
          drains = omega (arith, have.drains, a.drains);
          rows_r = omega (arith, have.rows_r, a.rows_r);
          rows_s = omega (arith, have.rows_s, a.rows_s);
        }

    -- where counts stay small, each message of the feeder has its line
    pub all_have_lines : (line : TurnLine) (past : List TurnLine) (ms rest : List ToController)
        → Follows rules first (line ∷ past) → DrainsLast (ms ++ rest)
        → asked_r (ms ++ rest) ≤ most_r → asked_s (ms ++ rest) ≤ most_s
        → line.rows_r + most_r ≤ lines_r p (line ∷ past) + 2 ^ 32
        → line.rows_s + most_s ≤ lines_s p (line ∷ past) + 2 ^ 32
        → AreCounted p (line ∷ past) ms → HaveLines p (line ∷ past) ms
    all_have_lines line [] ms rest follows last = λ in_r in_s few_r few_s are.
        rw are (record { causes = refl; counts = refl; drains = refl; rows_r = refl; rows_s = refl })
    all_have_lines line (before ∷ past) ms rest (made, allowed, follows) last = λ in_r in_s few_r few_s are.
        let e_r : line.rows_r ≡ before.rows_r + counted_r line.cause = ap (λ l. l.rows_r) made in
        let e_s : line.rows_s ≡ before.rows_s + counted_s line.cause = ap (λ l. l.rows_s) made in
        let small_r = cond_small (is_count_of p line.cause) (counted_r line.cause) in
        let small_s = cond_small (is_count_of p line.cause) (counted_s line.cause) in
        let few_r' : before.rows_r + most_r ≤ lines_r p (before ∷ past) + 2 ^ 32 = omega arith in
        let few_s' : before.rows_s + most_s ≤ lines_s p (before ∷ past) + 2 ^ 32 = omega arith in
        elim
        (match_cases (is_count_of p line.cause || is_drain_of p line.cause)
        (CountsOne p before past line.cause (λ earlier. AreCounted p (before ∷ past) earlier) ms)
        (AreCounted p (before ∷ past) ms) are) [
          | inl one ↦
              let c = one.1 in
              let whole : ms ++ rest ≡ c.earlier ++ (c.passed ++ (c.m ∷ rest)) =
              ap (λ xs. xs ++ rest) c.splits ∙ append_assoc c.earlier (c.passed ++ c.m ∷ []) rest
              ∙ ap (λ xs. c.earlier ++ xs) (append_assoc c.passed (c.m ∷ []) rest) in
              let last' = rw whole at last in
              let in_r' = rw whole at in_r in
              let in_s' = rw whole at in_s in
              let have =
              all_have_lines before past c.earlier (c.passed ++ (c.m ∷ rest))
              follows last' in_r' in_s' few_r' few_s' c.are_earlier in
              let none =
              none_passed before past c.earlier c.passed (c.m ∷ rest)
              follows have last' in_r' in_s' few_r' few_s' c.passes in
              let is : ms ≡ c.earlier ++ c.m ∷ [] = c.splits ∙ ap (λ xs. c.earlier ++ (xs ++ c.m ∷ [])) none in
              subst (λ xs. HaveLines p (line ∷ before ∷ past) xs) (sym is)
              (one_more line before past c.earlier c.m have c.in_place c.is one.0)
          | inr none ↦
              let have = all_have_lines before past ms rest follows last in_r in_s few_r' few_s' none.1 in
              let no = or_parts (is_count_of p line.cause) (is_drain_of p line.cause) none.0 in
              record {
                causes = rw none.0 (append-nil (causes_in p (before ∷ past)) ∙ have.causes);
                counts = rw no.0 (omega (arith, have.counts));
                drains = rw no.1 (omega (arith, have.drains));
                rows_r = rw no.0 (omega (arith, have.rows_r));
                rows_s = rw no.0 (omega (arith, have.rows_s));
              }
        ]

    -- and so have all messages that came
    pub counts_all : (line : TurnLine) (past : List TurnLine) (ms : List ToController)
        → Follows rules first (line ∷ past)
        → DrainsLast ms
        → asked_r ms ≤ most_r → asked_s ms ≤ most_s
        → line.rows_r + most_r ≤ lines_r p (line ∷ past) + 2 ^ 32
        → line.rows_s + most_s ≤ lines_s p (line ∷ past) + 2 ^ 32
        → CountsMessages p line past ms → HaveLines p (line ∷ past) ms
    counts_all line past ms follows last in_r in_s few_r few_s counts =
        let last' : DrainsLast (counts.counted ++ counts.passed) =
        subst (λ xs. DrainsLast xs) (sym counts.splits) last in
        let in_r' : asked_r (counts.counted ++ counts.passed) ≤ most_r =
        subst (λ xs. asked_r xs ≤ most_r) (sym counts.splits) in_r in
        let in_s' : asked_s (counts.counted ++ counts.passed) ≤ most_s =
        subst (λ xs. asked_s xs ≤ most_s) (sym counts.splits) in_s in
        let have =
        all_have_lines line past counts.counted counts.passed follows last' in_r' in_s' few_r few_s
        counts.are_counted in
        let end = append-nil counts.passed in
        let none =
        none_passed line past counts.counted counts.passed [] follows have (rw end last') (rw end in_r')
        (rw end in_s') few_r few_s counts.not_in_place in
        let is : counts.counted ≡ ms =
        sym (append-nil counts.counted) ∙ ap (λ xs. counts.counted ++ xs) (sym none) ∙ counts.splits in
        subst (λ xs. HaveLines p (line ∷ past) xs) is have

-- ---- the journal read forwards

causes_of-append : (p : ℕ) (xs ys : List TurnLine) → causes_of p (xs ++ ys) ≡ causes_of p xs ++ causes_of p ys
causes_of-append p xs ys =
    ap (λ cs. filter (λ c. is_count_of p c || is_drain_of p c) cs) (map-append (λ l. l.cause) xs ys)
    ∙ filter-append (λ c. is_count_of p c || is_drain_of p c) (map (λ l. l.cause) xs) (map (λ l. l.cause) ys)

-- the causes of a feeder, read forwards, are those of the past
pub forwards : (rules : Rules) (first line : TurnLine) (past : List TurnLine) (p : ℕ)
    → Follows rules first (line ∷ past) → (is_count_of p first.cause || is_drain_of p first.cause) ≡ false
    → causes_of p (reverse (line ∷ past)) ≡ causes_in p (line ∷ past)
forwards rules first line [] p is start =
    let none : (is_count_of p line.cause || is_drain_of p line.cause) ≡ false =
    ap (λ l. is_count_of p l.cause || is_drain_of p l.cause) is ∙ start in
    ap (λ b. cond b (line.cause ∷ []) []) none
forwards rules first line (before ∷ past) p (made, allowed, rest) start =
    let old = forwards rules first before past p rest start in
    let turn : reverse (line ∷ before ∷ past) ≡ reverse (before ∷ past) ++ line ∷ [] =
    reverse-append (line ∷ []) (before ∷ past) in
    ap (causes_of p) turn ∙ causes_of-append p (reverse (before ∷ past)) (line ∷ [])
    ∙ ap (λ cs. cs ++ causes_of p (line ∷ [])) old

-- ---- rows by causes

rows_of_r : (p : ℕ) (cause : Cause)
    → sum_by counted_r (cond (is_count_of p cause || is_drain_of p cause) (cause ∷ []) [])
    ≡ cond (is_count_of p cause) (counted_r cause) 0
rows_of_r p Start = refl
rows_of_r p Wave = refl
rows_of_r p (Count feeder dr ds) = by_test (feeder == p)
  where
    by_test : (t : Bool) → sum_by counted_r (cond (t || false) (Count feeder dr ds ∷ []) []) ≡ cond t dr 0
    by_test true = omega arith
    by_test false = refl
rows_of_r p (Settle joiner) = refl
rows_of_r p (Drain feeder) = by_test (feeder == p)
  where
    by_test : (t : Bool) → sum_by counted_r (cond t (Drain feeder ∷ []) []) ≡ 0
    by_test true = refl
    by_test false = refl

rows_of_s : (p : ℕ) (cause : Cause)
    → sum_by counted_s (cond (is_count_of p cause || is_drain_of p cause) (cause ∷ []) [])
    ≡ cond (is_count_of p cause) (counted_s cause) 0
rows_of_s p Start = refl
rows_of_s p Wave = refl
rows_of_s p (Count feeder dr ds) = by_test (feeder == p)
  where
    by_test : (t : Bool) → sum_by counted_s (cond (t || false) (Count feeder dr ds ∷ []) []) ≡ cond t ds 0
    by_test true = omega arith
    by_test false = refl
rows_of_s p (Settle joiner) = refl
rows_of_s p (Drain feeder) = by_test (feeder == p)
  where
    by_test : (t : Bool) → sum_by counted_s (cond t (Drain feeder ∷ []) []) ≡ 0
    by_test true = refl
    by_test false = refl

-- feeder p's lines count the rows of R of its causes
pub lines_r_are : (p : ℕ) (past : List TurnLine) → lines_r p past ≡ sum_by counted_r (causes_in p past)
lines_r_are p [] = refl
lines_r_are p (line ∷ []) = refl
lines_r_are p (line ∷ before ∷ past) =
    let old = lines_r_are p (before ∷ past) in
    let e =
    sum_by-append counted_r (causes_in p (before ∷ past))
    (cond (is_count_of p line.cause || is_drain_of p line.cause) (line.cause ∷ []) []) in
    let one = rows_of_r p line.cause in
    omega arith

-- and those of S
pub lines_s_are : (p : ℕ) (past : List TurnLine) → lines_s p past ≡ sum_by counted_s (causes_in p past)
lines_s_are p [] = refl
lines_s_are p (line ∷ []) = refl
lines_s_are p (line ∷ before ∷ past) =
    let old = lines_s_are p (before ∷ past) in
    let e =
    sum_by-append counted_s (causes_in p (before ∷ past))
    (cond (is_count_of p line.cause || is_drain_of p line.cause) (line.cause ∷ []) []) in
    let one = rows_of_s p line.cause in
    omega arith

-- all causes of a feeder count the rows of R of its batches
pub all_r_are : (p : ℕ) (sizes : List (ℕ × ℕ)) → sum_by counted_r (all_causes p sizes) ≡ sum_by (λ size. size.0) sizes
all_r_are p [] = refl
all_r_are p (size ∷ sizes) =
    let rest = all_r_are p sizes in
    let a = sum_by-cons counted_r (Count p size.0 size.1) (all_causes p sizes) in
    let b = sum_by-cons (λ size. size.0) size sizes in
    omega arith

-- and those of S
pub all_s_are : (p : ℕ) (sizes : List (ℕ × ℕ)) → sum_by counted_s (all_causes p sizes) ≡ sum_by (λ size. size.1) sizes
all_s_are p [] = refl
all_s_are p (size ∷ sizes) =
    let rest = all_s_are p sizes in
    let a = sum_by-cons counted_s (Count p size.0 size.1) (all_causes p sizes) in
    let b = sum_by-cons (λ size. size.1) size sizes in
    omega arith
