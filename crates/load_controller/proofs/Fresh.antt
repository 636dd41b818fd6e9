-- A machine that has just begun.
use Rattle.std.proofs.Common.{◌≡◌, ℕ, ◌^◌, ◌≤◌, inl, inr, refl, sym, ◌∙◌, ap, subst, arith, false, not, ◌&&◌, Option}
use Rattle.std.proofs.Common.{[], ◌∷◌, length}
use Rattle.std.specs.Prelude.{reverse, replicate, ◌<◌, ◌==◌, All, unwrap_or, ◌/◌}
use Rattle.std.proofs.lemmas.List.{ext_get_or, get_or-replicate, length-replicate}
use Rattle.std.specs.Option.{ForSome}
use Rattle.std.specs.List.{list_all}
use Rattle.std.proofs.lemmas.Bool.{cases_eq, ne_eqb, or_from, and_right}
use Rattle.std.proofs.lemmas.Nat.{pow_pos}
use Rattle.std.proofs.lemmas.List.Elements.{All-nil, All-cons}
use Rattle.row_cells.specs.Lists.{counting_from}
use Rattle.row_cells.proofs.RisingNumbers.{one_fails}
use Rattle.epoch_tags.specs.Held.{held_at}
use Rattle.epoch_tags.specs.Flags.{flag_at}
use Rattle.load_controller.specs.declared.line.Cause.{Cause}
use Rattle.load_controller.specs.declared.line.Cause.TheVariants.{Start, Wave, Count, Settle, Drain}
use Rattle.load_controller.specs.declared.line.TurnLine.{TurnLine}
use Rattle.load_controller.specs.declared.ledger.Ledger.{Ledger}
use Rattle.load_controller.specs.Journal.{IsFirst, Rules, Fits, start_line, has_drained, is_drain_of}
use Rattle.load_controller.specs.Law.{is_over}
use Rattle.grid_map.specs.declared.cost.Weights.{Weights}
use Rattle.grid_map.specs.Load.{AreWeights}
use Rattle.load_controller.specs.Standing.{ControllerState, IsFresh, StandsFor, IsNearWhereStill, nothing_yet}
use Rattle.load_controller.specs.Standing.{just_begun, rules_with}
use Rattle.load_controller.specs.Machine.{Begins, rules_of, state_of}
use Rattle.load_controller.proofs.Bound.{fixed_within}
use Rattle.load_controller.proofs.Numbers.{first_bounded, first_guided, near_line}

no_drain : (p : ℕ) (cause : Cause) → IsFirst cause → is_drain_of p cause ≡ false
no_drain p Start first = refl
no_drain p Wave first = refl
no_drain p (Count feeder dr ds) first = absurd first
no_drain p (Settle joiner) first = absurd first
no_drain p (Drain feeder) first = absurd first

-- no feeder has drained at a first line
none_drained : (p : ℕ) (line : TurnLine) → IsFirst line.cause → has_drained p (line ∷ []) ≡ false
none_drained p line start = or_from (is_drain_of p line.cause) false (no_drain p line.cause start) refl

over_at_first : (feeders : ℕ) (line : TurnLine) → IsFirst line.cause → line.moving ≡ false
    → (feeders == 0) ≡ is_over feeders (line ∷ [])
over_at_first feeders line start still = elim (cases_eq feeders 0) [
  | inl none ↦ rw (none, still) refl
  | inr some ↦
      ne_eqb feeders 0 some
      ∙ sym (or_from (not line.moving && list_all (λ p. has_drained p (line ∷ [])) (counting_from 0 feeders)) false
      (and_right (not line.moving) (list_all (λ p. has_drained p (line ∷ [])) (counting_from 0 feeders))
      (one_fails (λ p. has_drained p (line ∷ [])) 0 0 feeders (omega arith) (omega arith) (none_drained 0 line start)))
      refl)
]

-- how the code makes it
pub begins : (k feeders : ℕ) (fixed : Option ℕ) (weights : Weights) (line : TurnLine) (c : Ledger) → k ≤ 8
    → AreWeights weights → Fits (rules_with k feeders fixed weights) line → IsFirst line.cause → line.epoch ≤ 2 ^ 31
    → c.k ≡ k → c.feeders ≡ feeders → c.fixed ≡ fixed → c.weights ≡ weights → c.line ≡ line → c.journal ≡ line ∷ []
    → c.settled_count ≡ 0 → c.over ≡ (feeders == 0)
    → length c.drained.items ≡ feeders → ((i : ℕ) → flag_at c.drained.items i ≡ false) → length c.settled.items ≡ 2 ^ k
    → ((i : ℕ) → flag_at c.settled.items i ≡ false)
    → length c.held ≡ 2 ^ k → ((j : ℕ) → held_at c.held j ≡ []) → Begins (rules_with k feeders fixed weights) line c
begins k feeders fixed weights line c small weigh fits start early at_k at_feeders at_fixed at_weights at_line
    at_journal none over many_drained drained many_settled settled many_held held =
    let rules = rules_with k feeders fixed weights in
    let rules_are : rules_of c ≡ rules =
    λ i. record { k = at_k i; feeders = at_feeders i; fixed = at_fixed i; weights = at_weights i } in
    let bounded = first_bounded rules line fits early in
    let near : IsNearWhereStill rules line =
    λ free still. near_line k weights line bounded (first_guided rules line fits free) still in
    let all_near : All (IsNearWhereStill rules) (line ∷ []) =
    All-cons (IsNearWhereStill rules) line [] near (All-nil (IsNearWhereStill rules)) in
    record {
      sound = record {
        past = [];
        newest = ap reverse at_journal ∙ ap (λ l. l ∷ []) (sym at_line);
        k = rw at_k small;
        weights = rw at_weights weigh;
        bounded = rw (at_k, at_line) bounded;
        guided = λ free. rw (at_k, at_weights, at_line) (first_guided rules line fits (sym at_fixed ∙ free));
        near =
            subst (λ r. All (IsNearWhereStill r) c.journal) (sym rules_are)
            (subst (λ ls. All (IsNearWhereStill rules) ls) (sym at_journal) all_near);
        drained_len = many_drained ∙ sym at_feeders;
        drained = λ p low. drained p ∙ sym (none_drained p c.line (subst (λ l. IsFirst l.cause) (sym at_line) start));
        settled_len = many_settled ∙ ap (λ n. 2 ^ n) (sym at_k);
        settled = λ j low. settled j;
        count = none;
        few = λ moves. rw none (pow_pos c.k);
        at_most = rw none (omega arith);
        over =
            over ∙ over_at_first feeders line start fits.still ∙ ap (λ n. is_over n (line ∷ [])) (sym at_feeders)
            ∙ ap (λ l. is_over c.feeders (l ∷ [])) (sym at_line);
        queues = many_held ∙ ap (λ n. 2 ^ n) (sym at_k);
      };
      rules_are = rules_are;
      journal = at_journal;
      held = held;
    }

-- it stands for empty lists
stands_first : (rules : Rules) (first : TurnLine) (state : ControllerState) → state.rules ≡ rules
    → state.journal ≡ first ∷ [] → ((j : ℕ) → held_at state.held j ≡ [])
    → StandsFor (record { rules = rules; first = first }) (nothing_yet first) state
stands_first rules first state began journal held = record {
  began = began;
  law = record {
    line = first;
    past = [];
    journal = refl;
    follows = refl;
    counts = λ p low. record { counted = []; passed = []; splits = refl; are_counted = refl; not_in_place = tt };
    settles =
        λ j low. record {
          counted = [];
          held = [];
          splits = refl;
          are_settled = refl;
          stuck = λ epoch rest is. absurd (cc);
        };
    sends = λ p low. refl;
  };
  journal = journal;
  held = λ j low. held j;
}

-- a ledger that has just begun holds no message of any joiner
held_first : (rules : Rules) (first : TurnLine) (c : Ledger) → Begins rules first c
    → c.held ≡ replicate (2 ^ rules.k) []
held_first rules first c b =
    let all : length c.held ≡ 2 ^ rules.k = b.sound.queues ∙ ap (λ (r : Rules). 2 ^ r.k) b.rules_are in
    ext_get_or [] c.held (replicate (2 ^ rules.k) []) (all ∙ sym (length-replicate (2 ^ rules.k) []))
    (λ j low. b.held j ∙ sym (get_or-replicate (2 ^ rules.k) j [] [] (subst (λ n. j < n) all low)))

-- so all that it holds is determined
whole_first : (rules : Rules) (first : TurnLine) (c : Ledger) → Begins rules first c
    → state_of c false ≡ just_begun rules first
whole_first rules first c b =
    let held = held_first rules first c b in
    λ i. record { rules = b.rules_are i; journal = b.journal i; held = held i; spent = false }

-- a ledger that has just begun stands for empty lists
pub fresh : (rules : Rules) (first : TurnLine) (c : Ledger) → Begins rules first c
    → IsFresh rules first (state_of c false)
fresh rules first c b = record {
  rules_are = b.rules_are;
  journal = b.journal;
  stands = stands_first rules first (state_of c false) b.rules_are b.journal b.held;
  at_work = refl;
  whole = whole_first rules first c b;
}

-- the first line of a run fits
pub start_fits : (k feeders : ℕ) (fixed : Option ℕ) (weights : Weights) (line : TurnLine)
    → ForSome fixed (λ shift. shift ≤ k) → line ≡ start_line (rules_with k feeders fixed weights)
    → Fits (rules_with k feeders fixed weights) line
start_fits k feeders fixed weights line low is =
    let within = fixed_within fixed k low in
    rw is (record {
      still = refl;
      reached = refl;
      within = within;
      few_r = omega arith;
      few_s = omega arith;
      base_r = omega arith;
      base_s = omega arith;
      free = λ none. (refl, record { within = within; fewest = λ c below. omega arith });
      fixed = λ shift is'. ap (λ (o : Option ℕ). unwrap_or o (k / 2)) is';
    })

-- the line that `start` makes is the start line of the machine's rules
pub start_line_is : (k feeders : ℕ) (fixed : Option ℕ) (weights : Weights) (shift : ℕ) → shift ≡ unwrap_or fixed (k / 2)
    → (let line : TurnLine =
    record {
      cause = Start;
      rows_r = 0;
      rows_s = 0;
      base_r = 0;
      base_s = 0;
      epoch = 0;
      shift = shift;
      goal = shift;
      moving = false;
    } in line ≡ start_line (rules_with k feeders fixed weights))
start_line_is k feeders fixed weights shift is =
    ap
    (λ (s : ℕ).
    let line : TurnLine =
    record {
      cause = Start;
      rows_r = 0;
      rows_s = 0;
      base_r = 0;
      base_s = 0;
      epoch = 0;
      shift = s;
      goal = s;
      moving = false;
    } in line) is
