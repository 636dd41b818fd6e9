-- The lists grow by a message or a line, and keep the law.
use Rattle.std.proofs.Common.{◌≡◌, ℕ, ◌+◌, ◌^◌, ◌<◌, ◌≤◌, inl, inr, refl, sym, ◌∙◌, ap, subst, arith, Bool, true, false}
use Rattle.std.proofs.Common.{not, ◌||◌, List, [], ◌∷◌, ◌++◌, append_assoc, reverse}
use Rattle.std.specs.Prelude.{◌==◌, MatchBool}
use Rattle.std.specs.List.{AllByRecursion}
use Rattle.std.proofs.lemmas.Bool.{cases_eq, eq-eqb, ne_eqb, or_right, or_left, or_parts, not-true}
use Rattle.std.proofs.lemmas.List.{append-nil, reverse-append}
use Rattle.epoch_tags.specs.declared.actor.Actor.{Actor}
use Rattle.epoch_tags.specs.declared.actor.Actor.TheVariants.{Feeder, Joiner, Controller, Collector}
use Rattle.epoch_tags.specs.declared.message.ToController.{ToController}
use Rattle.epoch_tags.specs.declared.message.ToController.TheVariants.{Ask, Drained, Settled}
use Rattle.epoch_tags.specs.Messages.{settled_epochs}
use Rattle.epoch_tags.specs.Posts.{posted_to_feeder}
use Rattle.epoch_tags.proofs.Appends.{settled_epochs-append}
use Rattle.epoch_tags.specs.Held.{held_at}
use Rattle.load_controller.specs.declared.line.Cause.{Cause}
use Rattle.load_controller.specs.declared.line.Cause.TheVariants.{Settle}
use Rattle.load_controller.specs.declared.line.TurnLine.{TurnLine}
use Rattle.load_controller.specs.Journal.{Rules, IsAllowed, line_after, counted_r, counted_s, is_count_of, is_drain_of}
use Rattle.load_controller.specs.Journal.{is_settle_of, has_drained}
use Rattle.load_controller.specs.Law.{ControllerLists, CountsMessages, CountsOne, SettlesOne, AreCounted, AreSettled}
use Rattle.load_controller.specs.Law.{IsInPlace, SettlesInPlace, cause_of, sent_by}
use Rattle.load_controller.specs.Standing.{ControllerStart, ControllerState, StandsFor, grown, with_message, with_sent}
use Rattle.load_controller.specs.Standing.{IsPassedOver, posts_for}
use Rattle.load_controller.specs.Machine.{HoldsSettled, StandsWithin}
use Rattle.load_controller.proofs.LinePosts.{posted_for}
use Rattle.row_cells.proofs.Everywhere.{weaken}

-- ---- small things

at_true : (b : Bool) (P Q : Type 0) → b ≡ true → P → MatchBool b P Q
at_true b P Q is p = rw is p

at_false : (b : Bool) (P Q : Type 0) → b ≡ false → Q → MatchBool b P Q
at_false b P Q is q = rw is q

all_push : {M : Type 0} (P : M → Type 0) (ms : List M) (m : M) → AllByRecursion P ms → P m
    → AllByRecursion P (ms ++ m ∷ [])
all_push P [] m all here = (here, tt)
all_push P (x ∷ ms) m (first, all) here = (first, all_push P ms m all here)

-- the list at the message's index has the message at its end
pub grown_same : {M : Type 0} (at : ℕ) (m : M) (lists : ℕ → List M) (i : ℕ) → at ≡ i
    → grown at m lists i ≡ lists i ++ m ∷ []
grown_same at m lists i same = rw (eq-eqb at i same) refl

-- each other list stays as it is
pub grown_other : {M : Type 0} (at : ℕ) (m : M) (lists : ℕ → List M) (i : ℕ) → (at ≡ i → ⊥)
    → grown at m lists i ≡ lists i
grown_other at m lists i differ = rw (ne_eqb at i differ) refl

-- ---- a feeder's messages

-- what is in place after a line was so before it
in_place_before : (rules : Rules) (line : TurnLine) (past : List TurnLine) (cause : Cause) (q : ℕ) (m : ToController)
    → IsInPlace (line_after rules line past cause) (line ∷ past) q m → IsInPlace line past q m
in_place_before rules line past cause q (Ask dr ds) (fresh, few_r, few_s) =
    let parts = or_parts (is_drain_of q cause) (has_drained q (line ∷ past))
    (not-true (is_drain_of q cause || has_drained q (line ∷ past)) fresh) in
    let r : line.rows_r + counted_r cause + dr ≤ 2 ^ 32 = few_r in
    let s : line.rows_s + counted_s cause + ds ≤ 2 ^ 32 = few_s in
    (ap not parts.1, omega arith, omega arith)
in_place_before rules line past cause q Drained fresh =
    ap not (or_parts (is_drain_of q cause) (has_drained q (line ∷ past))
    (not-true (is_drain_of q cause || has_drained q (line ∷ past)) fresh)).1
in_place_before rules line past cause q (Settled epoch) in_place = in_place

-- a line of another
counts_other : (rules : Rules) (line : TurnLine) (past : List TurnLine) (cause : Cause) (q : ℕ) (ms : List ToController)
    → (is_count_of q cause || is_drain_of q cause) ≡ false
    → CountsMessages q line past ms → CountsMessages q (line_after rules line past cause) (line ∷ past) ms
counts_other rules line past cause q ms other c = record {
  counted = c.counted;
  passed = c.passed;
  splits = c.splits;
  are_counted = at_false (is_count_of q cause || is_drain_of q cause)
      (CountsOne q line past cause (λ earlier. AreCounted q (line ∷ past) earlier) c.counted)
      (AreCounted q (line ∷ past) c.counted) other c.are_counted;
  not_in_place = weaken (λ m. ¬ IsInPlace line past q m) (λ m. ¬ IsInPlace (line_after rules line past cause)
      (line ∷ past) q m) (λ m never in_place. never (in_place_before rules line past cause q m in_place))
      c.passed c.not_in_place;
}

-- a line of its own
counts_own : (rules : Rules) (line : TurnLine) (past : List TurnLine) (q : ℕ) (m : ToController)
    (ms : List ToController)
    → (is_count_of q (cause_of q m) || is_drain_of q (cause_of q m)) ≡ true → IsInPlace line past q m
    → CountsMessages q line past ms → CountsMessages q (line_after rules line past (cause_of q m)) (line ∷ past)
    (ms ++ m ∷ [])
counts_own rules line past q m ms own in_place c =
    let cause = cause_of q m in
    let all = ms ++ m ∷ [] in
    record {
      counted = all;
      passed = [];
      splits = append-nil all;
      are_counted = at_true (is_count_of q cause || is_drain_of q cause)
          (CountsOne q line past cause (λ earlier. AreCounted q (line ∷ past) earlier) all)
          (AreCounted q (line ∷ past) all) own (record {
            earlier = c.counted;
            passed = c.passed;
            m = m;
            splits = ap (λ xs. xs ++ m ∷ []) (sym c.splits) ∙ append_assoc c.counted c.passed (m ∷ []);
            passes = c.not_in_place;
            in_place = in_place;
            is = refl;
            are_earlier = c.are_counted;
          });
      not_in_place = tt;
    }

-- one more passed over
counts_passed : (line : TurnLine) (past : List TurnLine) (q : ℕ) (m : ToController) (ms : List ToController)
    → ¬ IsInPlace line past q m → CountsMessages q line past ms → CountsMessages q line past (ms ++ m ∷ [])
counts_passed line past q m ms never c = record {
  counted = c.counted;
  passed = c.passed ++ m ∷ [];
  splits = sym (append_assoc c.counted c.passed (m ∷ [])) ∙ ap (λ xs. xs ++ m ∷ []) c.splits;
  are_counted = c.are_counted;
  not_in_place = all_push (λ m'. ¬ IsInPlace line past q m') c.passed m c.not_in_place never;
}

-- ---- a joiner's

holds_other : (rules : Rules) (line : TurnLine) (past : List TurnLine) (cause : Cause) (j : ℕ) (held epochs : List ℕ)
    → is_settle_of j cause ≡ false
    → HoldsSettled j line past held epochs → HoldsSettled j (line_after rules line past cause) (line ∷ past) held epochs
holds_other rules line past cause j held epochs other h = record {
  counted = h.counted;
  splits = h.splits;
  are_settled = at_false (is_settle_of j cause) (SettlesOne j line past (λ earlier. AreSettled j (line ∷ past) earlier)
      h.counted) (AreSettled j (line ∷ past) h.counted) other h.are_settled;
}

holds_own : (rules : Rules) (line : TurnLine) (past : List TurnLine) (j epoch : ℕ) (held epochs : List ℕ)
    → SettlesInPlace line past j epoch
    → HoldsSettled j line past (epoch ∷ held) epochs → HoldsSettled j (line_after rules line past (Settle j))
    (line ∷ past) held epochs
holds_own rules line past j epoch held epochs in_place h =
    let all = h.counted ++ epoch ∷ [] in
    record {
      counted = all;
      splits = append_assoc h.counted (epoch ∷ []) held ∙ h.splits;
      are_settled = at_true (j == j) (SettlesOne j line past (λ earlier. AreSettled j (line ∷ past) earlier) all)
          (AreSettled j (line ∷ past) all) (eq-eqb j j refl) (record {
            earlier = h.counted;
            epoch = epoch;
            splits = refl;
            in_place = in_place;
            are_earlier = h.are_settled;
          });
    }

holds_more : (line : TurnLine) (past : List TurnLine) (j epoch : ℕ) (held epochs : List ℕ)
    → HoldsSettled j line past held epochs → HoldsSettled j line past (held ++ epoch ∷ []) (epochs ++ epoch ∷ [])
holds_more line past j epoch held epochs h = record {
  counted = h.counted;
  splits = sym (append_assoc h.counted held (epoch ∷ [])) ∙ ap (λ xs. xs ++ epoch ∷ []) h.splits;
  are_settled = h.are_settled;
}

-- ---- a line more

module _ (rules : Rules) (first : TurnLine) (lists lists' : ControllerLists) (journal : List TurnLine)
    (held held' : ℕ → List ℕ) (w : StandsWithin rules first lists journal held) (cause : Cause) where
  -- whatever was received: where each link's part of the law holds after the line
  pub line_more : lists'.to_feeder ≡ lists.to_feeder → IsAllowed rules w.line w.past cause
      → ((p : ℕ) → p < rules.feeders → CountsMessages p (line_after rules w.line w.past cause) (w.line ∷ w.past)
      (lists'.from_feeder p))
      → ((j : ℕ) → j < 2 ^ rules.k → HoldsSettled j (line_after rules w.line w.past cause) (w.line ∷ w.past) (held' j)
      (settled_epochs (lists'.from_joiner j)))
      → StandsWithin rules first (with_sent lists' (posts_for rules (line_after rules w.line w.past cause) w.line
      w.past) (journal ++ line_after rules w.line w.past cause ∷ [])) (journal ++ line_after rules w.line w.past cause ∷
      []) held'
  line_more same allowed counts settles =
      let line = line_after rules w.line w.past cause in
      record {
        line = line;
        past = w.line ∷ w.past;
        newest = reverse-append journal (line ∷ []) ∙ ap (λ ls. line ∷ ls) w.newest;
        same = refl;
        follows = (refl, allowed, w.follows);
        counts = counts;
        settles = settles;
        sends = λ p low.
            ap (λ (f : ℕ → List _). f p ++ posted_to_feeder p (posts_for rules line w.line w.past)) same
            ∙ ap (λ ms. ms ++ posted_to_feeder p (posts_for rules line w.line w.past)) (w.sends p low)
            ∙ ap (λ ms. sent_by rules p (w.line ∷ w.past) ++ ms) (posted_for rules line w.line w.past p low);
      }

-- a feeder's message is counted
pub feeder_counted : (rules : Rules) (first : TurnLine) (lists : ControllerLists) (journal : List TurnLine) (held : ℕ
    → List ℕ) (w : StandsWithin rules first lists journal held) (p : ℕ) (m : ToController)
    → p < rules.feeders → IsInPlace w.line w.past p m
    → StandsWithin rules first (with_sent (with_message (Feeder p) m lists)
    (posts_for rules (line_after rules w.line w.past (cause_of p m)) w.line w.past)
    (journal ++ line_after rules w.line w.past (cause_of p m) ∷ []))
    (journal ++ line_after rules w.line w.past (cause_of p m) ∷ []) held
feeder_counted rules first lists journal held w p m low in_place =
    line_more rules first lists (with_message (Feeder p) m lists) journal held held w (cause_of p m) refl
    (allowed m in_place)
    (λ q below. elim (cases_eq p q) [
      | inl same ↦
          let own = subst (λ (i : ℕ). CountsMessages i (line_after rules w.line w.past (cause_of p m)) (w.line ∷ w.past)
          (lists.from_feeder i ++ m ∷ [])) same
          (counts_own rules w.line w.past p m (lists.from_feeder p) (is_own m in_place) in_place (w.counts p low)) in
          subst (λ ms. CountsMessages q (line_after rules w.line w.past (cause_of p m)) (w.line ∷ w.past) ms)
          (sym (grown_same p m lists.from_feeder q same)) own
      | inr differ ↦
          subst (λ ms. CountsMessages q (line_after rules w.line w.past (cause_of p m)) (w.line ∷ w.past) ms)
          (sym (grown_other p m lists.from_feeder q differ))
          (counts_other rules w.line w.past (cause_of p m) q (lists.from_feeder q) (not_own q differ m)
          (w.counts q below))
    ])
    (λ j below. holds_other rules w.line w.past (cause_of p m) j (held j) (settled_epochs (lists.from_joiner j))
    (no_settle j m) (w.settles j below))
  where
    allowed : (x : ToController) → IsInPlace w.line w.past p x → IsAllowed rules w.line w.past (cause_of p x)
    allowed (Ask dr ds) is = low
    allowed Drained is = low
    allowed (Settled epoch) is = absurd is

    is_own : (x : ToController) → IsInPlace w.line w.past p x
        → (is_count_of p (cause_of p x) || is_drain_of p (cause_of p x)) ≡ true
    is_own (Ask dr ds) is = or_left (p == p) false (eq-eqb p p refl)
    is_own Drained is = or_right false (p == p) (eq-eqb p p refl)
    is_own (Settled epoch) is = absurd is

    not_own : (q : ℕ) → (p ≡ q → ⊥) → (x : ToController)
        → (is_count_of q (cause_of p x) || is_drain_of q (cause_of p x)) ≡ false
    not_own q differ (Ask dr ds) = rw (ne_eqb p q differ) refl
    not_own q differ Drained = rw (ne_eqb p q differ) refl
    not_own q differ (Settled epoch) = refl

    no_settle : (j : ℕ) (x : ToController) → is_settle_of j (cause_of p x) ≡ false
    no_settle j (Ask dr ds) = refl
    no_settle j Drained = refl
    no_settle j (Settled epoch) = refl

module _ (rules : Rules) (first : TurnLine) (lists : ControllerLists) (journal : List TurnLine)
    (held held' : ℕ → List ℕ) (w : StandsWithin rules first lists journal held) (j epoch : ℕ) where
  -- a held message is counted
  pub held_counted : j < 2 ^ rules.k → SettlesInPlace w.line w.past j epoch → held j ≡ epoch ∷ held' j
      → ((i : ℕ) → (j ≡ i → ⊥) → held' i ≡ held i)
      → StandsWithin rules first (with_sent lists (posts_for rules (line_after rules w.line w.past (Settle j)) w.line
      w.past) (journal ++ line_after rules w.line w.past (Settle j) ∷ [])) (journal ++ line_after rules w.line w.past
      (Settle j) ∷ []) held'
  held_counted low in_place first_is rest =
      line_more rules first lists lists journal held held' w (Settle j) refl (low, in_place.0, in_place.2)
      (λ q below. counts_other rules w.line w.past (Settle j) q (lists.from_feeder q) refl (w.counts q below))
      (λ i below. elim (cases_eq j i) [
        | inl same ↦
            subst (λ (n : ℕ). HoldsSettled n (line_after rules w.line w.past (Settle j)) (w.line ∷ w.past) (held' n)
            (settled_epochs (lists.from_joiner n))) same
            (holds_own rules w.line w.past j epoch (held' j) (settled_epochs (lists.from_joiner j)) in_place
            (subst (λ xs. HoldsSettled j w.line w.past xs (settled_epochs (lists.from_joiner j))) first_is
            (w.settles j low)))
        | inr differ ↦
            subst (λ xs. HoldsSettled i (line_after rules w.line w.past (Settle j)) (w.line ∷ w.past) xs
            (settled_epochs (lists.from_joiner i))) (sym (rest i differ))
            (holds_other rules w.line w.past (Settle j) i (held i) (settled_epochs (lists.from_joiner i))
            (ne_eqb j i differ) (w.settles i below))
      ])

-- ---- no line more

module _ (rules : Rules) (first : TurnLine) (lists lists' : ControllerLists) (journal : List TurnLine)
    (held held' : ℕ → List ℕ) (w : StandsWithin rules first lists journal held) where
  -- with another list of a link, or another held
  pub same_line : lists'.journal ≡ lists.journal → lists'.to_feeder ≡ lists.to_feeder
      → ((p : ℕ) → p < rules.feeders → CountsMessages p w.line w.past (lists'.from_feeder p))
      → ((j : ℕ) → j < 2 ^ rules.k → HoldsSettled j w.line w.past (held' j) (settled_epochs (lists'.from_joiner j)))
      → StandsWithin rules first lists' journal held'
  same_line same_journal same counts settles = record {
    line = w.line;
    past = w.past;
    newest = w.newest;
    same = w.same ∙ sym same_journal;
    follows = w.follows;
    counts = counts;
    settles = settles;
    sends = λ p low. ap (λ (f : ℕ → List _). f p) same ∙ w.sends p low;
  }

-- a feeder's message is passed over
feeder_passed : (rules : Rules) (first : TurnLine) (lists : ControllerLists) (journal : List TurnLine) (held : ℕ
    → List ℕ) (w : StandsWithin rules first lists journal held) (p : ℕ) (m : ToController)
    → (p < rules.feeders → ¬ IsInPlace w.line w.past p m) → StandsWithin rules first (with_message (Feeder p) m lists)
    journal held
feeder_passed rules first lists journal held w p m never =
    same_line rules first lists (with_message (Feeder p) m lists) journal held held w refl refl
    (λ q below. elim (cases_eq p q) [
      | inl same ↦
          let low : p < rules.feeders = omega arith in
          let more = subst (λ (i : ℕ). CountsMessages i w.line w.past (lists.from_feeder i ++ m ∷ [])) same
          (counts_passed w.line w.past p m (lists.from_feeder p) (never low) (w.counts p low)) in
          subst (λ ms. CountsMessages q w.line w.past ms) (sym (grown_same p m lists.from_feeder q same)) more
      | inr differ ↦ subst (λ ms. CountsMessages q w.line w.past ms) (sym (grown_other p m lists.from_feeder q differ))
          (w.counts q below)
    ])
    (λ j below. w.settles j below)

-- a joiner's message that isn't of its kind, or of no joiner of the grid
joiner_passed : (rules : Rules) (first : TurnLine) (lists : ControllerLists) (journal : List TurnLine) (held : ℕ
    → List ℕ) (w : StandsWithin rules first lists journal held) (j : ℕ) (m : ToController)
    → (j < 2 ^ rules.k → settled_epochs (m ∷ []) ≡ []) → StandsWithin rules first (with_message (Joiner j) m lists)
    journal held
joiner_passed rules first lists journal held w j m none =
    same_line rules first lists (with_message (Joiner j) m lists) journal held held w refl refl
    (λ q below. w.counts q below)
    (λ i below. elim (cases_eq j i) [
      | inl same ↦
          let same_epochs : settled_epochs (grown j m lists.from_joiner i) ≡ settled_epochs (lists.from_joiner i) =
          ap settled_epochs (grown_same j m lists.from_joiner i same)
          ∙ settled_epochs-append (lists.from_joiner i) (m ∷ [])
          ∙ ap (λ es. settled_epochs (lists.from_joiner i) ++ es) (none (omega arith))
          ∙ append-nil (settled_epochs (lists.from_joiner i)) in
          subst (λ es. HoldsSettled i w.line w.past (held i) es) (sym same_epochs) (w.settles i below)
      | inr differ ↦ subst (λ ms. HoldsSettled i w.line w.past (held i) (settled_epochs ms))
          (sym (grown_other j m lists.from_joiner i differ)) (w.settles i below)
    ])

module _ (rules : Rules) (first : TurnLine) (lists : ControllerLists) (journal : List TurnLine)
    (held held' : ℕ → List ℕ) (w : StandsWithin rules first lists journal held) (j epoch : ℕ) where
  -- a joiner's message is held
  pub joiner_held : held' j ≡ held j ++ epoch ∷ [] → ((i : ℕ) → (j ≡ i → ⊥) → held' i ≡ held i)
      → StandsWithin rules first (with_message (Joiner j) (Settled epoch) lists) journal held'
  joiner_held grows rest =
      same_line rules first lists (with_message (Joiner j) (Settled epoch) lists) journal held held' w refl refl
      (λ q below. w.counts q below)
      (λ i below. elim (cases_eq j i) [
        | inl same ↦
            let more_epochs : settled_epochs (grown j (Settled epoch) lists.from_joiner i)
            ≡ settled_epochs (lists.from_joiner i) ++ epoch ∷ [] =
            ap settled_epochs (grown_same j (Settled epoch) lists.from_joiner i same)
            ∙ settled_epochs-append (lists.from_joiner i) (Settled epoch ∷ []) in
            let more_held : held' i ≡ held i ++ epoch ∷ [] = subst (λ (n : ℕ). held' n ≡ held n ++ epoch ∷ [])
            same grows in
            subst (λ es. HoldsSettled i w.line w.past (held' i) es) (sym more_epochs)
            (subst (λ hs. HoldsSettled i w.line w.past hs (settled_epochs (lists.from_joiner i) ++ epoch ∷ []))
            (sym more_held)
            (holds_more w.line w.past i epoch (held i) (settled_epochs (lists.from_joiner i)) (w.settles i below)))
        | inr differ ↦
            subst (λ ms. HoldsSettled i w.line w.past (held' i) (settled_epochs ms))
            (sym (grown_other j (Settled epoch) lists.from_joiner i differ))
            (subst (λ hs. HoldsSettled i w.line w.past hs (settled_epochs (lists.from_joiner i))) (sym (rest i differ))
            (w.settles i below))
      ])

-- what is passed over leaves all else
pub message_passed : (rules : Rules) (first : TurnLine) (lists : ControllerLists) (journal : List TurnLine) (held : ℕ
    → List ℕ) (w : StandsWithin rules first lists journal held) (from : Actor) (m : ToController)
    → IsPassedOver rules w.line w.past from m → StandsWithin rules first (with_message from m lists) journal held
message_passed rules first lists journal held w (Feeder p) m never =
    feeder_passed rules first lists journal held w p m never
message_passed rules first lists journal held w (Joiner j) (Ask dr ds) never =
    joiner_passed rules first lists journal held w j (Ask dr ds) (λ low. refl)
message_passed rules first lists journal held w (Joiner j) Drained never =
    joiner_passed rules first lists journal held w j Drained (λ low. refl)
message_passed rules first lists journal held w (Joiner j) (Settled epoch) never =
    joiner_passed rules first lists journal held w j (Settled epoch) (λ low. absurd (never low))
message_passed rules first lists journal held w Controller m never = w
message_passed rules first lists journal held w Collector m never = w

-- ---- between calls

-- a beginning with the machine's rules
abbrev pub own_start : TurnLine → ControllerState → ControllerStart
own_start first state = record { rules = state.rules; first = first }

-- a machine stands for the same lists if its own rules are taken for those with which it began
pub as_own : (start : ControllerStart) (lists : ControllerLists) (state : ControllerState) → StandsFor start lists state
    → StandsFor (own_start start.first state) lists state
as_own start lists state stands =
    subst (λ (rules : Rules). StandsFor (record { rules = rules; first = start.first }) lists state) (sym stands.began)
    stands

-- lists for which a machine stands between calls keep the law within a call
abbrev pub within_of : (first : TurnLine) (lists : ControllerLists) (state : ControllerState)
    → StandsFor (own_start first state) lists state
    → StandsWithin state.rules first lists state.journal (held_at state.held)
within_of first lists state stands =
    let law = stands.law in
    record {
      line = law.line;
      past = law.past;
      newest = ap reverse stands.journal ∙ law.journal;
      same = stands.journal;
      follows = law.follows;
      counts = law.counts;
      settles = λ j low.
          let c = law.settles j low in
          record {
            counted = c.counted;
            splits = ap (λ hs. c.counted ++ hs) (stands.held j low) ∙ c.splits;
            are_settled = c.are_settled;
          };
      sends = law.sends;
    }

-- of a machine that stands for lists no joiner's first held epoch is in place
pub stuck_of : (first : TurnLine) (lists : ControllerLists) (state : ControllerState)
    (stands : StandsFor (own_start first state) lists state) (j : ℕ) → j < 2 ^ state.rules.k
    → (epoch : ℕ) (rest : List ℕ) → held_at state.held j ≡ epoch ∷ rest
    → ¬ SettlesInPlace stands.law.line stands.law.past j epoch
stuck_of first lists state stands j low epoch rest is = (stands.law.settles j low).stuck epoch rest
    (sym (stands.held j low) ∙ is)

-- once no joiner's first held epoch is in place, a machine stands for the lists that keep the law within a call
pub stands_of : (first : TurnLine) (lists : ControllerLists) (state : ControllerState)
    (w : StandsWithin state.rules first lists state.journal (held_at state.held))
    → ((j : ℕ) → j < 2 ^ state.rules.k → (epoch : ℕ) (rest : List ℕ) → held_at state.held j ≡ epoch ∷ rest
    → ¬ SettlesInPlace w.line w.past j epoch)
    → (start : ControllerStart) → state.rules ≡ start.rules → start.first ≡ first → StandsFor start lists state
stands_of first lists state w stuck start began same =
    let own : StandsFor (own_start first state) lists state = record {
      began = refl;
      law = record {
        line = w.line;
        past = w.past;
        journal = ap reverse (sym w.same) ∙ w.newest;
        follows = w.follows;
        counts = w.counts;
        settles = λ j low.
            let h = w.settles j low in
            record {
              counted = h.counted;
              held = held_at state.held j;
              splits = h.splits;
              are_settled = h.are_settled;
              stuck = stuck j low;
            };
        sends = w.sends;
      };
      journal = w.same;
      held = λ j low. refl;
    } in
    subst (λ (l : TurnLine). StandsFor (record { rules = start.rules; first = l }) lists state) (sym same)
    (subst (λ (rules : Rules). StandsFor (record { rules = rules; first = first }) lists state) began own)
