-- The rows that a feeder was granted bear the epochs of the lines that counted them.
use Rattle.std.proofs.Common.{◌≡◌, ℕ, ◌<◌, ◌≤◌, refl, sym, ◌∙◌, ap, arith, Bool, true, false, cond, not, ◌&&◌, List, []}
use Rattle.std.proofs.Common.{◌∷◌, ◌++◌, length, append_assoc, reverse}
use Rattle.std.specs.Prelude.{map, filter, flat_map, sum_by, ◌==◌}
use Rattle.std.proofs.lemmas.Bool.{eqb-true}
use Rattle.std.proofs.lemmas.List.{map-append}
use Rattle.std.proofs.lemmas.List.Elements.{filter-append}
use mathlib.Core.List.{reverse-cons}
use Rattle.std.proofs.lemmas.List.Sums.{sum_by-append}
use Rattle.row_cells.specs.Lists.{IsPrefix}
use Rattle.row_cells.proofs.Bags.{sum-same, sum_of_map}
use Rattle.epoch_tags.specs.declared.tuple.Tuple.{Tuple}
use Rattle.epoch_tags.specs.declared.message.ToFeeder.{ToFeeder}
use Rattle.epoch_tags.specs.declared.message.ToFeeder.TheVariants.{Order, Grant, Stop}
use Rattle.epoch_tags.specs.Messages.{grants}
use Rattle.reshuffler_core.specs.Law.{stamped}
use Rattle.reshuffler_core.proofs.Arrivals.{granted}
use Rattle.load_controller.specs.declared.line.TurnLine.{TurnLine}
use Rattle.load_controller.specs.Journal.{Rules, Follows, begun, is_count_of, count_epochs}
use Rattle.load_controller.specs.Law.{sent_by, sent_for, is_over}
use Rattle.trace_law.specs.declared.input.Input.{Input}
use Rattle.trace_law.specs.declared.setting.Setting.{Setting}
use Rattle.trace_law.specs.Family.{Rest, Family, IsAgreeing, rules_of}
use Rattle.trace_law.proofs.Begun.{no_count}

-- the batches with these stamps, as far as there are both
abbrev pub with_stamps : List ℕ → List (List Tuple) → List Tuple
with_stamps [] batches = []
with_stamps (e ∷ es) [] = []
with_stamps (e ∷ es) (batch ∷ batches) = map (stamped e) batch ++ with_stamps es batches

-- the epochs in which a feeder was granted, from epoch e on
abbrev pub grant_epochs : ℕ → List ToFeeder → List ℕ
grant_epochs e [] = []
grant_epochs e (Order epoch shift ∷ ms) = grant_epochs epoch ms
grant_epochs e (Grant ∷ ms) = e ∷ grant_epochs e ms
grant_epochs e (Stop ∷ ms) = grant_epochs e ms

-- the epoch after these messages
abbrev pub epoch_now : ℕ → List ToFeeder → ℕ
epoch_now e [] = e
epoch_now e (Order epoch shift ∷ ms) = epoch_now epoch ms
epoch_now e (Grant ∷ ms) = epoch_now e ms
epoch_now e (Stop ∷ ms) = epoch_now e ms

none_granted : (e : ℕ) (ms : List ToFeeder) → granted e [] ms ≡ []
none_granted e [] = refl
none_granted e (Order epoch shift ∷ ms) = none_granted epoch ms
none_granted e (Grant ∷ ms) = none_granted e ms
none_granted e (Stop ∷ ms) = none_granted e ms

-- what is granted are the batches with the epochs of the grants
pub granted_is : (e : ℕ) (batches : List (List Tuple)) (ms : List ToFeeder)
    → granted e batches ms ≡ with_stamps (grant_epochs e ms) batches
granted_is e batches [] = refl
granted_is e batches (Order epoch shift ∷ ms) = granted_is epoch batches ms
granted_is e [] (Grant ∷ ms) = none_granted e ms
granted_is e (batch ∷ batches) (Grant ∷ ms) = ap (λ ts. map (stamped e) batch ++ ts) (granted_is e batches ms)
granted_is e batches (Stop ∷ ms) = granted_is e batches ms

-- there is an epoch for each grant
pub grants_are : (e : ℕ) (ms : List ToFeeder) → length (grant_epochs e ms) ≡ grants ms
grants_are e [] = refl
grants_are e (Order epoch shift ∷ ms) = grants_are epoch ms
grants_are e (Grant ∷ ms) = let rest = grants_are e ms in omega arith
grants_are e (Stop ∷ ms) = grants_are e ms

-- the epochs of two lists of messages
pub epochs-append : (e : ℕ) (xs ys : List ToFeeder)
    → grant_epochs e (xs ++ ys) ≡ grant_epochs e xs ++ grant_epochs (epoch_now e xs) ys
epochs-append e [] ys = refl
epochs-append e (Order epoch shift ∷ xs) ys = epochs-append epoch xs ys
epochs-append e (Grant ∷ xs) ys = ap (λ es. e ∷ es) (epochs-append e xs ys)
epochs-append e (Stop ∷ xs) ys = epochs-append e xs ys

now-append : (e : ℕ) (xs ys : List ToFeeder) → epoch_now e (xs ++ ys) ≡ epoch_now (epoch_now e xs) ys
now-append e [] ys = refl
now-append e (Order epoch shift ∷ xs) ys = now-append epoch xs ys
now-append e (Grant ∷ xs) ys = now-append e xs ys
now-append e (Stop ∷ xs) ys = now-append e xs ys

-- what is sent for one line
of_line : (same counts over : Bool) (e epoch shift : ℕ) → (same ≡ true → epoch ≡ e)
    → (grant_epochs e (cond same [] (Order epoch shift ∷ []) ++ cond counts (Grant ∷ []) [] ++ cond over (Stop ∷ []) [])
    ≡ cond counts (epoch ∷ []) [])
    × (epoch_now e (cond same [] (Order epoch shift ∷ []) ++ cond counts (Grant ∷ []) [] ++ cond over (Stop ∷ []) [])
    ≡ epoch)
of_line true true true e epoch shift is = (ap (λ n. n ∷ []) (sym (is refl)), sym (is refl))
of_line true true false e epoch shift is = (ap (λ n. n ∷ []) (sym (is refl)), sym (is refl))
of_line true false true e epoch shift is = (refl, sym (is refl))
of_line true false false e epoch shift is = (refl, sym (is refl))
of_line false true true e epoch shift is = (refl, refl)
of_line false true false e epoch shift is = (refl, refl)
of_line false false true e epoch shift is = (refl, refl)
of_line false false false e epoch shift is = (refl, refl)

count_epochs-append : (p : ℕ) (xs ys : List TurnLine)
    → count_epochs p (xs ++ ys) ≡ count_epochs p xs ++ count_epochs p ys
count_epochs-append p xs ys =
    ap (map (λ line. line.epoch)) (filter-append (λ line. is_count_of p line.cause) xs ys)
    ∙ map-append (λ line. line.epoch) (filter (λ line. is_count_of p line.cause) xs)
    (filter (λ line. is_count_of p line.cause) ys)

one_count : (t : Bool) (line : TurnLine)
    → map (λ (l : TurnLine). l.epoch) (cond t (line ∷ []) []) ≡ cond t (line.epoch ∷ []) []
one_count true line = refl
one_count false line = refl

-- a feeder is granted its batches in the epochs of its counts
pub epochs_sent : (rules : Rules) (first : TurnLine) (p : ℕ) → is_count_of p first.cause ≡ false
    → (line : TurnLine) (past : List TurnLine) → Follows rules first (line ∷ past)
    → (grant_epochs first.epoch (sent_by rules p (line ∷ past)) ≡ count_epochs p (reverse (line ∷ past)))
    × (epoch_now first.epoch (sent_by rules p (line ∷ past)) ≡ line.epoch)
epochs_sent rules first p none line [] is =
    let counts : is_count_of p line.cause ≡ false = ap (λ l. is_count_of p l.cause) is ∙ none in
    (ap (λ c. map (λ (l : TurnLine). l.epoch) (cond c (line ∷ []) [])) (sym counts), ap (λ l. l.epoch) (sym is))
epochs_sent rules first p none line (before ∷ past) (made, allowed, more) =
    let old = epochs_sent rules first p none before past more in
    let e0 = first.epoch in
    let counts = is_count_of p line.cause in
    let here =
    of_line (line.epoch == before.epoch) counts
    (not (is_over rules.feeders (before ∷ past)) && is_over rules.feeders (line ∷ before ∷ past))
    before.epoch line.epoch line.shift (eqb-true line.epoch before.epoch) in (
      epochs-append e0 (sent_by rules p (before ∷ past)) (sent_for rules p line before past)
          ∙ ap
          (λ es. es
          ++ grant_epochs (epoch_now e0 (sent_by rules p (before ∷ past))) (sent_for rules p line before past))
          old.0
          ∙ ap (λ e. count_epochs p (reverse (before ∷ past)) ++ grant_epochs e (sent_for rules p line before past))
          old.1
          ∙ ap (λ es. count_epochs p (reverse (before ∷ past)) ++ es) (here.0 ∙ sym (one_count counts line))
          ∙ sym (count_epochs-append p (reverse (before ∷ past)) (line ∷ []))
          ∙ ap (count_epochs p) (sym (reverse-cons line (before ∷ past))),
      now-append e0 (sent_by rules p (before ∷ past)) (sent_for rules p line before past)
          ∙ ap (λ e. epoch_now e (sent_for rules p line before past)) old.1 ∙ here.1,
    )

-- ---- sums that leave stamps aside

-- a number of a tuple that doesn't look at its stamp
abbrev pub IsBlind : (Tuple → ℕ) → Type 0
IsBlind g = (e : ℕ) (t : Tuple) → g (stamped e t) ≡ g t

one_batch : (g : Tuple → ℕ) → IsBlind g → (e : ℕ) (batch : List Tuple)
    → sum_by g (map (stamped e) batch) ≡ sum_by g batch
one_batch g blind e batch = sum_of_map g (stamped e) batch ∙ sum-same (λ t. g (stamped e t)) g (blind e) batch

-- stamped batches are no more than all of them
pub some_of_batches : (g : Tuple → ℕ) → IsBlind g → (es : List ℕ) (batches : List (List Tuple))
    → sum_by g (with_stamps es batches) ≤ sum_by g (flat_map (λ ts. ts) batches)
some_of_batches g blind [] batches = omega arith
some_of_batches g blind (e ∷ es) [] = omega arith
some_of_batches g blind (e ∷ es) (batch ∷ batches) =
    let rest = some_of_batches g blind es batches in
    let here = one_batch g blind e batch in
    let a = sum_by-append g (map (stamped e) batch) (with_stamps es batches) in
    let b = sum_by-append g batch (flat_map (λ ts. ts) batches) in
    omega arith

-- and they are all where there is an epoch for each
pub all_of_batches : (g : Tuple → ℕ) → IsBlind g → (es : List ℕ) (batches : List (List Tuple))
    → length batches ≤ length es → sum_by g (with_stamps es batches) ≡ sum_by g (flat_map (λ ts. ts) batches)
all_of_batches g blind [] [] enough = refl
all_of_batches g blind [] (batch ∷ batches) enough = absurd (omega arith)
all_of_batches g blind (e ∷ es) [] enough = refl
all_of_batches g blind (e ∷ es) (batch ∷ batches) enough =
    let rest = all_of_batches g blind es batches (omega arith) in
    let here = one_batch g blind e batch in
    let a = sum_by-append g (map (stamped e) batch) (with_stamps es batches) in
    let b = sum_by-append g batch (flat_map (λ ts. ts) batches) in
    omega arith

-- ---- in every agreeing family

-- the epochs in which a feeder took its grants are those of the first of its counts
pub epochs_taken : (input : Input) (setting : Setting) (rest : Rest) (f : Family)
    (agrees : IsAgreeing input setting rest f) (p : ℕ) → p < setting.feeders
    → IsPrefix (grant_epochs rest.line.epoch (agrees.taken_by_feeder p))
    (count_epochs p (reverse (agrees.controller.line ∷ agrees.controller.past)))
epochs_taken input setting rest f agrees p h =
    let law = agrees.feeders p h in
    let link = agrees.controller_feeder p h in
    let taken = agrees.taken_by_feeder p in
    let e0 = rest.line.epoch in
    let whole : taken
    ++ (law.held ++ link.rest) ≡ sent_by (rules_of setting) p (agrees.controller.line ∷ agrees.controller.past) =
    sym (append_assoc taken law.held link.rest) ∙ ap (λ ms. ms ++ link.rest) law.splits ∙ link.joins
    ∙ agrees.controller.sends p h in
    record {
      rest = grant_epochs (epoch_now e0 taken) (law.held ++ link.rest);
      joins =
          sym (epochs-append e0 taken (law.held ++ link.rest)) ∙ ap (grant_epochs e0) whole
          ∙ (epochs_sent (rules_of setting) (begun rest.line) p (no_count p rest.line.cause)
          agrees.controller.line agrees.controller.past agrees.controller.follows).0;
    }
