-- What the actors of an agreeing family took is determined by its lists.
use Rattle.std.proofs.Common.{◌≡◌, ℕ, zero, suc, ◌+◌, ◌^◌, ◌<◌, ◌≤◌, inl, inr, sym, ◌∙◌, ap, subst, arith, List, []}
use Rattle.std.proofs.Common.{◌∷◌, ◌++◌, append_assoc, length}
use Rattle.std.proofs.lemmas.Bool.{cases_eq, cases_lt}
use Rattle.std.proofs.lemmas.List.{append-nil, length-map}
use Rattle.row_cells.specs.Lists.{counting_from}
use Rattle.row_cells.proofs.RisingNumbers.{length-counting_from}
use Rattle.epoch_tags.specs.declared.message.ToController.TheVariants.{Settled}
use Rattle.epoch_tags.specs.declared.message.ToJoiner.{ToJoiner}
use Rattle.epoch_tags.specs.declared.message.ToJoiner.TheVariants.{Turn}
use Rattle.epoch_tags.specs.Messages.{turns, ends, moved_of, moved_ends}
use Rattle.epoch_tags.specs.Orders.{CountsUp, NeverFalls, TurnsGoBy}
use Rattle.migration_plan.specs.Steps.{AreNeighbours, partner_in_step}
use Rattle.reshuffler_core.proofs.TakesAll.{front_of_other, taken_is_one}
use Rattle.load_controller.specs.Journal.{shift_at}
use Rattle.joiner_law.specs.Law.{JoinerStart, Taken, opened, shift_after, partner_of, CanTakeOfFeeder, CanTakeOfJoiner}
use Rattle.joiner_law.proofs.TakesAll.{counts_ends, counts_at, StandsAt, can_take_of_feeder, can_take_no_turn}
use Rattle.joiner_law.proofs.TakesAll.{IsOfEpoch, at_least, later, shows}
use Rattle.trace_law.specs.declared.input.Input.{Input}
use Rattle.trace_law.specs.declared.setting.Setting.{Setting}
use Rattle.trace_law.specs.Family.{Rest, Family, IsAgreeing, feeder_start, joiner_start}
use Rattle.trace_law.proofs.Arrivals.{front_of, goes_by}
use Rattle.trace_law.proofs.Journals.{shift_in, feeders_go, begins}
use Rattle.trace_law.proofs.JoinerLemmas.{can_take_of_joiner}
use Rattle.row_cells.proofs.Totals.{greatest_above, greatest_same}
use Rattle.epoch_tags.proofs.Appends.{turns-append, front_falls}
use Rattle.epoch_tags.proofs.EpochShifts.{front_goes, turns_at}
use Rattle.reshuffler_core.proofs.Arrivals.{answers_go}

module _ (input : Input) (setting : Setting) (some : 0 < setting.feeders) (rest : Rest) (f : Family) where
  -- what a feeder took is determined
  pub feeder_took : (a1 a2 : IsAgreeing input setting rest f) (p : ℕ) → p < setting.feeders
      → a1.taken_by_feeder p ≡ a2.taken_by_feeder p
  feeder_took a1 a2 p low =
      taken_is_one (feeder_start input setting rest p) (f.feeder p) (a1.taken_by_feeder p) (a2.taken_by_feeder p)
      (a1.feeders p low) (a2.feeders p low)

  abbrev s : ℕ → JoinerStart
  s j = joiner_start input setting rest j

  -- ---- of one agreement

  module _ (a : IsAgreeing input setting rest f) (j : ℕ) (h : j < 2 ^ setting.k) where
    abbrev t : Taken
    t = a.taken_by_joiner j

    goes : (n : ℕ) → n ≤ opened (s j) t → shift_after (s j) t n ≡ shift_in input setting rest f a (rest.line.epoch + n)
    goes n low =
        goes_by input setting rest f a (λ e. shift_in input setting rest f a e) (feeders_go input setting rest f a)
        (begins input setting rest f a) j h n low

    turns_go : (p : ℕ) → p < setting.feeders → TurnsGoBy (λ e. shift_in input setting rest f a e) (t.from_feeder p)
    turns_go p low =
        let front =
        front_of input setting rest f a (λ e. shift_in input setting rest f a e) (feeders_go input setting rest f a)
        (begins input setting rest f a) j p h low in
        front_goes (λ e. shift_in input setting rest f a e) (t.from_feeder p) front.0
        (subst (λ ms. TurnsGoBy (λ e. shift_in input setting rest f a e) ms) (sym front.1)
        (answers_go setting.k j rest.line.epoch rest.line.shift (λ e. shift_in input setting rest f a e)
        (feeder_start input setting rest p).batches (a.taken_by_feeder p)
        (feeders_go input setting rest f a p low)))

    turned_opened : (p : ℕ) → p < setting.feeders → turns (t.from_feeder p) ≤ opened (s j) t
    turned_opened p low = greatest_above setting.feeders (λ q. turns (t.from_feeder q)) p low

    done_turned : (p : ℕ) → p < setting.feeders → (a.joiners j h).done ≤ turns (t.from_feeder p)
    done_turned p low = by_done (a.joiners j h).done (λ n l. ((a.joiners j h).settled n l).0 p low)
      where
        by_done : (d : ℕ) → ((n : ℕ) → n < d → n < turns (t.from_feeder p)) → d ≤ turns (t.from_feeder p)
        by_done zero below = omega arith
        by_done (suc d) below = let one = below d (omega arith) in omega arith

    said : length (f.joiner j).to_controller ≡ (a.joiners j h).done
    said =
        let e = ap length (a.joiners j h).told in
        let m = length-map (counting_from (rest.line.epoch + 1) (a.joiners j h).done) (λ v. Settled v) in
        let n = length-counting_from (rest.line.epoch + 1) (a.joiners j h).done in
        omega arith

    of_epoch : (i : ℕ) → i < 2 ^ setting.k → (xs ys : List ToJoiner) (m : ToJoiner)
        → xs ++ m ∷ ys ≡ (f.joiner j).from_joiner i → (e : ℕ) → IsOfEpoch e m → (n : ℕ) × (e ≡ rest.line.epoch + n + 1)
    of_epoch i hi xs ys m is e of_e =
        let link = a.joiner_joiner i j hi h in
        let sent : xs ++ m ∷ (ys ++ link.rest) ≡ (f.joiner i).to_joiner j =
        sym (append_assoc xs (m ∷ ys) link.rest) ∙ ap (λ ms. ms ++ link.rest) is ∙ link.joins in
        elim (shows e xs (ys ++ link.rest) m of_e) [
          | inl moved ↦ let r = (a.joiners i hi).moved_only j e (rw sent at moved) in (r.0, r.1)
          | inr ended ↦ let r = (a.joiners i hi).ended_only j e (rw sent at ended) in (r.0, r.1)
        ]

  -- ---- of two

  same_shifts : (a1 a2 : IsAgreeing input setting rest f) (e : ℕ)
      → shift_in input setting rest f a1 e ≡ shift_in input setting rest f a2 e
  same_shifts a1 a2 e = ap (λ ls. shift_at rest.line.shift e ls) (sym a1.controller.journal ∙ a2.controller.journal)

  same_done : (a1 a2 : IsAgreeing input setting rest f) (j : ℕ) (h : j < 2 ^ setting.k)
      → (a1.joiners j h).done ≡ (a2.joiners j h).done
  same_done a1 a2 j h = sym (said a1 j h) ∙ said a2 j h

  module _ (a1 a2 : IsAgreeing input setting rest f) (j : ℕ) (h : j < 2 ^ setting.k) (p : ℕ) (low : p < setting.feeders)
      (m : ToJoiner) (more : List ToJoiner)
      (is : (a2.taken_by_joiner j).from_feeder p ≡ (a1.taken_by_joiner j).from_feeder p ++ m ∷ more) where
    abbrev t1 : List ToJoiner
    t1 = (a1.taken_by_joiner j).from_feeder p

    abbrev t2 : List ToJoiner
    t2 = (a2.taken_by_joiner j).from_feeder p

    abbrev d1 : ℕ
    d1 = (a1.joiners j h).done

    up : CountsUp rest.line.epoch (t1 ++ m ∷ more)
    up = subst (λ ms. CountsUp rest.line.epoch ms) is ((a2.joiners j h).counts_up p low)

    none : ends t1 ≡ 0
    none = counts_ends rest.line.epoch t1 more m up

    stands : StandsAt (rest.line.epoch + turns t1) m
    stands = counts_at rest.line.epoch t1 more m up

    one_more : (epoch shift : ℕ) → m ≡ Turn epoch shift → turns t1 + 1 ≤ opened (s j) (a2.taken_by_joiner j)
    one_more epoch shift turn =
        let a = ap turns is in
        let b = turns-append t1 (m ∷ more) in
        let c : turns (m ∷ more) ≡ turns more + 1 = ap (λ x. turns (x ∷ more)) turn in
        let d = turned_opened a2 j h p low in
        omega arith

    too_many : (epoch shift : ℕ) → m ≡ Turn epoch shift → (turns t1 ≡ d1 → ⊥) → ⊥
    too_many epoch shift turn past =
        let a = one_more epoch shift turn in
        let b = done_turned a1 j h p low in
        let c : opened (s j) (a2.taken_by_joiner j) ≤ (a2.joiners j h).done + 1 = (a2.joiners j h).one_open in
        let d = same_done a1 a2 j h in
        past (omega arith)

    fits : (epoch shift : ℕ) → m ≡ Turn epoch shift → turns t1 ≡ d1
        → (shift ≤ setting.k) × AreNeighbours (shift_after (s j) (a1.taken_by_joiner j) d1) shift
        × (d1 < opened (s j) (a1.taken_by_joiner j) → shift ≡ shift_after (s j) (a1.taken_by_joiner j) (d1 + 1))
    fits epoch shift turn at =
        let law2 = a2.joiners j h in
        let taken2 = a2.taken_by_joiner j in
        let low2 = one_more epoch shift turn in
        let stands' : epoch ≡ rest.line.epoch + turns t1 + 1 =
        subst (λ x. StandsAt (rest.line.epoch + turns t1) x) turn stands in
        let next : epoch ≡ rest.line.epoch + (d1 + 1) = omega arith in
        let go : TurnsGoBy (λ e. shift_in input setting rest f a2 e) (t1 ++ m ∷ more) =
        subst (λ ms. TurnsGoBy (λ e. shift_in input setting rest f a2 e) ms) is (turns_go a2 j h p low) in
        let go' : TurnsGoBy (λ e. shift_in input setting rest f a2 e) (t1 ++ Turn epoch shift ∷ more) =
        subst (λ x. TurnsGoBy (λ e. shift_in input setting rest f a2 e) (t1 ++ x ∷ more)) turn go in
        let shift_is : shift ≡ shift_in input setting rest f a2 (rest.line.epoch + (d1 + 1)) =
        turns_at (λ e. shift_in input setting rest f a2 e) t1 more epoch shift go'
        ∙ ap (λ e. shift_in input setting rest f a2 e) next in
        let there : shift ≡ shift_after (s j) taken2 (d1 + 1) = shift_is ∙ sym (goes a2 j h (d1 + 1) (omega arith)) in
        let now : shift_after (s j) (a1.taken_by_joiner j) d1 ≡ shift_after (s j) taken2 d1 =
        goes a1 j h d1 (omega (arith, done_turned a1 j h p low, turned_opened a1 j h p low))
        ∙ same_shifts a1 a2 (rest.line.epoch + d1) ∙ sym (goes a2 j h d1 (omega arith)) in (
          subst (λ c. c ≤ setting.k) (sym there) (law2.within (d1 + 1) (omega arith)),
          subst (λ c. AreNeighbours c shift) (sym now)
              (subst (λ c. AreNeighbours (shift_after (s j) taken2 d1) c) (sym there) (law2.by_one d1 (omega arith))),
          (λ is_open. shift_is ∙ same_shifts a2 a1 (rest.line.epoch + (d1 + 1))
              ∙ sym (goes a1 j h (d1 + 1) (omega arith))),
        )

    no_more : ¬ CanTakeOfFeeder (s j) (a1.taken_by_joiner j) d1 p m → ⊥
    no_more cannot = elim (cases_eq (turns t1) d1) [
      | inl at ↦
          cannot
          (can_take_of_feeder (s j) (a1.taken_by_joiner j) d1 p m none stands at
          (λ epoch shift turn. fits epoch shift turn at))
      | inr past ↦
          cannot
          (can_take_no_turn (s j) (a1.taken_by_joiner j) d1 p m none stands
          (λ epoch shift turn. too_many epoch shift turn past))
    ]

  -- what a joiner took of a feeder is determined
  pub took_of_feeder : (a1 a2 : IsAgreeing input setting rest f) (j : ℕ) (h : j < 2 ^ setting.k) (p : ℕ)
      → p < setting.feeders → (a1.taken_by_joiner j).from_feeder p ≡ (a2.taken_by_joiner j).from_feeder p
  took_of_feeder a1 a2 j h p low =
      let of1 = (a1.joiners j h).of_feeders p low in
      let of2 = (a2.joiners j h).of_feeders p low in
      elim
      (front_of_other ((a1.taken_by_joiner j).from_feeder p) of1.held ((a2.taken_by_joiner j).from_feeder p)
      of2.held (of1.splits ∙ sym of2.splits)) [
        | inl r ↦ by_rest a1 a2 r.0 r.1 r.2
        | inr r ↦ sym (by_rest a2 a1 r.0 r.1 r.2)
      ]
    where
      by_rest : (a1 a2 : IsAgreeing input setting rest f) (ws : List ToJoiner)
          → (a2.taken_by_joiner j).from_feeder p ≡ (a1.taken_by_joiner j).from_feeder p ++ ws
          → ((a1.joiners j h).of_feeders p low).held ≡ ws ++ ((a2.joiners j h).of_feeders p low).held
          → (a1.taken_by_joiner j).from_feeder p ≡ (a2.taken_by_joiner j).from_feeder p
      by_rest a1 a2 [] is held = sym (is ∙ append-nil ((a1.taken_by_joiner j).from_feeder p))
      by_rest a1 a2 (m ∷ ws) is held =
          absurd
          (no_more a1 a2 j h p low m ws is
          (((a1.joiners j h).of_feeders p low).stuck m (ws ++ ((a2.joiners j h).of_feeders p low).held) held))

  -- so the opened steps and their shifts are the same
  same_opened : (a1 a2 : IsAgreeing input setting rest f) (j : ℕ) → j < 2 ^ setting.k
      → opened (s j) (a1.taken_by_joiner j) ≡ opened (s j) (a2.taken_by_joiner j)
  same_opened a1 a2 j h =
      greatest_same setting.feeders (λ p. turns ((a1.taken_by_joiner j).from_feeder p))
      (λ p. turns ((a2.taken_by_joiner j).from_feeder p)) (λ p low. ap turns (took_of_feeder a1 a2 j h p low))

  -- so are the shifts of its steps
  pub same_after : (a1 a2 : IsAgreeing input setting rest f) (j : ℕ) → j < 2 ^ setting.k → (n : ℕ)
      → n ≤ opened (s j) (a1.taken_by_joiner j)
      → shift_after (s j) (a1.taken_by_joiner j) n ≡ shift_after (s j) (a2.taken_by_joiner j) n
  same_after a1 a2 j h n low =
      goes a1 j h n low ∙ same_shifts a1 a2 (rest.line.epoch + n)
      ∙ sym (goes a2 j h n (omega (arith, same_opened a1 a2 j h)))

  same_partner : (a1 a2 : IsAgreeing input setting rest f) (j : ℕ) → j < 2 ^ setting.k → (n : ℕ)
      → n < opened (s j) (a1.taken_by_joiner j)
      → partner_of (s j) (a1.taken_by_joiner j) n ≡ partner_of (s j) (a2.taken_by_joiner j) n
  same_partner a1 a2 j h n low =
      ap (λ c. partner_in_step c (shift_after (s j) (a1.taken_by_joiner j) (n + 1)) j)
      (same_after a1 a2 j h n (omega arith))
      ∙ ap (λ c. partner_in_step (shift_after (s j) (a2.taken_by_joiner j) n) c j)
      (same_after a1 a2 j h (n + 1) (omega arith))

  no_more_of : (a1 a2 : IsAgreeing input setting rest f) (j : ℕ) (h : j < 2 ^ setting.k) (i : ℕ) → i < 2 ^ setting.k
      → (m : ToJoiner) (more : List ToJoiner)
      → (a2.taken_by_joiner j).from_joiner i ≡ (a1.taken_by_joiner j).from_joiner i ++ m ∷ more
      → ¬ CanTakeOfJoiner (s j) (a1.taken_by_joiner j) (a1.joiners j h).done i m → ⊥
  no_more_of a1 a2 j h i hi m more is cannot =
      let law1 = a1.joiners j h in
      let law2 = a2.joiners j h in
      let taken1 = a1.taken_by_joiner j in
      let taken2 = a2.taken_by_joiner j in
      let of2 = law2.of_joiners i hi in
      let t1 = taken1.from_joiner i in
      let link = a2.joiner_joiner i j hi h in
      let whole : (t1 ++ m ∷ more) ++ (of2.held ++ link.rest) ≡ (f.joiner i).to_joiner j =
      ap (λ ms. ms ++ (of2.held ++ link.rest)) (sym is) ∙ sym (append_assoc (taken2.from_joiner i) of2.held link.rest)
      ∙ ap (λ ms. ms ++ link.rest) of2.splits ∙ link.joins in
      let fall : NeverFalls rest.line.epoch (t1 ++ m ∷ more) =
      front_falls rest.line.epoch (t1 ++ m ∷ more) (of2.held ++ link.rest)
      (subst (λ ms. NeverFalls rest.line.epoch ms) (sym whole) ((a2.joiners i hi).never_falls j)) in
      let here = at_least rest.line.epoch t1 more m fall in
      let received : t1 ++ m ∷ (more ++ of2.held) ≡ (f.joiner j).from_joiner i =
      sym (append_assoc t1 (m ∷ more) of2.held) ∙ ap (λ ms. ms ++ of2.held) (sym is) ∙ of2.splits in
      let step = of_epoch a2 j h i hi t1 (more ++ of2.held) m received here.0 here.1 in
      let e_is : here.0 ≡ rest.line.epoch + step.0 + 1 = step.1 in
      let m_is : IsOfEpoch (rest.line.epoch + step.0 + 1) m = subst (λ e. IsOfEpoch e m) e_is here.1 in
      let in_t2 : 0
      < length (moved_of (rest.line.epoch + step.0 + 1) (taken2.from_joiner i))
      + moved_ends (rest.line.epoch + step.0 + 1) (taken2.from_joiner i) =
      subst
      (λ ms. 0 < length (moved_of (rest.line.epoch + step.0 + 1) ms) + moved_ends (rest.line.epoch + step.0 + 1) ms)
      (sym is)
      (elim (shows (rest.line.epoch + step.0 + 1) t1 more m m_is) [ inl x ↦ omega arith | inr y ↦ omega arith ]) in
      let part = law2.of_partner i step.0 hi in_t2 in
      let at_i : i ≡ partner_of (s j) taken1 step.0 = part.1 ∙ same_partner a2 a1 j h step.0 part.0 in
      let low1 : step.0 < opened (s j) taken1 = omega (arith, part.0, same_opened a1 a2 j h) in
      let one : opened (s j) taken1 ≤ law1.done + 1 = law1.one_open in
      elim (cases_lt step.0 law1.done) [
        | inl before ↦
            let ended : 0 < moved_ends (rest.line.epoch + step.0 + 1) t1 =
            subst (λ q. 0 < moved_ends (rest.line.epoch + step.0 + 1) (taken1.from_joiner q)) (sym at_i)
            (law1.settled step.0 before).1 in
            let after =
            later rest.line.epoch (rest.line.epoch + step.0 + 1) (rest.line.epoch + step.0 + 1)
            t1 more m fall ended m_is in
            omega arith
        | inr at ↦
            let same : step.0 ≡ law1.done = omega arith in
            let yet : moved_ends (rest.line.epoch + step.0 + 1) t1 ≡ 0 =
            elim (cases_eq (moved_ends (rest.line.epoch + step.0 + 1) t1) 0) [
              | inl none ↦ none
              | inr has ↦
                  let after =
                  later rest.line.epoch (rest.line.epoch + step.0 + 1) (rest.line.epoch + step.0 + 1) t1 more m fall
                  (omega arith) m_is in absurd (omega arith)
            ] in
            cannot
            (can_take_of_joiner (s j) taken1 law1.done i (rest.line.epoch + step.0 + 1) m m_is
            (omega arith, omega arith, at_i ∙ ap (λ n. partner_of (s j) taken1 n) same, yet))
      ]

  -- and what it took of a joiner
  pub took_of_joiner : (a1 a2 : IsAgreeing input setting rest f) (j : ℕ) (h : j < 2 ^ setting.k) (i : ℕ)
      → i < 2 ^ setting.k → (a1.taken_by_joiner j).from_joiner i ≡ (a2.taken_by_joiner j).from_joiner i
  took_of_joiner a1 a2 j h i hi =
      let of1 = (a1.joiners j h).of_joiners i hi in
      let of2 = (a2.joiners j h).of_joiners i hi in
      elim
      (front_of_other ((a1.taken_by_joiner j).from_joiner i) of1.held ((a2.taken_by_joiner j).from_joiner i)
      of2.held (of1.splits ∙ sym of2.splits)) [
        | inl r ↦ by_rest a1 a2 r.0 r.1 r.2
        | inr r ↦ sym (by_rest a2 a1 r.0 r.1 r.2)
      ]
    where
      by_rest : (a1 a2 : IsAgreeing input setting rest f) (ws : List ToJoiner)
          → (a2.taken_by_joiner j).from_joiner i ≡ (a1.taken_by_joiner j).from_joiner i ++ ws
          → ((a1.joiners j h).of_joiners i hi).held ≡ ws ++ ((a2.joiners j h).of_joiners i hi).held
          → (a1.taken_by_joiner j).from_joiner i ≡ (a2.taken_by_joiner j).from_joiner i
      by_rest a1 a2 [] is held = sym (is ∙ append-nil ((a1.taken_by_joiner j).from_joiner i))
      by_rest a1 a2 (m ∷ ws) is held =
          absurd
          (no_more_of a1 a2 j h i hi m ws is
          (((a1.joiners j h).of_joiners i hi).stuck m (ws ++ ((a2.joiners j h).of_joiners i hi).held) held))
