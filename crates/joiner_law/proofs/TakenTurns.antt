-- The machine stands for its lists after turns and ends, and after a step that opens or is settled.
use Rattle.std.proofs.Common.{◌≡◌, ℕ, zero, suc, ◌+◌, ◌<◌, ◌≤◌, inl, inr, refl, sym, ◌∙◌, ap, subst, arith, Bool, true}
use Rattle.std.proofs.Common.{false, List, [], ◌∷◌, ◌++◌, length, eq-eqb}
use Rattle.std.specs.Prelude.{◌==◌, map, filter}
use Rattle.std.proofs.lemmas.Bool.{cases_eq, ne_eqb}
use Rattle.row_cells.specs.Lists.{SameBag, counting_from}
use Rattle.row_cells.proofs.Bags.{SameBag-filter}
use Rattle.epoch_tags.specs.declared.tuple.Tuple.{Tuple}
use Rattle.epoch_tags.specs.declared.tuple.Pair.{Pair}
use Rattle.epoch_tags.specs.declared.message.ToJoiner.{ToJoiner}
use Rattle.epoch_tags.specs.declared.message.ToJoiner.TheVariants.{Turn, End, MovedEnd}
use Rattle.epoch_tags.specs.Messages.{tups_of, moved_of, moved_ends}
use Rattle.epoch_tags.specs.Posts.{posted_to_joiner}
use Rattle.epoch_tags.specs.declared.message.ToController.{ToController}
use Rattle.epoch_tags.specs.declared.message.ToController.TheVariants.{Settled}
use Rattle.std.proofs.lemmas.List.{map-append, append-nil}
use Rattle.migration_plan.specs.Steps.{AreNeighbours, is_of, exchanged_side, partner_in_step, holds}
use Rattle.joiner_law.specs.Law.{JoinerStart, JoinerLists, Taken, partner_of, shift_after}
use Rattle.joiner_law.specs.History.{Step, stored, new_step}
use Rattle.joiner_law.specs.Standing.{took_of_feeder, took_of_joiner, with_shift, IsOfFeeder, IsLink, reached, AreSent}
use Rattle.joiner_law.specs.Standing.{StandsSettled, StandsOpen, with_sent, with_flag}
use Rattle.joiner_law.specs.Posting.{moved_post, moved_end_post, settled_post}
use Rattle.joiner_law.proofs.LongerLists.{moved_of-append, grown-same}
use Rattle.joiner_law.proofs.Feeders.{feeder-turn, feeder-end, feeder-settled, feeder-shifts, feeder-none}
use Rattle.joiner_law.proofs.Heart.{stored-new}
use Rattle.joiner_law.proofs.Histories.{history-shift, history-quiet, history-part}
use Rattle.joiner_law.proofs.WaitingPairs.{pairs-new}
use Rattle.joiner_law.proofs.Partners.{taken-new, taken-end, parts_sent-new, parts_sent-end, parts_sent-none}
use Rattle.joiner_law.proofs.PartnerPosts.{sent-new, link-moved, link-later, link-end, none-later, no_end-later}
use Rattle.joiner_law.proofs.PartnerPosts.{up_to-later, all-quiet, quiet-end}
use Rattle.joiner_law.proofs.OneMessage.{feeders-grown, parts-same, pairs-posted, told-posted, parts-quiet, parts-shift}
use Rattle.joiner_law.proofs.OneMessage.{step-new, who-is, first-kept, up_to-grown}
use Rattle.epoch_tags.proofs.Appends.{moved_ends-append}

-- ---- a step is opened

module _ {s : JoinerStart} {t : Taken} {lists : JoinerLists} {waiting : List Pair} {ended : ℕ → Bool}
    {a : List Tuple} {cur : Step} {past : List Step} where
  -- the exchanged side of the store is posted to the partner, and the new store begins with what is kept
  pub opened-step : (shift : ℕ)
      → shift ≤ s.k → AreNeighbours cur.shift shift
      → StandsSettled s t lists waiting ended a cur past
      → StandsOpen s (with_shift (s.epoch + length past + 1) shift t)
      (with_sent lists (map (moved_post (partner_in_step cur.shift shift s.id) (s.epoch + length past + 1))
      (filter (is_of (exchanged_side cur.shift shift)) a)))
      waiting (λ p. false) ended false false a (filter (holds s.k shift s.id) a) (new_step shift) cur past
  opened-step shift within near stands =
      let is = stands.steps in
      let e = s.epoch + length past + 1 in
      let none_moved : (q : ℕ) → moved_of e (t.from_joiner q) ≡ [] =
      λ q. none-later (s.epoch + length past) e (t.from_joiner q) (stands.taken_up_to q) (omega arith) in
      let none_ended : (q : ℕ) → moved_ends e (t.from_joiner q) ≡ 0 =
      λ q. no_end-later (s.epoch + length past) e (t.from_joiner q) (stands.taken_up_to q) (omega arith) in
      let none_came : (p : ℕ) → p < s.feeders → tups_of e (t.from_feeder p) ≡ [] =
      λ p low. feeder-none s.epoch t.shift_at (length past) (ended p) e (t.from_feeder p) (omega arith)
      (is.feeders p low) in
      record {
        steps = record {
          feeders = λ p low. feeder-shifts s.epoch t.shift_at (with_shift e shift t).shift_at (length past) (ended p)
              (t.from_feeder p) (λ i less. rw (ne_eqb i e (λ same. absurd (omega arith))) refl) (is.feeders p low);
          history = (
            step-new s t e shift (length past) within refl none_moved none_came,
            history-shift s t e shift (cur ∷ past) (omega arith) is.history,
          );
          by_one = (near, is.by_one);
          in_time = (tt, is.in_time);
          pairs = pairs-posted s lists _ _ (partner_in_step cur.shift shift s.id) (s.epoch + length past + 1)
              (filter (is_of (exchanged_side cur.shift shift)) a)
              (pairs-new s _ waiting shift cur past is.in_time is.pairs);
          sent = sent-new s lists a shift cur past (λ q. (stands.links q).up_to) stands.store is.sent;
          parts = (
            none_ended (partner_of s (with_shift e shift t) (length past)),
            parts-shift s t e shift (cur ∷ past) (omega arith) is.parts,
          );
          told = told-posted lists (partner_in_step cur.shift shift s.id) (s.epoch + length past + 1)
              (filter (is_of (exchanged_side cur.shift shift)) a) _ is.told;
          first_shift = first-kept s t e shift (omega arith) is.first_shift;
          from_partner = taken-new s t.from_joiner shift (cur ∷ past) is.from_partner;
          to_partner = parts_sent-new s lists shift cur past (filter (is_of (exchanged_side cur.shift shift)) a)
              is.to_partner;
        };
        store = stands.store;
        opened = rw (stored-new s.k s.id shift (cur ∷ past)) (SameBag-filter (holds s.k shift s.id) stands.store);
        links = λ q.
            let same : e + 0 ≡ e = omega arith in
            let who = partner_in_step cur.shift shift s.id in
            let xs = filter (is_of (exchanged_side cur.shift shift)) a in
            subst (λ n. IsLink s.epoch e n (lists.to_joiner q ++ posted_to_joiner q (map (moved_post who e) xs)))
            (sym same)
            (link-moved s.epoch e (lists.to_joiner q) who q xs
            (link-later s.epoch (s.epoch + length past) e e e (lists.to_joiner q) (omega arith) (omega arith)
            (stands.links q)));
        taken_up_to = λ q. up_to-later (s.epoch + length past) e (t.from_joiner q) (omega arith) (stands.taken_up_to q);
      }

-- ---- a feeder's turn, in the open step

turn-shift : (s : JoinerStart) (t : Taken) (epoch shift : ℕ) (new : Step) (n : ℕ) → epoch ≡ s.epoch + n + 1
    → shift ≡ new.shift → shift_after s t (suc n) ≡ new.shift → shift ≡ t.shift_at epoch
turn-shift s t epoch shift new n now same of = same ∙ sym of ∙ ap t.shift_at (omega arith)

-- the end of the part
link-ended : (first last who q : ℕ) (ms : List ToJoiner) → IsLink first last last ms
    → IsLink first last (last + 1) (ms ++ posted_to_joiner q (moved_end_post who last ∷ []))
link-ended first last who q ms is = elim (cases_eq who q) [
  | inl same ↦ rw (eq-eqb who q same) (link-end first last ms is)
  | inr other ↦ rw (ne_eqb who q other, append-nil ms) (link-later first last last last (last + 1) ms (omega arith)
      (omega arith) is)
]

sent-end : (s : JoinerStart) (lists : JoinerLists) (new cur : Step) (past : List Step)
    → AreSent s lists false (new ∷ (cur ∷ past)) → AreSent s
    (with_sent lists (moved_end_post (partner_in_step cur.shift new.shift s.id) (s.epoch + length past + 1) ∷ [])) true
    (new ∷ (cur ∷ past))
sent-end s lists new cur past is =
    let who = partner_in_step cur.shift new.shift s.id in
    let e = s.epoch + length past + 1 in
    let posts = moved_end_post who e ∷ [] in
    let carried : posted_to_joiner who posts ≡ MovedEnd e ∷ [] = rw (eq-eqb who who refl) refl in
    let one : moved_ends e (MovedEnd e ∷ []) ≡ 1 = rw (eq-eqb e e refl) refl in
    let none = is.0.ends in
    let same : moved_of e (lists.to_joiner who ++ posted_to_joiner who posts) ≡ moved_of e (lists.to_joiner who) =
    rw carried (moved_of-append e (lists.to_joiner who) (MovedEnd e ∷ [])
    ∙ append-nil (moved_of e (lists.to_joiner who))) in (
      record {
        tuples = subst (λ (xs : List Tuple). SameBag xs (filter (is_of (exchanged_side cur.shift new.shift))
            (stored s.k s.id (cur ∷ past)))) (sym same) is.0.tuples;
        ends = rw carried (moved_ends-append e (lists.to_joiner who) (MovedEnd e ∷ []) ∙ omega arith);
      },
      all-quiet s lists posts true (cur ∷ past) (λ n less. quiet-end (s.epoch + n + 1) who e
          (λ same. absurd (omega arith))) is.1,
    )

feeder-done : (e : ℕ) (b : ℕ → ℕ) (n m : ℕ) (turned ended : Bool) (ms : List ToJoiner) → m ≡ n + 1 → turned ≡ true
    → IsOfFeeder e b n turned ended ms → IsOfFeeder e b m false ended ms
feeder-done e b n m turned ended ms next has is =
    let is' : IsOfFeeder e b n true ended ms = rw has at is in
    subst (λ k. IsOfFeeder e b k false ended ms) (sym next) (feeder-settled e b n ended ms is')

counting-more : (first n : ℕ) → counting_from first (suc n) ≡ counting_from first n ++ (first + n) ∷ []
counting-more first zero = let is : first ≡ first + 0 = omega arith in ap (λ k. k ∷ []) is
counting-more first (suc n) =
    let is : (first + 1) + n ≡ first + suc n = omega arith in
    ap (λ ks. first ∷ ks) (counting-more (first + 1) n ∙ ap (λ k. counting_from (first + 1) n ++ k ∷ []) is)

told-more : (e n : ℕ) (xs : List ToController) → xs ≡ map Settled (counting_from (e + 1) n)
    → xs ++ Settled (e + n + 1) ∷ [] ≡ map Settled (counting_from (e + 1) (suc n))
told-more e n xs is =
    let same : (e + 1) + n ≡ e + n + 1 = omega arith in
    ap (λ ys. ys ++ Settled (e + n + 1) ∷ []) is
    ∙ ap (λ k. map Settled (counting_from (e + 1) n) ++ Settled k ∷ []) (sym same)
    ∙ sym (map-append Settled (counting_from (e + 1) n) (((e + 1) + n) ∷ []))
    ∙ sym (ap (λ ks. map Settled ks) (counting-more (e + 1) n))

module _ {s : JoinerStart} {t : Taken} {lists : JoinerLists} {waiting : List Pair} {turned ended : ℕ → Bool}
    {part_ended : Bool} {a b : List Tuple} {new cur : Step} {past : List Step} where
  -- one that isn't the last
  pub open-turn : (p epoch shift : ℕ)
      → p < s.feeders → ended p ≡ false → turned p ≡ false → epoch ≡ s.epoch + length past + 1 → shift ≡ new.shift
      → StandsOpen s t lists waiting turned ended false part_ended a b new cur past
      → StandsOpen s (took_of_feeder p (Turn epoch shift) t) lists waiting (with_flag p turned)
      ended false part_ended a b new cur past
  open-turn p epoch shift low going still now same stands =
      let is = stands.steps in
      let top = is.history.0 in
      let own : (p == p) ≡ true = eq-eqb p p refl in
      let of : shift ≡ t.shift_at epoch = turn-shift s t epoch shift new (length past) now same top.shift in
      record {
        steps = record {
          feeders = feeders-grown s t (length past) turned ended (with_flag p turned) ended p (Turn epoch shift)
              (λ q differ. (rw (ne_eqb q p differ) refl, refl))
              (rw (going, still, own) (feeder-turn s.epoch t.shift_at (length past) (t.from_feeder p) epoch shift
              (omega arith) of)) low is.feeders;
          history = history-quiet s t p (Turn epoch shift) (new ∷ (cur ∷ past)) low (λ n less. refl) is.history;
          by_one = is.by_one;
          in_time = is.in_time;
          pairs = is.pairs;
          sent = is.sent;
          parts = parts-same s t part_ended (new ∷ (cur ∷ past)) (Turn epoch shift) p is.parts;
          told = is.told;
          first_shift = is.first_shift;
          from_partner = is.from_partner;
          to_partner = is.to_partner;
        };
        store = stands.store;
        opened = stands.opened;
        links = stands.links;
        taken_up_to = stands.taken_up_to;
      }

  -- all have turned: the end of this joiner's part is posted to the partner
  pub all-turned : StandsOpen s t lists waiting turned ended false part_ended a b new cur past
      → StandsOpen s t (with_sent lists (moved_end_post (partner_in_step cur.shift new.shift s.id)
      (s.epoch + length past + 1) ∷ [])) waiting turned ended true part_ended a b new cur past
  all-turned stands =
      let is = stands.steps in
      let who = partner_in_step cur.shift new.shift s.id in
      let e = s.epoch + length past + 1 in
      record {
        steps = record {
          feeders = is.feeders;
          history = is.history;
          by_one = is.by_one;
          in_time = is.in_time;
          pairs = record { pairs = rw (append-nil lists.to_collector) is.pairs.pairs };
          sent = sent-end s lists new cur past is.sent;
          parts = is.parts;
          told = append-nil lists.to_controller ∙ is.told;
          first_shift = is.first_shift;
          from_partner = is.from_partner;
          to_partner = parts_sent-end s lists new cur past is.to_partner;
        };
        store = stands.store;
        opened = stands.opened;
        links = λ q.
            let same : e + 0 ≡ e = omega arith in
            let before : IsLink s.epoch e e (lists.to_joiner q) =
            subst (λ n. IsLink s.epoch e n (lists.to_joiner q)) same (stands.links q) in
            link-ended s.epoch e who q (lists.to_joiner q) before;
        taken_up_to = stands.taken_up_to;
      }

-- ---- a feeder's end

module _ {s : JoinerStart} {t : Taken} {lists : JoinerLists} {waiting : List Pair} {turned ended : ℕ → Bool}
    {all_turned part_ended : Bool} {a b : List Tuple} {new cur : Step} {past : List Step} where
  -- while a step is open: this feeder has ended, and all else is as it was
  pub open-end : (p : ℕ)
      → p < s.feeders → ended p ≡ false
      → StandsOpen s t lists waiting turned ended all_turned part_ended a b new cur past
      → StandsOpen s (took_of_feeder p End t) lists waiting turned (with_flag p ended)
      all_turned part_ended a b new cur past
  open-end p low going stands =
      let is = stands.steps in
      let own : (p == p) ≡ true = eq-eqb p p refl in
      record {
        steps = record {
          feeders = feeders-grown s t (length past) turned ended turned (with_flag p ended) p End (λ q differ. (
            refl,
            rw (ne_eqb q p differ) refl,
          ))
              (rw (going, own) (feeder-end s.epoch t.shift_at (length past) (turned p) (t.from_feeder p))) low
              is.feeders;
          history = history-quiet s t p End (new ∷ (cur ∷ past)) low (λ n less. refl) is.history;
          by_one = is.by_one;
          in_time = is.in_time;
          pairs = is.pairs;
          sent = is.sent;
          parts = parts-same s t part_ended (new ∷ (cur ∷ past)) End p is.parts;
          told = is.told;
          first_shift = is.first_shift;
          from_partner = is.from_partner;
          to_partner = is.to_partner;
        };
        store = stands.store;
        opened = stands.opened;
        links = stands.links;
        taken_up_to = stands.taken_up_to;
      }

module _ {s : JoinerStart} {t : Taken} {lists : JoinerLists} {waiting : List Pair} {ended : ℕ → Bool}
    {a : List Tuple} {cur : Step} {past : List Step} where
  -- and the same while none is open
  pub settled-end : (p : ℕ)
      → p < s.feeders → ended p ≡ false
      → StandsSettled s t lists waiting ended a cur past
      → StandsSettled s (took_of_feeder p End t) lists waiting (with_flag p ended) a cur past
  settled-end p low going stands =
      let is = stands.steps in
      let own : (p == p) ≡ true = eq-eqb p p refl in
      record {
        steps = record {
          feeders = feeders-grown s t (length past) (λ q. false) ended (λ q. false) (with_flag p ended) p End
              (λ q differ. (refl, rw (ne_eqb q p differ) refl))
              (rw (going, own) (feeder-end s.epoch t.shift_at (length past) false (t.from_feeder p))) low is.feeders;
          history = history-quiet s t p End (cur ∷ past) low (λ n less. refl) is.history;
          by_one = is.by_one;
          in_time = is.in_time;
          pairs = is.pairs;
          sent = is.sent;
          parts = parts-same s t true (cur ∷ past) End p is.parts;
          told = is.told;
          first_shift = is.first_shift;
          from_partner = is.from_partner;
          to_partner = is.to_partner;
        };
        store = stands.store;
        links = stands.links;
        taken_up_to = stands.taken_up_to;
      }

-- ---- the end of the partner's part

module _ {s : JoinerStart} {t : Taken} {lists : JoinerLists} {waiting : List Pair} {turned ended : ℕ → Bool}
    {all_turned : Bool} {a b : List Tuple} {new cur : Step} {past : List Step} where
  -- the partner has ended its part of the open step, and all else is as it was
  pub open-moved_end : (epoch : ℕ)
      → epoch ≡ s.epoch + length past + 1
      → StandsOpen s t lists waiting turned ended all_turned false a b new cur past
      → StandsOpen s (took_of_joiner (partner_of s t (length past)) (MovedEnd epoch) t)
      lists waiting turned ended all_turned true a b new cur past
  open-moved_end epoch now stands =
      let is = stands.steps in
      let q = partner_of s t (length past) in
      let e = s.epoch + length past + 1 in
      let one : moved_ends e (MovedEnd epoch ∷ []) ≡ 1 = rw (eq-eqb epoch e now) refl in
      let none = is.parts.0 in
      record {
        steps = record {
          feeders = is.feeders;
          history = history-part s t q (MovedEnd epoch) (new ∷ (cur ∷ past)) (λ n less. refl) is.history;
          by_one = is.by_one;
          in_time = is.in_time;
          pairs = is.pairs;
          sent = is.sent;
          parts = (
            ap (λ ms. moved_ends e ms) (grown-same q (MovedEnd epoch) t.from_joiner)
                ∙ moved_ends-append e (t.from_joiner q) (MovedEnd epoch ∷ []) ∙ omega arith,
            parts-quiet s t true q (MovedEnd epoch) (cur ∷ past)
                (λ n less. rw (ne_eqb epoch (s.epoch + n + 1) (λ same. absurd (omega arith))) refl) is.parts.1,
          );
          told = is.told;
          first_shift = is.first_shift;
          from_partner = taken-end s t.from_joiner new cur past q epoch now (who-is s t new cur past is.history)
              is.from_partner;
          to_partner = is.to_partner;
        };
        store = stands.store;
        opened = stands.opened;
        links = stands.links;
        taken_up_to = up_to-grown e q (MovedEnd epoch) t.from_joiner (omega arith, tt) stands.taken_up_to;
      }

-- ---- the step is settled

module _ {s : JoinerStart} {t : Taken} {lists : JoinerLists} {waiting : List Pair} {turned ended : ℕ → Bool}
    {a b : List Tuple} {new cur : Step} {past : List Step} where
  -- once all feeders have turned and the partner ended its part: the controller is told, and the new store is the store
  pub settled-step : ((p : ℕ) → p < s.feeders → turned p ≡ true)
      → StandsOpen s t lists waiting turned ended true true a b new cur past
      → StandsSettled s t (with_sent lists (settled_post (s.epoch + length past + 1) ∷ [])) waiting ended b new
      (cur ∷ past)
  settled-step all stands =
      let is = stands.steps in
      record {
        steps = record {
          feeders = λ p low. feeder-done s.epoch t.shift_at (length past) (length (cur ∷ past)) (turned p) (ended p)
              (t.from_feeder p) (omega arith) (all p low) (is.feeders p low);
          history = is.history;
          by_one = is.by_one;
          in_time = is.in_time;
          pairs = record { pairs = rw (append-nil lists.to_collector) is.pairs.pairs };
          sent = all-quiet s lists (settled_post (s.epoch + length past + 1) ∷ []) true (new ∷ (cur ∷ past))
              (λ n less. record { tuples = λ j. refl; ends = λ j. refl }) is.sent;
          parts = is.parts;
          told = told-more s.epoch (length past) lists.to_controller is.told;
          first_shift = is.first_shift;
          from_partner = is.from_partner;
          to_partner = parts_sent-none s true (new ∷ (cur ∷ past)) lists.to_joiner _
              (λ q. append-nil (lists.to_joiner q))
              is.to_partner;
        };
        store = stands.opened;
        links = λ q.
            let here = stands.links q in
            let low : reached s.epoch (lists.to_joiner q) ≤ s.epoch + length past + 1 + 1 = here.goes_on in
            rw (append-nil (lists.to_joiner q)) (record {
              never_falls = here.never_falls;
              up_to = up_to-later (s.epoch + length past + 1) (s.epoch + length (cur ∷ past)) (lists.to_joiner q)
                  (omega arith) here.up_to;
              goes_on = omega arith;
            });
        taken_up_to = λ q. up_to-later (s.epoch + length past + 1) (s.epoch + length (cur ∷ past)) (t.from_joiner q)
            (omega arith) (stands.taken_up_to q);
      }
