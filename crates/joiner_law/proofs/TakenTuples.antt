-- The machine stands for its lists after a tuple, of a feeder or moved here.
use Rattle.std.proofs.Common.{◌≡◌, ℕ, ◌+◌, ◌<◌, refl, sym, subst, arith, Bool, true, false, cond, List, [], ◌∷◌, ◌++◌}
use Rattle.std.proofs.Common.{length}
use Rattle.std.specs.Prelude.{map}
use Rattle.row_cells.specs.Lists.{SameBag}
use Rattle.row_cells.proofs.Bags.{SameBag-trans, SameBag-sym}
use Rattle.epoch_tags.specs.declared.tuple.Tuple.{Tuple}
use Rattle.epoch_tags.specs.declared.tuple.Pair.{Pair}
use Rattle.epoch_tags.specs.declared.message.ToJoiner.TheVariants.{Tup, Moved}
use Rattle.epoch_tags.specs.Posts.{posted_to_joiner}
use Rattle.migration_plan.specs.Steps.{is_of, exchanged_side, partner_in_step, holds}
use Rattle.joiner_law.specs.Law.{JoinerStart, JoinerLists, Taken, partner_of}
use Rattle.joiner_law.specs.History.{Step, stored, with_arrived, with_came, all_tuples, only_stamp, probed}
use Rattle.joiner_law.specs.Standing.{took_of_feeder, took_of_joiner, IsLink, StandsSettled, StandsOpen, with_sent}
use Rattle.joiner_law.specs.Posting.{moved_post}
use Rattle.joiner_law.proofs.Feeders.{feeder-tup}
use Rattle.joiner_law.proofs.Heart.{stored-arrived, stored-under, stored-came, if_kept}
use Rattle.joiner_law.proofs.Histories.{history-arrived, history-under, history-came, by_one-arrived}
use Rattle.joiner_law.proofs.WaitingPairs.{pairs-arrived, pairs-under, pairs-came}
use Rattle.joiner_law.proofs.Partners.{taken-arrived, taken-under, taken-came, parts_sent-arrived, parts_sent-came}
use Rattle.joiner_law.proofs.Partners.{parts_sent-under}
use Rattle.joiner_law.proofs.PartnerPosts.{sent-arrived, sent-under, sent-came, link-moved}
use Rattle.joiner_law.proofs.OneMessage.{added, feeders-grown, parts-arrived, pairs-posted, told-posted, parts-moved}
use Rattle.joiner_law.proofs.OneMessage.{who-is, up_to-grown}

-- ---- a tuple of the settled epoch, with no step open

module _ {s : JoinerStart} {t : Taken} {lists : JoinerLists} {waiting : List Pair} {ended : ℕ → Bool}
    {a : List Tuple} {cur : Step} {past : List Step} where
  -- it probes the whole store, and is then stored
  pub settled-tup : (p : ℕ) (x : Tuple)
      → p < s.feeders → ended p ≡ false → x.stamp ≡ s.epoch + length past
      → StandsSettled s t lists waiting ended a cur past
      → StandsSettled s (took_of_feeder p (Tup x) t) lists (waiting ++ probed s.matches all_tuples x a) ended
      (a ++ x ∷ []) (with_arrived x cur) past
  settled-tup p x low going stamp stands =
      let is = stands.steps in
      record {
        steps = record {
          feeders = feeders-grown s t (length past) (λ q. false) ended (λ q. false) ended p (Tup x) (λ q differ. (
            refl,
            refl,
          ))
              (rw going (feeder-tup s.epoch t.shift_at (length past) false (t.from_feeder p) x (omega arith)))
              low is.feeders;
          history = history-arrived s t p x cur past low stamp is.history;
          by_one = by_one-arrived x cur past is.by_one;
          in_time = ((stamp, is.in_time.0), is.in_time.1);
          pairs = pairs-arrived s _ waiting x cur past a stamp is.in_time stands.store is.pairs;
          sent = sent-arrived s lists true x cur past is.sent;
          parts = parts-arrived s t true x cur past (Tup x) p is.parts;
          told = is.told;
          first_shift = is.first_shift;
          from_partner = taken-arrived s t.from_joiner x cur past is.from_partner;
          to_partner = parts_sent-arrived s true lists.to_joiner x cur past is.to_partner;
        };
        store = added x a (stored s.k s.id (cur ∷ past)) (stored s.k s.id (with_arrived x cur ∷ past)) stands.store
            (stored-arrived s.k s.id x cur past);
        links = stands.links;
        taken_up_to = stands.taken_up_to;
      }

-- ---- a late tuple, under an open step

-- a list to which the tuple was added if it is kept
abbrev pub kept_at_end : Bool → Tuple → List Tuple → List Tuple
kept_at_end kept x b = cond kept (b ++ x ∷ []) b

added-kept : (kept : Bool) (x : Tuple) (b xs ys : List Tuple) → SameBag b xs → SameBag ys (if_kept kept x xs)
    → SameBag (kept_at_end kept x b) ys
added-kept true x b xs ys same more = added x b xs ys same more
added-kept false x b xs ys same more = SameBag-trans same (SameBag-sym more)

module _ {s : JoinerStart} {t : Taken} {lists : JoinerLists} {waiting : List Pair} {turned ended : ℕ → Bool}
    {part_ended : Bool} {a b : List Tuple} {new cur : Step} {past : List Step} where
  -- it probes the whole old store and is stored there; where it is kept, it also probes the tuples of the open epoch
  -- and is in the new store; and where it is of the exchanged side, it is posted to the partner
  pub open-late : (p : ℕ) (x : Tuple)
      → p < s.feeders → ended p ≡ false → turned p ≡ false → x.stamp ≡ s.epoch + length past
      → StandsOpen s t lists waiting turned ended false part_ended a b new cur past
      → StandsOpen s (took_of_feeder p (Tup x) t)
      (with_sent lists (map (moved_post (partner_in_step cur.shift new.shift s.id) (s.epoch + length past + 1))
      (cond (is_of (exchanged_side cur.shift new.shift) x) (x ∷ []) [])))
      (waiting ++ (probed s.matches all_tuples x a ++ cond (holds s.k new.shift s.id x)
      (probed s.matches (only_stamp (s.epoch + length (cur ∷ past))) x b) []))
      turned ended false part_ended (a ++ x ∷ []) (kept_at_end (holds s.k new.shift s.id x) x b) new
      (with_arrived x cur) past
  open-late p x low going still stamp stands =
      let is = stands.steps in
      record {
        steps = record {
          feeders = feeders-grown s t (length past) turned ended turned ended p (Tup x) (λ q differ. (refl, refl))
              (rw (going, still) (feeder-tup s.epoch t.shift_at (length past) false (t.from_feeder p) x (omega arith)))
              low is.feeders;
          history = history-under s t p x new cur past low stamp is.history;
          by_one = (is.by_one.0, by_one-arrived x cur past is.by_one.1);
          in_time = (is.in_time.0, ((stamp, is.in_time.1.0), is.in_time.1.1));
          pairs = pairs-posted s lists _ _ (partner_in_step cur.shift new.shift s.id) (s.epoch + length past + 1)
              (cond (is_of (exchanged_side cur.shift new.shift) x) (x ∷ []) [])
              (pairs-under s _ waiting x new cur past a b stamp is.in_time stands.store stands.opened is.pairs);
          sent = sent-under s lists false x new cur past is.sent;
          parts = (is.parts.0, parts-arrived s t true x cur past (Tup x) p is.parts.1);
          told = told-posted lists (partner_in_step cur.shift new.shift s.id) (s.epoch + length past + 1)
              (cond (is_of (exchanged_side cur.shift new.shift) x) (x ∷ []) []) _ is.told;
          first_shift = is.first_shift;
          from_partner = taken-under s t.from_joiner x new cur past is.from_partner;
          to_partner = parts_sent-under s false lists x new cur past
              (cond (is_of (exchanged_side cur.shift new.shift) x) (x ∷ []) []) is.to_partner;
        };
        store = added x a (stored s.k s.id (cur ∷ past)) (stored s.k s.id (with_arrived x cur ∷ past)) stands.store
            (stored-arrived s.k s.id x cur past);
        opened = added-kept (holds s.k new.shift s.id x) x b _ _ stands.opened (stored-under s.k s.id x new cur past);
        links = λ q. let e = s.epoch + length past + 1 in
            let same : e + 0 ≡ e = omega arith in
            let before : IsLink s.epoch e e (lists.to_joiner q) =
            subst (λ n. IsLink s.epoch e n (lists.to_joiner q)) same (stands.links q) in
            subst (λ n. IsLink s.epoch e n (lists.to_joiner q
            ++ posted_to_joiner q (map (moved_post (partner_in_step cur.shift new.shift s.id) e)
            (cond (is_of (exchanged_side cur.shift new.shift) x) (x ∷ []) [])))) (sym same)
            (link-moved s.epoch e (lists.to_joiner q) (partner_in_step cur.shift new.shift s.id) q
            (cond (is_of (exchanged_side cur.shift new.shift) x) (x ∷ []) []) before);
        taken_up_to = stands.taken_up_to;
      }

-- ---- a tuple of the open step

module _ {s : JoinerStart} {t : Taken} {lists : JoinerLists} {waiting : List Pair} {turned ended : ℕ → Bool}
    {all_turned part_ended : Bool} {a b : List Tuple} {new cur : Step} {past : List Step} where
  -- of a feeder that has turned: it probes the whole new store, and is then stored there
  pub open-tup : (p : ℕ) (x : Tuple)
      → p < s.feeders → ended p ≡ false → turned p ≡ true → x.stamp ≡ s.epoch + length (cur ∷ past)
      → StandsOpen s t lists waiting turned ended all_turned part_ended a b new cur past
      → StandsOpen s (took_of_feeder p (Tup x) t) lists (waiting ++ probed s.matches all_tuples x b)
      turned ended all_turned part_ended a (b ++ x ∷ []) (with_arrived x new) cur past
  open-tup p x low going has stamp stands =
      let is = stands.steps in
      record {
        steps = record {
          feeders = feeders-grown s t (length past) turned ended turned ended p (Tup x) (λ q differ. (refl, refl))
              (rw (going, has) (feeder-tup s.epoch t.shift_at (length past) true (t.from_feeder p) x (omega arith)))
              low is.feeders;
          history = history-arrived s t p x new (cur ∷ past) low stamp is.history;
          by_one = is.by_one;
          in_time = ((stamp, is.in_time.0), is.in_time.1);
          pairs = pairs-arrived s _ waiting x new (cur ∷ past) b stamp is.in_time stands.opened is.pairs;
          sent = sent-arrived s lists all_turned x new (cur ∷ past) is.sent;
          parts = parts-arrived s t part_ended x new (cur ∷ past) (Tup x) p is.parts;
          told = is.told;
          first_shift = is.first_shift;
          from_partner = taken-arrived s t.from_joiner x new (cur ∷ past) is.from_partner;
          to_partner = parts_sent-arrived s all_turned lists.to_joiner x new (cur ∷ past) is.to_partner;
        };
        store = stands.store;
        opened = added x b (stored s.k s.id (new ∷ (cur ∷ past))) (stored s.k s.id (with_arrived x new ∷ (cur ∷ past)))
            stands.opened (stored-arrived s.k s.id x new (cur ∷ past));
        links = stands.links;
        taken_up_to = stands.taken_up_to;
      }

-- ---- a tuple that the partner moved here

module _ {s : JoinerStart} {t : Taken} {lists : JoinerLists} {waiting : List Pair} {turned ended : ℕ → Bool}
    {all_turned part_ended : Bool} {a b : List Tuple} {new cur : Step} {past : List Step} where
  -- it probes only the tuples of the open epoch, and is then in the new store
  pub open-moved : (epoch : ℕ) (x : Tuple)
      → epoch ≡ s.epoch + length past + 1
      → StandsOpen s t lists waiting turned ended all_turned part_ended a b new cur past
      → StandsOpen s (took_of_joiner (partner_of s t (length past)) (Moved epoch x) t) lists
      (waiting ++ probed s.matches (only_stamp (s.epoch + length (cur ∷ past))) x b)
      turned ended all_turned part_ended a (b ++ x ∷ []) (with_came x new) cur past
  open-moved epoch x now stands =
      let is = stands.steps in
      record {
        steps = record {
          feeders = is.feeders;
          history = history-came s t epoch x new cur past now is.history;
          by_one = is.by_one;
          in_time = is.in_time;
          pairs = pairs-came s _ waiting x new cur past b stands.opened is.pairs;
          sent = sent-came s lists all_turned x new (cur ∷ past) is.sent;
          parts = parts-moved s t part_ended (partner_of s t (length past)) epoch x new (cur ∷ past) is.parts;
          told = is.told;
          first_shift = is.first_shift;
          from_partner = taken-came s t.from_joiner x new cur past (partner_of s t (length past)) epoch now
              (who-is s t new cur past is.history) is.from_partner;
          to_partner = parts_sent-came s all_turned lists.to_joiner x new (cur ∷ past) is.to_partner;
        };
        store = stands.store;
        opened = added x b (stored s.k s.id (new ∷ (cur ∷ past))) (stored s.k s.id (with_came x new ∷ (cur ∷ past)))
            stands.opened (stored-came s.k s.id x new (cur ∷ past));
        links = stands.links;
        taken_up_to = up_to-grown (s.epoch + length past + 1) (partner_of s t (length past)) (Moved epoch x)
            t.from_joiner (omega arith, tt) stands.taken_up_to;
      }
