-- The end of a call, and the call as a whole.
use Rattle.std.proofs.Common.{◌≡◌, ℕ, ◌+◌, ◌^◌, ◌<◌, ◌≤◌, refl, sym, ◌∙◌, ap, subst, arith, Bool, true, false, Option}
use Rattle.std.proofs.Common.{Some, None, List, [], ◌∷◌, ◌++◌, length, append_assoc}
use Rattle.std.specs.Prelude.{flat_map, map}
use Rattle.std.proofs.lemmas.List.Concat.{flat_map-append}
use Rattle.row_cells.specs.Lists.{SameBag}
use Rattle.row_cells.proofs.Everywhere.{all-append}
use Rattle.epoch_tags.specs.declared.actor.Actor.{Actor}
use Rattle.epoch_tags.specs.declared.tuple.Pair.{Pair}
use Rattle.epoch_tags.specs.declared.message.Post.{Post}
use Rattle.epoch_tags.specs.declared.message.ToJoiner.{ToJoiner}
use Rattle.epoch_tags.specs.declared.message.ToCollector.{ToCollector}
use Rattle.epoch_tags.specs.Messages.{pairs_found}
use Rattle.std.specs.List.{AllByRecursion}
use Rattle.std.proofs.lemmas.List.{map-append, length-append, append-nil}
use Rattle.std.proofs.lemmas.Bool.{false≢true}
use Rattle.std.proofs.lemmas.List.Elements.{filter_map-append}
use Rattle.epoch_tags.specs.declared.message.ToCollector.TheVariants.{Found}
use Rattle.epoch_tags.specs.declared.actor.Actor.TheVariants.{Feeder, Joiner as Joiner', Controller, Collector}
use Rattle.epoch_tags.specs.Posts.{for_collector, posted_to_joiner, posted_to_controller, posted_to_collector}
use Rattle.epoch_tags.specs.Flags.{IsEachUp}
use Rattle.epoch_tags.specs.Held.{held_at}
use Rattle.joiner_law.specs.Law.{JoinerStart, JoinerLists, Taken, pairs_by, received_count}
use Rattle.joiner_law.specs.History.{all_found}
use Rattle.joiner_law.specs.Standing.{with_sent, pairs_sent}
use Rattle.joiner_core.specs.State.{OpenStep, EpochState, MachineState}
use Rattle.joiner_core.specs.Taking.{StandsBy, Stands, HasSomeTurn, IsFixed}
use Rattle.joiner_core.proofs.CallParts.{fixed-then}
use Rattle.joiner_core.specs.Machine.{StandsWithin, StandsBetween, IsStart, Collects, IsResting, IsOfGrid, Advances}
use Rattle.joiner_core.specs.Machine.{IsSound, IsStuck, Accepts, Receives, TellsFin, HasFinished, with_message}
use Rattle.joiner_core.specs.Machine.{StandInOrder, AreTried, IsLastAtMost}
use Rattle.joiner_core.specs.Outcomes.{Does}
use Rattle.joiner_core.specs.Calls.{found_posts, fin_posts, fin_of, accepts as accepting, takes_all_held, plays}
use Rattle.joiner_core.specs.Machine.{post_to_collector}
use Rattle.joiner_law.proofs.MovedBySteps.{gathered-more}
use Rattle.joiner_core.proofs.OwnPosts.{own-append, own-before, own-found, own-fin}
use Rattle.joiner_core.proofs.SentPosts.{quiet-append, with_sent-none, with_sent-append}
use Rattle.joiner_core.proofs.AcceptedMessages.{with_other, PairsMove, stands-other}
use Rattle.joiner_core.proofs.LawTests.{tests-feeder, tests-joiner}
use Rattle.joiner_core.proofs.Outcomes.{does-then}
use Rattle.joiner_core.proofs.Replays.{call-state, call-posts}

-- posts to the collector alone
only-collected : (lists : JoinerLists) (posts : List Post) → ((j : ℕ) → posted_to_joiner j posts ≡ [])
    → posted_to_controller posts ≡ []
    → with_sent lists posts ≡ with_other lists lists.from_feeder lists.from_joiner
    (lists.to_collector ++ posted_to_collector posts)
only-collected lists posts joiners controller = λ i. record {
  from_feeder = lists.from_feeder;
  from_joiner = lists.from_joiner;
  to_joiner = λ j. none (lists.to_joiner j) (posted_to_joiner j posts) (joiners j) i;
  to_controller = none lists.to_controller (posted_to_controller posts) controller i;
  to_collector = lists.to_collector ++ posted_to_collector posts;
}
  where
    none : {X : Type 0} (xs ys : List X) → ys ≡ [] → xs ++ ys ≡ xs
    none xs ys is = ap (λ zs. xs ++ zs) is ∙ append-nil xs

within-collected : (s : JoinerStart) (lists : JoinerLists) (w w' : List Pair) (posts : List Post) (m : MachineState)
    → ((j : ℕ) → posted_to_joiner j posts ≡ []) → posted_to_controller posts ≡ []
    → PairsMove s lists w (lists.to_collector ++ posted_to_collector posts) w' → StandsWithin s lists w m
    → StandsWithin s (with_sent lists posts) w' m
within-collected s lists w w' posts m joiners controller moves is = record {
  taken = is.taken;
  stands = subst (λ (ls : JoinerLists). Stands s is.taken ls w' m.epochs)
      (sym (only-collected lists posts joiners controller))
      (stands-other s is.taken lists lists.from_feeder lists.from_joiner
      (lists.to_collector ++ posted_to_collector posts) w w' m.epochs moves is.stands);
  feeders = is.feeders;
  joiners = is.joiners;
}

pairs-move : (s : JoinerStart) (lists : JoinerLists) (w : List Pair) (zs : List ToCollector) (w' : List Pair)
    → flat_map pairs_found zs ++ w' ≡ pairs_sent lists ++ w → PairsMove s lists w zs w'
pairs-move s lists w zs w' same steps is = record {
  pairs = λ older. subst (λ (xs : List Pair). SameBag xs (all_found s.matches s.epoch s.k s.id steps))
      (sym (moved (pairs_by s.matches s.base s.base))) (is.pairs older);
}
  where
    moved : (base : List Pair) → (flat_map pairs_found zs ++ w') ++ base ≡ (pairs_sent lists ++ w) ++ base
    moved base = ap (λ xs. xs ++ base) same

within-found : (s : JoinerStart) (lists : JoinerLists) (w : List Pair) (m : MachineState) → StandsWithin s lists w m
    → StandsWithin s (with_sent lists (found_posts w)) [] m
within-found s lists [] m is = subst (λ (ls : JoinerLists). StandsWithin s ls [] m) (sym (with_sent-none lists)) is
within-found s lists (p ∷ ps) m is =
    within-collected s lists (p ∷ ps) [] (found_posts (p ∷ ps)) m (λ j. refl) refl
    (pairs-move s lists (p ∷ ps) (lists.to_collector ++ posted_to_collector (found_posts (p ∷ ps))) []
    (append-nil _ ∙ flat_map-append pairs_found lists.to_collector (posted_to_collector (found_posts (p ∷ ps)))
    ∙ ap (λ xs. pairs_sent lists ++ xs) (append-nil (p ∷ ps)))) is

within-fin : (s : JoinerStart) (lists : JoinerLists) (now : Bool) (b m : MachineState) → StandsWithin s lists [] m
    → StandsWithin s (with_sent lists (fin_posts now b)) [] m
within-fin s lists false b m is = subst (λ (ls : JoinerLists). StandsWithin s ls [] m) (sym (with_sent-none lists)) is
within-fin s lists true b m is =
    within-collected s lists [] [] (fin_posts true b) m (λ j. refl) refl
    (pairs-move s lists [] (lists.to_collector ++ posted_to_collector (fin_posts true b)) []
    (ap (λ xs. xs ++ []) (flat_map-append pairs_found lists.to_collector (posted_to_collector (fin_posts true b))
    ∙ append-nil (pairs_sent lists)))) is

done-by : (s : JoinerStart) (t : Taken) (lists : JoinerLists) (w : List Pair) (m : EpochState) (step : Option OpenStep)
    → StandsBy s t lists w m step → (done : ℕ) × (m.epoch ≡ s.epoch + done)
done-by s t lists w m None is = (length is.past, is.epoch)
done-by s t lists w m (Some o) is = (length is.past, is.epoch)

-- between calls
pub stands-for : (s : JoinerStart) (lists : JoinerLists) (m : MachineState) → IsStart s → IsSound m → IsStuck m
    → Collects s lists m → StandsWithin s lists [] m → StandsBetween s lists m
stands-for s lists m start sound stuck collects is =
    let settled = done-by s is.taken lists [] m.epochs m.epochs.step is.stands.now in
    let many = is.stands.fixed.feeders in
    let k = is.stands.fixed.k in
    let some : HasSomeTurn s.feeders m.epochs.step = subst (λ (n : ℕ). HasSomeTurn n m.epochs.step)
    many sound.within.begun in
    record {
      start = start;
      sound = sound;
      within = is;
      done = settled.0;
      settled = settled.1;
      collects = collects;
      of_feeders = λ p low. record {
        held = held_at m.of_feeders p;
        splits = is.feeders p low;
        stuck = λ x rest held can. stuck.feeders p (omega arith) x rest held
            ((tests-feeder s is.taken lists [] m.epochs settled.0 p x low settled.1 some is.stands).1 can);
      };
      of_joiners = λ q low. record {
        held = held_at m.of_joiners q;
        splits = is.joiners q low;
        stuck = λ x rest held can. stuck.joiners q (subst (λ (n : ℕ). q < 2 ^ n) (sym k) low) x rest held
            ((tests-joiner s is.taken lists [] m.epochs settled.0 q x settled.1 some is.stands).1 can);
      };
    }

-- ---- what is sent to the collector

-- the pairs of one call
abbrev founds_of : List Pair → List (List Pair)
founds_of [] = []
founds_of (p ∷ ps) = (p ∷ ps) ∷ []

abbrev fins_if : Bool → MachineState → List ToCollector
fins_if true b = fin_of b.epochs ∷ []
fins_if false b = []

posted-append : (xs ys : List Post) → posted_to_collector (xs ++ ys) ≡ posted_to_collector xs ++ posted_to_collector ys
posted-append xs ys = filter_map-append (λ post. for_collector post.to post.msg) xs ys

posted-found : (w : List Pair) → posted_to_collector (found_posts w) ≡ map Found (founds_of w)
posted-found [] = refl
posted-found (p ∷ ps) = refl

posted-fin : (now : Bool) (b : MachineState) → posted_to_collector (fin_posts now b) ≡ fins_if now b
posted-fin true b = refl
posted-fin false b = refl

same-collected : (from : Actor) (m : ToJoiner) (lists : JoinerLists)
    → (with_message from m lists).to_collector ≡ lists.to_collector
same-collected (Feeder p) m lists = refl
same-collected (Joiner' q) m lists = refl
same-collected Controller m lists = refl
same-collected Collector m lists = refl

collected : (from : Actor) (m : ToJoiner) (lists : JoinerLists) (a1 a2 : List Post) (w : List Pair) (now : Bool)
    (b : MachineState) → posted_to_collector a1 ≡ [] → posted_to_collector a2 ≡ []
    → (with_message from m lists).to_collector ++ posted_to_collector (((a1 ++ a2) ++ found_posts w) ++ fin_posts now b)
    ≡ lists.to_collector ++ (map Found (founds_of w) ++ fins_if now b)
collected from m lists a1 a2 w now b one two =
    let quiet = quiet-append a1 a2 one two in
    let posted : posted_to_collector (((a1 ++ a2) ++ found_posts w) ++ fin_posts now b) ≡ map Found (founds_of w)
    ++ fins_if now b =
    posted-append ((a1 ++ a2) ++ found_posts w) (fin_posts now b)
    ∙ ap (λ zs. zs ++ posted_to_collector (fin_posts now b)) (posted-append (a1 ++ a2) (found_posts w)
    ∙ ap (λ zs. zs ++ posted_to_collector (found_posts w)) quiet ∙ posted-found w)
    ∙ ap (λ zs. map Found (founds_of w) ++ zs) (posted-fin now b) in
    ap (λ zs. zs ++ posted_to_collector (((a1 ++ a2) ++ found_posts w) ++ fin_posts now b))
    (same-collected from m lists)
    ∙ ap (λ zs. lists.to_collector ++ zs) posted

one_at_most : (w : List Pair) → length (founds_of w) ≤ 1
one_at_most [] = omega arith
one_at_most (p ∷ ps) = omega arith

not_empty : (w : List Pair) → AllByRecursion (λ (ps : List Pair). 0 < length ps) (founds_of w)
not_empty [] = tt
not_empty (p ∷ ps) = (omega arith, tt)

resting : (m : MachineState) → HasFinished m → IsResting m.epochs
resting m has = record { closed = has.closed; ended = has.ended }

untold-by : (now : Bool) (b new : MachineState) → (now ≡ true → new.told ≡ true) → new.told ≡ false → fins_if now b ≡ []
untold-by true b new first low = absurd (false≢true (sym low ∙ first refl))
untold-by false b new first low = refl

told-by : (now : Bool) (b new : MachineState) → b.told ≡ false → new.epochs ≡ b.epochs → (now ≡ true → HasFinished b)
    → (now ≡ false → new.told ≡ b.told) → new.told ≡ true → (fins_if now b ≡ fin_of new.epochs ∷ [])
    × IsResting new.epochs
told-by true b new was same first other high = (
  ap (λ (z : EpochState). fin_of z ∷ []) (sym same),
  subst (λ (z : EpochState). IsResting z) (sym same) (resting b (first refl)),
)
told-by false b new was same first other high = absurd (false≢true (sym was ∙ sym (other refl) ∙ high))

not-now : (now : Bool) (b : Bool) → (now ≡ true → b ≡ false) → b ≡ true → now ≡ false
not-now true b first was = absurd (false≢true (sym (first refl) ∙ was))
not-now false b first was = refl

module _ (s : JoinerStart) (lists lists' : JoinerLists) (old b new : MachineState) (w : List Pair) (now : Bool)
    (was : Collects s lists old)
    (is : lists'.to_collector ≡ lists.to_collector ++ (map Found (founds_of w) ++ fins_if now b))
    (more : received_count s lists' ≡ received_count s lists + 1) (keeps : b.told ≡ old.told) where
  collects-more : new.epochs ≡ b.epochs → (IsResting old.epochs → (b.epochs ≡ old.epochs) × (w ≡ []))
      → (now ≡ true → (b.told ≡ false) × HasFinished b × (new.told ≡ true)) → (now ≡ false → new.told ≡ b.told)
      → (HasFinished new → new.told ≡ true) → (told : Bool) → old.told ≡ told → Collects s lists' new
  collects-more same rests first other finishes false low =
      let none = was.untold low in
      let few = was.few in
      let one = one_at_most w in
      record {
        founds = was.founds ++ founds_of w;
        last = fins_if now b;
        to_collector = is
            ∙ ap (λ zs. zs ++ (map Found (founds_of w) ++ fins_if now b))
            (was.to_collector ∙ ap (λ zs. map Found was.founds ++ zs) none ∙ append-nil (map Found was.founds))
            ∙ sym (append_assoc (map Found was.founds) (map Found (founds_of w)) (fins_if now b))
            ∙ ap (λ zs. zs ++ fins_if now b) (sym (map-append Found was.founds (founds_of w)));
        none_empty = all-append _ was.founds (founds_of w) was.none_empty (not_empty w);
        few = let size = length-append was.founds (founds_of w) in omega arith;
        untold = untold-by now b new (λ yes. (first yes).2);
        told = told-by now b new (keeps ∙ low) same (λ yes. (first yes).1) other;
        finishes = finishes;
      }
  collects-more same rests first other finishes true high =
      let before = was.told high in
      let quiet = rests before.1 in
      let still : now ≡ false = not-now now b.told (λ on. (first on).0) (keeps ∙ high) in
      let nothing : map Found (founds_of w) ++ fins_if now b ≡ [] =
      ap (λ ps. map Found (founds_of ps) ++ fins_if now b) quiet.1 ∙ ap (λ t. fins_if t b) still in
      let epochs : old.epochs ≡ new.epochs = sym (same ∙ quiet.0) in
      let few = was.few in
      record {
        founds = was.founds;
        last = was.last;
        to_collector = is ∙ ap (λ zs. lists.to_collector ++ zs) nothing ∙ append-nil lists.to_collector
            ∙ was.to_collector;
        none_empty = was.none_empty;
        few = omega arith;
        untold = λ no. absurd (false≢true (sym no ∙ other still ∙ keeps ∙ high));
        told = λ has. (
          before.0 ∙ ap (λ (z : EpochState). fin_of z ∷ []) epochs,
          subst (λ (z : EpochState). IsResting z) epochs before.1,
        );
        finishes = finishes;
      }

-- one message more was received
received-more : (s : JoinerStart) (from : Actor) (m : ToJoiner) (lists : JoinerLists) (posts : List Post)
    (e : EpochState) → e.feeders ≡ s.feeders → e.k ≡ s.k → IsOfGrid from e
    → received_count s (with_sent (with_message from m lists) posts) ≡ received_count s lists + 1
received-more s (Feeder p) m lists posts e many k low = let n = gathered-more p m lists.from_feeder s.feeders
    (omega arith) in omega arith
received-more s (Joiner' q) m lists posts e many k low = let n = gathered-more q m lists.from_joiner (2 ^ s.k)
    (subst (λ (i : ℕ). q < 2 ^ i) k low) in omega arith
received-more s Controller m lists posts e many k low = absurd low
received-more s Collector m lists posts e many k low = absurd low

finishes-by : {F : Type 0} (now b new : Bool) → (now ≡ true → new ≡ true) → (now ≡ false → new ≡ b)
    → (now ≡ false → b ≡ false → F → ⊥) → F → new ≡ true
finishes-by true b new first other never has = first refl
finishes-by false true new first other never has = other refl
finishes-by false false new first other never has = absurd (never refl refl has)

fin-is : (now : Bool) (b : MachineState) → fin_posts now b ≡ map post_to_collector (fins_if now b)
fin-is true b = refl
fin-is false b = refl

at-most-fin : (now : Bool) (b : MachineState) → IsLastAtMost (fins_if now b)
at-most-fin true b = refl
at-most-fin false b = tt

in-order : (a1 a2 : List Post) (w : List Pair) (now : Bool) (b : MachineState) → posted_to_collector a1 ≡ []
    → posted_to_collector a2 ≡ [] → StandInOrder (((a1 ++ a2) ++ found_posts w) ++ fin_posts now b)
in-order a1 a2 w now b one two = record {
  others = a1 ++ a2;
  pairs = w;
  last = fins_if now b;
  splits = ap (λ zs. ((a1 ++ a2) ++ found_posts w) ++ zs) (fin-is now b);
  quiet = quiet-append a1 a2 one two;
  at_most = at-most-fin now b;
}

-- the call as a whole
pub receives : (from : Actor) (m : ToJoiner) (old a b new : MachineState) (w0 w1 w2 : List Pair)
    (p0 p1 p2 p3 p4 : List Post) → IsOfGrid from old.epochs → w0 ≡ [] → Accepts from m old a w0 w1 p0 p1 → IsSound b
    → Advances a b w1 w2 p1 p2 → AreTried a b → IsStuck b
    → Does (takes_all_held a) b w1 w2 p1 p2
    → p3 ≡ p2 ++ found_posts w2 → new ≡ record b { told = new.told } → TellsFin b new.told p3 p4
    → Receives from m old new p0 p4
receives from m old a b new w0 w1 w2 p0 p1 p2 p3 p4 grid none accepts sound advances tried stuck held found state
    tells =
    let a1 = accepts.added in
    let a2 = advances.added in
    let a3 = found_posts w2 in
    let a4 = fin_posts tells.now b in
    let fixed : IsFixed old.epochs b.epochs = fixed-then old.epochs a.epochs b.epochs accepts.fixed advances.fixed in
    let same : b ≡ record new { told = a.told } =
    ap (λ t. record b { told = t }) advances.told ∙ sym (ap (λ (z : MachineState). record z { told = a.told }) state) in
    let sound' : IsSound new = subst (λ (z : MachineState). IsSound z) (sym state) (record {
      within = sound.within;
      feeders = sound.feeders;
      joiners = sound.joiners;
      feeder_rows = sound.feeder_rows;
      joiner_rows = sound.joiner_rows;
    }) in
    let stuck' : IsStuck new = subst (λ (z : MachineState). IsStuck z) (sym state) (record {
      feeders = stuck.feeders;
      joiners = stuck.joiners;
    }) in
    let played : Does (plays from m old) b [] w2 p0 p2 =
    subst (λ (w : List Pair). Does (plays from m old) b w w2 p0 p2) none
    (does-then (accepting from m old) takes_all_held a b w0 w1 w2 p0 p1 p2 accepts.does held) in
    let sends : p2 ≡ p0 ++ (a1 ++ a2) =
    advances.sends ∙ ap (λ zs. zs ++ a2) accepts.sends ∙ append_assoc p0 a1 a2 in
    record {
      sound = sound';
      fixed = subst (λ (z : MachineState). IsFixed old.epochs z.epochs) (sym state) fixed;
      added = ((a1 ++ a2) ++ a3) ++ a4;
      sends = tells.sends ∙ ap (λ zs. zs ++ a4) (found ∙ ap (λ zs. zs ++ a3)
          sends ∙ append_assoc p0 (a1 ++ a2) a3)
          ∙ append_assoc p0 ((a1 ++ a2) ++ a3) a4;
      own = own-append old.epochs ((a1 ++ a2) ++ a3) a4 (own-append old.epochs (a1 ++ a2) a3
          (own-append old.epochs a1 a2 accepts.own (own-before old.epochs a.epochs a2 accepts.fixed advances.own))
          (own-before old.epochs b.epochs a3 fixed (own-found b.epochs w2 sound.within.id)))
          (own-before old.epochs b.epochs a4 fixed (own-fin b tells.now sound.within.id));
      tried = record {
        accepted = a;
        message = accepts.taken;
        tried = subst (λ (z : MachineState). AreTried a z) same tried;
      };
      order = in-order a1 a2 w2 tells.now b accepts.quiet advances.quiet;
      state = call-state (plays from m old) b new w2 p0 p2 p3 p4 played state tells;
      posts = call-posts (plays from m old) b new w2 p0 p2 p3 p4 played state tells (a1 ++ a2) sends;
      stands = λ s lists is.
          let ls = with_message from m lists in
          let fixed = is.within.stands.fixed in
          let zero' : StandsWithin s lists w0 old = subst (λ (w : List Pair). StandsWithin s lists w old) (sym none)
          is.within in
          let one : StandsWithin s (with_sent ls a1) w1 a = accepts.stands s lists zero' in
          let two : StandsWithin s (with_sent ls (a1 ++ a2)) w2 b =
          subst (λ (l : JoinerLists). StandsWithin s l w2 b) (with_sent-append ls a1 a2)
          (advances.stands s (with_sent ls a1) one) in
          let three : StandsWithin s (with_sent ls ((a1 ++ a2) ++ a3)) [] b =
          subst (λ (l : JoinerLists). StandsWithin s l [] b) (with_sent-append ls (a1 ++ a2) a3)
          (within-found s (with_sent ls (a1 ++ a2)) w2 b two) in
          let four : StandsWithin s (with_sent ls (((a1 ++ a2) ++ a3) ++ a4)) [] b =
          subst (λ (l : JoinerLists). StandsWithin s l [] b) (with_sent-append ls ((a1 ++ a2) ++ a3) a4)
          (within-fin s (with_sent ls ((a1 ++ a2) ++ a3)) tells.now b b three) in
          let five : StandsWithin s (with_sent ls (((a1 ++ a2) ++ a3) ++ a4)) [] new =
          subst (λ (z : MachineState). StandsWithin s (with_sent ls (((a1 ++ a2) ++ a3) ++ a4)) [] z) (sym state)
          (record { taken = four.taken; stands = four.stands; feeders = four.feeders; joiners = four.joiners }) in
          let collects : Collects s (with_sent ls (((a1 ++ a2) ++ a3) ++ a4)) new =
          collects-more s lists (with_sent ls (((a1 ++ a2) ++ a3) ++ a4)) old b new w2 tells.now is.collects
          (collected from m lists a1 a2 w2 tells.now b accepts.quiet advances.quiet)
          (received-more s from m lists (((a1 ++ a2) ++ a3) ++ a4) old.epochs fixed.feeders fixed.k grid)
          (advances.told ∙ accepts.told) (ap (λ (z : MachineState). z.epochs) state)
          (λ at. let x = accepts.rests at in
          let y = advances.rests (subst (λ (z : EpochState). IsResting z) (sym x.0) at) in
          (y.0 ∙ x.0, y.1 ∙ x.1 ∙ none))
          tells.first (λ no. (tells.other no).0)
          (finishes-by tells.now b.told new.told (λ yes. (tells.first yes).2) (λ no. (tells.other no).0)
          (λ no going has. (tells.other no).1 going (record {
            closed = ap (λ (z : MachineState). z.epochs.step) (sym state) ∙ has.closed;
            ended = subst (λ (z : MachineState). IsEachUp z.epochs.ended) state has.ended;
            feeders = subst (λ (z : MachineState). (p : ℕ) → held_at z.of_feeders p ≡ []) state has.feeders;
            joiners = subst (λ (z : MachineState). (q : ℕ) → held_at z.of_joiners q ≡ []) state has.joiners;
          })))
          old.told refl in
          stands-for s (with_sent ls (((a1 ++ a2) ++ a3) ++ a4)) new is.start sound' stuck' collects five;
    }
