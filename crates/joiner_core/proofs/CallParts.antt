-- Parts of a call, one after another.
use Rattle.std.proofs.Common.{◌≡◌, ℕ, ◌+◌, ◌^◌, ◌<◌, zero, suc, inl, inr, refl, sym, ◌∙◌, ap, subst, arith, List, []}
use Rattle.std.proofs.Common.{◌∷◌, ◌++◌, length, append_assoc, get_or-set_other, set}
use Rattle.std.specs.Prelude.{slice_set, sum_by, slice_index_or}
use Rattle.std.proofs.Math.ListN.{length-set}
use Rattle.std.proofs.lemmas.List.{append-nil}
use Rattle.std.proofs.lemmas.List.Sums.{sum_by-cons}
use Rattle.std.proofs.lemmas.Bool.{cases_eq, false≢true}
use Rattle.epoch_tags.specs.declared.actor.Actor.TheVariants.{Feeder, Joiner as Joiner'}
use Rattle.epoch_tags.specs.declared.tuple.Pair.{Pair}
use Rattle.epoch_tags.specs.declared.message.Post.{Post}
use Rattle.epoch_tags.specs.declared.message.ToJoiner.{ToJoiner}
use Rattle.epoch_tags.specs.Held.{held_at}
use Rattle.joiner_law.specs.Law.{JoinerLists}
use Rattle.joiner_law.specs.Standing.{with_sent}
use Rattle.joiner_law.proofs.LongerLists.{grown-same, grown-other}
use Rattle.joiner_core.specs.State.{EpochState, MachineState}
use Rattle.joiner_core.proofs.RowWidths.{same-rows, rows-taken}
use Rattle.joiner_core.specs.Taking.{IsFixed, TookOfFeeder, TookOfJoiner, TakesOfJoiner}
use Rattle.joiner_core.specs.Machine.{StandsWithin, IsResting, Advances, IsSound, IsReadyOfJoiner, TookHeld}
use Rattle.joiner_core.proofs.Replays.{does-first-feeder, does-first-joiner}
use Rattle.joiner_core.proofs.OwnPosts.{own-none, own-append, own-before}
use Rattle.joiner_core.proofs.SentPosts.{quiet-append, with_sent-none, with_sent-append}

-- where nothing is done, the machine stands for the lists for which it stood
pub advances-none : (m : MachineState) (waiting : List Pair) (posts : List Post)
    → Advances m m waiting waiting posts posts
advances-none m waiting posts = record {
  added = [];
  sends = sym (append-nil posts);
  quiet = refl;
  own = own-none m.epochs;
  told = refl;
  fixed = record { k = refl; id = refl; feeders = refl; theta = refl };
  rests = λ at. (refl, refl);
  stands = λ s lists is. subst (λ (ls : JoinerLists). StandsWithin s ls waiting m) (sym (with_sent-none lists)) is;
}

-- where two changes one after the other each leave what no call changes, so do they together
pub fixed-then : (a b c : EpochState) → IsFixed a b → IsFixed b c → IsFixed a c
fixed-then a b c one two = record {
  k = two.k ∙ one.k;
  id = two.id ∙ one.id;
  feeders = two.feeders ∙ one.feeders;
  theta = two.theta ∙ one.theta;
}

module _ (a b c : MachineState) (wa wb wc : List Pair) (pa pb pc : List Post) where
  -- two parts of a call one after the other are one, with the posts of both
  pub advances-then : Advances a b wa wb pa pb → Advances b c wb wc pb pc → Advances a c wa wc pa pc
  advances-then first second = record {
    added = first.added ++ second.added;
    sends = second.sends ∙ ap (λ zs. zs ++ second.added) first.sends ∙ append_assoc pa first.added second.added;
    quiet = quiet-append first.added second.added first.quiet second.quiet;
    own = own-append a.epochs first.added second.added first.own
        (own-before a.epochs b.epochs second.added first.fixed second.own);
    told = second.told ∙ first.told;
    fixed = fixed-then a.epochs b.epochs c.epochs first.fixed second.fixed;
    rests = λ at.
        let one = first.rests at in
        let two = second.rests (subst (λ (z : EpochState). IsResting z) (sym one.0) at) in
        (two.0 ∙ one.0, two.1 ∙ one.1);
    stands = λ s lists is.
        subst (λ (ls : JoinerLists). StandsWithin s ls wc c) (with_sent-append lists first.added second.added)
        (second.stands s (with_sent lists first.added) (first.stands s lists is));
  }

module _ (old new : MachineState) (p : ℕ) (m : ToJoiner) (w w' : List Pair) (before after : List Post) where
  -- the first of those held of feeder p is taken
  pub advances-held : p < length old.of_feeders → old.epochs.feeders ≡ length old.of_feeders
      → p < length old.epochs.ended → TookOfFeeder p m old.epochs new.epochs w w' before after
      → held_at old.of_feeders p ≡ m ∷ held_at new.of_feeders p
      → new.of_feeders ≡ slice_set old.of_feeders p (held_at new.of_feeders p) → new.of_joiners ≡ old.of_joiners
      → new.told ≡ old.told → Advances old new w w' before after
  advances-held low count within took first rest same told = record {
    added = took.added;
    sends = took.sends;
    quiet = took.quiet;
    own = took.own;
    told = told;
    fixed = record { k = took.k; id = took.id; feeders = took.feeders; theta = took.theta };
    rests = λ at. absurd (false≢true (sym took.going ∙ at.ended p within));
    stands = λ s lists is.
        let many = is.stands.fixed.feeders in
        let after = took.stands s is.taken lists (omega arith) is.stands in
        let t' = after.0 in
        record {
          taken = t';
          stands = after.2;
          feeders = λ q less. elim (cases_eq q p) [
            | inl here ↦
                let grows : t'.from_feeder p ≡ is.taken.from_feeder p ++ m ∷ [] =
                ap (λ (f : ℕ → List ToJoiner). f p) after.1.from_feeder ∙ grown-same p m is.taken.from_feeder in
                let was = is.feeders p (omega arith) in
                rw here (ap (λ zs. zs ++ held_at new.of_feeders p) grows
                ∙ append_assoc (is.taken.from_feeder p) (m ∷ []) (held_at new.of_feeders p)
                ∙ ap (λ zs. is.taken.from_feeder p ++ zs) (sym first) ∙ was)
            | inr other ↦
                let keeps : t'.from_feeder q ≡ is.taken.from_feeder q =
                ap (λ (f : ℕ → List ToJoiner). f q) after.1.from_feeder
                ∙ grown-other p m is.taken.from_feeder q other in
                let queue : held_at new.of_feeders q ≡ held_at old.of_feeders q =
                ap (λ zs. held_at zs q) rest ∙ get_or-set_other old.of_feeders p q (held_at new.of_feeders p) []
                other in
                ap (λ zs. zs ++ held_at new.of_feeders q) keeps ∙ ap (λ zs. is.taken.from_feeder q ++ zs) queue
                ∙ is.feeders q less
          ];
          joiners = λ q less. ap (λ (f : ℕ → List ToJoiner). f q ++ held_at new.of_joiners q) after.1.from_joiner
              ∙ ap (λ zs. is.taken.from_joiner q ++ held_at zs q) same ∙ is.joiners q less;
        };
  }

module _ (old new : MachineState) (q : ℕ) (m : ToJoiner) (w w' : List Pair) (before after : List Post) where
  -- the first of those held of joiner q is taken
  pub advances-held-joiner : TookOfJoiner q m old.epochs new.epochs w w' before after
      → held_at old.of_joiners q ≡ m ∷ held_at new.of_joiners q
      → new.of_joiners ≡ slice_set old.of_joiners q (held_at new.of_joiners q) → new.of_feeders ≡ old.of_feeders
      → new.told ≡ old.told → Advances old new w w' before after
  advances-held-joiner took first rest same told = record {
    added = took.added;
    sends = took.sends;
    quiet = took.quiet;
    own = took.own;
    told = told;
    fixed = record { k = took.k; id = took.id; feeders = took.feeders; theta = took.theta };
    rests = λ at. absurd (took.opened at.closed);
    stands = λ s lists is.
        let after = took.stands s is.taken lists is.stands in
        let t' = after.0 in
        record {
          taken = t';
          stands = after.2;
          feeders = λ j less. ap (λ (f : ℕ → List ToJoiner). f j ++ held_at new.of_feeders j) after.1.from_feeder
              ∙ ap (λ zs. is.taken.from_feeder j ++ held_at zs j) same ∙ is.feeders j less;
          joiners = λ j less. elim (cases_eq j q) [
            | inl here ↦
                let grows : t'.from_joiner q ≡ is.taken.from_joiner q ++ m ∷ [] =
                ap (λ (f : ℕ → List ToJoiner). f q) after.1.from_joiner ∙ grown-same q m is.taken.from_joiner in
                let was : is.taken.from_joiner q ++ held_at old.of_joiners q ≡ lists.from_joiner q =
                subst (λ (i : ℕ). is.taken.from_joiner i ++ held_at old.of_joiners i ≡ lists.from_joiner i) here
                (is.joiners j less) in
                rw here (ap (λ zs. zs ++ held_at new.of_joiners q) grows
                ∙ append_assoc (is.taken.from_joiner q) (m ∷ []) (held_at new.of_joiners q)
                ∙ ap (λ zs. is.taken.from_joiner q ++ zs) (sym first) ∙ was)
            | inr other ↦
                let keeps : t'.from_joiner j ≡ is.taken.from_joiner j =
                ap (λ (f : ℕ → List ToJoiner). f j) after.1.from_joiner
                ∙ grown-other q m is.taken.from_joiner j other in
                let queue : held_at new.of_joiners j ≡ held_at old.of_joiners j =
                ap (λ zs. held_at zs j) rest ∙ get_or-set_other old.of_joiners q j (held_at new.of_joiners q) []
                other in
                ap (λ zs. zs ++ held_at new.of_joiners j) keeps ∙ ap (λ zs. is.taken.from_joiner j ++ zs) queue
                ∙ is.joiners j less
          ];
        };
  }

-- a queue without its first message
sum-fewer : (qs : List (List ToJoiner)) (i : ℕ) (m : ToJoiner) (rest : List ToJoiner) → i < length qs
    → held_at qs i ≡ m ∷ rest → sum_by length (set qs i rest) + 1 ≡ sum_by length qs
sum-fewer [] i m rest low is = absurd (omega arith)
sum-fewer (q ∷ qs) zero m rest low is =
    let a = sum_by-cons length rest qs in let b = sum_by-cons length q qs in
    let n : length q ≡ length (m ∷ rest) = ap length is in
    omega arith
sum-fewer (q ∷ qs) (suc i) m rest low is =
    let a = sum_by-cons length q (set qs i rest) in let b = sum_by-cons length q qs in
    let n = sum-fewer qs i m rest (omega arith) is in
    omega arith

fewer-of : (old new : List (List ToJoiner)) (i : ℕ) (m : ToJoiner) → i < length old → held_at old i ≡ m ∷ held_at new i
    → new ≡ slice_set old i (held_at new i) → sum_by length new + 1 ≡ sum_by length old
fewer-of old new i m low first rest = let n = sum-fewer old i m (held_at new i) low first in
    let e : sum_by length new ≡ sum_by length (slice_set old i (held_at new i)) = ap (λ qs. sum_by length qs) rest in
    omega arith

module _ (old new : MachineState) (queues : List (List ToJoiner)) (p : ℕ) (m : ToJoiner) (w w' : List Pair)
    (before after : List Post) where
  -- where a sound machine takes the first message held of feeder p as a call would, and holds the others as before, it
  -- took a held message
  pub took-held-feeder : IsSound old → p < old.epochs.feeders → held_at old.of_feeders p ≡ m ∷ held_at queues p
      → queues ≡ slice_set old.of_feeders p (held_at queues p)
      → new ≡ record old { of_feeders = queues; epochs = new.epochs }
      → TookOfFeeder p m old.epochs new.epochs w w' before after → TookHeld (Feeder p) old new w w' before after
  took-held-feeder sound low first rest state took =
      let f : new.of_feeders ≡ queues = ap (λ (z : MachineState). z.of_feeders) state in
      let j : new.of_joiners ≡ old.of_joiners = ap (λ (z : MachineState). z.of_joiners) state in
      let count = sound.feeders in
      let within : p < length old.of_feeders = omega arith in
      let first' : held_at old.of_feeders p ≡ m ∷ held_at new.of_feeders p =
      subst (λ (qs : List (List ToJoiner)). held_at old.of_feeders p ≡ m ∷ held_at qs p) (sym f) first in
      let rest' : new.of_feeders ≡ slice_set old.of_feeders p (held_at new.of_feeders p) =
      subst (λ (qs : List (List ToJoiner)). qs ≡ slice_set old.of_feeders p (held_at qs p)) (sym f) rest in
      record {
        sound = record {
          within = took.within;
          feeders = ap length rest' ∙ length-set old.of_feeders p (held_at new.of_feeders p) ∙ sound.feeders
              ∙ sym took.feeders;
          joiners = ap length j ∙ sound.joiners ∙ ap (λ k. 2 ^ k) (sym took.k);
          feeder_rows = same-rows _ _ _ _ took.theta refl (rows-taken old.epochs.theta old.of_feeders new.of_feeders p m
              within first' rest' sound.feeder_rows);
          joiner_rows = same-rows _ _ _ _ took.theta j sound.joiner_rows;
        };
        advances = advances-held old new p m w w' before after within (sym sound.feeders) (let n = sound.within.ended in
            omega arith) took first' rest' j (ap (λ (z : MachineState). z.told) state);
        given = (record { first = m; rest = first'; others = rest' }, j);
        does = does-first-feeder old new queues p m w w' before after first rest state took.does;
        fewer = let n = fewer-of old.of_feeders new.of_feeders p m within first' rest' in
            let e : sum_by length new.of_joiners ≡ sum_by length old.of_joiners = ap (λ qs. sum_by length qs) j in
            omega arith;
      }

same-first : (x y : ToJoiner) (xs ys zs : List ToJoiner) → zs ≡ x ∷ xs → zs ≡ y ∷ ys → x ≡ y
same-first x y xs ys zs one two = ap (λ ms. slice_index_or ms 0 x) (sym one ∙ two)

module _ (old new : MachineState) (queues : List (List ToJoiner)) (q : ℕ) (m : ToJoiner) (w w' : List Pair)
    (before after : List Post) where
  -- so it is of the first message held of joiner q, if it can be taken
  pub took-held-joiner : IsSound old → IsReadyOfJoiner old q → held_at old.of_joiners q ≡ m ∷ held_at queues q
      → queues ≡ slice_set old.of_joiners q (held_at queues q)
      → new ≡ record old { of_joiners = queues; epochs = new.epochs }
      → ((j : ℕ) → TakesOfJoiner old.epochs j m → TookOfJoiner j m old.epochs new.epochs w w' before after)
      → TookHeld (Joiner' q) old new w w' before after
  took-held-joiner sound ready first rest state takes =
      let f : new.of_joiners ≡ queues = ap (λ (z : MachineState). z.of_joiners) state in
      let j : new.of_feeders ≡ old.of_feeders = ap (λ (z : MachineState). z.of_feeders) state in
      let count = sound.joiners in
      let low = ready.low in
      let within : q < length old.of_joiners = omega arith in
      let first' : held_at old.of_joiners q ≡ m ∷ held_at new.of_joiners q =
      subst (λ (qs : List (List ToJoiner)). held_at old.of_joiners q ≡ m ∷ held_at qs q) (sym f) first in
      let rest' : new.of_joiners ≡ slice_set old.of_joiners q (held_at new.of_joiners q) =
      subst (λ (qs : List (List ToJoiner)). qs ≡ slice_set old.of_joiners q (held_at qs q)) (sym f) rest in
      let which : ready.first ≡ m = same-first ready.first m ready.begins.0 (held_at queues q)
      (held_at old.of_joiners q)
      ready.begins.1 first in
      let took = takes q (subst (λ (z : ToJoiner). TakesOfJoiner old.epochs q z) which ready.can) in
      record {
        sound = record {
          within = took.within;
          feeders = ap length j ∙ sound.feeders ∙ sym took.feeders;
          joiners = ap length rest' ∙ length-set old.of_joiners q (held_at new.of_joiners q) ∙ sound.joiners
              ∙ ap (λ k. 2 ^ k) (sym took.k);
          feeder_rows = same-rows _ _ _ _ took.theta j sound.feeder_rows;
          joiner_rows = same-rows _ _ _ _ took.theta refl (rows-taken old.epochs.theta old.of_joiners new.of_joiners q m
              within first' rest' sound.joiner_rows);
        };
        advances = advances-held-joiner old new q m w w' before after took first' rest' j
            (ap (λ (z : MachineState). z.told) state);
        given = (record { first = m; rest = first'; others = rest' }, j);
        does = does-first-joiner old new queues q m w w' before after first rest state took.does;
        fewer = let n = fewer-of old.of_joiners new.of_joiners q m within first' rest' in
            let e : sum_by length new.of_feeders ≡ sum_by length old.of_feeders = ap (λ qs. sum_by length qs) j in
            omega arith;
      }
