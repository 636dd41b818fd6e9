-- The parts of a call, one after another: posts, and a line of the journal.
use Rattle.std.proofs.Common.{◌≡◌, ℕ, ◌^◌, ◌<◌, refl, sym, ◌∙◌, ap, subst, not, ◌&&◌, List, [], ◌∷◌, ◌++◌, append_assoc}
use Rattle.std.proofs.Common.{reverse}
use Rattle.std.proofs.lemmas.List.{append-nil, reverse-append}
use Rattle.std.proofs.lemmas.List.Elements.{filter_map-append, All-append, All-nil}
use Rattle.row_cells.specs.Lists.{IsPrefix}
use Rattle.epoch_tags.specs.declared.actor.Actor.{Actor}
use Rattle.epoch_tags.specs.declared.actor.Actor.TheVariants.{Controller}
use Rattle.epoch_tags.specs.declared.message.Post.{Post}
use Rattle.epoch_tags.specs.declared.message.ToController.{ToController}
use Rattle.epoch_tags.specs.Posts.{GoesOver, AllGoOver, posted_to_feeder, for_feeder}
use Rattle.epoch_tags.specs.Held.{held_at}
use Rattle.load_controller.specs.declared.line.Cause.{Cause}
use Rattle.load_controller.specs.declared.line.TurnLine.{TurnLine}
use Rattle.load_controller.specs.declared.ledger.Ledger.{Ledger}
use Rattle.load_controller.specs.Journal.{Rules, Follows, line_after}
use Rattle.load_controller.specs.Law.{ControllerLists, CountsMessages, is_over, sent_by}
use Rattle.load_controller.specs.Standing.{with_message, with_sent, posts_for, posts_by}
use Rattle.epoch_tags.specs.Messages.{settled_epochs}
use Rattle.load_controller.specs.Machine.{HoldsSettled, IsSound, StandsWithin, Advances, Took, CauseFits, CountsCause}
use Rattle.load_controller.specs.Machine.{rules_of, posts_of}
use Rattle.load_controller.proofs.KeptCounts.{line_is, rules_kept}
use Rattle.load_controller.proofs.LinePosts.{line_over}
use Rattle.load_controller.proofs.Standings.{same_line}

-- ---- posts, one after another

-- lists to which no post is added, with the journal that they have, are the same lists
pub sent_none : (lists : ControllerLists) (journal : List TurnLine) → journal ≡ lists.journal
    → lists ≡ with_sent lists [] journal
sent_none lists journal same = λ i. record {
  from_feeder = lists.from_feeder;
  from_joiner = lists.from_joiner;
  to_feeder = λ p. sym (append-nil (lists.to_feeder p)) i;
  journal = sym same i;
}

-- posts sent in two parts leave the same lists as those of both sent at once
pub sent_twice : (lists : ControllerLists) (a b : List Post) (j j' : List TurnLine)
    → with_sent (with_sent lists a j) b j' ≡ with_sent lists (a ++ b) j'
sent_twice lists a b j j' = λ i. record {
  from_feeder = lists.from_feeder;
  from_joiner = lists.from_joiner;
  to_feeder = λ p.
      (append_assoc (lists.to_feeder p) (posted_to_feeder p a) (posted_to_feeder p b)
      ∙ ap (λ ms. lists.to_feeder p ++ ms) (sym (filter_map-append (λ post. for_feeder p post.to post.msg) a b))) i;
  journal = j';
}

-- a journal begins with itself
pub prefix_self : (xs : List TurnLine) → IsPrefix xs xs
prefix_self xs = record { rest = []; joins = append-nil xs }

-- a beginning of a journal's beginning is a beginning of the journal
pub prefix_then : (a b c : List TurnLine) → IsPrefix a b → IsPrefix b c → IsPrefix a c
prefix_then a b c p q = record {
  rest = p.rest ++ q.rest;
  joins = sym (append_assoc a p.rest q.rest)
      ∙ ap (λ xs. xs ++ q.rest) p.joins ∙ q.joins;
}

-- lists that keep the law within a call still do where no post is added
abbrev pub sent_within : (r : Rules) (first : TurnLine) (lists : ControllerLists) (journal : List TurnLine) (held : ℕ
    → List ℕ) (w : StandsWithin r first lists journal held)
    → StandsWithin r first (with_sent lists [] journal) journal held
sent_within r first lists journal held w = record {
  line = w.line;
  past = w.past;
  newest = w.newest;
  same = refl;
  follows = w.follows;
  counts = w.counts;
  settles = w.settles;
  sends = λ p low. append-nil (lists.to_feeder p) ∙ w.sends p low;
}

-- ---- nothing, and one part after another

-- a ledger that stays as it is, with nothing sent, has done a part of a call
pub advances_none : (c : Ledger) (posts : List Post) → Advances c c posts posts
advances_none c posts = record {
  state = refl;
  rules = refl;
  grows = prefix_self c.journal;
  added = [];
  sends = sym (append-nil posts);
  posted = sym (append-nil (posts_by (rules_of c) (reverse c.journal)));
  over = All-nil (GoesOver c.k c.feeders Controller);
  stands = λ first lists w. subst (λ ls. StandsWithin (rules_of c) first ls c.journal (held_at c.held))
      (sent_none lists c.journal w.same) w;
}

-- the posts of two parts
pub posted_both : (r r' : Rules) (x y z : List TurnLine) (a b : List Post) → r' ≡ r → posts_by r y ≡ posts_by r x ++ a
    → posts_by r' z ≡ posts_by r' y ++ b → posts_by r z ≡ posts_by r x ++ (a ++ b)
posted_both r r' x y z a b same one two =
    let two' : posts_by r z ≡ posts_by r y ++ b = subst (λ q. posts_by q z ≡ posts_by q y ++ b) same two in
    two' ∙ ap (λ ps. ps ++ b) one ∙ append_assoc (posts_by r x) a b

-- the posts of two parts go over the controller's links, where those of each part do
pub over_both : (r r' : Rules) (a b : List Post) → r' ≡ r → AllGoOver r.k r.feeders Controller a
    → AllGoOver r'.k r'.feeders Controller b → AllGoOver r.k r.feeders Controller (a ++ b)
over_both r r' a b same one two =
    All-append (GoesOver r.k r.feeders Controller) a b one (subst (λ (q : Rules). AllGoOver q.k q.feeders Controller b)
    same two)

module _ (r r' : Rules) (first : TurnLine) (lists : ControllerLists) (a b : List Post) (j j' : List TurnLine)
    (h h' : ℕ → List ℕ) where
  -- from lists with the first part's posts to those with both
  pub stands_both : r' ≡ r → StandsWithin r first (with_sent lists a j) j h
      → (StandsWithin r' first (with_sent lists a j) j h → StandsWithin r' first (with_sent (with_sent lists a j) b j')
      j' h') → StandsWithin r first (with_sent lists (a ++ b) j') j' h'
  stands_both same w moves =
      let moved = moves (subst (λ q. StandsWithin q first (with_sent lists a j) j h) (sym same) w) in
      subst (λ ls. StandsWithin r first ls j' h') (sent_twice lists a b j j')
      (subst (λ q. StandsWithin q first (with_sent (with_sent lists a j) b j') j' h') same moved)

-- one part of a call and another after it are a part of the call
pub advances_then : (a b c : Ledger) (pa pb pc : List Post) → Advances a b pa pb → Advances b c pb pc
    → Advances a c pa pc
advances_then a b c pa pb pc one two = record {
  state = one.state ∙ two.state;
  rules = two.rules ∙ one.rules;
  grows = prefix_then a.journal b.journal c.journal one.grows two.grows;
  added = one.added ++ two.added;
  sends = two.sends ∙ ap (λ ps. ps ++ two.added) one.sends ∙ append_assoc pa one.added two.added;
  posted = posted_both (rules_of a) (rules_of b) (reverse a.journal) (reverse b.journal) (reverse c.journal)
      one.added two.added one.rules one.posted two.posted;
  over = over_both (rules_of a) (rules_of b) one.added two.added one.rules one.over two.over;
  stands = λ first lists w.
      stands_both (rules_of a) (rules_of b) first lists one.added two.added b.journal c.journal (held_at b.held)
      (held_at c.held) one.rules (one.stands first lists w)
      (λ w'. two.stands first (with_sent lists one.added b.journal) w');
}

-- a part that was handed the message and another after it are a part that was handed the message
pub took_then : (from : Actor) (m : ToController) (a b c : Ledger) (pa pb pc : List Post) → Took from m a b pa pb
    → Advances b c pb pc → Took from m a c pa pc
took_then from m a b c pa pb pc one two = record {
  state = one.state ∙ two.state;
  rules = two.rules ∙ one.rules;
  grows = prefix_then a.journal b.journal c.journal one.grows two.grows;
  added = one.added ++ two.added;
  sends = two.sends ∙ ap (λ ps. ps ++ two.added) one.sends ∙ append_assoc pa one.added two.added;
  posted = posted_both (rules_of a) (rules_of b) (reverse a.journal) (reverse b.journal) (reverse c.journal)
      one.added two.added one.rules one.posted two.posted;
  over = over_both (rules_of a) (rules_of b) one.added two.added one.rules one.over two.over;
  stands = λ first lists w.
      stands_both (rules_of a) (rules_of b) first (with_message from m lists) one.added two.added b.journal c.journal
      (held_at b.held) (held_at c.held) one.rules (one.stands first lists w)
      (λ w'. two.stands first (with_sent (with_message from m lists) one.added b.journal) w');
}

-- ---- a line more

-- of a cause that was counted: the new line, and the posts for it
pub record AddsLine (cause : Cause) (old new : Ledger) (past : List TurnLine) (before after : List Post) : Type 0 where
  pub rules : rules_of new ≡ rules_of old
  pub held : new.held ≡ old.held
  pub line : line_after (rules_of old) old.line past cause ≡ new.line
  pub journal : new.journal ≡ old.journal ++ new.line ∷ []
  pub sends : after ≡ before ++ posts_for (rules_of old) new.line old.line past
  pub posted : posts_by (rules_of old) (reverse new.journal) ≡ posts_by (rules_of old) (reverse old.journal)
      ++ posts_for (rules_of old) new.line old.line past

-- where a cause was counted, its line is the journal's last, and the posts for that line were sent
pub adds_line : (cause : Cause) (old new : Ledger) (before after : List Post) (s : IsSound old) → IsSound new
    → CountsCause cause old new before after → AddsLine cause old new s.past before after
adds_line cause old new before after s t c =
    let notes = c.notes in
    let rules = rules_kept old new new.line notes in
    let turned : reverse new.journal ≡ new.line ∷ old.line ∷ s.past =
    ap reverse notes.journal ∙ reverse-append old.journal (new.line ∷ []) ∙ ap (λ ls. new.line ∷ ls) s.newest in
    let both : new.line ∷ t.past ≡ new.line ∷ old.line ∷ s.past = sym t.newest ∙ turned in
    let rest : t.past ≡ old.line ∷ s.past = cc in
    let over : new.over ≡ is_over old.feeders (new.line ∷ old.line ∷ s.past) =
    t.over ∙ ap (λ n. is_over n (new.line ∷ t.past)) notes.feeders
    ∙ ap (λ ls. is_over old.feeders (new.line ∷ ls)) rest in
    let ends : (not old.over && new.over) ≡ (not (is_over old.feeders (old.line ∷ s.past))
    && is_over old.feeders (new.line ∷ old.line ∷ s.past)) =
    ap (λ b. not b && new.over) s.over ∙ ap (λ b. not (is_over old.feeders (old.line ∷ s.past)) && b) over in
    let posts : posts_of old.feeders new.line old.line (not old.over && new.over)
    ≡ posts_for (rules_of old) new.line old.line s.past = ap (λ b. posts_of old.feeders new.line old.line b) ends in
    record {
      rules = rules;
      held = notes.held;
      line = sym (line_is old s cause) ∙ sym c.line;
      journal = notes.journal;
      sends = c.sends ∙ ap (λ ps. before ++ ps) posts;
      posted = ap (posts_by (rules_of old)) turned ∙ ap (λ ls. posts_by (rules_of old) ls
          ++ posts_for (rules_of old) new.line old.line s.past) (sym s.newest);
    }

-- these posts go over the controller's links, where a line of this cause may come
pub over_line : (cause : Cause) (old new : Ledger) (before after : List Post) (s : IsSound old) → CauseFits old cause
    → CountsCause cause old new before after
    → AllGoOver old.k old.feeders Controller (posts_for (rules_of old) new.line old.line s.past)
over_line cause old new before after s fits c =
    line_over old new.line old.line s.past (subst (λ x. CauseFits old x) (sym (ap (λ (l : TurnLine). l.cause) c.line))
    fits)

module _ (r : Rules) (first : TurnLine) (lists : ControllerLists) (old new : TurnLine) (past : List TurnLine)
    (cause : Cause) (journal journal' : List TurnLine) (held : ℕ → List ℕ) where
  -- lists that stand with the line that a past makes stand with the machine's
  pub stands_with : line_after r old past cause ≡ new → journal' ≡ journal ++ new ∷ []
      → StandsWithin r first (with_sent lists (posts_for r (line_after r old past cause) old past) (journal ++
      line_after r old past cause ∷ [])) (journal ++ line_after r old past cause ∷ []) held
      → StandsWithin r first (with_sent lists (posts_for r new old past) journal') journal' held
  stands_with is grows w =
      subst (λ js. StandsWithin r first (with_sent lists (posts_for r new old past) js) js held) (sym grows)
      (subst (λ l. StandsWithin r first (with_sent lists (posts_for r l old past) (journal ++ l ∷ []))
      (journal ++ l ∷ [])
      held) is w)

module _ (r : Rules) (first : TurnLine) (lists : ControllerLists) (journal : List TurnLine) (held : ℕ → List ℕ)
    (w : StandsWithin r first lists journal held) where
  -- the same, with the last line and the past as the machine has them
  abbrev pub recast : (line : TurnLine) (past : List TurnLine) → reverse journal ≡ line ∷ past → line ≡ w.line
      → past ≡ w.past → StandsWithin r first lists journal held
  recast line past newest same_line same_past = record {
    line = line;
    past = past;
    newest = newest;
    same = w.same;
    follows = subst (λ l. Follows r first (l ∷ past)) (sym same_line)
        (subst (λ ls. Follows r first (w.line ∷ ls)) (sym same_past) w.follows);
    counts = subst (λ l. (q : ℕ) → q < r.feeders → CountsMessages q l past (lists.from_feeder q)) (sym same_line)
        (subst (λ ls. (q : ℕ) → q < r.feeders → CountsMessages q w.line ls (lists.from_feeder q)) (sym same_past)
        w.counts);
    settles = subst (λ l. (j : ℕ) → j < 2 ^ r.k → HoldsSettled j l past (held j) (settled_epochs (lists.from_joiner j)))
        (sym same_line) (subst (λ ls. (j : ℕ) → j < 2 ^ r.k → HoldsSettled j w.line ls (held j)
        (settled_epochs (lists.from_joiner j))) (sym same_past) w.settles);
    sends = subst (λ l. (q : ℕ) → q < r.feeders → lists.to_feeder q ≡ sent_by r q (l ∷ past)) (sym same_line)
        (subst (λ ls. (q : ℕ) → q < r.feeders → lists.to_feeder q ≡ sent_by r q (w.line ∷ ls)) (sym same_past) w.sends);
  }

-- pasts that are one begin with the same line
pub first_same : (a b : TurnLine) (xs ys : List TurnLine) → a ∷ xs ≡ b ∷ ys → a ≡ b
first_same a b xs ys e = cc

-- and go on with the same past
pub rest_same : (a b : TurnLine) (xs ys : List TurnLine) → a ∷ xs ≡ b ∷ ys → xs ≡ ys
rest_same a b xs ys e = cc
