-- Each kind of step keeps the rule of an inbox.
use Rattle.std.proofs.Common.{◌≡◌, ◌≢◌, ℕ, ◌+◌, ◌^◌, ◌<◌, ◌≤◌, Bool, true, false, cond, eqb, true≢false, List, [], ◌∷◌}
use Rattle.std.proofs.Common.{◌++◌, length, set, sym, refl, ap, ◌∙◌, subst, ⊎_elim, append_assoc, append-nil}
use Rattle.std.proofs.Common.{length-append, arith, eq-eqb, eqb-true, ne_eqb}
use Rattle.std.proofs.lemmas.List.Elements.{filter-append}
use mathlib.Core.Option.{some, some-injective, some-ne-none}
use native.Mathlib.Decide.{ℕ_discrete}
use lib.ListN.{get_elem?}
use Rattle.crossbeam_queue.specs.Fifo.{Pushes, Pops, Forks, Merges, Learns}
use Rattle.crossbeam_queue.proofs.Lists.{at_set, at_last, set_else}
use Rattle.row_cells.specs.Lists.{IsPrefix}
use Rattle.epoch_tags.specs.declared.message.Envelope.{Envelope}
use Rattle.ruled_links.specs.declared.delivery.InboxHand.{InboxHand}
use Rattle.ruled_links.specs.Order.{Stands}
use Rattle.ruled_links.specs.Delivery.{number_of, of_sender, inbox_hand, known_of, has_sender, PutsFor, InboxFits}
use Rattle.ruled_links.specs.Delivery.{IsKept, IsDelivered}
use Rattle.ruled_links.proofs.Places.{at_here, at_front, at_end, at_more, Each, Each-set, Stands-set}
use Rattle.ruled_links.proofs.OrderLemmas.{longer, counts}

-- ---- the messages of one sender

-- a list one longer, by a message of this sender
pub of_more : (n : ℕ) (ms : List Envelope) (x : Envelope) → number_of x.from ≡ n
    → of_sender n (ms ++ x ∷ []) ≡ of_sender n ms ++ x ∷ []
of_more n ms x e = filter-append (λ (m : Envelope). eqb (number_of m.from) n) ms (x ∷ [])
    ∙ ap (λ (b : Bool). of_sender n ms ++ cond b (x ∷ []) []) (eq-eqb (number_of x.from) n e)

-- a list one longer, by a message of another
pub of_other : (n : ℕ) (ms : List Envelope) (x : Envelope) → number_of x.from ≢ n
    → of_sender n (ms ++ x ∷ []) ≡ of_sender n ms
of_other n ms x e = filter-append (λ (m : Envelope). eqb (number_of m.from) n) ms (x ∷ [])
    ∙ ap (λ (b : Bool). of_sender n ms ++ cond b (x ∷ []) []) (ne_eqb (number_of x.from) n e)
    ∙ append-nil (of_sender n ms)

-- of messages behind messages a sender's are those among the first and then those among the others
pub of_both : (n : ℕ) (xs ys : List Envelope) → of_sender n (xs ++ ys) ≡ of_sender n xs ++ of_sender n ys
of_both n xs ys = filter-append (λ (m : Envelope). eqb (number_of m.from) n) xs ys

-- ---- the pass of each sender

-- the pass of each sender, where one sender gets another
abbrev seated : ℕ → ℕ → (ℕ → ℕ) → ℕ → ℕ
seated n top seat m = cond (eqb m n) top (seat m)

seated_here : (n top : ℕ) (seat : ℕ → ℕ) → top ≡ seated n top seat n
seated_here n top seat = ap (λ (b : Bool). cond b top (seat n)) (sym (eq-eqb n n refl))

seated_else : (n top : ℕ) (seat : ℕ → ℕ) (m : ℕ) → m ≢ n → seat m ≡ seated n top seat m
seated_else n top seat m e = ap (λ (b : Bool). cond b top (seat m)) (sym (ne_eqb m n e))

-- ---- what is known

has_here : (n : ℕ) (s : List Envelope) (known : List (ℕ × List Envelope)) → has_sender ((n, s) ∷ known) n ≡ true
has_here n s known = ap (λ (b : Bool). cond b true (has_sender known n)) (eq-eqb n n refl)

-- who is found among the others is found in the whole list, whoever stands first
pub has_if : (b c : Bool) → c ≡ true → cond b true c ≡ true
has_if true c e = refl
has_if false c e = e

has_else : (n m : ℕ) (s : List Envelope) (known : List (ℕ × List Envelope)) → n ≢ m
    → has_sender ((n, s) ∷ known) m ≡ true → has_sender known m ≡ true
has_else n m s known apart e = ap (λ (b : Bool). cond b true (has_sender known m)) (sym (ne_eqb n m apart)) ∙ e

kept_if : (known : List (ℕ × List Envelope)) (s s₀ : List Envelope) (m : ℕ) (b : Bool) → (b ≡ true → IsPrefix s₀ s)
    → IsKept known m s
    → IsPrefix (cond b s₀ (known_of known m)) s × (cond b true (has_sender known m) ≡ false → s ≡ [])
kept_if known s s₀ m true f k = (f refl, λ p. absurd (true≢false p))
kept_if known s s₀ m false f k = (k.prefix, k.none)

-- what is known of one sender is told anew
kept_new : (known : List (ℕ × List Envelope)) (n m : ℕ) (s₀ s : List Envelope) → (n ≡ m → IsPrefix s₀ s)
    → IsKept known m s → IsKept ((n, s₀) ∷ known) m s
kept_new known n m s₀ s f k = let both = kept_if known s s₀ m (eqb n m) (λ e. f (eqb-true n m e)) k in
    record { prefix = both.0; none = both.1; few = k.few }

-- one more was sent, by a sender that may send more
kept_put : (known : List (ℕ × List Envelope)) (n : ℕ) (sent : List Envelope) (x : Envelope)
    → (number_of x.from ≡ n → (has_sender known n ≡ true) × (length (of_sender n sent) < 2 ^ 62))
    → IsKept known n (of_sender n sent) → Dec (number_of x.from ≡ n) → IsKept known n (of_sender n (sent ++ x ∷ []))
kept_put known n sent x f k (yes e) = let s : List Envelope = of_sender n sent in
    subst (λ (l : List Envelope). IsKept known n l) (sym (of_more n sent x e))
    (record {
      prefix = longer (x ∷ []) k.prefix;
      none = λ p. absurd (true≢false (sym (f e).0 ∙ p));
      few = let a : length s < 2 ^ 62 = (f e).1 in omega (arith, length-append s (x ∷ []));
    })
kept_put known n sent x f k (no e) = subst (λ (l : List Envelope). IsKept known n l) (sym (of_other n sent x e)) k

-- ---- the steps

-- a new queue keeps the rule: it holds nothing, its one pass takes, and it has no sender
pub begins : IsDelivered [] (inbox_hand false true 0 [] [] [] ∷ [])
begins = let first = inbox_hand false true 0 [] [] [] in record {
  seat = λ _. 0;
  receiver = 0;
  known = [];
  sent = [];
  received = [];
  joins = refl;
  kept = λ n. record { prefix = record { rest = []; joins = refl }; none = λ _. refl; few = omega arith };
  puts = λ n p. absurd (true≢false (sym p));
  takes = (first, refl, refl);
  fits = λ j u e. Each-set (InboxFits (λ _. 0) 0 [] [] []) (first ∷ []) 0 first
      (record { puts = λ p. absurd (true≢false (sym p)); takes = λ _. (refl, refl, refl) })
      (λ j u other e. absurd (other (at_end [] first u j (λ x. some-ne-none u (sym x)) e))) j u e;
}

-- a push by a sender's pass keeps the rule: the message joins what that one sent, which were fewer than 2^62 messages
pub puts : (n pass : ℕ) (v : InboxHand) (x : Envelope) → v.puts ≡ true → number_of x.from ≡ v.sender
    → length v.sent < 2 ^ 62 → Pushes IsDelivered n pass v x
    (λ w. w ≡ inbox_hand v.puts v.takes v.sender (v.sent ++ x ∷ []) v.received v.known)
puts n pass v x may is few = λ items hands _ h at.
    let w : InboxHand = inbox_hand v.puts v.takes v.sender (v.sent ++ x ∷ []) v.received v.known in
    let mine = h.fits pass v at in
    let own = mine.puts may in
    let sent : List Envelope = h.sent ++ x ∷ [] in (
      w,
      record {
        seat = h.seat;
        receiver = h.receiver;
        known = h.known;
        sent = sent;
        received = h.received;
        joins = sym (append_assoc h.received items (x ∷ [])) ∙ ap (λ l. l ++ x ∷ []) h.joins;
        kept = λ m. kept_put h.known m h.sent x
            (λ e. (
              subst (λ (k : ℕ). has_sender h.known k ≡ true) (sym is ∙ e) own.2,
              subst (λ (k : ℕ). length (of_sender k h.sent) < 2 ^ 62) (sym is ∙ e)
                  (subst (λ (l : List Envelope). length l < 2 ^ 62) own.1 few),
            ))
            (h.kept m) (ℕ_discrete (number_of x.from) m);
        puts = λ m has. Stands-set (PutsFor m) hands pass (h.seat m) v w at (λ p. p) (h.puts m has);
        takes = Stands-set (λ u. u.takes ≡ true) hands pass h.receiver v w at (λ p. p) h.takes;
        fits = Each-set (InboxFits h.seat h.receiver h.known sent h.received) hands pass w
            (record {
              puts = λ _. (own.0, ap (λ l. l ++ x ∷ []) own.1 ∙ sym (of_more v.sender h.sent x is), own.2);
              takes = mine.takes;
            })
            (λ j u other e. let fit = h.fits j u e in record {
              puts = λ p. (
                (fit.puts p).0,
                (fit.puts p).1 ∙ sym (of_other u.sender h.sent x
                    (λ q. other ((fit.puts p).0 ∙ ap h.seat (sym q ∙ is) ∙ sym own.0))),
                (fit.puts p).2,
              );
              takes = fit.takes;
            });
      },
      refl,
    )

-- an actor that sent something is a sender
sender_of : (b : Bool) (s : List Envelope) → (b ≡ false → s ≡ []) → 0 < length s → b ≡ true
sender_of true s f more = refl
sender_of false s f more = absurd (omega (arith, ap length (f refl)))

-- a message that was taken is one of those that its sender sent
taken_is_sent : (r items sent : List Envelope) (x : Envelope) → r ++ x ∷ items ≡ sent
    → (0 < length (of_sender (number_of x.from) sent)) × (length (of_sender (number_of x.from) (r ++ x ∷ []))
    ≤ length (of_sender (number_of x.from) sent))
taken_is_sent r items sent x e = let n = number_of x.from in let r' : List Envelope = r ++ x ∷ [] in
    let split : of_sender n sent ≡ of_sender n r' ++ of_sender n items =
    ap (λ (l : List Envelope). of_sender n l) (sym e ∙ sym (append_assoc r (x ∷ []) items)) ∙ of_both n r' items in
    let a : length (of_sender n sent) ≡ length (of_sender n r') + length (of_sender n items) =
    ap length split ∙ length-append (of_sender n r') (of_sender n items) in
    let b : length (of_sender n r') ≡ length (of_sender n r) + 1 =
    ap length (of_more n r x refl) ∙ length-append (of_sender n r) (x ∷ []) in (
      omega arith,
      omega arith,
    )

-- a pop by the pass that takes keeps the rule: the message is the last of what was received, and its sender is one of
-- the inbox's, of whom at most 2^62 messages have then been received
pub takes : (pass : ℕ) (v : InboxHand) → v.takes ≡ true → Pops IsDelivered pass v
    (λ x w. (w ≡ inbox_hand v.puts v.takes v.sender v.sent (v.received ++ x ∷ []) v.known)
    × (has_sender v.known (number_of x.from) ≡ true) × (length (of_sender (number_of x.from) (v.received ++ x ∷ []))
    ≤ 2 ^ 62))
takes pass v may x items hands h at =
    let w : InboxHand = inbox_hand v.puts v.takes v.sender v.sent (v.received ++ x ∷ []) v.known in
    let mine = h.fits pass v at in
    let own = mine.takes may in
    let received : List Envelope = h.received ++ x ∷ [] in
    let n = number_of x.from in
    let shown = taken_is_sent h.received items h.sent x h.joins in (
      w,
      record {
        seat = h.seat;
        receiver = h.receiver;
        known = h.known;
        sent = h.sent;
        received = received;
        joins = append_assoc h.received (x ∷ []) items ∙ h.joins;
        kept = h.kept;
        puts = λ m has. Stands-set (PutsFor m) hands pass (h.seat m) v w at (λ p. p) (h.puts m has);
        takes = Stands-set (λ u. u.takes ≡ true) hands pass h.receiver v w at (λ p. p) h.takes;
        fits = Each-set (InboxFits h.seat h.receiver h.known h.sent received) hands pass w
            (record { puts = mine.puts; takes = λ _. (own.0, ap (λ l. l ++ x ∷ []) own.1, own.2) })
            (λ j u other e. let fit = h.fits j u e in record {
              puts = fit.puts;
              takes = λ p. absurd (other ((fit.takes p).0 ∙ sym own.0));
            });
      },
      (
        refl,
        subst (λ (ks : List (ℕ × List Envelope)). has_sender ks n ≡ true) (sym own.2)
            (sender_of (has_sender h.known n) (of_sender n h.sent) (h.kept n).none shown.0),
        (let few = (h.kept n).few in let more = shown.1 in
            subst (λ (l : List Envelope). length (of_sender n (l ++ x ∷ [])) ≤ 2 ^ 62) (sym own.1) (omega arith)),
      ),
    )

-- each sender still has its pass, where one more pass is cut off for the sender n
stands_cut : (known : List (ℕ × List Envelope)) (n m : ℕ) (s : List Envelope) (pass : ℕ) (v left right : InboxHand)
    (hands : List InboxHand) (seat : ℕ → ℕ) → get_elem? hands pass ≡ some v → (v.puts ≡ true → v.sender ≡ n)
    → PutsFor n right
    → (has_sender known m ≡ true → Stands (PutsFor m) hands (seat m)) → has_sender ((n, s) ∷ known) m ≡ true
    → Dec (n ≡ m)
    → Stands (PutsFor m) (set hands pass left ++ right ∷ []) (seated n (length (set hands pass left)) seat m)
stands_cut known n m s pass v left right hands seat at own may old has (yes e) =
    let cut : List InboxHand = set hands pass left in let top = length cut in
    subst (λ (k : ℕ). Stands (PutsFor k) (cut ++ right ∷ []) (seated n top seat k)) e (
      right,
      subst (λ (j : ℕ). get_elem? (cut ++ right ∷ []) j ≡ some right) (seated_here n top seat)
          (at_last cut right top refl),
      may,
    )
stands_cut known n m s pass v left right hands seat at own may old has (no e) =
    let cut : List InboxHand = set hands pass left in let top = length cut in
    let q : Stands (PutsFor m) hands (seat m) = old (has_else n m s known e has) in
    let apart : seat m ≢ pass = λ x. let is : q.0 ≡ v = some-injective q.0 v
    (sym q.1 ∙ (ap (λ (j : ℕ). get_elem? hands j) x ∙ at)) in
    e (sym (own (subst (λ (u : InboxHand). u.puts ≡ true) is q.2.0))
    ∙ subst (λ (u : InboxHand). u.sender ≡ m) is q.2.1) in
    subst (λ (k : ℕ). Stands (PutsFor m) (cut ++ right ∷ []) k) (seated_else n top seat m (λ x. e (sym x)))
    (q.0, at_front cut (seat m) q.0 right (set_else hands pass (seat m) left apart ∙ q.1), q.2)

module _ (n : ℕ) (s : List Envelope) (pass : ℕ) (v : InboxHand) where
  -- a sender's pass is cut off the receiver's, which keeps its list as known
  cut : v.takes ≡ true → (v.puts ≡ true → v.sender ≡ n)
      → (items : List Envelope) (hands : List InboxHand) (h : IsDelivered items hands) → get_elem? hands pass ≡ some v
      → s ≡ of_sender n h.sent → ((j : ℕ) (u : InboxHand) → j ≢ pass → get_elem? hands j ≡ some u → u.puts ≡ true
      → u.sender ≢ n)
      → IsDelivered items (set hands pass (inbox_hand false true 0 [] v.received ((n, s) ∷ v.known))
      ++ inbox_hand true false n s [] [] ∷ [])
  cut may own items hands h at is apart =
      let left : InboxHand = inbox_hand false true 0 [] v.received ((n, s) ∷ v.known) in
      let right : InboxHand = inbox_hand true false n s [] [] in
      let mine = (h.fits pass v at).takes may in
      let vs : List InboxHand = set hands pass left in
      let known : List (ℕ × List Envelope) = (n, s) ∷ h.known in
      let seat : ℕ → ℕ = seated n (length vs) h.seat in
      let Fit : ℕ → InboxHand → Type 0 = InboxFits seat h.receiver known h.sent h.received in
      let old : Each Fit vs = Each-set Fit hands pass left
      (record { puts = λ p. absurd (true≢false (sym p)); takes = λ _. (mine.0, mine.1, ap (λ ks. (n, s) ∷ ks) mine.2) })
      (λ j u other e. let fit = h.fits j u e in record {
        puts = λ p. (
          (fit.puts p).0 ∙ seated_else n (length vs) h.seat u.sender (apart j u other e p),
          (fit.puts p).1,
          has_if (eqb n u.sender) (has_sender h.known u.sender) (fit.puts p).2,
        );
        takes = λ p. absurd (other ((fit.takes p).0 ∙ sym mine.0));
      }) in
      let stands = Stands-set (λ u. u.takes ≡ true) hands pass h.receiver v left at (λ _. refl) h.takes in
      let new : Fit (length vs) right = record {
        puts = λ _. (seated_here n (length vs) h.seat, is, has_here n s h.known);
        takes = λ p. absurd (true≢false (sym p));
      } in
      record {
        seat = seat;
        receiver = h.receiver;
        known = known;
        sent = h.sent;
        received = h.received;
        joins = h.joins;
        kept = λ m. kept_new h.known n m s (of_sender m h.sent)
            (λ e. record { rest = []; joins = append-nil s ∙ is ∙ ap (λ (k : ℕ). of_sender k h.sent) e }) (h.kept m);
        puts = λ m has. stands_cut h.known n m s pass v left right hands h.seat at own (
          refl,
          refl,
        ) (h.puts m) has (ℕ_discrete n m);
        takes = (stands.0, at_front vs h.receiver stands.0 right stands.1, stands.2);
        fits = λ j u e. ⊎_elim (λ (x : get_elem? vs j ≡ some u). old j u x)
            (λ (t : (j ≡ length vs) × (right ≡ u)). subst (λ (y : ℕ × InboxHand). Fit y.0 y.1) (λ i. (sym t.0 i, t.1 i))
            new) (at_more vs right u j e);
      }

-- a pass for a new sender is cut off the receiver's, and the rule stays: that one has sent nothing
pub opens : (n pass : ℕ) (v : InboxHand) → v.takes ≡ true → v.puts ≡ false → has_sender v.known n ≡ false
    → Forks IsDelivered pass v (inbox_hand false true 0 [] v.received ((n, []) ∷ v.known))
    (inbox_hand true false n [] [] [])
opens n pass v may none new items hands h at =
    let new' : has_sender h.known n ≡ false = subst (λ (ks : List (ℕ × List Envelope)). has_sender ks n ≡ false)
    ((h.fits pass v at).takes may).2 new in
    cut n [] pass v may (λ p. absurd (true≢false (sym p ∙ none))) items hands h at (sym ((h.kept n).none new'))
    (λ j u other e p q. true≢false (sym ((h.fits j u e).puts p).2 ∙ ap (λ (k : ℕ). has_sender h.known k) q ∙ new'))

-- a sender's pass is cut off the one that has both, and the rule stays: the receiver's knows all that this one sent
pub parts : (pass : ℕ) (v : InboxHand) → v.puts ≡ true → v.takes ≡ true
    → Forks IsDelivered pass v (inbox_hand false true 0 [] v.received ((v.sender, v.sent) ∷ v.known))
    (inbox_hand true false v.sender v.sent [] [])
parts pass v may_put may_take items hands h at = let mine = (h.fits pass v at).puts may_put in
    cut v.sender v.sent pass v may_take (λ _. refl) items hands h at mine.1
    (λ j u other e p q. other (((h.fits j u e).puts p).0 ∙ ap h.seat q ∙ sym mine.0))

-- each sender still has its pass, where the pass of the sender n is joined into another that has no sender
stands_met : (n m pass other : ℕ) (v u both spent : InboxHand) (hands : List InboxHand) (seat : ℕ → ℕ)
    → get_elem? hands pass ≡ some v → v.puts ≡ false → get_elem? hands other ≡ some u → u.sender ≡ n → pass ≢ other
    → PutsFor n both
    → Stands (PutsFor m) hands (seat m) → Dec (m ≡ n) → Stands (PutsFor m) (set (set hands pass both) other spent)
    (seated n pass seat m)
stands_met n m pass other v u both spent hands seat at none at' is two may q (yes e) =
    let met : List InboxHand = set (set hands pass both) other spent in
    subst (λ (k : ℕ). Stands (PutsFor k) met (seated n pass seat k)) (sym e) (
      both,
      subst (λ (j : ℕ). get_elem? met j ≡ some both) (seated_here n pass seat)
          (set_else (set hands pass both) other pass spent two ∙ at_here hands pass v both at),
      may,
    )
stands_met n m pass other v u both spent hands seat at none at' is two may q (no e) =
    let met : List InboxHand = set (set hands pass both) other spent in
    let not_pass : seat m ≢ pass = λ x. let same : q.0 ≡ v = some-injective q.0 v
    (sym q.1 ∙ (ap (λ (j : ℕ). get_elem? hands j) x ∙ at)) in
    true≢false (sym (subst (λ (y : InboxHand). y.puts ≡ true) same q.2.0) ∙ none) in
    let not_other : seat m ≢ other = λ x. let same : q.0 ≡ u = some-injective q.0 u
    (sym q.1 ∙ (ap (λ (j : ℕ). get_elem? hands j) x ∙ at')) in
    e (sym (subst (λ (y : InboxHand). y.sender ≡ m) same q.2.1) ∙ is) in
    subst (λ (k : ℕ). Stands (PutsFor m) met k) (seated_else n pass seat m e) (
      q.0,
      set_else (set hands pass both) other (seat m) spent not_other
          ∙ (set_else hands pass (seat m) both not_pass ∙ q.1),
      q.2,
    )

-- a sender's pass is joined into the receiver's, where that doesn't put, and the rule stays
pub meets : (pass : ℕ) (v : InboxHand) (other : ℕ) (u : InboxHand) → v.takes ≡ true → v.puts ≡ false → u.puts ≡ true
    → Merges IsDelivered pass v other u (inbox_hand true true u.sender u.sent v.received v.known)
    (inbox_hand false false 0 [] [] [])
meets pass v other u may_take none may_put = λ items hands h at two at'.
    let both : InboxHand = inbox_hand true true u.sender u.sent v.received v.known in
    let spent : InboxHand = inbox_hand false false 0 [] [] [] in
    let mine = (h.fits pass v at).takes may_take in
    let joined : List InboxHand = set hands pass both in
    let was : get_elem? hands other ≡ some u = ⊎_elim (λ (x : (other ≡ pass) × (both ≡ u)). absurd (two x.0))
    (λ (x : (other ≢ pass) × (get_elem? hands other ≡ some u)). x.1) (at_set hands pass other both u at') in
    let theirs = (h.fits other u was).puts may_put in
    let seat : ℕ → ℕ = seated u.sender pass h.seat in
    let Fit : ℕ → InboxHand → Type 0 = InboxFits seat pass h.known h.sent h.received in
    let fit : Each (λ j y. j ≢ other → Fit j y) joined = Each-set (λ j y. j ≢ other → Fit j y) hands pass both
    (λ _. record {
      puts = λ _. (seated_here u.sender pass h.seat, theirs.1, theirs.2);
      takes = λ _. (refl, mine.1, mine.2);
    })
    (λ j y _ e apart. let those = h.fits j y e in record {
      puts = λ p. (
        (those.puts p).0 ∙ seated_else u.sender pass h.seat y.sender
            (λ q. apart ((those.puts p).0 ∙ ap h.seat q ∙ sym theirs.0)),
        (those.puts p).1,
        (those.puts p).2,
      );
      takes = λ p. ((those.takes p).0 ∙ sym mine.0, (those.takes p).1, (those.takes p).2);
    }) in
    let stands : get_elem? (set joined other spent) pass ≡ some both =
    set_else joined other pass spent (λ e. two (sym e)) ∙ at_here hands pass v both at in
    record {
      seat = seat;
      receiver = pass;
      known = h.known;
      sent = h.sent;
      received = h.received;
      joins = h.joins;
      kept = h.kept;
      puts = λ m has. stands_met u.sender m pass other v u both spent hands h.seat at none was refl (λ e. two (sym e))
          (refl, refl) (h.puts m has) (ℕ_discrete m u.sender);
      takes = (both, stands, refl);
      fits = Each-set Fit joined other spent (record {
        puts = λ p. absurd (true≢false (sym p));
        takes = λ p. absurd (true≢false (sym p));
      }) (λ j y apart e. fit j y e apart);
    }

-- what is known of each sender and was not received is left
pub leaves : (pass : ℕ) (v : InboxHand) → v.takes ≡ true → Learns IsDelivered pass v (λ items. (n : ℕ)
    → length (known_of v.known n) ≤ length (of_sender n v.received) + length (of_sender n items))
leaves pass v may items hands h at n = let mine = (h.fits pass v at).takes may in let front = (h.kept n).prefix in
    let split : of_sender n h.received ++ of_sender n items ≡ of_sender n h.sent =
    sym (of_both n h.received items) ∙ ap (λ (l : List Envelope). of_sender n l) h.joins in
    subst (λ (y : List (ℕ × List Envelope) × List Envelope). length (known_of y.0 n) ≤ length (of_sender n y.1)
    + length (of_sender n items)) (λ i. (sym mine.2 i, sym mine.1 i))
    (counts (known_of h.known n) front.rest (of_sender n h.received) (of_sender n items) (of_sender n h.sent)
    front.joins split)

-- a look of the pass that has both: what its sender, one of the inbox, sent is what was received of it and then what
-- the queue holds of it, and what is known of each sender and was not received is left
pub looks : (pass : ℕ) (v : InboxHand) → v.puts ≡ true → v.takes ≡ true
    → Learns IsDelivered pass v (λ items. (v.sent ≡ of_sender v.sender v.received ++ of_sender v.sender items)
    × (has_sender v.known v.sender ≡ true) × ((n : ℕ) → length (known_of v.known n) ≤ length (of_sender n v.received)
    + length (of_sender n items)))
looks pass v may_put may_take items hands h at = let mine = h.fits pass v at in let own = mine.puts may_put in
    let got = mine.takes may_take in (
      own.1 ∙ ap (λ (l : List Envelope). of_sender v.sender l) (sym h.joins) ∙ of_both v.sender h.received items
          ∙ ap (λ (l : List Envelope). of_sender v.sender l ++ of_sender v.sender items) (sym got.1),
      subst (λ (ks : List (ℕ × List Envelope)). has_sender ks v.sender ≡ true) (sym got.2) own.2,
      leaves pass v may_take items hands h at,
    )
