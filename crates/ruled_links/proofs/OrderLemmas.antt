-- Each kind of step keeps the rule of a link.
use Rattle.std.proofs.Common.{◌≡◌, ◌≢◌, ℕ, ◌+◌, ◌≤◌, true, false, true≢false, List, [], ◌∷◌, ◌++◌, length, set, sym}
use Rattle.std.proofs.Common.{refl, ap, ◌∙◌, ⊎_elim, append_assoc, append-nil, length-append, arith}
use mathlib.Core.Option.{some, some-ne-none}
use lib.ListN.{get_elem?}
use Rattle.crossbeam_queue.specs.Fifo.{Pushes, Pops, Forks, Merges, Learns, Held}
use Rattle.crossbeam_queue.proofs.Lists.{at_set, at_snoc, at_last, set_else}
use Rattle.row_cells.specs.Lists.{IsPrefix}
use Rattle.epoch_tags.specs.declared.message.Envelope.{Envelope}
use Rattle.ruled_links.specs.declared.rule.Hand.{Hand}
use Rattle.ruled_links.specs.Order.{hand, Fits, IsInOrder}
use Rattle.ruled_links.specs.Ends.{AreLeft}
use Rattle.ruled_links.proofs.Places.{at_here, at_front, at_end, Each, Each-set, Stands-set}

-- ---- passes

-- what begins a list begins a longer one
pub longer : {known sent : List Envelope} (more : List Envelope) → IsPrefix known sent → IsPrefix known (sent ++ more)
longer {known} {sent} more p = record {
  rest = p.rest ++ more;
  joins = sym (append_assoc known p.rest more) ∙ ap (λ l. l ++ more) p.joins;
}

-- a spent pass may do nothing
spent_fits : (sender receiver : ℕ) (sent received : List Envelope) (pass : ℕ)
    → Fits sender receiver sent received pass (hand false false [] [] [])
spent_fits sender receiver sent received pass = record {
  puts = λ p. absurd (true≢false (sym p));
  takes = λ p. absurd (true≢false (sym p));
}

-- ---- the steps

-- a new queue keeps the rule: it holds nothing, and its one pass puts and takes
pub begins : IsInOrder [] (hand true true [] [] [] ∷ [])
begins = let first = hand true true [] [] [] in record {
  sender = 0;
  receiver = 0;
  sent = [];
  received = [];
  joins = refl;
  puts = (first, refl, refl);
  takes = (first, refl, refl);
  fits = λ j u e. Each-set (Fits 0 0 [] []) (first ∷ []) 0 first
      (record { puts = λ _. (refl, refl); takes = λ _. (refl, refl, record { rest = []; joins = refl }) })
      (λ j u other e. absurd (other (at_end [] first u j (λ x. some-ne-none u (sym x)) e))) j u e;
}

-- a push by the pass that puts keeps the rule: the message is the last of what was sent
pub puts : (n pass : ℕ) (v : Hand) (x : Envelope) → v.puts ≡ true
    → Pushes IsInOrder n pass v x (λ w. w ≡ hand v.puts v.takes (v.sent ++ x ∷ []) v.received v.known)
puts n pass v x may items hands _ h at =
    let w : Hand = hand v.puts v.takes (v.sent ++ x ∷ []) v.received v.known in
    let mine = h.fits pass v at in
    let sent = h.sent ++ x ∷ [] in (
      w,
      record {
        sender = h.sender;
        receiver = h.receiver;
        sent = sent;
        received = h.received;
        joins = sym (append_assoc h.received items (x ∷ [])) ∙ ap (λ l. l ++ x ∷ []) h.joins;
        puts = Stands-set (λ u. u.puts ≡ true) hands pass h.sender v w at (λ p. p) h.puts;
        takes = Stands-set (λ u. u.takes ≡ true) hands pass h.receiver v w at (λ p. p) h.takes;
        fits = Each-set (Fits h.sender h.receiver sent h.received) hands pass w
            (record {
              puts = λ _. ((mine.puts may).0, ap (λ l. l ++ x ∷ []) (mine.puts may).1);
              takes = λ p. ((mine.takes p).0, (mine.takes p).1, longer (x ∷ []) (mine.takes p).2);
            })
            (λ j u other e. let fit = h.fits j u e in record {
              puts = λ p. absurd (other ((fit.puts p).0 ∙ sym (mine.puts may).0));
              takes = λ p. ((fit.takes p).0, (fit.takes p).1, longer (x ∷ []) (fit.takes p).2);
            });
      },
      refl,
    )

-- a pop by the pass that takes keeps the rule: the message is the last of what was received
pub takes : (pass : ℕ) (v : Hand) → v.takes ≡ true → Pops IsInOrder pass v
    (λ x w. w ≡ hand v.puts v.takes v.sent (v.received ++ x ∷ []) v.known)
takes pass v may x items hands h at =
    let w : Hand = hand v.puts v.takes v.sent (v.received ++ x ∷ []) v.known in
    let mine = h.fits pass v at in
    let received = h.received ++ x ∷ [] in (
      w,
      record {
        sender = h.sender;
        receiver = h.receiver;
        sent = h.sent;
        received = received;
        joins = append_assoc h.received (x ∷ []) items ∙ h.joins;
        puts = Stands-set (λ u. u.puts ≡ true) hands pass h.sender v w at (λ p. p) h.puts;
        takes = Stands-set (λ u. u.takes ≡ true) hands pass h.receiver v w at (λ p. p) h.takes;
        fits = Each-set (Fits h.sender h.receiver h.sent received) hands pass w
            (record {
              puts = mine.puts;
              takes = λ _. ((mine.takes may).0, ap (λ l. l ++ x ∷ []) (mine.takes may).1, (mine.takes may).2);
            })
            (λ j u other e. let fit = h.fits j u e in record {
              puts = fit.puts;
              takes = λ p. absurd (other ((fit.takes p).0 ∙ sym (mine.takes may).0));
            });
      },
      refl,
    )

-- the sender's pass is cut off the one that does both, and the rule stays: the receiver's knows all that was sent
pub parts : (pass : ℕ) (v : Hand) → v.puts ≡ true → v.takes ≡ true
    → Forks IsInOrder pass v (hand false true [] v.received v.sent) (hand true false v.sent [] [])
parts pass v may_put may_take items hands h at =
    let left : Hand = hand false true [] v.received v.sent in
    let right : Hand = hand true false v.sent [] [] in
    let mine = h.fits pass v at in
    let cut : List Hand = set hands pass left in
    let Cut : ℕ → Hand → Type 0 = λ j u. (u.puts ≢ true) × (u.takes ≡ true → (j ≡ h.receiver)
    × (u.received ≡ h.received) × IsPrefix u.known h.sent) in
    let known : IsPrefix v.sent h.sent = record { rest = []; joins = append-nil v.sent ∙ (mine.puts may_put).1 } in
    let fit : Each Cut cut = Each-set Cut hands pass left
    ((λ p. true≢false (sym p)), λ _. ((mine.takes may_take).0, (mine.takes may_take).1, known))
    (λ j u other e. ((λ p. other (((h.fits j u e).puts p).0 ∙ sym (mine.puts may_put).0)), (h.fits j u e).takes)) in
    let stands = Stands-set (λ u. u.takes ≡ true) hands pass h.receiver v left at (λ _. refl) h.takes in
    record {
      sender = length cut;
      receiver = h.receiver;
      sent = h.sent;
      received = h.received;
      joins = h.joins;
      puts = (right, at_last cut right (length cut) refl, refl);
      takes = (stands.0, at_front cut h.receiver stands.0 right stands.1, stands.2);
      fits = λ j u e. ⊎_elim
          (λ (x : get_elem? cut j ≡ some u). record { puts = λ p. absurd ((fit j u x).0 p); takes = (fit j u x).1 })
          (λ (is : right ≡ u). record {
            puts = λ p. (
              at_end cut right u j (λ x. (fit j u x).0 p) e,
              ap (λ (y : Hand). y.sent) (sym is) ∙ (mine.puts may_put).1,
            );
            takes = λ p. absurd (true≢false (sym (ap (λ (y : Hand). y.takes) is ∙ p)));
          })
          (at_snoc cut right u j e);
    }

-- the sender's pass is joined into the receiver's, and the rule stays
pub meets : (pass : ℕ) (v : Hand) (other : ℕ) (u : Hand) → v.takes ≡ true → u.puts ≡ true
    → Merges IsInOrder pass v other u (hand true true u.sent v.received v.known) (hand false false [] [] [])
meets pass v other u may_take may_put = λ items hands h at two at'.
    let both : Hand = hand true true u.sent v.received v.known in
    let mine = (h.fits pass v at).takes may_take in
    let spent : Hand = hand false false [] [] [] in
    let joined : List Hand = set hands pass both in
    let was : get_elem? hands other ≡ some u = ⊎_elim (λ (x : (other ≡ pass) × (both ≡ u)). absurd (two x.0))
    (λ (x : (other ≢ pass) × (get_elem? hands other ≡ some u)). x.1) (at_set hands pass other both u at') in
    let theirs = (h.fits other u was).puts may_put in
    let Fit : ℕ → Hand → Type 0 = Fits pass pass h.sent h.received in
    let fit : Each (λ j y. j ≢ other → Fit j y) joined = Each-set (λ j y. j ≢ other → Fit j y) hands pass both
    (λ _. record { puts = λ _. (refl, theirs.1); takes = λ _. (refl, mine.1, mine.2) })
    (λ j y _ e apart. let fit = h.fits j y e in record {
      puts = λ p. absurd (apart ((fit.puts p).0 ∙ sym theirs.0));
      takes = λ p. ((fit.takes p).0 ∙ sym mine.0, (fit.takes p).1, (fit.takes p).2);
    }) in
    let stands : get_elem? (set joined other spent) pass ≡ some both =
    set_else joined other pass spent (λ e. two (sym e)) ∙ at_here hands pass v both at in
    record {
      sender = pass;
      receiver = pass;
      sent = h.sent;
      received = h.received;
      joins = h.joins;
      puts = (both, stands, refl);
      takes = (both, stands, refl);
      fits = Each-set Fit joined other spent (spent_fits pass pass h.sent h.received other)
          (λ j y apart e. fit j y e apart);
    }

-- a look of the pass that does both: what was sent is what was received and then what the queue holds
pub looks : (pass : ℕ) (v : Hand) → v.puts ≡ true → v.takes ≡ true
    → Learns IsInOrder pass v (λ items. v.received ++ items ≡ v.sent)
looks pass v may_put may_take items hands h at =
    let mine = h.fits pass v at in ap (λ l. l ++ items) (mine.takes may_take).1 ∙ h.joins ∙ sym (mine.puts may_put).1

-- what is known and not received is left
pub counts : (known rest received items sent : List Envelope) → known ++ rest ≡ sent → received ++ items ≡ sent
    → length known ≤ length received + length items
counts known rest received items sent a b = omega (
  arith,
  ap length a,
  ap length b,
  length-append known rest,
  length-append received items,
)

-- the queue holds at least so many messages as the receiver's pass knows of and has not received
pub leaves : (pass : ℕ) (v : Hand) → v.takes ≡ true → Learns IsInOrder pass v
    (λ items. length v.known ≤ length v.received + length items)
leaves pass v may items hands h at =
    let mine = (h.fits pass v at).takes may in
    counts v.known mine.2.rest v.received items h.sent mine.2.joins (ap (λ l. l ++ items) mine.1 ∙ h.joins)

-- what a look with both lists shows
pub left_of : {sent received : List Envelope} {count : ℕ} (v : Hand)
    → Held count (λ (items : List Envelope). v.received ++ items ≡ v.sent) → v.sent ≡ sent → v.received ≡ received
    → AreLeft sent received count
left_of {sent} {received} v held sends receives =
    record {
      prefix = record { rest = held.0; joins = ap (λ l. l ++ held.0) (sym receives) ∙ held.2 ∙ sends };
      left = held.1;
    }
