use Rattle.std.proofs.Common.{◌≡◌, ◌-◌, ◌<◌, List, [], ◌∷◌, ◌++◌, map, refl, sym, subst, ap, ◌∙◌, arith, rules}
use Rattle.std.proofs.lemmas.Result.{err_from_is_err_and}
use Rattle.std.proofs.lemmas.List.{map-append}
use Rattle.theta_tree.specs.declared.token.Token.TheVariants.{Word, Open}
use Rattle.theta_tree.specs.declared.token.Keyword.TheVariants.{Abs, Not, And, Or}
use Rattle.theta_tree.specs.Grammar.{Unit', Conj, Further, IsAnd, IsOr}
use Rattle.theta_text.specs.Machine.{Symbol, unit, tail, close, open', sum, op, bound, side, verdict}
use Rattle.theta_tree.specs.Faults.{words}
use Rattle.theta_tree.specs.Texts.{limits, tree_of}
use Rattle.theta_text.proofs.Turns.{turn_ok, turn_same, words_at, same_fault, same_leads, if_ok_map, past_tail}
use Rattle.theta_text.proofs.Turns.{further_push, unit_not, unit_open, unit_band, is_not, is_open, is_band, starts_num}
use Rattle.theta_text.proofs.Turns.{read_num, starts_txt, read_txt, read_band, read_open}
use Rattle.theta_text.proofs.Narrow.{longest-push}
use Rattle.theta_text.proofs.parser.units.+parser.Goals as goal

pub conj-returns-in_err-first-clause-run : goal.conj-returns-in_err-first-clause-run
conj-returns-in_err-first-clause-run t c s =
    let p = err_from_is_err_and c.from_residual.result c.from_residual.ensures.1 in
    rw (p.1, p.2) (c.in_err-first.ensures.run (tail c.args.depth ∷ s))

pub predicate-returns-in_err-first-clause-run : goal.predicate-returns-in_err-first-clause-run
predicate-returns-in_err-first-clause-run t c s =
    let p = err_from_is_err_and c.from_residual.result c.from_residual.ensures.1 in
    rw (p.1, p.2) (c.in_err-first.ensures.run s)

pub conj-returns-in-Err-clause-run : goal.conj-returns-in-Err-clause-run
conj-returns-in-Err-clause-run t c s =
    let l = c.loop-after in
    let it = l.invariant in
    let past = c.in-Some.ensures in
    let turned : (s : List Symbol) → verdict limits c.args.end (tail c.args.depth ∷ s) l.rest.now
    ≡ verdict limits c.args.end (unit c.args.depth ∷ tail c.args.depth ∷ s) c.in-Some.after.now =
    λ s. turn_ok limits c.args.end (tail c.args.depth ∷ s) (unit c.args.depth ∷ tail c.args.depth ∷ s)
    (Word And past.2.0) l.rest.now past.0 c.in-Some.after.now past.1 past.2.1 refl in
    same_fault _ _ c.in-Err.fault (it.run s ∙ turned s)
    (c.in-Err.ensures.run (tail c.args.depth ∷ s))

pub conj-loop-after-preserved : goal.conj-loop-after-preserved
conj-loop-after-preserved t c =
    let l = c.loop-after in
    let it = l.invariant in
    let past = c.in-Some.ensures in
    let turned : (s : List Symbol) → verdict limits c.args.end (tail c.args.depth ∷ s) l.rest.now
    ≡ verdict limits c.args.end (unit c.args.depth ∷ tail c.args.depth ∷ s) c.in-Some.after.now =
    λ s. turn_ok limits c.args.end (tail c.args.depth ∷ s) (unit c.args.depth ∷ tail c.args.depth ∷ s)
    (Word And past.2.0) l.rest.now past.0 c.in-Some.after.now past.1 past.2.1 refl in
    let m = c.in-Ok in
    let mid : words l.rest.now ≡ past.0.token ∷ words c.in-Some.after.now =
    words_at past.0.token l.rest.now past.0 c.in-Some.after.now past.1 refl in
    let pushed : c.add.new.members.items ≡ l.others.items ++ m.member ∷ [] = search rules in
    let seen : map tree_of c.add.new.members.items ≡ map tree_of l.others.items ++ tree_of m.member ∷ [] =
    ap (map tree_of) pushed ∙ map-append tree_of l.others.items (m.member ∷ []) in
    record {
      first = it.first;
      read = subst (λ x. Further IsAnd (Unit' limits c.args.depth) (words c.in_ok-first.rest.now) x (words m.left.now))
          (sym seen)
          (further_push IsAnd (Unit' limits c.args.depth) (words c.in_ok-first.rest.now) (words l.rest.now)
          (words c.in-Some.after.now) (words m.left.now) (map tree_of l.others.items) (tree_of m.member)
          past.0.token it.read past.2 mid m.ensures.read);
      run = λ s. it.run s ∙ turned s ∙ m.ensures.run (tail c.args.depth ∷ s);
      shorter = grind (arith, past.1);
      narrow_first = it.narrow_first;
      narrow = longest-push c.add.new.members.items l.others.items m.member (search rules) it.narrow m.ensures.narrow;
    }

pub predicate-returns-in-Err-clause-run : goal.predicate-returns-in-Err-clause-run
predicate-returns-in-Err-clause-run t c s =
    let l = c.loop-after in
    let it = l.invariant in
    let past = c.in-Some.ensures in
    let turned : (s : List Symbol) → verdict limits c.args.end (tail c.args.depth ∷ s) l.rest.now
    ≡ verdict limits c.args.end (unit c.args.depth ∷ tail c.args.depth ∷ s) c.in-Some.after.now =
    λ s. turn_ok limits c.args.end (tail c.args.depth ∷ s) (unit c.args.depth ∷ tail c.args.depth ∷ s)
    (Word Or past.2.0) l.rest.now past.0 c.in-Some.after.now past.1 past.2.1 refl in
    same_fault _ _ c.in-Err.fault (it.run s ∙ turned s) (c.in-Err.ensures.run s)

pub predicate-loop-after-preserved : goal.predicate-loop-after-preserved
predicate-loop-after-preserved t c =
    let l = c.loop-after in
    let it = l.invariant in
    let past = c.in-Some.ensures in
    let turned : (s : List Symbol) → verdict limits c.args.end (tail c.args.depth ∷ s) l.rest.now
    ≡ verdict limits c.args.end (unit c.args.depth ∷ tail c.args.depth ∷ s) c.in-Some.after.now =
    λ s. turn_ok limits c.args.end (tail c.args.depth ∷ s) (unit c.args.depth ∷ tail c.args.depth ∷ s)
    (Word Or past.2.0) l.rest.now past.0 c.in-Some.after.now past.1 past.2.1 refl in
    let m = c.in-Ok in
    let mid : words l.rest.now ≡ past.0.token ∷ words c.in-Some.after.now =
    words_at past.0.token l.rest.now past.0 c.in-Some.after.now past.1 refl in
    let pushed : c.add.new.members.items ≡ l.others.items ++ m.member ∷ [] = search rules in
    let seen : map tree_of c.add.new.members.items ≡ map tree_of l.others.items ++ tree_of m.member ∷ [] =
    ap (map tree_of) pushed ∙ map-append tree_of l.others.items (m.member ∷ []) in
    record {
      first = it.first;
      read = subst (λ x. Further IsOr (Conj (Unit' limits c.args.depth)) (words c.in_ok-first.rest.now) x
          (words m.left.now)) (sym seen)
          (further_push IsOr (Conj (Unit' limits c.args.depth)) (words c.in_ok-first.rest.now) (words l.rest.now)
          (words c.in-Some.after.now) (words m.left.now) (map tree_of l.others.items) (tree_of m.member)
          past.0.token it.read past.2 mid m.ensures.read);
      run = λ s. it.run s ∙ turned s ∙ m.ensures.run s;
      ends = m.ensures.ends;
      shorter = grind (arith, past.1);
      narrow_first = it.narrow_first;
      narrow = longest-push c.add.new.members.items l.others.items m.member (search rules) it.narrow m.ensures.narrow;
    }

pub predicate-returns-clause-run : goal.predicate-returns-clause-run
predicate-returns-clause-run t c s =
    let l = c.loop-after in
    l.invariant.run s ∙ past_tail limits c.args.end c.args.depth s l.rest.now l.invariant.ends c.in_default.ensures

pub one_unit-returns-in_err-inner-in-StartNot-clause-run : goal.one_unit-returns-in_err-inner-in-StartNot-clause-run
one_unit-returns-in_err-inner-in-StartNot-clause-run t c s =
    let p = err_from_is_err_and c.from_residual.result c.from_residual.ensures.1 in
    let es = sym c.start_of.ensures ∙ c.in-StartNot.is in
    let room : 0 < c.args.depth = omega arith in
    let (w, et) = is_not c.in-Some.first.now.token es in
    let turned = turn_ok limits c.args.end (unit c.args.depth ∷ s) (unit (c.args.depth - 1) ∷ s) (Word Not w)
    c.args.tokens.now c.in-Some.first.now c.in-Some.rest.now c.in-Some.ensures et
    (unit_not limits c.args.depth s w room) in
    rw (p.1, p.2) (same_fault _ _ c.in_err-inner-in-StartNot.field-0.0 turned
    (c.in_err-inner-in-StartNot.ensures.run s))

pub one_unit-returns-in_err-inner-in-StartOpen-clause-run : goal.one_unit-returns-in_err-inner-in-StartOpen-clause-run
one_unit-returns-in_err-inner-in-StartOpen-clause-run t c s =
    let p = err_from_is_err_and c.from_residual-in_err-inner-in-StartOpen.result
    c.from_residual-in_err-inner-in-StartOpen.ensures.1 in
    let es = sym c.start_of.ensures ∙ c.in-StartOpen.is in
    let room : 0 < c.args.depth = omega arith in
    let et = is_open c.in-Some.first.now.token es in
    let turned = turn_ok limits c.args.end (unit c.args.depth ∷ s) (unit (c.args.depth - 1) ∷ tail (c.args.depth - 1)
    ∷ close ∷ s) Open c.args.tokens.now c.in-Some.first.now c.in-Some.rest.now c.in-Some.ensures et
    (unit_open limits c.args.depth s room) in
    rw (p.1, p.2) (same_fault _ _ c.in_err-inner-in-StartOpen.field-0.0 turned
    (c.in_err-inner-in-StartOpen.ensures.run (close ∷ s)))

pub one_unit-returns-in-Err-clause-run : goal.one_unit-returns-in-Err-clause-run
one_unit-returns-in-Err-clause-run t c s =
    let es = sym c.start_of.ensures ∙ c.in-StartOpen.is in
    let room : 0 < c.args.depth = omega arith in
    let et = is_open c.in-Some.first.now.token es in
    let turned = turn_ok limits c.args.end (unit c.args.depth ∷ s) (unit (c.args.depth - 1) ∷ tail (c.args.depth - 1)
    ∷ close ∷ s) Open c.args.tokens.now c.in-Some.first.now c.in-Some.rest.now c.in-Some.ensures et
    (unit_open limits c.args.depth s room) in
    same_fault _ _ c.in-Err.fault (turned ∙ c.in_ok-inner-in-StartOpen.ensures.run (close ∷ s)) (c.in-Err.ensures.run s)

pub one_unit-returns-in-Ok-clause-read : goal.one_unit-returns-in-Ok-clause-read
one_unit-returns-in-Ok-clause-read t c =
    let es = sym c.start_of.ensures ∙ c.in-StartOpen.is in
    let room : 0 < c.args.depth = omega arith in
    let et = is_open c.in-Some.first.now.token es in
    let inner = c.in_ok-inner-in-StartOpen in
    read_open limits c.args.depth (words c.args.tokens.now) (words c.in-Some.rest.now) (words inner.rest.now)
    (words c.in-Ok.rest.now) (tree_of inner.inner) room
    (words_at Open c.args.tokens.now c.in-Some.first.now c.in-Some.rest.now c.in-Some.ensures et)
    inner.ensures.read c.in-Ok.ensures.read

pub one_unit-returns-in-StartBand-clause-read : goal.one_unit-returns-in-StartBand-clause-read
one_unit-returns-in-StartBand-clause-read t c =
    let es = sym c.start_of.ensures ∙ c.in-StartBand.is in
    let (w, et) = is_band c.in-Some.first.now.token es in
    let e = words_at (Word Abs w) c.args.tokens.now c.in-Some.first.now c.in-Some.rest.now c.in-Some.ensures et in
    if_ok_map c.band_of.result _ _ (λ x f. read_band limits c.args.depth (words c.args.tokens.now) w
    (words c.in-Some.rest.now) (tree_of x.0) (words x.1.now) e f) c.band_of.ensures.read

pub one_unit-returns-in-StartBand-clause-run : goal.one_unit-returns-in-StartBand-clause-run
one_unit-returns-in-StartBand-clause-run t c s =
    let es = sym c.start_of.ensures ∙ c.in-StartBand.is in
    let (w, et) = is_band c.in-Some.first.now.token es in
    let turned = turn_ok limits c.args.end (unit c.args.depth ∷ s) (open' ∷ sum ∷ close ∷ op ∷ bound ∷ s) (Word Abs w)
    c.args.tokens.now c.in-Some.first.now c.in-Some.rest.now c.in-Some.ensures et
    (unit_band limits c.args.depth s w) in
    same_leads _ _ _ c.band_of.result turned (c.band_of.ensures.run s)

pub one_unit-returns-in-StartTxt-clause-read : goal.one_unit-returns-in-StartTxt-clause-read
one_unit-returns-in-StartTxt-clause-read t c =
    let es = sym c.start_of.ensures ∙ c.in-StartTxt.is in
    let e = words_at c.in-Some.first.now.token c.args.tokens.now c.in-Some.first.now c.in-Some.rest.now
    c.in-Some.ensures refl in
    if_ok_map c.txt_of.result _ _ (λ x f. read_txt limits c.args.depth (words c.args.tokens.now)
    c.in-Some.first.now.token (words c.in-Some.rest.now) (tree_of x.0) (words x.1.now) e es f) c.txt_of.ensures.read

pub one_unit-returns-in-StartTxt-clause-run : goal.one_unit-returns-in-StartTxt-clause-run
one_unit-returns-in-StartTxt-clause-run t c s =
    let es = sym c.start_of.ensures ∙ c.in-StartTxt.is in
    let turned = turn_same limits c.args.end (unit c.args.depth ∷ s) (side ∷ op ∷ side ∷ s)
    c.in-Some.first.now.token c.args.tokens.now c.in-Some.first.now c.in-Some.rest.now c.in-Some.ensures refl
    (starts_txt limits c.args.depth s c.in-Some.first.now.token es) in
    same_leads _ _ _ c.txt_of.result turned (c.txt_of.ensures.run s)

pub one_unit-returns-in-StartNum-clause-read : goal.one_unit-returns-in-StartNum-clause-read
one_unit-returns-in-StartNum-clause-read t c =
    let es = sym c.start_of.ensures ∙ c.in-StartNum.is in
    let e = words_at c.in-Some.first.now.token c.args.tokens.now c.in-Some.first.now c.in-Some.rest.now
    c.in-Some.ensures refl in
    if_ok_map c.num_of.result _ _ (λ x f. read_num limits c.args.depth (words c.args.tokens.now)
    c.in-Some.first.now.token (words c.in-Some.rest.now) (tree_of x.0) (words x.1.now) e es f) c.num_of.ensures.read

pub one_unit-returns-in-StartNum-clause-run : goal.one_unit-returns-in-StartNum-clause-run
one_unit-returns-in-StartNum-clause-run t c s =
    let es = sym c.start_of.ensures ∙ c.in-StartNum.is in
    let turned = turn_same limits c.args.end (unit c.args.depth ∷ s) (sum ∷ op ∷ sum ∷ s)
    c.in-Some.first.now.token c.args.tokens.now c.in-Some.first.now c.in-Some.rest.now c.in-Some.ensures refl
    (starts_num limits c.args.depth s c.in-Some.first.now.token es) in
    same_leads _ _ _ c.num_of.result turned (c.num_of.ensures.run s)
