use Rattle.std.proofs.Common.{◌≡◌, ◌∙◌, sym, drop, length, arith}
use Rattle.std.proofs.lemmas.Bool.Decides.{Decides-eqb}
use Rattle.std.proofs.lemmas.Slice.{between_to_end}
use Rattle.std.proofs.lemmas.Slice.Eq.{slice_eq-Decides}
use Rattle.report_picture.proofs.Endings.{ends}
use Rattle.report_picture.proofs.find.ends_with.Goals as goal

pub returns-then-begins_line-clause-ends : goal.returns-then-begins_line-clause-ends
returns-then-begins_line-clause-ends c same =
    let rest : drop c.args.place c.args.text.now ≡ c.args.end.now =
    sym (between_to_end c.args.text.now c.args.place (length c.args.text.now) (omega arith))
    ∙ (slice_eq-Decides Decides-eqb _ _ _ c.eq.ensures).0 same in
    ends c.args.text.now c.args.end.now c.args.place (c.begins_line.ensures.lines c.if-begins_line.true) rest

pub returns-then-begins_line-clause-found : goal.returns-then-begins_line-clause-found
returns-then-begins_line-clause-found c line rest =
    (slice_eq-Decides Decides-eqb _ _ _ c.eq.ensures).1
    (between_to_end c.args.text.now c.args.place (length c.args.text.now) (omega arith) ∙ rest)
