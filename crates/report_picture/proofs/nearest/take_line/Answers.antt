use Rattle.std.proofs.Common.{◌≡◌, ◌∙◌, OnOk, ap, codes, true}
use Rattle.std.proofs.lemmas.Result.{on_ok_weaker}
use Rattle.report_lines.specs.declared.report_numbers.Report.{Report}
use Rattle.report_lines.specs.declared.report_numbers.Step.{Step}
use Rattle.report_lines.specs.declared.report_numbers.Growth.{Growth}
use Rattle.report_lines.specs.declared.report_numbers.Joiner.{Joiner}
use Rattle.report_picture.specs.Texts.{words_in}
use Rattle.report_picture.specs.Reading.{Grow, Held, IsReadable, taken, with_grid, words_of}
use Rattle.report_picture.proofs.Named.{on_input, on_grid, on_grow, on_final, on_joiner, tested}
use Rattle.report_picture.proofs.Parted.{entry_words}
use Rattle.report_picture.proofs.nearest.take_line.Goals as goal

pub returns-then-starts_with-clause-exact : goal.returns-then-starts_with-clause-exact
returns-then-starts_with-clause-exact c entry fits is =
    on_input
    (λ e. IsReadable e → words_in c.args.line.now ≡ words_of e
    → c.take_input.new.report ≡ taken c.args.report.now e)
    entry (tested c.args.line.now (codes "input ") entry _ true is c.starts_with.ensures.value c.if-starts_with.true)
    c.take_input.ensures.exact fits (entry_words entry c.args.line.now fits is)

pub returns-then-starts_with-2-clause-exact : goal.returns-then-starts_with-2-clause-exact
returns-then-starts_with-2-clause-exact c entry fits is =
    let put : Step → Report = λ step. with_grid c.args.report.now step in
    on_grid
    (λ e. IsReadable e → words_in c.args.line.now ≡ words_of e
    → OnOk c.take_grid.result (c.take_grid.new.report ≡ taken c.args.report.now e))
    entry
    (tested c.args.line.now (codes "grid ") entry _ true is c.starts_with-else-starts_with.ensures.value
    c.if-starts_with-2.true)
    (λ epoch step fit words.
    on_ok_weaker c.take_grid.result (λ more. more ∙ ap put (c.read_step.ensures.exact epoch step fit words))
    c.take_grid.ensures.exact)
    fits (entry_words entry c.args.line.now fits is)

pub returns-then-starts_with-3-clause-exact : goal.returns-then-starts_with-3-clause-exact
returns-then-starts_with-3-clause-exact c entry fits is =
    let put : Growth → Report = λ growth. taken c.args.report.now (Grow growth) in
    on_grow
    (λ e. IsReadable e → words_in c.args.line.now ≡ words_of e
    → c.take_growth.new.report ≡ taken c.args.report.now e)
    entry
    (tested c.args.line.now (codes "grow ") entry _ true is c.starts_with-else-starts_with-2.ensures.value
    c.if-starts_with-3.true)
    (λ growth fit words. c.take_growth.ensures.exact ∙ ap put (c.read_growth.ensures.exact growth fit words))
    fits (entry_words entry c.args.line.now fits is)

pub returns-then-starts_with-4-clause-exact : goal.returns-then-starts_with-4-clause-exact
returns-then-starts_with-4-clause-exact c entry fits is =
    on_final
    (λ e. IsReadable e → words_in c.args.line.now ≡ words_of e
    → c.take_final.new.report ≡ taken c.args.report.now e)
    entry
    (tested c.args.line.now (codes "final ") entry _ true is c.starts_with-else-starts_with-3.ensures.value
    c.if-starts_with-4.true)
    c.take_final.ensures.exact fits (entry_words entry c.args.line.now fits is)

pub returns-then-starts_with-5-clause-exact : goal.returns-then-starts_with-5-clause-exact
returns-then-starts_with-5-clause-exact c entry fits is =
    on_joiner
    (λ e. IsReadable e → words_in c.args.line.now ≡ words_of e
    → OnOk c.take_joiner.result (c.take_joiner.new.report ≡ taken c.args.report.now e))
    entry
    (tested c.args.line.now (codes "joiner ") entry _ true is c.starts_with-else-starts_with-4.ensures.value
    c.if-starts_with-5.true)
    (λ id joiner fit words.
    let put : Joiner → Report = λ held. taken c.args.report.now (Held id held) in
    on_ok_weaker c.take_joiner.result (λ more. more ∙ ap put (c.read_joiner.ensures id joiner fit words))
    (c.take_joiner.ensures.exact id))
    fits (entry_words entry c.args.line.now fits is)
