use Rattle.std.proofs.Common.{◌≡◌, [], refl, sym, ap, ◌∙◌}
use Rattle.std.proofs.lemmas.Result.{err_from_is_err_and}
use Rattle.theta_tree.specs.declared.fault.PredFault.TheVariants as faults
use Rattle.theta_tree.specs.Grammar.{Reads}
use Rattle.theta_text.specs.Machine.{start, verdict, syntax}
use Rattle.theta_tree.specs.Faults.{words}
use Rattle.theta_tree.specs.Texts.{limits, tree_of}
use Rattle.theta_text.specs.Views.{IsFault}
use Rattle.theta_text.proofs.Unique.{reads_unique}
use Rattle.theta_text.proofs.Turns.{nesting_is, same_fault, turn_err}
use Rattle.theta_text.proofs.Whole.{at_start, whole_read, fault_unread, syntax_of, deep_of, wide_of, literal_of}
use Rattle.theta_text.proofs.parser.whole.Goals as goal

pub returns-in_err-tree-clause-only : goal.returns-in_err-tree-clause-only
returns-in_err-tree-clause-only c t r =
    let p = err_from_is_err_and c.from_residual.result c.from_residual.ensures.1 in
    let fault = c.in_err-tree.field-0.0 in
    let h : IsFault (verdict limits c.args.end (start limits) c.args.tokens.now) fault =
    same_fault _ _ fault (at_start c.args.end 32 c.args.tokens.now refl) (c.in_err-tree.ensures.run []) in
    rw (p.1, p.2) (fault_unread limits c.args.end c.args.tokens.now fault h t r)

pub returns-in_err-tree-clause-syntax : goal.returns-in_err-tree-clause-syntax
returns-in_err-tree-clause-syntax c place e =
    let p = err_from_is_err_and c.from_residual.result c.from_residual.ensures.1 in
    let fault = c.in_err-tree.field-0.0 in
    let h : IsFault (verdict limits c.args.end (start limits) c.args.tokens.now) fault =
    same_fault _ _ fault (at_start c.args.end 32 c.args.tokens.now refl) (c.in_err-tree.ensures.run []) in
    let same : fault ≡ faults.Syntax place = cc (p.1, p.2, e) in
    syntax_of limits c.args.end c.args.tokens.now fault place h same

pub returns-in_err-tree-clause-deep : goal.returns-in_err-tree-clause-deep
returns-in_err-tree-clause-deep c place e =
    let p = err_from_is_err_and c.from_residual.result c.from_residual.ensures.1 in
    let fault = c.in_err-tree.field-0.0 in
    let h : IsFault (verdict limits c.args.end (start limits) c.args.tokens.now) fault =
    same_fault _ _ fault (at_start c.args.end 32 c.args.tokens.now refl) (c.in_err-tree.ensures.run []) in
    let same : fault ≡ faults.Deep place = cc (p.1, p.2, e) in
    deep_of limits c.args.end c.args.tokens.now fault place h same

pub returns-in_err-tree-clause-wide : goal.returns-in_err-tree-clause-wide
returns-in_err-tree-clause-wide c place e =
    let p = err_from_is_err_and c.from_residual.result c.from_residual.ensures.1 in
    let fault = c.in_err-tree.field-0.0 in
    let h : IsFault (verdict limits c.args.end (start limits) c.args.tokens.now) fault =
    same_fault _ _ fault (at_start c.args.end 32 c.args.tokens.now refl) (c.in_err-tree.ensures.run []) in
    let same : fault ≡ faults.Wide place = cc (p.1, p.2, e) in
    wide_of limits c.args.end c.args.tokens.now fault place h same

pub returns-in_err-tree-clause-literal : goal.returns-in_err-tree-clause-literal
returns-in_err-tree-clause-literal c place e =
    let p = err_from_is_err_and c.from_residual.result c.from_residual.ensures.1 in
    let fault = c.in_err-tree.field-0.0 in
    let h : IsFault (verdict limits c.args.end (start limits) c.args.tokens.now) fault =
    same_fault _ _ fault (at_start c.args.end 32 c.args.tokens.now refl) (c.in_err-tree.ensures.run []) in
    let same : fault ≡ faults.Literal place = cc (p.1, p.2, e) in
    literal_of limits c.args.end c.args.tokens.now fault place h same

pub returns-in-None-clause-ok : goal.returns-in-None-clause-ok
returns-in-None-clause-ok c =
    let tree = c.in_ok-tree in
    whole_read limits 32 (words c.args.tokens.now) (words tree.rest.now) (tree_of tree.tree) (sym nesting_is)
    tree.ensures.read (ap words c.in-None.ensures)

pub returns-in-None-clause-only : goal.returns-in-None-clause-only
returns-in-None-clause-only c t r =
    let tree = c.in_ok-tree in
    let r' : Reads limits (words c.args.tokens.now) (tree_of tree.tree) =
    whole_read limits 32 (words c.args.tokens.now) (words tree.rest.now) (tree_of tree.tree) (sym nesting_is)
    tree.ensures.read (ap words c.in-None.ensures) in
    reads_unique limits (words c.args.tokens.now) (tree_of tree.tree) t r' r

pub returns-in-Some-clause-only : goal.returns-in-Some-clause-only
returns-in-Some-clause-only c t r =
    let stopped = at_start c.args.end 32 c.args.tokens.now refl ∙ c.in_ok-tree.ensures.run []
    ∙ turn_err limits c.args.end [] syntax c.in-Some.stray.now.token c.in_ok-tree.rest.now c.in-Some.stray.now
    c.in-Some.field-0-1.now c.in-Some.ensures refl refl in
    fault_unread limits c.args.end c.args.tokens.now (faults.Syntax c.in-Some.stray.now.place) stopped t r

pub returns-in-Some-clause-syntax : goal.returns-in-Some-clause-syntax
returns-in-Some-clause-syntax c place e =
    let stopped = at_start c.args.end 32 c.args.tokens.now refl ∙ c.in_ok-tree.ensures.run []
    ∙ turn_err limits c.args.end [] syntax c.in-Some.stray.now.token c.in_ok-tree.rest.now c.in-Some.stray.now
    c.in-Some.field-0-1.now c.in-Some.ensures refl refl in
    let same : faults.Syntax c.in-Some.stray.now.place ≡ faults.Syntax place = cc (e) in
    syntax_of limits c.args.end c.args.tokens.now (faults.Syntax c.in-Some.stray.now.place) place stopped same
