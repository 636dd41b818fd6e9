use Rattle.std.proofs.Common.{◌≡◌, ◌∙◌, sym, true, false}
use Rattle.std.specs.Str.{bytes_eq}
use Rattle.join_rows.proofs.Found.{file-found, file-none, file-passed, front-more}
use Rattle.join_rows.proofs.find.find.Goals as goal

pub loop-i-preserved : goal.loop-i-preserved
loop-i-preserved c =
    let other : bytes_eq c.index-files-i.result.name c.args.name.now ≡ false =
    rw c.as_slice.ensures at (sym c.if-eq.ensures) in (
      file-passed c.args.files.now c.args.name.now c.loop-i.i c.index-files-i.result c.loop-i-test.true
          c.index-files-i.is other ∙ c.loop-i.invariant.0,
      front-more c.args.files.now c.args.name.now c.loop-i.i c.index-files-i.result c.loop-i-test.true
          c.index-files-i.is other c.loop-i.invariant.1,
    )

pub returns-then-eq : goal.returns-then-eq
returns-then-eq c =
    let this : bytes_eq c.index-files-i.result.name c.args.name.now ≡ true =
    rw c.as_slice.ensures at (sym c.if-eq.ensures) in
    file-found c.args.files.now c.args.name.now c.loop-i.i c.index-files-i.result c.loop-i-test.true c.index-files-i.is
    this c.loop-i.invariant.0 c.loop-i.invariant.1

pub returns : goal.returns
returns c = file-none c.args.files.now c.args.name.now c.loop-i.i c.loop-i-test.false c.loop-i.invariant.0
