use Rattle.std.proofs.Common.{◌≡◌, ◌∙◌, sym, subst}
use Rattle.std.specs.Fmt.{decimal}
use Rattle.std.specs.Str.{IsUtf8}
use Rattle.std.proofs.lemmas.Fmt.{IsAscii-decimal, parse-decimal}
use Rattle.std.proofs.lemmas.Str.{IsUtf8-from_ascii}
use Rattle.report_picture.proofs.nearest.value.Goals as goal

pub returns-in_default : goal.returns-in_default
returns-in_default c n small same =
    absurd (c.in_default.ensures.cases.0
    (subst (λ bytes. IsUtf8 bytes) (sym same) (IsUtf8-from_ascii (decimal n) (IsAscii-decimal n small))))

pub returns : goal.returns
returns c n small same =
    let written : c.in-Ok.word.now ≡ decimal n = c.in-Ok.ensures.cases.0 ∙ same in
    let parsed = parse-decimal 64 n c.in-Ok.word.now c.parse.result small small written c.parse.ensures.value.0 in
    rw parsed at c.unwrap_or.ensures
