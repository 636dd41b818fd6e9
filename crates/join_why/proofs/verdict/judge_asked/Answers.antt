use Rattle.std.proofs.Common.{Ok, Err, refl, ap}
use Rattle.join_words.specs.Words.{asked}
use Rattle.join_plan.specs.declared.refusal_of_fault.Which.TheVariants.{On, Then}
use Rattle.join_why.specs.Verdicts.{verdict_of}
use Rattle.join_why.proofs.Told.{told_by, told_early}
use Rattle.join_why.proofs.verdict.judge_asked.Goals as goal

pub returns-in-Ok-clause-tells : goal.returns-in-Ok-clause-tells
returns-in-Ok-clause-tells g c = record {
  early = λ fault is. absurd (c.in-Ok.ensures.early fault is).0;
  further_early = λ tree chain fault reads is wrong.
      absurd (c.in-Ok.ensures.further_early tree chain fault reads is wrong).0;
  answer = λ files told same.
      told_by (asked c.args.options.now) files (Ok c.in-Ok.planned) (c.in-Ok.ensures.answer files told same);
  seen = λ read memory. (Ok c.in-Ok.planned, c.in-Ok.ensures.seen (λ e. cc e) (λ e. cc e), refl);
}

pub returns-in-Err-clause-tells : goal.returns-in-Err-clause-tells
returns-in-Err-clause-tells g c = record {
  early = λ fault is.
      let told = c.in-Err.ensures.early fault is in (told_early On fault c.in-Err.refusal told.0, told.1);
  further_early = λ tree chain fault reads is wrong.
      let told = c.in-Err.ensures.further_early tree chain fault reads is wrong in
      (told_early Then fault c.in-Err.refusal told.0, told.1);
  answer = λ files told same.
      told_by (asked c.args.options.now) files (Err c.in-Err.refusal) (c.in-Err.ensures.answer files told same);
  seen = λ read memory. (
    Err c.in-Err.refusal,
    c.in-Err.ensures.seen (λ e. read (ap verdict_of e)) (λ e. memory (ap verdict_of e)),
    refl,
  );
}
