use native.Mathlib.Omega.{arith}
use Rattle.command.specs.Bytes.{Bytes}
use Rattle.page.specs.Lines.{too_long_line}
use Rattle.listing_text.specs.Listing.{long_pattern, long_log}
use Rattle.reason_text.specs.CauseText.{reasoned_text}
use Rattle.reason_text.specs.ReasonText.{as_listed}
use Rattle.std.specs.Prelude.{Err}
use Rattle.session.specs.Meaning.{RunOf}
use Rattle.run.specs.Answers.{judged_is}
use Rattle.listing_text.specs.OutcomeText.{text_of}
use Rattle.verdict_reason.proofs.EveryReason.{says_run}
use Rattle.reason_text.proofs.Reasoning.{not_too_long, reason_text, refusal_text}
use Rattle.reason_text.proofs.reasoned.Goals as goal

pub returns-then-pattern-gt-LONGEST : goal.returns-then-pattern-gt-LONGEST
returns-then-pattern-gt-LONGEST c = record {
  text = too_long_line;
  kind = as_listed (long_pattern c.if-pattern-gt-LONGEST.true) not_too_long;
  short = omega arith;
  page = rw (c.too_long.ensures, c.empty-p.ensures);
}

pub returns-then-log-gt-LONGEST : goal.returns-then-log-gt-LONGEST
returns-then-log-gt-LONGEST c = record {
  text = too_long_line;
  kind = as_listed (long_log c.if-log-gt-LONGEST.true) not_too_long;
  short = omega arith;
  page = rw (c.too_long-then-log-gt-LONGEST.ensures, c.empty-p.ensures);
}

pub returns-in-Ok : goal.returns-in-Ok
returns-in-Ok c = let a = c.args in
    let r = c.in-Ok.reasoned in
    let is-bytes : Bytes a.pattern.now = λ k. omega (arith, c.type_inv.pattern k) in
    let told =
    reason_text a.pattern.now a.log.now c.if-pattern-gt-LONGEST.false c.if-log-gt-LONGEST.false is-bytes r.verdict
    (let n = c.lines.ensures.places in omega arith) (rw c.in-Ok.is at c.reason.ensures) in
    record {
      text = reasoned_text a.log.now r.verdict r.cause r.events;
      kind = told.0;
      short = told.1;
      page = rw (c.lines.ensures.text, c.empty-p.ensures);
    }

pub returns-in-Err : goal.returns-in-Err
returns-in-Err c = let a = c.args in
    let e = c.in-Err.refusal in
    let r : RunOf a.pattern.now a.log.now (judged_is (Err e)) = says_run (rw c.in-Err.is at c.reason.ensures) in
    record {
      text = text_of a.log.now (Err e);
      kind = refusal_text a.pattern.now a.log.now c.if-pattern-gt-LONGEST.false c.if-log-gt-LONGEST.false e r;
      short = c.verdict.ensures.short;
      page = rw (c.verdict.ensures.text, c.empty-p.ensures);
    }
