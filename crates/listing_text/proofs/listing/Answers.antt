use Rattle.listing_text.proofs.Judgement.{listed}
use Rattle.listing_text.specs.Listing.{long_pattern, long_log, judged}
use Rattle.listing_text.specs.OutcomeText.{text_of}
use Rattle.page.specs.Lines.{too_long_line}
use native.Mathlib.Omega.{arith}
use Rattle.listing_text.proofs.listing.Goals as goal

pub returns-then-pattern-gt-LONGEST : goal.returns-then-pattern-gt-LONGEST
returns-then-pattern-gt-LONGEST c = record {
  text = too_long_line;
  kind = long_pattern c.if-pattern-gt-LONGEST.true;
  short = omega arith;
  page = rw (c.too_long.ensures, c.empty-p.ensures);
}

pub returns-then-log-gt-LONGEST : goal.returns-then-log-gt-LONGEST
returns-then-log-gt-LONGEST c = record {
  text = too_long_line;
  kind = long_log c.if-log-gt-LONGEST.true;
  short = omega arith;
  page = rw (c.too_long-then-log-gt-LONGEST.ensures, c.empty-p.ensures);
}

pub returns : goal.returns
returns c = let a = c.args in
    let r = c.run-judged.result in
    record {
      text = text_of a.log.now r;
      kind = judged c.if-pattern-gt-LONGEST.false c.if-log-gt-LONGEST.false (listed a.pattern.now a.log.now r c.run-judged.ensures);
      short = c.verdict.ensures.short;
      page = rw (c.verdict.ensures.text, c.empty-p.ensures);
    }
