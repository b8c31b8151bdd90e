use borrow.Author.Rules.{rules}
use mathlib.Core.Path.{◌≡◌}
use Rattle.std.specs.Prelude.{Err}
use Rattle.row_pass.specs.declared.FileFault.TheVariants.{TooLong}
use Rattle.listings_text.proofs.Lined.{too_long, gone_through, all_listed, not_read}
use Rattle.listings_text.proofs.listings.Goals as goal

-- a log that is too long is not gone through
pub returns-then-log-gt-LONGEST : goal.returns-then-log-gt-LONGEST
returns-then-log-gt-LONGEST c files h many = let a = c.args in
    record {
      text = _;
      kind = all_listed a.log.now files a.w (Err TooLong) _ h many (too_long c.if-log-gt-LONGEST.true) (λ es z. not_read z);
      short = c.lines.ensures.short;
      page = c.lines.ensures.text;
    }

pub returns : goal.returns
returns c files h many = let a = c.args in
    let passed = c.pass-passed.ensures in
    let used : c.min.result ≡ a.w.used = search rules in
    record {
      text = _;
      kind = all_listed a.log.now files a.w _ _ h many (gone_through c.if-log-gt-LONGEST.false passed.end) (λ es z r. rw used at (passed.sessions es r));
      short = c.lines-2.ensures.short;
      page = c.lines-2.ensures.text;
    }
