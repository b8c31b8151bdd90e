use borrow.Author.Rules.{rules}
use mathlib.Core.Path.{◌≡◌}
use mathlib.Core.Bool.{false}
use Rattle.std.specs.Prelude.{Ok, is_ok}
use Rattle.command.specs.Bytes.{Bytes}
use Rattle.run.proofs.Verdict.{good_pattern}
use Rattle.verdict_reason.proofs.Stopping.{refused_pattern, refused_log, over, when_found, when_stopped}
use Rattle.verdict_reason.proofs.reason.Goals as goal

pub returns-in_err-p : goal.returns-in_err-p
returns-in_err-p c =
    let z : is_ok c.read_pattern.result ≡ false = search rules in
    refused_pattern c.read_pattern.result _ c.read_pattern.ensures z (λ m q. search rules)

pub search-requires : goal.search-requires
search-requires c =
    let is-bytes : Bytes c.args.pattern.now = λ k. (c.type_inv.pattern k).fits in
    let q : c.read_pattern.result ≡ Ok c.in_ok-p.p = search rules in
    good_pattern c.args.pattern.now c.in_ok-p.p (rw q at c.read_pattern.ensures) is-bytes

pub returns-in_err-searched : goal.returns-in_err-searched
returns-in_err-searched c =
    let is-bytes : Bytes c.args.pattern.now = λ k. (c.type_inv.pattern k).fits in
    let q : c.read_pattern.result ≡ Ok c.in_ok-p.p = search rules in
    let z : is_ok c.search.result ≡ false = search rules in
    refused_log c.args.pattern.now c.in_ok-p.p (rw q at c.read_pattern.ensures) is-bytes c.search.result _ c.search.ensures z (λ m w. search rules)

pub returns-then-k-p : goal.returns-then-k-p
returns-then-k-p c =
    let is-bytes : Bytes c.args.pattern.now = λ k. (c.type_inv.pattern k).fits in
    let q : c.read_pattern.result ≡ Ok c.in_ok-p.p = search rules in
    let s : c.search.result ≡ Ok c.in_ok-searched.searched = search rules in
    let h = rw q at c.read_pattern.ensures in
    let u = good_pattern c.args.pattern.now c.in_ok-p.p h is-bytes in
    rw c.verdict_after-verdict.ensures
    (over c.args.pattern.now c.in_ok-p.p h is-bytes (when_found u c.in_ok-searched.searched (rw s at c.search.ensures) c.if-k-p.true))

pub returns : goal.returns
returns c =
    let is-bytes : Bytes c.args.pattern.now = λ k. (c.type_inv.pattern k).fits in
    let q : c.read_pattern.result ≡ Ok c.in_ok-p.p = search rules in
    let s : c.search.result ≡ Ok c.in_ok-searched.searched = search rules in
    let h = rw q at c.read_pattern.ensures in
    let u = good_pattern c.args.pattern.now c.in_ok-p.p h is-bytes in
    rw c.verdict_after-verdict.ensures
    (over c.args.pattern.now c.in_ok-p.p h is-bytes (when_stopped u c.in_ok-searched.searched (rw s at c.search.ensures) c.if-k-p.false c.cause_of-cause.ensures))
