use Rattle.std.proofs.Common.{refl}
use Rattle.page.proofs.PutIn.{put_in}
use Rattle.load_text.proofs.Lengths.{fits_a_page}
use Rattle.load_text.proofs.write.Goals as goal

pub returns : goal.returns
returns c = put_in (record { text = _; kind = refl; short = fits_a_page _; page = c.line.ensures }) (c.put.ensures.answer, c.put.ensures.after)
