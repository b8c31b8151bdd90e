use Rattle.page.proofs.PutIn.{put_in}
use Rattle.reason_text.proofs.write.Goals as goal

pub returns : goal.returns
returns c = put_in c.reasoned.ensures (c.put.ensures.answer, c.put.ensures.after)
