use mathlib.Core.Path.{refl}
use Rattle.page.proofs.PutIn.{put_in}
use Rattle.orders_text.specs.OrdersText.{line_text}
use Rattle.orders_text.proofs.Lines.{text_length}
use Rattle.orders_text.proofs.write.Goals as goal

pub returns : goal.returns
returns c = let l = c.args.line in
    put_in (record { text = line_text l; kind = refl; short = text_length l; page = c.on_page.ensures }) (c.put.ensures.answer, c.put.ensures.after)
