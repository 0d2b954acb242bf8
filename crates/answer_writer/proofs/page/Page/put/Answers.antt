use Rattle.std.proofs.Common.{arith, length-append, sym}
use Rattle.answer_writer.proofs.GathersLemmas.{Gathers-sent}
use Rattle.answer_writer.proofs.page.Page.put.Goals as goal

pub returns-then-text-gt-PAGE : goal.returns-then-text-gt-PAGE
returns-then-text-gt-PAGE g c = rw (c.send.ensures.empty, sym c.as_bytes.ensures.value)
    (Gathers-sent _ _ _ c.args.self.now _ c.put_all.result (omega (arith, length-append c.args.self.now c.as_bytes.result.now))
    c.in_ok-send.ensures.sent c.put_all.ensures.sent)
