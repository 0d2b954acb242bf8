use Rattle.std.proofs.Common.{codes, decimal}
use Rattle.answer_writer.proofs.GathersLemmas.{Gathers-then}
use Rattle.answer_writer.proofs.page.Page.put_number.Goals as goal

pub returns : goal.returns
returns g c =
    Gathers-then _ _ _ c.args.self.now c.put.new.self c.put_digits.new.self (codes " ") (decimal c.args.number) c.put_digits.result c.in_ok-put.ensures c.put_digits.ensures
