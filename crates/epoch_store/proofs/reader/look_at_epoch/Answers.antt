use Rattle.std.proofs.Common.{sym, subst}
use mathlib.Core.List.{IsPrefix}
use Rattle.arc_graph.specs.History.{History}
use Rattle.epoch_store.proofs.ClosedLemmas.{prefix_ended}
use Rattle.epoch_store.proofs.RuleLemmas.{looks}
use Rattle.epoch_store.proofs.reader.look_at_epoch.Goals as goal

pub enter-requires : goal.enter-requires
enter-requires g c = looks g.S.Store.origin g.F.Foresight.last _ _

pub returns-in-Ok-clause-begins : goal.returns-in-Ok-clause-begins
returns-in-Ok-clause-begins g c =
    let found = c.get.result.now.history in
    let begins : IsPrefix c.args.shown.now found = rw (c.requires.seen, c.get.ensures) c.in-Ok.ensures.begins in
    subst (λ (h : History). IsPrefix c.args.shown.now h) (sym c.take_over.ensures) (prefix_ended c.args.closed c.args.shown.now found begins)
