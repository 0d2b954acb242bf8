use Rattle.std.proofs.Common.{◌≡◌, Some, false, OnOk, ap, sym, ◌∙◌, subst}
use Rattle.arc_graph.specs.History.{ends_closed}
use Rattle.epoch_store.specs.Published.{ended_if}
use Rattle.epoch_store.specs.Readers.{EpochReader, HasLooked}
use Rattle.epoch_store.specs.declared.sight.MarkSight.{MarkSight}
use Rattle.epoch_store.specs.declared.sight.Sight.{Sight}
use Rattle.epoch_store.proofs.LookLemmas.{found_open, looks_once}
use Rattle.epoch_store.proofs.reader.EpochReader.read.Goals as goal

pub look_by-readers-requires : goal.look_by-readers-requires
look_by-readers-requires g c =
    let seen = c.self.inside.shown in
    let found = c.unwrap-readers.result in
    let sight : Sight = found.epochs.place.me.0.client in
    let same = ap (λ r. r.shown) c.self-inside.view_is in
    let there : c.self.inside.readers ≡ Some found =
    ap (λ r. r.readers) (sym c.self-inside.view_is) ∙ (sym c.take.ensures.value ∙ c.unwrap-readers.ensures) in
    let kept : seen ≡ ended_if sight.last sight.seen = rw there at c.self.invariant in
    let still : ends_closed seen ≡ false = ap ends_closed (sym same) ∙ (sym c.self-inside.invariant.closed ∙ c.if-self.false) in
    same ∙ found_open sight.last sight.seen seen kept still

pub returns-clause-looked : goal.returns-clause-looked
returns-clause-looked g c =
    let found = c.unwrap-readers.result in
    let there : c.self.inside.readers ≡ Some found =
    ap (λ r. r.readers) (sym c.self-inside.view_is) ∙ (sym c.take.ensures.value ∙ c.unwrap-readers.ensures) in
    let before : Sight = found.epochs.place.me.0.client in
    let mark : MarkSight = found.mark.place.me.0.client in
    let prior : EpochReader =
    record { seen = c.self.inside.shown; looks = before.looks; mark_looks = mark.looks; marked = mark.closed } in
    let was : prior ≡ c.args.self.now = rw there at c.self.view_is in
    let left = c.look_by-readers.result.0 in
    let sight : Sight = left.epochs.place.me.0.client in
    let marked : MarkSight = left.mark.place.me.0.client in
    let after : EpochReader =
    record { seen = c.look_by-readers.new.shown; looks = sight.looks; mark_looks = marked.looks; marked = marked.closed } in
    let looked = c.look_by-readers.ensures in
    subst (λ (reader : EpochReader). OnOk c.look_by-readers.result.1 (HasLooked reader after)) was
    (looks_once c.look_by-readers.result.1 prior after sight.last sight.seen looked.found looked.looks looked.mark_looks looked.order looked.unclosed)
