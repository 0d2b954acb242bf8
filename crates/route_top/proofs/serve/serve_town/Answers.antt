use Rattle.std.proofs.Common.{◌≡◌, ◌∙◌, ap, length, map, subst, sym}
use Rattle.std.proofs.lemmas.List.{length-map}
use Rattle.std.proofs.lemmas.Result.{err_from_is_err_and}
use Rattle.link_doors.specs.Towns.{AreNumbered}
use Rattle.route_lanes.proofs.ReportLemmas.{written_back}
use Rattle.route_top.specs.Serve.{listened}
use Rattle.route_top.proofs.ServeLemmas.{as_many_doors, not_listened, still_numbered}
use Rattle.route_top.proofs.serve.serve_town.Goals as goal

pub returns-in_err-doors : goal.returns-in_err-doors
returns-in_err-doors g c =
    let p = err_from_is_err_and c.from_residual.result c.from_residual.ensures.1 in
    rw (p.1, p.2) (not_listened c.args.asked.now _ _ _ _ _ c.get-lanes.result c.get-links.result c.in_err-doors.ensures)

pub take_back-requires-clause-places : goal.take_back-requires-clause-places
take_back-requires-clause-places g c =
    let show = g.T.Door.Door.state in
    let doors = c.in_ok-doors.doors.items in
    let after = c.serve_doors-served.new.doors in
    let serves = rw c.deref_mut.ensures.value at c.serve_doors-served.ensures in
    let as_many = sym (length-map after show) ∙ as_many_doors c.args.asked.now _ _ _ _ _ serves ∙ length-map doors show in
    let count : length after ≡ c.in_ok-doors.doors.len = as_many ∙ sym (ap length c.deref_mut.ensures.value) ∙ c.deref_mut.ensures.len in
    let back = written_back after doors c.in_ok-doors.doors.len count in
    let numbered = still_numbered c.args.asked.now _ _ _ _ _ serves c.in_ok-doors.ensures.places in
    subst (λ left. AreNumbered (map show left)) (sym back) numbered

pub returns : goal.returns
returns g c =
    let show = g.T.Door.Door.state in
    let doors = c.in_ok-doors.doors.items in
    let after = c.serve_doors-served.new.doors in
    let serves = rw c.deref_mut.ensures.value at c.serve_doors-served.ensures in
    let as_many = sym (length-map after show) ∙ as_many_doors c.args.asked.now _ _ _ _ _ serves ∙ length-map doors show in
    let count : length after ≡ c.in_ok-doors.doors.len = as_many ∙ sym (ap length c.deref_mut.ensures.value) ∙ c.deref_mut.ensures.len in
    let back = written_back after doors c.in_ok-doors.doors.len count in
    listened (g.T.Town.state c.listen.new.self) (map show doors) (map show after)
    (rw (c.get-lanes.ensures.value, c.get-links.ensures.value) at c.in_ok-doors.ensures) serves (rw back at c.take_back.ensures)
