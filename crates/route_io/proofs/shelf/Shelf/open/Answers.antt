use Rattle.route_io.proofs.FileLemmas.{looked_up}
use Rattle.route_io.proofs.shelf.Shelf.open.Goals as goal

pub returns-then-is_none-clause-missing : goal.returns-then-is_none-clause-missing
returns-then-is_none-clause-missing c =
    rw (← c.self.view_is)
    ((looked_up c.self.inside.files.items _ c.args.name.now _ c.deref.ensures.value c.place_of-self-inside.ensures).missing c.if-is_none.ensures)

pub invariant_of-self-2 : goal.invariant_of-self-2
invariant_of-self-2 c =
    (looked_up c.self.inside.files.items _ c.args.name.now _ c.deref.ensures.value c.place_of-self-inside.ensures).within

pub returns-clause-opened : goal.returns-clause-opened
returns-clause-opened c =
    rw (← c.self.view_is)
    ((looked_up c.self.inside.files.items _ c.args.name.now _ c.deref.ensures.value c.place_of-self-inside.ensures).first c.if-is_none.ensures)
