use Rattle.std.proofs.Common.{[], get_or, map, arith}
use Rattle.std.specs.Prelude.{Contains}
use Rattle.std.proofs.lemmas.List.{get_or-map, length-map}
use Rattle.list_laws.proofs.Members.{all_from_in}
use Rattle.waiting_queue.specs.Joining.{taken_of}
use Rattle.waiting_queue.proofs.JoiningLemmas.{in_flat}
use Rattle.waiting_queue.proofs.marking.MarkingJob.run.Goals as goal

pub mark-requires-clause-among : goal.mark-requires-clause-among
mark-requires-clause-among g c =
    let pieces = c.args.self.now.pieces.now in
    let piece = get_or pieces c.args.piece c.index-self-piece.result in
    all_from_in (Contains (taken_of c.args.self.now.parts.now)) piece.now (λ x h. rw c.requires.whole at
    (in_flat (λ xs. xs) (map (λ p. p.now) pieces) piece.now x (c.args.piece, c.requires.there, grind (arith, get_or-map, length-map)) h))

pub returns : goal.returns
returns g c = rw (get_or-map (λ p. p.now) c.args.self.now.pieces.now c.args.piece c.index-self-piece.result [] (grind (arith, length-map))) c.mark.ensures
