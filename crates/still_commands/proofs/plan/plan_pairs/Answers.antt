use Rattle.std.proofs.Common.{◌∙◌, subst, sym}
use Rattle.query_reader.specs.Grammar.{IsPairs, pairs}
use Rattle.gen_laws.specs.Laws.{pairs_of}
use Rattle.still_commands.specs.FilesRead.{reading_limits}
use Rattle.still_commands.proofs.PlanLemmas.{leave_room, one_list_of_pairs, only_want}
use Rattle.still_commands.proofs.plan.plan_pairs.Goals as goal

pub want_of-requires : goal.want_of-requires
want_of-requires c =
    let file = subst (λ text. IsPairs reading_limits text (pairs_of c.args.plan.now)) (sym (c.new-source.ensures ∙ c.in_ok-gen_file.ensures))
    (c.pair_files_are_read.ensures reading_limits c.args.plan.now leave_room c.numbers_are_in_range.ensures) in
    only_want pairs reading_limits c.new-source.result c.read_p2p.new.source _ _ c.in-Err.fault file c.in-Err.ensures.sound c.in-Err.ensures.source

pub returns-in-Ok : goal.returns-in-Ok
returns-in-Ok c =
    let file = subst (λ text. IsPairs reading_limits text (pairs_of c.args.plan.now)) (sym (c.new-source.ensures ∙ c.in_ok-gen_file.ensures))
    (c.pair_files_are_read.ensures reading_limits c.args.plan.now leave_room c.numbers_are_in_range.ensures) in
    one_list_of_pairs c.new-source.result c.in-Ok.pairs.items (pairs_of c.args.plan.now) (rw c.in-Ok.is at c.read_p2p.ensures.sound) file
