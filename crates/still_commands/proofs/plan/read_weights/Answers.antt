use Rattle.gr_reader.specs.Grammar.{weights}
use Rattle.gen_laws.specs.Laws.{file_of}
use Rattle.still_commands.specs.FilesRead.{reading_limits}
use Rattle.still_commands.proofs.PlanLemmas.{made_weights, only_want, takes_whole}
use Rattle.still_commands.proofs.plan.read_weights.Goals as goal

pub want_of-requires : goal.want_of-requires
want_of-requires c =
    let file = made_weights c.args.plan.now c.args.criterion c.new-source.result c.in_ok-gen_file.field-0.items c.numbers_are_in_range.ensures
    c.weight_files_are_read.ensures c.requires.some c.new-source.ensures c.in_ok-gen_file.ensures in
    only_want weights reading_limits c.new-source.result c.read_into.new.source _ _ c.in-Err.fault file c.in-Err.ensures.reads c.in-Err.ensures.source

pub returns-in-Ok : goal.returns-in-Ok
returns-in-Ok c =
    let file = made_weights c.args.plan.now c.args.criterion c.new-source.result c.in_ok-gen_file.field-0.items c.numbers_are_in_range.ensures
    c.weight_files_are_read.ensures c.requires.some c.new-source.ensures c.in_ok-gen_file.ensures in
    takes_whole c.new-source.result (file_of c.args.plan.now c.args.criterion) c.args.joiner.now c.read_into.new.sink file
    (rw c.in-Ok.is at c.read_into.ensures.reads)
