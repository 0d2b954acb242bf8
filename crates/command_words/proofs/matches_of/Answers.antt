use Rattle.clap.proofs.WalkLemmas.{both}
use Rattle.command_words.proofs.matches_of.Goals as goal

pub returns-clause-rows : goal.returns-clause-rows
returns-clause-rows c =
    let simple = both _ _ c.requires in (c.in_ok-try_get_matches_from.ensures.matches simple.0).0
