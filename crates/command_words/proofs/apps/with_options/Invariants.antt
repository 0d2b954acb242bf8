use Rattle.std.proofs.Common.{◌≡◌, map, take}
use Rattle.clap.specs.Words.{app_of}
use Rattle.command_words.specs.Apps.{with_options}
use Rattle.command_words.proofs.apps.with_options.Given as goal

-- the command has the options so far
abbrev pub invariant-loop-name : goal.invariant-loop-name
invariant-loop-name l =
    app_of l.command ≡ with_options l.fn.required (app_of l.fn.command) (take l.name-index (map (λ s. s.now) l.fn.names))
