use Rattle.std.proofs.Common.{◌≡◌, ◌∙◌, ◌+◌, ◌<◌, ℕ, Bool, Bor, List, ap, ap₂, get_or, length, map, sym, take, rules, arith}
use Rattle.std.proofs.lemmas.List.{get_or-map, length-map, take_all}
use Rattle.std.proofs.lemmas.List.Sums.{fold_more}
use Rattle.clap.specs.Words.{App, Text, with_rule}
use Rattle.command_words.specs.Apps.{option_rule, with_options}
use Rattle.command_words.proofs.apps.with_options.Goals as goal

one_more : (required : Bool) (first before after : App) (names : List (Bor Text)) (i : ℕ) (d : Bor Text) → i < length names
    → before ≡ with_options required first (take i (map (λ s. s.now) names))
    → after ≡ with_rule before (option_rule (get_or names i d).now required)
    → after ≡ with_options required first (take (i + 1) (map (λ s. s.now) names))
one_more required first before after names i d within was is =
    let texts : List Text = map (λ s. s.now) names in
    let here : get_or texts i d.now ≡ (get_or names i d).now = get_or-map (λ (s : Bor Text). s.now) names i d d.now within in
    let step = fold_more (λ app name. with_rule app (option_rule name required)) first texts i d.now (omega (arith, length-map names (λ (s : Bor Text). s.now))) in
    is ∙ ap₂ (λ a t. with_rule a (option_rule t required)) was (sym here) ∙ sym step

pub loop-name-init : goal.loop-name-init
loop-name-init c = search rules

pub loop-name-preserved : goal.loop-name-preserved
loop-name-preserved c = one_more _ _ _ _ _ _ _ c.loop-name-test.true c.loop-name.invariant c.in_ok-command.ensures

pub returns : goal.returns
returns c =
    let texts : List Text = map (λ s. s.now) c.args.names.now in
    c.loop-name.invariant ∙ ap (with_options c.args.required _) (take_all c.loop-name.name-index texts (omega (arith, length-map c.args.names.now (λ (s : Bor Text). s.now))))
