use Rattle.std.proofs.Common.{◌≡◌, ◌<◌, length, suc, ◌∷◌, ◌++◌, take, drop, set, subst, arith}
use Rattle.std.proofs.lemmas.List.{set_split}
use Rattle.settled_list.proofs.staircase.replace.Goals as goal

pub returns-else-start-end-2-clause-replaced : goal.returns-else-start-end-2-clause-replaced
returns-else-start-end-2-clause-replaced g c =
    let items = c.args.items.now.items in
    let start = c.args.start in
    let within : start < length items = omega (arith, c.requires.order, c.requires.within, c.if-start-end.false) in
    let next : suc start ≡ c.args.end = omega (arith, c.requires.order, c.if-start-end.false, c.if-start-end-2.false) in
    subst (λ n. set items start c.args.item ≡ take start items ++ c.args.item ∷ drop n items) next (set_split items start c.args.item within)
