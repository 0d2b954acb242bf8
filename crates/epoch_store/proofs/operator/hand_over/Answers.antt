use Rattle.std.proofs.Common.{List, [], ◌∷◌, ◌++◌, ap, sym, subst, ◌∙◌}
use Rattle.epoch_store.specs.Published.{Published, Publication}
use Rattle.epoch_store.specs.StoreRule.{MayFollow}
use Rattle.epoch_store.proofs.operator.hand_over.Goals as goal

pub replace_with-requires : goal.replace_with-requires
replace_with-requires g c =
    let q = c.args.publication in
    let shown = ap (λ d. d.shown.value) c.append.ensures.shown in
    record {
      publication = q;
      alone = c.in_ok-append.ensures.waits ∙ ap (λ (waiting : List Publication). waiting ++ q ∷ []) c.requires.idle;
      follows = subst (λ (p : Published). MayFollow g.S.Store.origin p q) (sym shown) c.requires.follows;
    }
