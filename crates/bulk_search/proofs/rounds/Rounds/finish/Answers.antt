use Rattle.std.proofs.Common.{rules, arith, ◌≤◌, Err, sym, ap, subst, ◌∙◌}
use Rattle.bulk_search.specs.Rounds.{IsOpen}
use Rattle.bulk_search.proofs.rounds.Rounds.finish.Goals as goal

pub finish_wide-requires-after_bounds : goal.finish_wide-requires-after_bounds
finish_wide-requires-after_bounds g c κs within =
    let four : g.row.D ≤ 4 = omega (arith, c.criteria.ensures.four, c.if-prove.false) in
    let same = c.in_ok-widen-in-Err-TooWide.ensures ∙ c.in-Err-TooWide.ensures.same (ap (λ e. Err e) c.in-Err-TooWide.field-0-is) in
    let still_open = rw c.in-Narrow.is at c.requires.is_open in
    (first_of (omega (arith, four), search rules), (first_of (omega (arith, four), search rules), (first_of (omega (arith, four), search rules), (c.requires.criteria, subst (IsOpen c.args.network.now) (sym same) still_open))))

pub returns-in_ok-widen-in-Err-TooWide : goal.returns-in_ok-widen-in-Err-TooWide
returns-in_ok-widen-in-Err-TooWide g c =
    let same = c.in_ok-widen-in-Err-TooWide.ensures ∙ c.in-Err-TooWide.ensures.same (ap (λ e. Err e) c.in-Err-TooWide.field-0-is) in
    rw (c.in-Narrow.is, ← same) c.finish_wide.ensures

pub returns-in-Wide : goal.returns-in-Wide
returns-in-Wide g c = rw c.in-Wide.is c.finish_wide-in-Wide.ensures
