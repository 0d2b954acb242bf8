-- What came of all pieces, put in their order.
use Rattle.std.proofs.Common.{◌≡◌, ℕ, ◌+◌, ◌<◌, ◌≤◌, List, [], ◌∷◌, ◌++◌, length, get_or, sym, ap, ◌∙◌, subst, subst₂, inl, inr, arith, length-append, zero-add, lt_irrefl}
use Rattle.std.specs.Prelude.{AllPairs, map}
use Rattle.std.specs.List.{range_with_len}
use Rattle.std.proofs.lemmas.List.{get_or-map, length-map}
use Rattle.std.proofs.lemmas.List.FromFn.{length-range_with_len, get_or-range_with_len}
use Rattle.std.proofs.lemmas.List.Sorted.{All-permutation, IsPermutation-map}
use Rattle.std.proofs.lemmas.Option.{slice_get_within, get_or_from_slice_get}
use Rattle.list_laws.proofs.Ascending.{ascending_same}
use Rattle.list_laws.proofs.Gets.{get_in_push}
use Rattle.list_laws.proofs.OnceLaws.{lists_in_any_order, range_once, same_by}
use Rattle.list_laws.proofs.Pairs.{pairs_map}
use Rattle.work_claim.specs.declared.done.Done.{Done}
use Rattle.work_claim.specs.Claims.{EachOnce, HoldsEachPieceOnce}
use Rattle.work_claim.specs.Results.{AreDone, AreInOrder, GivesAll, pieces_of}

-- the numbers of all pieces, each once and not falling, are the numbers from 0 on
numbered : (pieces : ℕ) (is : List ℕ) → EachOnce pieces is → AllPairs ◌≤◌ is → is ≡ range_with_len 0 pieces
numbered pieces is each rising =
    let long = length-range_with_len 0 pieces in
    ascending_same ◌<◌ (λ x. lt_irrefl x) (λ x y z below above. omega (arith, below, above)) is (range_with_len 0 pieces)
    (λ i j d before within. let apart = each.once i j d before within in omega (arith, apart, rising i j d before within))
    (λ i j d before within. let first = get_or-range_with_len 0 pieces i d (omega (arith, before, within, long)) in
    let second = get_or-range_with_len 0 pieces j d (omega (arith, within, long)) in omega (arith, before, first, second))
    (same_by (λ i. i < pieces) is (range_with_len 0 pieces) each.exact (range_once pieces).exact)

module _ {Out : Type 0} (gives : ℕ → Out → Type 0) (pieces : ℕ) where
  -- one result more, of the next piece
  pub gives_more : (outs : List Out) (out : Out) → GivesAll gives pieces outs → gives pieces out → GivesAll gives (pieces + 1) (outs ++ out ∷ [])
  gives_more outs out before given = record {
    count = omega (arith, length-append outs (out ∷ []), before.count);
    each = λ i x at. elim (get_in_push outs out x i at) [
      | inl old ↦ before.each i x old
      | inr (last, same) ↦ subst₂ gives (sym (last ∙ before.count)) (sym same) given
    ];
  }

  -- what was put in order is what may come of the pieces
  pub gives_ordered : (numbers : List ℕ) (done : List (Done Out)) → HoldsEachPieceOnce pieces numbers → AreDone gives pieces numbers done
      → (outs : List Out) → AreInOrder done outs → GivesAll gives pieces outs
  gives_ordered numbers done once all outs ordered =
      let piece : Done Out → ℕ = λ d. d.piece in
      let result : Done Out → Out = λ d. d.out in
      let ys = ordered.sorted in
      let each = lists_in_any_order (λ i. i < pieces) (pieces_of done) (pieces_of ys) (IsPermutation-map piece done ys ordered.moved)
      (subst (EachOnce pieces) (sym all.drawn) once) in
      let are = numbered pieces (pieces_of ys) each (pairs_map (λ a b. piece a ≤ piece b) ◌≤◌ piece (λ a b at_most. at_most) ys
      (λ i j d before within. ordered.rises i j d (omega (arith, before)) within)) in
      let long : length ys ≡ pieces = sym (length-map ys piece) ∙ (ap length are ∙ length-range_with_len 0 pieces) in
      rw ordered.results (record {
        count = length-map ys result ∙ long;
        each = λ i out at.
            let none : Done Out = record { piece = i; out = out } in
            let within : i < length ys = omega (arith, slice_get_within (map result ys) i out at, length-map ys result) in
            let number = sym (get_or-map piece ys i none 0 within) ∙ ap (λ is. get_or is i 0) are
            ∙ get_or-range_with_len 0 pieces i 0 (omega (arith, within, long)) ∙ zero-add i in
            let its = sym (get_or-map result ys i none out within) ∙ get_or_from_slice_get (map result ys) i out out at in
            subst₂ gives number its (All-permutation (λ d. gives d.piece d.out) done ys ordered.moved all.each i none within);
      })
