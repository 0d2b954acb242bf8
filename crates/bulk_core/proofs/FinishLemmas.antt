-- How a round ends: candidates come to what waits.
use Rattle.std.proofs.Common.{◌≡◌, ◌⊎◌, ◌↔◌, ℕ, List, [], ◌++◌, map, inl, inr, refl, append_assoc}
use Rattle.std.specs.Prelude.{All, Contains}
use Rattle.std.proofs.lemmas.List.{map-append}
use Rattle.cost_vector.proofs.Vectors.{AtMost-refl}
use Rattle.list_laws.proofs.Members.{each_in}
use Rattle.list_laws.proofs.OnceLaws.{in_append}
use Rattle.bulk_rounds.specs.Cores.{Core, Item, SameSearch, Spot}
use Rattle.bulk_rounds.specs.Finishes.{PutsAll}
use Rattle.bulk_rounds.specs.Kept.{IsFrom, IsKeptItem}
use Rattle.bulk_rounds.proofs.KeptLemmas.{kept_as, none_more}
use Rattle.bulk_core.specs.Kept.{IsKeptCore}
use Rattle.bulk_core.proofs.KeptLemmas.{kept_core}

module _ {X : Type 0} (waiting : X → Item) {before : Core} {count : ℕ} {took : List Item} (core : IsKeptCore before count took) (queue : List Item)
    (fresh candidates : List X) (was : before.queue ≡ queue ++ map waiting fresh) (left : List Spot) where
  abbrev after : Core
  after = record before { queue = queue ++ map waiting (fresh ++ candidates); taken = left }

  same_search : SameSearch before after
  same_search = record { nodes = refl; criteria = refl; start = refl; target = refl; limit = refl; budget = refl }

  in_after : (i : Item) → Contains after.queue i ↔ (Contains before.queue i ⊎ Contains (map waiting candidates) i)
  in_after i = rw (map-append waiting fresh candidates, ← append_assoc, ← was) (in_append before.queue (map waiting candidates) i)

  -- what a core keeps stays so
  pub kept_with_more : {others : List Item} → All (IsFrom before) others → All (IsKeptItem before) (map waiting candidates) → IsKeptCore after count others
  kept_with_more {others} from kept = kept_core same_search [] (none_more same_search refl) core
      (kept_as same_search refl count (λ i there. elim ((in_after i).0 there) [
        | inl old ↦ core.kept.items i old
        | inr new ↦ each_in (IsKeptItem before) (map waiting candidates) kept i new
      ]) core.kept) from

  -- all of them are put
  pub puts_all : left ≡ [] → PutsAll (map waiting candidates) before after
  puts_all none = record {
    same_search = same_search;
    settled = refl;
    none_taken = none;
    put = map waiting candidates;
    queue = λ x. (
      λ (i, there, is). elim ((in_after i).0 there) [ inl old ↦ inl (i, old, is) | inr new ↦ inr (i, new, is) ],
      elim [ inl (i, there, is) ↦ (i, (in_after i).1 (inl there), is) | inr (i, there, is) ↦ (i, (in_after i).1 (inr there), is) ],
    );
    among = λ x there. there;
    rest = λ x there. inr (record { spot = x; there = there; node = refl; at_most = AtMost-refl x.cost });
  }
