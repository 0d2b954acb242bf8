-- The replies to queries, made place by place.
use Rattle.std.proofs.Common.{◌≡◌, ℕ, zero, suc, List, [], ◌∷◌, Some, Option, length, take, refl, subst, arith}
use Rattle.std.specs.Prelude.{IfSome, slice_get}
use Rattle.std.specs.List.{AllZip}
use Rattle.road_network.specs.Network.{Network}
use Rattle.road_network.specs.declared.query.AnswerKind.{AnswerKind}
use Rattle.road_network.specs.declared.query.Query.{Query}
use Rattle.work_claim.specs.Results.{GivesAll}
use Rattle.session_core.specs.declared.made.MadeReply.{MadeReply}
use Rattle.session_core.specs.declared.mode.SearchMode.{SearchMode}
use Rattle.session_core.specs.Making.{AreMade, IsMade}

-- what holds at each place of two lists of one length holds of them place by place
zipped : {A B : Type 0} (R : A → B → Type 0) (xs : List A) (ys : List B) → length ys ≡ length xs
    → ((k : ℕ) (x : A) (y : B) → slice_get xs k ≡ Some x → slice_get ys k ≡ Some y → R x y) → AllZip R xs ys
zipped R [] [] same each = tt
zipped R [] (y ∷ ys) same each = absurd (omega (arith, same))
zipped R (x ∷ xs) [] same each = absurd (omega (arith, same))
zipped R (x ∷ xs) (y ∷ ys) same each =
    (each 0 x y refl refl, zipped R xs ys (omega (arith, same)) (λ k a b at to. each (suc k) a b at to))

-- so it does of the first of them
zipped_first : {A B : Type 0} (R : A → B → Type 0) (xs : List A) (ys : List B) (n : ℕ) → AllZip R xs ys
    → AllZip R (take (length (take n ys)) xs) (take n ys)
zipped_first R xs ys zero all = tt
zipped_first R [] [] (suc n) all = tt
zipped_first R [] (y ∷ ys) (suc n) all = all
zipped_first R (x ∷ xs) [] (suc n) all = tt
zipped_first R (x ∷ xs) (y ∷ ys) (suc n) all = (all.0, zipped_first R xs ys n all.1)

-- the first of what calls with the places of the queries gave are the replies to the first of these
pub first_made : (net : Network) (mode : SearchMode) (epoch : ℕ) (kind : AnswerKind) (queries : List Query) (outs : List (Option MadeReply)) (n : ℕ)
    → GivesAll (λ k made. IfSome (slice_get queries k) (λ query. IfSome made (IsMade net mode epoch kind query))) (length queries) outs
    → AreMade net mode epoch kind (take (length (take n outs)) queries) (take n outs)
first_made net mode epoch kind queries outs n gives =
    let each = λ (query : Query) (made : Option MadeReply). IfSome made (IsMade net mode epoch kind query) in
    zipped_first each queries outs n (zipped each queries outs gives.count
    (λ k query made at to. subst (λ o. IfSome o (λ q. each q made)) at (gives.each k made to)))
