-- What always holds of what readers find: the rule under which the operator and the readers step.
use Rattle.std.specs.Prelude.{◌≡◌, ℕ, ◌+◌, ◌≤◌, ◌<◌, Bool, false, List, [], ◌∷◌, length, replicate, slice_index}
use mathlib.Core.Option.{some}
use mathlib.Core.List.{IsPrefix}
use lib.ListN.{get_elem?}
use Rattle.arc_graph.specs.History.{History, LeavePage, ends_closed, number_after, sets}
use Rattle.arc_graph.specs.Graph.{Weights}
use Rattle.arc_graph.specs.Pages.{AgreeOnPage, pages_of}
use Rattle.epoch_store.specs.Origin.{Origin, IsPublishedIn, arcs_of, last_number, last_weights}
use Rattle.epoch_store.specs.Published.{Published, Publication, with_publication}
use Rattle.epoch_store.specs.declared.sight.Sight.{Sight}

-- since the epoch of a page's number, no change set has had an arc of the page
abbrev pub ArePageNumbers : ℕ → History → List ℕ → Type 0
ArePageNumbers first h pages = (page i : ℕ) → page < length pages → i ≤ sets h
    → slice_index pages page ≤ number_after first i → LeavePage page h i (sets h)

-- it is the last epoch of its history, in the store that began so
pub record IsEpoch (o : Origin) (p : Published) : Type 0 where
  pub number : p.number ≡ last_number o p.history
  pub unclosed : ends_closed p.history ≡ false
  pub weights : p.weights ≡ last_weights o p.history
  pub pages : ArePageNumbers o.first p.history p.pages
  pub published : IsPublishedIn o p.history

-- what a reader knows before its first look
abbrev pub unsighted : Sight
unsighted = record { looks = 0; seen = []; last = false }

-- the history begins with what each has seen
abbrev pub BeginsWithAll : History → List Sight → Type 0
BeginsWithAll h views = (seat : ℕ) (v : Sight) → get_elem? views seat ≡ some v → IsPrefix v.seen h

-- the rule: an epoch stands, and its history begins with what each has seen
pub record Stands (o : Origin) (p : Published) (views : List Sight) : Type 0 where
  pub epoch : IsEpoch o p
  pub seen : BeginsWithAll p.history views

-- What a look tells, which is counted: an epoch was found, whose history is what was seen from then on; it begins with all
-- that was seen before. Whether no further epoch will come was known as it began.
pub record Looks (o : Origin) (last : Bool) (before : Sight) (p : Published) (after : Sight) : Type 0 where
  pub epoch : IsEpoch o p
  pub counted : after.looks ≡ before.looks + 1
  pub seen : after.seen ≡ p.history
  pub begins : IsPrefix before.seen p.history
  pub known : after.last ≡ last

-- A publication follows what is published: its history goes on from there, and leads to an epoch again.
pub record MayFollow (o : Origin) (p : Published) (q : Publication) : Type 0 where
  pub begins : IsPrefix p.history q.history
  pub epoch : IsEpoch o p → IsEpoch o (with_publication p q)

-- one publication waits to be shown, and follows what is published
pub record AwaitsOne (o : Origin) (p : Published) (waiting : List Publication) : Type 0 where
  pub publication : Publication
  pub alone : waiting ≡ publication ∷ []
  pub follows : MayFollow o p publication

-- what is shown to a reader who has seen this history: its last epoch
pub record IsShown (o : Origin) (seen : History) (n : ℕ) (is_closed : Bool) (w : Weights) : Type 0 where
  pub number : n ≡ last_number o seen
  pub closed : is_closed ≡ ends_closed seen
  pub weights : w ≡ last_weights o seen
  pub published : IsPublishedIn o seen

-- what readers find before the first publication
abbrev pub opening_of : Origin → ℕ → Published
opening_of o first = record {
  number = first;
  weights = o.base;
  pages = replicate (pages_of (arcs_of o)) first;
  history = [];
}

-- the pages below a number were brought to what they are in `from`, and the others are as before
pub record IsBrought (upto : ℕ) (from before after : Weights) : Type 0 where
  pub criteria : after.criteria ≡ from.criteria
  pub arcs : length after.states ≡ length from.states
  pub done : (page : ℕ) → page < upto → AgreeOnPage page after from
  pub rest : (page : ℕ) → upto ≤ page → AgreeOnPage page after before
