-- Parties that serve links, each one of its own, by calls of a closure.
use Rattle.std.specs.Prelude.{◌≡◌, List, [], ◌∷◌, map, All}
use Rattle.std.specs.Borrow.{MutBor}
use Rattle.std.specs.Fn.{Shared}

module _ {F P L : Type 0} (g : Shared F (MutBor P × (MutBor L × Unit {0})) (Unit {0} × (MutBor P × (MutBor L × Unit {0}))))
    (f : F) where
  -- f may be called with this party, and any link
  abbrev pub Accepts : P → Type 0
  Accepts p = (party : MutBor P) (link : MutBor L) → party.now ≡ p → g.pre f (party, (link, tt))

  -- f may be called with this party and this link
  abbrev pub AcceptsBoth : P → L → Type 0
  AcceptsBoth p l = (party : MutBor P) (link : MutBor L) → party.now ≡ p → link.now ≡ l → g.pre f (party, (link, tt))

  -- a call of f with this party and this link may leave those
  pub record CallLeaves (p : P) (l : L) (p' : P) (l' : L) : Type 0 where
    pub party : MutBor P
    pub link : MutBor L
    pub party_is : party.now ≡ p
    pub link_is : link.now ≡ l
    pub party_left : MutBor P
    pub link_left : MutBor L
    pub call : g.post f (party, (link, tt)) (tt, (party_left, (link_left, tt)))
    pub party_becomes : party_left.now ≡ p'
    pub link_becomes : link_left.now ≡ l'

-- A party served the only link.
pub record ServesOne {P L : Type 0} (Serves : P → L → P → L → Type 0) (party : P) (links : List L) (party_after : P)
    (links_after : List L) : Type 0 where
  pub link : L
  pub link_after : L
  pub link_is : links ≡ link ∷ []
  pub link_became : links_after ≡ link_after ∷ []
  pub served : Serves party link party_after link_after

-- a party and its link, before and afterwards
pub record Service (P L : Type 0) : Type 0 where
  pub party : P
  pub link : L
  pub party_after : P
  pub link_after : L

-- Each party served the link of its place.
pub record AllServe {P L : Type 0} (Serves : P → L → P → L → Type 0) (parties : List P) (links : List L)
    (parties_after : List P) (links_after : List L) : Type 0 where
  pub services : List (Service P L)
  pub parties_are : parties ≡ map (λ s. s.party) services
  pub links_are : links ≡ map (λ s. s.link) services
  pub parties_became : parties_after ≡ map (λ s. s.party_after) services
  pub links_became : links_after ≡ map (λ s. s.link_after) services
  pub each : All (λ s. Serves s.party s.link s.party_after s.link_after) services

-- One party served the first link, and each of the others one of the rest.
pub record FirstAndAllServe {O P L : Type 0} (ServesFirst : O → L → O → L → Type 0) (Serves : P → L → P → L → Type 0)
    (one : O) (parties : List P) (links : List L) (one_after : O) (parties_after : List P) (links_after : List L)
    : Type 0 where
  pub first : L
  pub first_after : L
  pub rest : List L
  pub rest_after : List L
  pub links_are : links ≡ first ∷ rest
  pub links_became : links_after ≡ first_after ∷ rest_after
  pub served_first : ServesFirst one first one_after first_after
  pub served : AllServe Serves parties rest parties_after rest_after
