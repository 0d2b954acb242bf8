-- Parties that serve links: one party, two lists of parties one behind the other, and one party before all others.
use Rattle.std.proofs.Common.{◌≡◌, List, [], ◌∷◌, ◌++◌, length, get_or, set, refl, sym, ap₂, ◌∙◌, arith}
use Rattle.std.proofs.lemmas.List.{map-append}
use Rattle.std.proofs.lemmas.List.Elements.{All-append, All-cons, All-nil}
use Rattle.route_lanes.specs.Services.{AllServe, FirstAndAllServe, ServesOne, Service}

-- what becomes of the only link
pub serves_one : {P L : Type 0} (Serves : P → L → P → L → Type 0) (links : List L) (p q : P) (l m : L) → length links ≡ 1
    → Serves p (get_or links 0 l) q m → ServesOne Serves p links q (set links 0 m)
serves_one Serves [] p q l m one served = absurd (omega arith)
serves_one Serves (x ∷ y ∷ links) p q l m one served = absurd (omega arith)
serves_one Serves (x ∷ []) p q l m one served = record { link = x; link_after = m; link_is = refl; link_became = refl; served = served }

-- the only party served the only link
pub only_one : {P L : Type 0} (Serves : P → L → P → L → Type 0) (parties : List P) (links links_after : List L) (p q : P)
    → length parties ≡ 1 → ServesOne Serves (get_or parties 0 p) links q links_after
    → AllServe Serves parties links (set parties 0 q) links_after
only_one Serves [] links links_after p q one served = absurd (omega arith)
only_one Serves (x ∷ y ∷ parties) links links_after p q one served = absurd (omega arith)
only_one {P} {L} Serves (x ∷ []) links links_after p q one served =
    let only : Service P L = record { party = x; link = served.link; party_after = q; link_after = served.link_after } in record {
      services = only ∷ [];
      parties_are = refl;
      links_are = served.link_is;
      parties_became = refl;
      links_became = served.link_became;
      each = All-cons (λ s. Serves s.party s.link s.party_after s.link_after) only [] served.served (All-nil _);
    }

-- parties and their links, one list behind the other
pub all_serve_append : {P L : Type 0} (Serves : P → L → P → L → Type 0) {ps qs ps' qs' : List P} {ls ms ls' ms' : List L}
    → AllServe Serves ps ls ps' ls' → AllServe Serves qs ms qs' ms' → AllServe Serves (ps ++ qs) (ls ++ ms) (ps' ++ qs') (ls' ++ ms')
all_serve_append {P} {L} Serves a b =
    let served : Service P L → Type 0 = λ s. Serves s.party s.link s.party_after s.link_after in record {
      services = a.services ++ b.services;
      parties_are = ap₂ ◌++◌ a.parties_are b.parties_are ∙ sym (map-append (λ s. s.party) a.services b.services);
      links_are = ap₂ ◌++◌ a.links_are b.links_are ∙ sym (map-append (λ s. s.link) a.services b.services);
      parties_became = ap₂ ◌++◌ a.parties_became b.parties_became ∙ sym (map-append (λ s. s.party_after) a.services b.services);
      links_became = ap₂ ◌++◌ a.links_became b.links_became ∙ sym (map-append (λ s. s.link_after) a.services b.services);
      each = All-append served a.services b.services a.each b.each;
    }

-- one party before all others
pub first_and_all : {O P L : Type 0} (ServesFirst : O → L → O → L → Type 0) (Serves : P → L → P → L → Type 0) {o o' : O} {ps ps' : List P}
    {first rest first' rest' : List L} → ServesOne ServesFirst o first o' first' → AllServe Serves ps rest ps' rest'
    → FirstAndAllServe ServesFirst Serves o ps (first ++ rest) o' ps' (first' ++ rest')
first_and_all ServesFirst Serves {rest} {rest'} one all = record {
  first = one.link;
  first_after = one.link_after;
  rest = rest;
  rest_after = rest';
  links_are = ap₂ ◌++◌ one.link_is (refl);
  links_became = ap₂ ◌++◌ one.link_became (refl);
  served_first = one.served;
  served = all;
}
