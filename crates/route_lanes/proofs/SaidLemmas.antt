-- What becomes of parties and links, said in other words.
use Rattle.std.proofs.Common.{◌≡◌, List, length, ap, sym, subst, ◌∙◌}
use Rattle.std.proofs.lemmas.List.{length-map}
use Rattle.std.proofs.lemmas.List.Elements.{All-weaker}
use Rattle.std.specs.Borrow.{MutBor}
use Rattle.std.specs.Fn.{Shared}
use Rattle.route_lanes.specs.Services.{AllServe, CallLeaves, FirstAndAllServe, Service}

-- what a call of a closure leaves, by what the closure ensures
pub leaves_as : {F P L : Type 0} (g : Shared F (MutBor P × (MutBor L × Unit {0})) (Unit {0} × (MutBor P × (MutBor L × Unit {0})))) (f : F)
    (R : P → L → P → L → Type 0)
    → ((a : MutBor P) (b : MutBor L) (c : MutBor P) (d : MutBor L) → g.post f (a, (b, tt)) (tt, (c, (d, tt))) → R a.now b.now c.now d.now)
    → (p : P) (l : L) (p' : P) (l' : L) → CallLeaves g f p l p' l' → R p l p' l'
leaves_as g f R says p l p' l' call =
    let at = says call.party call.link call.party_left call.link_left call.call in
    subst (λ q. R p l q l') call.party_becomes
    (subst (λ m. R p l call.party_left.now m) call.link_becomes
    (subst (λ q. R q l call.party_left.now call.link_left.now) call.party_is
    (subst (λ m. R call.party.now m call.party_left.now call.link_left.now) call.link_is at)))

-- what becomes of each party and its link, said in other words
pub all_serve_as : {P L : Type 0} (A B : P → L → P → L → Type 0) → ((p : P) (l : L) (p' : P) (l' : L) → A p l p' l' → B p l p' l')
    → {ps ps' : List P} {ls ls' : List L} → AllServe A ps ls ps' ls' → AllServe B ps ls ps' ls'
all_serve_as {P} {L} A B says all =
    let before : Service P L → Type 0 = λ s. A s.party s.link s.party_after s.link_after in
    let after : Service P L → Type 0 = λ s. B s.party s.link s.party_after s.link_after in record {
      services = all.services;
      parties_are = all.parties_are;
      links_are = all.links_are;
      parties_became = all.parties_became;
      links_became = all.links_became;
      each = All-weaker before after (λ s. says s.party s.link s.party_after s.link_after) all.services all.each;
    }

-- the same of one party before all others
pub first_and_all_as : {O P L : Type 0} (A B : O → L → O → L → Type 0) (C D : P → L → P → L → Type 0)
    → ((o : O) (l : L) (o' : O) (l' : L) → A o l o' l' → B o l o' l') → ((p : P) (l : L) (p' : P) (l' : L) → C p l p' l' → D p l p' l')
    → {o o' : O} {ps ps' : List P} {ls ls' : List L} → FirstAndAllServe A C o ps ls o' ps' ls' → FirstAndAllServe B D o ps ls o' ps' ls'
first_and_all_as A B C D one_as all_as is = record {
  first = is.first;
  first_after = is.first_after;
  rest = is.rest;
  rest_after = is.rest_after;
  links_are = is.links_are;
  links_became = is.links_became;
  served_first = one_as _ _ _ _ is.served_first;
  served = all_serve_as C D all_as is.served;
}

-- there are as many parties afterwards as before
pub as_many_parties : {P L : Type 0} (Serves : P → L → P → L → Type 0) {ps ps' : List P} {ls ls' : List L} → AllServe Serves ps ls ps' ls'
    → length ps' ≡ length ps
as_many_parties {P} {L} Serves all =
    let before = ap length all.parties_are ∙ length-map all.services (λ (s : Service P L). s.party) in
    let after = ap length all.parties_became ∙ length-map all.services (λ (s : Service P L). s.party_after) in
    after ∙ sym before
