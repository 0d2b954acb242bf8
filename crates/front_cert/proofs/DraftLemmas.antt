-- What lines say, field by field, and what a draft keeps.
use Rattle.std.proofs.Common.{◌≡◌, ℕ, suc, ◌+◌, ◌-◌, ◌<◌, ◌≤◌, List, [], ◌∷◌, ◌++◌, length, map, Bool, true, false, Option, Some, None, get_or, inl, inr, refl, sym, ap, subst, ◌∙◌, arith, append_assoc}
use Rattle.std.specs.Prelude.{All, AllPairs, Contains, if◌then◌else◌, ◌&&◌, nat_le, codes, slice_get}
use Rattle.std.proofs.lemmas.Bool.{cases_eq}
use Rattle.std.proofs.lemmas.Option.{slice_get-get_or, slice_get-map}
use Rattle.front_cert.proofs.LookupLemmas.{before_trans, of_test}
use Rattle.std.specs.Option.{option_and_then, option_map}
use Rattle.std.proofs.lemmas.Bool.Decides.{nat_tests}
use Rattle.std.proofs.lemmas.List.{append-nil, length-map}
use Rattle.std.proofs.lemmas.List.Elements.{All-append, All-cons, All-nil}
use Rattle.line_text.specs.Numerals.{FirstIn, front_in, is_digits, number_in, value_of}
use Rattle.cost_vector.specs.declared.label.Label.{Label as StoredLabel}
use Rattle.list_laws.proofs.Members.{all_from_in, each_in, of_map}
use Rattle.list_laws.proofs.Pairs.{pairs_map}
use Rattle.road_network.specs.Network.{Network}
use Rattle.cert_rules.specs.Certificates.{IsBefore, IsCertificate, IsLine, max_component, max_labels}
use Rattle.front_cert.specs.declared.draft.Draft.{Draft as KeptDraft}
use Rattle.front_cert.specs.Listing.{line_of}
use Rattle.front_cert.specs.Lookup.{Precedes}
use Rattle.front_cert.specs.Reads.{IsDraft, draft_of}
use Rattle.front_cert.specs.Text.{Draft, begun_draft, components, follows, heading_from, is_word, last_label}

-- a draft with all its labels is a certificate
pub is_certificate : (net : Network) (d : KeptDraft) → IsDraft net d → IsCertificate net (draft_of d).cert
is_certificate net d kept = record {
  start = kept.start;
  target = kept.target;
  lines = all_from_in (IsLine net) (map line_of d.labels.items) (λ l there.
      let found = of_map line_of d.labels.items l there in
      rw (found.2) (each_in (λ x. IsLine net (line_of x)) d.labels.items kept.lines found.0 found.1));
  ascending = pairs_map Precedes IsBefore line_of (λ x z before. before) d.labels.items kept.ascending;
  count = omega (arith, kept.within, kept.few, length-map d.labels.items line_of);
}

-- ---- the first line

abbrev heading_of : Bool → Option ℕ → Option ℕ → Option ℕ → Option ℕ → Option Draft
heading_of word d s t l =
    if word
    then option_and_then (λ criteria. option_and_then (λ start. option_and_then (λ target. option_map (begun_draft start target) l) t) s) d
    else None

heading_of-none : (word : Bool) (d s t : Option ℕ) → heading_of word d s t None ≡ None
heading_of-none false d s t = refl
heading_of-none true None s t = refl
heading_of-none true (Some d) None t = refl
heading_of-none true (Some d) (Some s) None = refl
heading_of-none true (Some d) (Some s) (Some t) = refl

-- without a number of labels a line is no first line
pub heading_none : (net : Network) (word d s t : List ℕ) (others : List (List ℕ)) → front_in 0 max_labels others ≡ None
    → heading_from net (word ∷ d ∷ s ∷ t ∷ others) ≡ None
heading_none net word d s t [] e = refl
heading_none net word d s t (l ∷ []) e =
    ap (heading_of (is_word word (codes "z")) (number_in net.criteria net.criteria d) (number_in 1 net.nodes s) (number_in 1 net.nodes t)) e
    ∙ heading_of-none (is_word word (codes "z")) (number_in net.criteria net.criteria d) (number_in 1 net.nodes s) (number_in 1 net.nodes t)
heading_none net word d s t (l ∷ more ∷ others) e = refl

-- ---- the components of a cost

abbrev pub onto : ℕ → Option (List ℕ) → Option (List ℕ)
onto x rest = option_map (λ xs. x ∷ xs) rest

components_field : (n : ℕ) (field : List ℕ) (others : List (List ℕ)) (x : Option ℕ) → number_in 0 max_component field ≡ x
    → components (suc n) (field ∷ others) ≡ option_and_then (λ x. onto x (components n others)) x
components_field n field others x e = ap (option_and_then (λ x. onto x (components n others))) e

-- one component more is read
pub components_more : (d i : ℕ) (fields others : List (List ℕ)) (x : ℕ) → i < d → FirstIn 0 max_component fields x others
    → components (d - i) fields ≡ onto x (components (d - (i + 1)) others)
components_more d i fields others x below first =
    let next : d - i ≡ suc (d - (i + 1)) = omega (arith, below) in
    ap (λ n. components n fields) next ∙ ap (components (suc (d - (i + 1)))) first.parts
    ∙ components_field (d - (i + 1)) first.field others (Some x) first.writes

-- there is no component where one is due
pub components_stop : (d i : ℕ) (fields : List (List ℕ)) → i < d → front_in 0 max_component fields ≡ None → components (d - i) fields ≡ None
components_stop d i fields below e =
    let next : d - i ≡ suc (d - (i + 1)) = omega (arith, below) in
    ap (λ n. components n fields) next ∙ stop (d - (i + 1)) fields e where
      stop : (n : ℕ) (fields : List (List ℕ)) → front_in 0 max_component fields ≡ None → components (suc n) fields ≡ None
      stop n [] e = refl
      stop n (field ∷ others) e = components_field n field others None e

-- the components so far, and those that are still to come
abbrev pub behind_front : List ℕ → Option (List ℕ) → Option (List ℕ)
behind_front front rest = option_map (λ more. front ++ more) rest

pub front_more : (front : List ℕ) (x : ℕ) (rest : Option (List ℕ)) → behind_front front (onto x rest) ≡ behind_front (front ++ x ∷ []) rest
front_more front x None = refl
front_more front x (Some more) = ap Some (sym (append_assoc front (x ∷ []) more))

pub front_none : (front : List ℕ) (rest : Option (List ℕ)) → rest ≡ None → behind_front front rest ≡ None
front_none front rest e = ap (behind_front front) e

-- all have come
pub front_whole : (front : List ℕ) (d i : ℕ) (fields : List (List ℕ)) → d ≤ i → fields ≡ [] → behind_front front (components (d - i) fields) ≡ Some front
front_whole front d i fields all e =
    let none : d - i ≡ 0 = omega (arith, all) in
    ap (λ n. behind_front front (components n fields)) none ∙ ap (λ fs. behind_front front (components 0 fs)) e ∙ ap Some (append-nil front)

pub front_too_many : (front : List ℕ) (d i : ℕ) (field : List ℕ) (others fields : List (List ℕ)) → d ≤ i → fields ≡ field ∷ others
    → behind_front front (components (d - i) fields) ≡ None
front_too_many front d i field others fields all e =
    let none : d - i ≡ 0 = omega (arith, all) in
    ap (λ n. behind_front front (components n fields)) none ∙ ap (λ fs. behind_front front (components 0 fs)) e

-- a number that a field writes is in range
range_by : (least greatest : ℕ) (digits : Bool) (v x : ℕ) → (if digits && (nat_le least v && nat_le v greatest) then Some v else None) ≡ Some x
    → (least ≤ x) × (x ≤ greatest)
range_by least greatest digits v x e = (grind (arith, nat_tests), grind (arith, nat_tests))

pub in_range : (least greatest : ℕ) (field : List ℕ) (x : ℕ) → number_in least greatest field ≡ Some x → (least ≤ x) × (x ≤ greatest)
in_range least greatest field x e = range_by least greatest (is_digits field) (value_of field) x e

-- one component more keeps all of them small
pub small_more : (front : List ℕ) (fields others : List (List ℕ)) (x : ℕ) → FirstIn 0 max_component fields x others → All (λ y. y ≤ max_component) front
    → All (λ y. y ≤ max_component) (front ++ x ∷ [])
small_more front fields others x first small =
    All-append (λ y. y ≤ max_component) front (x ∷ []) small
    (All-cons (λ y. y ≤ max_component) x [] (in_range 0 max_component first.field x first.writes).1 (All-nil (λ y. y ≤ max_component)))

-- ---- one label more

-- what is greater than the last label is greater than each
pub last_precedes : (labels : List StoredLabel) (l : StoredLabel) → AllPairs Precedes labels
    → follows (last_label (map line_of labels)) (line_of l) ≡ true → (x : StoredLabel) → Contains labels x → Precedes x l
last_precedes labels l ascending after x there =
    let k = there.0 in
    let n = length labels - 1 in
    let y = get_or labels n x in
    let last = slice_get-get_or labels n x (omega (arith, there.1)) in
    let place : length (map line_of labels) - 1 ≡ n = ap (λ m. m - 1) (length-map labels line_of) in
    let last_is : last_label (map line_of labels) ≡ Some (line_of y) =
    ap (slice_get (map line_of labels)) place ∙ slice_get-map line_of labels n ∙ ap (option_map line_of) last in
    let before : Precedes y l = of_test l.node.0 l.cost y (rw last_is at after) in
    elim (cases_eq k n) [
      | inl same ↦ subst (λ z. Precedes z l) (ap (λ m. get_or labels m x) (sym same) ∙ there.2) before
      | inr other ↦
          let earlier : Precedes x y = subst (λ z. Precedes z y) there.2 (ascending k n x (omega (arith, there.1)) (omega (arith, there.1))) in
          before_trans (line_of x) (line_of y) (line_of l) earlier before
    ]
