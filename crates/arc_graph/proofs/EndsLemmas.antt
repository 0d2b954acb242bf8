-- The least arc of other ends, when files and arcs come.
use Rattle.std.proofs.Common.{◌≡◌, ◌≢◌, ℕ, ◌+◌, ◌-◌, ◌<◌, ◌≤◌, ◌⊎◌, zero, suc, ◌&&◌, List, [], ◌∷◌, ◌++◌, ◌∙◌}
use Rattle.std.proofs.Common.{get_or, Decides, eq-eqb, Some, length, map, inl, inr, arith, sym, subst, ap, refl}
use Rattle.std.specs.Prelude.{slice_get, nat_eq}
use Rattle.std.proofs.lemmas.Bool.{and_parts, and_from, eqb-true}
use Rattle.arc_graph.specs.declared.graph.Ends.{Ends}
use Rattle.arc_graph.specs.Layout.{pair_of}
use Rattle.std.specs.Option.{option_map}
use Rattle.std.proofs.lemmas.Option.{slice_get_within, slice_get-map, slice_get_read, same_Some}
use Rattle.arc_graph.specs.declared.file.ArcLine.{ArcLine}
use Rattle.arc_graph.specs.Files.{ArcFile, ends_of, with_arc}
use Rattle.arc_graph.specs.Agreement.{DiffersInEnds}
use Rattle.list_laws.proofs.Gets.{get_in_push, get_before, get_added}
use Rattle.arc_graph.proofs.OtherEndsLemmas.{AddsPair}

-- the same arcs differ where the file with the other one stands in a list of the same first file
moved : (first : ArcFile) (fs gs : List ArcFile) (a f : ℕ) (d : DiffersInEnds (first ∷ fs) a f) (other : ArcFile)
    → slice_get (first ∷ gs) (f - 1) ≡ Some other → slice_get other.arcs (a - 1) ≡ Some d.other_arc → DiffersInEnds (first ∷ gs) a f
moved first fs gs a f d other at arc_at = record {
  first = d.first;
  other = other;
  files_are = record { counted = d.files_are.counted; first_is = d.files_are.first_is; other_is = at };
  counted = d.counted;
  arc = d.arc;
  other_arc = d.other_arc;
  arc_is = d.arc_is;
  other_arc_is = arc_at;
  differs = d.differs;
}

-- of one file no ends differ
pub no_other_ends : (files : List ArcFile) (a f : ℕ) → length files ≤ 1 → ¬ DiffersInEnds files a f
no_other_ends files a f one d =
    let within = slice_get_within files (f - 1) d.other d.files_are.other_is in
    let at_first : f - 1 ≡ 0 = omega (arith, within) in
    let same : d.other ≡ d.first = same_Some _ _ (sym d.files_are.other_is ∙ ap (slice_get files) at_first ∙ d.files_are.first_is) in
    let same_arc : d.other_arc ≡ d.arc = same_Some _ _ (sym d.other_arc_is ∙ ap (λ (x : ArcFile). slice_get x.arcs (a - 1)) same ∙ d.arc_is) in
    d.differs (ap ends_of same_arc)

-- a file without arcs has no other ends
pub ends_with_new : (first new : ArcFile) (others : List ArcFile) (a f : ℕ) → DiffersInEnds (first ∷ others) a f
    → DiffersInEnds (first ∷ others ++ new ∷ []) a f
ends_with_new first new others a f d =
    let stays = get_before (first ∷ others) (new ∷ []) d.other (f - 1) d.files_are.other_is in
    moved first others (others ++ new ∷ []) a f d d.other stays d.other_arc_is

-- nor does it give other ends to any arc
pub ends_before_new : (first new : ArcFile) (others : List ArcFile) (a f : ℕ) → new.arcs ≡ [] → DiffersInEnds (first ∷ others ++ new ∷ []) a f
    → DiffersInEnds (first ∷ others) a f
ends_before_new first new others a f none d = elim (get_in_push (first ∷ others) new d.other (f - 1) d.files_are.other_is) [
  | inl before ↦ moved first (others ++ new ∷ []) others a f d d.other before d.other_arc_is
  | inr added ↦
      let no_arcs : d.other.arcs ≡ [] = ap (λ (x : ArcFile). x.arcs) added.1 ∙ none in
      let nothing : slice_get [] (a - 1) ≡ Some d.other_arc = ap (λ (xs : List ArcLine). slice_get xs (a - 1)) (sym no_arcs) ∙ d.other_arc_is in
      absurd cc
]

-- the arc has other ends than that of its number in the first file
pub record HasOther (first : ArcFile) (place : ℕ) (a : ArcLine) : Type 0 where
  pub arc : ArcLine
  pub arc_is : slice_get first.arcs place ≡ Some arc
  pub differs : ends_of a ≢ ends_of arc

-- the ends that differ in a first file, further ones and a last one
abbrev Differs : ArcFile → List ArcFile → ArcFile → ℕ → ℕ → Type 0
Differs first more last = DiffersInEnds (first ∷ more ++ last ∷ [])

-- the arc that differs in the file, if that is the one with these arcs
arc_in : (last other : ArcFile) (i : ℕ) (arc : ArcLine) → other ≡ last → slice_get other.arcs i ≡ Some arc → slice_get last.arcs i ≡ Some arc
arc_in last other i arc same at = subst (λ (f : ArcFile). slice_get f.arcs i ≡ Some arc) same at

kept_with_arc : (first last : ArcFile) (more : List ArcFile) (a : ArcLine) (x y : ℕ) → Differs first more last x y → Differs first more (with_arc last a) x y
kept_with_arc first last more a x y d =
    let grown = with_arc last a in
    let before = more ++ last ∷ [] in
    let after = more ++ grown ∷ [] in
    elim (get_in_push (first ∷ more) last d.other (y - 1) d.files_are.other_is) [
      | inl stays ↦ moved first before after x y d d.other (get_before (first ∷ more) (grown ∷ []) d.other (y - 1) stays) d.other_arc_is
      | inr added ↦
          let at = arc_in last d.other (x - 1) d.other_arc added.1 d.other_arc_is in
          let there = get_added (first ∷ more) grown (y - 1) added.0 in
          moved first before after x y d grown there (get_before last.arcs (a ∷ []) d.other_arc (x - 1) at)
    ]

added_by_arc : (first last : ArcFile) (more : List ArcFile) (a : ArcLine) → HasOther first (length last.arcs) a
    → Differs first more (with_arc last a) (length last.arcs + 1) (length more + 2)
added_by_arc first last more a here = record {
  first = first;
  other = with_arc last a;
  files_are = record {
    counted = omega arith;
    first_is = refl;
    other_is = get_added (first ∷ more) (with_arc last a) (length more + 2 - 1) (omega arith);
  };
  counted = omega arith;
  arc = here.arc;
  other_arc = a;
  arc_is = subst (λ n. slice_get first.arcs n ≡ Some here.arc) (omega arith) here.arc_is;
  other_arc_is = get_added last.arcs a (length last.arcs + 1 - 1) (omega arith);
  differs = here.differs;
}

only_by_arc : (first last : ArcFile) (more : List ArcFile) (a : ArcLine) (x y : ℕ) → Differs first more (with_arc last a) x y
    → Differs first more last x y ⊎ ((x ≡ length last.arcs + 1) × (y ≡ length more + 2) × HasOther first (length last.arcs) a)
only_by_arc first last more a x y d =
    let grown = with_arc last a in
    let before = more ++ grown ∷ [] in
    let after = more ++ last ∷ [] in
    elim (get_in_push (first ∷ more) grown d.other (y - 1) d.files_are.other_is) [
      | inl stays ↦ inl (moved first before after x y d d.other (get_before (first ∷ more) (last ∷ []) d.other (y - 1) stays) d.other_arc_is)
      | inr added ↦ elim (get_in_push last.arcs a d.other_arc (x - 1) (arc_in grown d.other (x - 1) d.other_arc added.1 d.other_arc_is)) [
        | inl old ↦ inl (moved first before after x y d last (get_added (first ∷ more) last (y - 1) added.0) old)
        | inr new ↦
            let at = arc_in first d.first (x - 1) d.arc (sym (same_Some _ _ d.files_are.first_is)) d.arc_is in
            inr (
              omega (arith, d.counted, new.0),
              omega (arith, d.files_are.counted, added.0),
              record {
                arc = d.arc;
                arc_is = subst (λ n. slice_get first.arcs n ≡ Some d.arc) new.0 at;
                differs = λ e. d.differs (ap ends_of new.1 ∙ e);
              },
            )
      ]
    ]

before_arc : (first last : ArcFile) (more : List ArcFile) (y : ℕ) → Differs first more last (length last.arcs + 1) y → y < length more + 2
before_arc first last more y d = elim (get_in_push (first ∷ more) last d.other (y - 1) d.files_are.other_is) [
  | inl stays ↦ let within = slice_get_within (first ∷ more) (y - 1) d.other stays in omega (arith, within)
  | inr added ↦
      let at = arc_in last d.other (length last.arcs + 1 - 1) d.other_arc added.1 d.other_arc_is in
      let within = slice_get_within last.arcs (length last.arcs + 1 - 1) d.other_arc at in absurd (omega (arith, within))
]

-- one arc more of the last file has other ends, or has not, and no other arc comes to have them
pub adds_arc : (first last : ArcFile) (more : List ArcFile) (a : ArcLine)
    → AddsPair (Differs first more last) (Differs first more (with_arc last a)) (length last.arcs + 1) (length more + 2) (HasOther first (length last.arcs) a)
adds_arc first last more a = record {
  kept = kept_with_arc first last more a;
  added = added_by_arc first last more a;
  only = only_by_arc first last more a;
  above = before_arc first last more;
}

-- the arc whose ends stand at a place
pub arc_at : (arcs : List ArcLine) (place : ℕ) (here : ℕ × ℕ) → slice_get (map ends_of arcs) place ≡ Some here
    → (arc : ArcLine) × (slice_get arcs place ≡ Some arc) × (here ≡ ends_of arc)
arc_at [] place here at = absurd cc
arc_at (x ∷ xs) zero here at = (x, refl, sym (same_Some _ _ at))
arc_at (x ∷ xs) (suc place) here at = arc_at xs place here at

-- ends that were read from memory
pub ends_read : (ends : List Ends) (place : ℕ) (e : Ends) → place < length ends → e ≡ get_or ends place e
    → slice_get (map pair_of ends) place ≡ Some (pair_of e)
ends_read ends place e within read = slice_get-map pair_of ends place ∙ ap (option_map pair_of) (slice_get_read ends (length ends) place e refl within read)

-- the test on ends tells whether their pairs are the same
pub ends_decide : (x y : Ends) → Decides (nat_eq x.tail.0 y.tail.0 && nat_eq x.head.0 y.head.0) (pair_of x ≡ pair_of y)
ends_decide x y = (
  λ test.
      let parts = and_parts _ _ test in
      let tails : x.tail.0 ≡ y.tail.0 = eqb-true _ _ parts.0 in
      let heads : x.head.0 ≡ y.head.0 = eqb-true _ _ parts.1 in cc,
  λ same. and_from _ _ (eq-eqb _ _ (ap (λ (p : ℕ × ℕ). p.0) same)) (eq-eqb _ _ (ap (λ (p : ℕ × ℕ). p.1) same)),
)
