-- The costs of a node's labels so far.
use Rattle.std.proofs.Common.{◌≡◌, ◌≢◌, ℕ, ◌+◌, ◌<◌, ◌≤◌, List, [], ◌∷◌, length, Option, Some, None, is_none, true, inl, inr, refl, sym, ap, subst, subst₂, ◌∙◌, ◌↔◌, arith}
use Rattle.std.specs.Prelude.{All, AllPairs, Contains, IsPermutation, slice_get}
use Rattle.std.proofs.lemmas.Bool.{cases_eq, cases_lt}
use Rattle.std.proofs.lemmas.List.Elements.{All-weaker}
use Rattle.std.proofs.lemmas.Option.{slice_get_within, slice_get-get_or, get_or_from_slice_get}
use Rattle.cost_vector.specs.Costs.{Dominates, LexLess}
use Rattle.cost_vector.proofs.Vectors.{LexLess-irrefl, LexLess-trans, LexLess_from_Dominates}
use Rattle.list_laws.proofs.Members.{all_from_in, in_none}
use Rattle.list_laws.proofs.SetLaws.{gains_by_permutation}
use Rattle.road_network.specs.Labels.{Label}
use Rattle.road_network.specs.Network.{Network}
use Rattle.cert_rules.specs.Certificates.{Certificate, IsBeaten, IsBefore, IsCertificate, IsLine, max_component}
use Rattle.cert_rules.proofs.ListedLaws.{one_label}
use Rattle.settled_front.specs.Fronts.{IsCovered as IsCoveredBy}
use Rattle.front_cert.specs.Checks.{AreUnbeaten, TellsBeaten}
use Rattle.front_cert.specs.Passed.{ArePassed, IsPassedBy}

-- what is within the greatest component has room
pub fits_within : (bound : ℕ) → max_component < bound → (c : List ℕ) → All (λ x. x ≤ max_component) c → All (λ x. x < bound) c
fits_within bound room c small = All-weaker (λ x. x ≤ max_component) (λ x. x < bound) (λ x at_most. omega (arith, at_most, room)) c small

-- each line of a certificate has a cost in so many criteria
pub whole_lines : (net : Network) (cert : Certificate) → IsCertificate net cert → (d : ℕ) → d ≡ net.criteria → All (λ l. length l.cost ≡ d) cert.labels
whole_lines net cert good d criteria = All-weaker (IsLine net) (λ l. length l.cost ≡ d) (λ l line. line.cost ∙ sym criteria) cert.labels good.lines

-- within the greatest component
pub small_lines : (net : Network) (cert : Certificate) → IsCertificate net cert → All (λ l. All (λ x. x ≤ max_component) l.cost) cert.labels
small_lines net cert good = All-weaker (IsLine net) (λ l. All (λ x. x ≤ max_component) l.cost) (λ l line. line.small) cert.labels good.lines

-- where no cost is the first that a listed one dominates none is dominated
pub unbeaten_if_none : (labels : List Label) (beaten : Option ℕ) → TellsBeaten labels beaten → is_none beaten ≡ true → AreUnbeaten labels
unbeaten_if_none labels None unbeaten none = unbeaten
unbeaten_if_none labels (Some i) is none = absurd cc

pub passed_none : (labels : List Label) (v : ℕ) (costs : List (List ℕ)) → v ≡ 0 → costs ≡ [] → ArePassed labels 0 v costs
passed_none labels v costs zero none = record {
  up_to = λ k l at below. absurd (omega (arith, below));
  behind = λ k l at above. omega (arith, zero);
  here = λ k l at below node. absurd (omega (arith, below));
  only = λ c there. absurd (in_none c (subst (λ cs. Contains cs c) none there));
}

module _ (labels : List Label) (ascending : AllPairs IsBefore labels) (i : ℕ) (l : Label) (at : slice_get labels i ≡ Some l) where
  before_at : (k j : ℕ) (x y : Label) → slice_get labels k ≡ Some x → slice_get labels j ≡ Some y → k < j → IsBefore x y
  before_at k j x y here there below =
      subst₂ IsBefore (get_or_from_slice_get labels k x x here) (get_or_from_slice_get labels j y x there)
      (ascending k j x below (slice_get_within labels j y there))

  same_at : (k : ℕ) (x : Label) → slice_get labels k ≡ Some x → k ≡ i → x ≡ l
  same_at k x there same =
      let one : Some x ≡ Some l = sym there ∙ ap (slice_get labels) same ∙ at in
      cc

  from_here : (k : ℕ) (x : Label) → slice_get labels k ≡ Some x → i ≤ k → l.node ≤ x.node
  from_here k x there from = elim (cases_eq k i) [
    | inl same ↦ omega (arith, ap (λ (m : Label). m.node) (same_at k x there same))
    | inr other ↦ elim (before_at i k l x at there (omega arith)) [ inl less ↦ omega (arith, less) | inr more ↦ omega (arith, more.0) ]
  ]

  -- at a label of another node no cost has passed
  pub turned : (v : ℕ) (old new : List (List ℕ)) → ArePassed labels i v old → (v ≡ l.node → new ≡ old) → (v ≢ l.node → new ≡ [])
      → ArePassed labels i l.node new
  turned v old new are stays begins = elim (cases_eq v l.node) [
    | inl same ↦ subst₂ (ArePassed labels i) same (sym (stays same)) are
    | inr other ↦
        let from : v ≤ l.node = are.behind i l at (omega arith) in
        let less : v < l.node = omega (arith, from, other) in
        record {
          up_to = λ k x there below. omega (arith, are.up_to k x there below, less);
          behind = from_here;
          here = λ k x there below node. absurd (omega (arith, are.up_to k x there below, less, node));
          only = λ c there. absurd (in_none c (subst (λ cs. Contains cs c) (begins other) there));
        }
  ]

  module _ (costs : List (List ℕ)) (are : ArePassed labels i l.node costs) where
    -- each is less
    lesser : (c : List ℕ) → (p : IsPassedBy labels i l.node c) → (c ≡ l.cost → ⊥) × (Dominates l.cost c → ⊥)
    lesser c p = elim (before_at p.place i p.label l p.at at p.before) [
      | inl less ↦ absurd (omega (arith, less, p.node))
      | inr less ↦ (
        λ same. LexLess-irrefl l.cost (subst (λ b. LexLess b l.cost) (p.cost ∙ same) less.1),
        λ dominates. LexLess-irrefl p.label.cost (LexLess-trans p.label.cost l.cost p.label.cost less.1
            (LexLess_from_Dominates l.cost p.label.cost (subst (Dominates l.cost) (sym p.cost) dominates))),
      )
    ]

    -- one of them is at most the label's cost exactly where a listed cost of its node dominates that
    pub covered_beaten : IsCoveredBy costs l.cost ↔ IsBeaten labels l.node l.cost
    covered_beaten = (
      λ covered.
          let p = are.only covered.by covered.contains in
          let k = p.label in
          let one : k ≡ record { node = l.node; cost = covered.by; arc = k.arc } = one_label k.node l.node k.cost covered.by k.arc k.arc p.node p.cost refl in
          record {
            cost = covered.by;
            listed = record { arc = k.arc; listed = subst (Contains labels) one (p.place, slice_get_within labels p.place k p.at, get_or_from_slice_get labels p.place k k p.at) };
            better = record { at_most = covered.at_most; differs = (lesser covered.by p).0 };
          },
      λ beaten.
          let m : Label = record { node = l.node; cost = beaten.cost; arc = beaten.listed.arc } in
          let k = beaten.listed.listed.0 in
          let there : slice_get labels k ≡ Some m = slice_get-get_or labels k m beaten.listed.listed.1 ∙ ap Some beaten.listed.listed.2 in
          elim (cases_lt k i) [
            | inl below ↦ record { by = beaten.cost; contains = are.here k m there below refl; at_most = beaten.better.at_most }
            | inr above ↦ elim (cases_eq k i) [
              | inl same ↦ absurd (beaten.better.differs (ap (λ (x : Label). x.cost) (same_at k m there same)))
              | inr other ↦ elim (before_at i k l m at there (omega arith)) [
                | inl less ↦ absurd (omega (arith, less))
                | inr less ↦ absurd (LexLess-irrefl l.cost (LexLess-trans l.cost beaten.cost l.cost less.1 (LexLess_from_Dominates beaten.cost l.cost beaten.better)))
              ]
            ]
          ],
    )

    -- it dominates none of them
    pub spares_passed : All (λ c. ¬ Dominates l.cost c) costs
    spares_passed = all_from_in (λ c. ¬ Dominates l.cost c) costs (λ c there. (lesser c (are.only c there)).1)

    -- with its cost they are those before the next place
    pub passed_more : (new : List (List ℕ)) → IsPermutation (l.cost ∷ costs) new → ArePassed labels (i + 1) l.node new
    passed_more new permutes = record {
      up_to = λ k x there below. elim (cases_eq k i) [
        | inl same ↦ omega (arith, ap (λ (m : Label). m.node) (same_at k x there same))
        | inr other ↦ are.up_to k x there (omega (arith, below))
      ];
      behind = λ k x there above. from_here k x there (omega (arith, above));
      here = λ k x there below node. elim (cases_eq k i) [
        | inl same ↦ (gains_by_permutation l.cost costs new permutes x.cost).1 (inr (ap (λ (m : Label). m.cost) (same_at k x there same)))
        | inr other ↦ (gains_by_permutation l.cost costs new permutes x.cost).1 (inl (are.here k x there (omega (arith, below)) node))
      ];
      only = λ c there. elim ((gains_by_permutation l.cost costs new permutes c).0 there) [
        | inl old ↦ let p = are.only c old in record { place = p.place; label = p.label; at = p.at; before = omega (arith, p.before); node = p.node; cost = p.cost }
        | inr own ↦ record { place = i; label = l; at = at; before = omega arith; node = refl; cost = sym own }
      ];
    }
