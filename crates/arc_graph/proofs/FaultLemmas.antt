-- Which fault is told.
use Rattle.std.proofs.Common.{◌≡◌, ℕ, true, false, List, Option, Some, None, Bool, cond, nat_lt, MatchOption, inl, inr, arith, sym, subst, ap, refl, ◌∙◌}
use Rattle.std.proofs.lemmas.Bool.{ltb-true, ltb-false, cases_order}
use Rattle.arc_graph.specs.declared.join.Disagreement.{Disagreement}
use Rattle.arc_graph.specs.declared.join.Disagreement.TheVariants.{Sizes, Ends, ZeroArc}
use Rattle.arc_graph.specs.declared.join.OtherEnds.{OtherEnds}
use Rattle.arc_graph.specs.Files.{ArcFile}
use Rattle.arc_graph.specs.Agreement.{Agree, AgreeInSize, HasFault, DiffersInEnds, IsZeroArc}
use Rattle.list_laws.specs.Least.{IsLeastWith, IsLeastIfAny}
use Rattle.arc_graph.specs.Faults.{AreLeastIfAny, arc_fault_of}

-- the lesser of two least arcs is the least faulty one
pub fault_is_least : (files : List ArcFile) (o : Option OtherEnds) (z : Option ℕ) → AgreeInSize files → AreLeastIfAny (DiffersInEnds files) o
    → IsLeastIfAny (IsZeroArc files) z → MatchOption (arc_fault_of o z) (Agree files) (HasFault files)
fault_is_least files None None sizes ends zeros = record {
  sizes = sizes;
  arcs = λ a faulty. elim faulty [ inl other ↦ ends a other.0 other.1 | inr only ↦ zeros a only ];
}
fault_is_least files None (Some arc) sizes ends zeros = (
  sizes,
  record {
    holds = inr zeros.holds;
    none_below = λ a below faulty. elim faulty [ inl other ↦ ends a other.0 other.1 | inr only ↦ zeros.none_below a below only ];
  },
  ends arc,
  zeros.holds,
)
fault_is_least files (Some e) None sizes ends zeros = (
  sizes,
  record { holds = inl ends.0.holds; none_below = λ a below faulty. elim faulty [ inl other ↦ ends.0.none_below a below other | inr only ↦ zeros a only ] },
  ends.1,
)
fault_is_least files (Some e) (Some arc) sizes ends zeros = by_test (nat_lt arc e.arc) refl where
  by_test : (t : Bool) → nat_lt arc e.arc ≡ t → MatchOption (cond t (Some (ZeroArc arc)) (Some (Ends e.arc e.file))) (Agree files) (HasFault files)
  by_test true test = let before = ltb-true arc e.arc test in (
    sizes,
    record {
      holds = inr zeros.holds;
      none_below = λ a below faulty. elim faulty [ inl other ↦ ends.0.none_below a (omega arith) other | inr only ↦ zeros.none_below a below only ];
    },
    λ f d. ends.0.none_below arc before (f, d),
    zeros.holds,
  )
  by_test false test = let after = ltb-false arc e.arc test in (
    sizes,
    record {
      holds = inl ends.0.holds;
      none_below = λ a below faulty. elim faulty [ inl other ↦ ends.0.none_below a below other | inr only ↦ zeros.none_below a (omega arith) only ];
    },
    ends.1,
  )

-- files that agree have no fault
pub none_of_agreeing : (files : List ArcFile) (e : Disagreement) → Agree files → ¬ HasFault files e
none_of_agreeing files (Sizes f) agree has = agree.sizes f has.holds
none_of_agreeing files (Ends a f) agree has = agree.arcs a (inl (f, has.2.holds))
none_of_agreeing files (ZeroArc a) agree has = agree.arcs a (inr has.3)

least_is_one : (P : ℕ → Type 0) (m n : ℕ) → IsLeastWith P m → IsLeastWith P n → m ≡ n
least_is_one P m n least other = elim (cases_order m n) [
  | inl same ↦ same
  | inr apart ↦ elim apart [ inl below ↦ absurd (other.none_below m below least.holds) | inr above ↦ absurd (least.none_below n above other.holds) ]
]

-- and others have one at most
pub one_fault : (files : List ArcFile) (e d : Disagreement) → HasFault files e → HasFault files d → e ≡ d
one_fault files (Sizes f) (Sizes g) x y = ap Sizes (least_is_one _ f g x y)
one_fault files (Sizes f) (Ends b g) x y = absurd (y.0 f x.holds)
one_fault files (Sizes f) (ZeroArc b) x y = absurd (y.0 f x.holds)
one_fault files (Ends a f) (Sizes g) x y = absurd (x.0 g y.holds)
one_fault files (Ends a f) (Ends b g) x y =
    let arcs : a ≡ b = least_is_one _ a b x.1 y.1 in
    ap (λ n. Ends n f) arcs ∙ ap (Ends b) (least_is_one _ f g (subst (λ n. IsLeastWith (DiffersInEnds files n) f) arcs x.2) y.2)
one_fault files (Ends a f) (ZeroArc b) x y =
    absurd (y.2 f (subst (λ n. DiffersInEnds files n f) (least_is_one _ a b x.1 y.1) x.2.holds))
one_fault files (ZeroArc a) (Sizes g) x y = absurd (x.0 g y.holds)
one_fault files (ZeroArc a) (Ends b g) x y = absurd (x.2 g (subst (λ n. DiffersInEnds files n g) (sym (least_is_one _ a b x.1 y.1)) y.2.holds))
one_fault files (ZeroArc a) (ZeroArc b) x y = ap ZeroArc (least_is_one _ a b x.1 y.1)
