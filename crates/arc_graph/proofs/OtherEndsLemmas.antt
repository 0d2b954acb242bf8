-- The least arc that differs, and there the least file, when one pair more may differ.
use Rattle.std.proofs.Common.{◌≡◌, ℕ, ◌<◌, ◌≤◌, ◌⊎◌, Option, Some, None, arith, inl, inr, sym, subst}
use Rattle.arc_graph.specs.declared.join.OtherEnds.{OtherEnds}
use Rattle.arc_graph.specs.Faults.{AreLeastIfAny, IsEarlier}
use Rattle.std.proofs.lemmas.Bool.{cases_lt}

-- the same for pairs of an arc and a file
pub pair_same : (D E : ℕ → ℕ → Type 0) (o : Option OtherEnds) → ((a f : ℕ) → D a f → E a f) → ((a f : ℕ) → E a f → D a f) → AreLeastIfAny D o
    → AreLeastIfAny E o
pair_same D E None to back least = λ a f e. least a f (back a f e)
pair_same D E (Some o) to back least = (
  record {
    holds = (least.0.holds.0, to o.arc least.0.holds.0 least.0.holds.1);
    none_below = λ a below e. least.0.none_below a below (e.0, back a e.0 e.1);
  },
  record { holds = to o.arc o.file least.1.holds; none_below = λ f below e. least.1.none_below f below (back o.arc f e) },
)

-- E holds of the pairs that D holds of, and of arc a in file f, after all files that D has there, where N holds
pub record AddsPair (D E : ℕ → ℕ → Type 0) (a f : ℕ) (N : Type 0) : Type 0 where
  pub kept : (x y : ℕ) → D x y → E x y
  pub added : N → E a f
  pub only : (x y : ℕ) → E x y → D x y ⊎ ((x ≡ a) × (y ≡ f) × N)
  pub above : (y : ℕ) → D a y → y < f

-- the same, where N and M say the same
pub pair_if : (D E : ℕ → ℕ → Type 0) (a f : ℕ) (N M : Type 0) → (N → M) → (M → N) → AddsPair D E a f N → AddsPair D E a f M
pair_if D E a f N M to back adds = record {
  kept = adds.kept;
  added = λ m. adds.added (back m);
  only = λ x y e. elim (adds.only x y e) [ inl d ↦ inl d | inr new ↦ inr (new.0, new.1, to new.2) ];
  above = adds.above;
}

pair_kept : (D E : ℕ → ℕ → Type 0) (N : Type 0) (here known : OtherEnds) → AddsPair D E here.arc here.file N → known.arc ≤ here.arc
    → AreLeastIfAny D (Some known) → AreLeastIfAny E (Some known)
pair_kept D E N here known adds up_to least = (
  record {
    holds = (least.0.holds.0, adds.kept known.arc least.0.holds.0 least.0.holds.1);
    none_below = λ x below e. elim (adds.only x e.0 e.1) [ inl d ↦ least.0.none_below x below (e.0, d) | inr new ↦ omega (arith, new.0) ];
  },
  record {
    holds = adds.kept known.arc known.file least.1.holds;
    none_below = λ y below e. elim (adds.only known.arc y e) [
      | inl d ↦ least.1.none_below y below d
      | inr new ↦ omega (arith, new.1, adds.above known.file (subst (λ x. D x known.file) new.0 least.1.holds))
    ];
  },
)

pair_added : (D E : ℕ → ℕ → Type 0) (N : Type 0) (here : OtherEnds) → AddsPair D E here.arc here.file N → N → ((x y : ℕ) → x ≤ here.arc → ¬ D x y)
    → AreLeastIfAny E (Some here)
pair_added D E N here adds differs none = (
  record {
    holds = (here.file, adds.added differs);
    none_below = λ x below e. elim (adds.only x e.0 e.1) [ inl d ↦ none x e.0 (omega arith) d | inr new ↦ omega (arith, new.0) ];
  },
  record {
    holds = adds.added differs;
    none_below = λ y below e. elim (adds.only here.arc y e) [ inl d ↦ none here.arc y (omega arith) d | inr new ↦ omega (arith, new.1) ];
  },
)

-- the earlier of the least of before and what is added
pub pair_earlier : (D E : ℕ → ℕ → Type 0) (N : Type 0) (o : Option OtherEnds) (here e : OtherEnds) → AddsPair D E here.arc here.file N → N
    → IsEarlier o here e → AreLeastIfAny D o → AreLeastIfAny E (Some e)
pair_earlier D E N None here e adds differs is none =
    subst (λ x. AreLeastIfAny E (Some x)) (sym is) (pair_added D E N here adds differs (λ x y up_to. none x y))
pair_earlier D E N (Some known) here e adds differs is least = elim (cases_lt here.arc known.arc) [
  | inl before ↦
      subst (λ x. AreLeastIfAny E (Some x)) (sym (is.1 before)) (pair_added D E N here adds differs (λ x y up_to d. least.0.none_below x (omega arith) (y, d)))
  | inr after ↦ subst (λ x. AreLeastIfAny E (Some x)) (sym (is.0 after)) (pair_kept D E N here known adds after least)
]

-- where nothing is added, the least stays
pub pair_without : (D E : ℕ → ℕ → Type 0) (a f : ℕ) (N : Type 0) (o : Option OtherEnds) → AddsPair D E a f N → ¬ N → AreLeastIfAny D o → AreLeastIfAny E o
pair_without D E a f N o adds not_here least =
    pair_same D E o adds.kept (λ x y e. elim (adds.only x y e) [ inl d ↦ d | inr new ↦ absurd (not_here new.2) ]) least
