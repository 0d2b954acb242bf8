-- A certificate has at most one first failure.
use Rattle.std.proofs.Common.{◌≡◌, ℕ, zero, suc, inl, inr, refl, sym, ap, subst, ◌∙◌, arith}
use Rattle.std.proofs.lemmas.Bool.{cases_lt}
use Rattle.road_network.specs.Network.{Network}
use Rattle.cert_rules.specs.Certificates.{Certificate}
use Rattle.cert_rules.specs.Rules.{Fails, IsFirstFailure, rule_number}
use Rattle.cert_rules.specs.declared.rule.Rule.{Rule}
use Rattle.cert_rules.specs.declared.rule.Rule.TheVariants.{Start, Arrival, Departure, LeastArc, Undominated}

-- the rule of a number
abbrev rule_of : ℕ → Rule
rule_of zero = Undominated
rule_of (suc zero) = Start
rule_of (suc (suc zero)) = Arrival
rule_of (suc (suc (suc zero))) = Departure
rule_of (suc (suc (suc (suc zero)))) = LeastArc
rule_of (suc (suc (suc (suc (suc n))))) = Undominated

of_number : (rule : Rule) → rule_of (rule_number rule) ≡ rule
of_number Start = refl
of_number Arrival = refl
of_number Departure = refl
of_number LeastArc = refl
of_number Undominated = refl

-- rules of one number are one
one_number : (rule other : Rule) → rule_number rule ≡ rule_number other → rule ≡ other
one_number rule other same = sym (of_number rule) ∙ ap rule_of same ∙ of_number other

module _ (net : Network) (cert : Certificate) (rule other : Rule) (i j : ℕ) (first : IsFirstFailure net cert rule i) (second : IsFirstFailure net cert other j) where
  one_label : i ≡ j
  one_label = elim (cases_lt i j) [
    | inl less ↦ absurd (second.first rule i less first.fails)
    | inr above ↦ elim (cases_lt j i) [ inl less ↦ absurd (first.first other j less second.fails) | inr up_to ↦ omega arith ]
  ]

  one_rule : rule ≡ other
  one_rule = elim (cases_lt (rule_number rule) (rule_number other)) [
    | inl less ↦ absurd (second.least rule less (subst (Fails net cert rule) one_label first.fails))
    | inr above ↦ elim (cases_lt (rule_number other) (rule_number rule)) [
      | inl less ↦ absurd (first.least other less (subst (Fails net cert other) (sym one_label) second.fails))
      | inr up_to ↦ one_number rule other (omega arith)
    ]
  ]

  pub one_first : (rule ≡ other) × (i ≡ j)
  one_first = (one_rule, one_label)
