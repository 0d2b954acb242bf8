use Rattle.std.proofs.Common.{inl, inr, sym, ◌∙◌, w16}
use Rattle.std.proofs.lemmas.Bool.{cases_eq}
use Rattle.std.proofs.lemmas.Nat.Bits.{bit_at_set_same, bit_at_set_other}
use Rattle.settled_front.proofs.lanes.Lanes.add.Goals as goal

pub returns : goal.returns
returns c = rw (← c.self.view_is) (λ other within. elim (cases_eq other c.args.lane) [
  | inl here ↦ (λ _. inr here, λ _. rw here (bit_at_set_same w16 c.self.inside.bits c.args.lane c.requires))
  | inr apart ↦
      let same = bit_at_set_other w16 c.self.inside.bits c.args.lane c.requires other apart in
      (λ h. inl (sym same ∙ h), λ h. elim h [ inl old ↦ same ∙ old | inr here ↦ absurd (apart here) ])
])
