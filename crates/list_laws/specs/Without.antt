-- A list without some of its members.
use Rattle.std.specs.Prelude.{◌⊎◌, List, All, Contains}

-- the members of a list, but for those that P holds of
pub record IsWithout {X : Type 0} (P : X → Type 0) (before after : List X) : Type 0 where
  pub old : All (Contains before) after
  pub kept : All (λ x. P x ⊎ Contains after x) before
  pub gone : All (λ x. ¬ P x) after
