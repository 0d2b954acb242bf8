-- What holds of every text.
use Rattle.std.specs.Prelude.{◌≡◌, ℕ, ◌⊎◌, List}
use Rattle.line_text.specs.declared.limits.LineLimits.{LineLimits}
use Rattle.gr_reader.specs.declared.fault.LineKind.{LineKind}
use Rattle.gr_reader.specs.Rules.{Rules}
use Rattle.gr_reader.specs.Files.{IsFile, FirstFault}

module _ {P R : Type 0} (rules : Rules P R) where
  -- A text is one file, or it has one first fault, and never both.
  pub record IsDecided (limits : LineLimits) (bytes : List ℕ) : Type 0 where
    pub answer : ((problem : P) × (records : List R) × IsFile rules limits bytes problem records)
        ⊎ ((kind : LineKind) × (line : ℕ) × FirstFault rules limits bytes kind line)
    pub one_file : (problem other : P) (records others : List R) → IsFile rules limits bytes problem records
        → IsFile rules limits bytes other others → (problem ≡ other) × (records ≡ others)
    pub one_fault : (kind other : LineKind) (line other_line : ℕ) → FirstFault rules limits bytes kind line
        → FirstFault rules limits bytes other other_line → (kind ≡ other) × (line ≡ other_line)
    pub never_both : (problem : P) (records : List R) (kind : LineKind) (line : ℕ)
        → IsFile rules limits bytes problem records → FirstFault rules limits bytes kind line → ⊥

  -- the same of every text
  abbrev pub TextsAreDecided : Type 0
  TextsAreDecided = (limits : LineLimits) (bytes : List ℕ) → IsDecided limits bytes
