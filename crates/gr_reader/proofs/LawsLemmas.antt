-- Each text is one file, or it has one first fault.
use Rattle.std.proofs.Common.{◌≡◌, ℕ, ◌-◌, ◌<◌, List, [], ◌∷◌, Option, Some, None, Result, Ok, Err, ⊎_elim, map, refl, sym, ap, ◌∙◌, arith}
use Rattle.std.proofs.lemmas.Bool.{cases_lt}
use Rattle.gr_reader.specs.declared.fault.FileFault.{FileFault}
use Rattle.gr_reader.specs.declared.fault.FileFault.TheVariants.{Line, Read, OutOfMemory}
use Rattle.line_text.specs.declared.limits.LineLimits.{LineLimits}
use Rattle.gr_reader.specs.declared.fault.LineKind.{LineKind}
use Rattle.gr_reader.specs.Rules.{LineForm, Rules}
use Rattle.gr_reader.specs.Rules.LineForm.{Problem, Record}
use Rattle.gr_reader.specs.Files.{IsFile, kind_at}
use Rattle.gr_reader.specs.Reader.{IsSound, IsComplete}
use Rattle.gr_reader.specs.Laws.{IsDecided, TextsAreDecided}
use Rattle.gr_reader.proofs.FileLemmas.{file_right, head_is, is_one}

-- there is one first place with a kind
one_first : (kind_of : ℕ → Option LineKind) (p q : ℕ) (kind other : LineKind) → kind_of p ≡ Some kind → ((i : ℕ) → i < p → kind_of i ≡ None)
    → kind_of q ≡ Some other → ((i : ℕ) → i < q → kind_of i ≡ None) → (p ≡ q) × (kind ≡ other)
one_first kind_of p q kind other here before there first =
    ⊎_elim (λ lt. let none = first p lt in absurd cc)
    (λ ge. ⊎_elim (λ lt. let none = before q lt in absurd cc) (λ le. let same : p ≡ q = omega arith in let one = ap kind_of same in (same, cc)) (cases_lt q p))
    (cases_lt p q)

same_mapped : {X Y : Type 0} (f : X → Y) → ((x y : X) → f x ≡ f y → x ≡ y) → (xs ys : List X) → map f xs ≡ map f ys → xs ≡ ys
same_mapped f one [] [] e = refl
same_mapped f one [] (y ∷ ys) e = absurd cc
same_mapped f one (x ∷ xs) [] e = absurd cc
same_mapped f one (x ∷ xs) (y ∷ ys) e =
    let heads = head_is (f x) (f y) (map f xs) (map f ys) e in
    let first = one x y heads.0 in
    let rest = same_mapped f one xs ys heads.1 in
    cc

module _ {P R : Type 0} (rules : Rules P R) where
  module _ (limits : LineLimits) (bytes : List ℕ) where
    -- each text has one answer
    pub is_decided : IsDecided rules limits bytes
    is_decided = record {
      answer = is_one rules limits bytes;
      one_file = λ problem other records others file second.
          let heads = head_is (Problem problem) (Problem other) (map Record records) (map Record others) (sym file.lines ∙ second.lines) in
          let same : problem ≡ other = let first = heads.0 in cc in
          let record_is : R → LineForm P R = Record in
          (same, same_mapped record_is (λ r other e. cc) records others heads.1);
      one_fault = λ kind other line other_line first second.
          let one = one_first (kind_at rules limits bytes) (line - 1) (other_line - 1) kind other first.faulty first.first second.faulty second.first in
          (one.1, omega (arith, one.0, first.counted, second.counted));
      never_both = λ problem records kind line file first.
          let none = file_right rules limits bytes problem records file (line - 1) (omega (arith, first.counted, first.within)) in
          let some = first.faulty in
          absurd cc;
    }

    -- what is sound is complete, where each value is of one file
    pub complete : {A : Type 0} (IsOf : A → Type 0) → ((value other : A) → IsOf value → IsOf other → value ≡ other)
        → ((value : A) → IsOf value → (problem : P) × (records : List R) × IsFile rules limits bytes problem records) → (result : Result A FileFault)
        → IsSound rules IsOf limits bytes result → IsComplete rules IsOf limits bytes result
    complete IsOf one file (Ok value) sound = record {
      accepts = λ other is. one value other sound is;
      refuses = λ kind line first. let f = file value sound in is_decided.never_both f.0 f.1 kind line f.2 first;
    }
    complete IsOf one file (Err (Line kind line)) sound = record {
      accepts = λ value is. let f = file value is in is_decided.never_both f.0 f.1 kind line f.2 sound;
      refuses = λ other at first. is_decided.one_fault kind other line at sound first;
    }
    complete IsOf one file (Err Read) sound = record { accepts = λ value is. tt; refuses = λ kind line first. tt }
    complete IsOf one file (Err (OutOfMemory want)) sound = record { accepts = λ value is. tt; refuses = λ kind line first. tt }

  -- each text has one answer
  pub texts_are_decided : TextsAreDecided rules
  texts_are_decided limits bytes = is_decided limits bytes
