-- What a sink has taken, from line to line and at the end of a file.
use Rattle.std.proofs.Common.{◌≡◌, ℕ, ◌+◌, ◌≤◌, true, false, List, [], ◌∷◌, ◌++◌, Option, Some, None, IfSome, option_and_then, Result, Ok, Err, length, refl, sym, ap, subst, ◌∙◌, arith}
use Rattle.std.specs.Prelude.{All}
use Rattle.std.specs.List.{cons_option}
use Rattle.std.proofs.lemmas.Bool.Decides.{nat_tests}
use Rattle.std.proofs.lemmas.List.{append-nil, length_push}
use Rattle.std.proofs.lemmas.List.Elements.{filter_map-append}
use Rattle.std.proofs.lemmas.Option.{IfSome_then}
use Rattle.line_text.specs.declared.limits.LineFault.{LineFault}
use Rattle.line_text.specs.declared.limits.LineFault.TheVariants as lines
use Rattle.line_text.specs.declared.limits.LineLimits.{LineLimits}
use Rattle.line_text.specs.Lines.{lines_of}
use Rattle.line_text.specs.Texts.{NextOf}
use Rattle.gr_reader.specs.declared.fault.FileFault.{FileFault}
use Rattle.gr_reader.specs.declared.fault.FileFault.TheVariants.{Line, Read, OutOfMemory}
use Rattle.gr_reader.specs.declared.fault.LineKind.TheVariants.{LineTooLong, FileTooLong}
use Rattle.gr_reader.specs.declared.records.Begun.{Begun}
use Rattle.gr_reader.specs.Kinds.{known_as}
use Rattle.gr_reader.specs.Rules.{LineForm, Rules, form_of}
use Rattle.gr_reader.specs.Rules.LineForm.{Problem, Record}
use Rattle.gr_reader.specs.Files.{forms_of}
use Rattle.gr_reader.specs.Reader.{IsFirstFault, ReadsWhole, TakesWhole}
use Rattle.gr_reader.specs.Steps.{EndsFile, FormTaken, HasLines, IsBegun, LineTaken, RefusesAs, come_of, problem_of, said_by}
use Rattle.gr_reader.specs.Table.{form_kind, lacking}
use Rattle.gr_reader.proofs.FileLemmas.{begun_first, begun_more, fault_broken, fault_lacking, fault_said, said-is, short_file}

module _ {P R S : Type 0} (rules : Rules P R) (HasTaken : S → S → P → List R → Type 0) (start : S) where
  module _ (old new : S) (texts : List (List ℕ)) (text : List ℕ) where
    said_more : said_by rules (texts ++ text ∷ []) ≡ said_by rules texts ++ cons_option (form_of rules text) []
    said_more = filter_map-append (form_of rules) texts (text ∷ [])

    stays : (begun : Option (Begun P)) → said_by rules (texts ++ text ∷ []) ≡ said_by rules texts → HasLines rules HasTaken start old texts begun
        → HasLines rules HasTaken start old (texts ++ text ∷ []) begun
    stays None same has = (same ∙ has.0, has.1)
    stays (Some begun) same has = record {
      records = has.records;
      begun = subst (λ forms. IsBegun rules forms begun.problem has.records) (sym same) has.begun;
      counted = has.counted;
      taken = has.taken;
    }

    by_form : (form : Option (LineForm P R)) → said_by rules (texts ++ text ∷ []) ≡ said_by rules texts ++ cons_option form [] → (begun next : Option (Begun P))
        → HasLines rules HasTaken start old texts begun → FormTaken rules HasTaken begun old new form next
        → HasLines rules HasTaken start new (texts ++ text ∷ []) next
    by_form None more begun next has taken =
        rw (taken.0, taken.1) (stays begun (more ∙ append-nil (said_by rules texts)) has)
    by_form (Some form) more begun None has taken = absurd taken
    by_form (Some form) more None (Some next) has begins =
        let right : form_kind rules None 0 (Problem next.problem) ≡ None = subst (λ f. form_kind rules None 0 f ≡ None) begins.accepted.form_is begins.accepted.no_fault in
        let said : said_by rules (texts ++ text ∷ []) ≡ Problem next.problem ∷ [] =
        more ∙ ap (λ forms. forms ++ form ∷ []) has.0 ∙ ap (λ f. f ∷ []) begins.accepted.form_is in
        record {
          records = [];
          begun = subst (λ forms. IsBegun rules forms next.problem []) (sym said) (begun_first rules next.problem right);
          counted = begins.none;
          taken = subst (λ s. HasTaken s new next.problem []) has.1 begins.taken;
        }
    by_form (Some form) more (Some begun) (Some next) has takes =
        let right : form_kind rules (Some begun.problem) (length has.records) (Record takes.one) ≡ None =
        subst (λ n. form_kind rules (Some begun.problem) n (Record takes.one) ≡ None) has.counted
        (subst (λ f. form_kind rules (Some begun.problem) begun.come f ≡ None) takes.accepted.form_is takes.accepted.no_fault) in
        let records = has.records ++ takes.one ∷ [] in
        let said : said_by rules (texts ++ text ∷ []) ≡ said_by rules texts ++ Record takes.one ∷ [] =
        more ∙ ap (λ f. said_by rules texts ++ f ∷ []) takes.accepted.form_is in
        let more_begun = begun_more rules (said_by rules texts) begun.problem has.records takes.one has.begun right in
        record {
          records = records;
          begun = subst (λ p. IsBegun rules (said_by rules (texts ++ text ∷ [])) p records) (sym takes.problem)
              (subst (λ forms. IsBegun rules forms begun.problem records) (sym said) more_begun);
          counted = takes.more ∙ ap (λ n. n + 1) has.counted ∙ sym (length_push has.records takes.one);
          taken = subst (λ p. HasTaken start new p records) (sym takes.problem) (takes.taken start has.records has.taken);
        }

    -- one more line was taken
    pub has_lines-more : (number : ℕ) (begun next : Option (Begun P)) → HasLines rules HasTaken start old texts begun
        → LineTaken rules HasTaken begun old new text number (Ok next) → HasLines rules HasTaken start new (texts ++ text ∷ []) next
    has_lines-more number begun next has taken = by_form (form_of rules text) said_more begun next has taken

  module _ (limits : LineLimits) (now : S) (texts : List (List ℕ)) (begun : Option (Begun P)) (has : HasLines rules HasTaken start now texts begun) where
    -- the source failed, or a line breaks a limit
    pub reads_broken : (bytes : List ℕ) (text : List ℕ) (fault : LineFault) (number : ℕ) → number ≡ length texts + 1 → NextOf limits bytes texts text (Err fault)
        → IsFirstFault rules limits bytes (known_as fault number)
    reads_broken bytes text lines.Read number at next = tt
    reads_broken bytes text lines.TooLong number at next =
        fault_broken rules limits bytes HasTaken start now texts begun has next.0 lines.TooLong LineTooLong refl next.1 number at
    reads_broken bytes text lines.Total number at next =
        fault_broken rules limits bytes HasTaken start now texts begun has next.0 lines.Total FileTooLong refl next.1 number at

    -- the line is at fault, or memory ran out
    pub reads_refused : (bytes : List ℕ) (text : List ℕ) (fault : FileFault) (number : ℕ) → number ≡ length texts + 1 → NextOf limits bytes texts text (Ok true)
        → RefusesAs (option_and_then (form_kind rules (problem_of begun) (come_of begun)) (form_of rules text)) number fault
        → IsFirstFault rules limits bytes fault
    reads_refused bytes text (Line kind line) number at next refuses =
        fault_said rules limits bytes HasTaken start now texts begun has next.0 text kind next.1 next.2 refuses.0 line (refuses.1 ∙ at)
    reads_refused bytes text Read number at next refuses = tt
    reads_refused bytes text (OutOfMemory want) number at next refuses = tt

    -- the file ends
    pub reads_end : {T : Type 0} (text : Option (List ℕ)) (line : List ℕ) (result : Result T FileFault) (number : ℕ) → number ≡ length texts + 1
        → IfSome text (λ bytes. NextOf limits bytes texts line (Ok false)) → EndsFile rules begun number result
        → ReadsWhole rules limits text (HasTaken start now) result
    reads_end text line (Ok done) number at next ends = by begun has ends where
      by : (begun : Option (Begun P)) → HasLines rules HasTaken start now texts begun → lacking rules (problem_of begun) (come_of begun) ≡ None
          → TakesWhole rules limits text (HasTaken start now)
      by None has ends = absurd cc
      by (Some begun) has ends =
          let full : rules.count begun.problem ≤ begun.come = grind (arith, nat_tests) in
          let count : length has.records ≡ rules.count begun.problem = omega (arith, has.counted, has.begun.due, full) in
          record {
            problem = begun.problem;
            records = has.records;
            counted = count;
            taken = has.taken;
            is_file = IfSome_then text next (λ bytes front.
                let all : front.front ≡ lines_of bytes = sym (append-nil front.front) ∙ sym front.parts in
                record {
                  short_lines = subst (All (λ line. length line ≤ limits.line)) all front.short;
                  short_file = short_file limits bytes front.front all front.within;
                  lines = ap (forms_of rules) (sym all) ∙ sym (said-is rules front.front) ∙ ap (said_by rules) (sym front.texts) ∙ has.begun.said;
                  right_size = has.begun.right_size;
                  counted = count;
                  in_range = has.begun.in_range;
                });
          }
    reads_end text line (Err (Line kind at_line)) number at next ends =
        IfSome_then text next (λ bytes front. fault_lacking rules limits bytes HasTaken start now texts begun has kind front ends.0 at_line (ends.1 ∙ at))
    reads_end text line (Err Read) number at next ends = absurd ends
    reads_end text line (Err (OutOfMemory want)) number at next ends = absurd ends
