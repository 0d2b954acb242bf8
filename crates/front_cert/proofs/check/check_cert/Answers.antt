use Rattle.std.proofs.Common.{◌≡◌, ℕ, Result, Ok, ap, subst, sym, ◌∙◌}
use Rattle.std.proofs.lemmas.Option.{IfSome_then}
use Rattle.cert_rules.specs.Certificates.{Certificate, IsCertificate}
use Rattle.cert_rules.proofs.SoundLaws.{shows_answer}
use Rattle.cert_rules.specs.Rules.{IsFirstFailure}
use Rattle.front_cert.specs.Listing.{Listing}
use Rattle.front_cert.specs.Text.{read_text}
use Rattle.front_cert.proofs.FoundLemmas.{well_found}
use Rattle.front_cert.proofs.PassedLemmas.{small_lines, whole_lines}
use Rattle.front_cert.proofs.check.check_cert.Goals as goal

pub seek_beaten-requires-clause-whole : goal.seek_beaten-requires-clause-whole
seek_beaten-requires-clause-whole g c =
    let good = subst (λ (l : Listing). IsCertificate c.args.network.now l.cert) (sym (c.lay_corners.ensures ∙ c.lay_offsets.ensures)) c.in_ok-listing.ensures.certificate in
    whole_lines c.args.network.now c.lay_corners.new.self.cert good c.lay_corners.new.self.criteria
    (ap (λ (l : Listing). l.criteria) (c.lay_corners.ensures ∙ c.lay_offsets.ensures) ∙ c.in_ok-listing.ensures.of.criteria)

pub seek_beaten-requires-clause-small : goal.seek_beaten-requires-clause-small
seek_beaten-requires-clause-small g c =
    small_lines c.args.network.now c.lay_corners.new.self.cert
    (subst (λ (l : Listing). IsCertificate c.args.network.now l.cert) (sym (c.lay_corners.ensures ∙ c.lay_offsets.ensures)) c.in_ok-listing.ensures.certificate)

pub returns-in-None-clause-shows : goal.returns-in-None-clause-shows
returns-in-None-clause-shows g c =
    let net = c.args.network.now in
    let good = subst (λ (l : Listing). IsCertificate net l.cert) (sym (c.seek_beaten.ensures.same ∙ c.lay_corners.ensures ∙ c.lay_offsets.ensures)) c.in_ok-listing.ensures.certificate in
    shows_answer net c.nodes.ensures.network.network c.seek_beaten.new.self.cert good (rw c.in-None.is at c.in_ok-first_failure.ensures)

pub returns-in-None-clause-well_found : goal.returns-in-None-clause-well_found
returns-in-None-clause-well_found g c =
    let net = c.args.network.now in let listing = c.seek_beaten.new.self in
    let good = subst (λ (l : Listing). IsCertificate net l.cert) (sym (c.seek_beaten.ensures.same ∙ c.lay_corners.ensures ∙ c.lay_offsets.ensures)) c.in_ok-listing.ensures.certificate in
    well_found net c.nodes.ensures.network.network listing (shows_answer net c.nodes.ensures.network.network listing.cert good (rw c.in-None.is at c.in_ok-first_failure.ensures))

pub returns-in-Some-clause-checks : goal.returns-in-Some-clause-checks
returns-in-Some-clause-checks g c =
    let same = c.seek_beaten.ensures.same ∙ c.lay_corners.ensures ∙ c.lay_offsets.ensures in
    let found : Listing → Result Certificate ℕ = λ l. Ok l.cert in
    let net = c.args.network.now in let cert = c.seek_beaten.new.self.cert in
    IfSome_then _ {P = λ bytes. read_text net bytes ≡ Ok c.in_ok-listing.listing.cert}
    {Q = λ bytes. (whole : Certificate) × (read_text net bytes ≡ Ok whole) × IsFirstFailure net whole c.in-Some.rule c.in-Some.label}
    c.in_ok-listing.ensures.reads (λ bytes reads. (cert, reads ∙ sym (ap found same), rw c.in-Some.is at c.in_ok-first_failure.ensures))
