use Rattle.cert_rules.proofs.CompleteLaws.{no_failure}
use Rattle.cert_writer.proofs.WrittenLemmas.{accepts, one_certificate, text_back}
use Rattle.cert_writer.proofs.laws.written_certificates_are_accepted.Goals as goal

pub returns-clause-read : goal.returns-clause-read
returns-clause-read c = λ net cert road good. text_back net road cert good

pub returns-clause-accepted : goal.returns-clause-accepted
returns-clause-accepted c = λ net cert result road good lists checks.
    accepts net cert (text_back net road cert good) (no_failure net road.network cert lists good) result checks

pub returns-clause-one : goal.returns-clause-one
returns-clause-one c = λ net cert other good good_too start target lists lists_too. one_certificate net cert other good good_too start target lists lists_too
