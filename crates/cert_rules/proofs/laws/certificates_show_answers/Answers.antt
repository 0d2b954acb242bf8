use Rattle.cert_rules.proofs.SoundLaws.{shows_answer}
use Rattle.cert_rules.proofs.laws.certificates_show_answers.Goals as goal

pub returns : goal.returns
returns c = λ net cert is. shows_answer net is cert
