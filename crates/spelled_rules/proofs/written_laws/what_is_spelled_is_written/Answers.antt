use Rattle.spelled_rules.proofs.WrittenTexts.{spelled_written}
use Rattle.spelled_rules.proofs.written_laws.what_is_spelled_is_written.Goals as goal

pub returns : goal.returns
returns c = record { law = λ text s h. spelled_written text s ((c.a_text_spells_what_is_read.ensures.law text s).0 h) }
