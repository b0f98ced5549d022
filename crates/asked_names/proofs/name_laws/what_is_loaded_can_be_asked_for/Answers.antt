use Rattle.std.proofs.lemmas.List.Elements.{All-weaker}
use Rattle.doc_values.specs.Doc.{Fields}
use Rattle.asked_names.specs.Asked.{CanBeAskedFor}
use Rattle.asked_names.proofs.Loaded.{Quotable, quotable_documents, each_field}
use Rattle.asked_names.proofs.Spelled.{asked}
use Rattle.asked_names.proofs.name_laws.what_is_loaded_can_be_asked_for.Goals as goal

pub returns : goal.returns
returns c = record {
  law = λ json documents read.
      All-weaker Quotable _ (λ document quotable. each_field CanBeAskedFor (asked (record { name = c.a_value_is_written_between_quotes.ensures.name; value = c.a_value_is_written_between_quotes.ensures.value })) document quotable) documents
      (quotable_documents json documents read);
}
