-- What rows hold, as callers see them.
use Rattle.std.specs.Prelude.{List, Option}
use Rattle.doc_values.specs.declared.value.Value.{Value}
use Rattle.doc_values.specs.Doc.{Fields}

-- A row of a table: a value, or NULL, for each column that is read, and the document where whole documents are asked for.
pub record Cells : Type 0 where
  pub cells : List (Option Value)
  pub doc : Option Fields

-- A row of an answer: its items, or its document, and the keys by which it is put in order.
pub record Output : Type 0 where
  pub items : List (Option Value)
  pub doc : Option Fields
  pub keys : List (Option Value)
