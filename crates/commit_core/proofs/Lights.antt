-- The documents of a load keep the limits of documents, and are light.
use Rattle.std.proofs.Common.{◌≡◌, ℕ, ◌*◌, ◌≤◌, List, length, Option, Some, None, Result, Ok, Err, refl, ap, arith, length-append}
use Rattle.std.specs.Prelude.{All, ◌↔◌}
use Rattle.std.proofs.lemmas.List.Elements.{All-weaker}
use Rattle.doc_values.specs.Doc.{Fields}
use Rattle.doc_values.specs.Weight.{weight_of}
use Rattle.doc_flatten.specs.Documents.{documents_of, IsWithinLimits}
use Rattle.sql_tree.specs.declared.statement.Statement.{Statement}
use Rattle.sql_tree.specs.declared.statement.Statement.TheVariants as statement
use Rattle.sql_tokens.specs.Tokens.{most_statement_bytes}
use Rattle.sql_grammar.specs.Statement as grammar
use Rattle.sql_grammar.specs.StatementReader.{statement_of}
use Rattle.type_rules.specs.declared.rule.Rule.{Rule}
use Rattle.type_rules.specs.Fault.{fault_of}
use Rattle.commit_core.specs.Write.{loads}
use Rattle.document_records.specs.Limits.{most_weight}
use Rattle.commit_core.specs.Plan.{write, plan_of, plan_in, load_plan, checked_plan}

-- the laws of the crate below
abbrev KeepsLimits : Type 0
KeepsLimits = (text : List ℕ) (docs : List Fields) → documents_of text ≡ Ok docs → All IsWithinLimits docs

abbrev GivesLight : Type 0
GivesLight = (text : List ℕ) (docs : List Fields) → documents_of text ≡ Ok docs → All (λ doc. weight_of doc ≤ 16 * length text) docs

-- the documents of a load are those of its JSON
documents_read : (collection : List ℕ) (r : Result (List Fields) ℕ) (name : List ℕ) (docs : List Fields) → load_plan collection r ≡ write (loads name docs) → r ≡ Ok docs
documents_read collection (Ok found) name docs e = cc
documents_read collection (Err number) name docs e = absurd (cc)

-- a text spells what is read
abbrev Spelled : Type 0
Spelled = (text : List ℕ) (s : Statement) → (statement_of text ≡ Some s) ↔ grammar.Spells text s

-- the JSON of a load is no longer than a text may be
json_fits : (text : List ℕ) (s : Statement) → grammar.Spells text s → (collection json : List ℕ) → s ≡ statement.Load collection json → length json ≤ most_statement_bytes
json_fits text (statement.Load found other) (grammar.load fits spells) collection json e =
    let same : other ≡ json = cc in
    omega (arith, fits, ap length same, simp length-append at (ap length spells.parts))
json_fits text (statement.Select found) (grammar.question tokens spells) collection json e = absurd (cc)
json_fits text (statement.Update found sets test) spells collection json e = elim spells [ ]
json_fits text (statement.Delete found test) spells collection json e = elim spells [ ]

module _ (keeps : KeepsLimits) (gives : GivesLight) (spelled : Spelled) (text name : List ℕ) (docs : List Fields) where
  abbrev AreLight : Type 0
  AreLight = All IsWithinLimits docs × All (λ doc. weight_of doc ≤ most_weight) docs

  light_by : (s : Statement) (broken : Option Rule) → statement_of text ≡ Some s → checked_plan s broken ≡ write (loads name docs) → AreLight
  light_by s (Some rule) is e = absurd (cc)
  light_by (statement.Select select) None is e = absurd (cc)
  light_by (statement.Update collection sets test) None is e = absurd (cc)
  light_by (statement.Delete collection test) None is e = absurd (cc)
  light_by (statement.Load collection json) None is e =
      let read : documents_of json ≡ Ok docs = documents_read collection (documents_of json) name docs e in
      let short : length json ≤ most_statement_bytes = json_fits text (statement.Load collection json) ((spelled text (statement.Load collection json)).0 is) collection json refl in (
        keeps json docs read,
        All-weaker (λ doc. weight_of doc ≤ 16 * length json) (λ doc. weight_of doc ≤ most_weight) (λ doc h. omega (arith, h, short)) docs (gives json docs read),
      )

  are_light : (s : Option Statement) → statement_of text ≡ s → plan_in s ≡ write (loads name docs) → AreLight
  are_light None is e = absurd (cc)
  are_light (Some s) is e = light_by s (fault_of s) is e

  pub loads-light : plan_of text ≡ write (loads name docs) → AreLight
  loads-light e = are_light (statement_of text) refl e
