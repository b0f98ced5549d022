-- The first rule that a statement breaks.
use Rattle.std.specs.Prelude.{Option, Some, None, if◌then◌else◌}
use Rattle.sql_tree.specs.declared.select.Select.{Select}
use Rattle.sql_tree.specs.declared.statement.Statement as statement
use Rattle.type_rules.specs.declared.rule.Rule.{Rule}
use Rattle.type_rules.specs.declared.rule.Rule.TheVariants.{Name, Kind, Wide}
use Rattle.type_rules.specs.Names.{names_hold}
use Rattle.type_rules.specs.Kinds.{kinds_hold}
use Rattle.type_rules.specs.Widths.{widths_hold}

-- The first rule that a question breaks: names, kinds, widths. The rule of groups has its place between names and kinds; no text spells a group or an aggregate yet.
abbrev pub question_fault : Select → Option Rule
question_fault s = if names_hold s then (if kinds_hold s then (if widths_hold s then None else Some Wide) else Some Kind) else Some Name

-- The first rule that a statement breaks; a load breaks none. No text spells an update or a deletion yet.
abbrev pub fault_of : statement.Statement → Option Rule
fault_of (statement.TheVariants.Load collection json) = None
fault_of (statement.TheVariants.Select s) = question_fault s
fault_of (statement.TheVariants.Update collection sets test) = None
fault_of (statement.TheVariants.Delete collection test) = None
