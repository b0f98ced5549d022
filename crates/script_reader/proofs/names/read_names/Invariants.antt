use Rattle.std.proofs.Common.{◌≡◌, length}
use denote.Text.{Utf8}
use denote.Shadow.{shadow}
use Rattle.script_reader.specs.Pieces.{named_in}
use Rattle.script_reader.specs.Told.{named_before}
use Rattle.script_reader.proofs.names.read_names.Given as goal

abbrev pub invariant-names : goal.invariant-names
invariant-names l = shadow (Utf8 l.rest) × (named_before l.lines.items (named_in l.above 0 l.rest) ≡ named_in l.above 0 l.fn.line)

abbrev pub decreases-names : goal.decreases-names
decreases-names l = length l.rest
