-- How much a document may weigh.
use Rattle.std.specs.Prelude.{ℕ}

-- The most that a document weighs, so that its record can keep it: 16 bytes for each of the 1,048,576 bytes that the text that a document comes from may have.
abbrev pub most_weight : ℕ
most_weight = 16777216
