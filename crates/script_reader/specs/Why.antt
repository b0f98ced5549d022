-- The words for the reasons why bytes are no script.
use Rattle.std.specs.Prelude.{ℕ, List, codes}
use Rattle.script_reader.specs.declared.why.Why as why

-- The word that is printed for a reason.
abbrev pub word_of : why.Why → List ℕ
word_of why.TheVariants.Size = codes "size"
word_of why.TheVariants.Lines = codes "lines"
word_of why.TheVariants.Long = codes "long"
word_of why.TheVariants.Utf8 = codes "utf8"
word_of why.TheVariants.Session = codes "session"
word_of why.TheVariants.After = codes "after"
