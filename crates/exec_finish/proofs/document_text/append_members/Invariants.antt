use Rattle.std.proofs.Common.{◌≡◌, ◌++◌, map, flat_map, drop, codes}
use Rattle.exec_finish.specs.Answer.{separated, member_text}
use Rattle.exec_finish.proofs.document_text.append_members.Given as goal

-- the text so far and that of the fields that are left make the text of all
abbrev pub invariant-loop-place : goal.invariant-loop-place
invariant-loop-place l =
    l.text.items ++ flat_map (λ u. codes "," ++ u) (map member_text (drop l.place l.doc)) ≡ l.fn.text.items ++ separated (map member_text l.doc)
