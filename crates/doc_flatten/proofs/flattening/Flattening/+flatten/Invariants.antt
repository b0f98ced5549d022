use Rattle.std.proofs.Common.{◌≡◌, ◌≤◌, length}
use Rattle.serde_json.specs.View.{members_view}
use Rattle.doc_flatten.specs.Fields.{members_fields, with_all_fields}
use Rattle.doc_flatten.specs.Walk.{members_fit_in}
use Rattle.doc_flatten.proofs.flattening.Flattening.+flatten.Given as goal

-- what is left of the members decides from here as all of them do from the start
abbrev pub invariant-add_members-loop-key : goal.invariant-add_members-loop-key
invariant-add_members-loop-key l =
    let left = members_view l.key-iterator in
    let all = members_view l.members.entries in
    let path = l.initial.self.path in record {
      stays : l.self.path ≡ path;
      few : length l.self.doc ≤ 4096;
      decides : members_fit_in l.levels path l.self.doc left ≡ members_fit_in l.levels path l.initial.self.doc all;
      gives : with_all_fields l.self.doc (members_fields path left) ≡ with_all_fields l.initial.self.doc (members_fields path all);
    }
