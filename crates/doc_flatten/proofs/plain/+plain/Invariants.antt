use Rattle.std.proofs.Common.{◌≡◌, drop}
use Rattle.std.specs.BTreeMap.{values}
use Rattle.serde_json.specs.View.{items_view}
use Rattle.doc_flatten.specs.Walk.{items_are_plain}
use Rattle.doc_flatten.proofs.plain.+plain.Given as goal

abbrev pub invariant-items_are_plain-loop-item : goal.invariant-items_are_plain-loop-item
invariant-items_are_plain-loop-item l =
    items_are_plain l.levels (items_view (drop l.item-index l.items)) ≡ items_are_plain l.levels (items_view l.items)

-- the members are tested as the items of an array would be
abbrev pub invariant-members_are_plain-loop-member : goal.invariant-members_are_plain-loop-member
invariant-members_are_plain-loop-member l =
    items_are_plain l.levels (items_view l.member-iterator) ≡ items_are_plain l.levels (items_view (values l.members))
