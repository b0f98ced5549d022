use Rattle.std.specs.Prelude.{◌≡◌, true, take}
use Rattle.type_rules.specs.Names.{are_different, item_aliases}
use Rattle.type_rules.specs.Aliased.{HasTerms}
use Rattle.type_rules.proofs.aliases.Aliases.of.Given as goal

abbrev pub invariant-loop-item : goal.invariant-loop-item
invariant-loop-item l = record {
  terms : HasTerms l.terms (take l.item-index l.items);
  different : are_different (item_aliases (take l.item-index l.items)) ≡ true;
}
