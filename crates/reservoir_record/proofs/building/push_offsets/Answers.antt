use Rattle.std.proofs.Common.{◌≡◌, ◌++◌, ◌∙◌, List, [], drop, ℕ, sym, ap, arith}
use Rattle.std.specs.List.{flat_map}
use Rattle.std.proofs.lemmas.List.{append-nil, drop_all}
use Rattle.reservoir_record.specs.declared.fields.Field.{Field}
use Rattle.reservoir_record.specs.Spelling.{number_bytes, ends}
use Rattle.reservoir_record.proofs.Lists.{offsets_are}
use Rattle.reservoir_record.proofs.building.push_offsets.Goals as goal

pub returns : goal.returns
returns c =
    let done : drop c.loop-field.field-index c.args.fields.now ≡ [] = drop_all c.loop-field.field-index c.args.fields.now (omega arith) in
    record {
      ok = sym (append-nil c.loop-field.bytes.items)
          ∙ ap (λ (r : List Field). c.loop-field.bytes.items ++ flat_map number_bytes (ends c.loop-field.end r)) (sym done)
          ∙ c.loop-field.invariant.text
          ∙ ap (λ (r : List ℕ). c.args.bytes.now.items ++ flat_map number_bytes r) (sym (offsets_are 0 c.args.fields.now));
    }
