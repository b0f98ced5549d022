use Rattle.std.proofs.Common.{◌++◌, ◌∙◌, List, ℕ, length, ap, arith}
use Rattle.std.specs.List.{flat_map}
use Rattle.reservoir_record.specs.Spelling.{number_bytes}
use Rattle.reservoir_record.proofs.Apart.{AreFew, are_few, fields_alike, put_together}
use Rattle.reservoir_record.proofs.parts.build_from_parts.Goals as goal

pub overflow_add-ids : goal.overflow_add-ids
overflow_add-ids c =
    let few : AreFew c.args.ids.now c.args.values.now = are_few c.requires.0 c.args.ids.now c.args.ends.now c.args.values.now c.requires.1.0 c.requires.1.1 in
    omega arith

pub overflow_add-ids-2 : goal.overflow_add-ids-2
overflow_add-ids-2 c =
    let few : AreFew c.args.ids.now c.args.values.now = are_few c.requires.0 c.args.ids.now c.args.ends.now c.args.values.now c.requires.1.0 c.requires.1.1 in
    omega arith

pub overflow_cast-ids : goal.overflow_cast-ids
overflow_cast-ids c =
    let few : AreFew c.args.ids.now c.args.values.now = are_few c.requires.0 c.args.ids.now c.args.ends.now c.args.values.now c.requires.1.0 c.requires.1.1 in
    omega arith

pub returns : goal.returns
returns c = record {
  ok = λ fields p. record {
    lawful = fields_alike c.requires.0 fields c.args.ids.now c.args.ends.now c.args.values.now c.requires.1.0 c.requires.1.1 p;
    spelled = c.in_ok-extend_from_slice.ensures.items
        ∙ ap (λ (r : List ℕ). r ++ c.args.values.now) (c.in_ok-push_words-2.ensures.ok
        ∙ ap (λ (r : List ℕ). r ++ flat_map number_bytes c.args.ends.now) (c.in_ok-push_word-2.ensures.ok
        ∙ ap (λ (r : List ℕ). r ++ number_bytes 0) (c.in_ok-push_words.ensures.ok
        ∙ ap (λ (r : List ℕ). r ++ flat_map number_bytes c.args.ids.now) (c.in_ok-push_word.ensures.ok
        ∙ ap (λ (r : List ℕ). r ++ number_bytes (length c.args.ids.now)) c.in_ok-bytes.ensures.items))))
        ∙ put_together fields c.args.ids.now c.args.ends.now c.args.values.now p;
  };
}
