use Rattle.std.proofs.Common.{◌≡◌, ◌+◌, ◌≤◌, List, [], None, length, refl, subst, arith}
use Rattle.reservoir_record.specs.declared.fields.Field.{Field}
use Rattle.reservoir_record.specs.Spelling.{values}
use Rattle.reservoir_record.specs.Finding.{value_of}
use Rattle.library_tests.proofs.record_bytes.put_first.Goals as goal

pub put-requires-clause-record_bytes : goal.put-requires-clause-record_bytes
put-requires-clause-record_bytes c = ([], c.requires.spelled)

pub put-requires-clause-absent : goal.put-requires-clause-absent
put-requires-clause-absent c = λ fields s. subst (λ (fs : List Field). value_of c.args.id fs ≡ None) (c.a_spelling_has_one_list.ensures [] fields c.args.bytes.now.items c.requires.spelled s) refl

pub put-requires-clause-fit : goal.put-requires-clause-fit
put-requires-clause-fit c = λ fields s. subst (λ (fs : List Field). length (values fs) + length c.args.value.now ≤ 16777216) (c.a_spelling_has_one_list.ensures [] fields c.args.bytes.now.items c.requires.spelled s) (omega (arith, c.requires.fit))
