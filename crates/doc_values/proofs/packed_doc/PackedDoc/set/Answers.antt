use Rattle.std.proofs.Common.{◌≡◌, ◌∙◌, MatchResult, string_bytes, subst, sym}
use Rattle.std.proofs.lemmas.Result.{err_from_is_err_and}
use Rattle.doc_values.specs.Lent.{owned}
use Rattle.doc_values.specs.Place.{StandsAt, FitsAt}
use Rattle.doc_values.specs.Packed.{fields_in, IsPacked}
use Rattle.doc_values.proofs.Packs.{fields_kept, packed_kept, put_is, put_packed}
use Rattle.doc_values.proofs.packed_doc.PackedDoc.set.Goals as goal

-- want of memory for the texts
pub invariant_of-self : goal.invariant_of-self
invariant_of-self c =
    let s = c.self.inside in packed_kept (string_bytes s.texts) (string_bytes c.field_for.new.texts) c.field_for.ensures.kept s.fields.items c.self.invariant

pub returns-in_err-field-clause-memory : goal.returns-in_err-field-clause-memory
returns-in_err-field-clause-memory c =
    let s = c.self.inside in
    let p = err_from_is_err_and c.from_residual.result c.from_residual.ensures.1 in
    rw (p.1, ← c.self.view_is) (fields_kept (string_bytes s.texts) (string_bytes c.field_for.new.texts) c.field_for.ensures.kept s.fields.items c.self.invariant.placed)

pub returns-in_err-field-clause-kept : goal.returns-in_err-field-clause-kept
returns-in_err-field-clause-kept c =
    let s = c.self.inside in (packed_kept (string_bytes s.texts) (string_bytes c.field_for.new.texts) c.field_for.ensures.kept s.fields.items c.self.invariant).ordered

-- want of memory for the field
pub invariant_of-self-in_err-put_field : goal.invariant_of-self-in_err-put_field
invariant_of-self-in_err-put_field c =
    let s = c.self.inside in
    rw c.in_err-put_field.ensures.memory (packed_kept (string_bytes s.texts) (string_bytes c.field_for.new.texts) c.field_for.ensures.kept s.fields.items c.self.invariant)

pub returns-in_err-put_field-clause-memory : goal.returns-in_err-put_field-clause-memory
returns-in_err-put_field-clause-memory c =
    let s = c.self.inside in
    let p = err_from_is_err_and c.from_residual-in_err-put_field.result c.from_residual-in_err-put_field.ensures.1 in
    rw (p.1, ← c.self.view_is, c.in_err-put_field.ensures.memory) (fields_kept (string_bytes s.texts) (string_bytes c.field_for.new.texts) c.field_for.ensures.kept s.fields.items c.self.invariant.placed)

pub returns-in_err-put_field-clause-kept : goal.returns-in_err-put_field-clause-kept
returns-in_err-put_field-clause-kept c =
    let s = c.self.inside in
    rw c.in_err-put_field.ensures.memory (packed_kept (string_bytes s.texts) (string_bytes c.field_for.new.texts) c.field_for.ensures.kept s.fields.items c.self.invariant).ordered

-- the field is put in
pub invariant_of-self-2 : goal.invariant_of-self-2
invariant_of-self-2 c =
    let s = c.self.inside in
    let found : MatchResult c.place_for-place.result (StandsAt c.args.name.now (fields_in (string_bytes s.texts) s.fields.items)) (FitsAt c.args.name.now (fields_in (string_bytes s.texts) s.fields.items)) =
    rw (c.as_str.ensures.value, c.deref.ensures.value) at c.place_for-place.ensures.exact in
    rw c.in_ok-put_field.ensures.ok
    (put_packed (string_bytes s.texts) (string_bytes c.field_for.new.texts) s.fields.items c.field_for.ensures.kept c.self.invariant c.in_ok-field.field c.args.name.now (owned c.args.value) c.in_ok-field.ensures.ok.0 c.in_ok-field.ensures.ok.1 c.place_for-place.result found c.requires)

pub returns-clause-ok : goal.returns-clause-ok
returns-clause-ok c =
    let s = c.self.inside in
    let found : MatchResult c.place_for-place.result (StandsAt c.args.name.now (fields_in (string_bytes s.texts) s.fields.items)) (FitsAt c.args.name.now (fields_in (string_bytes s.texts) s.fields.items)) =
    rw (c.as_str.ensures.value, c.deref.ensures.value) at c.place_for-place.ensures.exact in
    rw (← c.self.view_is, c.in_ok-put_field.ensures.ok)
    (put_is (string_bytes s.texts) (string_bytes c.field_for.new.texts) s.fields.items c.field_for.ensures.kept c.self.invariant c.in_ok-field.field c.args.name.now (owned c.args.value) c.in_ok-field.ensures.ok.0 c.in_ok-field.ensures.ok.1 c.place_for-place.result found)

pub returns-clause-kept : goal.returns-clause-kept
returns-clause-kept c =
    let s = c.self.inside in
    let found : MatchResult c.place_for-place.result (StandsAt c.args.name.now (fields_in (string_bytes s.texts) s.fields.items)) (FitsAt c.args.name.now (fields_in (string_bytes s.texts) s.fields.items)) =
    rw (c.as_str.ensures.value, c.deref.ensures.value) at c.place_for-place.ensures.exact in
    rw c.in_ok-put_field.ensures.ok
    (put_packed (string_bytes s.texts) (string_bytes c.field_for.new.texts) s.fields.items c.field_for.ensures.kept c.self.invariant c.in_ok-field.field c.args.name.now (owned c.args.value) c.in_ok-field.ensures.ok.0 c.in_ok-field.ensures.ok.1 c.place_for-place.result found c.requires).ordered
