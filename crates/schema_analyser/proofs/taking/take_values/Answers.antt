use Rattle.std.proofs.Common.{◌≡◌, ◌∙◌, ap, sym, arith, Some, None, get_or, option_map}
use Rattle.doc_values.specs.Lent.{owned}
use Rattle.layout_store.specs.Documents.{document_at}
use Rattle.row_versions.specs.declared.version_id.VersionId.{VersionId}
use Rattle.schema_analyser.proofs.Shown.{none_left}
use Rattle.schema_analyser.proofs.Taken.{wanted_storable, taken_more}
use Rattle.schema_analyser.proofs.taking.take_values.Goals as goal
use Rattle.schema_analyser.proofs.taking.take_values.Goals.{in-Some+in_ok-add, in_default}

pub add-requires-clause-storable : goal.add-requires-clause-storable
add-requires-clause-storable c =
    let s = c.args.layout.now in
    let v = get_or c.args.versions.now c.loop-version.version-index (record { 0 = 0 }) in
    let path = c.requires.lawful in
    wanted_storable c.documents_are_maps.ensures.kept (document_at s v.0) (c.keeps_the_rules.ensures.law.documents.documents v.0) path.0 (Some path.1) (owned c.in-Some.value)
    (sym (c.read.ensures.exact path.0 (Some path.1) path.2) ∙ ap (option_map owned) c.in-Some.is)

pub loop-version-preserved : goal.loop-version-preserved
loop-version-preserved c =
    let s = c.args.layout.now in
    let i = c.loop-version.version-index in
    elim c.match-read.branch [
      | in-Some+in_ok-add w ↦ record {
        few = omega (arith, ap (λ t. t.count) (w.tally-is ∙ w.in_ok-add.ensures.ok), c.loop-version.invariant.few);
        taken = λ name of is.
            w.tally-is ∙ w.in_ok-add.ensures.ok
            ∙ taken_more (λ (x : VersionId). document_at s x.0) c.args.tally.now c.loop-version.tally name of c.args.versions.now i (record { 0 = 0 }) (Some (owned w.in-Some.value)) c.loop-version-test.true
            (sym (ap (option_map owned) w.in-Some.is) ∙ c.read.ensures.exact name (Some of) is) (c.loop-version.invariant.taken name of is);
      }
      | in_default w ↦ record {
        few = omega (arith, ap (λ t. t.count) w.tally-is, c.loop-version.invariant.few);
        taken = λ name of is.
            w.tally-is
            ∙ taken_more (λ (x : VersionId). document_at s x.0) c.args.tally.now c.loop-version.tally name of c.args.versions.now i (record { 0 = 0 }) None c.loop-version-test.true
            (sym (ap (option_map owned) (none_left c.read.result w.in_default.not-Some)) ∙ c.read.ensures.exact name (Some of) is) (c.loop-version.invariant.taken name of is);
      }
    ]
