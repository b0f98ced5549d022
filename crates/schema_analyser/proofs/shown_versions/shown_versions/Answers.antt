use Rattle.std.proofs.Common.{◌≡◌, ◌<◌, ◌≤◌, ◌+◌, ◌∙◌, ◌++◌, ◌∷◌, All, List, [], Some, None, length, map, sym, ap, subst, arith, length-append}
use Rattle.std.proofs.lemmas.List.Elements.{All-push, All-nil}
use Rattle.row_versions.specs.History.{visible}
use Rattle.row_versions.specs.declared.version_id.VersionId.{VersionId}
use Rattle.schema_analyser.specs.Survey.{documents_between}
use Rattle.schema_analyser.proofs.Shown.{documents_at, between_none, between_more, between_same, visible_within, none_left}
use Rattle.schema_analyser.proofs.shown_versions.shown_versions.Goals as goal
use Rattle.schema_analyser.proofs.shown_versions.shown_versions.Goals.{in-Some+in_ok-push, in_default}

pub loop-row-init : goal.loop-row-init
loop-row-init c =
    let s = c.args.layout.now in
    rw c.new-versions.ensures.items (record {
      documents = sym (between_none s c.args.now c.args.from);
      standing = All-nil (λ (v : VersionId). v.0 < length s.history.versions);
      few = omega arith;
    })

pub loop-row-preserved : goal.loop-row-preserved
loop-row-preserved c =
    let s = c.args.layout.now in
    let row = c.loop-row.row in
    let before = c.loop-row.versions.items in
    let seen : c.visible.result ≡ visible row c.args.now s.history.versions = c.visible.ensures.exact ∙ ap (λ h. visible row c.args.now h.versions) c.versions-shown.ensures.exact in
    elim c.match-visible.branch [
      | in-Some+in_ok-push w ↦
          let v = w.in-Some.version in
          let now : c.match-visible.versions.items ≡ before ++ v ∷ [] = ap (λ x. x.items) w.versions-is ∙ w.in_ok-push.ensures.items in
          let is : Some v ≡ visible row c.args.now s.history.versions = sym w.in-Some.is ∙ seen in
          rw now (record {
            documents = between_more s c.args.now c.args.from row before v c.loop-row.auto.row is c.loop-row.invariant.documents;
            standing = All-push (λ (x : VersionId). x.0 < length s.history.versions) before v c.loop-row.invariant.standing (visible_within row c.args.now s.history.versions v is);
            few = omega (arith, length-append before (v ∷ []), c.loop-row.invariant.few);
          })
      | in_default w ↦
          let is : None ≡ visible row c.args.now s.history.versions = sym (none_left c.visible.result w.in_default.not-Some) ∙ seen in
          rw w.versions-is (record {
            documents = c.loop-row.invariant.documents ∙ between_same s c.args.now c.args.from row is;
            standing = c.loop-row.invariant.standing;
            few = omega (arith, c.loop-row.invariant.few);
          })
    ]
