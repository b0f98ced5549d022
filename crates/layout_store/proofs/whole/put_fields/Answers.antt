use Rattle.std.proofs.Common.{◌≡◌, ◌<◌, ℕ, length, take, ap, sym, ◌∙◌, arith}
use Rattle.document_records.specs.StoredDocument.{pairs_of, document_with}
use Rattle.document_records.proofs.WholeDocuments.{put_next}
use Rattle.layout_store.proofs.Entries.{take_all_of}
use Rattle.layout_store.proofs.Upto.{take_none}
use Rattle.layout_store.proofs.whole.put_fields.Goals as goal

pub loop-place-init : goal.loop-place-init
loop-place-init c = ap (document_with (pairs_of c.args.catalog.now) c.args.document.now) (sym (take_none c.args.stored.now))

pub loop-place-preserved : goal.loop-place-preserved
loop-place-preserved c =
    let lt : c.loop-place.place < length c.args.stored.now = omega (arith, c.loop-place-test.true, c.len-place-end.ensures.exact) in
    put_next (pairs_of c.args.catalog.now) c.args.stored.now c.loop-place.place c.args.document.now c.loop-place.document c.put_field.new.document lt c.in_ok-put_field.ensures.ok c.loop-place.invariant

pub returns : goal.returns
returns c =
    let all : c.loop-place.place ≡ length c.args.stored.now = omega (arith, c.loop-place-test.false, c.len-place-end.ensures.exact) in
    record { ok = c.loop-place.invariant ∙ ap (λ (n : ℕ). document_with (pairs_of c.args.catalog.now) c.args.document.now (take n c.args.stored.now)) all ∙ ap (document_with (pairs_of c.args.catalog.now) c.args.document.now) (take_all_of c.args.stored.now) }
