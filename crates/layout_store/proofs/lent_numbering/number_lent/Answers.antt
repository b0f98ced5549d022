use Rattle.std.proofs.Common.{◌≡◌, Err, refl, ◌∙◌, sym, ap}
use Rattle.std.proofs.lemmas.Result.{err_from_is_err_and}
use Rattle.doc_values.specs.Lent.{owned}
use Rattle.layout_store.specs.declared.grow_fault.GrowFault.TheVariants.{Full}
use Rattle.attr_catalog.specs.Catalog.{most_attributes}
use Rattle.document_records.specs.StoredDocument.{pairs_of}
use Rattle.layout_store.proofs.Pairs.{grown_itself, grown_twice}
use Rattle.layout_store.proofs.Entries.{entries_more, pairs_more, too_many}
use Rattle.layout_store.proofs.lent_numbering.number_lent.Goals as goal

pub loop-place-init : goal.loop-place-init
loop-place-init c = record { grown = grown_itself c.args.catalog.now; entered = rw c.clear.ensures.items tt; pairs = refl }

pub loop-place-preserved : goal.loop-place-preserved
loop-place-preserved c =
    let old = c.loop-place.catalog in
    let new = c.number_guessed.new.catalog in
    let name = c.field.result.0.now in
    let v = (owned c.field.result.1) in
    record {
      grown = grown_twice c.args.catalog.now old new c.loop-place.invariant.grown c.number_guessed.ensures.grown;
      entered = rw c.in_ok-push.ensures.items
          (entries_more old new c.number_guessed.ensures.grown c.args.document.now c.loop-place.place c.loop-place.entries.items name v c.kind_stored.result c.in_ok-id.id c.field.ensures.exact c.kind_stored.ensures.exact
          c.loop-place.invariant.entered c.in_ok-id.ensures.number c.kind_stored.ensures.readable);
      pairs = pairs_more (pairs_of c.args.catalog.now) (pairs_of old) (pairs_of new) c.args.document.now c.loop-place.place name v c.kind_stored.result c.field.ensures.exact c.kind_stored.ensures.exact c.loop-place.invariant.pairs
          c.in_ok-id.ensures.pairs;
    }

pub returns-in_err-id-clause-grown : goal.returns-in_err-id-clause-grown
returns-in_err-id-clause-grown c = grown_twice c.args.catalog.now c.loop-place.catalog c.number_guessed.new.catalog c.loop-place.invariant.grown c.number_guessed.ensures.grown

pub returns-in_err-push-clause-grown : goal.returns-in_err-push-clause-grown
returns-in_err-push-clause-grown c = grown_twice c.args.catalog.now c.loop-place.catalog c.number_guessed.new.catalog c.loop-place.invariant.grown c.number_guessed.ensures.grown

pub returns-in_err-id-clause-full : goal.returns-in_err-id-clause-full
returns-in_err-id-clause-full c = λ e.
    let p = err_from_is_err_and c.from_residual.result c.from_residual.ensures.1 in
    let same : p.0 ≡ Full = cc in
    too_many (pairs_of c.args.catalog.now) (pairs_of c.loop-place.catalog) c.args.document.now c.loop-place.place most_attributes c.field.result.0.now (owned c.field.result.1) c.kind_stored.result c.field.ensures.exact c.kind_stored.ensures.exact
    c.loop-place.invariant.pairs (c.in_err-id.ensures.full (ap Err (sym p.2 ∙ same)))

pub returns-in_err-note_follower-clause-grown : goal.returns-in_err-note_follower-clause-grown
returns-in_err-note_follower-clause-grown c = grown_twice c.args.catalog.now c.loop-place.catalog c.number_guessed.new.catalog c.loop-place.invariant.grown c.number_guessed.ensures.grown
