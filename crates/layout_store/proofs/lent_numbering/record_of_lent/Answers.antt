use Rattle.std.proofs.Common.{◌≤◌, length, subst}
use Rattle.document_records.specs.StoredDocument.{Pairs, pairs_of}
use Rattle.layout_store.specs.Numbering.{fields_made}
use Rattle.layout_store.proofs.RecordFields.{made_stands, made_kept, made_fit, made_within, made_fields, made_many, up_from_sorted, few_pairs}
use Rattle.layout_store.proofs.lent_numbering.record_of_lent.Goals as goal

pub fill_lent-requires-clause-fit : goal.fill_lent-requires-clause-fit
fill_lent-requires-clause-fit c =
    let n = c.number_lent.new.catalog in
    rw c.deref.ensures.value
    (made_fit c.records_keep_documents.ensures.law (pairs_of n) (few_pairs n c.keeps_the_rules.ensures.few) c.args.document.now c.len-kept.ensures.kept c.requires.light c.number_lent.new.entries.items c.sort_unstable.new.self.items
    c.in_ok-number_lent.ensures.ok c.sort_unstable.ensures.permutation)

pub fill_lent-requires-clause-within : goal.fill_lent-requires-clause-within
fill_lent-requires-clause-within c =
    let n = c.number_lent.new.catalog in
    rw c.deref.ensures.value
    (made_within c.records_keep_documents.ensures.law (pairs_of n) (few_pairs n c.keeps_the_rules.ensures.few) c.args.document.now c.len-kept.ensures.kept c.requires.light c.number_lent.new.entries.items c.sort_unstable.new.self.items
    c.in_ok-number_lent.ensures.ok c.sort_unstable.ensures.permutation)

pub record-requires : goal.record-requires
record-requires c =
    let n = c.number_lent.new.catalog in
    let ss = c.sort_unstable.new.self.items in
    let fields = made_fields c.records_keep_documents.ensures.law (pairs_of n) (few_pairs n c.keeps_the_rules.ensures.few) c.args.document.now c.len-kept.ensures.kept c.requires.light c.number_lent.new.entries.items ss
    c.in_ok-number_lent.ensures.ok c.sort_unstable.ensures.permutation (up_from_sorted ss c.sort_unstable.ensures.sorted) in
    (fields_made c.args.document.now ss, (fields, rw (← c.deref.ensures.value) c.in_ok-fill_lent.ensures.ok))

pub returns-clause-ok : goal.returns-clause-ok
returns-clause-ok c =
    let n = c.number_lent.new.catalog in
    let d = c.args.document.now in
    let ss = c.sort_unstable.new.self.items in
    let law = c.records_keep_documents.ensures.law in
    let few = few_pairs n c.keeps_the_rules.ensures.few in
    let made = c.in_ok-record.ensures.ok (fields_made d ss) (rw (← c.deref.ensures.value) c.in_ok-fill_lent.ensures.ok) in
    rw made (record {
      stands = made_stands law (pairs_of n) few d c.len-kept.ensures.kept c.requires.light c.number_lent.new.entries.items ss c.in_ok-number_lent.ensures.ok c.sort_unstable.ensures.permutation;
      kept = made_kept law (pairs_of n) few d c.len-kept.ensures.kept c.requires.light c.number_lent.new.entries.items ss c.in_ok-number_lent.ensures.ok c.sort_unstable.ensures.permutation;
      lawful = made_fields law (pairs_of n) few d c.len-kept.ensures.kept c.requires.light c.number_lent.new.entries.items ss c.in_ok-number_lent.ensures.ok c.sort_unstable.ensures.permutation (up_from_sorted ss c.sort_unstable.ensures.sorted);
      light = made_fit law (pairs_of n) few d c.len-kept.ensures.kept c.requires.light c.number_lent.new.entries.items ss c.in_ok-number_lent.ensures.ok c.sort_unstable.ensures.permutation;
      many = made_many law (pairs_of n) few d c.len-kept.ensures.kept c.requires.light c.number_lent.new.entries.items ss c.in_ok-number_lent.ensures.ok c.sort_unstable.ensures.permutation;
    })

pub returns-clause-within : goal.returns-clause-within
returns-clause-within c =
    let n = c.number_lent.new.catalog in
    subst (λ (ps : Pairs). length ps ≤ 65536) c.in_ok-number_lent.ensures.pairs (few_pairs n c.keeps_the_rules.ensures.few)
