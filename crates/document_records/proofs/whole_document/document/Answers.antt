use Rattle.std.proofs.Common.{◌∙◌, subst}
use Rattle.doc_values.specs.Doc.{IsDocument}
use Rattle.document_records.proofs.WholeDocuments.{document_is}
use Rattle.document_records.specs.StoredDocument.{pairs_of}
use Rattle.document_records.proofs.whole_document.document.Goals as goal

pub returns : goal.returns
returns c =
    let pairs = pairs_of c.args.catalog.now in
    record {
      ok =
          c.in_ok-document.ensures.ok
          ∙ document_is c.documents_are_maps.ensures.puts c.documents_are_maps.ensures.same pairs c.args.stored.now c.requires.kept c.requires.ordered (subst IsDocument c.in_ok-document.ensures.ok c.len-kept.ensures.kept);
    }
