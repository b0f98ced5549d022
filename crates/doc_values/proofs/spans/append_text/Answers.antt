use Rattle.std.proofs.Common.{string_bytes, length, ap, subst, IsUtf8}
use Rattle.doc_values.proofs.Behind.{spans_kept, span_put}
use Rattle.doc_values.proofs.spans.append_text.Goals as goal

pub returns-clause-ok : goal.returns-clause-ok
returns-clause-ok c =
    span_put (string_bytes c.args.texts.now) c.args.text.now (string_bytes c.push_str.new.self) (length c.as_str-start.result.now) (length c.as_str-end.result.now) c.in_ok-push_str.ensures.bytes (ap length c.as_str-start.ensures.value) (ap length c.as_str-end.ensures.value) c.utf8.text

pub returns-clause-kept : goal.returns-clause-kept
returns-clause-kept c =
    spans_kept (string_bytes c.args.texts.now) c.args.text.now (string_bytes c.push_str.new.self) c.in_ok-push_str.ensures.bytes (subst IsUtf8 c.as_str-start.ensures.value c.as_str-start.utf8) (subst IsUtf8 c.as_str-end.ensures.value c.as_str-end.utf8)
