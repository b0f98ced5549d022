use Rattle.std.proofs.Common.{◌≡◌, ◌∙◌, ◌++◌, [], ◌∷◌, ap}
use Rattle.exec_finish.proofs.Unescaped.{put_plain}
use Rattle.exec_finish.proofs.lent_text.append_plain.Goals as goal

pub returns : goal.returns
returns c =
    let text = c.args.text.now.items in
    record {
      ok = c.in_ok-push-2.ensures.items
          ∙ ap (λ t. t ++ 34 ∷ []) (c.in_ok-extend_from_slice.ensures.items ∙ (λ i. c.in_ok-push.ensures.items i ++ c.as_bytes.ensures.value i))
          ∙ put_plain text c.args.string.now c.requires;
    }
