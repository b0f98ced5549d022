use Rattle.std.proofs.Common.{◌≡◌, ◌∙◌, ◌+◌, ◌*◌, ◌-◌, ◌++◌, ap, sym, subst, List, ℕ, length, get_or, take, drop, arith}
use Rattle.std.specs.List.{flat_map}
use Rattle.reservoir_record.specs.Spelling.{Spells, number_bytes}
use Rattle.reservoir_record.specs.Words.{word_at}
use Rattle.reservoir_record.proofs.PutIn.{back_whole}
use Rattle.reservoir_record.proofs.TakenOut.{Opened, opened, no_field, lowered, taken_out, enough}
use Rattle.reservoir_record.proofs.taking.take_at.Goals as goal

pub remove-requires : goal.remove-requires
remove-requires c =
    let r = c.requires.record_bytes in
    let many : c.count-count.result ≡ length r.0 = c.count-count.ensures.exact r.0 (subst (Spells r.0) (sym c.deref.ensures.value) r.1) in
    let from : c.word-start.result ≡ word_at c.args.bytes.now.items (4 + 4 * c.count-count.result + 4 * c.args.place) = c.word-start.ensures.exact ∙ ap (λ (b : List ℕ). word_at b (4 + 4 * c.count-count.result + 4 * c.args.place)) c.deref-2.ensures.value in
    let behind : c.word.result ≡ word_at c.args.bytes.now.items (4 + 4 * c.count-count.result + 4 * c.args.place + 4) = c.word.ensures.exact ∙ ap (λ (b : List ℕ). word_at b (4 + 4 * c.count-count.result + 4 * c.args.place + 4)) c.deref-3.ensures.value in
    let cut : Opened (take c.args.place r.0) (drop (c.args.place + 1) r.0) (get_or r.0 c.args.place no_field) c.args.bytes.now.items c.count-count.result c.word-start.result (c.word.result - c.word-start.result) c.args.place = opened r.0 c.args.bytes.now.items r.1 c.count-count.result c.word-start.result c.word.result c.args.place many (c.requires.within r.0 r.1) from behind in
    omega arith

pub lower-requires-clause-room : goal.lower-requires-clause-room
lower-requires-clause-room c =
    let r = c.requires.record_bytes in
    let many : c.count-count.result ≡ length r.0 = c.count-count.ensures.exact r.0 (subst (Spells r.0) (sym c.deref.ensures.value) r.1) in
    let from : c.word-start.result ≡ word_at c.args.bytes.now.items (4 + 4 * c.count-count.result + 4 * c.args.place) = c.word-start.ensures.exact ∙ ap (λ (b : List ℕ). word_at b (4 + 4 * c.count-count.result + 4 * c.args.place)) c.deref-2.ensures.value in
    let behind : c.word.result ≡ word_at c.args.bytes.now.items (4 + 4 * c.count-count.result + 4 * c.args.place + 4) = c.word.ensures.exact ∙ ap (λ (b : List ℕ). word_at b (4 + 4 * c.count-count.result + 4 * c.args.place + 4)) c.deref-3.ensures.value in
    let cut : Opened (take c.args.place r.0) (drop (c.args.place + 1) r.0) (get_or r.0 c.args.place no_field) c.args.bytes.now.items c.count-count.result c.word-start.result (c.word.result - c.word-start.result) c.args.place = opened r.0 c.args.bytes.now.items r.1 c.count-count.result c.word-start.result c.word.result c.args.place many (c.requires.within r.0 r.1) from behind in
    λ i lt. rw c.deref_mut.ensures.value (enough (take c.args.place r.0) (drop (c.args.place + 1) r.0) (get_or r.0 c.args.place no_field) c.args.bytes.now.items c.remove.new.bytes.items c.count-count.result c.word-start.result (c.word.result - c.word-start.result) c.args.place cut c.remove.ensures.exact i lt)

pub returns : goal.returns
returns c = record {
  exact = λ fields s.
      let many : c.count-count.result ≡ length fields = c.count-count.ensures.exact fields (subst (Spells fields) (sym c.deref.ensures.value) s) in
      let from : c.word-start.result ≡ word_at c.args.bytes.now.items (4 + 4 * c.count-count.result + 4 * c.args.place) = c.word-start.ensures.exact ∙ ap (λ (b : List ℕ). word_at b (4 + 4 * c.count-count.result + 4 * c.args.place)) c.deref-2.ensures.value in
      let behind : c.word.result ≡ word_at c.args.bytes.now.items (4 + 4 * c.count-count.result + 4 * c.args.place + 4) = c.word.ensures.exact ∙ ap (λ (b : List ℕ). word_at b (4 + 4 * c.count-count.result + 4 * c.args.place + 4)) c.deref-3.ensures.value in
      let cut : Opened (take c.args.place fields) (drop (c.args.place + 1) fields) (get_or fields c.args.place no_field) c.args.bytes.now.items c.count-count.result c.word-start.result (c.word.result - c.word-start.result) c.args.place = opened fields c.args.bytes.now.items s c.count-count.result c.word-start.result c.word.result c.args.place many (c.requires.within fields s) from behind in
      let lowered_back : take c.remove.new.bytes.len (c.lower.new.bytes ++ drop (length c.lower.new.bytes) c.remove.new.bytes.items) ≡ c.lower.new.bytes = back_whole c.remove.new.bytes.len c.lower.new.bytes c.remove.new.bytes.items (omega arith) in
      back_whole c.remove-3.new.bytes.len c.set_word.new.bytes c.remove-3.new.bytes.items (omega arith)
      ∙ taken_out (take c.args.place fields) (drop (c.args.place + 1) fields) (get_or fields c.args.place no_field) c.args.bytes.now.items c.remove.new.bytes.items c.lower.new.bytes c.remove-2.new.bytes.items c.remove-3.new.bytes.items c.set_word.new.bytes
      c.count-count.result c.word-start.result (c.word.result - c.word-start.result) c.args.place cut c.remove.ensures.exact (record {
        places = λ p ns q e l m small. c.lower.ensures.exact p ns q (c.deref_mut.ensures.value ∙ e) l m small ∙ ap (λ (n : ℕ). p ++ (flat_map number_bytes (lowered n ns) ++ q)) cut.long;
        place = rw lowered_back at c.remove-2.ensures.exact;
        number = c.remove-3.ensures.exact;
        count = c.set_word.ensures.exact ∙ ap (λ (b : List ℕ). take 0 b ++ (number_bytes (c.count-count.result - 1) ++ drop 4 b)) c.deref_mut-2.ensures.value;
      });
}
