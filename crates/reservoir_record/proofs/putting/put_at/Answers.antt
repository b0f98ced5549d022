use Rattle.std.proofs.Common.{◌≡◌, ◌∙◌, ◌+◌, ◌*◌, ◌≤◌, ◌++◌, ap, sym, subst, List, ℕ, length, take, drop, arith}
use Rattle.std.proofs.lemmas.List.{take-append-drop, length-take-le}
use Rattle.reservoir_record.specs.Spelling.{Spells, spelling, AreFields, number_bytes}
use Rattle.reservoir_record.specs.Words.{word_at}
use Rattle.reservoir_record.proofs.Told.{Told, told}
use Rattle.reservoir_record.proofs.PutIn.{back_whole, put_at_places, values_front, start_here, rooms}
use Rattle.reservoir_record.proofs.putting.put_at.Goals as goal

pub insert-requires-clause-within : goal.insert-requires-clause-within
insert-requires-clause-within c =
    let r = c.requires.record_bytes in
    let t : Told r.0 c.args.bytes.now.items = told r.0 c.args.bytes.now.items r.1 in
    let many : c.count-count.result ≡ length r.0 = c.count-count.ensures.exact r.0 (subst (Spells r.0) (sym c.deref.ensures.value) r.1) in
    let read : c.word-start.result ≡ word_at c.args.bytes.now.items (4 + 4 * c.count-count.result + 4 * c.args.place) = c.word-start.ensures.exact ∙ ap (λ (b : List ℕ). word_at b (4 + 4 * c.count-count.result + 4 * c.args.place)) c.deref-2.ensures.value in
    omega (arith, t.size, start_here r.0 c.args.bytes.now.items r.1 c.count-count.result c.word-start.result c.args.place many (c.requires.within r.0 r.1) read, values_front r.0 c.args.place)

pub raise-requires-clause-room : goal.raise-requires-clause-room
raise-requires-clause-room c =
    let r = c.requires.record_bytes in
    let many : c.count-count.result ≡ length r.0 = c.count-count.ensures.exact r.0 (subst (Spells r.0) (sym c.deref.ensures.value) r.1) in
    let read : c.word-start.result ≡ word_at c.args.bytes.now.items (4 + 4 * c.count-count.result + 4 * c.args.place) = c.word-start.ensures.exact ∙ ap (λ (b : List ℕ). word_at b (4 + 4 * c.count-count.result + 4 * c.args.place)) c.deref-2.ensures.value in
    λ i lt. rw c.deref_mut.ensures.value (rooms r.0 c.args.bytes.now.items c.insert.new.bytes.items c.args.value.now r.1 c.count-count.result c.word-start.result c.args.place many (c.requires.within r.0 r.1) read c.insert.ensures.exact (c.requires.fit r.0 r.1) i lt)

pub overflow_add-count : goal.overflow_add-count
overflow_add-count c =
    let r = c.requires.record_bytes in
    let t : Told r.0 c.args.bytes.now.items = told r.0 c.args.bytes.now.items r.1 in
    let many : c.count-count.result ≡ length r.0 = c.count-count.ensures.exact r.0 (subst (Spells r.0) (sym c.deref.ensures.value) r.1) in
    omega (arith, t.few)

pub returns : goal.returns
returns c = record {
  exact = λ fields s.
      let whole : take c.args.place fields ++ drop c.args.place fields ≡ fields = take-append-drop c.args.place fields in
      let le : c.args.place ≤ length fields = c.requires.within fields s in
      let many : c.count-count.result ≡ length fields = c.count-count.ensures.exact fields (subst (Spells fields) (sym c.deref.ensures.value) s) in
      let read : c.word-start.result ≡ word_at c.args.bytes.now.items (4 + 4 * c.count-count.result + 4 * c.args.place) = c.word-start.ensures.exact ∙ ap (λ (b : List ℕ). word_at b (4 + 4 * c.count-count.result + 4 * c.args.place)) c.deref-2.ensures.value in
      let raised_back : take c.insert.new.bytes.len (c.raise.new.bytes ++ drop (length c.raise.new.bytes) c.insert.new.bytes.items) ≡ c.raise.new.bytes = back_whole c.insert.new.bytes.len c.raise.new.bytes c.insert.new.bytes.items (omega arith) in
      back_whole c.insert_word-2.new.bytes.len c.set_word.new.bytes c.insert_word-2.new.bytes.items (omega arith)
      ∙ put_at_places (take c.args.place fields) (drop c.args.place fields) c.args.id c.args.value.now c.count-count.result c.word-start.result c.args.place
      c.args.bytes.now.items c.insert.new.bytes.items c.raise.new.bytes c.insert_word.new.bytes.items c.insert_word-2.new.bytes.items c.set_word.new.bytes
      (subst AreFields (sym whole) s.lawful)
      (many ∙ ap length (sym whole))
      (start_here fields c.args.bytes.now.items s c.count-count.result c.word-start.result c.args.place many le read)
      (sym (length-take-le c.args.place fields le))
      (s.spelled ∙ ap spelling (sym whole))
      c.insert.ensures.exact
      (λ p ns q e l m small. c.raise.ensures.exact p ns q (c.deref_mut.ensures.value ∙ e) l m small)
      (rw raised_back at c.insert_word.ensures.exact)
      c.insert_word-2.ensures.exact
      (c.set_word.ensures.exact ∙ ap (λ (b : List ℕ). take 0 b ++ (number_bytes (c.count-count.result + 1) ++ drop 4 b)) c.deref_mut-2.ensures.value);
}
