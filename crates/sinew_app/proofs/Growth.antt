-- A serial run of some lines goes on to one more line.
use Rattle.std.proofs.Common.{◌≡◌, ℕ, ◌+◌, ◌<◌, ◌≤◌, zero, suc, List, [], ◌∷◌, ◌++◌, length, take, get_or, Bool, true, false, cond, Some, refl, sym, ap, ◌∙◌, subst, arith}
use Rattle.std.specs.Prelude.{slice_get}
use Rattle.std.proofs.lemmas.List.{take-append-le, take_all, length-append, length-map, length_push, map_push, take_more, length-take-le}
use Rattle.std.proofs.lemmas.List.Sums.{sum_by_push}
use Rattle.std.proofs.lemmas.Option.{slice_get_within, same_Some}
use Rattle.script_reader.proofs.Apart.{above}
use Rattle.script_reader.specs.Laws.{FollowLinesAbove}
use Rattle.script_reader.specs.Script.{IsScript}
use Rattle.script_reader.specs.declared.line.Line.{Line}
use Rattle.commit_core.specs.Commits.{texts_of}
use Rattle.commit_core.specs.OneWrite.{IsWrite, with_entry}
use Rattle.commit_core.specs.Replies.{Told, told_of, reply_at, state_after}
use Rattle.commit_core.specs.declared.entry.Entry.{Entry}
use Rattle.commit_core.specs.declared.reply.Reply.{Reply}
use Rattle.sinew_app.specs.Run.{Run, text_of, text_at, texts_at, told_by_line, accepted_in, IsSerial}
use Rattle.sinew_app.specs.Step.{order_with, with_reply}
use Rattle.sinew_app.proofs.Positions.{get_kept, get_last, old, added, place_of, get_take, length_order, order_kept, order_last, take_order, stays, joins, ordered}

-- A serial run of lines, and a store that has the commits of its order.
pub record Stored (lines : List Line) (run : Run) (commits : List Entry) : Type 0 where
  pub serial : IsSerial lines run
  pub counted : accepted_in run.answers ≡ length run.order
  pub stored : texts_of commits ≡ texts_at lines run.order

-- The positions of an order are below a number.
abbrev pub Below : ℕ → List ℕ → Type 0
Below n order = (i k : ℕ) → slice_get order i ≡ Some k → k < n

text_kept : (lines : List Line) (line : Line) (k : ℕ) → k < length lines → text_at (lines ++ line ∷ []) k ≡ text_at lines k
text_kept [] line k l = absurd (omega arith)
text_kept (x ∷ lines) line zero l = refl
text_kept (x ∷ lines) line (suc k) l = text_kept lines line k (omega arith)

text_last : (lines : List Line) (line : Line) (k : ℕ) → k ≡ length lines → text_at (lines ++ line ∷ []) k ≡ line.text
text_last lines line k e = ap text_of (get_last lines line k e)

texts_kept : (lines : List Line) (line : Line) (order : List ℕ) → Below (length lines) order → texts_at (lines ++ line ∷ []) order ≡ texts_at lines order
texts_kept lines line [] below = refl
texts_kept lines line (k ∷ order) below =
    let first = text_kept lines line k (below 0 k refl) in
    let rest = texts_kept lines line order (λ i j e. below (suc i) j e) in
    cc

told_kept : (lines : List Line) (line : Line) (order longer : List ℕ) (number k : ℕ) → Below (length lines) order → take number longer ≡ take number order → k < length lines →
    told_by_line (lines ++ line ∷ []) longer number k ≡ told_by_line lines order number k
told_kept lines line order longer number k below same l =
    let all = lines ++ line ∷ [] in
    let texts = texts_kept lines line (take number order) (λ i j e. below i j (get_take number order i j e)) in
    ap (λ (taken : List ℕ). told_of (text_at all k) (state_after (texts_at all taken))) same
    ∙ (ap (λ (text : List ℕ). told_of text (state_after (texts_at all (take number order)))) (text_kept lines line k l)
    ∙ ap (λ (taken : List (List ℕ)). told_of (text_at lines k) (state_after taken)) texts)

-- What one more line is told, after its run has the order that it had before.
told_last : (lines : List Line) (line : Line) (order longer : List ℕ) (number k : ℕ) (commits : List Entry) → Below (length lines) order → take number longer ≡ order → k ≡ length lines →
    texts_of commits ≡ texts_at lines order → told_by_line (lines ++ line ∷ []) longer number k ≡ told_of line.text (state_after (texts_of commits))
told_last lines line order longer number k commits below same e stored =
    let all = lines ++ line ∷ [] in
    let texts = texts_kept lines line order below ∙ sym stored in
    ap (λ (taken : List ℕ). told_of (text_at all k) (state_after (texts_at all taken))) same
    ∙ (ap (λ (text : List ℕ). told_of text (state_after (texts_at all order))) (text_last lines line k e)
    ∙ ap (λ (taken : List (List ℕ)). told_of line.text (state_after taken)) texts)

-- The texts of the commits after a write.
texts_stored : (accepted : Bool) (caller : ℕ) (lines : List Line) (line : Line) (order : List ℕ) (commits : List Entry) → Below (length lines) order → texts_of commits ≡ texts_at lines order →
    texts_of (with_entry accepted commits (record { caller = caller; text = line.text })) ≡ texts_at (lines ++ line ∷ []) (order_with accepted order (length lines))
texts_stored true caller lines line order commits below stored =
    let all = lines ++ line ∷ [] in
    let texts = stored ∙ sym (texts_kept lines line order below) in
    let text = sym (text_last lines line (length lines) refl) in
    map_push (λ (entry : Entry). entry.text) commits (record { caller = caller; text = line.text })
    ∙ (ap (λ (ts : List (List ℕ)). ts ++ line.text ∷ []) texts
    ∙ (ap (λ (t : List ℕ). texts_at all order ++ t ∷ []) text
    ∙ sym (map_push (text_at all) order (length lines))))
texts_stored false caller lines line order commits below stored = stored ∙ sym (texts_kept lines line order below)

-- The number of commits after a write.
length_stored : (accepted : Bool) (commits : List Entry) (entry : Entry) → length (with_entry accepted commits entry) ≡ length commits + cond accepted 1 0
length_stored true commits entry = length-append commits (entry ∷ [])
length_stored false commits entry = omega arith

-- How many replies of those and one more are accepted.
accepted_more : (answers : List Reply) (reply : Reply) → accepted_in (answers ++ reply ∷ []) ≡ accepted_in answers + cond reply.accepted 1 0
accepted_more answers reply = sum_by_push (λ (a : Reply). cond a.accepted 1 0) answers reply

-- A serial run of lines and the reply to one more line, which is told over its commits.
record Step (lines : List Line) (line : Line) (run : Run) (commits : List Entry) (reply : Reply) : Type 0 where
  serial : IsSerial lines run
  counted : accepted_in run.answers ≡ length run.order
  stored : texts_of commits ≡ texts_at lines run.order
  below : Below (length lines) run.order
  above : FollowLinesAbove (lines ++ line ∷ [])
  number : reply.at ≡ length run.order + cond reply.accepted 1 0
  replied : reply ≡ reply_at reply.at (told_of line.text (state_after (texts_of commits)))

-- The order with the position of the line, where its reply is that of a commit.
abbrev Longer : List Line → Run → Reply → List ℕ
Longer lines run reply = order_with reply.accepted run.order (length lines)

once_grown : (lines : List Line) (line : Line) (run : Run) (commits : List Entry) (reply : Reply) → Step lines line run commits reply →
    (i j k : ℕ) → slice_get (Longer lines run reply) i ≡ Some k → slice_get (Longer lines run reply) j ≡ Some k → i ≡ j
once_grown lines line run commits reply s i j k e f =
    elim (ordered reply.accepted run.order (length lines) i k e) [
      | stays e' l ↦ elim (ordered reply.accepted run.order (length lines) j k f) [
        | stays f' m ↦ s.serial.legal.once i j k e' f'
        | joins b k-is sure ↦ absurd (omega (arith, s.below i k e'))
      ]
      | joins a k-is sure ↦ elim (ordered reply.accepted run.order (length lines) j k f) [
        | stays f' m ↦ absurd (omega (arith, s.below j k f'))
        | joins b k-is' sure' ↦ omega arith
      ]
    ]

stands_grown : (lines : List Line) (line : Line) (run : Run) (commits : List Entry) (reply : Reply) → Step lines line run commits reply →
    (k : ℕ) (a : Reply) → slice_get (run.answers ++ reply ∷ []) k ≡ Some a → a.accepted ≡ true → (i : ℕ) × (slice_get (Longer lines run reply) i ≡ Some k)
stands_grown lines line run commits reply s k a e sure =
    let answered = s.serial.legal.answered in
    elim (place_of run.answers reply k a e) [
      | old f l ↦ let stands = s.serial.legal.stands k a f sure in (stands.0, order_kept reply.accepted run.order (length lines) stands.0 k stands.1)
      | added k-is a-is ↦
          let sure' : reply.accepted ≡ true = sym (ap (λ (r : Reply). r.accepted) a-is) ∙ sure in
          let n-is : length lines ≡ k = omega arith in
          (length run.order, order_last reply.accepted run.order (length lines) sure' ∙ ap (λ (n : ℕ). Some n) n-is)
    ]

committed_grown : (lines : List Line) (line : Line) (run : Run) (commits : List Entry) (reply : Reply) → Step lines line run commits reply →
    (i k : ℕ) → slice_get (Longer lines run reply) i ≡ Some k →
    (slice_get (run.answers ++ reply ∷ []) k ≡ Some (reply_at (i + 1) (told_by_line (lines ++ line ∷ []) (Longer lines run reply) i k)))
    × ((told_by_line (lines ++ line ∷ []) (Longer lines run reply) i k).accepted ≡ true)
committed_grown lines line run commits reply s i k e =
    let answered = s.serial.legal.answered in
    elim (ordered reply.accepted run.order (length lines) i k e) [
      | stays f l ↦
          let was = s.serial.legal.committed i k f in
          let told = told_kept lines line run.order (Longer lines run reply) i k s.below (take_order reply.accepted run.order (length lines) i (omega arith)) (s.below i k f) in (
            get_kept run.answers (reply ∷ []) k _ was.0 ∙ ap (λ (t : Told). Some (reply_at (i + 1) t)) (sym told),
            ap (λ (t : Told). t.accepted) told ∙ was.1,
          )
      | joins i-is k-is sure ↦
          let same : take i (Longer lines run reply) ≡ run.order =
          take_order reply.accepted run.order (length lines) i (omega arith) ∙ take_all i run.order (omega arith) in
          let told = told_last lines line run.order (Longer lines run reply) i k commits s.below same k-is s.stored in
          let number : reply.at ≡ i + 1 = omega (arith, rw sure at s.number) in
          let reply-is : reply ≡ reply_at (i + 1) (told_by_line (lines ++ line ∷ []) (Longer lines run reply) i k) =
          s.replied ∙ (ap (λ (n : ℕ). reply_at n (told_of line.text (state_after (texts_of commits)))) number
          ∙ ap (λ (t : Told). reply_at (i + 1) t) (sym told)) in (
            get_last run.answers reply k (omega arith) ∙ ap (λ (r : Reply). Some r) reply-is,
            sym (ap (λ (r : Reply). r.accepted) reply-is) ∙ sure,
          )
    ]

other_grown : (lines : List Line) (line : Line) (run : Run) (commits : List Entry) (reply : Reply) → Step lines line run commits reply →
    (k : ℕ) (a : Reply) → slice_get (run.answers ++ reply ∷ []) k ≡ Some a → a.accepted ≡ false →
    (a.at ≤ length (Longer lines run reply)) × (a ≡ reply_at a.at (told_by_line (lines ++ line ∷ []) (Longer lines run reply) a.at k))
other_grown lines line run commits reply s k a e out =
    let answered = s.serial.legal.answered in
    let more = length_order reply.accepted run.order (length lines) in
    elim (place_of run.answers reply k a e) [
      | old f l ↦
          let was = s.serial.legal.other k a f out in
          let told = told_kept lines line run.order (Longer lines run reply) a.at k s.below (take_order reply.accepted run.order (length lines) a.at was.0) (omega arith) in
          (omega arith, was.1 ∙ ap (λ (t : Told). reply_at a.at t) (sym told))
      | added k-is a-is ↦
          let out' : reply.accepted ≡ false = sym (ap (λ (r : Reply). r.accepted) a-is) ∙ out in
          let at-is : a.at ≡ reply.at = ap (λ (r : Reply). r.at) a-is in
          let number : a.at ≡ length run.order = omega (arith, rw out' at s.number) in
          let same : take a.at (Longer lines run reply) ≡ run.order =
          take_order reply.accepted run.order (length lines) a.at (omega arith) ∙ take_all a.at run.order (omega arith) in
          let told = told_last lines line run.order (Longer lines run reply) a.at k commits s.below same (omega arith) s.stored in (
            omega arith,
            a-is ∙ (s.replied ∙ (ap (λ (n : ℕ). reply_at n (told_of line.text (state_after (texts_of commits)))) (sym at-is)
                ∙ ap (λ (t : Told). reply_at a.at t) (sym told))),
          )
    ]

-- Each answer counts at most all commits.
at_most_all : (lines : List Line) (run : Run) → IsSerial lines run → (k : ℕ) (a : Reply) → slice_get run.answers k ≡ Some a → a.at ≤ length run.order
at_most_all lines run serial k a e = at_most a.accepted refl where
  at_most : (accepted : Bool) → a.accepted ≡ accepted → a.at ≤ length run.order
  at_most true sure =
      let stands = serial.legal.stands k a e sure in
      let same : a ≡ reply_at (stands.0 + 1) (told_by_line lines run.order stands.0 k) =
      same_Some _ _ (sym e ∙ (serial.legal.committed stands.0 k stands.1).0) in
      let at-is : a.at ≡ stands.0 + 1 = ap (λ (r : Reply). r.at) same in
      omega (arith, slice_get_within run.order stands.0 k stands.1)
  at_most false out = (serial.legal.other k a e out).0

later_grown : (lines : List Line) (line : Line) (run : Run) (commits : List Entry) (reply : Reply) → Step lines line run commits reply →
    (j k p : ℕ) (l : Line) (earlier later : Reply) → slice_get (lines ++ line ∷ []) k ≡ Some l → slice_get l.follows p ≡ Some j →
    slice_get (run.answers ++ reply ∷ []) j ≡ Some earlier → slice_get (run.answers ++ reply ∷ []) k ≡ Some later → earlier.at ≤ later.at
later_grown lines line run commits reply s j k p l earlier later at-k follows answer-j answer-k =
    let answered = s.serial.legal.answered in
    let above = s.above k l p j at-k follows in
    elim (place_of run.answers reply j earlier answer-j) [
      | old at-j within ↦ elim (place_of run.answers reply k later answer-k) [
        | old at-k' within' ↦ elim (place_of lines line k l at-k) [
          | old line-k within'' ↦ s.serial.legal.later j k p l earlier later line-k follows at-j at-k'
          | added k-is l-is ↦ absurd (omega arith)
        ]
        | added k-is later-is ↦
            let later-at : later.at ≡ reply.at = ap (λ (r : Reply). r.at) later-is in
            omega (arith, s.number, at_most_all lines run s.serial j earlier at-j)
      ]
      | added j-is earlier-is ↦
          let within = slice_get_within (run.answers ++ reply ∷ []) k later answer-k in
          absurd (omega (arith, length_push run.answers reply))
    ]

numbers_grown : (lines : List Line) (line : Line) (run : Run) (commits : List Entry) (reply : Reply) → Step lines line run commits reply →
    (k : ℕ) (a : Reply) → slice_get (run.answers ++ reply ∷ []) k ≡ Some a → a.at ≡ accepted_in (take (k + 1) (run.answers ++ reply ∷ []))
numbers_grown lines line run commits reply s k a e =
    elim (place_of run.answers reply k a e) [
      | old f l ↦ s.serial.numbers k a f ∙ sym (ap accepted_in (take-append-le (k + 1) run.answers (reply ∷ []) (omega arith)))
      | added k-is a-is ↦
          let at-is : a.at ≡ reply.at = ap (λ (r : Reply). r.at) a-is in
          let all : take (k + 1) (run.answers ++ reply ∷ []) ≡ run.answers ++ reply ∷ [] =
          take_all (k + 1) (run.answers ++ reply ∷ []) (omega (arith, length_push run.answers reply)) in
          rw all (omega (arith, s.number, s.counted, accepted_more run.answers reply))
    ]

serial_grown : (lines : List Line) (line : Line) (run : Run) (commits : List Entry) (reply : Reply) → Step lines line run commits reply →
    IsSerial (lines ++ line ∷ []) (with_reply run (length lines) reply)
serial_grown lines line run commits reply s = record {
  legal = record {
    answered = length_push run.answers reply ∙ (ap (λ (n : ℕ). n + 1) s.serial.legal.answered ∙ sym (length_push lines line));
    once = once_grown lines line run commits reply s;
    stands = stands_grown lines line run commits reply s;
    committed = committed_grown lines line run commits reply s;
    other = other_grown lines line run commits reply s;
    later = later_grown lines line run commits reply s;
  };
  numbers = numbers_grown lines line run commits reply s;
}

-- A serial run of lines, with a write of one more line to the store of its commits, is a serial run of those lines and this one.
pub grown : (caller : ℕ) (lines : List Line) (line : Line) (run : Run) (commits new : List Entry) (reply : Reply) → FollowLinesAbove (lines ++ line ∷ []) →
    Stored lines run commits → IsWrite caller line.text commits new reply → Stored (lines ++ line ∷ []) (with_reply run (length lines) reply) new
grown caller lines line run commits new reply above s w =
    let told = told_of line.text (state_after (texts_of commits)) in
    let entry : Entry = record { caller = caller; text = line.text } in
    let below : Below (length lines) run.order = λ i k e.
    omega (arith, s.serial.legal.answered, slice_get_within run.answers k _ (s.serial.legal.committed i k e).0) in
    let accepted : reply.accepted ≡ told.accepted = ap (λ (r : Reply). r.accepted) w.replied in
    let at-is : reply.at ≡ length new = ap (λ (r : Reply). r.at) w.replied in
    let new-is : new ≡ with_entry reply.accepted commits entry = rw accepted w.commits in
    let size : length commits ≡ length run.order =
    sym (length-map commits (λ (e : Entry). e.text)) ∙ (ap (λ (ts : List (List ℕ)). length ts) s.stored ∙ length-map run.order (text_at lines)) in
    let number : reply.at ≡ length run.order + cond reply.accepted 1 0 =
    omega (arith, ap (λ (es : List Entry). length es) new-is, length_stored reply.accepted commits entry) in
    let step : Step lines line run commits reply = record {
      serial = s.serial;
      counted = s.counted;
      stored = s.stored;
      below = below;
      above = above;
      number = number;
      replied = w.replied ∙ ap (λ (n : ℕ). reply_at n told) (sym at-is);
    } in
    record {
      serial = serial_grown lines line run commits reply step;
      counted = omega (arith, s.counted, accepted_more run.answers reply, length_order reply.accepted run.order (length lines));
      stored = ap texts_of new-is ∙ texts_stored reply.accepted caller lines line run.order commits below s.stored;
    }

-- The same for the first lines of a script, and one more.
pub turn : (caller : ℕ) (script lines : List Line) (i : ℕ) (line : Line) (text : List ℕ) (run after : Run) (commits new : List Entry) (reply : Reply) →
    IsScript script → lines ≡ script → i < length lines → line ≡ get_or lines i line → text ≡ line.text → Stored (take i lines) run commits →
    IsWrite caller text commits new reply → after ≡ with_reply run i reply → Stored (take (i + 1) lines) after new
turn caller script lines i line text run after commits new reply rules same within line-is text-is stored w after-is =
    let longer : take (i + 1) lines ≡ take i lines ++ line ∷ [] =
    take_more lines i line within ∙ ap (λ (l : Line). take i lines ++ l ∷ []) (sym line-is) in
    let size : length (take i lines) ≡ i = length-take-le i lines (omega arith) in
    let follow : FollowLinesAbove lines = subst FollowLinesAbove (sym same) (above script rules) in
    let follow-here : FollowLinesAbove (take i lines ++ line ∷ []) = subst FollowLinesAbove longer
    (λ k l p j at-k follows. follow k l p j (get_take (i + 1) lines k l at-k) follows) in
    let w' : IsWrite caller line.text commits new reply = subst (λ (t : List ℕ). IsWrite caller t commits new reply) text-is w in
    let more = grown caller (take i lines) line run commits new reply follow-here stored w' in
    let after' : with_reply run (length (take i lines)) reply ≡ after = ap (λ (n : ℕ). with_reply run n reply) size ∙ sym after-is in
    subst (λ (ls : List Line). Stored ls after new) (sym longer)
    (subst (λ (r : Run). Stored (take i lines ++ line ∷ []) r new) after' more)
