-- What one write makes of the commits of a store.
use Rattle.std.specs.Prelude.{◌≡◌, ℕ, List, [], ◌∷◌, ◌++◌, Bool, length, if◌then◌else◌}
use Rattle.commit_core.specs.Commits.{texts_of}
use Rattle.commit_core.specs.State.{State}
use Rattle.commit_core.specs.Replies.{Told, told_of, reply_at, state_after}
use Rattle.commit_core.specs.declared.entry.Entry.{Entry}
use Rattle.commit_core.specs.declared.reply.Reply.{Reply}

-- The state after commits.
abbrev pub state_of : List Entry → State
state_of entries = state_after (texts_of entries)

-- What a text is told over the state after commits.
abbrev pub told_over : List Entry → List ℕ → Told
told_over entries text = told_of text (state_of entries)

-- The commits with one more at the end where it is accepted, else the same.
abbrev pub with_entry : Bool → List Entry → Entry → List Entry
with_entry accepted entries entry = if accepted then entries ++ entry ∷ [] else entries

-- A write: its commit stands last where it is accepted, and nothing changes where it is not; it is told what its text is told over the commits before it, at the number of commits after it.
pub record IsWrite (caller : ℕ) (text : List ℕ) (old new : List Entry) (reply : Reply) : Type 0 where
  pub commits : new ≡ with_entry (told_over old text).accepted old (record { caller = caller; text = text })
  pub replied : reply ≡ reply_at (length new) (told_over old text)
