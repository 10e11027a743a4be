-- What the parts of a reply do to a text that is put together from its end: a form of the code, of which document 01 knows nothing.
use Rattle.std.specs.Prelude.{List, ℕ, ◌+◌, ◌≤◌, drop}
use Rattle.replies.specs.declared.Text.{Text}
use Rattle.replies.specs.Text.{longest}

-- The bytes that were put together.
abbrev pub bytes_put : Text → List ℕ
bytes_put t = drop t.start t.bytes

-- They begin in the array, or behind it where there are none, and so many more have room before them.
abbrev pub Room : ℕ → Text → Type 0
Room n t = (n ≤ t.start) × (t.start ≤ longest)

-- Up to so many were put before them, and none was taken away.
abbrev pub Uses : ℕ → (before after : Text) → Type 0
Uses n before after = (before.start ≤ after.start + n) × (after.start ≤ before.start)
