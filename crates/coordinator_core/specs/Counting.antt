-- Transactions that are under way.
use Rattle.std.specs.Prelude.{◌||◌, Bool}
use Rattle.session_log.specs.declared.sessions.SessionEntry.{SessionEntry}
use Rattle.session_memory.specs.Changes.{is_begin, is_going}

-- a transaction is neither finished nor failed
unfoldable pub is_unended_entry : SessionEntry → Bool
is_unended_entry e = is_begin e.session.status || is_going e.session.status
