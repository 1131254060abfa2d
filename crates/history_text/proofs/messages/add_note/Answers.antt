use Rattle.history_text.proofs.messages.add_note.Goals as goal

pub returns-in-RollbackStatus : goal.returns-in-RollbackStatus
returns-in-RollbackStatus c = rw c.in-RollbackStatus.is c.add_word_status-in-RollbackStatus.ensures
