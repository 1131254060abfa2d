use Rattle.std.proofs.Common.{◌∙◌, sym, ap, List}
use Rattle.std.specs.List.{position}
use Rattle.session_log.specs.declared.sessions.SessionEntry.{SessionEntry}
use Rattle.session_memory.specs.Lookups.{has_xid}
use Rattle.session_memory.proofs.PlaceLaws.{first_place, no_place, without_first, without_none, forgotten_first, forgotten_none}
use Rattle.session_memory.proofs.sessions.forget.Goals as goal

pub returns-in_ok-put_forgotten-clause-sessions : goal.returns-in_ok-put_forgotten-clause-sessions
returns-in_ok-put_forgotten-clause-sessions c =
    c.remove.ensures.items ∙ without_first c.args.xid.0 c.args.sessions.now.items c.in-Some.at
    (first_place (has_xid c.args.xid.0) c.args.sessions.now.items c.in-Some.at
    (ap (λ (es : List SessionEntry). position (has_xid c.args.xid.0) es) (sym c.deref.ensures.value) ∙ sym c.place.ensures ∙ c.in-Some.is))

pub returns-in_ok-put_forgotten-clause-forgotten : goal.returns-in_ok-put_forgotten-clause-forgotten
returns-in_ok-put_forgotten-clause-forgotten c =
    forgotten_first c.args.xid c.args.sessions.now.items c.in-Some.at c.index.result.now c.args.forgotten.now.items c.put_forgotten.new.forgotten.items
    (first_place (has_xid c.args.xid.0) c.args.sessions.now.items c.in-Some.at
    (ap (λ (es : List SessionEntry). position (has_xid c.args.xid.0) es) (sym c.deref.ensures.value) ∙ sym c.place.ensures ∙ c.in-Some.is)) c.index.ensures c.in_ok-put_forgotten.ensures.ok

pub returns-in_default-clause-sessions : goal.returns-in_default-clause-sessions
returns-in_default-clause-sessions c =
    sym (without_none c.args.xid.0 c.args.sessions.now.items (no_place (has_xid c.args.xid.0) c.args.sessions.now.items
    (ap (λ (es : List SessionEntry). position (has_xid c.args.xid.0) es) (sym c.deref.ensures.value) ∙ sym c.place.ensures ∙ c.in_default.is)))

pub returns-in_default-clause-forgotten : goal.returns-in_default-clause-forgotten
returns-in_default-clause-forgotten c =
    forgotten_none c.args.xid c.args.sessions.now.items c.args.forgotten.now.items (no_place (has_xid c.args.xid.0) c.args.sessions.now.items
    (ap (λ (es : List SessionEntry). position (has_xid c.args.xid.0) es) (sym c.deref.ensures.value) ∙ sym c.place.ensures ∙ c.in_default.is))
