use Rattle.std.proofs.Common.{◌∙◌, sym, ap, ℕ}
use Rattle.std.specs.List.{position}
use Rattle.session_memory.specs.Lookups.{has_xid}
use Rattle.session_memory.specs.Changes.{turned, xid_in}
use Rattle.session_memory.proofs.PlaceLaws.{first_place, no_place, changed_to, changed_none}
use Rattle.session_memory.proofs.sessions.turn_one.Goals as goal

pub returns-in-Some : goal.returns-in-Some
returns-in-Some c =
    changed_to (xid_in c.args.item.now) (turned c.args.item.now) c.args.sessions.now c.in-Some.at c.index-sessions-at.result c.turn.new.session
    (first_place (has_xid (xid_in c.args.item.now)) c.args.sessions.now c.in-Some.at
    (ap (λ (n : ℕ). position (has_xid n) c.args.sessions.now) (sym c.xid_of.ensures) ∙ sym c.place.ensures ∙ c.in-Some.is)) c.turn.ensures

pub returns-in_default : goal.returns-in_default
returns-in_default c =
    sym (changed_none (xid_in c.args.item.now) (turned c.args.item.now) c.args.sessions.now
    (no_place (has_xid (xid_in c.args.item.now)) c.args.sessions.now
    (ap (λ (n : ℕ). position (has_xid n) c.args.sessions.now) (sym c.xid_of.ensures) ∙ sym c.place.ensures ∙ c.in_default.is)))
