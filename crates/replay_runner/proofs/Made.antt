-- One entry of a node of a replay.
use Rattle.std.proofs.Common.{inl, inr, ◌≡◌, ◌-◌, ℕ, List, [], ◌∷◌, ◌++◌, length, slice_get, Option, Some, None, option_map, Ok, Err, refl, ap, ◌∙◌, arith, length-append}
use Rattle.std.specs.Option.{option_and_then}
use Rattle.seata_types.specs.declared.ids.Place.{Place}
use Rattle.seata_types.specs.declared.messages.Outgoing.{Outgoing}
use Rattle.frame_codec.specs.Packets.{Sent}
use Rattle.history_rules.specs.Own.{Event}
use Rattle.node_steps.specs.Nodes.{NodeState}
use Rattle.history_text.specs.declared.entries.Cause.{Cause}
use Rattle.history_text.specs.declared.entries.Entry.{Entry}
use Rattle.history_text.specs.Notes.{sent_of}
use Rattle.node_seat.specs.Entering.{IsEntered, packet_at}
use Rattle.node_seat.specs.Seating.{traced_of}
use Rattle.node_seat.specs.declared.faults.RunFault.{RunFault}
use Rattle.replay_runner.specs.declared.members.Member.{Member}
use Rattle.replay_runner.specs.declared.messages.Letter.{Letter}
use Rattle.replay_runner.specs.Letters.{entry_receiver, letter_from, letter_with, place_sent, receiver_in}
use Rattle.replay_runner.specs.Members.{IsMade, turned_by}
use Rattle.replay_runner.proofs.Lists.{snoc_end}

-- the receiver of the message that the newest entry sent
receiver_snoc : (es : List Entry) (e : Entry) → receiver_in (es ++ e ∷ []) ≡ entry_receiver e
receiver_snoc es e =
    ap (option_and_then entry_receiver)
    (ap (slice_get (es ++ e ∷ [])) (let end : length (es ++ e ∷ []) - 1 ≡ length es = let size = length-append es (e ∷ []) in omega (arith, size) in end) ∙ snoc_end es e)

letter_is : (from : Place) (stamp : ℕ) (sent : Option Outgoing)
    → letter_with from (option_map place_sent (option_map sent_of sent)) (option_map (packet_at stamp) sent) ≡ option_map (letter_from from stamp) sent
letter_is from stamp None = refl
letter_is from stamp (Some out) = refl

-- where a node stands
abbrev pub place_by : {N : Type 0} → (N → NodeState) → N → Place
place_by state node = (state node).place

module _ {N K : Type 0} (state : N → NodeState) (old new : Member N K) (stamp now : ℕ) (why : Cause) (event : Event) where
  pub made_err : (missed : RunFault) → IsEntered state (traced_of old.seat) (traced_of new.seat) stamp now why event (Err missed) → IsMade state old new stamp now why event (Err missed)
  made_err missed (inl e) = inl e
  made_err missed (inr (is, step, e)) = inr (is, step, record { does = e.does; printed = e.printed; turned = tt; sent = tt })

  pub made_ok : (packet : Option Sent) (letter : Option Letter) → IsEntered state (traced_of old.seat) (traced_of new.seat) stamp now why event (Ok packet) → new.turned ≡ turned_by why stamp old.turned
      → place_by state new.seat.node ≡ place_by state old.seat.node → letter ≡ letter_with (place_by state new.seat.node) (receiver_in new.seat.trace) packet → IsMade state old new stamp now why event (Ok letter)
  made_ok packet letter (step, e) turned same is =
      let at = place_by state old.seat.node in (
        step,
        record {
          does = e.does;
          printed = e.printed;
          turned = turned;
          sent = is ∙ ap (λ p. letter_with p (receiver_in new.seat.trace) packet) same ∙ ap (λ t. letter_with at (receiver_in t) packet) e.printed
              ∙ ap (λ r. letter_with at r packet) (receiver_snoc old.seat.trace _) ∙ ap (letter_with at (option_map place_sent (option_map sent_of step.sent))) e.packed ∙ letter_is at stamp step.sent;
        },
      )
