-- A packet as the message and the stamp that it carries.
use Rattle.std.specs.Prelude.{◌≡◌, ℕ, List, refl}
use Rattle.std.specs.Coded.{Coded, code_by, coded×, coded_ℕ}
use Rattle.seata_types.specs.contracts.messages.Message as packed
use Rattle.seata_types.specs.declared.messages.Message.{Message}
use Rattle.frame_codec.specs.Frames.{frame_bytes}
use Rattle.frame_codec.specs.Limits.{IsFramable}

-- a message with the stamp of the entry that sent it
pub record Sent : Type 0 where
  pub message : Message
  pub stamp : ℕ

-- a packet's value is stored as the pair of its fields
abbrev pub sent_code : Coded Sent
sent_code =
    code_by (Message × ℕ) (coded× packed.the_row.coded coded_ℕ) (λ s. (s.message, s.stamp))
    (λ p. record { message = p.0; stamp = p.1 }) (λ _. refl)

-- bytes that are the one frame of a message that may be sent
pub record IsPacket (m : Message) (stamp : ℕ) (bytes : List ℕ) : Type 0 where
  pub framable : IsFramable m
  pub frame : bytes ≡ frame_bytes m stamp
