-- Numbers and identities: one piece each, which reads back.
use Rattle.std.proofs.Common.{◌≡◌, ℕ, ◌-◌, ◌^◌, ◌<◌, min, List, [], ◌∷◌, ◌++◌, drop, refl, ap, sym, ◌∙◌, append-nil, arith}
use Rattle.std.specs.Prelude.{codes}
use Rattle.std.specs.Fmt.{decimal}
use Rattle.seata_types.specs.declared.ids.BranchId.{BranchId}
use Rattle.seata_types.specs.declared.ids.Ticket.{Ticket}
use Rattle.seata_types.specs.declared.ids.Xid.{Xid}
use Rattle.history_text.specs.Lines.{xid_text, branch_text, leg_text, call_text, ticket_text}
use Rattle.entry_reader.specs.Parts.{number, number_on, number_16, number_32, behind_number, xid_of, branch_of, ticket_of}
use Rattle.entry_reader.specs.Types.{Is16, Is32, IsXid, IsBranch, IsTicket}
use Rattle.entry_reader.proofs.Numbers.{number_on-decimal, behind_number-decimal}
use Rattle.entry_reader.proofs.Spells.{Spells, IsPiece, one, beside, word, joined, decimal_piece}

pub number-decimal-dot : (n : ℕ) (rest : List ℕ) → n < 2 ^ 64 → number (decimal n ++ (46 ∷ rest)) ≡ n
unfolding number
number-decimal-dot n rest small = ap (λ k. min k (2 ^ 64 - 1)) (number_on-decimal n (46 ∷ rest) small) ∙ omega arith

pub number-decimal : (n : ℕ) → n < 2 ^ 64 → number (decimal n) ≡ n
unfolding number
number-decimal n small =
    ap (λ t. min (number_on 0 t) (2 ^ 64 - 1)) (sym (append-nil (decimal n))) ∙ ap (λ k. min k (2 ^ 64 - 1)) (number_on-decimal n [] small) ∙ omega arith

wide_16 : (n : ℕ) → Is16 n → n < 2 ^ 64
wide_16 n small = omega arith

wide_32 : (n : ℕ) → Is32 n → n < 2 ^ 64
wide_32 n small = omega arith

pub number_16-decimal : (n : ℕ) → Is16 n → number_16 (decimal n) ≡ n
number_16-decimal n small = ap (λ k. min k (2 ^ 16 - 1)) (number-decimal n (wide_16 n small)) ∙ omega arith

pub number_32-decimal : (n : ℕ) → Is32 n → number_32 (decimal n) ≡ n
number_32-decimal n small = ap (λ k. min k (2 ^ 32 - 1)) (number-decimal n (wide_32 n small)) ∙ omega arith

pub piece_16 : (n : ℕ) → Is16 n → IsPiece (decimal n)
piece_16 n small = decimal_piece n (wide_16 n small)

pub piece_32 : (n : ℕ) → Is32 n → IsPiece (decimal n)
piece_32 n small = decimal_piece n (wide_32 n small)

-- ---- transactions, branches and calls

pub xid_piece : (xid : Xid) → IsXid xid → IsPiece (xid_text xid)
xid_piece xid h = joined (word (codes "tc:") refl refl) (decimal_piece xid.0 h)

pub xid-back : (xid : Xid) → IsXid xid → xid_of (xid_text xid) ≡ xid
xid-back xid h = ap (λ n. record { 0 = n }) (number-decimal xid.0 h)

pub branch_piece : (branch : BranchId) → IsBranch branch → IsPiece (branch_text branch)
branch_piece branch h = joined (word (codes "b") refl refl) (decimal_piece branch.0 h)

pub branch-back : (branch : BranchId) → IsBranch branch → branch_of (branch_text branch) ≡ branch
branch-back branch h = ap (λ n. record { 0 = n }) (number-decimal branch.0 h)

pub call_piece : (call : ℕ) → Is16 call → IsPiece (codes "c" ++ decimal call)
call_piece call h = joined (word (codes "c") refl refl) (piece_16 call h)

pub leg_spells : (xid : Xid) (branch : BranchId) → IsXid xid → IsBranch branch → Spells (leg_text xid branch) (xid_text xid ∷ branch_text branch ∷ [])
leg_spells xid branch h k = beside (one (xid_piece xid h)) (one (branch_piece branch k))

pub call_spells : (xid : Xid) (call : ℕ) → IsXid xid → Is16 call → Spells (call_text xid call) (xid_text xid ∷ (codes "c" ++ decimal call) ∷ [])
call_spells xid call h k = beside (one (xid_piece xid h)) (one (call_piece call k))

-- ---- tickets

pub ticket_piece : (ticket : Ticket) → IsTicket ticket → IsPiece (ticket_text ticket)
ticket_piece ticket h =
    joined (word (codes "t") refl refl) (joined (piece_32 ticket.boot h.0) (joined (word (codes ".") refl refl) (piece_32 ticket.seq h.1)))

boot-back : (b s : ℕ) → Is32 b → number_32 (decimal b ++ (46 ∷ decimal s)) ≡ b
boot-back b s h = ap (λ k. min k (2 ^ 32 - 1)) (number-decimal-dot b (decimal s) (wide_32 b h)) ∙ omega arith

seq-back : (b s : ℕ) → Is32 b → Is32 s → number_32 (drop 1 (behind_number (decimal b ++ (46 ∷ decimal s)))) ≡ s
seq-back b s h k = ap (λ t. number_32 (drop 1 t)) (behind_number-decimal b (46 ∷ decimal s) (wide_32 b h)) ∙ number_32-decimal s k

pub ticket-back : (ticket : Ticket) → IsTicket ticket → ticket_of (ticket_text ticket) ≡ ticket
ticket-back ticket h =
    ap (λ b. record { boot = b; seq = number_32 (drop 1 (behind_number (decimal ticket.boot ++ (46 ∷ decimal ticket.seq)))) }) (boot-back ticket.boot ticket.seq h.0)
    ∙ ap (λ s. record { boot = ticket.boot; seq = s }) (seq-back ticket.boot ticket.seq h.0 h.1)
