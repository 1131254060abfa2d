-- What is kept of the open tickets of a resource.
use Rattle.std.specs.Prelude.{◌≡◌, ◌≤◌, List, length, Option, option_map}
use Rattle.std.specs.BTreeMap.{insert_entry, is_at}
use Rattle.std.specs.List.{AllByRecursion}
use Rattle.std.specs.Map.{lookup, remove_entry}
use Rattle.std.specs.Ordering.{nat_cmp, ordering_then}
use Rattle.std.specs.declared.cmp.Ordering.{Ordering}
use Rattle.seata_types.specs.declared.limits.TheConstants.{FIELD_ITEMS}
use Rattle.seata_types.specs.declared.ids.Ticket.{Ticket}
use Rattle.history_rules.specs.ResourceMemory.{Open, open_at, call_of, tries_of}
use Rattle.report_text.specs.declared.kept.OpenWork.{OpenWork}

-- tickets stand by boot, then by the count since
abbrev pub ticket_cmp : Ticket → Ticket → Ordering
ticket_cmp a b = ordering_then (nat_cmp a.boot b.boot) (nat_cmp a.seq b.seq)

-- tickets with what is kept of them, in this order
abbrev pub Works : Type 0
Works = List (Ticket × OpenWork)

abbrev pub work_at : Works → Ticket → Option OpenWork
work_at works t = lookup (is_at (ticket_cmp t)) works

abbrev pub with_work : Works → Ticket → OpenWork → Works
with_work works t w = insert_entry ticket_cmp works t w

abbrev pub without_work : Works → Ticket → Works
without_work works t = remove_entry (is_at (ticket_cmp t)) works

-- a Try has no more statements than an effect is taken of
abbrev pub HasFew : OpenWork → Type 0
HasFew w = length w.tries ≤ FIELD_ITEMS

abbrev pub HaveFew : Works → Type 0
HaveFew works = AllByRecursion (λ e. HasFew e.1) works

-- what is kept of an open ticket: its call, the statements of its Try, and its effect
abbrev pub work_of : Open → OpenWork
work_of o = record { call = call_of o.owner; tries = tries_of o.owner; images = o.images; reads = o.reads }

-- these are the open tickets of a resource's rules
abbrev pub AreOpen : Works → List Open → Type 0
AreOpen works opens = (t : Ticket) → work_at works t ≡ option_map work_of (open_at opens t)
