-- What contracts see of a seat.
use Rattle.std.specs.Prelude.{ℕ, Bool, List, [], Option, None, refl}
use Rattle.std.specs.Coded.{Coded, code_by, coded×, coded_ℕ, coded_bool, coded_list, coded_option}
use Rattle.history_text.specs.contracts.entries.Entry as entry_row
use Rattle.history_text.specs.declared.entries.Entry.{Entry}
use Rattle.link_queue.specs.Links.{Sending, Taking, sending_code, taking_code}
use Rattle.node_seat.specs.contracts.faults.RunFault as fault_row
use Rattle.node_seat.specs.contracts.plans.Plan as plan_row
use Rattle.node_seat.specs.declared.faults.RunFault.{RunFault}
use Rattle.node_seat.specs.declared.plans.Plan.{Plan}
use Rattle.node_seat.specs.declared.stations.Station.{Station}

-- a node, and the entries that it made, the oldest first
pub record Traced (N : Type 0) : Type 0 where
  pub node : N
  pub trace : List Entry

abbrev pub traced : {N : Type 0} → N → List Entry → Traced N
traced node trace = record { node = node; trace = trace }

-- A seat: its node with its trace; whether it makes turns of a run, and its plan; how often it was restarted and had a turn, and its last
-- stamp; the ends of its links, and the one that is asked first; and the fault that one of its calls answered.
pub record Seated (N : Type 0) : Type 0 where
  pub node : N
  pub trace : List Entry
  pub runs : Bool
  pub plan : Plan
  pub restarts : ℕ
  pub turns : ℕ
  pub stamp : ℕ
  pub takers : List Taking
  pub senders : List Sending
  pub next : ℕ
  pub fault : Option RunFault

abbrev pub traced_of : {N : Type 0} → Seated N → Traced N
traced_of s = traced s.node s.trace

-- a seat as contracts see it
abbrev pub seated_of : {N : Type 0} → Station N → Seated N
seated_of s = record {
  node = s.node;
  trace = s.trace.items;
  runs = s.runs;
  plan = s.plan;
  restarts = s.restarts;
  turns = s.turns;
  stamp = s.stamp;
  takers = s.takers.items;
  senders = s.senders.items;
  next = s.next;
  fault = s.fault;
}

-- one that did nothing yet
abbrev pub new_seat : {N : Type 0} → Bool → N → Plan → List Taking → List Sending → Seated N
new_seat runs node plan takers senders = record {
  node = node;
  trace = [];
  runs = runs;
  plan = plan;
  restarts = 0;
  turns = 0;
  stamp = 0;
  takers = takers;
  senders = senders;
  next = 0;
  fault = None;
}

-- ---- how it is stored

-- what a seat has beside its node and trace
abbrev pub Rest : Type 0
Rest = Bool × (Plan × (ℕ × (ℕ × (ℕ × (List Taking × (List Sending × (ℕ × Option RunFault)))))))

abbrev pub rest_code : Coded Rest
rest_code =
    coded× coded_bool (coded× plan_row.the_row.coded (coded× coded_ℕ (coded× coded_ℕ (coded× coded_ℕ (coded× (coded_list taking_code) (coded× (coded_list sending_code)
    (coded× coded_ℕ (coded_option fault_row.the_row.coded))))))))

abbrev pub with_rest : {N : Type 0} → N → List Entry → Rest → Seated N
with_rest node trace r = record {
  node = node;
  trace = trace;
  runs = r.0;
  plan = r.1.0;
  restarts = r.1.1.0;
  turns = r.1.1.1.0;
  stamp = r.1.1.1.1.0;
  takers = r.1.1.1.1.1.0;
  senders = r.1.1.1.1.1.1.0;
  next = r.1.1.1.1.1.1.1.0;
  fault = r.1.1.1.1.1.1.1.1;
}

abbrev pub rest_of : {N : Type 0} → Seated N → Rest
rest_of s = (s.runs, (s.plan, (s.restarts, (s.turns, (s.stamp, (s.takers, (s.senders, (s.next, s.fault))))))))

abbrev pub seated_code : {N : Type 0} → Coded N → Coded (Seated N)
seated_code {N} node_code =
    code_by (N × (List Entry × Rest)) (coded× node_code (coded× (coded_list entry_row.the_row.coded) rest_code)) (λ s. (s.node, (s.trace, rest_of s)))
    (λ p. with_rest p.0 p.1.0 p.1.1) (λ _. refl)
