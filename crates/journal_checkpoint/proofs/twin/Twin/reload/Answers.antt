use Rattle.std.proofs.Common.{◌≡◌, ℕ, Bool, Option, List, Some, sym, ◌∙◌, ap, subst, rules}
use Rattle.disk_model.specs.Disk.{present, IsSettled}
use Rattle.disk_journal.specs.Keeping.{OnlyReads}
use Rattle.disk_journal.proofs.Readings.{still_present, reads_then}
use Rattle.journal_checkpoint.specs.Pairs.{begins_at, chosen}
use Rattle.journal_checkpoint.specs.Keeping.{active_disk, other_disk, first_disk, second_disk}
use Rattle.journal_checkpoint.proofs.Loads.{tells_found, tells_damage, head_damage, found_here, damage_here, active_here, other_here, own_present, from_active, from_other, settled_other, settled_after, present_same, first_reads, second_reads}
use Rattle.journal_checkpoint.proofs.Kept.{stands_at}
use Rattle.journal_checkpoint.proofs.twin.Twin.reload.Goals as goal

abbrev some : List ℕ → Option (List ℕ)
some l = Some l

pub returns-in-Err-clause-reads : goal.returns-in-Err-clause-reads
returns-in-Err-clause-reads g c = record {
  tells = tells_damage c.in-Err.error (λ a b is too.
      head_damage a b c.in-Err.error (c.in-Err.ensures.found.damaged a b (ap (λ (d : g.row.D.Denot). present (g.D.Disk.state d)) c.fall.ensures.first ∙ is) (ap (λ (d : g.row.D.Denot). present (g.D.Disk.state d)) c.fall.ensures.second ∙ too)));
  first_reads = subst (λ (d : g.row.D.Denot). OnlyReads (g.D.Disk.state d) (g.D.Disk.state (first_disk c.read_heads.new.self))) c.fall.ensures.first c.read_heads.ensures.found.first_reads;
  second_reads = subst (λ (d : g.row.D.Denot). OnlyReads (g.D.Disk.state d) (g.D.Disk.state (second_disk c.read_heads.new.self))) c.fall.ensures.second c.read_heads.ensures.found.second_reads;
  failed = search rules;
}

pub returns-in-Ok-load-clause-reads : goal.returns-in-Ok-load-clause-reads
returns-in-Ok-load-clause-reads g c = record {
  tells = tells_found c.in-Ok-load.found (λ a b is too.
      let p = λ (d : g.row.D.Denot). present (g.D.Disk.state d) in
      let one = ap p c.fall.ensures.first ∙ is in
      let two = ap p c.fall.ensures.second ∙ too in
      let t = c.turn_to.new.self in
      let first : p (chosen t.second (active_disk t) (other_disk t)) ≡ Some a = ap p c.turn_to.ensures.first ∙ still_present a c.read_heads.ensures.found.first_reads one in
      let second : p (chosen t.second (other_disk t) (active_disk t)) ≡ Some b = ap p c.turn_to.ensures.second ∙ still_present b c.read_heads.ensures.found.second_reads two in
      let here : p (active_disk t) ≡ Some (chosen c.in-Ok.active.second a b) = own_present g.D.Disk.state t.second (active_disk t) (other_disk t) a b first second ∙ ap (λ (s : Bool). some (chosen s a b)) c.turn_to.ensures.side in
      found_here a b c.in-Ok.active (c.in-Ok.ensures.found.active a b one two) c.in-Ok-load.found c.in-Ok-load.ensures.head (c.in-Ok-load.ensures.snapshot _ here) (c.in-Ok-load.ensures.records _ here));
  first_reads =
      let t = c.turn_to.new.self in
      let u = c.load.new.self in
      reads_then (subst (λ (d : g.row.D.Denot). OnlyReads (g.D.Disk.state d) (g.D.Disk.state (first_disk c.read_heads.new.self))) c.fall.ensures.first c.read_heads.ensures.found.first_reads)
      (subst (λ (d : g.row.D.Denot). OnlyReads (g.D.Disk.state d) (g.D.Disk.state (first_disk u))) c.turn_to.ensures.first
      (first_reads g.D.Disk.state (active_disk t) (other_disk t) (active_disk u) (other_disk u) c.load.ensures.other c.load.ensures.only_reads t.second u.second c.load.ensures.side));
  second_reads =
      let t = c.turn_to.new.self in
      let u = c.load.new.self in
      reads_then (subst (λ (d : g.row.D.Denot). OnlyReads (g.D.Disk.state d) (g.D.Disk.state (second_disk c.read_heads.new.self))) c.fall.ensures.second c.read_heads.ensures.found.second_reads)
      (subst (λ (d : g.row.D.Denot). OnlyReads (g.D.Disk.state d) (g.D.Disk.state (second_disk u))) c.turn_to.ensures.second
      (second_reads g.D.Disk.state (active_disk t) (other_disk t) (active_disk u) (other_disk u) c.load.ensures.other c.load.ensures.only_reads t.second u.second c.load.ensures.side));
  failed = search rules;
}

pub returns-in-Err-load-clause-reads : goal.returns-in-Err-load-clause-reads
returns-in-Err-load-clause-reads g c = record {
  tells = tells_damage c.in-Err-load.error (λ a b is too.
      let p = λ (d : g.row.D.Denot). present (g.D.Disk.state d) in
      let one = ap p c.fall.ensures.first ∙ is in
      let two = ap p c.fall.ensures.second ∙ too in
      let t = c.turn_to.new.self in
      let first : p (chosen t.second (active_disk t) (other_disk t)) ≡ Some a = ap p c.turn_to.ensures.first ∙ still_present a c.read_heads.ensures.found.first_reads one in
      let second : p (chosen t.second (other_disk t) (active_disk t)) ≡ Some b = ap p c.turn_to.ensures.second ∙ still_present b c.read_heads.ensures.found.second_reads two in
      let here : p (active_disk t) ≡ Some (chosen c.in-Ok.active.second a b) = own_present g.D.Disk.state t.second (active_disk t) (other_disk t) a b first second ∙ ap (λ (s : Bool). some (chosen s a b)) c.turn_to.ensures.side in
      damage_here a b c.in-Ok.active (c.in-Ok.ensures.found.active a b one two) c.in-Err-load.error (c.in-Err-load.ensures.damaged _ here));
  first_reads =
      let t = c.turn_to.new.self in
      let u = c.load.new.self in
      reads_then (subst (λ (d : g.row.D.Denot). OnlyReads (g.D.Disk.state d) (g.D.Disk.state (first_disk c.read_heads.new.self))) c.fall.ensures.first c.read_heads.ensures.found.first_reads)
      (subst (λ (d : g.row.D.Denot). OnlyReads (g.D.Disk.state d) (g.D.Disk.state (first_disk u))) c.turn_to.ensures.first
      (first_reads g.D.Disk.state (active_disk t) (other_disk t) (active_disk u) (other_disk u) c.load.ensures.other c.load.ensures.only_reads t.second u.second c.load.ensures.side));
  second_reads =
      let t = c.turn_to.new.self in
      let u = c.load.new.self in
      reads_then (subst (λ (d : g.row.D.Denot). OnlyReads (g.D.Disk.state d) (g.D.Disk.state (second_disk c.read_heads.new.self))) c.fall.ensures.second c.read_heads.ensures.found.second_reads)
      (subst (λ (d : g.row.D.Denot). OnlyReads (g.D.Disk.state d) (g.D.Disk.state (second_disk u))) c.turn_to.ensures.second
      (second_reads g.D.Disk.state (active_disk t) (other_disk t) (active_disk u) (other_disk u) c.load.ensures.other c.load.ensures.only_reads t.second u.second c.load.ensures.side));
  failed = search rules;
}

pub returns-in-Ok-load-clause-keeps : goal.returns-in-Ok-load-clause-keeps
returns-in-Ok-load-clause-keeps g c = λ alike.
    let p = λ (d : g.row.D.Denot). present (g.D.Disk.state d) in
    let act = c.in-Ok.active in
    let t = c.turn_to.new.self in
    let first : p (chosen t.second (active_disk t) (other_disk t)) ≡ p (first_disk c.args.self.now) = ap p c.turn_to.ensures.first ∙ present_same c.read_heads.ensures.found.first_reads ∙ ap p c.fall.ensures.first in
    let second : p (chosen t.second (other_disk t) (active_disk t)) ≡ p (second_disk c.args.self.now) = ap p c.turn_to.ensures.second ∙ present_same c.read_heads.ensures.found.second_reads ∙ ap p c.fall.ensures.second in
    let one : IsSettled (g.D.Disk.state (chosen t.second (active_disk t) (other_disk t))) = subst (λ (d : g.row.D.Denot). IsSettled (g.D.Disk.state d)) (sym c.turn_to.ensures.first) (settled_after c.read_heads.ensures.found.first_reads (subst (λ (d : g.row.D.Denot). IsSettled (g.D.Disk.state d)) (sym c.fall.ensures.first) c.requires.first)) in
    let two : IsSettled (g.D.Disk.state (chosen t.second (other_disk t) (active_disk t))) = subst (λ (d : g.row.D.Denot). IsSettled (g.D.Disk.state d)) (sym c.turn_to.ensures.second) (settled_after c.read_heads.ensures.found.second_reads (subst (λ (d : g.row.D.Denot). IsSettled (g.D.Disk.state d)) (sym c.fall.ensures.second) c.requires.second)) in
    let other_settled = settled_other g.D.Disk.state t.second (active_disk t) (other_disk t) one two in
    let own_settled = settled_other g.D.Disk.state t.second (other_disk t) (active_disk t) two one in
    record {
      journal = c.in-Ok-load.ensures.keeps;
      settled = subst (λ (d : g.row.D.Denot). IsSettled (g.D.Disk.state d)) (sym c.load.ensures.other) other_settled;
      active = λ k left.
          let was = c.load.ensures.only_reads.images.now k left in
          let w = from_active g.D.Disk.state (g.D.Disk.state (first_disk c.args.self.now)) (g.D.Disk.state (second_disk c.args.self.now)) alike t.second (active_disk t) (other_disk t) first second own_settled k was in
          let is : k ≡ chosen act.second w.0 w.1 = w.4 ∙ ap (λ (s : Bool). chosen s w.0 w.1) c.turn_to.ensures.side in
          let here : p (active_disk t) ≡ Some (chosen act.second w.0 w.1) = own_settled k was ∙ ap some is in
          rw (c.in-Ok-load.ensures.begins, c.in-Ok-load.ensures.generation, is) (active_here w.0 w.1 act (c.in-Ok.ensures.found.active w.0 w.1 (ap p c.fall.ensures.first ∙ w.2) (ap p c.fall.ensures.second ∙ w.3)) c.in-Ok-load.found.snapshot (c.in-Ok-load.ensures.snapshot _ here));
      passive = λ k left.
          let was = subst (λ (d : g.row.D.Denot). (g.D.Disk.state d).may_leave k) c.load.ensures.other left in
          let w = from_other g.D.Disk.state (g.D.Disk.state (first_disk c.args.self.now)) (g.D.Disk.state (second_disk c.args.self.now)) alike t.second (active_disk t) (other_disk t) first second other_settled k was in
          let is : k ≡ chosen act.second w.1 w.0 = w.4 ∙ ap (λ (s : Bool). chosen s w.1 w.0) c.turn_to.ensures.side in
          rw (c.in-Ok-load.ensures.generation, c.in-Ok-load.ensures.other_open, is) (other_here w.0 w.1 act (c.in-Ok.ensures.found.active w.0 w.1 (ap p c.fall.ensures.first ∙ w.2) (ap p c.fall.ensures.second ∙ w.3)));
      side = rw (c.in-Ok-load.ensures.generation, c.load.ensures.side, c.turn_to.ensures.side) c.in-Ok.ensures.found.on_side;
      extent =
          let u = c.load.new.self in
          let head = c.in-Ok-load.ensures.head in
          stands_at g.D.Disk.state c.in-Ok-load.found u.second u.generation u.journal (c.load.ensures.side ∙ c.turn_to.ensures.side ∙ sym head.second) (c.in-Ok-load.ensures.generation ∙ sym head.generation)
          (c.in-Ok-load.ensures.begins ∙ ap begins_at (sym head.snapshot)) c.in-Ok-load.ensures.keeps;
    }
