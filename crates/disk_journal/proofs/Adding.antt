-- The images of a disk, from one call of an append to the next.
use Rattle.std.proofs.Common.{◌≡◌, ℕ, ◌+◌, ◌≤◌, List, [], ◌∷◌, ◌++◌, length, take, drop, refl, sym, ◌∙◌, ap, subst, inl, arith, length-drop, append_assoc}
use Rattle.std.proofs.lemmas.List.{drop-take, drop-drop, drop-append-le, take-take, length-take-le}
use Rattle.disk_model.specs.Disk.{DiskState, IsLawful, IsSettled, Leaves, Pending, SameOutside, put}
use Rattle.disk_model.proofs.Calls.{leaves_same, leaves_weaker, leaves_then, leaves_always}
use Rattle.disk_journal.specs.Reading.{row_length}
use Rattle.disk_journal.specs.Keeping.{StandsFor, IsBeforeOrAfter, SameFront, Holds, AddsAtMost, WrittenThrough, Stages}
use Rattle.disk_journal.proofs.Rows.{row_of, row_reads}
use Rattle.disk_journal.proofs.Crash.{IsStaged, row_before, staged_put, torn_gate, opened_gate}

-- what holds at the exits of a call holds at each moment of it
adds_at_most : (from : ℕ) (bodies : List (List ℕ)) (body : List ℕ) (old new : DiskState) → IsLawful old → Holds old from bodies → Leaves old new (IsBeforeOrAfter from bodies body) → AddsAtMost from bodies body old new
adds_at_most from bodies body old new lawful holds leaves = record {
  leaves = leaves;
  moments = leaves_always lawful leaves (λ c left. inl (holds.images c left));
}

-- Bytes from an offset on.

-- what differs behind the offset differs so among the bytes from there on
pub same_behind : (from n k : ℕ) (old new : List ℕ) → SameOutside (from + n) k old new → SameOutside n k (drop from old) (drop from new)
same_behind from n k old new same = record {
  size = omega (arith, length-drop from old, length-drop from new, same.size);
  before = sym (drop-take from n new) ∙ ap (drop from) same.before ∙ drop-take from n old;
  after = drop-drop (n + k) from new ∙ ap (λ (i : ℕ). drop i new) (omega arith) ∙ same.after ∙ ap (λ (i : ℕ). drop i old) (omega arith) ∙ sym (drop-drop (n + k) from old);
}

pub drop_put : (from n : ℕ) (bytes old : List ℕ) → from + n ≤ length old → drop from (put (from + n) bytes old) ≡ put n bytes (drop from old)
drop_put from n bytes old fits =
    let front : drop from (take (from + n) old) ≡ take n (drop from old) = drop-take from n old in
    let long : from ≤ length (take (from + n) old) = omega (arith, length-take-le (from + n) old fits) in
    let tail : drop (from + n + length bytes) old ≡ drop (n + length bytes) (drop from old) = ap (λ (i : ℕ). drop i old) (omega arith) ∙ sym (drop-drop (n + length bytes) from old) in
    ap (drop from) (append_assoc (take (from + n) old) bytes (drop (from + n + length bytes) old)) ∙ drop-append-le from (take (from + n) old) (bytes ++ drop (from + n + length bytes) old) long
    ∙ ap (λ (l : List ℕ). l ++ (bytes ++ drop (from + n + length bytes) old)) front ∙ ap (λ (l : List ℕ). take n (drop from old) ++ (bytes ++ l)) tail
    ∙ sym (append_assoc (take n (drop from old)) bytes (drop (n + length bytes) (drop from old)))

-- What stands before a gate.

shorter : (n m : ℕ) (old new : List ℕ) → n ≤ m → take m new ≡ take m old → take n new ≡ take n old
shorter n m old new le same = sym (take-take n m new le) ∙ ap (take n) same ∙ take-take n m old le

pub front_less : {P : List ℕ → Type 0} (n m : ℕ) (c : List ℕ) → n ≤ m → SameFront m P c → SameFront n P c
front_less n m c le (d, left, same, size) = (d, left, shorter n m d c le same, size)

pub front_stays : {disk : DiskState} (n : ℕ) → Leaves disk disk (SameFront n disk.may_leave)
front_stays n = leaves_same (λ c left. (c, left, refl, refl))

pub front_staged : (gate n : ℕ) (old new : DiskState) → Leaves old new (Pending (gate + 1) n old.may_leave) → Leaves old new (SameFront gate old.may_leave)
front_staged gate n old new leaves = leaves_weaker leaves (λ c (d, left, same). (d, left, shorter gate (gate + 1) d c (omega arith) same.before, same.size))

pub front_both : (gate n : ℕ) (old middle new : DiskState) → Leaves old middle (Pending (gate + 1) n old.may_leave) → Leaves middle new (Pending gate 1 middle.may_leave) → Leaves old new (SameFront gate old.may_leave)
front_both gate n old middle new first second =
    let staged = front_staged gate n old middle first in
    leaves_then staged (leaves_weaker second (λ c (d, left, same). let f = staged.now d left in (f.0, f.1, same.before ∙ f.2, same.size ∙ f.3)))

module _ (gate : ℕ) (bytes : List ℕ) (from : ℕ) (bodies : List (List ℕ)) (body : List ℕ) (stages : Stages gate bytes from bodies body) (old : DiskState) (lawful : IsLawful old) (holds : Holds old from bodies) where
  -- the first write leaves the records as they were
  pub stage_leaves : (new : DiskState) → Leaves old new (Pending (gate + 1) (length bytes) old.may_leave) → Leaves old new (StandsFor from bodies)
  stage_leaves new leaves = leaves_weaker leaves (λ c (d, left, same).
      let P = λ (n : ℕ). SameOutside n (length bytes) d c in
      let behind = same_behind from (row_length bodies + 1) (length bytes) d c (subst P (omega (arith, stages.gate_is)) same) in
      row_reads from bodies (drop from c) (row_before bodies (drop from d) (drop from c) behind.size behind.before (row_of from (drop from d) bodies (holds.images d left))))

  pub stage_adds : (new : DiskState) → Leaves old new (Pending (gate + 1) (length bytes) old.may_leave) → AddsAtMost from bodies body old new
  stage_adds new leaves = adds_at_most from bodies body old new lawful holds (leaves_weaker (stage_leaves new leaves) (λ c is. inl is))

  module _ (middle new : DiskState) (fits : gate + 1 + length bytes ≤ old.size) (written : WrittenThrough (gate + 1) bytes old middle) where
    -- after it the new record stands behind the closed gate in every image
    is_staged : (c : List ℕ) → middle.may_leave c → IsStaged bodies body (drop from c)
    is_staged c left =
        let p = written c left in
        let size = lawful.full_size p.0 p.1 in
        let n = row_length bodies in
        let front : gate + 1 ≡ from + (n + 1) = omega (arith, stages.gate_is) in
        let here : drop from c ≡ put (n + 1) bytes (drop from p.0) = ap (drop from) p.2 ∙ ap (λ (i : ℕ). drop from (put i bytes p.0)) front ∙ drop_put from (n + 1) bytes p.0 (omega arith) in
        rw (here, stages.bytes_are) (staged_put bodies body (drop from p.0) (rw (← stages.bytes_are) (omega (arith, stages.gate_is, length-drop from p.0))) (row_of from (drop from p.0) bodies (holds.images p.0 p.1)))

    -- the second write leaves them, or these and the new one
    gate_leaves : Leaves middle new (Pending gate 1 middle.may_leave) → Leaves middle new (IsBeforeOrAfter from bodies body)
    gate_leaves leaves = leaves_weaker leaves (λ c (d, left, same).
        let P = λ (n : ℕ). SameOutside n 1 d c in
        torn_gate from bodies body stages.small (drop from d) (drop from c) (is_staged d left) (same_behind from (row_length bodies) 1 d c (subst P stages.gate_is same)))

    pub both_add : Leaves old middle (Pending (gate + 1) (length bytes) old.may_leave) → Leaves middle new (Pending gate 1 middle.may_leave) → AddsAtMost from bodies body old new
    both_add first second = adds_at_most from bodies body old new lawful holds (leaves_then (leaves_weaker (stage_leaves middle first) (λ c is. inl is)) (gate_leaves second))

    -- and then the new one stands in every image
    pub both_added : IsSettled new → WrittenThrough gate (1 ∷ []) middle new → Holds new from (bodies ++ body ∷ [])
    both_added settled opened = record {
      settled = settled;
      images = λ c left.
          let p = opened c left in
          let staged_here = is_staged p.0 p.1 in
          let n = row_length bodies in
          let here : drop from c ≡ put n (1 ∷ []) (drop from p.0) = ap (drop from) p.2 ∙ ap (λ (i : ℕ). drop from (put i (1 ∷ []) p.0)) stages.gate_is ∙ drop_put from n (1 ∷ []) p.0 (omega (arith, staged_here.whole, length-drop from p.0)) in
          rw here (opened_gate from bodies body stages.small (drop from p.0) staged_here);
    }
