-- Writes one behind the other.
use Rattle.std.proofs.Common.{◌≡◌, ℕ, ◌+◌, ◌-◌, ◌≤◌, Option, Some, None, List, ◌++◌, length, take, drop, refl, sym, ◌∙◌, ap, arith, append_assoc, length-append}
use Rattle.std.specs.Prelude.{option_map}
use Rattle.std.proofs.lemmas.Option.{same_Some, none-some}
use Rattle.std.proofs.lemmas.List.{drop-drop, take-take, take_at, drop_at, length-take-le}
use Rattle.disk_model.specs.Disk.{DiskState, Content, IsLawful, IsWritten, IsSynced, Leaves, Pending, SameOutside, put, present}
use Rattle.disk_model.proofs.Calls.{leaves_weaker, leaves_then}

pub put_put : (at : ℕ) (x y p : List ℕ) → at ≤ length p → put (at + length x) y (put at x p) ≡ put at (x ++ y) p
put_put at x y p fits =
    let F = take at p ++ x in
    let R = drop (at + length x) p in
    let size : length F ≡ at + length x = omega (arith, length-append (take at p) x, length-take-le at p fits) in
    let front : take (at + length x) (F ++ R) ≡ F = take_at F R (at + length x) size in
    let tail : drop (at + length x + length y) (F ++ R) ≡ drop (at + length (x ++ y)) p =
    ap (λ (k : ℕ). drop k (F ++ R)) (omega arith) ∙ sym (drop-drop (length y) (at + length x) (F ++ R)) ∙ ap (drop (length y)) (drop_at F R (at + length x) size) ∙ drop-drop (length y) (at + length x) p ∙ ap (λ (k : ℕ). drop k p) (omega (arith, length-append x y)) in
    ap (λ (l : List ℕ). l ++ y ++ drop (at + length x + length y) (F ++ R)) front ∙ ap (λ (l : List ℕ). F ++ y ++ l) tail ∙ ap (λ (l : List ℕ). l ++ drop (at + length (x ++ y)) p) (append_assoc (take at p) x y)

shorter : (n m : ℕ) (old new : List ℕ) → n ≤ m → take m new ≡ take m old → take n new ≡ take n old
shorter n m old new le same = sym (take-take n m new le) ∙ ap (take n) same ∙ take-take n m old le

further : (n m : ℕ) (old new : List ℕ) → n ≤ m → drop n new ≡ drop n old → drop m new ≡ drop m old
further n m old new le same = ap (λ (k : ℕ). drop k new) (omega arith) ∙ sym (drop-drop (m - n) n new) ∙ ap (drop (m - n)) same ∙ drop-drop (m - n) n old ∙ ap (λ (k : ℕ). drop k old) (omega arith)

wider : (at n a m : ℕ) (old new : List ℕ) → at ≤ a → a + m ≤ at + n → SameOutside a m old new → SameOutside at n old new
wider at n a m old new low high same = record {
  size = same.size;
  before = shorter at a old new low same.before;
  after = further (a + m) (at + n) old new high same.after;
}

same_then : (at n : ℕ) (one two three : List ℕ) → SameOutside at n one two → SameOutside at n two three → SameOutside at n one three
same_then at n one two three first second = record {
  size = second.size ∙ first.size;
  before = second.before ∙ first.before;
  after = second.after ∙ first.after;
}

pub pending_first : {old new : DiskState} (at n a m : ℕ) → at ≤ a → a + m ≤ at + n → Leaves old new (Pending a m old.may_leave) → Leaves old new (Pending at n old.may_leave)
pending_first at n a m low high leaves = leaves_weaker leaves (λ c (d, left, same). (d, left, wider at n a m d c low high same))

pub pending_next : {first second third : DiskState} (at n a m : ℕ) → at ≤ a → a + m ≤ at + n → Leaves first second (Pending at n first.may_leave) → Leaves second third (Pending a m second.may_leave) → Leaves first third (Pending at n first.may_leave)
pending_next at n a m low high one two = leaves_then one (leaves_weaker two (λ c (d, left, same). let w = one.now d left in (w.0, w.1, same_then at n w.0 d c w.2 (wider at n a m d c low high same))))

pub pending_synced : {first second third : DiskState} (at n : ℕ) → Leaves first second (Pending at n first.may_leave) → Leaves second third second.may_leave → Leaves first third (Pending at n first.may_leave)
pending_synced at n one two = leaves_then one (leaves_weaker two (λ c left. one.now c left))

pub three_written : {a b c d e : DiskState} (at : ℕ) (x y z : List ℕ) → IsLawful a → at + length x + length y + length z ≤ a.size
    → IsWritten at x a b → IsWritten (at + length x) y b c → IsWritten (at + (length x + length y)) z c d → IsSynced d e
    → (k : List ℕ) → e.may_leave k → (p : List ℕ) × a.may_leave p × (k ≡ put at (x ++ (y ++ z)) p)
three_written {a} {b} {c} {d} {e} at x y z lawful fits one two three synced k left =
    from (present a) refl (
    ap (λ (o : Option (List ℕ)). option_map (put (at + (length x + length y)) z) (option_map (put (at + length x) y) o)) (sym one.present)
    ∙ ap (option_map (put (at + (length x + length y)) z)) (sym two.present) ∙ sym three.present
    ∙ sym (ap (option_map (λ (k : Content). k.present)) synced.content) ∙ synced.settled k left)
  where
    from : (before : Option (List ℕ)) → present a ≡ before
        → option_map (put (at + (length x + length y)) z) (option_map (put (at + length x) y) (option_map (put at x) before)) ≡ Some k
        → (p : List ℕ) × a.may_leave p × (k ≡ put at (x ++ (y ++ z)) p)
    from None is e = absurd (none-some k e)
    from (Some p) is e =
        let size = lawful.full_size p (lawful.present_may_stay p is) in
        let q = put at x p in
        let q_size : at + length x ≤ length q = omega (arith, length-append (take at p ++ x) (drop (at + length x) p), length-append (take at p) x, length-take-le at p (omega arith)) in
        let sum : at + (length x + length y) ≡ at + length x + length y = omega arith in
        (p, lawful.present_may_stay p is, sym (same_Some _ _ e) ∙ ap (λ (n : ℕ). put n z (put (at + length x) y q)) sum ∙ put_put (at + length x) y z q q_size ∙ put_put at x (y ++ z) p (omega arith))

-- the images of three writes in a row
module _ {a b : DiskState} (at : ℕ) (x y z : List ℕ) (first : Leaves a b (Pending at (length x) a.may_leave)) where
  pub one_written : Leaves a b (Pending at (length (x ++ (y ++ z))) a.may_leave)
  one_written = pending_first at (length (x ++ (y ++ z))) at (length x) (omega arith) (omega (arith, length-append x (y ++ z))) first

  module _ {c : DiskState} (second : Leaves b c (Pending (at + length x) (length y) b.may_leave)) where
    pub two_written : Leaves a c (Pending at (length (x ++ (y ++ z))) a.may_leave)
    two_written = pending_next at (length (x ++ (y ++ z))) (at + length x) (length y) (omega arith) (omega (arith, length-append x (y ++ z), length-append y z)) one_written second

    pub all_written : {d : DiskState} → Leaves c d (Pending (at + (length x + length y)) (length z) c.may_leave) → Leaves a d (Pending at (length (x ++ (y ++ z))) a.may_leave)
    all_written third = pending_next at (length (x ++ (y ++ z))) (at + (length x + length y)) (length z) (omega arith) (omega (arith, length-append x (y ++ z), length-append y z)) two_written third
