-- The records of a text are added to a journal one after the other.
use Rattle.std.proofs.Common.{◌≡◌, ⊎_elim, inl, inr, ◌+◌, ℕ, true, false, List, [], ◌∷◌, ◌++◌, length, Result, Ok, Err, refl, sym, ap, subst, ◌∙◌, arith, append-nil, append_assoc}
use Rattle.disk_model.specs.Disk.{Counts, DiskState, HasCause, KeepsRest, Leaves, Rose}
use Rattle.disk_model.proofs.Calls.{keeps_rest_then, leaves_same, leaves_then, leaves_weaker}
use Rattle.seata_types.specs.declared.errors.Full.{Full}
use Rattle.seata_types.specs.declared.limits.TheConstants.{BODY_BYTES}
use Rattle.disk_journal.specs.declared.journal.Journal.{Journal}
use Rattle.disk_journal.specs.Journals.{Keeps, disk_of, from_of, is_down}
use Rattle.disk_journal.specs.Keeping.{IsBeforeOrAfter, IsFull, StandsFor}
use Rattle.disk_journal.specs.Reading.{row_length}
use Rattle.disk_journal.specs.declared.layout.TheConstants.{SHORTEST}
use Rattle.base_records.specs.Pieces.{records_of}
use Rattle.base_disk.specs.declared.errors.BaseError.{BaseError}
use Rattle.base_disk.specs.declared.errors.BaseError.TheVariants as error
use Rattle.base_disk.specs.declared.marks.Mark.{Mark}
use Rattle.base_disk.specs.Marks.{left_of}
use Rattle.base_disk.specs.Keeping.{Adds, AddsAll, HaveNotFallen, IsOnTheWay, LacksRoom}

-- ---- counts

pub not_fallen : (a b c : Counts) → HaveNotFallen a b → HaveNotFallen b c → HaveNotFallen a c
not_fallen a b c one two =
    let f = one.faults in let g = two.faults in let h = one.own in let k = two.own in
    record { faults = omega (arith, f, g); own = omega (arith, h, k) }

pub cause_since : (a b c : Counts) → HaveNotFallen a b → HasCause b c → HasCause a c
cause_since a b c one two =
    let f = one.faults in let g = two.fault in let h = one.own in record {
      fault = omega (arith, f, g);
      cause = ⊎_elim (λ (rose : Rose b.own c.own). inl (omega (arith, h, rose))) (λ none. inr none) two.cause;
    }

pub rest_same : (disk : DiskState) → KeepsRest disk disk
rest_same disk = record { kind = record { size = refl; tells_images = refl; tells_moments = refl }; last_pick = refl }

-- ---- on the way

module _ {D : Type 0} (state : D → DiskState) (text : List ℕ) (mark : Mark) (old : Journal D) where
  abbrev all : List (List ℕ)
  all = records_of BODY_BYTES text

  -- a journal had the first records of a text up to a mark, and some of the others were added
  pub record IsAdding (here : Mark) (now : Journal D) : Type 0 where
    pub keeps : (records : List (List ℕ)) → Keeps state records old → all ≡ records ++ left_of text mark
        → (more : List (List ℕ)) × Keeps state (records ++ more) now × (all ≡ (records ++ more) ++ left_of text here)
    pub images : (records : List (List ℕ)) → Keeps state records old → all ≡ records ++ left_of text mark → from_of old ≡ 0 → Leaves (state (disk_of old)) (state (disk_of now)) (IsOnTheWay text records)
    pub counts : HaveNotFallen (state (disk_of old)).counts (state (disk_of now)).counts
    pub rest : KeepsRest (state (disk_of old)) (state (disk_of now))
    pub begins : from_of now ≡ from_of old
    pub up : is_down now ≡ false

  pub none_added : is_down old ≡ false → IsAdding mark old
  none_added up = record {
    keeps = λ records keeps whole. (
      [],
      subst (λ rs. Keeps state rs old) (sym (append-nil records)) keeps,
      whole ∙ ap (λ rs. rs ++ left_of text mark) (sym (append-nil records)),
    );
    images = λ records keeps whole begin. leaves_same (λ c left. record {
      more = [];
      stand = subst (λ rs. StandsFor 0 rs c) (sym (append-nil records)) (subst (λ n. StandsFor n records c) begin (keeps.disk.images c left));
      front = inl refl;
    });
    counts = record { faults = omega arith; own = omega arith };
    rest = rest_same (state (disk_of old));
    begins = refl;
    up = up;
  }

  module _ (here next : Mark) (now new : Journal D) (piece : List ℕ) (is : IsAdding here now) (step : left_of text here ≡ piece ∷ left_of text next) (result : Result (Unit {0}) BaseError)
      (adds : Adds state piece now new result) where
    -- with that record
    longer : (records more : List (List ℕ)) → all ≡ (records ++ more) ++ left_of text here → all ≡ ((records ++ more) ++ piece ∷ []) ++ left_of text next
    longer records more whole = whole ∙ ap (λ l. (records ++ more) ++ l) step ∙ sym (append_assoc (records ++ more) (piece ∷ []) (left_of text next))

    on_the_way : (records more : List (List ℕ)) → all ≡ (records ++ more) ++ left_of text here → from_of now ≡ 0 → (c : List ℕ) → IsBeforeOrAfter (from_of now) (records ++ more) piece c
        → IsOnTheWay text records c
    on_the_way records more whole begin c (inl before) = record {
      more = more;
      stand = subst (λ n. StandsFor n (records ++ more) c) begin before;
      front = inr (record { missing = left_of text here; whole = sym whole });
    }
    on_the_way records more whole begin c (inr after) = record {
      more = more ++ piece ∷ [];
      stand = subst (λ rs. StandsFor 0 rs c) (append_assoc records more (piece ∷ [])) (subst (λ n. StandsFor n ((records ++ more) ++ piece ∷ []) c) begin after);
      front = inr (record { missing = left_of text next; whole = ap (λ rs. rs ++ left_of text next) (sym (append_assoc records more (piece ∷ []))) ∙ sym (longer records more whole) });
    }

    images : (records : List (List ℕ)) → Keeps state records old → all ≡ records ++ left_of text mark → from_of old ≡ 0 → Leaves (state (disk_of old)) (state (disk_of new)) (IsOnTheWay text records)
    images records keeps whole begin =
        let (more, still, left) = is.keeps records keeps whole in
        leaves_then (is.images records keeps whole begin) (leaves_weaker (adds.images (records ++ more) still) (on_the_way records more left (is.begins ∙ begin)))

    counts : HaveNotFallen (state (disk_of old)).counts (state (disk_of new)).counts
    counts = not_fallen (state (disk_of old)).counts (state (disk_of now)).counts (state (disk_of new)).counts is.counts adds.counts

    pub added : (done : Unit {0}) → result ≡ Ok done → IsAdding next new
    added done ok =
        let a : Adds state piece now new (Ok done) = subst (Adds state piece now new) ok adds in record {
          keeps = λ records keeps whole.
              let (more, still, left) = is.keeps records keeps whole in (
                more ++ piece ∷ [],
                subst (λ rs. Keeps state rs new) (append_assoc records more (piece ∷ [])) (a.keeps (records ++ more) still),
                longer records more left ∙ ap (λ rs. rs ++ left_of text next) (append_assoc records more (piece ∷ [])),
              );
          images = images;
          counts = counts;
          rest = keeps_rest_then is.rest adds.rest;
          begins = adds.begins ∙ is.begins;
          up = a.up;
        }

    -- it wasn't
    lacks : (full : Full) → result ≡ Err (error.Full full) → (records : List (List ℕ)) → Keeps state records old → all ≡ records ++ left_of text mark → from_of old ≡ 0
        → LacksRoom text (state (disk_of new)).size full
    lacks full e records keeps whole begin =
        let (more, still, left) = is.keeps records keeps whole in record {
          records = records ++ more;
          next = piece;
          front = record { missing = left_of text next; whole = sym (longer records more left) };
          is_full = subst (λ n. IsFull n (state (disk_of new)).size full) (ap (λ n. n + row_length (records ++ more) + length piece + SHORTEST) (is.begins ∙ begin) ∙ start (row_length (records ++ more)))
              (subst (λ n. IsFull (from_of now + row_length (records ++ more) + length piece + SHORTEST) n full) (sym adds.rest.kind.size) (adds.full full e (records ++ more) still));
        }
      where
        start : (n : ℕ) → 0 + n + length piece + SHORTEST ≡ n + length piece + SHORTEST
        start n = omega arith

    pub not_added : (e : BaseError) → result ≡ Err e → AddsAll state text mark old new (Err e)
    not_added e err =
        let a : Adds state piece now new (Err e) = subst (Adds state piece now new) err adds in record {
          keeps = tt;
          images = images;
          full = λ full is_full. lacks full (err ∙ is_full);
          failed = λ failed. cause_since (state (disk_of old)).counts (state (disk_of now)).counts (state (disk_of new)).counts is.counts (a.failed failed);
          known = a.known;
          counts = counts;
          rest = keeps_rest_then is.rest adds.rest;
          begins = adds.begins ∙ is.begins;
        }

  -- all were added
  pub all_added : (here : Mark) (now : Journal D) → IsAdding here now → here.ended ≡ true → (done : Unit {0}) → AddsAll state text mark old now (Ok done)
  all_added here now is ended done = record {
    keeps = λ records keeps whole.
        let (more, still, left) = is.keeps records keeps whole in
        subst (λ rs. Keeps state rs now) (sym (append-nil (records ++ more)) ∙ ap (λ l. (records ++ more) ++ l) (sym (none here ended)) ∙ sym left) still;
    images = is.images;
    full = λ full e. absurd (let no : Ok done ≡ Err (error.Full full) = e in cc);
    failed = λ e. absurd (let no : Ok done ≡ Err error.Failed = e in cc);
    known = tt;
    counts = is.counts;
    rest = is.rest;
    begins = is.begins;
  }
    where
      none : (m : Mark) → m.ended ≡ true → left_of text m ≡ []
      none m e = rw e refl
