-- The disk `net`, taken and given back with the text, or why not.
use Rattle.std.proofs.Common.{◌≡◌, inl, inr, ◌∙◌, ℕ, IsSome, IsTrue, List, [], Some, Result, Ok, Err, OnOk, IfErr, refl, sym, ap, subst, arith, append-nil}
use Rattle.disk_model.specs.Disk.{DiskState, Rose, present}
use Rattle.disk_model.specs.Shelf.{IsGivenBack, IsTaken, KeepsOthers, SamePlaces, SameUnder, ShelfState, taken_tells}
use Rattle.disk_model.specs.declared.errors.ShelfError.{ShelfError}
use Rattle.disk_model.specs.declared.errors.ShelfError.TheVariants as shelf
use Rattle.disk_journal.specs.Keeping.{Holds, OnlyReads, StandsFor}
use Rattle.disk_journal.proofs.Readings.{still_present}
use Rattle.seata_types.specs.declared.ids.Place.TheVariants as place
use Rattle.seata_types.specs.declared.limits.TheConstants.{BODY_BYTES, SCENARIO_DISK}
use Rattle.base_records.specs.Pieces.{IsFront, records_of}
use Rattle.base_disk.specs.declared.errors.BaseError.{BaseError}
use Rattle.base_disk.specs.declared.errors.BaseError.TheVariants as error
use Rattle.base_disk.specs.Keeping.{IsOnTheWay, KeepsText, LacksRoom, Tells}
use Rattle.base_disk.proofs.Standing.{same_records}
use Rattle.node_seat.specs.declared.faults.RunFault.{RunFault}
use Rattle.node_seat.specs.declared.faults.RunFault.TheVariants as fault
use Rattle.scenario_nodes.specs.Opening.{IsShelfFault}
use Rattle.scenario_nodes.specs.Shelves.{HasDisk, IsGivenIn}
use Rattle.scenario_nodes.proofs.Holding.{bytes_of, next_given}
use Rattle.scenario_nodes.proofs.Returned.{all_in, given_since, is_next_since, keeps_then, none_made, one_given, one_made, still}
use Rattle.base_shelf.specs.Keeping.{AnswersFor, HoldsBase, IsNetFault, KeepsBase, LeavesNet, NetIs, TellsNet, net_name, told_of}

-- ---- it wasn't had

-- the shelf failed, and counted it, or memory was refused
pub no_net_fault : {D : Type 0} (old new : ShelfState D) (e : ShelfError) (missed : RunFault) → (e ≡ shelf.Failed → missed ≡ fault.Store place.Net) → (e ≡ shelf.NoMemory → missed ≡ fault.NoMemory)
    → (e ≡ shelf.Failed → Rose old.faults new.faults) → IsShelfFault place.Net old new missed
no_net_fault old new shelf.Failed missed store memory rose = subst (IsShelfFault place.Net old new) (sym (store refl)) (refl, rose refl)
no_net_fault old new shelf.NoMemory missed store memory rose = subst (IsShelfFault place.Net old new) (sym (memory refl)) tt

no_answer : {D : Type 0} (text : List ℕ) (records : List (List ℕ)) (old new : ShelfState D) (missed : RunFault) → IsShelfFault place.Net old new missed → AnswersFor text records (Err missed)
no_answer text records old new (fault.Store at) cause = tt
no_answer text records old new fault.NoMemory cause = tt
no_answer text records old new (fault.Full at full) cause = absurd cause
no_answer text records old new (fault.Damaged at second offset) cause = absurd cause
no_answer text records old new fault.Other cause = absurd cause

no_word : {D : Type 0} (text bytes : List ℕ) (old new : ShelfState D) (missed : RunFault) → IsShelfFault place.Net old new missed → TellsNet text bytes (Err missed)
no_word text bytes old new (fault.Store at) cause = tt
no_word text bytes old new fault.NoMemory cause = tt
no_word text bytes old new (fault.Full at full) cause = absurd cause
no_word text bytes old new (fault.Damaged at second offset) cause = absurd cause
no_word text bytes old new fault.Other cause = absurd cause

none_left : {D : Type 0} (state : D → DiskState) (old new : ShelfState D) (missed : RunFault) → IsShelfFault place.Net old new missed → LeavesNet state old new (Err missed)
none_left state old new (fault.Store at) cause = tt
none_left state old new fault.NoMemory cause = tt
none_left state old new (fault.Full at full) cause = tt
none_left state old new (fault.Damaged at second offset) cause = absurd cause
none_left state old new fault.Other cause = absurd cause

module _ {D : Type 0} (state : D → DiskState) (text : List ℕ) (old new : ShelfState D) (missed : RunFault) (cause : IsShelfFault place.Net old new missed) (places : SamePlaces old new)
    (same : SameUnder net_name old new) (keeps : KeepsOthers (λ n. n ≡ net_name) old new) where
  pub not_had : KeepsBase state text old new (Err missed)
  not_had = record {
    net = inr (record { missed = missed; is = refl; cause = cause; same = record { not_made = λ has. (places net_name).0 has; same = same } });
    next = λ told records h. record {
      bytes = h.bytes;
      next = is_next_since state SCENARIO_DISK net_name h.bytes old new same h.next;
      stand = record { more = []; stand = subst (λ rs. StandsFor 0 rs h.bytes) (sym (append-nil records)) h.stand; front = inl refl };
    };
    answers = λ records h. no_answer text records old new missed cause;
    tells = λ bytes next. no_word text bytes old new missed cause;
    left = none_left state old new missed cause;
    keeps = keeps;
    returned = none_made net_name old new places same keeps;
  }

-- ---- it was given back

answers_for : (text bytes : List ℕ) (records : List (List ℕ)) (answer : Result (Unit {0}) BaseError) → Tells text bytes answer → StandsFor 0 records bytes → AnswersFor text records (told_of answer)
answers_for text bytes records (Ok done) tells stand = subst (λ rs. IsFront BODY_BYTES rs text) (same_records tells.records records bytes tells.stand stand) tells.front
answers_for text bytes records (Err (error.Full full)) tells stand = subst (λ rs. IsFront BODY_BYTES rs text) (same_records tells.records records bytes tells.stand stand) tells.front
answers_for text bytes records (Err error.Other) tells stand = λ front. tells.other (subst (λ rs. IsFront BODY_BYTES rs text) (sym (same_records tells.records records bytes tells.stand stand)) front)
answers_for text bytes records (Err (error.Damaged at)) tells stand = let no : Err at ≡ Ok records = sym tells ∙ stand in absurd cc
answers_for text bytes records (Err error.Failed) tells stand = tt
answers_for text bytes records (Err error.NoMemory) tells stand = tt

tells_for : (text bytes : List ℕ) (answer : Result (Unit {0}) BaseError) → Tells text bytes answer → TellsNet text bytes (told_of answer)
tells_for text bytes (Ok done) tells = tells
tells_for text bytes (Err (error.Full full)) tells = tells
tells_for text bytes (Err error.Other) tells = tells
tells_for text bytes (Err (error.Damaged at)) tells = tells
tells_for text bytes (Err error.Failed) tells = tt
tells_for text bytes (Err error.NoMemory) tells = tt

module _ {D : Type 0} (state : D → DiskState) (text : List ℕ) (old mid new : ShelfState D) (before disk : D) (stays : (c : List ℕ) → present (state disk) ≡ Some c → (state disk).may_leave c) (taken : IsTaken state (old.given_back net_name) SCENARIO_DISK (state before))
    (out : mid.has_place net_name) (took : KeepsOthers (λ n. n ≡ net_name) old mid)
    (back : IsGivenBack new net_name disk) (counted : IsTrue mid.tells → Rose (mid.gives net_name) (new.gives net_name)) (places : SamePlaces mid new) (gave : KeepsOthers (λ n. n ≡ net_name) mid new)
    (answer : Result (Unit {0}) BaseError) (kept : KeepsText text (state before) (state disk) answer) where
  -- the bytes that were taken
  had : (bytes : List ℕ) → NetIs state old bytes → present (state before) ≡ Some bytes
  had bytes next =
      let (c, is_c) = bytes_of (state before) (next.tells before taken) in
      is_c ∙ ap (λ (b : List ℕ). Some b) (taken_tells state (old.given_back net_name) SCENARIO_DISK (state before) bytes c taken next.has is_c)

  -- it tells its bytes now as it did then
  tells_now : (bytes : List ℕ) → NetIs state old bytes → IsSome (state disk).content
  tells_now bytes next = kept.rest.kind.tells_images ∙ next.tells before taken

  sized : (state disk).size ≡ SCENARIO_DISK
  sized = kept.rest.kind.size ∙ taken.size

  tells_still : IsTrue old.tells → IsTrue new.tells
  tells_still told = still mid.tells new.tells gave.tells (still old.tells mid.tells took.tells told)

  images : (records : List (List ℕ)) → HoldsBase state old records → (c : List ℕ) → (state disk).may_leave c → IsOnTheWay text records c
  images records h c may = (kept.images h.bytes records (had h.bytes h.next) h.stand).now c may

  -- these bytes are there now
  is_next : IsTrue old.tells → (c : List ℕ) → present (state disk) ≡ Some c → NetIs state new c
  is_next told c is = next_given state new SCENARIO_DISK net_name disk c (back.given (tells_still told)) is

  unwritten : OnlyReads (state before) (state disk) → IsTrue old.tells → (bytes : List ℕ) → NetIs state old bytes → NetIs state new bytes
  unwritten reads told bytes next = is_next told bytes (still_present bytes reads (had bytes next))

  left : (a : Result (Unit {0}) BaseError) → KeepsText text (state before) (state disk) a → LeavesNet state old new (told_of a)
  left (Ok done) k = tt
  left (Err error.Failed) k = tt
  left (Err (error.Full full)) k = tt
  left (Err (error.Damaged at)) k = unwritten (k.damaged at refl)
  left (Err error.Other) k = unwritten (k.other refl)
  left (Err error.NoMemory) k = tt

  whole : (a : Result (Unit {0}) BaseError) → OnOk a (Holds (state disk) 0 (records_of BODY_BYTES text)) → OnOk (told_of a) (Holds (state disk) 0 (records_of BODY_BYTES text))
  whole (Ok done) holds = holds
  whole (Err e) holds = tt

  cause : (a : Result (Unit {0}) BaseError) → KeepsText text (state before) (state disk) a → IfErr (told_of a) (IsNetFault state old text (state disk))
  cause (Ok done) k = tt
  cause (Err error.Failed) k = (refl, let rose = (k.failed refl).fault in omega (arith, rose))
  cause (Err (error.Full full)) k = (refl, subst (λ (n : ℕ). LacksRoom text n full) sized (k.full full refl))
  cause (Err (error.Damaged at)) k = (refl, refl, λ bytes next. k.tells bytes (had bytes next))
  cause (Err error.Other) k = tt
  cause (Err error.NoMemory) k = tt

  holds_next : (a : Result (Unit {0}) BaseError) → OnOk a (Holds (state disk) 0 (records_of BODY_BYTES text)) → OnOk (told_of a) (IsSome (state disk).content → IsTrue old.tells → HoldsBase state new (records_of BODY_BYTES text))
  holds_next (Ok done) holds = λ tells told.
      let (c, is_c) = bytes_of (state disk) tells in record { bytes = c; next = is_next told c is_c; stand = holds.images c (stays c is_c) }
  holds_next (Err e) holds = tt

  given : IsGivenIn old new net_name disk
  given = given_since old mid new net_name disk took.tells (took.gives net_name) (record { back = back; counted = counted })

  pub net_kept : KeepsBase state text old new (told_of answer)
  net_kept = record {
    net = inl (record { disk = disk; back = given; sized = sized; whole = whole answer kept.kept; kept = holds_next answer kept.kept; images = images; cause = cause answer kept });
    next = λ told records h.
        let (c, is_c) = bytes_of (state disk) (tells_now h.bytes h.next) in record { bytes = c; next = is_next told c is_c; stand = images records h c (stays c is_c) };
    answers = λ records h. answers_for text h.bytes records answer (kept.tells h.bytes (had h.bytes h.next)) h.stand;
    tells = λ bytes next. tells_for text bytes answer (kept.tells bytes (had bytes next));
    left = left answer kept;
    keeps = keeps_then (λ n. n ≡ net_name) (λ n. n ≡ net_name) (λ n. n ≡ net_name) old mid new (λ n its. its) (λ n its. its) took gave;
    returned = all_in (λ n. n ≡ net_name) old mid new took.tells (one_made net_name old mid took) (one_given net_name disk mid new places back gave)
        (λ told n same. subst (HasDisk new) (sym same) (disk, back.given (tells_still told)));
  }
