-- What is safe about the values of rows: each change found the value under it, and a row is what its last change left.
use Rattle.std.specs.Prelude.{◌≡◌, ◌⊎◌, ◌+◌, ℕ, List, [], ◌∷◌, ◌++◌, filter, slice_get, Option, Some, None}
use Rattle.seata_types.specs.declared.acts.Act.TheVariants as act
use Rattle.seata_types.specs.declared.ids.BranchId.{BranchId}
use Rattle.seata_types.specs.declared.ids.Place.TheVariants as place
use Rattle.seata_types.specs.declared.ids.Ticket.{Ticket}
use Rattle.seata_types.specs.declared.ids.Xid.{Xid}
use Rattle.seata_types.specs.declared.rows.Image.{Image}
use Rattle.seata_types.specs.declared.rows.ReadRow.{ReadRow}
use Rattle.seata_types.specs.declared.rows.Row.{Row}
use Rattle.seata_types.specs.declared.rows.RowKey.{RowKey}
use Rattle.seata_types.specs.declared.statements.Action.{Action}
use Rattle.seata_types.specs.declared.statements.Stmt.{Stmt}
use Rattle.seata_types.specs.declared.statements.Work.{Work}
use Rattle.seata_types.specs.declared.statements.Work.TheVariants as work
use Rattle.seata_types.specs.declared.statuses.BranchKind.{BranchKind}
use Rattle.seata_types.specs.declared.statuses.BranchKind.TheVariants as kind
use Rattle.local_tables.specs.Checks.{table_of}
use Rattle.local_tables.specs.Rows.{Database, row_at, table_named}
use Rattle.local_tables.specs.declared.schemas.TableDef.{TableDef}
use Rattle.durable_records.specs.declared.coordinators.SessionRecord.{SessionRecord}
use Rattle.durable_records.specs.declared.resources.ResourceRecord.{ResourceRecord}
use Rattle.durable_records.specs.declared.resources.ResourceRecord.TheVariants as log
use Rattle.durable_records.specs.Branches.{Grant, grants}
use Rattle.durable_records.specs.RowsKept.{Change, ByBranch, ByLocal, ByOutside, image_at, changed, by_branch, by_local, is_by_other, value_of, now_value, kept_value, tables}
use Rattle.history_rules.specs.ResourceMemory.{Setup, Open, Memory, opening_tables, action_of, effect_on}
use Rattle.history_rules.specs.ManagerRules.{Settings}
use Rattle.history_rules.specs.Nodes.{World, Past, counted_at}
use Rattle.history_rules.specs.Histories.{Moment, Legal}
use Rattle.history_rules.specs.Chains.{IsChain, IsBlankPast}
use Rattle.history_law.specs.Points.{In, AtEachPoint, InEachHistory}
use Rattle.history_law.specs.SessionSafety.{session_records}
use Rattle.history_law.specs.Cover.{all_of, memory_of}
use Rattle.history_law.specs.TicketSafety.{AreNumbered}
use Rattle.history_law.specs.OrderSafety.{HasRow, HasCommitted}
use Rattle.history_law.specs.CallSafety.{Owns}

-- ---- what is asked of a scenario

-- a row of a table of this mode
pub record IsOfMode (s : Setup) (mode : BranchKind) (key : RowKey) : Type 0 where
  pub def : TableDef
  pub named : table_named s.schema key.table ≡ Some def
  pub of_mode : def.mode ≡ mode

-- the statements name tables of this mode alone
abbrev pub NameTables : Setup → BranchKind → List Stmt → Type 0
NameTables s mode stmts = (stmt : Stmt) → In stmt stmts → (def : TableDef) → table_named s.schema (table_of stmt) ≡ Some def → def.mode ≡ mode

-- the statements of a call, or the Try of its actions, name tables of the mode of its work alone
abbrev pub WorksOn : Setup → Work → Type 0
WorksOn s (work.At stmts) = NameTables s kind.At stmts
WorksOn s (work.Tcc action) = NameTables s kind.Tcc action.tries

-- the statements of AT calls name AT tables, and those of TCC actions TCC tables
pub record HasModes (w : World) : Type 0 where
  pub calls : (k : ℕ) (m : Settings) → counted_at w.managers k ≡ Some m → (c r : ℕ) (wk : Work) → slice_get m.calls c ≡ Some (r, wk)
      → (s : Setup) → counted_at w.resources r ≡ Some s → WorksOn s wk
  pub actions : (n : ℕ) (s : Setup) → counted_at w.resources n ≡ Some s → (manager c : ℕ) (a : Action) → action_of s manager c ≡ Some a
      → NameTables s kind.Tcc a.confirms × NameTables s kind.Tcc a.cancels

-- ---- the value of a row

-- no outside write of these records touched the row
abbrev pub IsInside : RowKey → List ResourceRecord → Type 0
IsInside key rs = (number : ℕ) (images : List Image) → In (log.Outside number images) rs → image_at images key ≡ None

-- these changes, but none where an image touched the row
abbrev pub none_if_touched : Option Image → List Change → List Change
none_if_touched None rest = rest
none_if_touched (Some image) rest = []

-- the changes of a row that aren't undone, since the last outside write that touched it
abbrev pub latest_changes : List ResourceRecord → RowKey → List Change
latest_changes [] key = []
latest_changes (log.Committed xid branch call images reads ∷ rs) key = changed (by_branch xid.0 branch.0) (image_at images key) (latest_changes rs key)
latest_changes (log.Undone xid branch ∷ rs) key = filter (is_by_other xid.0 branch.0) (latest_changes rs key)
latest_changes (log.LocalCommitted number images ∷ rs) key = changed by_local (image_at images key) (latest_changes rs key)
latest_changes (log.Outside number images ∷ rs) key = none_if_touched (image_at images key) (latest_changes rs key)
latest_changes (_ ∷ rs) key = latest_changes rs key

-- the before of each change by a branch is the value under it, on a row that was so at first
abbrev pub FindValues : Option Row → List Change → Type 0
FindValues first [] = Unit {0}
FindValues first (ByBranch x b before after ∷ cs) = (before ≡ value_of first cs) × FindValues first cs
FindValues first (ByLocal after ∷ cs) = FindValues first cs
FindValues first (ByOutside after ∷ cs) = FindValues first cs

-- since the last outside write on a row each change found the value under it, and the row is what the last one left; where
-- no outside write touched it this begins with the opening row
pub record HasItsValue (opening : Database) (rs : List ResourceRecord) (key : RowKey) : Type 0 where
  pub first : Option Row
  pub found : FindValues first (latest_changes rs key)
  pub now : now_value opening rs key ≡ value_of first (latest_changes rs key)
  pub opened : IsInside key rs → first ≡ row_at opening.rows key

-- each row of an AT table that no outside write touched is as its last change that isn't undone left it
abbrev pub AreKept : Setup → List ResourceRecord → Type 0
AreKept s rs = (key : RowKey) → IsOfMode s kind.At key → IsInside key rs → now_value (opening_tables s) rs key ≡ kept_value (opening_tables s) rs key

-- ---- what a local commit has read

-- call c of x has these statements, at resource n, by the settings of the manager that began x
pub record IsAtCall (w : World) (rs : List SessionRecord) (n x c : ℕ) (stmts : List Stmt) : Type 0 where
  pub manager : ℕ
  pub owns : Owns rs manager x
  pub settings : Settings
  pub known : counted_at w.managers manager ≡ Some settings
  pub before : ℕ
  pub index : c ≡ before + 1
  pub is : slice_get settings.calls before ≡ Some (n, work.At stmts)

-- images and reads are what the call's statements do and read on the tables at some earlier records, on which the rows that no
-- outside write had touched were the kept ones; and their rows of AT tables are the same now
pub record IsEffectThen (w : World) (sessions : List SessionRecord) (n : ℕ) (s : Setup) (rs : List ResourceRecord) (x c : ℕ) (images : List Image) (reads : List ReadRow) : Type 0 where
  pub stmts : List Stmt
  pub call : IsAtCall w sessions n x c stmts
  pub older : List ResourceRecord
  pub newer : List ResourceRecord
  pub stood : rs ≡ newer ++ older
  pub images_are : images ≡ (effect_on (tables (opening_tables s) older) stmts).images
  pub reads_are : reads ≡ (effect_on (tables (opening_tables s) older) stmts).reads
  pub kept : AreKept s older
  pub same : (key : RowKey) → IsOfMode s kind.At key → HasRow images reads key → now_value (opening_tables s) rs key ≡ now_value (opening_tables s) older key

-- at an entry of this history resource n opened ticket t for call c of x, and these records stood there then
pub record IsOpenedAt (past : Past) (ms : List Moment) (n : ℕ) (s : Setup) (t : Ticket) (x c : ℕ) (rs : List ResourceRecord) : Type 0 where
  pub later : List Moment
  pub entry : Moment
  pub before : List Moment
  pub splits : ms ≡ later ++ (entry ∷ before)
  pub at : entry.place ≡ place.Res n
  pub xid : Xid
  pub of : xid.0 ≡ x
  pub opened : entry.step.act ≡ act.Opened xid c t
  pub stood : rs ≡ (memory_of past before n s).left.records

-- branch b of x was granted to resource n for a ticket that was opened so
pub record HasOpening (past : Past) (ms : List Moment) (sessions : List SessionRecord) (n : ℕ) (s : Setup) (x b c : ℕ) (rs : List ResourceRecord) : Type 0 where
  pub branch : Grant
  pub granted : In branch (grants sessions)
  pub xid : branch.xid ≡ x
  pub number : branch.branch ≡ b
  pub resource : branch.resource ≡ n
  pub opening : IsOpenedAt past ms n s branch.ticket x c rs

-- a local commit over these records is the effect of its call on the tables at the opening of its branch's ticket; of one that the
-- disks had before this history that opening isn't in it, and the tables are those of some records under the commit
pub record IsEffectAtOpening (w : World) (past : Past) (ms : List Moment) (sessions : List SessionRecord) (n : ℕ) (s : Setup) (rs : List ResourceRecord)
    (xid : Xid) (branch : BranchId) (call : ℕ) (images : List Image) (reads : List ReadRow) : Type 0 where
  pub effect : IsEffectThen w sessions n s rs xid.0 call images reads
  pub opening : In (log.Committed xid branch call images reads) (past.resource n) ⊎ HasOpening past ms sessions n s xid.0 branch.0 call effect.older

-- each local commit is so on the records before it
abbrev pub AreEffects : World → Past → List Moment → List SessionRecord → ℕ → Setup → List ResourceRecord → Type 0
AreEffects w past ms sessions n s [] = Unit {0}
AreEffects w past ms sessions n s (log.Committed xid branch call images reads ∷ rs) =
    AreEffects w past ms sessions n s rs × IsEffectAtOpening w past ms sessions n s rs xid branch call images reads
AreEffects w past ms sessions n s (_ ∷ rs) = AreEffects w past ms sessions n s rs

-- ---- the law

-- of resource n: each row of an AT table has its value, and so it is kept; the images of open tickets found the rows as they
-- are; and each local commit, the one in flight among them, is what its call does on the rows as they were kept at the opening of its ticket
pub record ValuesAreSafe (w : World) (past : Past) (ms : List Moment) (n : ℕ) (s : Setup) (m : Memory) : Type 0 where
  pub rows : (key : RowKey) → IsOfMode s kind.At key → HasItsValue (opening_tables s) m.left.records key
  pub kept : AreKept s m.left.records
  pub open_found : (o : Open) → In o m.opens → (key : RowKey) → IsOfMode s kind.At key → (image : Image) → image_at o.images key ≡ Some image
      → image.before ≡ now_value (opening_tables s) m.left.records key
  pub effects : AreEffects w past ms (session_records past ms) n s m.left.records
  pub in_flight : AreEffects w past ms (session_records past ms) n s (all_of m.left)

-- of each resource, after a history
abbrev pub EachHasValues : World → Past → List Moment → Type 0
EachHasValues w past ms = (n : ℕ) (s : Setup) → counted_at w.resources n ≡ Some s → ValuesAreSafe w past ms n s (memory_of past ms n s)

-- at each point of a history
abbrev pub ValuesStaySafe : World → Past → List Moment → Type 0
ValuesStaySafe w past ms = AtEachPoint (EachHasValues w past) ms

-- in a legal history over disks without records
abbrev pub ValuesLaw : Type 0
ValuesLaw = (w : World) (past : Past) (ms : List Moment) → AreNumbered w → HasModes w → IsBlankPast past → Legal w past ms → ValuesStaySafe w past ms

-- and in every chain
abbrev pub ValuesOfChains : Type 0
ValuesOfChains = (w : World) (histories : List (Past × List Moment)) → AreNumbered w → HasModes w → IsChain w histories → InEachHistory (ValuesStaySafe w) histories

-- ---- dirty rows

-- an outside write that touched the row stands after the local commit of branch b of x
abbrev pub IsOutsideAfter : List ResourceRecord → (x b : ℕ) → RowKey → Type 0
IsOutsideAfter [] x b key = ⊥
IsOutsideAfter (log.Outside number images ∷ rs) x b key = (((image : Image) × (image_at images key ≡ Some image)) × HasCommitted rs x b) ⊎ IsOutsideAfter rs x b key
IsOutsideAfter (_ ∷ rs) x b key = IsOutsideAfter rs x b key

-- a rollback finds a row dirty only where an outside write touched it after the local commit
abbrev pub DirtyByOutside : World → Past → List Moment → Type 0
DirtyByOutside w past [] = Unit {0}
DirtyByOutside w past (m ∷ ms) = DirtyByOutside w past ms × ((n : ℕ) (s : Setup) → counted_at w.resources n ≡ Some s → m.place ≡ place.Res n
    → (xid : Xid) (branch : BranchId) (key : RowKey) (after now : Option Row) → m.step.act ≡ act.Dirty xid branch key after now
    → IsOutsideAfter (memory_of past ms n s).left.records xid.0 branch.0 key)

-- in a legal history over disks without records
abbrev pub DirtyLaw : Type 0
DirtyLaw = (w : World) (past : Past) (ms : List Moment) → AreNumbered w → HasModes w → IsBlankPast past → Legal w past ms → DirtyByOutside w past ms

-- and in every chain
abbrev pub DirtyOfChains : Type 0
DirtyOfChains = (w : World) (histories : List (Past × List Moment)) → AreNumbered w → HasModes w → IsChain w histories → InEachHistory (DirtyByOutside w) histories
