-- What is known of statements, calls and locals once they are read.
use Rattle.std.proofs.Common.{◌≡◌, ◌≤◌, ◌+◌, ℕ, add-one, Bool, true, false, cond, List, [], ◌∷◌, length, Option, Some, None, Result, Ok, Err, refl, ap, ◌∙◌, subst, arith}
use Rattle.std.specs.List.{position, find, slice_get}
use Rattle.std.specs.Prelude.{if◌then◌else◌, All, codes}
use Rattle.std.proofs.lemmas.List.Elements.{All-nil}
use Rattle.serde_json.specs.Data.{Data}
use Rattle.serde_json.specs.Find.{get, as_str}
use Rattle.seata_types.specs.Orders.{same_text}
use Rattle.seata_types.specs.declared.limits.TheConstants.{CALLS, LOCALS, STATEMENTS, STATEMENT_BYTES}
use Rattle.seata_types.specs.declared.statements.Stmt.{Stmt}
use Rattle.seata_types.specs.declared.statements.Work.{Work}
use Rattle.seata_types.specs.declared.statements.Work.TheVariants as work
use Rattle.seata_types.specs.declared.statuses.BranchKind.{BranchKind}
use Rattle.seata_types.specs.declared.statuses.BranchKind.TheVariants as kind
use Rattle.sql_reader.specs.Answer.{reading}
use Rattle.sql_reader.specs.declared.errors.SqlError.{SqlError}
use Rattle.sql_reader.specs.declared.errors.SqlError.TheVariants as sql
use Rattle.local_tables.specs.Rows.{is_named, table_named}
use Rattle.local_tables.specs.declared.schemas.Schema.{Schema}
use Rattle.local_tables.specs.declared.schemas.TableDef.{TableDef}
use Rattle.scenario_form.specs.declared.scenarios.ResourceDef.{ResourceDef}
use Rattle.scenario_form.specs.Contents.{table_of, suits, IsStatement, AreStatements, IsWork, resource_numbered, IsCall, IsLocal}
use Rattle.scenario_reader.specs.Faults.{list, text, text_by, member, an_object, only, to_member}
use Rattle.scenario_reader.specs.Names.{is_resource_named}
use Rattle.scenario_reader.specs.Tables.{is_table_named}
use Rattle.scenario_reader.specs.Calls as form
use Rattle.scenario_reader.proofs.Apart.{same_text_flips, position_within, stands_within}
use Rattle.scenario_reader.proofs.Inverses.{bind_ok, within_ok, if_ok, same_ok, le_of, each_all, each_few}

-- ---- statements

found_alike : (a b : Bool) (def : TableDef) (r s : Option TableDef) → a ≡ b → r ≡ s → cond a (Some def) r ≡ cond b (Some def) s
found_alike a b def r s one rest = cc

-- a name is looked up the same whichever of the two stands first
pub find_named : (name : List ℕ) (defs : List TableDef) → find (is_named name) defs ≡ find (is_table_named name) defs
find_named name [] = refl
find_named name (def ∷ defs) = found_alike (same_text def.name name) (same_text name def.name) def (find (is_named name) defs) (find (is_table_named name) defs) (same_text_flips def.name name) (find_named name defs)

read_by_ok : (answer : Result Stmt SqlError) (s : Stmt) → form.read_by answer ≡ Ok s → answer ≡ Ok s
read_by_ok (Ok found) s e = ap (λ (z : Stmt). Ok z) (same_ok found s e)
read_by_ok (Err (sql.Refused at why)) s e = absurd cc
read_by_ok (Err sql.NoMemory) s e = absurd cc

parsed_ok : (text : List ℕ) (s : Stmt) → form.parsed text ≡ Ok s → (length text ≤ STATEMENT_BYTES) × (reading text ≡ Ok s)
unfolding form.parsed
parsed_ok text s e = let short = if_ok _ _ _ _ e in (le_of _ _ short.0, read_by_ok (reading text) s short.1)

standing_by_ok : (wanted : BranchKind) (found : Stmt) (at : Option TableDef) (s : Stmt) → form.standing_by wanted found at ≡ Ok s
    → (def : TableDef) × (at ≡ Some def) × (suits wanted def.mode found ≡ true) × (found ≡ s)
standing_by_ok wanted found (Some def) s e = let suits = if_ok _ _ _ _ e in (def, refl, suits.0, same_ok found s suits.1)
standing_by_ok wanted found None s e = absurd cc

statement_ok : (schema : Schema) (wanted : BranchKind) (d : Data) (s : Stmt) → form.statement schema wanted d ≡ Ok s → IsStatement schema wanted s
unfolding form.statement form.standing
statement_ok schema wanted d s e =
    let written = bind_ok (text_by (as_str d)) _ _ e in
    let found = bind_ok (form.parsed written.0) _ _ written.2 in
    let text = parsed_ok written.0 found.0 found.1 in
    let at = standing_by_ok wanted found.0 (find (is_table_named (table_of found.0)) schema.tables) s found.2 in
    let there : table_named schema (table_of found.0) ≡ Some at.0 = find_named (table_of found.0) schema.tables ∙ at.1 in
    subst (IsStatement schema wanted) at.3 (record { read = (written.0, text.0, text.1); stands = (at.0, there, at.2) })

statements_ok : (schema : Schema) (wanted : BranchKind) (d : Option Data) (stmts : List Stmt) → form.statements schema wanted d ≡ Ok stmts → AreStatements schema wanted stmts
unfolding form.statements
statements_ok schema wanted d stmts e =
    let items = bind_ok (list STATEMENTS d) _ _ e in
    let read = form.next_statement schema wanted in
    record {
      few = each_few read STATEMENTS d items.0 stmts items.1 items.2;
      each = each_all read (IsStatement schema wanted) (λ before one s reads. statement_ok schema wanted one s reads) items.0 stmts items.2;
    }

-- ---- calls

at_work_ok : (schema : Schema) (d : Data) (found : Work) → form.at_work schema d ≡ Ok found → IsWork schema found
unfolding form.at_work
at_work_ok schema d found e =
    let stmts = bind_ok (member (codes "do") (form.statements schema kind.At) d) _ _ e in
    subst (IsWork schema) (same_ok _ _ stmts.2) (statements_ok schema kind.At (get (codes "do") d) stmts.0 (within_ok (to_member (codes "do")) _ _ stmts.1))

tcc_work_ok : (schema : Schema) (d : Data) (found : Work) → form.tcc_work schema d ≡ Ok found → IsWork schema found
unfolding form.tcc_work
tcc_work_ok schema d found e =
    let tries = bind_ok (member (codes "try") (form.statements schema kind.Tcc) d) _ _ e in
    let confirms = bind_ok (member (codes "confirm") (form.statements schema kind.Tcc) d) _ _ tries.2 in
    let cancels = bind_ok (member (codes "cancel") (form.statements schema kind.Tcc) d) _ _ confirms.2 in
    let all : AreStatements schema kind.Tcc tries.0 × AreStatements schema kind.Tcc confirms.0 × AreStatements schema kind.Tcc cancels.0 = (
      statements_ok schema kind.Tcc (get (codes "try") d) tries.0 (within_ok (to_member (codes "try")) _ _ tries.1),
      statements_ok schema kind.Tcc (get (codes "confirm") d) confirms.0 (within_ok (to_member (codes "confirm")) _ _ confirms.1),
      statements_ok schema kind.Tcc (get (codes "cancel") d) cancels.0 (within_ok (to_member (codes "cancel")) _ _ cancels.1),
    ) in
    subst (IsWork schema) (same_ok (work.Tcc (record { tries = tries.0; confirms = confirms.0; cancels = cancels.0 })) found cancels.2) all

work_by_ok : (b : Bool) (schema : Schema) (d : Data) (found : Work) → (if b then form.tcc_work schema d else form.at_work schema d) ≡ Ok found → IsWork schema found
work_by_ok true schema d found e = tcc_work_ok schema d found e
work_by_ok false schema d found e = at_work_ok schema d found e

place_by_ok : (found : Option ℕ) (k : ℕ) → form.place_by found ≡ Ok k → found ≡ Some k
place_by_ok (Some j) k e = ap (λ (n : ℕ). Some n) (same_ok j k e)
place_by_ok None k e = absurd cc

resource_at_ok : (resources : List ResourceDef) (d : Option Data) (k : ℕ) → form.resource_at resources d ≡ Ok k → (def : ResourceDef) × (slice_get resources k ≡ Some def)
unfolding form.resource_at form.resource_place
resource_at_ok resources d k e =
    let name = bind_ok (text d) _ _ e in
    let there = if_ok _ _ _ _ name.2 in
    stands_within resources k (position_within (is_resource_named name.0) resources k (place_by_ok (position (is_resource_named name.0) resources) k there.1))

-- the resource at a place is the one of the next number
numbered : (resources : List ResourceDef) (k : ℕ) (def : ResourceDef) → slice_get resources k ≡ Some def → resource_numbered resources (k + 1) ≡ Some def
numbered resources k def is = rw add-one is

schema_of : (found : Option ResourceDef) (def : ResourceDef) → found ≡ Some def → form.schema_by found ≡ def.schema
schema_of found def is = ap form.schema_by is

call_ok : (resources : List ResourceDef) (d : Data) (one : ℕ × Work) → form.call resources d ≡ Ok one → IsCall resources one
unfolding form.call
call_ok resources d one e =
    let shape = bind_ok (an_object d) _ _ e in
    let k = bind_ok (member (codes "at") (form.resource_at resources) d) _ _ shape.2 in
    let found = bind_ok (form.call_work (form.schema_at resources k.0) d) _ _ k.2 in
    let last = bind_ok (form.only_call d) _ _ found.2 in
    let at = resource_at_ok resources (get (codes "at") d) k.0 (within_ok (to_member (codes "at")) _ _ k.1) in
    let done = work_by_ok (form.is_action d) (form.schema_at resources k.0) d found.0 found.1 in
    subst (IsCall resources) (same_ok (k.0 + 1, found.0) one last.2)
    (at.0, numbered resources k.0 at.0 at.1, subst (λ (z : Schema). IsWork z found.0) (schema_of (slice_get resources k.0) at.0 at.1) done)

pub calls_ok : (resources : List ResourceDef) (d : Option Data) (ones : List (ℕ × Work)) → form.calls resources d ≡ Ok ones → (length ones ≤ CALLS) × All (IsCall resources) ones
unfolding form.calls
calls_ok resources d ones e =
    let items = bind_ok (list CALLS d) _ _ e in
    let read = form.next_call resources in
    (each_few read CALLS d items.0 ones items.1 items.2, each_all read (IsCall resources) (λ before d one reads. call_ok resources d one reads) items.0 ones items.2)

-- ---- locals

local_ok : (resources : List ResourceDef) (d : Data) (one : ℕ × List Stmt) → form.local_item resources d ≡ Ok one → IsLocal resources one
unfolding form.local_item
local_ok resources d one e =
    let shape = bind_ok (an_object d) _ _ e in
    let k = bind_ok (member (codes "at") (form.resource_at resources) d) _ _ shape.2 in
    let found = bind_ok (form.local_statements (form.schema_at resources k.0) d) _ _ k.2 in
    let last = bind_ok (only form.local_members d) _ _ found.2 in
    let at = resource_at_ok resources (get (codes "at") d) k.0 (within_ok (to_member (codes "at")) _ _ k.1) in
    let done = statements_ok (form.schema_at resources k.0) kind.At (get (codes "do") d) found.0 (within_ok (to_member (codes "do")) _ _ found.1) in
    subst (IsLocal resources) (same_ok (k.0 + 1, found.0) one last.2)
    (at.0, numbered resources k.0 at.0 at.1, subst (λ (z : Schema). AreStatements z kind.At found.0) (schema_of (slice_get resources k.0) at.0 at.1) done)

no_locals : (resources : List ResourceDef) → (length {A = ℕ × List Stmt} [] ≤ LOCALS) × All (IsLocal resources) []
no_locals resources = (omega arith, All-nil (IsLocal resources))

pub locals_ok : (resources : List ResourceDef) (d : Option Data) (ones : List (ℕ × List Stmt)) → form.locals resources d ≡ Ok ones → (length ones ≤ LOCALS) × All (IsLocal resources) ones
unfolding form.locals
locals_ok resources None ones e =
    subst (λ (z : List (ℕ × List Stmt)). (length z ≤ LOCALS) × All (IsLocal resources) z) (same_ok [] ones e) (no_locals resources)
locals_ok resources (Some d) ones e =
    let items = bind_ok (list LOCALS (Some d)) _ _ e in
    let read = form.next_local resources in
    (each_few read LOCALS (Some d) items.0 ones items.1 items.2, each_all read (IsLocal resources) (λ before d one reads. local_ok resources d one reads) items.0 ones items.2)
