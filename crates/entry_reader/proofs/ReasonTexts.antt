-- Reasons read back.
use Rattle.std.proofs.Common.{◌≡◌, true, [], ◌∷◌, refl, ap}
use Rattle.std.specs.Prelude.{codes}
use Rattle.std.specs.Fmt.{decimal}
use Rattle.seata_types.specs.declared.errors.StmtError.{StmtError}
use Rattle.seata_types.specs.declared.errors.StmtError.TheVariants as error
use Rattle.seata_types.specs.declared.errors.Why.{Why}
use Rattle.seata_types.specs.declared.errors.Why.TheVariants as why
use Rattle.seata_types.specs.Statuses.{code_of}
use Rattle.history_text.specs.Lines.{error_text, why_text, key_text, xid_text}
use Rattle.history_text.specs.declared.entries.Names.{Names}
use Rattle.entry_reader.specs.Reasons.{error_of, why_of}
use Rattle.entry_reader.specs.Types.{IsError, IsWhy}
use Rattle.entry_reader.specs.Writable.{AreNodeNames, is_error, is_why}
use Rattle.entry_reader.proofs.Spells.{one, word, beside, after_word}
use Rattle.entry_reader.proofs.Identities.{xid-back, piece_16, number_16-decimal}
use Rattle.entry_reader.proofs.Words.{status_piece, status-back}
use Rattle.entry_reader.proofs.Keys.{key_piece, key-back}
use Rattle.entry_reader.proofs.ReadBack.{Reads, ap2, xid_word}

pub error_reads : (names : Names) (e : StmtError) → AreNodeNames names → is_error names e ≡ true → IsError e → Reads (error_of names) (error_text names e) e
unfolding error_of is_error
error_reads names error.NoTable are is types = record { first = codes "NoTable"; more = []; spells = one (word (codes "NoTable") refl refl); back = λ rest. refl }
error_reads names error.NoColumn are is types = record { first = codes "NoColumn"; more = []; spells = one (word (codes "NoColumn") refl refl); back = λ rest. refl }
error_reads names error.Columns are is types = record { first = codes "Columns"; more = []; spells = one (word (codes "Columns") refl refl); back = λ rest. refl }
error_reads names error.KeyChanged are is types = record { first = codes "KeyChanged"; more = []; spells = one (word (codes "KeyChanged") refl refl); back = λ rest. refl }
error_reads names error.TypeMismatch are is types = record { first = codes "TypeMismatch"; more = []; spells = one (word (codes "TypeMismatch") refl refl); back = λ rest. refl }
error_reads names error.TooManyRows are is types = record { first = codes "TooManyRows"; more = []; spells = one (word (codes "TooManyRows") refl refl); back = λ rest. refl }
error_reads names (error.Overflow key) are is types = record {
  first = codes "Overflow";
  more = key_text names key ∷ [];
  spells = after_word (codes "Overflow") refl refl (one (key_piece names key are is types));
  back = λ rest. ap error.Overflow (key-back names key are is types);
}
error_reads names (error.Duplicate key) are is types = record {
  first = codes "Duplicate";
  more = key_text names key ∷ [];
  spells = after_word (codes "Duplicate") refl refl (one (key_piece names key are is types));
  back = λ rest. ap error.Duplicate (key-back names key are is types);
}
error_reads names error.TableFull are is types = record { first = codes "TableFull"; more = []; spells = one (word (codes "TableFull") refl refl); back = λ rest. refl }

pub why_reads : (names : Names) (w : Why) → AreNodeNames names → is_why names w ≡ true → IsWhy w → Reads (why_of names) (why_text names w) w
unfolding why_of is_why
why_reads names (why.Stmt index reason) are is types =
    let e = error_reads names reason are is types.1 in
    record {
      first = codes "stmt";
      more = decimal index ∷ e.first ∷ e.more;
      spells = after_word (codes "stmt") refl refl (beside (one (piece_16 index types.0)) e.spells);
      back = λ rest. ap2 why.Stmt (number_16-decimal index types.0) (e.back rest);
    }
why_reads names why.Tries are is types = record { first = codes "tries"; more = []; spells = one (word (codes "tries") refl refl); back = λ rest. refl }
why_reads names (why.Rolling holder) are is types = record {
  first = codes "rolling";
  more = xid_text holder ∷ [];
  spells = xid_word (codes "rolling") refl refl holder types;
  back = λ rest. ap why.Rolling (xid-back holder types);
}
why_reads names (why.Closed status) are is types = record {
  first = codes "closed";
  more = decimal (code_of status) ∷ [];
  spells = after_word (codes "closed") refl refl (one (status_piece status));
  back = λ rest. ap why.Closed (status-back status);
}
why_reads names why.Late are is types = record { first = codes "late"; more = []; spells = one (word (codes "late") refl refl); back = λ rest. refl }
why_reads names why.Marker are is types = record { first = codes "marker"; more = []; spells = one (word (codes "marker") refl refl); back = λ rest. refl }
why_reads names (why.NoRow index) are is types = record {
  first = codes "norow";
  more = decimal index ∷ [];
  spells = after_word (codes "norow") refl refl (one (piece_16 index types));
  back = λ rest. ap why.NoRow (number_16-decimal index types);
}
why_reads names why.Fence are is types = record { first = codes "fence"; more = []; spells = one (word (codes "fence") refl refl); back = λ rest. refl }
