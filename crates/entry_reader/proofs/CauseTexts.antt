-- Causes read back.
use Rattle.std.proofs.Common.{◌≡◌, ◌^◌, ◌<◌, true, false, List, ℕ, [], ◌∷◌, ◌++◌, Some, None, refl, ap, ◌∙◌, append-nil, arith}
use Rattle.std.specs.Prelude.{codes}
use Rattle.std.specs.Fmt.{decimal}
use Rattle.seata_types.specs.declared.ids.Place.{Place}
use Rattle.seata_types.specs.declared.ids.Place.TheVariants as place
use Rattle.history_text.specs.Lines.{cause_text, place_text, name_text}
use Rattle.history_text.specs.declared.entries.Cause.{Cause}
use Rattle.history_text.specs.declared.entries.Cause.TheVariants as cause
use Rattle.history_text.specs.declared.entries.Names.{Names}
use Rattle.entry_reader.specs.Causes.{cause_of, delivery_of, calls_of}
use Rattle.entry_reader.specs.Parts.{number_16, number_32, place_of}
use Rattle.entry_reader.specs.Types.{IsCause}
use Rattle.entry_reader.specs.Words.{is_empty}
use Rattle.scenario_form.specs.Names.{is_node_name}
use Rattle.entry_reader.specs.Writable.{AreNodeNames, is_place, is_cause}
use Rattle.entry_reader.proofs.Spells.{one, word, joined, beside, after_word, decimal_piece}
use Rattle.entry_reader.proofs.Identities.{number-decimal, piece_16, number_16-decimal, piece_32, number_32-decimal}
use Rattle.entry_reader.proofs.NodeNames.{place_piece, place-back, resource_form, manager_form}
use Rattle.entry_reader.proofs.ReadBack.{ReadsLast, ap2, empty_piece, decimal_some}

name_some : (name : List ℕ) → is_node_name name ≡ true → is_empty name ≡ false
unfolding is_node_name
name_some [] h = cc
name_some (c ∷ cs) h = refl

place_some : (names : Names) (p : Place) → AreNodeNames names → is_place names p ≡ true → is_empty (place_text names p) ≡ false
place_some names place.Net are is = refl
place_some names place.Tc are is = refl
place_some names (place.Res n) are is = name_some (name_text (codes "r") names.resources n) (resource_form names n are is)
place_some names (place.Man n) are is = name_some (name_text (codes "m") names.managers n) (manager_form names n are is)

delivered : (names : Names) (stamp from : List ℕ) → is_empty from ≡ false
    → delivery_of names (codes "deliver" ∷ stamp ∷ from ∷ [] ∷ []) ≡ cause.Deliver (number_32 stamp) (place_of names from)
delivered names stamp from some = rw some refl

calls_there : (text : List ℕ) → is_empty text ≡ false → calls_of text ≡ Some (number_32 text)
calls_there text some = rw some refl

wide_32 : (n : ℕ) → n < 2 ^ 32 → n < 2 ^ 64
wide_32 n small = omega arith

pub cause_reads : (names : Names) (c : Cause) → AreNodeNames names → is_cause names c ≡ true → IsCause c → ReadsLast (cause_of names) (cause_text names c) c
unfolding cause_of is_cause
cause_reads names cause.Turn are is h = record { first = codes "turn"; more = []; spells = one (word (codes "turn") refl refl); back = refl }
cause_reads names (cause.Deliver stamp from) are is h = record {
  first = codes "deliver";
  more = decimal stamp ∷ place_text names from ∷ [];
  spells = after_word (codes "deliver") refl refl (beside (one (piece_32 stamp h.0)) (one (place_piece names from are is)));
  back = delivered names (decimal stamp) (place_text names from) (place_some names from are is)
      ∙ ap2 cause.Deliver (number_32-decimal stamp h.0) (place-back names from are is h.1);
}
cause_reads names (cause.Missing stamp) are is h = record {
  first = codes "deliver";
  more = decimal stamp ∷ [];
  spells = after_word (codes "deliver") refl refl (one (piece_32 stamp h));
  back = ap cause.Missing (number_32-decimal stamp h);
}
cause_reads names (cause.Wait ticks) are is h = record {
  first = codes "wait";
  more = decimal ticks ∷ [];
  spells = after_word (codes "wait") refl refl (one (decimal_piece ticks h));
  back = ap cause.Wait (number-decimal ticks h);
}
cause_reads names (cause.Stop calls) are is h = record {
  first = codes "stop";
  more = decimal calls ∷ [];
  spells = after_word (codes "stop") refl refl (one (piece_32 calls h));
  back = ap cause.Stop (number_32-decimal calls h);
}
cause_reads names cause.Crash are is h = record { first = codes "crash"; more = []; spells = one (word (codes "crash") refl refl); back = refl }
cause_reads names (cause.Restart pick None) are is h = record {
  first = codes "restart";
  more = (decimal pick ++ []) ∷ [];
  spells = after_word (codes "restart") refl refl (one (joined (piece_16 pick h.0) empty_piece));
  back = ap (λ t. cause.Restart (number_16 t) None) (append-nil (decimal pick)) ∙ ap (λ n. cause.Restart n None) (number_16-decimal pick h.0);
}
cause_reads names (cause.Restart pick (Some calls)) are is h = record {
  first = codes "restart";
  more = decimal pick ∷ decimal calls ∷ [];
  spells = after_word (codes "restart") refl refl (beside (one (piece_16 pick h.0)) (one (piece_32 calls h.1)));
  back = ap2 cause.Restart (number_16-decimal pick h.0)
      (calls_there (decimal calls) (decimal_some calls (wide_32 calls h.1)) ∙ ap (λ n. Some n) (number_32-decimal calls h.1));
}
cause_reads names (cause.Local number) are is h = record {
  first = codes "local";
  more = decimal number ∷ [];
  spells = after_word (codes "local") refl refl (one (piece_16 number h));
  back = ap cause.Local (number_16-decimal number h);
}
cause_reads names (cause.Outside number) are is h = record {
  first = codes "outside";
  more = decimal number ∷ [];
  spells = after_word (codes "outside") refl refl (one (piece_16 number h));
  back = ap cause.Outside (number_16-decimal number h);
}
