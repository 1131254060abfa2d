-- Bytes as a text.
use Rattle.std.proofs.Common.{◌≡◌, ℕ, Bool, true, false, List, [], refl}
use Rattle.std.specs.Str.{IsUtf8, is_utf8}
use Rattle.std.proofs.lemmas.Str.{IsUtf8-from_is_utf8, is_utf8-from_IsUtf8}
use Rattle.entry_reader.specs.Parts.{text_from}

pub text_from_text : (t : List ℕ) → IsUtf8 t → text_from t ≡ t
unfolding text_from
text_from_text t h = rw (is_utf8-from_IsUtf8 t h) refl

no_text : (t : List ℕ) (b : Bool) → (IsUtf8 t → ⊥) → is_utf8 t ≡ b → b ≡ false
no_text t true h is = absurd (h (IsUtf8-from_is_utf8 t is))
no_text t false h is = refl

pub text_from_other : (t : List ℕ) → (IsUtf8 t → ⊥) → text_from t ≡ []
unfolding text_from
text_from_other t h = rw (no_text t (is_utf8 t) h refl) refl
